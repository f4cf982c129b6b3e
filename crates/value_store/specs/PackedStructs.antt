-- Arrays of packed structs, by the numbers of the structs.
use Rattle.std.specs.Prelude.{◌≡◌, ℕ, ◌+◌, ◌*◌, ◌^◌, ◌<◌, ◌≤◌, List, [], ◌∷◌, ◌++◌, Option, Some, length}
use Rattle.value_store.specs.declared.store.slots.Shape.{Shape}
use Rattle.pickle_meaning.specs.Values.{ArrayLabel, Value, Mapped, Levels, outer_of, pushed, gathered}
use Rattle.value_store.specs.Closed.{struct_label}
use Rattle.value_store.specs.Exceeding.{Exceeds}
use Rattle.value_store.specs.Gathering.{last_value, IsDraft, IsGathering}
use Rattle.value_store.specs.Lent.{numbered}
use Rattle.value_store.specs.Names.{Names}
use Rattle.value_store.specs.Packed.{bytes_for, number_bytes}
use Rattle.value_store.specs.Slots.{Slots, Held, levels, number_bits, number_value, IsNumber}

-- how many bits a struct of numbers of these shapes takes, one after the other
abbrev pub struct_bits : List Shape → ℕ
struct_bits [] = 0
struct_bits (c ∷ cs) = number_bits c + struct_bits cs

-- how many bytes it takes
abbrev pub struct_bytes : List Shape → ℕ
struct_bytes [] = 0
struct_bytes (c ∷ cs) = bytes_for (number_bits c) + struct_bytes cs

-- the numbers of the template, whose bytes begin at `at`
abbrev pub drafted : List Shape → (begin at : ℕ) → List (Option Value)
drafted [] begin at = []
drafted (c ∷ cs) begin at =
    Some (number_value c begin at) ∷ drafted cs (begin + number_bits c) (at + bytes_for (number_bits c))

-- numbers of these digits
abbrev pub fields : List Shape → (begin : ℕ) → List ℕ → List (Option Value)
fields [] begin ds = []
fields (c ∷ cs) begin [] = []
fields (c ∷ cs) begin (d ∷ ds) = Some (numbered c begin d) ∷ fields cs (begin + number_bits c) ds

-- their bytes
abbrev pub struct_row : List Shape → List ℕ → List ℕ
struct_row [] ds = []
struct_row (c ∷ cs) [] = []
struct_row (c ∷ cs) (d ∷ ds) = number_bytes (bytes_for (number_bits c)) d ++ struct_row cs ds

abbrev pub struct_rows : List Shape → List (List ℕ) → List ℕ
struct_rows cs [] = []
struct_rows cs (ds ∷ rows) = struct_row cs ds ++ struct_rows cs rows

-- there is a number for each shape, and it has no more digits than that
abbrev pub AreDigits : List Shape → List ℕ → Type 0
AreDigits [] [] = Unit {0}
AreDigits [] (d ∷ ds) = ⊥
AreDigits (c ∷ cs) [] = ⊥
AreDigits (c ∷ cs) (d ∷ ds) = (d < 2 ^ number_bits c) × AreDigits cs ds

abbrev pub AreRows : List Shape → List (List ℕ) → Type 0
AreRows cs [] = Unit {0}
AreRows cs (ds ∷ rows) = AreDigits cs ds × AreRows cs rows

-- each shape is that of a number
abbrev pub AreNumberShapes : List Shape → Type 0
AreNumberShapes [] = Unit {0}
AreNumberShapes (c ∷ cs) = IsNumber c × AreNumberShapes cs

-- the struct of the type at an index with these numbers
abbrev pub struct_of : Names → (of : ℕ) → List Shape → (start : ℕ) → List ℕ → Value
struct_of names of cs start ds =
    Mapped (struct_label names of) start (start + struct_bits cs) (gathered (fields cs start ds))

abbrev pub structs_of : Names → (of : ℕ) → List Shape → (start : ℕ) → List (List ℕ) → List (Option Value)
structs_of names of cs start [] = []
structs_of names of cs start (ds ∷ rows) =
    Some (struct_of names of cs start ds) ∷ structs_of names of cs (start + struct_bits cs) rows

abbrev pub structs_array : Names → (of : ℕ) → List Shape → (start : ℕ) → List (List ℕ) → Value
structs_array names of cs start rows =
    Mapped ArrayLabel start (start + struct_bits cs * length rows) (gathered (structs_of names of cs start rows))

-- the innermost open value has just numbers of these shapes, for the template of structs of `size` bits
pub record IsDrafting (names : Names) (h : Held) (size : ℕ) (cs : List Shape) (start : ℕ)
    (outer : Levels) : Type 0 where
  pub draft : IsDraft h size start (struct_bytes cs)
  pub is : levels names h ≡ drafted cs start 0 ∷ outer
  pub shapes : AreNumberShapes cs

-- it has one more
abbrev pub DraftsMore : (before after : Held) → Shape → (begin at : ℕ) → Type 0
DraftsMore before after shape begin at = (names : Names) (size : ℕ) (cs : List Shape) (start : ℕ) (outer : Levels) →
    IsDrafting names before size cs start outer →
    begin ≡ start + struct_bits cs → at ≡ struct_bytes cs → struct_bits cs + number_bits shape ≤ size →
    IsDrafting names after size (cs ++ shape ∷ []) start outer

-- the innermost open value is an array of packed structs with these numbers
pub record IsPackingStructs (names : Names) (h : Held) (of : ℕ) (cs : List Shape) (start : ℕ) (rows : List (List ℕ))
    (outer : Levels) : Type 0 where
  pub before : Slots
  pub gathering : IsGathering h before (struct_bits cs) (struct_bytes cs) start (struct_rows cs rows)
  pub template : last_value names before
      ≡ Mapped (struct_label names of) start (start + struct_bits cs) (gathered (drafted cs start 0))
  pub inside : outer_of (levels names h) ≡ outer
  pub shapes : AreNumberShapes cs
  pub digits : AreRows cs rows

-- the numbers of the innermost frame became the template of such an array, which has no structs yet
abbrev pub BeginsStructs : (before after : Held) → (of size stride start : ℕ) → Type 0
BeginsStructs before after of size stride start =
    (names : Names) (cs : List Shape) (outer : Levels) → levels names before ≡ drafted cs start 0 ∷ outer →
    AreNumberShapes cs → size ≡ struct_bits cs → stride ≡ struct_bytes cs →
    IsPackingStructs names after of cs start [] outer

-- the array doesn't fit in the slots that the store was made with
abbrev pub CannotBegin : Held → (start : ℕ) → Type 0
CannotBegin before start = (names : Names) →
    Exceeds before.room ((Some (structs_array names 0 [] start []) ∷ []) ∷ outer_of (levels names before))

-- the open array may have one more struct, of these bytes
pub record TakesStruct (h : Held) (more : List ℕ) : Type 0 where
  pub names : Names
  pub type : ℕ
  pub shapes : List Shape
  pub start : ℕ
  pub rows : List (List ℕ)
  pub outer : Levels
  pub packing : IsPackingStructs names h type shapes start rows outer
  pub digits : List ℕ
  pub are : AreDigits shapes digits
  pub short : start + struct_bits shapes * (length rows + 1) < 2 ^ 64
  pub is : more ≡ struct_row shapes digits

-- the array has one more struct
abbrev pub PacksStruct : (before after : Held) → (more : List ℕ) → Type 0
PacksStruct before after more =
    (names : Names) (of : ℕ) (cs : List Shape) (start : ℕ) (rows : List (List ℕ)) (outer : Levels) (ds : List ℕ) →
    IsPackingStructs names before of cs start rows outer → AreDigits cs ds →
    start + struct_bits cs * (length rows + 1) < 2 ^ 64 → more ≡ struct_row cs ds →
    IsPackingStructs names after of cs start (rows ++ ds ∷ []) outer

-- the struct doesn't fit in the slots that the store was made with
abbrev pub CannotPackStruct : Held → Type 0
CannotPackStruct before =
    (names : Names) (of : ℕ) (cs : List Shape) (start : ℕ) (rows : List (List ℕ)) (outer : Levels) (ds : List ℕ) →
    IsPackingStructs names before of cs start rows outer →
    Exceeds before.room (structs_of names of cs start (rows ++ ds ∷ []) ∷ outer)

-- the array is one more member of the value around it
abbrev pub ClosesStructs : (before after : Held) → Type 0
ClosesStructs before after =
    (names : Names) (of : ℕ) (cs : List Shape) (start : ℕ) (rows : List (List ℕ)) (outer : Levels) →
    IsPackingStructs names before of cs start rows outer →
    levels names after ≡ pushed outer (Some (structs_array names of cs start rows))
