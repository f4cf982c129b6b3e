-- Structs of numbers that an array packs, by the fields of a table, and their bytes.
use Rattle.std.proofs.Common.{◌≡◌, ℕ, ◌+◌, ◌<◌, ◌≤◌, Bool, false, List, [], ◌∷◌, ◌++◌, Option, Some, Result, Ok, Err, length, take, get_or, refl, sym, ap, ◌∙◌, arith}
use Rattle.std.specs.Prelude.{IsOk, OnOk, Vec, ◌↔◌}
use Rattle.std.specs.declared.alloc.Global.{Global}
use Rattle.std.proofs.lemmas.Bool.{false≢true}
use Rattle.std.specs.Int.{to_le_bytes, w64}
use Rattle.pickle_types.specs.Types.{PokeType, IntegerOf, OffsetOf, StringOf, ArrayOf, StructOf, IntegralOf, UnionOf}
use Rattle.pickle_types.specs.declared.name.Name.{Name}
use Rattle.pickle_types.specs.declared.node.Field.{Field}
use Rattle.pickle_types.specs.declared.node.Node.{Node}
use Rattle.pickle_types.specs.declared.node.Shape.TheVariants as shape
use Rattle.pickle_types.specs.Table.{type_of, open_fields, optional_term, IsTable}
use Rattle.pickle_meaning.specs.Means.{number_type, width_in}
use Rattle.value_store.specs.Names.{title_at}
use Rattle.value_store.specs.Packed.{bytes_for, number_bytes}
use Rattle.value_store.specs.PackedStructs.{struct_bytes}
use Rattle.value_store.specs.Slots.{number_bits}
use Rattle.value_store.proofs.Packed.{le_bytes-take, length-number_bytes}
use Rattle.mapping_plans.specs.Avoids.{IsScalar}
use Rattle.mapping_plans.specs.Rows.{Records, scalar_shape, scalar_width, column_width, column_widths, stride_of, row_of}
use Rattle.mapping_plans.proofs.StructRows.{column_is, both_are, columns_are, packed_struct_is}
use Rattle.pickle_map.specs.Columns.{shapes_of}
use Rattle.pickle_map.specs.Row.{IsRecordType}
use Rattle.pickle_map.proofs.Shapes.{struct_opened, names_as, below_as, sound_as}

-- the bytes of a number after others
pub appended : {E : Type 0} (r : Result (Unit {0}) E) (old new bytes : List ℕ) (count w n : ℕ) →
    bytes ≡ to_le_bytes w64 n → w ≤ 64 → count + bytes_for w ≤ 512 →
    (IsOk r ↔ (count + length (take (bytes_for w) bytes) ≤ 512)) → OnOk r (new ≡ old ++ take (bytes_for w) bytes) →
    new ≡ old ++ number_bytes (bytes_for w) n
appended (Ok u) old new bytes count w n is most room fits h =
    h ∙ ap (λ bs. old ++ bs) (ap (take (bytes_for w)) is ∙ le_bytes-take (bytes_for w) n (omega (arith, most)))
appended (Err e) old new bytes count w n is most room fits h =
    let own : take (bytes_for w) bytes ≡ number_bytes (bytes_for w) n =
    ap (take (bytes_for w)) is ∙ le_bytes-take (bytes_for w) n (omega (arith, most)) in
    absurd (false≢true (fits.1 (omega (arith, room, ap length own, length-number_bytes (bytes_for w) n))))

-- the width of a number is that of its shape
pub bits_are : (ty : PokeType) (w : ℕ) → scalar_width ty ≡ Some w → number_bits (scalar_shape ty) ≡ w
bits_are (IntegerOf type) w h = cc
bits_are (OffsetOf type unit) w h = cc
bits_are StringOf w h = absurd cc
bits_are (ArrayOf element bound) w h = absurd cc
bits_are (StructOf name pinned _) w h = absurd cc
bits_are (IntegralOf name type _) w h = absurd cc
bits_are (UnionOf name alternatives) w h = absurd cc

pub width_is_bits : (ty : PokeType) → IsScalar ty → width_in (number_type ty) ≡ number_bits (scalar_shape ty)
width_is_bits (IntegerOf type) h = refl
width_is_bits (OffsetOf type unit) h = refl
width_is_bits StringOf h = absurd h
width_is_bits (ArrayOf element bound) h = absurd h
width_is_bits (StructOf name pinned _) h = absurd h
width_is_bits (IntegralOf name type _) h = absurd h
width_is_bits (UnionOf name alternatives) h = absurd h

pub stride_is : (types : ℕ → PokeType) (fs : List Field) (widths : List ℕ) →
    column_widths (open_fields types fs) ≡ Some widths → stride_of widths ≡ struct_bytes (shapes_of types fs)
stride_is types [] widths h = let none : widths ≡ [] = cc in ap stride_of none
stride_is types (f ∷ fs) widths h =
    let b = both_are
    (column_width (types f.node) (optional_term f.constraint) (optional_term f.label) (optional_term f.condition))
    (column_widths (open_fields types fs)) widths h in
    let first = column_is (types f.node) (optional_term f.constraint) (optional_term f.label)
    (optional_term f.condition) b.width b.first in
    let bits = bits_are (types f.node) b.width first.width in
    let rest = stride_is types fs b.rest b.others in
    ap stride_of b.are ∙ ap (λ w. bytes_for w + stride_of b.rest) (sym bits)
    ∙ ap (λ n. bytes_for (number_bits (scalar_shape (types f.node))) + n) rest

module _ (nodes : List Node) (table : IsTable nodes) (at : ℕ) (inside : at < length nodes) (other : Node) where
  pub record_type : (name : Option Name) (pinned : Bool) (fields : Vec Field Global) (now : List Field)
      (widths : List ℕ) → (get_or nodes at other).shape ≡ shape.Struct name pinned fields → now ≡ fields.items →
      row_of (type_of nodes at) ≡ Records widths → IsRecordType nodes at now
  record_type name pinned fields now widths is e row =
      let opened = struct_opened nodes table at inside other name pinned fields now is e in
      let type = StructOf (title_at nodes at) pinned (open_fields (type_of nodes) now) in
      let own : row_of type ≡ Records widths = sym (ap row_of opened) ∙ row in
      let p = packed_struct_is type widths own in
      let plain : pinned ≡ false = let same = p.is in cc in
      let same : p.fields ≡ open_fields (type_of nodes) now = let same = p.is in cc in
      let wide = rw same at p.wide in
      record {
        is = opened ∙ ap (λ b. StructOf (title_at nodes at) b (open_fields (type_of nodes) now)) plain;
        named = names_as nodes table at inside other _ is ∙ rw e refl;
        below = rw e (below_as nodes table at inside other _ is);
        sound = rw e (sound_as nodes table at inside other _ is);
        columns = columns_are (open_fields (type_of nodes) now) widths wide;
        widths = widths;
        row = row;
        stride = stride_is (type_of nodes) now widths wide;
        some = p.some;
        few = p.few;
      }
