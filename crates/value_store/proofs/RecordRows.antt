-- Arrays of two packed structs: each of a uint<8> and an int<16>, and each of numbers at two depths.
use Rattle.std.proofs.Common.{◌≡◌, ℕ, zero, suc, ◌+◌, ◌*◌, ◌<◌, ◌≤◌, ◌^◌, List, [], ◌∷◌, Some, None, true, false, pos, negsuc, refl, arith}
use Rattle.std.specs.Prelude.{slice_get}
use Rattle.pickle_meaning.specs.Arithmetic.{with_sign}
use Rattle.pickle_meaning.specs.Values.{Value, Mapped, NoMembers, MemberThen, IntegerLabel, StructLabel, ArrayLabel}
use Rattle.value_store.specs.declared.store.slots.Node.{Node}
use Rattle.value_store.specs.declared.store.slots.Shape.TheVariants.{Integer, Array, Struct, Records}
use Rattle.value_store.specs.declared.store.slots.Place.TheVariants as place
use Rattle.value_store.specs.Lent.{place_value, place_packed, place_links}
use Rattle.value_store.specs.Packed.{bytes_for, bytes_number}
use Rattle.value_store.specs.Slots.{Slots, part, trees, value_at, number_bits, IsNumber, IsColumn, IsBranch, NumberPart, BranchPart, AreTemplateParts, NoParts, PartThen, IsTemplate}

-- the template with its numbers at the bits 0 and 8, whose bytes begin at 0 and 1
abbrev nodes : List Node
nodes =
    record { start = 0; content = 0; shape = Integer 8 false }
    ∷ record { start = 8; content = 1; shape = Integer 16 true }
    ∷ record { start = 0; content = 0; shape = Struct 5 }
    ∷ record { start = 0; content = 0; shape = Records 3 24 } ∷ []

abbrev slots : Slots
slots = record {
  nodes = nodes;
  families = record { end = 2; size = 24 } ∷ [];
  links = Some 0 ∷ Some 1 ∷ [];
  pending = Some 3 ∷ [];
  texts = 6 ∷ [];
  bytes = 7 ∷ 1 ∷ 2 ∷ 9 ∷ 254 ∷ 255 ∷ [];
}

abbrev first : ℕ → Value
first start = Mapped (IntegerLabel (pos 7) (record { width = 8; signed = false })) start (start + 8) NoMembers

abbrev second : ℕ → Value
second start = Mapped (IntegerLabel (negsuc 1) (record { width = 16; signed = true })) start (start + 16) NoMembers

array : value_at [] slots 3 ≡ Mapped ArrayLabel 0 48 (
    MemberThen (Mapped (StructLabel None []) 0 24 (
    MemberThen (first 0)
    (MemberThen (Mapped (IntegerLabel (pos 513) (record { width = 16; signed = true })) 8 24 NoMembers) NoMembers)))
    (MemberThen (Mapped (StructLabel None []) 24 48 (
    MemberThen (Mapped (IntegerLabel (pos 9) (record { width = 8; signed = false })) 24 32 NoMembers)
    (MemberThen (second 32) NoMembers))) NoMembers))
unfolding value_at trees with_sign
array = refl

field : place_value [] slots (place.Part 3 1 1) ≡ second 32
unfolding value_at trees with_sign
field = refl

parts : place_packed slots (place.Node 3) ∷ place_packed slots (place.Part 3 1 2) ∷ [] ≡ 2 ∷ 0 ∷ []
parts = refl

links : place_links slots (place.Part 3 1 2) ≡ Some 0 ∷ Some 1 ∷ []
links = refl

-- a template with a uint<8>, a struct of two uint<4>, and an array of two uint<8>
abbrev deep_nodes : List Node
deep_nodes =
    record { start = 0; content = 0; shape = Integer 8 false }
    ∷ record { start = 8; content = 1; shape = Integer 4 false }
    ∷ record { start = 12; content = 2; shape = Integer 4 false }
    ∷ record { start = 8; content = 0; shape = Struct 6 }
    ∷ record { start = 16; content = 3; shape = Integer 8 false }
    ∷ record { start = 24; content = 4; shape = Integer 8 false }
    ∷ record { start = 16; content = 1; shape = Array }
    ∷ record { start = 0; content = 2; shape = Struct 5 }
    ∷ record { start = 0; content = 0; shape = Records 5 32 } ∷ []

abbrev deep : Slots
deep = record {
  nodes = deep_nodes;
  families = record { end = 2; size = 8 } ∷ record { end = 4; size = 16 } ∷ record { end = 7; size = 32 } ∷ [];
  links = Some 1 ∷ Some 2 ∷ Some 4 ∷ Some 5 ∷ Some 0 ∷ Some 3 ∷ Some 6 ∷ [];
  pending = Some 8 ∷ [];
  texts = 10 ∷ [];
  bytes = 7 ∷ 1 ∷ 2 ∷ 3 ∷ 4 ∷ 9 ∷ 5 ∷ 6 ∷ 8 ∷ 10 ∷ [];
}

abbrev number : (width start n : ℕ) → Value
number width start n =
    Mapped (IntegerLabel (pos n) (record { width = width; signed = false })) start (start + width) NoMembers

abbrev halves : (start a b : ℕ) → Value
halves start a b = Mapped (StructLabel None []) start
    (start + 8) (MemberThen (number 4 start a) (MemberThen (number 4 (start + 4) b) NoMembers))

abbrev pair : (start a b : ℕ) → Value
pair start a b =
    Mapped ArrayLabel start (start + 16) (MemberThen (number 8 start a) (MemberThen (number 8 (start + 8) b) NoMembers))

abbrev whole : (start a b c d e : ℕ) → Value
whole start a b c d e =
    Mapped (StructLabel None []) start (start + 32)
    (MemberThen (number 8 start a) (MemberThen (halves (start + 8) b c) (MemberThen (pair (start + 16) d e) NoMembers)))

deep_array : value_at [] deep 8
    ≡ Mapped ArrayLabel 0 64 (MemberThen (whole 0 7 1 2 3 4) (MemberThen (whole 32 9 5 6 8 10) NoMembers))
unfolding value_at trees with_sign
deep_array = refl

deep_struct : place_value [] deep (place.Part 8 1 3) ≡ halves 40 5 6
unfolding value_at trees with_sign
deep_struct = refl

deep_number : place_value [] deep (place.Part 8 1 2) ≡ number 4 44 6
unfolding value_at trees with_sign
deep_number = refl

deep_elements : place_value [] deep (place.Part 8 0 6) ≡ pair 16 3 4
unfolding value_at trees with_sign
deep_elements = refl

-- what holds of both structs
both : (P : ℕ → Type 0) → P 0 → P 1 → (i : ℕ) → i < 2 → P i
both P here there zero h = here
both P here there (suc zero) h = there
both P here there (suc (suc i)) h = absurd (omega (arith, h))

deep_column : (j : ℕ) (n : Node) → slice_get deep_nodes j ≡ Some n → IsNumber n.shape →
    n.content + bytes_for (number_bits n.shape) ≤ 5 → n.start + number_bits n.shape ≤ 32 →
    bytes_number (part (5 * 0 + n.content) (bytes_for (number_bits n.shape)) deep.bytes) < 2 ^ number_bits n.shape →
    bytes_number (part (5 * 1 + n.content) (bytes_for (number_bits n.shape)) deep.bytes) < 2 ^ number_bits n.shape →
    IsColumn deep 32 5 0 deep.bytes j
deep_column j n found is fits within here there = record {
  node = n;
  found = found;
  number = is;
  fits = fits;
  within = within;
  below = both (λ i. bytes_number (part (5 * i + n.content) (bytes_for (number_bits n.shape)) deep.bytes)
      < 2 ^ number_bits n.shape) here there;
}

abbrev deep_number_at : (width start place : ℕ) → Node
deep_number_at width start place = record { start = start; content = place; shape = Integer width false }

deep_parts : AreTemplateParts deep 32 5 0 deep.bytes (Some 0 ∷ Some 3 ∷ Some 6 ∷ [])
deep_parts =
    let small : (1 ≤ 4) × (4 ≤ 64) = (omega arith, omega arith) in
    let byte : (1 ≤ 8) × (8 ≤ 64) = (omega arith, omega arith) in
    let a = deep_column 0 (deep_number_at 8 0 0) refl byte (omega arith) (omega arith) (omega arith) (omega arith) in
    let b = deep_column 1 (deep_number_at 4 8 1) refl small (omega arith) (omega arith) (omega arith) (omega arith) in
    let c = deep_column 2 (deep_number_at 4 12 2) refl small (omega arith) (omega arith) (omega arith) (omega arith) in
    let d = deep_column 4 (deep_number_at 8 16 3) refl byte (omega arith) (omega arith) (omega arith) (omega arith) in
    let e = deep_column 5 (deep_number_at 8 24 4) refl byte (omega arith) (omega arith) (omega arith) (omega arith) in
    let inner : IsBranch deep 32 0 3 = record {
      node = record { start = 8; content = 0; shape = Struct 6 };
      found = refl;
      composite = tt;
      family = (omega arith, record { ordered = omega arith; within = omega arith });
      within = omega arith;
    } in
    let array : IsBranch deep 32 0 6 = record {
      node = record { start = 16; content = 1; shape = Array };
      found = refl;
      composite = tt;
      family = (omega arith, record { ordered = omega arith; within = omega arith });
      within = omega arith;
    } in
    PartThen (NumberPart a) (
    PartThen (BranchPart inner (PartThen (NumberPart b) (PartThen (NumberPart c) NoParts)))
    (PartThen (BranchPart array (PartThen (NumberPart d) (PartThen (NumberPart e) NoParts))) NoParts))

-- the deep struct is a template
deep_template : IsTemplate deep 8 32 5 0 deep.bytes
deep_template =
    let node : Node = record { start = 0; content = 2; shape = Struct 5 } in
    let root : IsBranch deep 32 0 7 = record {
      node = node;
      found = refl;
      composite = tt;
      family = (omega arith, record { ordered = omega arith; within = omega arith });
      within = omega arith;
    } in
    record {
      some = omega arith;
      node = node;
      found = refl;
      type = 5;
      shape = refl;
      begins = refl;
      sized = refl;
      few = omega arith;
      part = BranchPart root deep_parts;
    }
