-- The whole bytes of a part.
use Rattle.std.proofs.Common.{◌≡◌, ◌≢◌, ◌∙◌, ◌≤◌, ◌%◌, ℕ, Bool, true, false, refl, ap}
use Rattle.std.proofs.lemmas.Bool.{eq-eqb, ne_eqb}
use Rattle.std.specs.Prelude.{◌&&◌, nat_eq}
use Rattle.pickle_meaning.specs.Values.{Mapped, Value, end_of, start_of}
use Rattle.raw_parts.specs.Places.{are_whole_bytes}
use Rattle.raw_parts.specs.Within.{IsWithin}

-- a value that is in a file with its parts
pub within_ends : (m : ℕ) (value : Value) → IsWithin m value → (start_of value ≤ end_of value) × (end_of value ≤ m)
within_ends m (Mapped label start end _) h = (h.0, h.1)

-- ---- whether a part begins and ends at a byte

and_false : (b : Bool) → (b && false) ≡ false
and_false true = refl
and_false false = refl

pub whole_bytes_are : (part : Value) → start_of part % 8 ≡ 0 → end_of part % 8 ≡ 0 → are_whole_bytes part ≡ true
whole_bytes_are part starts ends =
    ap (λ (b : Bool). b && nat_eq (end_of part % 8) 0) (eq-eqb (start_of part % 8) 0 starts)
    ∙ eq-eqb (end_of part % 8) 0 ends

pub begins_inside : (part : Value) → start_of part % 8 ≢ 0 → are_whole_bytes part ≡ false
begins_inside part inside =
    ap (λ (b : Bool). b && nat_eq (end_of part % 8) 0) (ne_eqb (start_of part % 8) 0 inside)

pub ends_inside : (part : Value) → end_of part % 8 ≢ 0 → are_whole_bytes part ≡ false
ends_inside part inside =
    ap (λ (b : Bool). nat_eq (start_of part % 8) 0 && b) (ne_eqb (end_of part % 8) 0 inside)
    ∙ and_false (nat_eq (start_of part % 8) 0)
