-- What calls on a space leave of it, one after another.
use Rattle.std.proofs.Common.{ℕ, ◌-◌, ◌^◌, ◌≤◌, inl, inr, ◌∙◌, arith}
use Rattle.std.proofs.lemmas.Bool.{cases_lt}
use Rattle.bit_space.specs.SpaceView.{SpaceView, Keeps, HasRisen}

pub keeps_all : {a b c : SpaceView} → Keeps a b → Keeps b c → Keeps a c
keeps_all k h =
    record { len = h.len ∙ k.len; bytes = h.bytes ∙ k.bytes; failures = omega (arith, k.failures, h.failures) }

-- a count that rose in a later call
pub risen_later : (a b c : ℕ) → a ≤ b → b ≤ c → HasRisen b c → HasRisen a c
risen_later a b c h g r l = elim (cases_lt b (2 ^ 64 - 1)) [
  | inl below ↦ omega (arith, r below)
  | inr last ↦ omega arith
]

-- a count that rose in an earlier call
pub risen_before : (a b c : ℕ) → HasRisen a b → b ≤ c → HasRisen a c
risen_before a b c r h l = omega (arith, r l)
