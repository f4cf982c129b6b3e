-- A space that is cut at a length, and where it is cut.
use Rattle.std.specs.Prelude.{ℕ, ◌≡◌, ◌+◌, ◌/◌, ◌^◌, ◌<◌, List, [], length, take, min, Option, None, Some, option_map, unwrap_or, MatchOption}
use Rattle.std.proofs.Common.{ap, sym, subst, refl, ◌∙◌}
use Rattle.std.proofs.Math.Nat.{min-le_right, lt_of_le_of_lt}
use Rattle.std.proofs.lemmas.List.{length-take}
use Rattle.bit_space.specs.SpaceView.{SpaceView, IsWhole}

-- what is seen of a space that is cut at byte `end`: its first bytes, and the same failures
abbrev pub cut_at : (end : ℕ) → SpaceView → SpaceView
cut_at end view = record {
  len = min end view.len;
  bytes = option_map (take end) view.bytes;
  failures = view.failures;
}

-- The byte at which a window ends in a space of `len` bytes, if it has `count` bytes from the byte on that bit `start`
-- is in. Where that is past the end of the space, and without a count, it ends there.
abbrev pub end_of_window : (start : ℕ) → (count : Option ℕ) → (len : ℕ) → ℕ
end_of_window start None len = len
end_of_window start (Some count) len = min (start / 8 + count) len

-- What is seen of a space by a reader who begins at bit `start`: all of it or, with a count, its first bytes up to the
-- window's end.
abbrev pub seen : (count : Option ℕ) → (start : ℕ) → SpaceView → SpaceView
seen None start view = view
seen (Some count) start view = cut_at (end_of_window start (Some count) view.len) view

-- a space that is cut is no longer than the whole
pub cut_short : (end : ℕ) (view : SpaceView) → view.len < 2 ^ 60 → (cut_at end view).len < 2 ^ 60
cut_short end view short = lt_of_le_of_lt (min-le_right end view.len) short

whole_bytes : (end len : ℕ) (known : Option (List ℕ)) → ((bytes : List ℕ) → known ≡ Some bytes → length bytes ≡ len)
    → (bytes : List ℕ) → option_map (take end) known ≡ Some bytes → length bytes ≡ min end len
whole_bytes end len None whole bytes e =
    absurd (subst (λ (o : Option (List ℕ)). MatchOption o (Unit {0}) (λ _. ⊥)) e tt)
whole_bytes end len (Some all) whole bytes e =
    let first : length bytes ≡ length (take end all) = ap (λ (o : Option (List ℕ)). length (unwrap_or o [])) (sym e) in
    first ∙ length-take end all ∙ ap (min end) (whole all refl)

-- where the bytes are known, their number is the length, also of a space that is cut
pub cut_whole : (end : ℕ) (view : SpaceView) → IsWhole view → IsWhole (cut_at end view)
cut_whole end view whole = whole_bytes end view.len view.bytes whole
