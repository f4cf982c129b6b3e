-- Laws of spaces that are cut.
use Rattle.std.proofs.Common.{ℕ, ◌≡◌, ◌+◌, ◌≤◌, List, [], ◌∷◌, Option, Some, None, length, take, drop, min, refl, ap, sym, ◌∙◌, arith}
use Rattle.std.specs.Prelude.{slice_range, option_map}
use Rattle.std.proofs.lemmas.List.{take-take, take_all}
use Rattle.std.proofs.lemmas.Slice.{between_is}
use Rattle.bit_space.specs.SpaceView.{SpaceView, IsWhole, GivesRange, Keeps, honest, unknown}
use Rattle.spool.specs.Window.{cut_at, end_of_window, seen}

range_before : (end at count : ℕ) (all : List ℕ) → at + count ≤ end
    → slice_range all at (at + count) ≡ slice_range (take end all) at (at + count)
range_before end at count all le = between_is all at (at + count)
    ∙ ap (drop at) (sym (take-take (at + count) end all le)) ∙ sym (between_is (take end all) at (at + count))

known_range : (known : Option (List ℕ)) (end at count : ℕ) (part : List ℕ) → at + count ≤ end
    → ((bytes : List ℕ) → known ≡ Some bytes → part ≡ slice_range bytes at (at + count))
    → (bytes : List ℕ) → option_map (take end) known ≡ Some bytes → part ≡ slice_range bytes at (at + count)
known_range None end at count part le gives bytes e = cc
known_range (Some all) end at count part le gives bytes e =
    let same : take end all ≡ bytes = cc in
    gives all refl ∙ range_before end at count all le ∙ ap (λ b. slice_range b at (at + count)) same

-- a range of a space that ends before the cut is one of what is left
pub gives_cut : (end : ℕ) (view : SpaceView) (at count : ℕ) (part : List ℕ) → at + count ≤ min end view.len
    → GivesRange view at count part → GivesRange (cut_at end view) at count part
gives_cut end view at count part le = known_range view.bytes end at count part (omega arith)

known_uncut : (end len : ℕ) (known : Option (List ℕ)) → ((bytes : List ℕ) → known ≡ Some bytes → length bytes ≡ len)
    → len ≤ end → option_map (take end) known ≡ known
known_uncut end len None whole le = refl
known_uncut end len (Some all) whole le = ap Some (take_all end all (omega (arith, whole all refl)))

-- a space that is cut at its end or past it is the whole
pub uncut : (end : ℕ) (view : SpaceView) → IsWhole view → view.len ≤ end → cut_at end view ≡ view
uncut end view whole le =
    let len : min end view.len ≡ view.len = omega arith in
    let bytes = known_uncut end view.len view.bytes whole le in
    ap (λ n. record { len = n; bytes = option_map (take end) view.bytes; failures = view.failures }) len
    ∙ ap (λ b. record { len = view.len; bytes = b; failures = view.failures }) bytes

-- a window is what is seen from its start
pub cut_seen : (count : Option ℕ) (start : ℕ) (view : SpaceView) → IsWhole view
    → cut_at (end_of_window start count view.len) view ≡ seen count start view
cut_seen None start view whole = uncut view.len view whole (omega arith)
cut_seen (Some count) start view whole = refl

-- what is kept of a space is kept of its first bytes
pub keeps_cut : (end : ℕ) (before after : SpaceView) → Keeps before after → Keeps (cut_at end before) (cut_at end after)
keeps_cut end before after keeps = record {
  len = ap (min end) keeps.len;
  bytes = ap (option_map (take end)) keeps.bytes;
  failures = keeps.failures;
}

-- worked out by hand

two_of_three : cut_at 2 (honest (7 ∷ 8 ∷ 9 ∷ [])) ≡ honest (7 ∷ 8 ∷ [])
two_of_three = refl

past_the_end : cut_at 5 (honest (7 ∷ 8 ∷ 9 ∷ [])) ≡ honest (7 ∷ 8 ∷ 9 ∷ [])
past_the_end = refl

none_of_three : cut_at 0 (honest (7 ∷ 8 ∷ 9 ∷ [])) ≡ honest []
none_of_three = refl

failed_twice : cut_at 10 (unknown 100 2) ≡ unknown 10 2
failed_twice = refl

-- bit 17 is in byte 2
from_bit_17 : end_of_window 17 (Some 4) 100 ≡ 6
from_bit_17 = refl

cut_by_the_end : end_of_window 16 (Some 4) 5 ≡ 5
cut_by_the_end = refl

without_a_count : end_of_window 16 None 5 ≡ 5
without_a_count = refl
