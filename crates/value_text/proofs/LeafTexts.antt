-- Laws of the lines of parts that have no parts.
use Rattle.std.proofs.Common.{◌≡◌, ℕ, suc, add-one, ◌+◌, ◌-◌, ◌<◌, ◌≤◌, List, [], ◌++◌, Option, Some, None, true, false, refl, sym, ◌∙◌, ap, arith}
use Rattle.std.specs.Option.{option_map, is_some}
use Rattle.text_output.specs.declared.style.Style.{Style}
use Rattle.pickle_meaning.specs.Values.{Value, Mapped, Members, label_of, members_of, member_count, member_at}
use Rattle.value_text.specs.PathText.{step_text}
use Rattle.value_text.specs.LinesText.{any_present, is_parted}
use Rattle.value_text.specs.CutArrays.{limit_of, is_past, kept_count}
use Rattle.value_text.specs.StyledLeaves.{styled_leaf, styled_leaves, styled_branches, start_or, start_from, more_leaf}
use Rattle.value_text.proofs.MemberTexts.{members_from, with_member, from_at, from_end}
use Rattle.value_text.proofs.Cuts.{past_kept, count_from}

-- the lines of a value are those of its parts, or its own
pub leaves_parted : (style : Style) (steps : List ℕ) (value : Value)
    → is_parted (label_of value) (members_of value) ≡ true
    → styled_leaves style steps value
    ≡ styled_branches style (limit_of style (label_of value)) steps value 0 (members_of value)
leaves_parted style steps (Mapped label start end all) h = rw h refl

pub leaves_alone : (style : Style) (steps : List ℕ) (value : Value) →
    is_parted (label_of value) (members_of value) ≡ false →
    styled_leaves style steps value ≡ styled_leaf style steps value
leaves_alone style steps (Mapped label start end all) h = rw h refl

-- whether there is a member from a place on, by what is known of the one there
pub present_by : {T : Type 0} (view : T → Value) (all : Members) (i : ℕ) (told : Option T) → i < member_count all
    → option_map view told ≡ member_at all i → is_some told ≡ true
    → any_present (members_from i all) ≡ true
present_by view all i None lt is there = cc
present_by view all i (Some part) lt is there =
    ap any_present (from_at all i lt ∙ ap (λ o. with_member o (members_from (i + 1) all)) (sym is))

pub absent_by : {T : Type 0} (view : T → Value) (all : Members) (i : ℕ) (told : Option T) → i < member_count all
    → option_map view told ≡ member_at all i → is_some told ≡ false
    → any_present (members_from i all) ≡ any_present (members_from (i + 1) all)
absent_by view all i (Some part) lt is there = cc
absent_by view all i None lt is there =
    ap any_present (from_at all i lt ∙ ap (λ o. with_member o (members_from (i + 1) all)) (sym is))

pub none_from : (all : Members) (i : ℕ) → member_count all ≤ i → any_present (members_from i all) ≡ false
none_from all i h = ap any_present (from_end all i h)

-- a part that isn't past the limit, and one that is
branch_before : (style : Style) (limit : Option ℕ) (steps : List ℕ) (owner : Value) (i : ℕ) (value : Value)
    (rest : Members) → is_past limit i ≡ false
    → styled_branches style limit steps owner i (with_member (Some value) rest) ≡ styled_leaves style
    (steps ++ step_text (label_of owner) i) value ++ styled_branches style limit steps owner (suc i) rest
branch_before style limit steps owner i value rest before = rw before refl

absent_before : (style : Style) (limit : Option ℕ) (steps : List ℕ) (owner : Value) (i : ℕ) (rest : Members)
    → is_past limit i ≡ false
    → styled_branches style limit steps owner i (with_member None rest)
    ≡ styled_branches style limit steps owner (suc i) rest
absent_before style limit steps owner i rest before = rw before refl

branch_past : (style : Style) (limit : Option ℕ) (steps : List ℕ) (owner : Value) (i : ℕ) (member : Option Value)
    (rest : Members) → is_past limit i ≡ true
    → styled_branches style limit steps owner i (with_member member rest)
    ≡ more_leaf steps owner i (start_or owner member) (suc (member_count rest))
branch_past style limit steps owner i None rest past = rw past refl
branch_past style limit steps owner i (Some value) rest past = rw past refl

module _ (style : Style) (limit : Option ℕ) (steps : List ℕ) (owner : Value) (i : ℕ) where
  -- a part that is there
  pub branches_present : (step : List ℕ) (value : Value) → i < member_count (members_of owner) → is_past limit i ≡ false
      → Some value ≡ member_at (members_of owner) i
      → step ≡ step_text (label_of owner) i
      → styled_branches style limit steps owner i (members_from i (members_of owner))
      ≡ styled_leaves style (steps ++ step) value
      ++ styled_branches style limit steps owner (i + 1) (members_from (i + 1) (members_of owner))
  branches_present step value lt before is same =
      ap (styled_branches style limit steps owner i)
      (from_at (members_of owner) i lt ∙ ap (λ o. with_member o (members_from (i + 1) (members_of owner))) (sym is))
      ∙ branch_before style limit steps owner i value (members_from (i + 1) (members_of owner)) before
      ∙ ap (λ n. styled_leaves style (steps ++ step_text (label_of owner) i) value
      ++ styled_branches style limit steps owner n (members_from (i + 1) (members_of owner))) (sym (add-one i))
      ∙ ap (λ s. styled_leaves style (steps ++ s) value
      ++ styled_branches style limit steps owner (i + 1) (members_from (i + 1) (members_of owner))) (sym same)

  pub branches_absent : i < member_count (members_of owner) → is_past limit i ≡ false
      → None ≡ member_at (members_of owner) i
      → styled_branches style limit steps owner i (members_from i (members_of owner))
      ≡ styled_branches style limit steps owner (i + 1) (members_from (i + 1) (members_of owner))
  branches_absent lt before is =
      ap (styled_branches style limit steps owner i)
      (from_at (members_of owner) i lt ∙ ap (λ o. with_member o (members_from (i + 1) (members_of owner))) (sym is))
      ∙ absent_before style limit steps owner i (members_from (i + 1) (members_of owner)) before
      ∙ ap (λ n. styled_branches style limit steps owner n (members_from (i + 1) (members_of owner))) (sym (add-one i))

  -- the end of those that are printed
  pub branches_left : i ≡ kept_count limit (member_count (members_of owner)) → i < member_count (members_of owner)
      → styled_branches style limit steps owner i (members_from i (members_of owner))
      ≡ more_leaf steps owner i (start_from owner i) (member_count (members_of owner) - i)
  branches_left e lt =
      let left : suc (member_count (members_from (i + 1) (members_of owner))) ≡ member_count (members_of owner) - i =
      omega (arith, count_from (i + 1) (members_of owner), lt) in
      ap (styled_branches style limit steps owner i) (from_at (members_of owner) i lt)
      ∙ branch_past style limit steps owner i (member_at (members_of owner) i) (members_from (i + 1) (members_of owner))
      (past_kept limit (member_count (members_of owner)) i e lt)
      ∙ ap (more_leaf steps owner i (start_from owner i)) left

  pub branches_end : member_count (members_of owner) ≤ i →
      styled_branches style limit steps owner i (members_from i (members_of owner)) ≡ []
  branches_end h = ap (styled_branches style limit steps owner i) (from_end (members_of owner) i h)
