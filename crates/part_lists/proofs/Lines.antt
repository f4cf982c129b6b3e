-- The lines of listed parts.
use Rattle.std.proofs.Common.{◌≡◌, ◌<◌, ◌≤◌, ℕ, zero, suc, ◌+◌, ◌-◌, List, [], ◌∷◌, ◌++◌, length, map, drop, get_or, Option, Some, None, refl, sym, ◌∙◌, ap, arith}
use Rattle.std.specs.Prelude.{slice_get}
use Rattle.std.specs.List.{flat_map}
use Rattle.std.proofs.lemmas.List.{append_assoc, append-nil}
use Rattle.std.proofs.lemmas.Option.{slice_get-get_or}
use Rattle.std.proofs.lemmas.Grind.{flat_map-append}
use Rattle.pickle_types.specs.declared.node.Node.{Node}
use Rattle.command_line.specs.declared.answer_form.AnswerForm.{AnswerForm}
use Rattle.value_text.specs.TypeWords.{Known}
use Rattle.type_parts.specs.Members.{Member}
use Rattle.type_parts.specs.declared.member.Standing.{Standing}
use Rattle.part_lists.specs.Steps.{ListedStep}
use Rattle.part_lists.specs.Listed.{Part, Next, behind, itself, parts_behind, parts_of, steps_at, to_member, to_members}
use Rattle.part_lists.specs.ListText.{line_text, lines_text, lines_within, within}

module _ (form : AnswerForm) (types : Known) where
  -- the lines of parts of a part, by the steps to it and one more
  lines_behind : (before : List ListedStep) (step : ListedStep) (parts : List Part) →
      lines_within form types before (map (behind step) parts) ≡ lines_within form types (before ++ step ∷ []) parts
  lines_behind before step [] = refl
  lines_behind before step (part ∷ parts) =
      ap (λ steps. line_text form types (record { steps = steps; node = part.node })
      ++ lines_within form types before (map (behind step) parts))
      (sym (append_assoc before (step ∷ []) part.steps))
      ∙ ap (λ s. line_text form types (record { steps = (before ++ step ∷ []) ++ part.steps; node = part.node }) ++ s)
      (lines_behind before step parts)

  -- those of the first step from a type, and of those after it
  pub next_lines_more : (parts : ℕ → List Part) (before : List ListedStep) (next : Next) (rest : List Next) →
      lines_within form types before (parts_behind parts (next ∷ rest))
      ≡ lines_within form types (before ++ next.step ∷ []) (parts next.node)
      ++ lines_within form types before (parts_behind parts rest)
  next_lines_more parts before next rest =
      flat_map-append (λ part. line_text form types (within before part)) (map (behind next.step) (parts next.node))
      (parts_behind parts rest)
      ∙ ap (λ s. s ++ lines_within form types before (parts_behind parts rest))
      (lines_behind before next.step (parts next.node))

  -- the line of a part, and those of the parts below it
  own_line : (before : List ListedStep) (node : ℕ) →
      line_text form types (within before (itself node)) ≡ line_text form types (record { steps = before; node = node })
  own_line before node = ap (λ steps. line_text form types (record { steps = steps; node = node })) (append-nil before)

  pub first_line : (nodes : List Node) (before : List ListedStep) (node levels : ℕ) → levels ≡ 0 →
      lines_within form types before (parts_of nodes levels node)
      ≡ line_text form types (record { steps = before; node = node })
  unfolding parts_of
  first_line nodes before node zero none =
      append-nil (line_text form types (within before (itself node))) ∙ own_line before node
  first_line nodes before node (suc levels) none = absurd (omega (arith, none))

  pub more_lines : (nodes : List Node) (before : List ListedStep) (node levels : ℕ) → 0 < levels →
      lines_within form types before (parts_of nodes levels node)
      ≡ line_text form types (record { steps = before; node = node })
      ++ lines_within form types before (parts_behind (parts_of nodes (levels - 1)) (steps_at (slice_get nodes node)))
  unfolding parts_of
  more_lines nodes before node zero some = absurd (omega (arith, some))
  more_lines nodes before node (suc levels) some =
      let fewer : levels ≡ suc levels - 1 = omega arith in
      ap (λ s. s ++ lines_within form types before
      (parts_behind (parts_of nodes levels) (steps_at (slice_get nodes node)))) (own_line before node)
      ∙ ap (λ k. line_text form types (record { steps = before; node = node }) ++ lines_within form types before
      (parts_behind (parts_of nodes k) (steps_at (slice_get nodes node)))) fewer

  -- the lines of all parts
  pub all_lines : (parts : List Part) → lines_within form types [] parts ≡ lines_text form types parts
  all_lines [] = refl
  all_lines (part ∷ parts) = ap (λ s. line_text form types part ++ s) (all_lines parts)

-- the steps from a number on
pub next_from : (nexts : List Next) (number : ℕ) (next : Next) → Some next ≡ slice_get nexts number →
    drop number nexts ≡ next ∷ drop (number + 1) nexts
next_from [] number next is = cc
next_from (first ∷ rest) zero next is = cc
next_from (first ∷ rest) (suc number) next is =
    let one_more : suc (number + 1) ≡ suc number + 1 = omega arith in
    next_from rest number next is ∙ ap (λ k. next ∷ drop k (first ∷ rest)) one_more

-- there are no more
pub no_next : {A : Type 0} (nexts : List Next) (number : ℕ) → None ≡ slice_get nexts number → number < length nexts → A
no_next [] number is lt = absurd (omega (arith, lt))
no_next (first ∷ rest) zero is lt = absurd (none_some is)
  where
    none_some : None ≡ Some first → ⊥
    none_some e = cc
no_next (first ∷ rest) (suc number) is lt = no_next rest number is (omega (arith, lt))

-- the node at a place
pub node_there : (nodes : List Node) (at : ℕ) (node : Node) → at < length nodes → node ≡ get_or nodes at node →
    slice_get nodes at ≡ Some node
node_there nodes at node lt is = slice_get-get_or nodes at node lt ∙ ap Some (sym is)

-- the step to the member of a number, and that there is none
pub member_next : {A : Type 0} (f : A → Member ℕ) (standing : Standing) (xs : List A) (first number at : ℕ) (x : A) →
    at ≡ first + number → number < length xs → x ≡ get_or xs number x →
    slice_get (to_members standing (map f xs) first) number ≡ Some (to_member standing at (f x))
member_next f standing [] first number at x sum lt is = absurd (omega (arith, lt))
member_next f standing (y ∷ ys) first zero at x sum lt is =
    let same : first ≡ at = omega (arith, sum) in
    ap (λ z. Some (to_member standing first (f z))) (sym is) ∙ ap (λ n. Some (to_member standing n (f x))) same
member_next f standing (y ∷ ys) first (suc number) at x sum lt is =
    member_next f standing ys (first + 1) number at x (omega (arith, sum)) (omega (arith, lt)) is

pub no_member_next : {A : Type 0} (f : A → Member ℕ) (standing : Standing) (xs : List A) (first number : ℕ) →
    length xs ≤ number → slice_get (to_members standing (map f xs) first) number ≡ None
no_member_next f standing [] first number le = refl
no_member_next f standing (x ∷ xs) first zero le = absurd (omega (arith, le))
no_member_next f standing (x ∷ xs) first (suc number) le =
    no_member_next f standing xs (first + 1) number (omega (arith, le))

pub member_count : {A : Type 0} (f : A → Member ℕ) (standing : Standing) (xs : List A) (first : ℕ) →
    length (to_members standing (map f xs) first) ≡ length xs
member_count f standing [] first = refl
member_count f standing (x ∷ xs) first = ap suc (member_count f standing xs (first + 1))
