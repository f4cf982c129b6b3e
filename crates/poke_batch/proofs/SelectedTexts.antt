-- Laws of the parts that selections lead to, one after the other.
use Rattle.std.proofs.Common.{◌≡◌, ◌∙◌, ℕ, suc, ◌+◌, ◌-◌, ◌<◌, ◌≤◌, Bool, true, false, List, [], ◌∷◌, ◌++◌, Option, Some, None, refl, sym, ap, arith, append_assoc}
use Rattle.std.specs.Prelude.{◌&&◌, if◌then◌else◌}
use Rattle.pickle_types.specs.declared.node.Node.{Node}
use Rattle.pickle_meaning.specs.Values.{members_of, member_at}
use Rattle.text_output.specs.declared.mode.Mode.{Mode}
use Rattle.text_output.specs.declared.style.Style.{Style}
use Rattle.value_text.specs.ShowParts.{SightOf}
use Rattle.command_line.specs.declared.pattern.PatternStep.{PatternStep}
use Rattle.command_line.specs.declared.selection.Column.{Column}
use Rattle.value_text.specs.declared.typed.Typed.{Typed}
use Rattle.value_text.specs.TypedValue.{nodes_in, char_node_in, types_in, node_in, mapped_in, part_node_in}
use Rattle.poke_batch.specs.Selected.{Part, LineOf, OfRow, OfWholeRow, part_in, at_member, at_places, parts_through, each_text, lines_of, pattern_lines, row_text, all_of, is_there, has_pattern}
use Rattle.poke_batch.specs.TypedLines.{is_whole_row, typed_row_cell, typed_lines, typed_pattern, typed_members, has_typed, has_typed_members}

pub each_append : {A : Type 0} (text : A → List ℕ) (a b : List A) →
    each_text text (a ++ b) ≡ each_text text a ++ each_text text b
each_append text [] b = refl
each_append text (x ∷ a) b =
    ap (λ t. text x ++ t) (each_append text a b) ∙ sym (append_assoc (text x) (each_text text a) (each_text text b))

and_assoc : (a b c : Bool) → a && (b && c) ≡ (a && b) && c
and_assoc true b c = refl
and_assoc false b c = refl

pub all_append : {A : Type 0} (test : A → Bool) (a b : List A) → all_of test (a ++ b) ≡ all_of test a && all_of test b
all_append test [] b = refl
all_append test (x ∷ a) b =
    ap (λ t. test x && t) (all_append test a b) ∙ and_assoc (test x) (all_of test a) (all_of test b)

module _ (nodes : List Node) {A : Type 0} (follow : Part → List A) (part : Part) where
  places_more : (end place : ℕ) → place < end
      → at_places nodes follow part (end - place) place ≡ at_member nodes follow part place
      (member_at (members_of part.value) place) ++ at_places nodes follow part (end - (place + 1)) (place + 1)
  places_more end place lt =
      let e : end - place ≡ suc (end - (place + 1)) = omega (arith, lt) in
      ap (λ n. at_places nodes follow part n place) e

  places_end : (end place : ℕ) → end ≤ place → at_places nodes follow part (end - place) place ≡ []
  places_end end place le =
      let e : end - place ≡ 0 = omega (arith, le) in
      ap (λ n. at_places nodes follow part n place) e

-- ---- texts

module _ (sight : Option SightOf) (style : Style) (mode : Mode) (line : LineOf) (steps : List PatternStep) where
  -- a part by another's types
  same_pattern : (part other : Typed) (of : Option ℕ) → types_in other ≡ types_in part → node_in other ≡ of
      → typed_pattern sight style mode line other steps ≡ pattern_lines (nodes_in (types_in part))
      (char_node_in (types_in part)) sight style mode line (record { node = of; value = mapped_in other }) steps
  same_pattern part other of same is =
      ap (λ types. pattern_lines (nodes_in types) (char_node_in types) sight style mode line (part_in other) steps) same
      ∙ ap (λ n. pattern_lines (nodes_in (types_in part)) (char_node_in (types_in part)) sight style mode line
      (record { node = n; value = mapped_in other }) steps) is

  module _ (part : Typed) where
    -- a member that is there, and the others
    pub member_more : (end place : ℕ) (member : Typed) → place < end
        → Some (mapped_in member) ≡ member_at (members_of (mapped_in part)) place
        → types_in member ≡ types_in part → node_in member ≡ part_node_in part place
        → typed_members sight style mode line part steps (end - place) place
        ≡ typed_pattern sight style mode line member
        steps ++ typed_members sight style mode line part steps (end - (place + 1)) (place + 1)
    member_more end place member lt is same node =
        let nodes = nodes_in (types_in part) in
        let text = lines_of nodes (char_node_in (types_in part)) sight style mode line in
        let rest = at_places nodes (parts_through nodes steps) (part_in part) (end - (place + 1)) (place + 1) in
        ap (each_text text) (places_more nodes (parts_through nodes steps) (part_in part) end place lt)
        ∙ each_append text (at_member nodes (parts_through nodes steps) (part_in part) place
        (member_at (members_of (mapped_in part)) place)) rest
        ∙ ap (λ o. each_text text (at_member nodes (parts_through nodes steps) (part_in part) place o)
        ++ each_text text rest) (sym is)
        ∙ ap (λ t. t ++ each_text text rest) (sym (same_pattern part member (part_node_in part place) same node))

    -- an absent member
    pub member_none : (end place : ℕ) → place < end → None ≡ member_at (members_of (mapped_in part)) place
        → typed_members sight style mode line part steps (end - place) place
        ≡ typed_members sight style mode line part steps (end - (place + 1)) (place + 1)
    member_none end place lt is =
        let nodes = nodes_in (types_in part) in
        let text = lines_of nodes (char_node_in (types_in part)) sight style mode line in
        let rest = at_places nodes (parts_through nodes steps) (part_in part) (end - (place + 1)) (place + 1) in
        ap (each_text text) (places_more nodes (parts_through nodes steps) (part_in part) end place lt)
        ∙ ap (λ o. each_text text (at_member nodes (parts_through nodes steps) (part_in part) place o ++ rest)) (sym is)

    pub members_end : (end place : ℕ) → end ≤ place →
        typed_members sight style mode line part steps (end - place) place ≡ []
    members_end end place le =
        ap (each_text (lines_of (nodes_in (types_in part)) (char_node_in (types_in part)) sight style mode line))
        (places_end (nodes_in (types_in part)) (parts_through (nodes_in (types_in part)) steps)
        (part_in part) end place le)

-- the columns of a row are its lines
pub row_lines : (sight : Option SightOf) (style : Style) (mode : Mode) (columns : List Column) (row : Option Typed) →
    row_text mode (typed_row_cell style mode row) columns ≡ typed_lines sight style mode (OfRow columns) row
row_lines sight style mode columns None = refl
row_lines sight style mode columns (Some row) = refl

-- and those of a row that has them all
pub whole_row_lines : (sight : Option SightOf) (style : Style) (mode : Mode) (columns : List Column)
    (row : Option Typed)
    → (if is_whole_row row columns then row_text mode (typed_row_cell style mode row) columns else [])
    ≡ typed_lines sight style mode (OfWholeRow columns) row
whole_row_lines sight style mode columns None = refl
whole_row_lines sight style mode columns (Some row) = refl

-- ---- presence

module _ (line : LineOf) (steps : List PatternStep) where
  same_presence : (part other : Typed) (of : Option ℕ) → types_in other ≡ types_in part → node_in other ≡ of
      → has_typed line other steps
      ≡ has_pattern (nodes_in (types_in part)) line (record { node = of; value = mapped_in other }) steps
  same_presence part other of same is =
      ap (λ types. has_pattern (nodes_in types) line (part_in other) steps) same
      ∙ ap (λ n. has_pattern (nodes_in (types_in part)) line (record { node = n; value = mapped_in other }) steps) is

  module _ (part : Typed) where
    pub has_member_more : (end place : ℕ) (member : Typed) → place < end
        → Some (mapped_in member) ≡ member_at (members_of (mapped_in part)) place
        → types_in member ≡ types_in part → node_in member ≡ part_node_in part place
        → has_typed_members line part steps (end - place) place ≡ has_typed line member steps
        && has_typed_members line part steps (end - (place + 1)) (place + 1)
    has_member_more end place member lt is same node =
        let nodes = nodes_in (types_in part) in
        let test = is_there nodes line in
        let rest = at_places nodes (parts_through nodes steps) (part_in part) (end - (place + 1)) (place + 1) in
        ap (all_of test) (places_more nodes (parts_through nodes steps) (part_in part) end place lt)
        ∙ all_append test (at_member nodes (parts_through nodes steps) (part_in part) place
        (member_at (members_of (mapped_in part)) place)) rest
        ∙ ap (λ o. all_of test (at_member nodes (parts_through nodes steps) (part_in part) place o) && all_of test rest)
        (sym is)
        ∙ ap (λ t. t && all_of test rest) (sym (same_presence part member (part_node_in part place) same node))

    pub has_member_none : (end place : ℕ) → place < end → None ≡ member_at (members_of (mapped_in part)) place
        → has_typed_members line part steps (end - place) place
        ≡ has_typed_members line part steps (end - (place + 1)) (place + 1)
    has_member_none end place lt is =
        let nodes = nodes_in (types_in part) in
        let rest = at_places nodes (parts_through nodes steps) (part_in part) (end - (place + 1)) (place + 1) in
        ap (all_of (is_there nodes line)) (places_more nodes (parts_through nodes steps) (part_in part) end place lt)
        ∙ ap
        (λ o. all_of (is_there nodes line) (at_member nodes (parts_through nodes steps) (part_in part) place o ++ rest))
        (sym is)

    pub has_members_end : (end place : ℕ) → end ≤ place → has_typed_members line part steps (end - place) place ≡ true
    has_members_end end place le =
        ap (all_of (is_there (nodes_in (types_in part)) line)) (places_end (nodes_in (types_in part))
        (parts_through (nodes_in (types_in part)) steps) (part_in part) end place le)
