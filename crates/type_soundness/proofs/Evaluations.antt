-- Each expression of a well typed pickle that a mapping evaluates is safely evaluated.
use Rattle.std.proofs.Common.{◌≡◌, ℕ, ◌+◌, List, [], length, Bool, Option, Some, None, refl}
use Rattle.bit_space.specs.declared.order.Order.{Order}
use Rattle.pickle_tree.specs.Tree.{Tree, FormTree, FieldTrees, DeclarationTree}
use Rattle.pickle_types.specs.Types.{Term, ByCount, BySize, PokeType, IntegerOf, OffsetOf, Fields, Parts}
use Rattle.pickle_types.specs.Scopes.{Visible, sees}
use Rattle.pickle_types.specs.Expressions.{Sort, Typed}
use Rattle.pickle_meaning.specs.declared.extent.Extent.{Extent}
use Rattle.pickle_meaning.specs.Values.{Naming, Levels, pushed, top_of}
use Rattle.pickle_meaning.specs.Means.{Elements, no_more, next_element}
use Rattle.type_soundness.specs.Evaluated.{Scope, with_field, Purpose, Truth, Start, Count, Size, Evaluated, for_purpose, NumberEvaluates, number_named, in_digits, DigitsEvaluate, in_number, number_constraint, behind_number, Evaluates, in_named, in_number_read, array_count, array_size, in_element, in_fields, in_alternatives, PartEvaluates, in_part, part_constraint, FieldsEvaluate, field_condition, field_label, in_field, behind_absent, behind_field, AlternativesEvaluate, in_alternative, behind_miss}
use Rattle.type_soundness.specs.MappingLaws.{ScopeFits, Serves, IsSafelyEvaluated}
use Rattle.type_soundness.proofs.Safe.{safe}
use Rattle.type_soundness.proofs.Levels.{unseen_scope, opened_scope, pushed_scope, seen_scope, pushed_length}
use Rattle.type_soundness.proofs.Trees.{HasTree, TruthFits, LabelFits, IsWell, FieldsWell, PartsWell, AlternativesWell, step_in, array_well, struct_well, integral_well, union_well}
use Rattle.type_soundness.proofs.Values.{number_is, value_is, part_is}

module _ (scope : Scope) (seen : List Visible) (count : ℕ) (levels : Levels) (place : ℕ) where
  safely : (purpose : Purpose) (written : Option Tree) (e : Term) (sort : Sort) → HasTree seen count written e sort →
      Serves purpose sort → ScopeFits scope seen count levels →
      IsSafelyEvaluated (for_purpose purpose written e scope levels place)
  safely purpose written e sort h serves fits = record {
    names = h.names;
    seen = seen;
    count = count;
    tree = h.tree;
    written = h.is;
    sort = sort;
    typed = h.typed;
    serves = serves;
    fits = fits;
    safe = safe h.names seen count h.tree e sort levels h.typed fits.fit;
  }

  truth_safe : (written : Option Tree) (e : Term) → TruthFits seen count written (Some e) →
      ScopeFits scope seen count levels → IsSafelyEvaluated (for_purpose Truth written e scope levels place)
  truth_safe written e h fits = safely Truth written e (Typed (IntegerOf h.0)) h.1 Serves.truth fits

  label_safe : (written : Option Tree) (e : Term) → LabelFits seen count written (Some e) →
      ScopeFits scope seen count levels → IsSafelyEvaluated (for_purpose Start written e scope levels place)
  label_safe written e h fits = safely Start written e (Typed (OffsetOf h.0 h.1)) h.2 Serves.start fits

pub elements_scope : {bits : List ℕ} {ty : PokeType} {order : Order} {s : ℕ} {extent : Extent} {i n : ℕ}
    {levels inside : Levels} {p pn k j : ℕ} → Elements bits ty order s extent i levels p n inside pn k j →
    (scope : Scope) (seen : List Visible) (count : ℕ) → ScopeFits scope seen count levels →
    ScopeFits scope seen count inside
elements_scope no_more scope seen count fits = fits
elements_scope (next_element {levels} {v} due m lt es) scope seen count fits =
    elements_scope es scope seen count (pushed_scope scope seen count levels (Some v) fits)

module _ (declarations : List DeclarationTree) where
  mutual
    unfolding IsWell

    number_safe : {form : FormTree} {ty : PokeType} {n : ℕ} {scope : Scope} {levels : Levels} {s : ℕ} {a : Evaluated} →
        NumberEvaluates declarations form ty n scope levels s a →
        (seen : List Visible) (count : ℕ) → IsWell declarations ty form seen count →
        ScopeFits scope seen count levels → IsSafelyEvaluated a
    number_safe (number_named {word} {form} {ty} {levels} e d) seen count w fits =
        number_safe d [] 0 (step_in declarations ty word form seen count e w) (unseen_scope [] levels)
    number_safe (in_digits {reference} {forms} {name} {type} {fields} {scope} {levels} ds) seen count w fits =
        digits_safe ds seen count 0 (integral_well declarations name type fields reference forms seen count w)
        (opened_scope scope seen count levels fits) refl

    digits_safe : {forms : FieldTrees} {fields : Parts} {n left : ℕ} {scope : Scope} {levels : Levels} {s : ℕ}
        {a : Evaluated} → DigitsEvaluate declarations forms fields n left scope levels s a →
        (seen : List Visible) (count at : ℕ) → PartsWell declarations fields forms seen count at →
        ScopeFits scope seen (count + 1) levels → length (top_of levels) ≡ at → IsSafelyEvaluated a
    digits_safe (in_number d) seen count at w fits e = number_safe d seen (count + 1) w.1 fits
    digits_safe (number_constraint {parts} {name} {ty} {e = term} {scope} {levels} {s} {v} m) seen count at w fits e =
        truth_safe (with_field scope name (Some v)) (sees seen count at name ty) (count + 1) (pushed levels (Some v)) s
        parts.constraint term w.2 (seen_scope scope seen count at levels name ty (Some v) e (number_is m) fits)
    digits_safe (behind_number {name} {ty} {scope} {levels} {v} m h ds) seen count at w fits e =
        digits_safe ds (sees seen count at name ty) count (at + 1) w.3
        (seen_scope scope seen count at levels name ty (Some v) e (number_is m) fits)
        (pushed_length levels (Some v) at e)

  mutual
    unfolding IsWell

    pub evaluates_safe : {bits : List ℕ} {form : FormTree} {ty : PokeType} {order : Order} {scope : Scope}
        {levels : Levels} {s : ℕ} {a : Evaluated} → Evaluates declarations bits form ty order scope levels s a →
        (seen : List Visible) (count : ℕ) → IsWell declarations ty form seen count →
        ScopeFits scope seen count levels → IsSafelyEvaluated a
    evaluates_safe (in_named {word} {form} {ty} {levels} e d) seen count w fits =
        evaluates_safe d [] 0 (step_in declarations ty word form seen count e w) (unseen_scope [] levels)
    evaluates_safe (in_number_read le e inside d) seen count w fits = number_safe d seen count w fits
    evaluates_safe (array_count {form} {written} {ty} {e} {scope} {levels} {s} le) seen count w fits =
        let b = (array_well declarations ty (ByCount e) form written seen count w).1 in
        safely scope seen count levels s Count written e (Typed (IntegerOf b.0)) b.1 Serves.count fits
    evaluates_safe (array_size {form} {written} {ty} {e} {scope} {levels} {s} le) seen count w fits =
        let b = (array_well declarations ty (BySize e) form written seen count w).1 in
        safely scope seen count levels s Size written e (Typed (OffsetOf b.0 b.1)) b.2 Serves.size fits
    evaluates_safe (in_element {form} {written} {ty} {bound} {scope} {levels} le b es due d) seen count w fits =
        evaluates_safe d seen (count + 1) (array_well declarations ty bound form written seen count w).0
        (elements_scope es scope seen (count + 1) (opened_scope scope seen count levels fits))
    evaluates_safe (in_fields {forms} {name} {pinned} {fields} {scope} {levels} le fs) seen count w fits =
        fields_safe fs seen count 0 (struct_well declarations name pinned fields forms seen count w)
        (opened_scope scope seen count levels fits) refl
    evaluates_safe (in_alternatives {forms} {name} {alternatives} {scope} {levels} le os) seen count w fits =
        alternatives_safe os seen count (union_well declarations name alternatives forms seen count w)
        (opened_scope scope seen count levels fits) refl

    -- a field or an alternative that is the member of number `at` of its frame
    part_safe : {bits : List ℕ} {form : FormTree} {written : Option Tree} {name : Naming} {ty : PokeType}
        {c : Option Term} {order : Order} {scope : Scope} {levels : Levels} {s : ℕ} {a : Evaluated} →
        PartEvaluates declarations bits form written name ty c order scope levels s a →
        (seen : List Visible) (count at : ℕ) → IsWell declarations ty form seen (count + 1) →
        TruthFits (sees seen count at name ty) (count + 1) written c → ScopeFits scope seen (count + 1) levels →
        length (top_of levels) ≡ at → IsSafelyEvaluated a
    part_safe (in_part d) seen count at w t fits e = evaluates_safe d seen (count + 1) w fits
    part_safe (part_constraint {written} {name} {ty} {e = term} {scope} {levels} {s} {v} m) seen count at w t fits e =
        truth_safe (with_field scope name (Some v)) (sees seen count at name ty) (count + 1) (pushed levels (Some v)) s
        written term t (seen_scope scope seen count at levels name ty (Some v) e (value_is m) fits)

    fields_safe : {bits : List ℕ} {pinned : Bool} {s : ℕ} {forms : FieldTrees} {fields : Fields} {order : Order}
        {scope : Scope} {levels : Levels} {behind : ℕ} {a : Evaluated} →
        FieldsEvaluate declarations bits pinned s forms fields order scope levels behind a →
        (seen : List Visible) (count at : ℕ) → FieldsWell declarations fields forms seen count at →
        ScopeFits scope seen (count + 1) levels →
        length (top_of levels) ≡ at → IsSafelyEvaluated a
    fields_safe (field_condition {parts} {e = term} {scope} {levels} {s}) seen count at w fits e =
        truth_safe scope seen (count + 1) levels s parts.condition term w.2 fits
    fields_safe (field_label {parts} {e = term} {scope} {levels} {s} h) seen count at w fits e =
        label_safe scope seen (count + 1) levels s parts.label term w.1 fits
    fields_safe (in_field h st d) seen count at w fits e = part_safe d seen count at w.0 w.3 fits e
    fields_safe (behind_absent {name} {ty} {scope} {levels} h fs) seen count at w fits e =
        fields_safe fs (sees seen count at name ty) count (at + 1) w.4
        (seen_scope scope seen count at levels name ty None e tt fits) (pushed_length levels None at e)
    fields_safe (behind_field {name} {ty} {scope} {levels} {v} h st m fs) seen count at w fits e =
        fields_safe fs (sees seen count at name ty) count (at + 1) w.4
        (seen_scope scope seen count at levels name ty (Some v) e (part_is m) fits) (pushed_length levels (Some v) at e)

    alternatives_safe : {bits : List ℕ} {forms : FieldTrees} {alternatives : Parts} {order : Order} {scope : Scope}
        {levels : Levels} {s : ℕ} {a : Evaluated} →
        AlternativesEvaluate declarations bits forms alternatives order scope levels s a →
        (seen : List Visible) (count : ℕ) → AlternativesWell declarations alternatives forms seen count →
        ScopeFits scope seen (count + 1) levels → length (top_of levels) ≡ 0 → IsSafelyEvaluated a
    alternatives_safe (in_alternative d) seen count w fits e = part_safe d seen count 0 w.0 w.1 fits e
    alternatives_safe (behind_miss m h os) seen count w fits e = alternatives_safe os seen count w.2 fits e
