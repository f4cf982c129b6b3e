-- A well typed expression has a derivation, with an outcome of its sort.
use Rattle.std.proofs.Common.{◌≡◌, ℕ, ◌+◌, ◌-◌, ◌<◌, Bool, true, false, List, Option, Some, None, Result, Ok, Err, refl, sym, ap, ◌∙◌, subst, arith, inl, inr}
use Rattle.std.specs.Prelude.{slice_get, nat_eq}
use Rattle.std.proofs.lemmas.Bool.{eqb-true, eqb-false}
use Rattle.pickle_tree.specs.declared.tree.Attribute.TheVariants.{Length, Size}
use Rattle.pickle_tree.specs.declared.tree.Infix.{Infix}
use Rattle.pickle_tree.specs.Tree.{Tree}
use Rattle.pickle_types.specs.declared.integer.IntegerType.{IntegerType}
use Rattle.pickle_types.specs.Types.{Bound, Term, Between, Choice, Index, Select, AttributeOf, Name, PokeType, IntegerOf, OffsetOf, ArrayOf}
use Rattle.pickle_types.specs.Scopes.{Visible}
use Rattle.pickle_types.specs.Names.{Names}
use Rattle.pickle_types.specs.Expressions.{Sort, Typed}
use Rattle.pickle_types.specs.Operators.{whole}
use Rattle.pickle_types.specs.WellTyped.{InfixRule, ChoiceRule, HasField, Converts, IsPath, HasSort}
use Rattle.pickle_meaning.specs.declared.faults.MapFaultKind.{MapFaultKind}
use Rattle.pickle_meaning.specs.declared.faults.MapFaultKind.TheVariants as fault
use Rattle.pickle_meaning.specs.Values.{Naming, Label, IntegerLabel, StructLabel, UnionLabel, Value, Mapped, Members, member_count, member_at, Levels, level_at}
use Rattle.pickle_meaning.specs.Arithmetic.{Computed, truth}
use Rattle.pickle_meaning.specs.Evaluation.{Operand, AtPath, Plain, operand_label, truth_of, settled, as_common, Evaluation, on_outcome, and_operand, present, leads_to, selected, element, evaluation}
use Rattle.type_soundness.specs.Sorts.{IsOfType, IsAlternative, IsOfSort, MayFault, IsOutcome, IsMember, Holds, LevelsFit}
use Rattle.type_soundness.specs.Derivations.{computed, side, Applies, First, Yields}
use Rattle.type_soundness.specs.Derivations as rule
use Rattle.type_soundness.specs.Laws.{IsSafe}
use Rattle.type_soundness.proofs.Exact.{exact}
use Rattle.type_soundness.proofs.Results.{IsResult, proper, result_outcome, integer_label, infix_is, prefix_is, to_integer_is, to_offset_is, in_unit_is, first_side_is, second_side_is, settled_is, truth_of_integer}
use Rattle.type_soundness.proofs.Members.{resolved_holds, array_form, struct_form, integral_form, union_form, element_is, IsThere, field_there, part_there, IsAlone, taken_there}

module _ (levels : Levels) where
  -- a derivation with an outcome of a sort
  record Derived (e : Term) (s : Sort) : Type 0 where
    outcome : Result Operand MapFaultKind
    steps : ℕ
    yields : Yields levels e outcome steps
    typed : IsOutcome s outcome

  -- what is derived where an operand has a value
  abbrev OnValue : Term → Sort → Term → Sort → Type 0
  OnValue e s t r = (x : Operand) (k : ℕ) → Yields levels e (Ok x) k → IsOfSort s x → Derived t r

  -- and where it has a fault
  abbrev OnFault : Term → Term → Sort → Type 0
  OnFault e t r = (kind : MapFaultKind) (k : ℕ) → Yields levels e (Err kind) k → MayFault kind → Derived t r

  cases_of : {e t : Term} {r : Sort} (s : Sort) (o : Result Operand MapFaultKind) (k : ℕ) → Yields levels e o k →
      IsOutcome s o → OnFault e t r → OnValue e s t r → Derived t r
  cases_of s (Ok x) k y h f g = g x k y h
  cases_of s (Err kind) k y h f g = f kind k y h

  with_operand : {e t : Term} {s r : Sort} → Derived e s → OnFault e t r → OnValue e s t r → Derived t r
  with_operand {s} d f g = cases_of s d.outcome d.steps d.yields d.typed f g

  with_first : {e t : Term} {s r : Sort} → First t e → Derived e s → OnValue e s t r → Derived t r
  with_first first d g = with_operand d
      (λ kind k y h. record { outcome = Err kind; steps = 1 + k; yields = rule.first_fault first y; typed = h }) g

  -- ---- operators

  applied : {e t : Term} {f : Label → Computed} {s : Sort} {r : PokeType} → Applies t e f → Derived e s →
      ((x : Operand) → IsOfSort s x → IsResult r (f (operand_label x))) → Derived t (Typed r)
  applied {r} a d h = with_first (rule.applied a) d (λ x k y is.
      record {
        outcome = _;
        steps = _;
        yields = rule.applied a y (proper r _ (h x is));
        typed = result_outcome r _ (h x is);
      })

  right_side : {op : Infix} {a b : Term} {s t : Sort} {r : PokeType} (o : Option Bool) (x : Operand) (k : ℕ) →
      Yields levels a (Ok x) k → settled op (truth_of (operand_label x)) ≡ o →
      IsOfSort s x → InfixRule op s t r → Derived b t → Derived (Between op a b) (Typed r)
  right_side {r} (Some u) x k y e is h d = record {
    outcome = _;
    steps = _;
    yields = rule.left_settles y e;
    typed = result_outcome r (truth u) (settled_is h _ u e);
  }
  right_side {r} None x k y e is h d = with_operand d
      (λ kind j g m. record { outcome = Err kind; steps = _; yields = rule.right_fault y e g; typed = m })
      (λ z j g m. record {
        outcome = _;
        steps = _;
        yields = rule.both_sides y e g (proper r _ (infix_is h x z is m));
        typed = result_outcome r _ (infix_is h x z is m);
      })

  between : {op : Infix} {a b : Term} {s t : Sort} {r : PokeType} → InfixRule op s t r → Derived a s → Derived b t →
      Derived (Between op a b) (Typed r)
  between h d g = with_first rule.between d (λ x k y is. right_side _ x k y refl is h g)

  one_side : {common : Option IntegerType} {c x y : Term} {s r : PokeType} {t : Operand} {k : ℕ} (u : Bool) →
      Yields levels c (Ok t) k → truth_of (operand_label t) ≡ Ok u →
      Derived (side u x y) (Typed s) →
      ((z : Operand) → IsOfSort (Typed s) z → IsResult r (as_common common (operand_label z))) →
      Derived (Choice common c x y) (Typed r)
  one_side {r} u y e d h = with_operand d
      (λ kind j g m. record { outcome = Err kind; steps = _; yields = rule.side_fault y e g; typed = m })
      (λ z j g m. record {
        outcome = _;
        steps = _;
        yields = rule.choice y e g (proper r _ (h z m));
        typed = result_outcome r _ (h z m);
      })

  each_side : {common : Option IntegerType} {c x y : Term} {s t r : PokeType} {z : Operand} {k : ℕ} (u : Bool) →
      ChoiceRule s t common r → Yields levels c (Ok z) k → truth_of (operand_label z) ≡ Ok u →
      Derived x (Typed s) → Derived y (Typed t) → Derived (Choice common c x y) (Typed r)
  each_side {x} {y} true h c e d g = one_side {x = x} {y = y} true c e d (first_side_is h)
  each_side {x} {y} false h c e d g = one_side {x = x} {y = y} false c e g (second_side_is h)

  choice : {common : Option IntegerType} {c x y : Term} {w : IntegerType} {s t r : PokeType} → ChoiceRule s t common r →
      Derived c (Typed (IntegerOf w)) → Derived x (Typed s) → Derived y (Typed t) →
      Derived (Choice common c x y) (Typed r)
  choice {w} h d f g =
      with_first rule.choice d (λ z k y is. let u = truth_of_integer w z is in each_side u.0 h y u.1 f g)

  -- ---- names and paths

  yields_as : {e : Term} {p q : Operand} {k : ℕ} → p ≡ q → Yields levels e (Ok p) k → Yields levels e (Ok q) k
  yields_as {e} {k} same y = subst (λ x. Yields levels e (Ok x) k) same y

  named_member : {level place : ℕ} {type : PokeType} (member : Option Value) →
      slice_get (level_at levels level) place ≡ Some member → IsMember type member →
      Derived (Name level place) (Typed type)
  named_member (Some v) e h = record { outcome = Ok (AtPath v); steps = 1; yields = rule.name e; typed = h }
  named_member None e h = record { outcome = Err fault.Absent; steps = 1; yields = rule.absent_name e; typed = tt }

  named : {count : ℕ} {field : Visible} → Holds count levels field →
      Derived (Name (count - 1 - field.level) field.place) (Typed field.type)
  named h = named_member h.member h.kept h.typed

  indexed : {e i : Term} {element : PokeType} {bound : Bound} {w : IntegerType} →
      Derived e (Typed (ArrayOf element bound)) → Derived i (Typed (IntegerOf w)) → Derived (Index e i) (Typed element)
  indexed {element} {bound} {w} d g = with_first rule.index d (λ p k y is.
      let form = array_form element bound p is in
      let at = yields_as form.3 y in
      with_operand g
      (λ kind j h m. record { outcome = Err kind; steps = _; yields = rule.index_fault at h; typed = m })
      (λ x j h m.
      let n = integer_label x m in
      elim (element_is (IsOfType element) form.2 n.0 form.4) [
        | inl there ↦ record {
          outcome = Ok (AtPath there.1);
          steps = _;
          yields = rule.element at h (n.1 ∙ ap (λ z. IntegerLabel z w) there.2) there.3;
          typed = there.4;
        }
        | inr outside ↦
            record { outcome = Err fault.Index; steps = _; yields = rule.outside at h n.1 outside; typed = tt }
      ]))

  -- ---- fields

  struct_member : {e : Term} {title : Naming} {names : List Naming} {s end place k : ℕ} {ms : Members} {type : PokeType}
      (o : Option Value) →
      Yields levels e (Ok (AtPath (Mapped (StructLabel title names) s end ms))) k → place < member_count ms →
      member_at ms place ≡ o → IsMember type o → Derived (Select e place) (Typed type)
  struct_member (Some v) y inside at h =
      record { outcome = Ok (AtPath v); steps = _; yields = rule.field y at; typed = h }
  struct_member None y inside at h =
      record { outcome = Err fault.Absent; steps = _; yields = rule.absent_field y inside at; typed = tt }

  there_selected : {e : Term} {title : Naming} {names : List Naming} {s end place k : ℕ}
      {ms : Members} {type : PokeType} →
      Yields levels e (Ok (AtPath (Mapped (StructLabel title names) s end ms))) k → IsThere ms 0 place type →
      Derived (Select e place) (Typed type)
  there_selected {place} {ms} {type} y h =
      let e = h.same in
      let i = h.inside in
      let same : h.index ≡ place = omega (arith, e) in
      let typed = subst (λ n. IsMember type (member_at ms n)) same h.typed in
      struct_member (member_at ms place) y (omega (arith, e, i)) refl typed

  union_member : {e : Term} {title taken : Naming} {s end index place k : ℕ} {ms : Members} {type : PokeType}
      (b : Bool) → nat_eq index place ≡ b →
      Yields levels e (Ok (AtPath (Mapped (UnionLabel title index taken) s end ms))) k →
      (index ≡ place → IsAlone type ms) → Derived (Select e place) (Typed type)
  union_member {title} {taken} {s} {end} {index} {place} {ms} true same y h =
      let e = eqb-true index place same in
      let alone = h e in
      record {
        outcome = Ok (AtPath alone.0);
        steps = _;
        yields =
            rule.alternative (yields_as (ap (λ i. AtPath (Mapped (UnionLabel title i taken) s end ms)) e) y) alone.1;
        typed = alone.2;
      }
  union_member {index} {place} false other y h =
      record {
        outcome = Err fault.Absent;
        steps = _;
        yields = rule.other_alternative y (eqb-false index place other);
        typed = tt;
      }

  field_selected : {e : Term} {word : List ℕ} {n : ℕ} {t r : PokeType} → HasField t word n r → Derived e (Typed t) →
      Derived (Select e n) (Typed r)
  field_selected {word} {n} {r} (HasField.of_struct {title} {pinned} {fs} found) d =
      with_first rule.select d (λ p k y is.
      let form = struct_form title pinned fs p is in
      there_selected (yields_as form.3 y) (field_there (n, r) 0 word fs form.2 found form.4))
  field_selected {word} {n} {r} (HasField.of_integral {title} {number} {ps} found) d =
      with_first rule.select d (λ p k y is.
      let form = integral_form title number ps p is in
      there_selected (yields_as form.3 y) (part_there (n, r) 0 word ps form.2 found form.4))
  field_selected {word} {n} {r} (HasField.of_union {title} {ps} found) d = with_first rule.select d (λ p k y is.
      let form = union_form title ps p is in
      union_member (nat_eq form.3 n) refl (yields_as form.5 y) (λ same.
      taken_there (n, r) 0 word form.4 ps form.2 found (subst (λ i. IsAlternative ps 0 i form.4 form.2) same form.6)))

  -- ---- attributes

  counted : {e : Term} {element : PokeType} {bound : Bound} → Derived e (Typed (ArrayOf element bound)) →
      Derived (AttributeOf Length e) (Typed (IntegerOf (whole 64 false)))
  counted {element} {bound} d = with_first rule.attribute d (λ p k y is.
      let form = array_form element bound p is in
      record { outcome = _; steps = _; yields = rule.count (yields_as form.3 y); typed = (_, refl) })

  -- the value at a path is no computed value
  abbrev OnPath : Result Operand MapFaultKind → Type 0
  OnPath (Ok (AtPath v)) = Unit {0}
  OnPath (Ok (Plain label)) = ⊥
  OnPath (Err kind) = Unit {0}

  led_on : (r : Result Value MapFaultKind) → OnPath (leads_to r).outcome
  led_on (Ok v) = tt
  led_on (Err kind) = tt

  then_on : (o : Result Operand MapFaultKind) (k : ℕ) (f : Operand → Evaluation) →
      ((x : Operand) → OnPath (f x).outcome) → OnPath (on_outcome o k f).outcome
  then_on (Ok x) k f h = h x
  then_on (Err kind) k f h = tt

  lead_on : (a : Evaluation) (g : Operand → Result Value MapFaultKind) →
      OnPath (and_operand a (λ p. leads_to (g p))).outcome
  unfolding and_operand
  lead_on a g = then_on a.outcome a.steps (λ p. leads_to (g p)) (λ x. led_on (g x))

  leads_on : (a b : Evaluation) (g : Operand → Operand → Result Value MapFaultKind) →
      OnPath (and_operand a (λ p. and_operand b (λ n. leads_to (g p n)))).outcome
  unfolding and_operand
  leads_on a b g = then_on a.outcome a.steps (λ p. and_operand b (λ n. leads_to (g p n))) (λ x. lead_on b (g x))

  path_on : {names : Names} {seen : List Visible} {count : ℕ} {t : Tree} {e : Term} {s : Sort} → IsPath t →
      HasSort names seen count t e s → OnPath (evaluation e levels).outcome
  unfolding evaluation
  path_on IsPath.name (HasSort.name v found) = led_on _
  path_on (IsPath.field p) (HasSort.select {x} {n} t h found) =
      lead_on (evaluation x levels) (λ p. present (selected p n))
  path_on (IsPath.element p) (HasSort.index {x} {y} bound w h g) =
      leads_on (evaluation x levels) (evaluation y levels) (λ p n. element p (operand_label n))
  path_on (IsPath.bracket p) (HasSort.bracket h) = path_on p h

  sized : {names : Names} {seen : List Visible} {count : ℕ} {t : Tree} {e : Term} {type : PokeType} → IsPath t →
      HasSort names seen count t e (Typed type) → Derived e (Typed type) →
      Derived (AttributeOf Size e) (Typed (OffsetOf (whole 64 false) 1))
  sized {e} path h d =
      with_first rule.attribute d (λ p k y is. of_value p y (subst OnPath (exact levels y).0 (path_on path h)))
    where
      of_value : (p : Operand) {k : ℕ} → Yields levels e (Ok p) k → OnPath (Ok p) →
          Derived (AttributeOf Size e) (Typed (OffsetOf (whole 64 false) 1))
      of_value (AtPath (Mapped label s end ms)) y on =
          record { outcome = _; steps = _; yields = rule.size y; typed = (_, refl) }
      of_value (Plain label) y on = absurd on

  -- ---- the whole

  derived : {names : Names} {seen : List Visible} {count : ℕ} {t : Tree} {e : Term} {s : Sort} →
      LevelsFit seen count levels → HasSort names seen count t e s → Derived e s
  derived fit (HasSort.literal h) = record { outcome = _; steps = 1; yields = rule.number; typed = (_, refl) }
  derived fit HasSort.character = record { outcome = _; steps = 1; yields = rule.number; typed = (_, refl) }
  derived fit HasSort.text = record { outcome = _; steps = 1; yields = rule.text; typed = (_, refl) }
  derived {seen} fit (HasSort.name {word} v found) = named (resolved_holds word seen fit found)
  derived fit (HasSort.bracket h) = with_first rule.bracket (derived fit h)
      (λ x k y is. record { outcome = Ok x; steps = _; yields = rule.bracket y; typed = is })
  derived fit (HasSort.before t h p) = applied rule.prefix (derived fit h) (prefix_is p)
  derived fit (HasSort.between s t h g p) = between p (derived fit h) (derived fit g)
  derived fit (HasSort.choice w s t h f g p) = choice p (derived fit h) (derived fit f) (derived fit g)
  derived fit (HasSort.index bound w h g) = indexed (derived fit h) (derived fit g)
  derived fit (HasSort.select t h found) = field_selected found (derived fit h)
  derived fit (HasSort.count t bound h) = counted (derived fit h)
  derived fit (HasSort.size t path h) = sized path h (derived fit h)
  derived fit (HasSort.in_unit {w} {n} h b) = applied rule.as_unit (derived fit h) (in_unit_is w n)
  derived fit (HasSort.convert t h (Converts.to_integer {v} {t = u} refers)) =
      applied rule.as_integer (derived fit h) (to_integer_is v u)
  derived fit (HasSort.convert t h (Converts.to_named_offset {v} {t = u} {m} {n} refers)) =
      applied rule.as_offset (derived fit h) (to_offset_is v m u n)
  derived fit (HasSort.convert t h (Converts.to_offset {v} {t = u} {m} {n} refers b)) =
      applied rule.as_offset (derived fit h) (to_offset_is v m u n)

pub safe : (names : Names) (seen : List Visible) (count : ℕ) (t : Tree) (e : Term) (s : Sort) (levels : Levels) →
    HasSort names seen count t e s → LevelsFit seen count levels → IsSafe levels e s (evaluation e levels)
safe names seen count t e s levels h fit =
    let d = derived levels fit h in
    let is = exact levels d.yields in
    let y = subst (λ r. Yields levels e r d.steps) (sym is.0) d.yields in
    record {
      yields = subst (λ k. Yields levels e (evaluation e levels).outcome k) (sym is.1) y;
      outcome = subst (IsOutcome s) (sym is.0) d.typed;
    }
