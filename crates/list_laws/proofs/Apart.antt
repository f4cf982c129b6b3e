-- The elements of a list are the same each beside an empty frame.
use Rattle.std.proofs.Common.{◌≡◌, ℕ, ◌+◌, Bool, List, [], ◌∷◌, ◌++◌, Option, Some, None, Result, Ok, Err, refl, sym, ap, ◌∙◌, subst, arith, append-nil, append_assoc}
use Rattle.bit_space.specs.declared.order.Order.{Order}
use Rattle.pickle_types.specs.Types.{PokeType, Fields}
use Rattle.pickle_meaning.specs.declared.faults.MapFaultKind.TheVariants as fault
use Rattle.pickle_meaning.specs.Values.{Value, Levels}
use Rattle.pickle_meaning.specs.Clauses.{FaultAt}
use Rattle.pickle_meaning.specs.Means.{Elements, no_more, next_element, Closing, none_due, beyond_size, no_bits, ends_without, element_fault, array_value}
use Rattle.scope_laws.specs.Arrays.{SeesNoneBefore, ArraysSeeNone, FieldsSeeNone}
use Rattle.scope_laws.specs.Records.{all_present, array_made, array_or_fault}
use Rattle.scope_laws.proofs.Declared.{arrays_unseen_in}
use Rattle.list_laws.specs.Apart.{AreApart, no_element, next_apart, EndsApart, met, overshot, empty, dropped, stopped}
use Rattle.list_laws.specs.Laws.{ElementsAreApart, EndsAlike, MeansApart}
use Rattle.list_laws.specs.Meanings.{Meaning}
use Rattle.list_laws.specs.Paths.{Path}
use Rattle.list_laws.specs.Reaches.{Listed, Reached, Found, Reaches, ReachesIn, array, through, absent, field, into}

-- ---- the elements of a list that was reached see none before them

abbrev IfFound : Reached → Type 0
IfFound (Found list) = SeesNoneBefore list.element
IfFound r = Unit {0}

mutual
  unfolding ArraysSeeNone

  reached_unseen : {m : ℕ} {M : Meaning} {ty : PokeType} {path : Path} {order : Order} {levels : Levels} {s top : ℕ}
      {r : Reached} {k : ℕ} → Reaches m M ty path order levels s top r k → ArraysSeeNone ty → IfFound r
  reached_unseen (Reaches.past_end lt) all = tt
  reached_unseen (array le e) all = all.0
  reached_unseen (Reaches.bound_fault le e) all = tt
  reached_unseen (through le h) all = fields_unseen h all

  fields_unseen : {m : ℕ} {M : Meaning} {pinned : Bool} {s : ℕ} {fields : Fields} {place : ℕ} {path : Path}
      {order : Order} {levels : Levels} {behind top : ℕ} {r : Reached} {k : ℕ} →
      ReachesIn m M pinned s fields place path order levels behind top r k → FieldsSeeNone fields → IfFound r
  fields_unseen (absent e h) all = fields_unseen h all.1
  fields_unseen (field e st m h) all = fields_unseen h all.1
  fields_unseen (ReachesIn.field_fault e st m) all = tt
  fields_unseen (ReachesIn.condition_fault e) all = tt
  fields_unseen (ReachesIn.label_fault e st) all = tt
  fields_unseen (ReachesIn.lacks e) all = tt
  fields_unseen (into e st h) all = reached_unseen h all.0

-- ---- elements

-- the elements that are in the array's frame after the others
record AreListed (bits : List ℕ) (list : Listed) (i p n pn k j : ℕ) (top : List (Option Value)) (inside : Levels) :
    Type 0 where
  values : List Value
  listed : inside ≡ (top ++ all_present values) ∷ list.levels
  apart : AreApart bits list i p values n pn k j

module _ (bits : List ℕ) (list : Listed) (alike : SeesNoneBefore list.element) where
  elements_listed : {i p n pn k j : ℕ} (top : List (Option Value)) {inside : Levels} →
      Elements bits list.element list.order list.start list.extent i (top ∷ list.levels) p n inside pn k j →
      AreListed bits list i p n pn k j top inside
  elements_listed top no_more = record {
    values = [];
    listed = ap (λ x. x ∷ list.levels) (sym (append-nil top));
    apart = no_element;
  }
  elements_listed top (next_element {p} {k} {j} {v} due m lt es) =
      let rest = elements_listed (top ++ Some v ∷ []) es in
      record {
        values = v ∷ rest.values;
        listed = rest.listed
            ∙ ap (λ x. x ∷ list.levels) (append_assoc top (Some v ∷ []) (all_present rest.values));
        apart = next_apart due (alike list.levels top [] bits list.order p (Ok v) k j m) lt rest.apart;
      }

  listed_elements : {i p n pn k j : ℕ} {values : List Value} → AreApart bits list i p values n pn k j
      → (top : List (Option Value)) (inside : Levels) → inside ≡ (top ++ all_present values) ∷ list.levels
      → Elements bits list.element list.order list.start list.extent i (top ∷ list.levels) p n inside pn k j
  listed_elements (no_element {i} {p}) top inside is =
      subst (λ x. Elements bits list.element list.order list.start list.extent i (top ∷ list.levels) p i x p 0 0)
      (sym (is ∙ ap (λ x. x ∷ list.levels) (append-nil top))) no_more
  listed_elements (next_apart {p} {k} {j} {v} {values} due m lt rest) top inside is =
      next_element due (alike list.levels [] top bits list.order p (Ok v) k j m) lt
      (listed_elements rest (top ++ Some v ∷ []) inside
      (is ∙ ap (λ x. x ∷ list.levels) (sym (append_assoc top (Some v ∷ []) (all_present values)))))

  pub means_apart : MeansApart bits list
  means_apart inside n pn k j = (
    λ es. let all = elements_listed [] es in (all.values, all.listed, all.apart),
    λ all. listed_elements all.2 [] inside all.1,
  )

  -- ---- how they end

  record EndsAs (n p k j : ℕ) (v : Value) (r : Result Value FaultAt) : Type 0 where
    end : Option FaultAt
    made : ℕ
    result : r ≡ array_or_fault v end
    counted : j ≡ made + array_made end
    ends : EndsApart bits list n p end k made

  closing_ends : (before : List (Option Value)) {n pn k j : ℕ} {r : Result Value FaultAt} →
      Closing bits list.element list.order list.start list.extent n (before ∷ list.levels) pn r k j →
      EndsAs n pn k j (array_value list.start pn (before ∷ list.levels)) r
  closing_ends before (none_due over is) =
      record { end = None; made = 0; result = refl; counted = refl; ends = met over is }
  closing_ends before (beyond_size over is) =
      record { end = Some (fault.Bounds, list.start); made = 0; result = refl; counted = refl; ends = overshot over is }
  closing_ends before (no_bits {pn} {k} {j} {v} due m e) = record {
    end = Some (fault.NoBits, pn);
    made = j;
    result = refl;
    counted = omega arith;
    ends = empty due (alike list.levels before [] bits list.order pn (Ok v) k j m) e;
  }
  closing_ends before (ends_without {pn} {k} {j} {f} due m e) = record {
    end = None;
    made = j;
    result = refl;
    counted = omega arith;
    ends = dropped due (alike list.levels before [] bits list.order pn (Err f) k j m) e;
  }
  closing_ends before (element_fault {pn} {k} {j} {f} due m e) = record {
    end = Some f;
    made = j;
    result = refl;
    counted = omega arith;
    ends = stopped due (alike list.levels before [] bits list.order pn (Err f) k j m) e;
  }

  ends_closing : (before : List (Option Value)) {n p : ℕ} {end : Option FaultAt} {k made : ℕ} →
      EndsApart bits list n p end k made →
      Closing bits list.element list.order list.start list.extent n (before ∷ list.levels) p
      (array_or_fault (array_value list.start p (before ∷ list.levels)) end) k (made + array_made end)
  ends_closing before (met over is) = none_due over is
  ends_closing before (overshot over is) = beyond_size over is
  ends_closing before {n} {p} (empty {k} {j} {v} due m e) =
      let none : j ≡ j + 0 = omega arith in
      subst (λ x. Closing bits list.element list.order list.start list.extent n (before ∷ list.levels) p
      (Err (fault.NoBits, p)) (1 + k) x) none
      (no_bits due (alike list.levels [] before bits list.order p (Ok v) k j m) e)
  ends_closing before {n} {p} (dropped {k} {j} {f} due m e) =
      ends_without due (alike list.levels [] before bits list.order p (Err f) k j m) e
  ends_closing before {n} {p} (stopped {k} {j} {f} due m e) =
      let none : j ≡ j + 0 = omega arith in
      subst (λ x. Closing bits list.element list.order list.start list.extent n (before ∷ list.levels) p
      (Err f) (1 + k) x) none
      (element_fault due (alike list.levels [] before bits list.order p (Err f) k j m) e)

  pub ends_alike : EndsAlike bits list
  ends_alike before n pn k j r = (
    λ c. let e = closing_ends before c in (e.end, e.made, e.result, e.counted, e.ends),
    λ e.
        subst (λ x.
        Closing bits list.element list.order list.start list.extent n (before ∷ list.levels) pn x k j) (sym e.2)
        (subst (λ x. Closing bits list.element list.order list.start list.extent n (before ∷ list.levels) pn
        (array_or_fault (array_value list.start pn (before ∷ list.levels)) e.0) k x)
        (sym e.3) (ends_closing before e.4)),
  )

pub elements_apart : ElementsAreApart
elements_apart declarations names word ty m known path order levels s top steps list bits h found reached =
    let alike = reached_unseen reached (arrays_unseen_in declarations names word ty h found) in
    (means_apart bits list alike, ends_alike bits list alike)
