-- A path to a list leads to a part of the outcome of its type.
use Rattle.std.proofs.Common.{◌≡◌, ◌∙◌, ℕ, zero, suc, ◌+◌, ◌-◌, ◌≤◌, max, length, Bool, true, List, [], ◌∷◌, Option, Some, None, ◌⊎◌, inl, inr, Result, Ok, Err, refl, sym, ap, subst, arith}
use Rattle.std.proofs.lemmas.Bool.{and_parts, false≢true}
use Rattle.std.proofs.lemmas.List.{length-append}
use Rattle.std.proofs.lemmas.Option.{none-some}
use Rattle.bit_space.specs.declared.order.Order.{Order}
use Rattle.pickle_tree.specs.declared.tree.ByteOrder.{ByteOrder}
use Rattle.pickle_types.specs.Types.{PokeType, Term, Bound, IntegerOf, OffsetOf, StringOf, ArrayOf, StructOf, IntegralOf, UnionOf, Fields, NoFields, FieldThen}
use Rattle.pickle_meaning.specs.declared.faults.MapFaultKind.TheVariants as fault
use Rattle.pickle_meaning.specs.Clauses.{FaultAt, constraint, clause_steps, label_steps, bound_steps}
use Rattle.pickle_meaning.specs.Means.{Means, past_end, number_read, number_end, array, bound_fault, struct, struct_fault, PartMeans, part, part_refused, part_fault, FieldsMean, all_fields, absent, field, condition_fault, label_fault, field_fault, Opened, ordered, struct_value, field_names}
use Rattle.pickle_meaning.specs.Values.{Naming, Value, end_of, Levels, pushed, opened, top_of, gathered, member_at}
use Rattle.list_laws.specs.Laws.{ListsAreWithin}
use Rattle.list_laws.specs.Meanings.{IsMeant}
use Rattle.list_laws.specs.Paths.{Path, is_list, is_list_in, is_last, is_last_in, are_none}
use Rattle.list_laws.specs.Reaches.{Listed, Reached, Found, Faulty, Lacking, FieldIs, holds, refused, faulty, Reaches, ReachesIn}
use Rattle.list_laws.specs.Reaches as reaches
use Rattle.list_laws.specs.Within.{IsIn, LeadsInto, ListMeans, along}
use Rattle.list_laws.proofs.Members.{Adds, IfAdds, fields_add, pushed_there, top_pushed}

-- ---- the fields of a struct

-- a list in the outcome of the fields of a struct; the greatest end before the struct is `out`, and the path goes on at
-- a member of that number
record IsListIn (bits : List ℕ) (fields : Fields) (place number : ℕ) (path : Path) (out : ℕ) (list : Listed)
    (r : Result Opened FaultAt) (most : ℕ) : Type 0 where
  own : Result Value FaultAt
  steps : ℕ
  means : ListMeans bits list own steps
  few : steps ≤ most
  fault : (f : FaultAt) → own ≡ Err f → r ≡ Err f
  value : (o : Opened) → r ≡ Ok o →
      (w : Value) × (own ≡ Ok w) × (along path (member_at (gathered (top_of o.0)) number) ≡ Some w)
      × (is_last_in fields place path ≡ true → max out o.1 ≡ max list.top (end_of w))

abbrev IsInFields : (bits : List ℕ) → Fields → (place number : ℕ) → Path → (out : ℕ) → Result Opened FaultAt →
    (all : ℕ) → Reached → (steps : ℕ) → Type 0
IsInFields bits fields place number path out r all (Found list) steps =
    (steps ≤ all) × IsListIn bits fields place number path out list r (all - steps)
IsInFields bits fields place number path out r all (Faulty f) steps = (r ≡ Err f) × (steps ≡ all)
IsInFields bits fields place number path out r all Lacking steps =
    (steps ≤ all)
    × ((o : Opened) → r ≡ Ok o → along path (member_at (gathered (top_of o.0)) number) ≡ None)

record LeadsIn (bits : List ℕ) (pinned : Bool) (s : ℕ) (fields : Fields) (place : ℕ) (path : Path) (order : Order)
    (levels : Levels) (behind top out number : ℕ) (r : Result Opened FaultAt) (all : ℕ) : Type 0 where
  reached : Reached
  steps : ℕ
  reaches : ReachesIn (length bits) (IsMeant bits) pinned s fields place path order levels behind top reached steps
  is_in : IsInFields bits fields place number path out r all reached steps

-- a field before the one on the path, in so many steps
later_in : (bits : List ℕ) (fields rest : Fields) (place number : ℕ) (path : Path) (out : ℕ)
    (r : Result Opened FaultAt) (before all all' : ℕ) (reached : Reached) (steps : ℕ) → all' ≡ before + all
    → ((b : is_last_in fields (suc place) path ≡ true) → is_last_in rest place path ≡ true)
    → IsInFields bits rest place number path out r all reached steps
    → IsInFields bits fields (suc place) number path out r all' reached (before + steps)
later_in bits fields rest place number path out r before all all' (Found list) steps same last h =
    let le = h.0 in
    let i = h.1 in
    let few = i.few in (
      omega (arith, le, same),
      record {
        own = i.own;
        steps = i.steps;
        means = i.means;
        few = omega (arith, few, le, same);
        fault = i.fault;
        value = λ o e. let v = i.value o e in (v.0, v.1, v.2, λ b. v.3 (last b));
      },
    )
later_in bits fields rest place number path out r before all all' (Faulty f) steps same last h =
    let taken = h.1 in (h.0, omega (arith, taken, same))
later_in bits fields rest place number path out r before all all' Lacking steps same last h =
    let le = h.0 in (omega (arith, le, same), h.1)

-- the field on the path is a value, and the fields after it have an outcome
into_value : (bits : List ℕ) (name : Naming) (set : Option ByteOrder) (ty : PokeType) (c label when : Option Term)
    (rest : Fields) (number : ℕ) (path : Path) (out t top : ℕ) (v : Value) (r : Result Opened FaultAt)
    (before own after all : ℕ) (reached : Reached) (steps : ℕ) → all ≡ before + own + after → top ≡ max out t
    → ((o : Opened) → r ≡ Ok o → member_at (gathered (top_of o.0)) number ≡ Some v)
    → ((o : Opened) → r ≡ Ok o → are_none rest ≡ true → o.1 ≡ max t (end_of v))
    → IsIn bits ty path top (Ok v) own reached steps
    → IsInFields bits (FieldThen name set ty c label when rest) zero number path out r all reached (before + steps)
into_value bits name set ty c label when rest number path out t top v r before own after all (Found list) steps total
    same there last h =
    let le = h.0 in
    let i = h.1 in
    let few = i.few in
    let is = i.value v refl in (
      omega (arith, le, total),
      record {
        own = i.own;
        steps = i.steps;
        means = i.means;
        few = omega (arith, few, le, total);
        fault = λ f e. let none = i.fault f e in let no : ⊥ = cc in absurd no;
        value = λ o e. (
          is.0,
          is.1,
          ap (along path) (there o e) ∙ is.2,
          λ b.
              let parts = and_parts (are_none rest) (is_last ty path) b in
              let greatest = is.3 parts.1 in
              let ends = last o e parts.0 in
              omega (arith, greatest, ends, same),
        );
      },
    )
into_value bits name set ty c label when rest number path out t top v r before own after all (Faulty f) steps total
    same there last h =
    let none = h.0 in let no : ⊥ = cc in absurd no
into_value bits name set ty c label when rest number path out t top v r before own after all Lacking steps total same
    there last h =
    let le = h.0 in (omega (arith, le, total), λ o e. ap (along path) (there o e) ∙ h.1 v refl)

-- it has a fault
into_fault : (bits : List ℕ) (name : Naming) (set : Option ByteOrder) (ty : PokeType) (c label when : Option Term)
    (rest : Fields) (number : ℕ) (path : Path) (out top : ℕ) (f : FaultAt)
    (before own all : ℕ) (reached : Reached) (steps : ℕ) → all ≡ before + own
    → IsIn bits ty path top (Err f) own reached steps
    → IsInFields bits (FieldThen name set ty c label when rest) zero number path out (Err f) all
    reached (before + steps)
into_fault bits name set ty c label when rest number path out top f before own all (Found list) steps total h =
    let le = h.0 in
    let i = h.1 in
    let few = i.few in (
      omega (arith, le, total),
      record {
        own = i.own;
        steps = i.steps;
        means = i.means;
        few = omega (arith, few, le, total);
        fault = λ g e. let same = i.fault g e in cc;
        value = λ o e. let no : ⊥ = cc in absurd no;
      },
    )
into_fault bits name set ty c label when rest number path out top f before own all (Faulty g) steps total h =
    let same = h.0 in let taken = h.1 in (cc, omega (arith, taken, total))
into_fault bits name set ty c label when rest number path out top f before own all Lacking steps total h =
    let le = h.0 in (omega (arith, le, total), λ o e. let no : ⊥ = cc in absurd no)

same_ok : (v w : Value) (r : Result Value FaultAt) → r ≡ Ok v → r ≡ Ok w → v ≡ w
same_ok v w r d e = cc

-- no part is there of one that isn't
pub along_none : (path : Path) → along path None ≡ None
along_none [] = refl
along_none (place ∷ path) = along_none path

-- after no field the greatest end stays
last_top : {bits : List ℕ} {pinned : Bool} {s : ℕ} {rest : Fields} {order : Order} {levels : Levels}
    {behind top : ℕ} {r : Result Opened FaultAt} {k j : ℕ} →
    FieldsMean bits pinned s rest order levels behind top r k j → are_none rest ≡ true → (o : Opened) → r ≡ Ok o →
    o.1 ≡ top
last_top (all_fields {levels} {top}) none o e = let same : (levels, top) ≡ o = cc in sym (ap (λ (p : Opened). p.1) same)
last_top (absent e fs) none o is = absurd (false≢true none)
last_top (field e st m fs) none o is = absurd (false≢true none)
last_top (condition_fault e) none o is = absurd (false≢true none)
last_top (label_fault e st) none o is = absurd (false≢true none)
last_top (field_fault e st m) none o is = absurd (false≢true none)

-- the outcome of a value's members
if_adds : (levels : Levels) (r : Result Opened FaultAt) (o : Opened) → r ≡ Ok o → IfAdds levels r → Adds levels o.0
if_adds levels r o e h = rw e at h

number_later : (levels : Levels) (v : Option Value) (place : ℕ) →
    length (top_of (pushed levels v)) + place ≡ length (top_of levels) + suc place
number_later levels v place =
    let one : length (top_of (pushed levels v)) ≡ length (top_of levels) + 1 =
    ap length (top_pushed levels v) ∙ length-append (top_of levels) (v ∷ []) in
    omega (arith, one)

-- the struct whose fields those are
struct_in : (bits : List ℕ) (fields : Fields) (name : Naming) (pinned : Bool) (place : ℕ) (path : Path)
    (top s end : ℕ) (inside : Levels) (k : ℕ) (reached : Reached) (steps : ℕ)
    → IsInFields bits fields place place path top (Ok (inside, end)) k reached steps
    → IsIn bits (StructOf name pinned fields) (place ∷ path) top
    (Ok (struct_value name (field_names fields) s end inside)) (1 + k) reached (1 + steps)
struct_in bits fields name pinned place path top s end inside k (Found list) steps h =
    let le = h.0 in
    let i = h.1 in
    let few = i.few in
    let is = i.value (inside, end) refl in (
      omega (arith, le),
      record {
        own = i.own;
        steps = i.steps;
        means = i.means;
        few = omega (arith, few, le);
        fault = λ f e. let none = i.fault f e in let no : ⊥ = cc in absurd no;
        value = λ v e. rw (← same_ok _ v _ refl e) (is.0, is.1, is.2, is.3);
      },
    )
struct_in bits fields name pinned place path top s end inside k (Faulty f) steps h =
    let none = h.0 in let no : ⊥ = cc in absurd no
struct_in bits fields name pinned place path top s end inside k Lacking steps h =
    let le = h.0 in (omega (arith, le), λ v e. rw (← same_ok _ v _ refl e) (h.1 (inside, end) refl))

fault_in : (bits : List ℕ) (fields : Fields) (name : Naming) (pinned : Bool) (place : ℕ) (path : Path)
    (top : ℕ) (f : FaultAt) (k : ℕ) (reached : Reached) (steps : ℕ)
    → IsInFields bits fields place place path top (Err f) k reached steps
    → IsIn bits (StructOf name pinned fields) (place ∷ path) top (Err f) (1 + k) reached (1 + steps)
fault_in bits fields name pinned place path top f k (Found list) steps h =
    let le = h.0 in
    let i = h.1 in
    let few = i.few in (
      omega (arith, le),
      record {
        own = i.own;
        steps = i.steps;
        means = i.means;
        few = omega (arith, few, le);
        fault = λ g e. let same = i.fault g e in cc;
        value = λ v e. let no : ⊥ = cc in absurd no;
      },
    )
fault_in bits fields name pinned place path top f k (Faulty g) steps h =
    let same = h.0 in let taken = h.1 in (cc, omega (arith, taken))
fault_in bits fields name pinned place path top f k Lacking steps h =
    let le = h.0 in (omega (arith, le), λ v e. let no : ⊥ = cc in absurd no)

-- a part that is a value
record IsPassed (bits : List ℕ) (ty : PokeType) (c : Option Term) (order : Order) (levels : Levels) (s : ℕ) (v : Value)
    (all made : ℕ) : Type 0 where
  steps : ℕ
  means : Means bits ty order levels s (Ok v) steps made
  fine : constraint c (pushed levels (Some v)) s ≡ Ok tt
  taken : all ≡ steps + clause_steps c (pushed levels (Some v))

passed : {bits : List ℕ} {ty : PokeType} {c : Option Term} {order : Order} {levels : Levels} {s : ℕ} {v : Value}
    {k j : ℕ} →
    PartMeans bits ty c order levels s (Ok v) k j → IsPassed bits ty c order levels s v k j
passed (part m e) = record { steps = _; means = m; fine = e; taken = refl }

-- a part whose constraint has a fault
record IsRefused (bits : List ℕ) (ty : PokeType) (c : Option Term) (order : Order) (levels : Levels)
    (s : ℕ) (f : FaultAt)
    (all made : ℕ) : Type 0 where
  value : Value
  steps : ℕ
  means : Means bits ty order levels s (Ok value) steps made
  wrong : constraint c (pushed levels (Some value)) s ≡ Err f
  taken : all ≡ steps + clause_steps c (pushed levels (Some value))

stopped : {bits : List ℕ} {ty : PokeType} {c : Option Term} {order : Order} {levels : Levels}
    {s k j : ℕ} {f : FaultAt} →
    PartMeans bits ty c order levels s (Err f) k j →
    IsRefused bits ty c order levels s f k j ⊎ Means bits ty order levels s (Err f) k j
stopped (part_refused m e) = inl (record { value = _; steps = _; means = m; wrong = e; taken = refl })
stopped (part_fault m) = inr m

field_is : {bits : List ℕ} {ty : PokeType} {c : Option Term} {order : Order} {levels : Levels} {s k j : ℕ}
    {r : Result Value FaultAt} → PartMeans bits ty c order levels s r k j →
    FieldIs (IsMeant bits) ty c order levels s r k
field_is (part m e) = holds (record { made = _; means = m }) e
field_is (part_refused m e) = refused (record { made = _; means = m }) e
field_is (part_fault m) = faulty (record { made = _; means = m })

-- the array itself
within_array : {bits : List ℕ} {element : PokeType} {bound : Bound} {order : Order} {levels : Levels} {s top : ℕ}
    {r : Result Value FaultAt} {k j : ℕ} → Means bits (ArrayOf element bound) order levels s r k j →
    LeadsInto bits (ArrayOf element bound) [] order levels s top r k
within_array (past_end lt) = record {
  reached = Faulty (fault.End, _);
  steps = 0;
  reaches = reaches.past_end lt;
  is_in = (refl, refl);
}
within_array (number_read le e inside m) = absurd (none-some _ e)
within_array (number_end le e lt) = absurd (none-some _ e)
within_array (bound_fault {f} le e) = record {
  reached = Faulty f;
  steps = _;
  reaches = reaches.bound_fault le e;
  is_in = (refl, refl);
}
within_array {bound} {levels} {s} {top} {r} (array {extent} {inside} {n} {pn} {k} {j} {k'} {j'} le e es c) = record {
  reached = Found _;
  steps = 1 + bound_steps bound levels;
  reaches = reaches.array le e;
  is_in = (
    omega arith,
    record {
      own = r;
      steps = k + k';
      means = record {
        inside = inside;
        count = n;
        last = pn;
        taken = k;
        made = j;
        end_steps = k';
        end_made = j';
        elements = es;
        closing = c;
        all = refl;
      };
      few = omega arith;
      fault = λ f e. e;
      value = λ v e. (v, e, refl, λ b. refl);
    },
  );
}

mutual
  within : {bits : List ℕ} (ty : PokeType) (path : Path) (order : Order) (levels : Levels) (s top : ℕ)
      (r : Result Value FaultAt) {k j : ℕ} → is_list ty path ≡ true → Means bits ty order levels s r k j →
      LeadsInto bits ty path order levels s top r k
  within (IntegerOf type) path order levels s top r is m = absurd (false≢true is)
  within (OffsetOf type unit) path order levels s top r is m = absurd (false≢true is)
  within StringOf path order levels s top r is m = absurd (false≢true is)
  within (ArrayOf element bound) (place ∷ path) order levels s top r is m = absurd (false≢true is)
  within (StructOf name pinned fields) [] order levels s top r is m = absurd (false≢true is)
  within (IntegralOf name type fields) path order levels s top r is m = absurd (false≢true is)
  within (UnionOf name alternatives) path order levels s top r is m = absurd (false≢true is)
  within (ArrayOf element bound) [] order levels s top r is m = within_array m
  within (StructOf name pinned fields) (place ∷ path) order levels s top _ is
      (past_end lt) = record {
        reached = Faulty (fault.End, s);
        steps = 0;
        reaches = reaches.past_end lt;
        is_in = (refl, refl);
      }
  within (StructOf name pinned fields) (place ∷ path) order levels s top r is
      (number_read le e inside m) = absurd (none-some _ e)
  within (StructOf name pinned fields) (place ∷ path) order levels s top r is
      (number_end le e lt) = absurd (none-some _ e)
  within (StructOf name pinned fields) (place ∷ path) order levels s top _ is
      (struct {inside} {end} {k} le fs) =
      let h =
      within_in fields place path pinned order (opened levels) s s s (max top s) top place _ is (omega arith) refl
      fs in
      record {
        reached = h.reached;
        steps = 1 + h.steps;
        reaches = reaches.through le h.reaches;
        is_in = struct_in _ fields name pinned place path top s end inside k h.reached h.steps h.is_in;
      }
  within (StructOf name pinned fields) (place ∷ path) order levels s top _ is
      (struct_fault {k} {f} le fs) =
      let h =
      within_in fields place path pinned order (opened levels) s s s (max top s) top place _ is (omega arith) refl
      fs in
      record {
        reached = h.reached;
        steps = 1 + h.steps;
        reaches = reaches.through le h.reaches;
        is_in = fault_in _ fields name pinned place path top f k h.reached h.steps h.is_in;
      }

  within_in : {bits : List ℕ} (fields : Fields) (place : ℕ) (path : Path) (pinned : Bool) (order : Order)
      (levels : Levels) (s behind t top out number : ℕ) (r : Result Opened FaultAt) {k j : ℕ}
      → is_list_in fields place path ≡ true → number ≡ length (top_of levels) + place → top ≡ max out t
      → FieldsMean bits pinned s fields order levels behind t r k j
      → LeadsIn bits pinned s fields place path order levels behind top out number r k
  within_in NoFields place path pinned order levels s behind t top out number r is at same fs = absurd (false≢true is)
  within_in (FieldThen name set ty c label when rest) zero path pinned order levels s behind t top
      out number r is at same
      (absent {k} e fs) = record {
        reached = Lacking;
        steps = 1 + clause_steps when levels;
        reaches = reaches.lacks e;
        is_in = (
          omega arith,
          λ o ok.
              let here : number ≡ length (top_of levels) = omega (arith, at) in
              let gone = pushed_there levels o.0 None (if_adds (pushed levels None) r o ok (fields_add fs)) in
              ap (λ (n : ℕ). along path (member_at (gathered (top_of o.0)) n)) here
              ∙ ap (along path) gone ∙ along_none path,
        );
      }
  within_in (FieldThen name set ty c label when rest) zero path pinned order levels s behind t top
      out number r is at same
      (field {p} {k = all} {k' = k'} {v} e st m fs) =
      let own = passed m in
      let taken = own.taken in
      let h = within ty path (ordered set order) levels p top (Ok v) is own.means in
      let here : length (top_of levels) ≡ number = omega (arith, at) in
      record {
        reached = h.reached;
        steps = 1 + clause_steps when levels + label_steps pinned label levels + h.steps;
        reaches = reaches.into e st h.reaches;
        is_in = into_value _ name set ty c label when rest number path out t top v r
            (1 + clause_steps when levels + label_steps pinned label levels) own.steps
            (clause_steps c (pushed levels (Some v)) + k') _ h.reached h.steps (omega (arith, taken)) same
            (λ o ok. subst (λ (n : ℕ). member_at (gathered (top_of o.0)) n ≡ Some v) here
            (pushed_there levels o.0 (Some v) (if_adds (pushed levels (Some v)) r o ok (fields_add fs))))
            (λ o ok none. last_top fs none o ok) h.is_in;
      }
  within_in (FieldThen name set ty c label when rest) zero path pinned order levels s behind t top
      out number r is at same
      (condition_fault {f} e) = record {
        reached = Faulty f;
        steps = 1 + clause_steps when levels;
        reaches = reaches.condition_fault e;
        is_in = (refl, refl);
      }
  within_in (FieldThen name set ty c label when rest) zero path pinned order levels s behind t top
      out number r is at same
      (label_fault {f} e st) = record {
        reached = Faulty f;
        steps = 1 + clause_steps when levels + label_steps pinned label levels;
        reaches = reaches.label_fault e st;
        is_in = (refl, refl);
      }
  within_in (FieldThen name set ty c label when rest) zero path pinned order levels s behind t top
      out number _ is at same
      (field_fault {p} {k = all} {f} e st m) = elim (stopped m) [
        | inl own ↦
            let taken = own.taken in
            let h = within ty path (ordered set order) levels p top (Ok own.value) is own.means in
            record {
              reached = h.reached;
              steps = 1 + clause_steps when levels + label_steps pinned label levels + h.steps;
              reaches = reaches.into e st h.reaches;
              is_in = into_value _ name set ty c label when rest number path out t top own.value (Err f)
                  (1 + clause_steps when levels + label_steps pinned label levels) own.steps
                  (clause_steps c (pushed levels (Some own.value))) _ h.reached h.steps (omega (arith, taken)) same
                  (λ o ok. let no : ⊥ = cc in absurd no)
                  (λ o ok none. let no : ⊥ = cc in absurd no) h.is_in;
            }
        | inr means ↦
            let h = within ty path (ordered set order) levels p top (Err f) is means in
            record {
              reached = h.reached;
              steps = 1 + clause_steps when levels + label_steps pinned label levels + h.steps;
              reaches = reaches.into e st h.reaches;
              is_in = into_fault _ name set ty c label when rest number path out top f
                  (1 + clause_steps when levels + label_steps pinned label levels) all _ h.reached h.steps refl h.is_in;
            }
      ]
  within_in (FieldThen name set ty c label when rest) (suc place) path pinned order levels s behind
      t top out number r is
      at same (absent {k} e fs) =
      let later = number_later levels None place in
      let h = within_in rest place path pinned order (pushed levels None) s behind t top out number r is
      (omega (arith, at, later)) same fs in
      record {
        reached = h.reached;
        steps = 1 + clause_steps when levels + h.steps;
        reaches = reaches.absent e h.reaches;
        is_in = later_in _ (FieldThen name set ty c label when rest) rest place number path out r
            (1 + clause_steps when levels) k _ h.reached h.steps refl (λ b. b) h.is_in;
      }
  within_in (FieldThen name set ty c label when rest) (suc place) path pinned order levels s behind
      t top out number r is
      at same (field {p} {k} {k' = k'} {v} e st m fs) =
      let later = number_later levels (Some v) place in
      let h = within_in rest place path pinned order (pushed levels (Some v)) s (end_of v) (max t (end_of v))
      (max top (end_of v)) out number r is (omega (arith, at, later)) (omega (arith, same)) fs in
      record {
        reached = h.reached;
        steps = 1 + clause_steps when levels + label_steps pinned label levels + k + h.steps;
        reaches = reaches.field e st (field_is m) h.reaches;
        is_in = later_in _ (FieldThen name set ty c label when rest) rest place number path out r
            (1 + clause_steps when levels + label_steps pinned label levels + k) k' _ h.reached h.steps
            refl (λ b. b) h.is_in;
      }
  within_in (FieldThen name set ty c label when rest) (suc place) path pinned order levels s behind
      t top out number r is
      at same (condition_fault {f} e) = record {
        reached = Faulty f;
        steps = 1 + clause_steps when levels;
        reaches = reaches.condition_fault e;
        is_in = (refl, refl);
      }
  within_in (FieldThen name set ty c label when rest) (suc place) path pinned order levels s behind
      t top out number r is
      at same (label_fault {f} e st) = record {
        reached = Faulty f;
        steps = 1 + clause_steps when levels + label_steps pinned label levels;
        reaches = reaches.label_fault e st;
        is_in = (refl, refl);
      }
  within_in (FieldThen name set ty c label when rest) (suc place) path pinned order levels s behind
      t top out number _ is
      at same (field_fault {p} {f} e st m) = record {
        reached = Faulty f;
        steps = _;
        reaches = reaches.field_fault e st (field_is m);
        is_in = (refl, refl);
      }

pub lists_within : ListsAreWithin
lists_within bits ty path order levels s top r k j is m = within ty path order levels s top r is m
