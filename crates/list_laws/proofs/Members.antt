-- The members of a struct so far, and those that fields add.
use Rattle.std.proofs.Common.{◌≡◌, ◌∙◌, ℕ, length, Bool, List, [], ◌∷◌, ◌++◌, Option, Some, None, Result, Ok, Err, refl, sym, ap, append-nil, append_assoc}
use Rattle.bit_space.specs.declared.order.Order.{Order}
use Rattle.pickle_types.specs.Types.{Fields}
use Rattle.pickle_meaning.specs.Clauses.{FaultAt}
use Rattle.pickle_meaning.specs.Means.{FieldsMean, all_fields, absent, field, condition_fault, label_fault, field_fault, Opened}
use Rattle.pickle_meaning.specs.Values.{Value, Levels, pushed, top_of, gathered, member_at}

-- the member after others
pub member_after : (xs ys : List (Option Value)) (v : Option Value) →
    member_at (gathered (xs ++ v ∷ ys)) (length xs) ≡ v
member_after [] ys None = refl
member_after [] ys (Some v) = refl
member_after (None ∷ xs) ys v = member_after xs ys v
member_after (Some x ∷ xs) ys v = member_after xs ys v

pub top_pushed : (levels : Levels) (v : Option Value) → top_of (pushed levels v) ≡ top_of levels ++ v ∷ []
top_pushed [] v = refl
top_pushed (top ∷ outer) v = refl

-- the members of a struct are others after those that it has
pub record Adds (levels : Levels) (inside : Levels) : Type 0 where
  pub more : List (Option Value)
  pub is : top_of inside ≡ top_of levels ++ more

one_first : (levels inside : Levels) (v : Option Value) → Adds (pushed levels v) inside → Adds levels inside
one_first levels inside v h = record {
  more = v ∷ h.more;
  is = h.is ∙ ap (λ (xs : List (Option Value)). xs ++ h.more) (top_pushed levels v)
      ∙ append_assoc (top_of levels) (v ∷ []) h.more;
}

-- the members of the struct that a result has
abbrev pub IfAdds : Levels → Result Opened FaultAt → Type 0
IfAdds levels (Ok o) = Adds levels o.0
IfAdds levels (Err f) = Unit {0}

first_too : (levels : Levels) (v : Option Value) (r : Result Opened FaultAt) → IfAdds (pushed levels v) r →
    IfAdds levels r
first_too levels v (Ok o) h = one_first levels o.0 v h
first_too levels v (Err f) h = tt

pub fields_add : {bits : List ℕ} {pinned : Bool} {s : ℕ} {fields : Fields} {order : Order} {levels : Levels}
    {behind top : ℕ} {r : Result Opened FaultAt} {k j : ℕ} →
    FieldsMean bits pinned s fields order levels behind top r k j → IfAdds levels r
fields_add {levels} all_fields = record { more = []; is = sym (append-nil (top_of levels)) }
fields_add {levels} {r} (absent e fs) = first_too levels None r (fields_add fs)
fields_add {levels} {r} (field {v} e st m fs) = first_too levels (Some v) r (fields_add fs)
fields_add (condition_fault e) = tt
fields_add (label_fault e st) = tt
fields_add (field_fault e st m) = tt

-- the member that is pushed next is at its place in the struct
pub pushed_there : (levels inside : Levels) (v : Option Value) → Adds (pushed levels v) inside →
    member_at (gathered (top_of inside)) (length (top_of levels)) ≡ v
unfolding one_first
pushed_there levels inside v h =
    let all = one_first levels inside v h in
    ap (λ (xs : List (Option Value)). member_at (gathered xs) (length (top_of levels))) all.is
    ∙ member_after (top_of levels) h.more v
