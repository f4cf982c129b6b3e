-- Where a path through fields of structs leads. It mirrors what the fields of a struct mean, up to the array.
use Rattle.std.specs.Prelude.{◌≡◌, ℕ, zero, suc, ◌+◌, ◌<◌, ◌≤◌, max, Bool, true, false, [], ◌∷◌, Option, Some, None, Result, Ok, Err}
use Rattle.bit_space.specs.declared.order.Order.{Order}
use Rattle.pickle_tree.specs.declared.tree.ByteOrder.{ByteOrder}
use Rattle.pickle_types.specs.Types.{PokeType, Term, Bound, ArrayOf, StructOf, Fields, FieldThen}
use Rattle.pickle_meaning.specs.declared.extent.Extent.{Extent}
use Rattle.pickle_meaning.specs.declared.faults.MapFaultKind.TheVariants as fault
use Rattle.pickle_meaning.specs.Clauses.{FaultAt, constraint, condition, field_start, extent_of, clause_steps, label_steps, bound_steps}
use Rattle.pickle_meaning.specs.Means.{ordered}
use Rattle.pickle_meaning.specs.Values.{Naming, Value, end_of, Levels, pushed, opened}
use Rattle.list_laws.specs.Meanings.{Meaning}
use Rattle.list_laws.specs.Paths.{Path}

-- An array that was reached: the type of its elements, their byte order, its first bit, its extent, and the frames
-- around it. `top` is the greatest end of what is before it.
pub record Listed : Type 0 where
  pub element : PokeType
  pub order : Order
  pub start : ℕ
  pub extent : Extent
  pub levels : Levels
  pub top : ℕ

-- what is at a path: an array, or a fault before it, or a field of the path is absent
pub data Reached : Type 0 where
  Found : Listed → Reached
  Faulty : FaultAt → Reached
  Lacking : Reached

-- a field and its constraint
pub data FieldIs (M : Meaning) (ty : PokeType) (c : Option Term) (order : Order) (levels : Levels) (s : ℕ) :
    Result Value FaultAt → (steps : ℕ) → Type 0 where
  -- a value whose constraint holds
  holds : {k : ℕ} {v : Value}
      → M ty order levels s (Ok v) k
      → constraint c (pushed levels (Some v)) s ≡ Ok tt
      → FieldIs M ty c order levels s (Ok v) (k + clause_steps c (pushed levels (Some v)))
  -- its constraint is 0 or has a fault
  refused : {k : ℕ} {v : Value} {f : FaultAt}
      → M ty order levels s (Ok v) k
      → constraint c (pushed levels (Some v)) s ≡ Err f
      → FieldIs M ty c order levels s (Err f) (k + clause_steps c (pushed levels (Some v)))
  -- it has a fault itself
  faulty : {k : ℕ} {f : FaultAt}
      → M ty order levels s (Err f) k
      → FieldIs M ty c order levels s (Err f) k

mutual
  -- In m bits, the path from a type at bit s leads to this, in so many steps. `top` is the greatest end before the
  -- type.
  pub data Reaches (m : ℕ) (M : Meaning) : PokeType → Path → Order → Levels → (s top : ℕ) → Reached →
      (steps : ℕ) → Type 0 where
    -- a start past the last bit
    past_end : {ty : PokeType} {path : Path} {order : Order} {levels : Levels} {s top : ℕ}
        → m < s
        → Reaches m M ty path order levels s top (Faulty (fault.End, s)) 0
    -- the array, whose bound has a value
    array : {ty : PokeType} {bound : Bound} {order : Order} {levels : Levels} {s top : ℕ} {extent : Extent}
        → s ≤ m
        → extent_of bound levels s ≡ Ok extent
        → Reaches m M (ArrayOf ty bound) [] order levels s top
        (Found (record { element = ty; order = order; start = s; extent = extent; levels = levels; top = top }))
        (1 + bound_steps bound levels)
    -- its bound has a fault or is negative
    bound_fault : {ty : PokeType} {bound : Bound} {order : Order} {levels : Levels} {s top : ℕ} {f : FaultAt}
        → s ≤ m
        → extent_of bound levels s ≡ Err f
        → Reaches m M (ArrayOf ty bound) [] order levels s top (Faulty f) (1 + bound_steps bound levels)
    -- through a field of a struct
    through : {name : Naming} {pinned : Bool} {fields : Fields} {place : ℕ} {path : Path} {order : Order}
        {levels : Levels} {s top k : ℕ} {r : Reached}
        → s ≤ m
        → ReachesIn m M pinned s fields place path order (opened levels) s (max top s) r k
        → Reaches m M (StructOf name pinned fields) (place ∷ path) order levels s top r (1 + k)

  -- The same from the fields of a struct at s, of which the one at a place is on the path. The last present field
  -- before them ended at `behind`.
  pub data ReachesIn (m : ℕ) (M : Meaning) : (pinned : Bool) → (s : ℕ) → Fields → (place : ℕ) → Path → Order → Levels →
      (behind top : ℕ) → Reached → (steps : ℕ) → Type 0 where
    -- a field before it is absent
    absent : {pinned : Bool} {name : Naming} {set : Option ByteOrder} {ty : PokeType} {c label when : Option Term}
        {rest : Fields} {place : ℕ} {path : Path} {order : Order} {levels : Levels} {s behind top k : ℕ} {r : Reached}
        → condition when levels s ≡ Ok false
        → ReachesIn m M pinned s rest place path order (pushed levels None) behind top r k
        → ReachesIn m M pinned s (FieldThen name set ty c label when rest) (suc place) path order levels behind top r
        (1 + clause_steps when levels + k)
    -- a field before it is a value whose constraint holds
    field : {pinned : Bool} {name : Naming} {set : Option ByteOrder} {ty : PokeType} {c label when : Option Term}
        {rest : Fields} {place : ℕ} {path : Path} {order : Order} {levels : Levels} {s behind top p k k' : ℕ}
        {v : Value} {r : Reached}
        → condition when levels s ≡ Ok true
        → field_start pinned label levels s behind ≡ Ok p
        → FieldIs M ty c (ordered set order) levels p (Ok v) k
        → ReachesIn m M pinned s rest place path order (pushed levels (Some v)) (end_of v) (max top (end_of v)) r k'
        → ReachesIn m M pinned s (FieldThen name set ty c label when rest) (suc place) path order levels behind top r
        (1 + clause_steps when levels + label_steps pinned label levels + k + k')
    -- a field before it has a fault, or its constraint is 0
    field_fault : {pinned : Bool} {name : Naming} {set : Option ByteOrder} {ty : PokeType}
        {c label when : Option Term} {rest : Fields} {place : ℕ} {path : Path} {order : Order} {levels : Levels}
        {s behind top p k : ℕ} {f : FaultAt}
        → condition when levels s ≡ Ok true
        → field_start pinned label levels s behind ≡ Ok p
        → FieldIs M ty c (ordered set order) levels p (Err f) k
        → ReachesIn m M pinned s (FieldThen name set ty c label when rest) (suc place) path order levels behind top
        (Faulty f) (1 + clause_steps when levels + label_steps pinned label levels + k)
    -- the condition of a field before it, or of the one on the path, has a fault
    condition_fault : {pinned : Bool} {name : Naming} {set : Option ByteOrder} {ty : PokeType}
        {c label when : Option Term} {rest : Fields} {place : ℕ} {path : Path} {order : Order} {levels : Levels}
        {s behind top : ℕ} {f : FaultAt}
        → condition when levels s ≡ Err f
        → ReachesIn m M pinned s (FieldThen name set ty c label when rest) place path order levels behind top
        (Faulty f) (1 + clause_steps when levels)
    -- its label has a fault or is negative
    label_fault : {pinned : Bool} {name : Naming} {set : Option ByteOrder} {ty : PokeType}
        {c label when : Option Term} {rest : Fields} {place : ℕ} {path : Path} {order : Order} {levels : Levels}
        {s behind top : ℕ} {f : FaultAt}
        → condition when levels s ≡ Ok true
        → field_start pinned label levels s behind ≡ Err f
        → ReachesIn m M pinned s (FieldThen name set ty c label when rest) place path order levels behind top
        (Faulty f) (1 + clause_steps when levels + label_steps pinned label levels)
    -- the field on the path is absent
    lacks : {pinned : Bool} {name : Naming} {set : Option ByteOrder} {ty : PokeType} {c label when : Option Term}
        {rest : Fields} {path : Path} {order : Order} {levels : Levels} {s behind top : ℕ}
        → condition when levels s ≡ Ok false
        → ReachesIn m M pinned s (FieldThen name set ty c label when rest) zero path order levels behind top
        Lacking (1 + clause_steps when levels)
    -- the path goes on in it
    into : {pinned : Bool} {name : Naming} {set : Option ByteOrder} {ty : PokeType} {c label when : Option Term}
        {rest : Fields} {path : Path} {order : Order} {levels : Levels} {s behind top p k : ℕ} {r : Reached}
        → condition when levels s ≡ Ok true
        → field_start pinned label levels s behind ≡ Ok p
        → Reaches m M ty path (ordered set order) levels p top r k
        → ReachesIn m M pinned s (FieldThen name set ty c label when rest) zero path order levels behind top r
        (1 + clause_steps when levels + label_steps pinned label levels + k)
