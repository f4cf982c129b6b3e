-- The outcomes of expressions by rules that have no case for a value of a wrong sort, or for a place that doesn't
-- exist.
use Rattle.std.specs.Prelude.{◌≡◌, ℕ, ◌+◌, ◌-◌, ◌<◌, ◌≤◌, Bool, true, false, ◌&&◌, if◌then◌else◌, List, Option, Some, None, Result, Ok, Err, ℤ, pos, negsuc, slice_get}
use Rattle.pickle_tree.specs.declared.tree.Attribute.TheVariants.{Length, Size}
use Rattle.pickle_tree.specs.declared.tree.Prefix.{Prefix}
use Rattle.pickle_tree.specs.declared.tree.Infix.{Infix}
use Rattle.pickle_tree.specs.declared.tree.Attribute.{Attribute}
use Rattle.pickle_types.specs.declared.integer.IntegerType.{IntegerType}
use Rattle.pickle_types.specs.Types.{Term, Number, Text, Name, Bracket, Before, Between, Choice, Index, Select, AttributeOf, ToInteger, ToOffset, InUnit}
use Rattle.pickle_meaning.specs.declared.faults.MapFaultKind.{MapFaultKind}
use Rattle.pickle_meaning.specs.declared.faults.MapFaultKind.TheVariants as fault
use Rattle.pickle_meaning.specs.Values.{Naming, Label, IntegerLabel, OffsetLabel, TextLabel, ArrayLabel, StructLabel, UnionLabel, Value, Mapped, Members, member_count, member_at, Levels, level_at}
use Rattle.pickle_meaning.specs.Arithmetic.{Computed, unsigned_type, truth, prefixed, combined, to_integer, to_offset, in_unit}
use Rattle.pickle_meaning.specs.Evaluation.{Operand, AtPath, Plain, operand_label, truth_of, settled, literal_length, is_text, as_common}

-- a computed value, or any fault but Absent, which is what operators give for values of wrong sorts
abbrev pub IsProper : Computed → Type 0
IsProper (Ok label) = Unit {0}
IsProper (Err fault.Absent) = ⊥
IsProper (Err kind) = Unit {0}

abbrev pub computed : Computed → Result Operand MapFaultKind
computed (Ok label) = Ok (Plain label)
computed (Err kind) = Err kind

-- an operator on one operand, and what it computes
pub data Applies : Term → Term → (Label → Computed) → Type 0 where
  prefix : {op : Prefix} {e : Term} → Applies (Before op e) e (prefixed op)
  as_integer : {type : IntegerType} {e : Term} → Applies (ToInteger type e) e (to_integer type)
  as_offset : {type : IntegerType} {unit : ℕ} {e : Term} → Applies (ToOffset type unit e) e (to_offset type unit)
  as_unit : {unit : ℕ} {e : Term} → Applies (InUnit unit e) e (in_unit unit)

-- the operand that is evaluated first
pub data First : Term → Term → Type 0 where
  bracket : {e : Term} → First (Bracket e) e
  applied : {t e : Term} {f : Label → Computed} → Applies t e f → First t e
  between : {op : Infix} {a b : Term} → First (Between op a b) a
  choice : {common : Option IntegerType} {c x y : Term} → First (Choice common c x y) c
  index : {e i : Term} → First (Index e i) e
  select : {e : Term} {place : ℕ} → First (Select e place) e
  attribute : {attribute : Attribute} {e : Term} → First (AttributeOf attribute e) e

-- the side of a choice that is evaluated
abbrev pub side : Bool → Term → Term → Term
side true x y = x
side false x y = y

-- a comparison of texts takes a step for each byte of the literal
abbrev pub text_steps : (a b : Term) → Label → Label → ℕ
text_steps a b x y = if is_text x && is_text y then literal_length a + literal_length b else 0

-- an index that is negative, or not less than the count
abbrev pub IsOutside : Members → ℤ → Type 0
IsOutside ms (pos i) = member_count ms ≤ i
IsOutside ms (negsuc i) = Unit {0}

-- over these frames the expression has an outcome, in so many steps
pub data Yields (levels : Levels) : Term → Result Operand MapFaultKind → (steps : ℕ) → Type 0 where
  number : {type : IntegerType} {n : ℕ} → Yields levels (Number type n) (Ok (Plain (IntegerLabel (pos n) type))) 1
  text : {bytes : List ℕ} → Yields levels (Text bytes) (Ok (Plain (TextLabel bytes))) 1
  -- the member at that place of that frame, or Absent where that member is absent
  name : {level place : ℕ} {v : Value} → slice_get (level_at levels level) place ≡ Some (Some v) →
      Yields levels (Name level place) (Ok (AtPath v)) 1
  absent_name : {level place : ℕ} → slice_get (level_at levels level) place ≡ Some None →
      Yields levels (Name level place) (Err fault.Absent) 1
  bracket : {e : Term} {x : Operand} {k : ℕ} → Yields levels e (Ok x) k → Yields levels (Bracket e) (Ok x) (1 + k)
  -- the first operand has a fault
  first_fault : {t e : Term} {kind : MapFaultKind} {k : ℕ} → First t e → Yields levels e (Err kind) k →
      Yields levels t (Err kind) (1 + k)
  -- an operator on one operand
  applied : {t e : Term} {f : Label → Computed} {x : Operand} {k : ℕ} → Applies t e f → Yields levels e (Ok x) k →
      IsProper (f (operand_label x)) →
      Yields levels t (computed (f (operand_label x))) (1 + k)
  -- `&&` or `||` that its left side settles
  left_settles : {op : Infix} {a b : Term} {x : Operand} {u : Bool} {k : ℕ} → Yields levels a (Ok x) k →
      settled op (truth_of (operand_label x)) ≡ Some u →
      Yields levels (Between op a b) (computed (truth u)) (1 + k)
  right_fault : {op : Infix} {a b : Term} {x : Operand} {kind : MapFaultKind} {k j : ℕ} →
      Yields levels a (Ok x) k → settled op (truth_of (operand_label x)) ≡ None → Yields levels b (Err kind) j →
      Yields levels (Between op a b) (Err kind) (1 + k + j)
  both_sides : {op : Infix} {a b : Term} {x y : Operand} {k j : ℕ} →
      Yields levels a (Ok x) k → settled op (truth_of (operand_label x)) ≡ None → Yields levels b (Ok y) j →
      IsProper (combined op (operand_label x) (operand_label y)) →
      Yields levels (Between op a b) (computed (combined op (operand_label x) (operand_label y)))
      (1 + k + j + text_steps a b (operand_label x) (operand_label y))
  -- the chosen side of a choice
  side_fault : {common : Option IntegerType} {c x y : Term} {t : Operand} {u : Bool} {kind : MapFaultKind} {k j : ℕ} →
      Yields levels c (Ok t) k → truth_of (operand_label t) ≡ Ok u → Yields levels (side u x y) (Err kind) j →
      Yields levels (Choice common c x y) (Err kind) (1 + k + j)
  choice : {common : Option IntegerType} {c x y : Term} {t z : Operand} {u : Bool} {k j : ℕ} →
      Yields levels c (Ok t) k → truth_of (operand_label t) ≡ Ok u → Yields levels (side u x y) (Ok z) j →
      IsProper (as_common common (operand_label z)) →
      Yields levels (Choice common c x y) (computed (as_common common (operand_label z))) (1 + k + j)
  -- the element of an array, or Index
  index_fault : {e i : Term} {s end : ℕ} {members : Members} {kind : MapFaultKind} {k j : ℕ} →
      Yields levels e (Ok (AtPath (Mapped ArrayLabel s end members))) k → Yields levels i (Err kind) j →
      Yields levels (Index e i) (Err kind) (1 + k + j)
  element : {e i : Term} {s end n : ℕ} {members : Members} {y : Operand} {type : IntegerType} {v : Value} {k j : ℕ} →
      Yields levels e (Ok (AtPath (Mapped ArrayLabel s end members))) k → Yields levels i (Ok y) j →
      operand_label y ≡ IntegerLabel (pos n) type → member_at members n ≡ Some v →
      Yields levels (Index e i) (Ok (AtPath v)) (1 + k + j)
  outside : {e i : Term} {s end : ℕ} {members : Members} {y : Operand} {n : ℤ} {type : IntegerType} {k j : ℕ} →
      Yields levels e (Ok (AtPath (Mapped ArrayLabel s end members))) k → Yields levels i (Ok y) j →
      operand_label y ≡ IntegerLabel n type → IsOutside members n →
      Yields levels (Index e i) (Err fault.Index) (1 + k + j)
  -- the member of a struct at a place that it has, or Absent where that member is absent
  field : {e : Term} {title : Naming} {names : List Naming} {s end place : ℕ} {members : Members} {v : Value} {k : ℕ} →
      Yields levels e (Ok (AtPath (Mapped (StructLabel title names) s end members))) k →
      member_at members place ≡ Some v →
      Yields levels (Select e place) (Ok (AtPath v)) (1 + k)
  absent_field : {e : Term} {title : Naming} {names : List Naming} {s end place : ℕ} {members : Members} {k : ℕ} →
      Yields levels e (Ok (AtPath (Mapped (StructLabel title names) s end members))) k → place < member_count members →
      member_at members place ≡ None →
      Yields levels (Select e place) (Err fault.Absent) (1 + k)
  -- the alternative of a union that matched, or Absent where another one matched
  alternative : {e : Term} {title taken : Naming} {s end place : ℕ} {members : Members} {v : Value} {k : ℕ} →
      Yields levels e (Ok (AtPath (Mapped (UnionLabel title place taken) s end members))) k →
      member_at members 0 ≡ Some v →
      Yields levels (Select e place) (Ok (AtPath v)) (1 + k)
  other_alternative : {e : Term} {title taken : Naming} {s end index place : ℕ} {members : Members} {k : ℕ} →
      Yields levels e (Ok (AtPath (Mapped (UnionLabel title index taken) s end members))) k → (index ≡ place → ⊥) →
      Yields levels (Select e place) (Err fault.Absent) (1 + k)
  -- attributes
  count : {e : Term} {s end : ℕ} {members : Members} {k : ℕ} →
      Yields levels e (Ok (AtPath (Mapped ArrayLabel s end members))) k →
      Yields levels (AttributeOf Length e)
      (Ok (Plain (IntegerLabel (pos (member_count members)) (unsigned_type 64)))) (1 + k)
  size : {e : Term} {label : Label} {s end : ℕ} {members : Members} {k : ℕ} →
      Yields levels e (Ok (AtPath (Mapped label s end members))) k →
      Yields levels (AttributeOf Size e) (Ok (Plain (OffsetLabel (pos (end - s)) (unsigned_type 64) 1))) (1 + k)
