-- A fault that a fallback gives, for a type that no pickle declares: no rule yields it.
use Rattle.std.proofs.Common.{◌≡◌, ℕ, false, [], Some, Err, refl, sym, subst, arith}
use Rattle.std.proofs.lemmas.Option.{none-some}
use Rattle.bit_space.specs.declared.order.Order.TheVariants.{Big}
use Rattle.pickle_tree.specs.Tree.{Uint, FormTree, Plain, ArrayForm}
use Rattle.pickle_tree.specs.Tree as tree
use Rattle.pickle_types.specs.Types.{Text, ByCount, PokeType, IntegerOf, ArrayOf}
use Rattle.pickle_types.specs.Operators.{whole}
use Rattle.pickle_meaning.specs.declared.faults.MapFaultKind.{MapFaultKind}
use Rattle.pickle_meaning.specs.declared.faults.MapFaultKind.TheVariants as fault
use Rattle.pickle_meaning.specs.Values.{no_values, Levels}
use Rattle.pickle_meaning.specs.Evaluation.{evaluation}
use Rattle.pickle_meaning.specs.Clauses.{FaultAt, extent_of}
use Rattle.pickle_meaning.specs.Means.{Means, bound_fault}
use Rattle.type_soundness.specs.Derivations.{Yields}
use Rattle.type_soundness.specs.Evaluated.{Evaluated, Evaluates, in_number_read, array_count, in_element}
use Rattle.type_soundness.specs.Yielded.{IsYielded, bits_end, unmet, out_of_bounds, element_of_no_bits, of_expression}
use Rattle.type_soundness.proofs.Exact.{exact}
use Rattle.type_soundness.proofs.Faults.{ok_err}

-- byte[""]: the count is a text
abbrev byte : PokeType
byte = IntegerOf (whole 8 false)

abbrev counted_by_text : PokeType
counted_by_text = ArrayOf byte (ByCount (Text []))

abbrev counted_by_its_text : FormTree
counted_by_its_text = ArrayForm (Plain (Uint (record { signed = false; width = 8; value = 8 }))) (Some (tree.Text []))

falls_back : Means [] counted_by_text Big no_values 0 (Err (fault.Absent, 0)) 2 0
unfolding extent_of evaluation
falls_back = bound_fault (omega arith) refl

abbrev IsAbsent : MapFaultKind → Type 0
IsAbsent fault.Absent = Unit {0}
IsAbsent kind = ⊥

is_absent : (kind : MapFaultKind) → IsAbsent kind → kind ≡ fault.Absent
is_absent fault.Absent h = refl
is_absent kind h = absurd h

-- an expression that yields Absent
record Yielding (Among : Evaluated → Type 0) : Type 0 where
  a : Evaluated
  steps : ℕ
  among : Among a
  yields : Yields a.levels a.expression (Err fault.Absent) steps

by_expression : {Among : Evaluated → Type 0} {f : FaultAt} → IsYielded Among f → IsAbsent f.0 → Yielding Among
by_expression bits_end h = absurd h
by_expression unmet h = absurd h
by_expression out_of_bounds h = absurd h
by_expression element_of_no_bits h = absurd h
by_expression (of_expression {kind} {steps} a among y) h = record {
  a = a;
  steps = steps;
  among = among;
  yields = subst (λ k. Yields a.levels a.expression (Err k) steps) (is_absent kind h) y;
}

-- only the text is evaluated
only_text : {a : Evaluated} → Evaluates [] [] counted_by_its_text counted_by_text Big [] no_values 0 a →
    a.expression ≡ Text []
unfolding extent_of evaluation
only_text (in_number_read {type} le e inside d) = absurd (none-some type e)
only_text (array_count le) = refl
only_text (in_element {extent} le b es due d) = ok_err extent (fault.Absent, 0) (sym b)

text_is_ok : (levels : Levels) (k : ℕ) → Yields levels (Text []) (Err fault.Absent) k → ⊥
unfolding evaluation
text_is_ok levels k y = let e = (exact levels y).0 in cc

falls_back_unyielded : IsYielded (Evaluates [] [] counted_by_its_text counted_by_text Big [] no_values 0)
    (fault.Absent, 0) → ⊥
falls_back_unyielded h =
    let x = by_expression h tt in
    text_is_ok x.a.levels x.steps
    (subst (λ e. Yields x.a.levels e (Err fault.Absent) x.steps) (only_text x.among) x.yields)
