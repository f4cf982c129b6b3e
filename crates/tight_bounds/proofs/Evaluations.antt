-- A clause takes at most as many steps as its expression has nodes and bytes of texts.
use Rattle.std.proofs.Common.{ℕ, ◌+◌, ◌≤◌, Bool, true, false, Option, Some, None, Result, Ok, Err, arith}
use Rattle.std.specs.Prelude.{if◌then◌else◌, ◌&&◌}
use Rattle.pickle_tree.specs.declared.tree.Infix.{Infix}
use Rattle.pickle_types.specs.Types.{Term, Number, Text, Name, Bracket, Before, Between, Choice, Index, Select, AttributeOf, ToInteger, ToOffset, InUnit, weight, optional_weight, bound_weight, Bound, Unbounded, ByCount, BySize}
use Rattle.pickle_meaning.specs.declared.faults.MapFaultKind.{MapFaultKind}
use Rattle.pickle_meaning.specs.Values.{Label, Value, Levels, value_at}
use Rattle.pickle_meaning.specs.Arithmetic.{Computed, prefixed, combined, to_integer, to_offset, in_unit}
use Rattle.pickle_meaning.specs.Evaluation.{Operand, operand_label, Evaluation, gives, present, leads_to, on_outcome, and_operand, truth_of, settled, unless_settled, literal_length, is_text, between, chosen, as_common, selected, element, attribute_of, evaluation}
use Rattle.pickle_meaning.specs.Clauses.{clause_steps, label_steps, bound_steps}

gives_steps : (c : Computed) → (gives c).steps ≤ 0
gives_steps (Ok x) = omega arith
gives_steps (Err f) = omega arith

leads_steps : (r : Result Value MapFaultKind) → (leads_to r).steps ≤ 0
leads_steps (Ok v) = omega arith
leads_steps (Err f) = omega arith

outcome_steps : (r : Result Operand MapFaultKind) (k d : ℕ) (f : Operand → Evaluation) →
    ((x : Operand) → (f x).steps ≤ d) → (on_outcome r k f).steps ≤ k + d
outcome_steps (Ok x) k d f h = let g = h x in omega arith
outcome_steps (Err e) k d f h = omega arith

operand_steps : (a : Evaluation) (n d : ℕ) (f : Operand → Evaluation) → a.steps ≤ n →
    ((x : Operand) → (f x).steps ≤ d) → (and_operand a f).steps ≤ n + d
unfolding and_operand
operand_steps a n d f le h = let g = outcome_steps a.outcome a.steps d f h in omega arith

unless_steps : (o : Option Bool) (d : ℕ) (rest : Evaluation) → rest.steps ≤ d → (unless_settled o rest).steps ≤ d
unless_steps None d rest le = le
unless_steps (Some b) d rest le = omega arith

literal_steps : (b : Bool) (n : ℕ) → (if b then n else 0) ≤ n
literal_steps true n = omega arith
literal_steps false n = omega arith

chosen_steps : (r : Result Bool MapFaultKind) (n d : ℕ) (x y : Evaluation) → x.steps ≤ n → y.steps ≤ d →
    (chosen r x y).steps ≤ n + d
chosen_steps (Ok true) n d x y h g = omega arith
chosen_steps (Ok false) n d x y h g = omega arith
chosen_steps (Err f) n d x y h g = omega arith

between_steps : (op : Infix) (literal : ℕ) (x y : Label) → (between op literal x y).steps ≤ literal
between_steps op literal x y =
    let h = literal_steps (is_text x && is_text y) literal in
    let g = gives_steps (combined op x y) in
    omega arith

-- with the bytes of a text literal, which a comparison counts too
evaluation_steps : (e : Term) (levels : Levels) → (evaluation e levels).steps + literal_length e ≤ weight e
unfolding evaluation
evaluation_steps (Number type value) levels = omega arith
evaluation_steps (Text bytes) levels = omega arith
evaluation_steps (Name level place) levels = let h = leads_steps (present (value_at levels level place)) in omega arith
evaluation_steps (Bracket e) levels = let h = evaluation_steps e levels in omega arith
evaluation_steps (Before op e) levels =
    let h = evaluation_steps e levels in
    let g = operand_steps (evaluation e levels) (weight e) 0 (λ x. gives (prefixed op (operand_label x))) (omega arith)
    (λ x. gives_steps _) in
    omega arith
evaluation_steps (Between op a b) levels =
    let h = evaluation_steps a levels in
    let g = evaluation_steps b levels in
    let t = operand_steps (evaluation a levels) ((evaluation a levels).steps)
    ((evaluation b levels).steps + (literal_length a + literal_length b))
    (λ x. unless_settled (settled op (truth_of (operand_label x))) (and_operand (evaluation b levels)
    (λ y. between op (literal_length a + literal_length b) (operand_label x) (operand_label y)))) (omega arith)
    (λ x. unless_steps (settled op (truth_of (operand_label x))) _ _
    (operand_steps (evaluation b levels) ((evaluation b levels).steps) (literal_length a + literal_length b) _
    (omega arith) (λ y. between_steps op (literal_length a + literal_length b) (operand_label x) (operand_label y)))) in
    omega arith
evaluation_steps (Choice common c x y) levels =
    let h = evaluation_steps c levels in
    let g = evaluation_steps x levels in
    let f = evaluation_steps y levels in
    let t = operand_steps (evaluation c levels) (weight c) (weight x + weight y + 0)
    (λ t. and_operand (chosen (truth_of (operand_label t)) (evaluation x levels) (evaluation y levels))
    (λ z. gives (as_common common (operand_label z)))) (omega arith)
    (λ t. operand_steps (chosen (truth_of (operand_label t)) (evaluation x levels) (evaluation y levels))
    (weight x + weight y) 0 (λ z. gives (as_common common (operand_label z)))
    (chosen_steps (truth_of (operand_label t)) (weight x) (weight y) (evaluation x levels) (evaluation y levels)
    (omega arith) (omega arith)) (λ z. gives_steps _)) in
    omega arith
evaluation_steps (Index e i) levels =
    let h = evaluation_steps e levels in
    let g = evaluation_steps i levels in
    let t = operand_steps (evaluation e levels) (weight e) (weight i + 0)
    (λ p. and_operand (evaluation i levels) (λ n. leads_to (element p (operand_label n)))) (omega arith)
    (λ p. operand_steps (evaluation i levels) (weight i) 0 (λ n. leads_to (element p (operand_label n))) (omega arith)
    (λ n. leads_steps _)) in
    omega arith
evaluation_steps (Select e place) levels =
    let h = evaluation_steps e levels in
    let g = operand_steps (evaluation e levels) (weight e) 0 (λ p. leads_to (present (selected p place))) (omega arith)
    (λ x. leads_steps _) in
    omega arith
evaluation_steps (AttributeOf attribute e) levels =
    let h = evaluation_steps e levels in
    let g = operand_steps (evaluation e levels) (weight e) 0 (λ p. gives (attribute_of attribute p)) (omega arith)
    (λ x. gives_steps _) in
    omega arith
evaluation_steps (ToInteger type e) levels =
    let h = evaluation_steps e levels in
    let g = operand_steps (evaluation e levels) (weight e) 0 (λ x. gives (to_integer type (operand_label x)))
    (omega arith) (λ x. gives_steps _) in
    omega arith
evaluation_steps (ToOffset type unit e) levels =
    let h = evaluation_steps e levels in
    let g = operand_steps (evaluation e levels) (weight e) 0 (λ x. gives (to_offset type unit (operand_label x)))
    (omega arith) (λ x. gives_steps _) in
    omega arith
evaluation_steps (InUnit unit e) levels =
    let h = evaluation_steps e levels in
    let g = operand_steps (evaluation e levels) (weight e) 0 (λ x. gives (in_unit unit (operand_label x))) (omega arith)
    (λ x. gives_steps _) in
    omega arith

pub clause_within : (c : Option Term) (levels : Levels) → clause_steps c levels ≤ optional_weight c
clause_within None levels = omega arith
clause_within (Some e) levels = let h = evaluation_steps e levels in omega arith

pub label_within : (pinned : Bool) (label : Option Term) (levels : Levels) →
    label_steps pinned label levels ≤ optional_weight label
label_within true label levels = omega arith
label_within false label levels = clause_within label levels

pub bound_within : (bound : Bound) (levels : Levels) → bound_steps bound levels ≤ bound_weight bound
bound_within Unbounded levels = omega arith
bound_within (ByCount e) levels = let h = evaluation_steps e levels in omega arith
bound_within (BySize e) levels = let h = evaluation_steps e levels in omega arith
