-- The types that operators give have widths, and their units at least one bit.
use Rattle.std.proofs.Common.{◌≡◌, ℕ, zero, suc, ◌≤◌, ◌%◌, Some, Bool, true, false, refl, sym, subst, arith}
use Rattle.std.specs.Prelude.{IfSome}
use Rattle.pickle_tree.specs.declared.tree.Infix.{Infix}
use Rattle.pickle_tree.specs.declared.tree.Infix.TheVariants as operator
use Rattle.pickle_types.specs.declared.integer.IntegerType.{IntegerType}
use Rattle.pickle_types.specs.declared.check.operators.Scalar.{Scalar}
use Rattle.pickle_types.specs.declared.check.operators.Scalar.TheVariants.{Integer, Offset}
use Rattle.pickle_types.specs.declared.check.operators.Operand.{Operand}
use Rattle.pickle_types.specs.declared.check.operators.Operand.TheVariants as operand
use Rattle.pickle_types.specs.Sound.{IsWidth, IsSoundScalar, IsSoundOperand}
use Rattle.pickle_types.specs.Operators.{truth, common, divisor_in, greatest_divisor, arithmetic, sum, product, quotient, shift, logic, comparison, between_numbers, is_equality, between_texts, between}

common_wide : (a b : IntegerType) → IsWidth a → IsWidth b → IsWidth (common a b)
common_wide a b h g =
    let l = h.some in let m = h.most in let k = g.some in let n = g.most in
    record { some = omega arith; most = omega arith }

truth_wide : IsWidth truth
truth_wide = record { some = omega arith; most = omega arith }

divisor_some : (n a b : ℕ) → 1 ≤ a → 1 ≤ divisor_in n a b
unfolding divisor_in
divisor_some zero a b h = h
divisor_some (suc n) a zero h = h
divisor_some (suc n) a (suc b) h = divisor_some n (suc b) (a % suc b) (omega arith)

pub greatest_some : (a b : ℕ) → 1 ≤ a → 1 ≤ greatest_divisor a b
unfolding greatest_divisor
greatest_some a b h = divisor_some (suc b) a b h

arithmetic_wide : (a b : Scalar) → IsSoundScalar a → IsSoundScalar b → IfSome (arithmetic a b) IsSoundScalar
arithmetic_wide (Integer a) (Integer b) h g = common_wide a b h g
arithmetic_wide (Integer a) (Offset b v) h g = tt
arithmetic_wide (Offset a u) s h g = tt

sum_wide : (a b : Scalar) → IsSoundScalar a → IsSoundScalar b → IfSome (sum a b) IsSoundScalar
sum_wide (Integer a) (Integer b) h g = common_wide a b h g
sum_wide (Integer a) (Offset b v) h g = tt
sum_wide (Offset a u) (Integer b) h g = tt
sum_wide (Offset a u) (Offset b v) h g = (common_wide a b h.0 g.0, greatest_some u v h.1)

product_wide : (a b : Scalar) → IsSoundScalar a → IsSoundScalar b → IfSome (product a b) IsSoundScalar
product_wide (Integer a) (Integer b) h g = common_wide a b h g
product_wide (Integer a) (Offset b v) h g = (common_wide a b h g.0, g.1)
product_wide (Offset a u) (Integer b) h g = (common_wide a b h.0 g, h.1)
product_wide (Offset a u) (Offset b v) h g = tt

quotient_wide : (a b : Scalar) → IsSoundScalar a → IsSoundScalar b → IfSome (quotient a b) IsSoundScalar
quotient_wide (Integer a) (Integer b) h g = common_wide a b h g
quotient_wide (Integer a) (Offset b v) h g = tt
quotient_wide (Offset a u) (Integer b) h g = tt
quotient_wide (Offset a u) (Offset b v) h g = common_wide a b h.0 g.0

shift_wide : (a b : Scalar) → IsSoundScalar a → IfSome (shift a b) IsSoundScalar
shift_wide (Integer a) (Integer b) h = h
shift_wide (Integer a) (Offset b v) h = tt
shift_wide (Offset a u) s h = tt

logic_wide : (a b : Scalar) → IfSome (logic a b) IsSoundScalar
logic_wide (Integer a) (Integer b) = truth_wide
logic_wide (Integer a) (Offset b v) = tt
logic_wide (Offset a u) s = tt

comparison_wide : (a b : Scalar) → IfSome (comparison a b) IsSoundScalar
comparison_wide (Integer a) (Integer b) = truth_wide
comparison_wide (Integer a) (Offset b v) = tt
comparison_wide (Offset a u) (Integer b) = tt
comparison_wide (Offset a u) (Offset b v) = truth_wide

numbers_wide : (op : Infix) (a b : Scalar) → IsSoundScalar a → IsSoundScalar b →
    IfSome (between_numbers op a b) IsSoundScalar
numbers_wide operator.LogicalOr a b h g = logic_wide a b
numbers_wide operator.LogicalAnd a b h g = logic_wide a b
numbers_wide operator.BitOr a b h g = arithmetic_wide a b h g
numbers_wide operator.BitXor a b h g = arithmetic_wide a b h g
numbers_wide operator.BitAnd a b h g = arithmetic_wide a b h g
numbers_wide operator.Equal a b h g = comparison_wide a b
numbers_wide operator.NotEqual a b h g = comparison_wide a b
numbers_wide operator.Less a b h g = comparison_wide a b
numbers_wide operator.LessEqual a b h g = comparison_wide a b
numbers_wide operator.Greater a b h g = comparison_wide a b
numbers_wide operator.GreaterEqual a b h g = comparison_wide a b
numbers_wide operator.ShiftLeft a b h g = shift_wide a b h
numbers_wide operator.ShiftRight a b h g = shift_wide a b h
numbers_wide operator.Add a b h g = sum_wide a b h g
numbers_wide operator.Subtract a b h g = sum_wide a b h g
numbers_wide operator.Multiply a b h g = product_wide a b h g
numbers_wide operator.Divide a b h g = quotient_wide a b h g
numbers_wide operator.Remainder a b h g = sum_wide a b h g

texts_wide : (op : Infix) (b : Bool) → is_equality op ≡ b → IfSome (between_texts op) IsSoundScalar
texts_wide op true e = rw e truth_wide
texts_wide op false e = rw e tt

between_wide : (op : Infix) (a b : Operand) → IsSoundOperand a → IsSoundOperand b →
    IfSome (between op a b) IsSoundScalar
between_wide op (operand.Number a) (operand.Number b) h g = numbers_wide op a b h g
between_wide op (operand.Number a) operand.String h g = tt
between_wide op (operand.Number a) operand.Text h g = tt
between_wide op (operand.Number a) operand.Other h g = tt
between_wide op operand.String (operand.Number b) h g = tt
between_wide op operand.String operand.String h g = tt
between_wide op operand.String operand.Text h g = texts_wide op _ refl
between_wide op operand.String operand.Other h g = tt
between_wide op operand.Text (operand.Number b) h g = tt
between_wide op operand.Text operand.String h g = texts_wide op _ refl
between_wide op operand.Text operand.Text h g = tt
between_wide op operand.Text operand.Other h g = tt
between_wide op operand.Other b h g = tt

-- the type that an operator gives
pub is_between_wide : (op : Infix) (a b : Operand) (s : Scalar) → Some s ≡ between op a b → IsSoundOperand a →
    IsSoundOperand b → IsSoundScalar s
is_between_wide op a b s e h g = subst (λ r. IfSome r IsSoundScalar) (sym e) (between_wide op a b h g)
