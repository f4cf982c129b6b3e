-- Letters that may follow digits.
use Rattle.std.proofs.Common.{◌≡◌, ℕ, ◌<◌, ◌≤◌, true, false, ltb, List, [], ◌∷◌, refl, arith, ◌||◌}
use Rattle.std.specs.Prelude.{◌==◌, slice_index}
use Rattle.std.proofs.lemmas.Bool.Decides.{nat_tests}
use Rattle.pickle_syntax.specs.declared.lexer.bytes.Class.TheVariants as class
use Rattle.pickle_syntax.specs.Bytes.{digit_of, is_in}
use Rattle.pickle_syntax.specs.Numbers.{width_of, is_sign}
use Rattle.pickle_syntax.specs.Pieces.{begins}

pub word_sign : (c : ℕ) → is_in class.Word c ≡ false → is_sign c ≡ false
word_sign c h = grind (arith, nat_tests)

pub word_width : (c : ℕ) → is_in class.Word c ≡ false → width_of c ≡ 0
word_width c h = grind (arith, nat_tests)

pub word_digit : (c base : ℕ) → base ≤ 16 → is_in class.Word c ≡ false → is_in (class.Digit base) c ≡ false
word_digit c base low h = grind (arith, nat_tests)

pub word_bit : (c : ℕ) → is_in class.Word c ≡ false → ltb (digit_of c) 2 ≡ false
word_bit c h = grind (arith, nat_tests)

pub width_sign : (w : ℕ) → 0 < width_of w → is_sign w ≡ false
width_sign w h = grind (arith, nat_tests)

-- no letter of a base
pub word_x : (c : ℕ) → is_in class.Word c ≡ false → (c == 120 || c == 88) ≡ false
word_x c h = grind (arith, nat_tests)

pub word_o : (c : ℕ) → is_in class.Word c ≡ false → (c == 111 || c == 79) ≡ false
word_o c h = grind (arith, nat_tests)

pub word_b : (c : ℕ) → is_in class.Word c ≡ false → (c == 98 || c == 66) ≡ false
word_b c h = grind (arith, nat_tests)

pub digit_x : (c : ℕ) → is_in (class.Digit 10) c ≡ true → (c == 120 || c == 88) ≡ false
digit_x c h = grind (arith, nat_tests)

pub digit_o : (c : ℕ) → is_in (class.Digit 10) c ≡ true → (c == 111 || c == 79) ≡ false
digit_o c h = grind (arith, nat_tests)

pub digit_b : (c : ℕ) → is_in (class.Digit 10) c ≡ true → (c == 98 || c == 66) ≡ false
digit_b c h = grind (arith, nat_tests)

pub sign_x : (c : ℕ) → is_sign c ≡ true → (c == 120 || c == 88) ≡ false
sign_x c h = grind (arith, nat_tests)

pub sign_o : (c : ℕ) → is_sign c ≡ true → (c == 111 || c == 79) ≡ false
sign_o c h = grind (arith, nat_tests)

pub sign_b : (c : ℕ) → is_sign c ≡ true → (c == 98 || c == 66) ≡ false
sign_b c h = grind (arith, nat_tests)

pub sign_bit : (c : ℕ) → is_sign c ≡ true → ltb (digit_of c) 2 ≡ false
sign_bit c h = grind (arith, nat_tests)

pub width_x : (c : ℕ) → 0 < width_of c → (c == 120 || c == 88) ≡ false
width_x c h = grind (arith, nat_tests)

pub width_o : (c : ℕ) → 0 < width_of c → (c == 111 || c == 79) ≡ false
width_o c h = grind (arith, nat_tests)

-- the byte behind a number
pub after_sign : (after : List ℕ) → begins class.Word after ≡ false → is_sign (slice_index after 0) ≡ false
after_sign [] h = refl
after_sign (c ∷ after) h = word_sign c h

pub after_width : (after : List ℕ) → begins class.Word after ≡ false → width_of (slice_index after 0) ≡ 0
after_width [] h = refl
after_width (c ∷ after) h = word_width c h

pub after_word : (after : List ℕ) → begins class.Word after ≡ false → is_in class.Word (slice_index after 0) ≡ false
after_word [] h = refl
after_word (c ∷ after) h = h
