-- Laws of hexadecimal numbers.
use Rattle.std.proofs.Common.{◌≡◌, ℕ, ◌-◌, List, [], take, drop, length, refl, ◌∙◌, ap, arith, length-drop}
use Rattle.std.specs.List.{prefix_len}
use Rattle.std.proofs.lemmas.List.{take_all}
use Rattle.value_text.specs.ShowWords.{hex_digits, hex_text, is_zero_digit}

-- sixteen digits from the first on that isn't 0
pub hex_is : (n zeros : ℕ) (digits : List ℕ) → digits ≡ hex_digits 16 n → zeros ≡ prefix_len is_zero_digit digits →
    take (16 - zeros) (drop zeros digits) ≡ hex_text n
unfolding hex_text
hex_is n zeros digits e h =
    let len : length digits ≡ 16 = ap length e in
    take_all (16 - zeros) (drop zeros digits) (omega (arith, length-drop zeros digits, len))
    ∙ ap (λ k. drop k digits) h
    ∙ ap (λ d. drop (prefix_len is_zero_digit d) d) e

pub zero_text : hex_text 0 ≡ []
unfolding hex_text
zero_text = refl
