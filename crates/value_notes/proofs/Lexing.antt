-- The piece at the front of a text, by its first byte.
use Rattle.std.proofs.Common.{◌≡◌, ◌≢◌, ℕ, ◌<◌, List, [], ◌∷◌, length, get_or, refl, arith}
use Rattle.std.proofs.lemmas.Bool.{ne_eqb}
use Rattle.value_notes.specs.Lexemes.{lexeme_at, other_in}

pub lexeme_other : (text : List ℕ) → 0 < length text → get_or text 0 0 ≢ 34 → get_or text 0 0 ≢ 44 →
    get_or text 0 0 ≢ 46 → get_or text 0 0 ≢ 45 → lexeme_at text ≡ other_in (get_or text 0 0) text
unfolding lexeme_at
lexeme_other [] lt p q r s = absurd (omega arith)
lexeme_other (b ∷ text) lt p q r s = rw (ne_eqb b 34 p, ne_eqb b 44 q, ne_eqb b 46 r, ne_eqb b 45 s) refl
