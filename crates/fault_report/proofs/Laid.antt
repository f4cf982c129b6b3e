-- Texts that are put together from parts.
use Rattle.std.proofs.Common.{◌≡◌, ℕ, List, [], ◌++◌, ap, ◌∙◌}
use Rattle.std.proofs.lemmas.List.{append_assoc}

-- four parts, one after another
pub four_parts : (a b c d r r1 r2 r3 r4 : List ℕ) → r ≡ [] → r1 ≡ r ++ a → r2 ≡ r1 ++ b → r3 ≡ r2 ++ c → r4 ≡ r3 ++ d →
    r4 ≡ a ++ (b ++ (c ++ d))
four_parts a b c d r r1 r2 r3 r4 e e1 e2 e3 e4 =
    let first : r1 ≡ a = e1 ∙ ap (λ x. x ++ a) e in
    let two : r2 ≡ a ++ b = e2 ∙ ap (λ x. x ++ b) first in
    let three : r3 ≡ a ++ (b ++ c) = e3 ∙ ap (λ x. x ++ c) two ∙ append_assoc a b c in
    e4 ∙ ap (λ x. x ++ d) three ∙ append_assoc a (b ++ c) d ∙ ap (λ x. a ++ x) (append_assoc b c d)
