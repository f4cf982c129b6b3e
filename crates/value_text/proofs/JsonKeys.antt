-- Laws of keys in JSON.
use Rattle.std.proofs.Common.{◌≡◌, ℕ, ◌++◌, List, length, take, Bool, codes, ◌∙◌, ap, subst, arith}
use Rattle.std.specs.List.{prefix_len}
use Rattle.std.proofs.lemmas.List.{append_assoc, take_all}
use Rattle.value_text.specs.ValueText.{spelled, is_plain, comma}
use Rattle.value_text.specs.JsonText.{json_string, json_escape}
use Rattle.value_text.specs.JsonParts.{plain_key}
use Rattle.value_text.proofs.StringTexts.{plain_text}

-- a name of plain bytes is its own string
plain_spelled : (name : List ℕ) → prefix_len is_plain name ≡ length name → spelled json_escape name ≡ name
plain_spelled name e =
    let all : take (prefix_len is_plain name) name ≡ name =
    take_all (prefix_len is_plain name) name (omega (arith, e)) in
    subst (λ bytes. spelled json_escape bytes ≡ bytes) all (plain_text json_escape name)

pub plain_key_is : (first : Bool) (name : List ℕ) → prefix_len is_plain name ≡ length name →
    comma first ++ (json_string name ++ codes ":") ≡ plain_key first name
unfolding json_string
plain_key_is first name e =
    ap (λ s. comma first ++ ((codes "\"" ++ (s ++ codes "\"")) ++ codes ":")) (plain_spelled name e)
    ∙ ap (λ s. comma first ++ (codes "\"" ++ s)) (append_assoc name (codes "\"") (codes ":"))
