-- Laws of texts that grow at their end.
use Rattle.std.proofs.Common.{◌≡◌, ℕ, zero, suc, ◌+◌, ◌-◌, ◌/◌, ◌%◌, ◌<◌, ◌≤◌, List, [], ◌∷◌, ◌++◌, take, length, get_or, sym, ap, ◌∙◌, arith, append_assoc, append-nil}
use Rattle.std.specs.List.{flat_map}
use Rattle.std.proofs.lemmas.List.{flat_map_more, take_more, take_all}
use Rattle.named_text.specs.Digits.{padded}

-- one more digit
pub pad_more : (old mid new : List ℕ) (w n : ℕ) → 0 < w → mid ≡ old ++ padded (w - 1) (n / 10) →
    new ≡ mid ++ (48 + n % 10) ∷ [] → new ≡ old ++ padded w n
pad_more old mid new zero n lt p q = absurd (omega arith)
pad_more old mid new (suc w) n lt p q =
    let e : suc w - 1 ≡ w = omega arith in
    q ∙ ap (λ xs. xs ++ (48 + n % 10) ∷ []) (p ∙ ap (λ k. old ++ padded k (n / 10)) e)
    ∙ append_assoc old (padded w (n / 10)) ((48 + n % 10) ∷ [])

pub pad_none : (old : List ℕ) (w n : ℕ) → w ≤ 0 → old ≡ old ++ padded w n
pad_none old zero n le = sym (append-nil old)
pad_none old (suc w) n le = absurd (omega arith)

pub ruleset pads = (pad_more, pad_none)

-- the text of one more item
pub items_more : (f : ℕ → List ℕ) (old text new xs : List ℕ) (i : ℕ) → i < length xs →
    text ≡ old ++ flat_map f (take i xs) → new ≡ text ++ f (get_or xs i 0) → new ≡ old ++ flat_map f (take (i + 1) xs)
items_more f old text new xs i lt p q =
    q ∙ ap (λ t. t ++ f (get_or xs i 0)) p ∙ flat_map_more f old (take i xs) (get_or xs i 0)
    ∙ ap (λ ys. old ++ flat_map f ys) (sym (take_more xs i 0 lt))

pub items_all : (f : ℕ → List ℕ) (old text xs : List ℕ) (i : ℕ) → length xs ≤ i →
    text ≡ old ++ flat_map f (take i xs) → text ≡ old ++ flat_map f xs
items_all f old text xs i le p = p ∙ ap (λ ys. old ++ flat_map f ys) (take_all i xs le)

pub ruleset items = (items_more, items_all)

-- one more byte
pub bytes_more : (old text new xs : List ℕ) (i : ℕ) → i < length xs → text ≡ old ++ take i xs →
    new ≡ text ++ get_or xs i 0 ∷ [] → new ≡ old ++ take (i + 1) xs
bytes_more old text new xs i lt p q =
    q ∙ ap (λ t. t ++ get_or xs i 0 ∷ []) p ∙ append_assoc old (take i xs) (get_or xs i 0 ∷ [])
    ∙ ap (λ ys. old ++ ys) (sym (take_more xs i 0 lt))

pub bytes_all : (old text xs : List ℕ) (i : ℕ) → length xs ≤ i → text ≡ old ++ take i xs → text ≡ old ++ xs
bytes_all old text xs i le p = p ∙ ap (λ ys. old ++ ys) (take_all i xs le)

pub ruleset bytes = (bytes_more, bytes_all)
