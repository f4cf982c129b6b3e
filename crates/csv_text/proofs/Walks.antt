-- A text from a place on.
use Rattle.std.proofs.Common.{◌≡◌, ℕ, suc, ◌+◌, ◌-◌, ◌<◌, ◌≤◌, true, false, List, [], ◌∷◌, ◌++◌, length, drop, get_or, refl, sym, ◌∙◌, ap, arith}
use Rattle.std.specs.Prelude.{◌||◌}
use Rattle.std.proofs.lemmas.List.{drop_more, drop_all, append-nil}
use Rattle.value_text.specs.ValueText.{spelled, spelled_byte as plain_or_escape}
use Rattle.csv_text.specs.Escapes.{whole_count, spelled_byte, escaped_from}
use Rattle.csv_text.specs.Quotes.{is_special, has_special, doubled}
use Rattle.csv_text.proofs.Doubling.{doubled_append}
use Rattle.std.proofs.Common.{◌≢◌, zero}
use Rattle.csv_text.specs.Quotes.{needs_quotes, doubled_byte}
use Rattle.csv_text.specs.Escapes.{escape_text}
use Rattle.csv_text.proofs.Plain.{doubled_plain, escape_special}

-- a text with its escapes, a byte more
pub escaped_next : (left : ℕ) (bytes : List ℕ) (i : ℕ) → i < length bytes
    → doubled (escaped_from left (drop i bytes))
    ≡ doubled (spelled_byte (whole_count left (drop i bytes)) (get_or (drop i bytes) 0 0))
    ++ doubled (escaped_from (whole_count left (drop i bytes) - 1) (drop (i + 1) bytes))
escaped_next left bytes i lt =
    let e : drop i bytes ≡ get_or bytes i 0 ∷ drop (i + 1) bytes = drop_more bytes i 0 lt in
    rw e (doubled_append (spelled_byte (whole_count left (get_or bytes i 0 ∷ drop (i + 1) bytes)) (get_or bytes i 0))
    (escaped_from (whole_count left (get_or bytes i 0 ∷ drop (i + 1) bytes) - 1) (drop (i + 1) bytes)))

pub escaped_end : (left : ℕ) (bytes : List ℕ) (i : ℕ) → length bytes ≤ i →
    doubled (escaped_from left (drop i bytes)) ≡ []
escaped_end left bytes i le = ap (λ s. doubled (escaped_from left s)) (drop_all i bytes le)

-- a string of JSON, a byte more
pub string_next : (escape : ℕ → List ℕ) (bytes : List ℕ) (i : ℕ) → i < length bytes
    → doubled (spelled escape (drop i bytes))
    ≡ doubled (plain_or_escape escape (get_or (drop i bytes) 0 0)) ++ doubled (spelled escape (drop (i + 1) bytes))
string_next escape bytes i lt =
    let e : drop i bytes ≡ get_or bytes i 0 ∷ drop (i + 1) bytes = drop_more bytes i 0 lt in
    rw e (doubled_append (plain_or_escape escape (get_or bytes i 0)) (spelled escape (drop (i + 1) bytes)))

pub string_end : (escape : ℕ → List ℕ) (bytes : List ℕ) (i : ℕ) → length bytes ≤ i →
    doubled (spelled escape (drop i bytes)) ≡ []
string_end escape bytes i le = ap (λ s. doubled (spelled escape s)) (drop_all i bytes le)

-- whether a text has a special byte, a byte more
pub special_here : (bytes : List ℕ) (i : ℕ) → i < length bytes → is_special (get_or (drop i bytes) 0 0) ≡ true →
    has_special (drop i bytes) ≡ true
special_here bytes i lt hit =
    let e : drop i bytes ≡ get_or bytes i 0 ∷ drop (i + 1) bytes = drop_more bytes i 0 lt in
    let here : is_special (get_or bytes i 0) ≡ true = rw e at hit in rw (e, here) refl

pub special_next : (bytes : List ℕ) (i : ℕ) → i < length bytes → is_special (get_or (drop i bytes) 0 0) ≡ false →
    has_special (drop i bytes) ≡ has_special (drop (i + 1) bytes)
special_next bytes i lt miss =
    let e : drop i bytes ≡ get_or bytes i 0 ∷ drop (i + 1) bytes = drop_more bytes i 0 lt in
    let here : is_special (get_or bytes i 0) ≡ false = rw e at miss in
    ap has_special e ∙ ap (λ b. b || has_special (drop (i + 1) bytes)) here

pub special_end : (bytes : List ℕ) (i : ℕ) → length bytes ≤ i → has_special (drop i bytes) ≡ false
special_end bytes i le = ap has_special (drop_all i bytes le)

pub needs_empty : (bytes : List ℕ) → length bytes ≡ 0 → needs_quotes bytes ≡ true
needs_empty [] e = refl
needs_empty (byte ∷ bytes) e = absurd (omega (arith, e))

pub needs_some : (bytes : List ℕ) → length bytes ≢ 0 → needs_quotes bytes ≡ has_special bytes
needs_some [] some = absurd (some refl)
needs_some (byte ∷ bytes) some = refl

pub ruleset needs = (needs_empty, needs_some)

-- a byte of a text with its escapes
pub spelled_escape : (n byte : ℕ) → n ≡ 0 → escape_text byte ≡ doubled (spelled_byte n byte)
spelled_escape zero byte e = sym (doubled_plain (escape_text byte) (escape_special byte))
spelled_escape (suc n) byte e = absurd (omega (arith, e))

pub spelled_plain : (n byte : ℕ) → n ≢ 0 → doubled_byte byte ≡ doubled (spelled_byte n byte)
spelled_plain zero byte some = absurd (some refl)
spelled_plain (suc n) byte some = sym (append-nil (doubled_byte byte))

pub ruleset spelled_bytes = (spelled_escape, spelled_plain)
