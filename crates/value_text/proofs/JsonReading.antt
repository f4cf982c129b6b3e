-- A text reads as one JSON value only: a reader returns each value that a text reads as.
use Rattle.std.proofs.Common.{◌≡◌, ◌≢◌, ℕ, zero, suc, ℤ, pos, ◌+◌, ◌-◌, ◌*◌, ◌<◌, ◌≤◌, Bool, true, false, List, [], ◌∷◌, ◌++◌, length, drop, get_or, refl, sym, ◌∙◌, ap, arith, length-append}
use Rattle.std.specs.Prelude.{◌==◌, ◌&&◌, ◌||◌, nat_le, nat_lt, if◌then◌else◌, codes}
use Rattle.std.specs.Str.Parse.{digits_value}
use Rattle.std.proofs.lemmas.List.{append_assoc}
use Rattle.value_text.specs.Json as json
use Rattle.value_text.specs.Json.{signed, IsDigit, IsDigits, IsWhole, IsFraction, IsExponentSign, IsExponent, ReadsNumber}
use Rattle.value_text.specs.Laws.{HasOneReading}
use Rattle.value_text.specs.JsonValue.{Json, JsonFalse, JsonTrue, JsonNull, JsonNumber, JsonString, JsonList, JsonObject, Elements, NoElements, ElementThen, Entries, NoEntries, EntryThen}

-- ---- blanks and digits

abbrev is_blank : ℕ → Bool
is_blank byte = byte == 32 || byte == 9 || byte == 10 || byte == 13

abbrev after_blanks : List ℕ → List ℕ
after_blanks [] = []
after_blanks (byte ∷ rest) = if is_blank byte then after_blanks rest else byte ∷ rest

abbrev is_first : ℕ → List ℕ → Bool
is_first wanted [] = false
is_first wanted (byte ∷ rest) = byte == wanted

blanks_over : {blanks : List ℕ} (rest : List ℕ) → json.IsBlanks blanks →
    after_blanks (blanks ++ rest) ≡ after_blanks rest
blanks_over rest json.no_blank = refl
blanks_over rest (json.one_blank json.space h) = blanks_over rest h
blanks_over rest (json.one_blank json.tab h) = blanks_over rest h
blanks_over rest (json.one_blank json.line_feed h) = blanks_over rest h
blanks_over rest (json.one_blank json.carriage_return h) = blanks_over rest h

abbrev is_digit : ℕ → Bool
is_digit byte = nat_le 48 byte && nat_le byte 57

abbrev digits_in : List ℕ → List ℕ
digits_in [] = []
digits_in (byte ∷ rest) = if is_digit byte then byte ∷ digits_in rest else []

abbrev after_digits : List ℕ → List ℕ
after_digits [] = []
after_digits (byte ∷ rest) = if is_digit byte then after_digits rest else byte ∷ rest

abbrev EndsDigits : List ℕ → Type 0
EndsDigits rest = (digits_in rest ≡ []) × (after_digits rest ≡ rest)

digit_is : (byte : ℕ) → IsDigit byte → is_digit byte ≡ true
digit_is byte h = grind (arith, h)

digits_whole : {digits : List ℕ} (rest : List ℕ) → IsDigits digits → EndsDigits rest →
    (digits_in (digits ++ rest) ≡ digits) × (after_digits (digits ++ rest) ≡ rest)
digits_whole rest json.no_digit e = e
digits_whole rest (json.one_digit {digit = digit} h more) e =
    let is = digit_is digit h in
    let later = digits_whole rest more e in
    rw is (ap (λ s. digit ∷ s) later.0, later.1)

-- ---- numbers

abbrev after_minus : List ℕ → List ℕ
after_minus [] = []
after_minus (byte ∷ rest) = if byte == 45 then rest else byte ∷ rest

abbrev after_sign : List ℕ → List ℕ
after_sign [] = []
after_sign (byte ∷ rest) = if byte == 45 || byte == 43 then rest else byte ∷ rest

abbrev fraction_in : List ℕ → List ℕ
fraction_in [] = []
fraction_in (byte ∷ rest) = if byte == 46 then digits_in rest else []

abbrev after_fraction : List ℕ → List ℕ
after_fraction [] = []
after_fraction (byte ∷ rest) = if byte == 46 then after_digits rest else byte ∷ rest

abbrev is_power : ℕ → Bool
is_power byte = byte == 101 || byte == 69

abbrev power_in : List ℕ → ℤ
power_in [] = pos 0
power_in (byte ∷ rest) =
    if is_power byte then signed (is_first 45 rest) (digits_value 10 (digits_in (after_sign rest))) else pos 0

abbrev after_power : List ℕ → List ℕ
after_power [] = []
after_power (byte ∷ rest) = if is_power byte then after_digits (after_sign rest) else byte ∷ rest

-- the parts of a number, one after another
abbrev number_of : (negative : Bool) (whole behind : List ℕ) (power : ℤ) → Json
number_of negative whole behind power =
    JsonNumber (signed negative (digits_value 10 (whole ++ behind))) (length behind) power

abbrev whole_in : (negative : Bool) → List ℕ → Json × List ℕ
whole_in negative text = (
  number_of negative (digits_in text) (fraction_in (after_digits text))
      (power_in (after_fraction (after_digits text))),
  after_power (after_fraction (after_digits text)),
)

abbrev number_in : List ℕ → Json × List ℕ
number_in text = whole_in (is_first 45 text) (after_minus text)

-- what may be after a number
record Ends (rest : List ℕ) : Type 0 where
  digits : EndsDigits rest
  fraction : (fraction_in rest ≡ []) × (after_fraction rest ≡ rest)
  power : (power_in rest ≡ pos 0) × (after_power rest ≡ rest)

at_end : Ends []
at_end = record { digits = (refl, refl); fraction = (refl, refl); power = (refl, refl) }

ends_at : (byte : ℕ) (rest : List ℕ) → is_digit byte ≡ false → (byte == 46) ≡ false →
    is_power byte ≡ false → Ends (byte ∷ rest)
ends_at byte rest d f p =
    record { digits = (rw d refl, rw d refl); fraction = (rw f refl, rw f refl); power = (rw p refl, rw p refl) }

blanks_end : {blanks : List ℕ} (rest : List ℕ) → json.IsBlanks blanks → Ends rest → Ends (blanks ++ rest)
blanks_end rest json.no_blank e = e
blanks_end rest (json.one_blank {blanks = blanks} json.space h) e = ends_at 32 (blanks ++ rest) refl refl refl
blanks_end rest (json.one_blank {blanks = blanks} json.tab h) e = ends_at 9 (blanks ++ rest) refl refl refl
blanks_end rest (json.one_blank {blanks = blanks} json.line_feed h) e = ends_at 10 (blanks ++ rest) refl refl refl
blanks_end rest (json.one_blank {blanks = blanks} json.carriage_return h) e = ends_at 13 (blanks ++ rest) refl refl refl

-- a digit is no sign
no_minus_is : (byte : ℕ) → IsDigit byte → (byte == 45) ≡ false
no_minus_is byte h = grind (arith, h)

no_plus_is : (byte : ℕ) → IsDigit byte → (byte == 43) ≡ false
no_plus_is byte h = grind (arith, h)

-- digits after a sign
power_digits : (rest : List ℕ) {sign : List ℕ} {negative : Bool} (digit : ℕ) (digits : List ℕ)
    → IsExponentSign sign negative → IsDigit digit → IsDigits digits → EndsDigits rest
    → (signed (is_first 45 ((sign ++ digit ∷ digits) ++ rest))
    (digits_value 10 (digits_in (after_sign ((sign ++ digit ∷ digits) ++ rest))))
    ≡ signed negative (digits_value 10 (digit ∷ digits)))
    × (after_digits (after_sign ((sign ++ digit ∷ digits) ++ rest)) ≡ rest)
power_digits rest digit digits json.no_sign d h e =
    let all = digits_whole rest (json.one_digit d h) e in
    rw (no_minus_is digit d, no_plus_is digit d) (ap (λ s. pos (digits_value 10 s)) all.0, all.1)
power_digits rest digit digits json.minus_sign d h e =
    let all = digits_whole rest (json.one_digit d h) e in (ap (λ s. signed true (digits_value 10 s)) all.0, all.1)
power_digits rest digit digits json.plus_sign d h e =
    let all = digits_whole rest (json.one_digit d h) e in (ap (λ s. pos (digits_value 10 s)) all.0, all.1)

power_whole : (rest : List ℕ) {end : List ℕ} {power : ℤ} → IsExponent end power → Ends rest
    → (power_in (end ++ rest) ≡ power) × (after_power (end ++ rest) ≡ rest) × EndsDigits (end ++ rest)
    × (fraction_in (end ++ rest) ≡ []) × (after_fraction (end ++ rest) ≡ end ++ rest)
power_whole rest json.no_exponent e = (e.power.0, e.power.1, e.digits, e.fraction.0, e.fraction.1)
power_whole rest (json.exponent {digit = digit} {digits = digits} json.small_letter s d h) e =
    let p = power_digits rest digit digits s d h e.digits in (p.0, p.1, (refl, refl), refl, refl)
power_whole rest (json.exponent {digit = digit} {digits = digits} json.capital_letter s d h) e =
    let p = power_digits rest digit digits s d h e.digits in (p.0, p.1, (refl, refl), refl, refl)

fraction_whole : (rest : List ℕ) {part behind : List ℕ} → IsFraction part behind → EndsDigits rest
    → fraction_in rest ≡ [] → after_fraction rest ≡ rest
    → (fraction_in (part ++ rest) ≡ behind) × (after_fraction (part ++ rest) ≡ rest) × EndsDigits (part ++ rest)
fraction_whole rest json.no_fraction e f a = (f, a, e)
fraction_whole rest (json.fraction d h) e f a =
    let all = digits_whole rest (json.one_digit d h) e in (all.0, all.1, (refl, refl))

whole_digits : {whole : List ℕ} → IsWhole whole → IsDigits whole
whole_digits json.only_zero = json.one_digit (omega arith, omega arith) json.no_digit
whole_digits (json.leading low high h) = json.one_digit (omega (arith, low), high) h

whole_whole : (rest : List ℕ) (negative : Bool) {whole part behind end : List ℕ} {power : ℤ} → IsWhole whole
    → IsFraction part behind → IsExponent end power → Ends rest
    → whole_in negative (whole ++ (part ++ (end ++ rest))) ≡ (number_of negative whole behind power, rest)
whole_whole rest negative {end = end} w f p e =
    let power = power_whole rest p e in
    let behind = fraction_whole (end ++ rest) f power.2 power.3 power.4 in
    let all = digits_whole _ (whole_digits w) behind.2 in
    rw (all.0, all.1, behind.0, behind.1, power.0, power.1) refl

-- a number begins with a minus or a digit
first_digit : {whole : List ℕ} (rest : List ℕ) → IsWhole whole →
    (is_first 45 (whole ++ rest) ≡ false) × (after_minus (whole ++ rest) ≡ whole ++ rest)
first_digit rest json.only_zero = (refl, refl)
first_digit rest (json.leading {digit = digit} low high h) =
    let is = no_minus_is digit (omega (arith, low), high) in rw is (refl, refl)

number_whole : (rest : List ℕ) {text : List ℕ} {value : Json} → ReadsNumber text value → Ends rest →
    number_in (text ++ rest) ≡ (value, rest)
number_whole rest (json.number {whole = whole} {part = part} {end = end} json.no_minus w f p) e =
    let first = first_digit (part ++ (end ++ rest)) w in
    rw (append_assoc whole (part ++ end) rest, append_assoc part end rest, first.0, first.1)
    (whole_whole rest false w f p e)
number_whole rest (json.number {whole = whole} {part = part} {end = end} json.minus w f p) e =
    rw (append_assoc whole (part ++ end) rest, append_assoc part end rest) (whole_whole rest true w f p e)

-- ---- strings

abbrev short_value : ℕ → ℕ
short_value byte = if byte == 98 then 8 else if byte == 102 then 12 else if byte == 110 then 10 else if byte == 114
    then 13 else if byte == 116 then 9 else byte

abbrev hex_value : ℕ → ℕ
hex_value byte = if nat_lt byte 58 then byte - 48 else if nat_lt byte 71 then byte - 55 else byte - 87

abbrev hex_at : List ℕ → ℕ → ℕ
hex_at text place = hex_value (get_or text place 0)

-- what is after a backslash
abbrev escape_in : List ℕ → ℕ
escape_in [] = 0
escape_in (byte ∷ rest) = if byte == 117
    then ((hex_at rest 0 * 16 + hex_at rest 1) * 16 + hex_at rest 2) * 16 + hex_at rest 3 else short_value byte

abbrev after_escape : List ℕ → List ℕ
after_escape [] = []
after_escape (byte ∷ rest) = if byte == 117 then drop 4 rest else rest

abbrev with_character : ℕ → List ℕ × List ℕ → List ℕ × List ℕ
with_character character read = (character ∷ read.0, read.1)

-- the characters up to a quote, and what is after it
abbrev characters_in : (fuel : ℕ) → List ℕ → List ℕ × List ℕ
characters_in zero text = ([], text)
characters_in (suc n) [] = ([], [])
characters_in (suc n) (byte ∷ rest) =
    if byte == 34 then ([], rest)
    else if byte == 92 then with_character (escape_in rest) (characters_in n (after_escape rest))
    else with_character byte (characters_in n rest)

short_is : (rest : List ℕ) {letter character : ℕ} → json.IsShort letter character →
    (escape_in (letter ∷ rest) ≡ character) × (after_escape (letter ∷ rest) ≡ rest)
short_is rest json.quote = (refl, refl)
short_is rest json.backslash = (refl, refl)
short_is rest json.slash = (refl, refl)
short_is rest json.letter_b = (refl, refl)
short_is rest json.letter_f = (refl, refl)
short_is rest json.letter_n = (refl, refl)
short_is rest json.letter_r = (refl, refl)
short_is rest json.letter_t = (refl, refl)

hex_is : {byte value : ℕ} → json.IsHexDigit byte value → hex_value byte ≡ value
hex_is (json.decimal_digit {value = value} small) = decimal_is value small
  where
    decimal_is : (n : ℕ) → n < 10 → hex_value (48 + n) ≡ n
    decimal_is n small = let below : nat_lt (48 + n) 58 ≡ true = grind (arith, small) in rw below (omega arith)
hex_is (json.upper_digit {value = value} from below) = upper_is value from below
  where
    upper_is : (n : ℕ) → 10 ≤ n → n < 16 → hex_value (55 + n) ≡ n
    upper_is n from below =
        let no_digit : nat_lt (55 + n) 58 ≡ false = grind (arith, from) in
        let upper : nat_lt (55 + n) 71 ≡ true = grind (arith, below) in
        rw (no_digit, upper) (omega arith)
hex_is (json.lower_digit {value = value} from below) = lower_is value from
  where
    lower_is : (n : ℕ) → 10 ≤ n → hex_value (87 + n) ≡ n
    lower_is n from =
        let no_digit : nat_lt (87 + n) 58 ≡ false = grind (arith, from) in
        let no_upper : nat_lt (87 + n) 71 ≡ false = grind (arith, from) in
        rw (no_digit, no_upper) (omega arith)

is_other : (byte other : ℕ) → byte ≢ other → (byte == other) ≡ false
is_other byte other h = grind (arith, h)

characters_whole : (n : ℕ) (rest : List ℕ) {text characters : List ℕ} → length text < n →
    json.ReadsCharacters text characters → characters_in n (text ++ 34 ∷ rest) ≡ (characters, rest)
characters_whole zero rest small h = absurd (omega (arith, small))
characters_whole (suc n) rest small json.no_character = refl
characters_whole (suc n) rest small (json.plain_character {byte = byte} from below a b h) =
    rw (is_other byte 34 a, is_other byte 92 b)
    (ap (with_character byte) (characters_whole n rest (omega (arith, small)) h))
characters_whole (suc n) rest small (json.short_escape {rest = text} s h) =
    let is = short_is (text ++ 34 ∷ rest) s in
    rw (is.0, is.1) (ap (with_character _) (characters_whole n rest (omega (arith, small)) h))
characters_whole (suc n) rest small (json.long_escape {rest = text} a b c d h) =
    rw (hex_is a, hex_is b, hex_is c, hex_is d)
    (ap (with_character _) (characters_whole n rest (omega (arith, small)) h))

-- ---- values

abbrev as_list : Elements × List ℕ → Json × List ℕ
as_list read = (JsonList read.0, read.1)

abbrev as_object : Entries × List ℕ → Json × List ℕ
as_object read = (JsonObject read.0, read.1)

abbrev as_string : List ℕ × List ℕ → Json × List ℕ
as_string read = (JsonString read.0, read.1)

-- an element and what is read after it, without the bracket at the end
abbrev element_then : (more : List ℕ → Elements × List ℕ) → Json → (behind : List ℕ) → Elements × List ℕ
element_then more value behind =
    let next = more (after_blanks (drop 1 behind)) in
    if is_first 44 behind then (ElementThen value next.0, next.1) else (ElementThen value NoElements, drop 1 behind)

abbrev entry_then : (more : List ℕ → Entries × List ℕ) → (key : List ℕ) → Json → (behind : List ℕ) → Entries × List ℕ
entry_then more key value behind =
    let next = more (after_blanks (drop 1 behind)) in
    if is_first 44 behind then (EntryThen key value next.0, next.1) else (EntryThen key value NoEntries, drop 1 behind)

-- a key and what is after its colon
abbrev key_in : List ℕ → List ℕ × List ℕ
key_in text = characters_in (length text) (drop 1 text)

abbrev after_colon : List ℕ → List ℕ
after_colon text = drop 1 (after_blanks text)

abbrev list_in : (elements : List ℕ → Elements × List ℕ) → List ℕ → Json × List ℕ
list_in elements text = if is_first 93 text then (JsonList NoElements, drop 1 text) else as_list (elements text)

abbrev object_in : (entries : List ℕ → Entries × List ℕ) → List ℕ → Json × List ℕ
object_in entries text = if is_first 125 text then (JsonObject NoEntries, drop 1 text) else as_object (entries text)

abbrev mutual
  value_in : (fuel : ℕ) → List ℕ → Json × List ℕ
  value_in zero text = (JsonNull, text)
  value_in (suc n) [] = (JsonNull, [])
  value_in (suc n) (byte ∷ rest) =
      if byte == 34 then as_string (characters_in (suc (length rest)) rest)
      else if byte == 91 then list_in (elements_in n) (after_blanks rest)
      else if byte == 123 then object_in (entries_in n) (after_blanks rest)
      else if byte == 102 then (JsonFalse, drop 4 rest)
      else if byte == 116 then (JsonTrue, drop 3 rest)
      else if byte == 110 then (JsonNull, drop 3 rest)
      else number_in (byte ∷ rest)

  elements_in : (fuel : ℕ) → List ℕ → Elements × List ℕ
  elements_in zero text = (NoElements, text)
  elements_in (suc n) text = let read = value_in n text in element_then (elements_in n) read.0 (after_blanks read.1)

  entries_in : (fuel : ℕ) → List ℕ → Entries × List ℕ
  entries_in zero text = (NoEntries, text)
  entries_in (suc n) text =
      let key = key_in text in
      let read = value_in n (after_blanks (after_colon key.1)) in
      entry_then (entries_in n) key.0 read.0 (after_blanks read.1)

-- a value begins with no blank, and with no bracket that closes
abbrev BeginsWell : List ℕ → Type 0
BeginsWell text = (after_blanks text ≡ text) × (is_first 93 text ≡ false)

digit_first : (digit : ℕ) (rest : List ℕ) → IsDigit digit → BeginsWell (digit ∷ rest)
digit_first digit rest h =
    let blank : is_blank digit ≡ false = grind (arith, h) in
    let bracket : (digit == 93) ≡ false = grind (arith, h) in
    (ap (λ b. if b then after_blanks rest else digit ∷ rest) blank, bracket)

number_first : {text : List ℕ} {value : Json} (rest : List ℕ) → ReadsNumber text value → BeginsWell (text ++ rest)
number_first rest (json.number json.minus w f p) = (refl, refl)
number_first rest (json.number json.no_minus json.only_zero f p) = (refl, refl)
number_first rest (json.number json.no_minus (json.leading {digit = digit} low high h) f p) =
    digit_first digit _ (omega (arith, low), high)

value_first : {text : List ℕ} {value : Json} (rest : List ℕ) → json.ReadsValue text value → BeginsWell (text ++ rest)
value_first rest json.false_value = (refl, refl)
value_first rest json.true_value = (refl, refl)
value_first rest json.null_value = (refl, refl)
value_first rest (json.number_value h) = number_first rest h
value_first rest (json.string_value (json.string h)) = (refl, refl)
value_first rest (json.empty_list h) = (refl, refl)
value_first rest (json.list h) = (refl, refl)
value_first rest (json.empty_object h) = (refl, refl)
value_first rest (json.object h) = (refl, refl)

-- a number is read if no other value begins
digit_value : (n digit : ℕ) (rest : List ℕ) → IsDigit digit → value_in (suc n) (digit ∷ rest) ≡ number_in (digit ∷ rest)
digit_value n digit rest h =
    let a : (digit == 34) ≡ false = grind (arith, h) in
    let b : (digit == 91) ≡ false = grind (arith, h) in
    let c : (digit == 123) ≡ false = grind (arith, h) in
    let d : (digit == 102) ≡ false = grind (arith, h) in
    let e : (digit == 116) ≡ false = grind (arith, h) in
    let f : (digit == 110) ≡ false = grind (arith, h) in
    rw (a, b, c, d, e, f) refl

number_value : (n : ℕ) {text : List ℕ} {value : Json} (rest : List ℕ) → ReadsNumber text value →
    value_in (suc n) (text ++ rest) ≡ number_in (text ++ rest)
number_value n rest (json.number json.minus w f p) = refl
number_value n rest (json.number json.no_minus json.only_zero f p) = refl
number_value n rest (json.number json.no_minus (json.leading {digit = digit} low high h) f p) =
    digit_value n digit _ (omega (arith, low), high)

-- what is read of a value between blanks
record IsRead (n : ℕ) (text rest : List ℕ) (meant : Json) : Type 0 where
  value : (value_in n (after_blanks text)).0 ≡ meant
  behind : after_blanks (value_in n (after_blanks text)).1 ≡ after_blanks rest
  first : is_first 93 (after_blanks text) ≡ false

-- and of a key and a value
record IsEntry (n : ℕ) (text rest : List ℕ) (named : List ℕ) (meant : Json) : Type 0 where
  key : (key_in (after_blanks text)).0 ≡ named
  value : (value_in n (after_blanks (after_colon (key_in (after_blanks text)).1))).0 ≡ meant
  behind : after_blanks (value_in n (after_blanks (after_colon (key_in (after_blanks text)).1))).1 ≡ after_blanks rest
  first : is_first 125 (after_blanks text) ≡ false

-- an entry, cut at its quotes and its colon
entry_bare : (before text after right rest : List ℕ) → json.IsBlanks before
    → after_blanks ((before ++ ((codes "\"" ++ (text ++ codes "\"")) ++ (after ++ (codes ":" ++ right)))) ++ rest)
    ≡ 34 ∷ (text ++ 34 ∷ (after ++ 58 ∷ (right ++ rest)))
entry_bare before text after right rest b =
    let value = codes ":" ++ right in
    ap after_blanks (append_assoc before ((codes "\"" ++ (text ++ codes "\"")) ++ (after ++ value)) rest)
    ∙ blanks_over (((codes "\"" ++ (text ++ codes "\"")) ++ (after ++ value)) ++ rest) b
    ∙ ap (λ t. 34 ∷ t)
    (append_assoc (text ++ codes "\"") (after ++ value) rest ∙ append_assoc text (codes "\"") ((after ++ value) ++ rest)
    ∙ ap (λ t. text ++ 34 ∷ t) (append_assoc after value rest))

entry_length : (before text after right : List ℕ) →
    length right < length (before ++ ((codes "\"" ++ (text ++ codes "\"")) ++ (after ++ (codes ":" ++ right))))
entry_length before text after right =
    omega (
      arith,
      length-append before ((codes "\"" ++ (text ++ codes "\"")) ++ (after ++ (codes ":" ++ right))),
      length-append (codes "\"" ++ (text ++ codes "\"")) (after ++ (codes ":" ++ right)),
      length-append after (codes ":" ++ right),
    )

mutual
  value_whole : (n : ℕ) (rest : List ℕ) {text : List ℕ} {value : Json} → length text < n → Ends rest →
      json.ReadsValue text value → value_in n (text ++ rest) ≡ (value, rest)
  value_whole zero rest small e h = absurd (omega (arith, small))
  value_whole (suc n) rest small e json.false_value = refl
  value_whole (suc n) rest small e json.true_value = refl
  value_whole (suc n) rest small e json.null_value = refl
  value_whole (suc n) rest small e (json.number_value h) = number_value n rest h ∙ number_whole rest h e
  value_whole (suc n) rest small e (json.string_value (json.string {text = text} h)) =
      rw (append_assoc text (codes "\"") rest) (ap as_string
      (characters_whole (suc (length (text ++ 34 ∷ rest))) rest (omega (arith, length-append text (34 ∷ rest))) h))
  value_whole (suc n) rest small e (json.empty_list {blanks = blanks} h) =
      rw (append_assoc blanks (codes "]") rest, blanks_over (93 ∷ rest) h) refl
  value_whole (suc n) rest small e (json.list {text = text} h) =
      let read = elements_whole n rest (omega (arith, small, length-append text (codes "]"))) h in
      rw (append_assoc text (codes "]") rest, read.1, read.0) refl
  value_whole (suc n) rest small e (json.empty_object {blanks = blanks} h) =
      rw (append_assoc blanks (codes "}") rest, blanks_over (125 ∷ rest) h) refl
  value_whole (suc n) rest small e (json.object {text = text} h) =
      let read = entries_whole n rest (omega (arith, small, length-append text (codes "}"))) h in
      rw (append_assoc text (codes "}") rest, read.1, read.0) refl

  json_whole : (n : ℕ) (rest : List ℕ) {text : List ℕ} {value : Json} → length text < n → Ends rest →
      json.Reads text value → IsRead n (text ++ rest) rest value
  json_whole n rest small e (json.json {before = before} {text = text} {after = after} b v a) =
      let bare = value_first (after ++ rest) v in
      let few : length text < n =
      omega (arith, small, length-append before (text ++ after), length-append text after) in
      let read = value_whole n (after ++ rest) few (blanks_end rest a e) v in
      let whole : after_blanks ((before ++ (text ++ after)) ++ rest) ≡ text ++ (after ++ rest) =
      rw (append_assoc before (text ++ after) rest, append_assoc text after rest)
      (blanks_over (text ++ (after ++ rest)) b ∙ bare.0) in
      record {
        value = ap (λ t. (value_in n t).0) whole ∙ ap (λ p. p.0) read;
        behind = ap (λ t. after_blanks (value_in n t).1) whole ∙ ap (λ p. after_blanks p.1) read ∙ blanks_over rest a;
        first = ap (is_first 93) whole ∙ bare.1;
      }

  elements_whole : (n : ℕ) (rest : List ℕ) {text : List ℕ} {elements : Elements} → length text + 1 < n
      → json.ReadsElements text elements
      → (elements_in n (after_blanks (text ++ 93 ∷ rest)) ≡ (elements, rest))
      × (is_first 93 (after_blanks (text ++ 93 ∷ rest)) ≡ false)
  elements_whole zero rest small h = absurd (omega (arith, small))
  elements_whole (suc n) rest small (json.last_element h) =
      let read = json_whole n (93 ∷ rest) (omega (arith, small)) (ends_at 93 rest refl refl refl) h in
      (rw (read.value, read.behind) refl, read.first)
  elements_whole (suc n) rest small (json.element {text = text} {more = more} h g) =
      let long = length-append text (codes "," ++ more) in
      let read = json_whole n (44 ∷ (more ++ 93 ∷ rest)) (omega (arith, small, long))
      (ends_at 44 (more ++ 93 ∷ rest) refl refl refl) h in
      let later = elements_whole n rest (omega (arith, small, long)) g in
      rw (append_assoc text (codes "," ++ more) (93 ∷ rest)) (rw (read.value, read.behind, later.0) refl, read.first)

  entries_whole : (n : ℕ) (rest : List ℕ) {text : List ℕ} {entries : Entries} → length text + 1 < n
      → json.ReadsEntries text entries
      → (entries_in n (after_blanks (text ++ 125 ∷ rest)) ≡ (entries, rest))
      × (is_first 125 (after_blanks (text ++ 125 ∷ rest)) ≡ false)
  entries_whole zero rest small h = absurd (omega (arith, small))
  entries_whole (suc n) rest small (json.last_entry h) =
      let read = entry_whole n (125 ∷ rest) (omega (arith, small)) (ends_at 125 rest refl refl refl) h in
      (rw (read.key, read.value, read.behind) refl, read.first)
  entries_whole (suc n) rest small (json.one_entry {text = text} {more = more} h g) =
      let long = length-append text (codes "," ++ more) in
      let read = entry_whole n (44 ∷ (more ++ 125 ∷ rest)) (omega (arith, small, long))
      (ends_at 44 (more ++ 125 ∷ rest) refl refl refl) h in
      let later = entries_whole n rest (omega (arith, small, long)) g in
      rw (append_assoc text (codes "," ++ more) (125 ∷ rest))
      (rw (read.key, read.value, read.behind, later.0) refl, read.first)

  entry_whole : (n : ℕ) (rest : List ℕ) {text key : List ℕ} {value : Json} → length text < n → Ends rest →
      json.ReadsEntry text key value → IsEntry n (text ++ rest) rest key value
  entry_whole n rest small e (json.entry {before = before} {after = after} {right = right} b
      (json.string {text = text} c) a r) =
      let behind = after ++ 58 ∷ (right ++ rest) in
      let whole = entry_bare before text after right rest b in
      let few : length right < n = omega (arith, small, entry_length before text after right) in
      let key = characters_whole (suc (length (text ++ 34 ∷ behind))) behind
      (omega (arith, length-append text (34 ∷ behind))) c in
      let colon : after_colon behind ≡ right ++ rest = ap (drop 1) (blanks_over (58 ∷ (right ++ rest)) a) in
      let read = json_whole n rest few e r in
      let reached : after_colon (key_in (34 ∷ (text ++ 34 ∷ behind))).1 ≡ right ++ rest =
      ap (λ p. after_colon p.1) key ∙ colon in
      record {
        key = ap (λ t. (key_in t).0) whole ∙ ap (λ p. p.0) key;
        value = ap (λ t. (value_in n (after_blanks (after_colon (key_in t).1))).0) whole
            ∙ ap (λ t. (value_in n (after_blanks t)).0) reached ∙ read.value;
        behind = ap (λ t. after_blanks (value_in n (after_blanks (after_colon (key_in t).1))).1) whole
            ∙ ap (λ t. after_blanks (value_in n (after_blanks t)).1) reached ∙ read.behind;
        first = ap (is_first 125) whole;
      }

pub one_reading : HasOneReading
one_reading text a b h g =
    let first = json_whole (suc (length text)) [] (omega arith) at_end h in
    let second = json_whole (suc (length text)) [] (omega arith) at_end g in
    sym first.value ∙ second.value
