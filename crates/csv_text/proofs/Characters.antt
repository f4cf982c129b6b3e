-- The characters that are printed as they are have the bytes of UTF-8.
use Rattle.std.proofs.Common.{◌≡◌, ◌≢◌, ℕ, ◌+◌, ◌-◌, ◌*◌, ◌/◌, ◌%◌, ◌<◌, ◌≤◌, true, false, List, [], ◌∷◌, ◌++◌, get_or, inl, inr, refl, ◌∙◌, ap, arith}
use Rattle.std.specs.Prelude.{◌==◌, ◌⊎◌, nat_lt}
use Rattle.std.specs.Int.{is_in_range}
use Rattle.std.specs.Char.{IsScalar, encode_utf8}
use Rattle.std.proofs.lemmas.Bool.{cases_Bool, false≢true}
use lib.Utf8.{scalar_cases}
use Rattle.csv_text.specs.Characters.{is_plain, least_second, greatest_second, may_follow, is_later, long_size, character_size}
use Rattle.csv_text.specs.TextLaws.{is_printed, HasSize, HasCharacter}
use Rattle.csv_text.proofs.Escaping.{IsLong, no_long, long_two, long_three, long_four, long_is, range_is, second_is}

high_plain : (a : ℕ) → 128 ≤ a → is_plain a ≡ false
high_plain a h = grind (arith, h)

in_range : (low high n : ℕ) → low ≤ n → n ≤ high → is_in_range low high n ≡ true
in_range low high n a b = grind (arith, a, b)

is_that : (byte n : ℕ) → (byte == n) ≡ true → byte ≡ n
is_that byte n h = grind (arith, h)

least_is : (a b : ℕ) → 128 ≤ b → (a ≡ 0xC2 → 0xA0 ≤ b) → (a ≡ 0xE0 → 0xA0 ≤ b) → (a ≡ 0xF0 → 0x90 ≤ b) →
    least_second a ≤ b
least_is a b low x y z = elim (cases_Bool (a == 0xC2)) [
  | inl hit ↦ rw hit (x (is_that a 0xC2 hit))
  | inr miss ↦ rw miss (elim (cases_Bool (a == 0xE0)) [
    | inl hit ↦ rw hit (y (is_that a 0xE0 hit))
    | inr miss ↦ rw miss (elim (cases_Bool (a == 0xF0)) [
      | inl hit ↦ rw hit (z (is_that a 0xF0 hit))
      | inr miss ↦ rw miss low
    ])
  ])
]

greatest_is : (a b : ℕ) → b ≤ 191 → (a ≡ 0xED → b ≤ 0x9F) → (a ≡ 0xF4 → b ≤ 0x8F) → b ≤ greatest_second a
greatest_is a b high x y = elim (cases_Bool (a == 0xED)) [
  | inl hit ↦ rw hit (x (is_that a 0xED hit))
  | inr miss ↦ rw miss (elim (cases_Bool (a == 0xF4)) [
    | inl hit ↦ rw hit (y (is_that a 0xF4 hit))
    | inr miss ↦ rw miss high
  ])
]

follows : (a b : ℕ) → 128 ≤ b → b ≤ 191 → (a ≡ 0xC2 → 0xA0 ≤ b) → (a ≡ 0xE0 → 0xA0 ≤ b) → (a ≡ 0xF0 → 0x90 ≤ b)
    → (a ≡ 0xED → b ≤ 0x9F) → (a ≡ 0xF4 → b ≤ 0x8F) → may_follow a b ≡ true
follows a b low high u v w x y =
    in_range (least_second a) (greatest_second a) b (least_is a b low u v w) (greatest_is a b high x y)

printed_high : (c : ℕ) → 128 ≤ c → is_printed c ≡ true → 160 ≤ c
printed_high c h e = grind (arith, h, e)

printed_low : (c : ℕ) → c < 128 → is_printed c ≡ true → is_plain c ≡ true
printed_low c h e = grind (arith, h, e)

lt_is : (c n : ℕ) → nat_lt c n ≡ true → c < n
lt_is c n h = grind (arith, h)

ge_is : (c n : ℕ) → nat_lt c n ≡ false → n ≤ c
ge_is c n h = grind (arith, h)

size_two : (c : ℕ) (rest : List ℕ) → 160 ≤ c → c < 2048 →
    character_size ((192 + c / 64) ∷ (128 + c % 64) ∷ rest) ≡ 2
size_two c rest low high =
    let f = follows (192 + c / 64) (128 + c % 64) (omega arith) (omega arith) (λ e. omega (arith, e, low))
    (λ e. omega (arith, e, high)) (λ e. omega (arith, e, high)) (λ e. omega (arith, e, high))
    (λ e. omega (arith, e, high)) in
    rw (
      high_plain (192 + c / 64) (omega arith),
      f,
      in_range 0xC2 0xDF (192 + c / 64) (omega (arith, low)) (omega (arith, high)),
    ) refl

size_three : (c : ℕ) (rest : List ℕ) → 2048 ≤ c → c < 65536 → ((c < 55296) ⊎ (57344 ≤ c))
    → character_size ((224 + c / 4096) ∷ (128 + c / 64 % 64) ∷ (128 + c % 64) ∷ rest) ≡ 3
size_three c rest low high gap =
    let surrogate : 224 + c / 4096 ≡ 0xED → 128 + c / 64 % 64 ≤ 0x9F = elim gap [
      | inl l ↦ λ e. omega (arith, e, l)
      | inr g ↦ λ e. omega (arith, e, g)
    ] in
    let f = follows (224 + c / 4096) (128 + c / 64 % 64) (omega arith) (omega arith) (λ e. omega (arith, e))
    (λ e. omega (arith, e, low)) (λ e. omega (arith, e, high)) surrogate (λ e. omega (arith, e, high)) in
    let no : is_in_range 0xC2 0xDF (224 + c / 4096) ≡ false = out 0xC2 0xDF (224 + c / 4096) (omega arith) in
    rw (
      high_plain (224 + c / 4096) (omega arith),
      f,
      no,
      in_range 0xE0 0xEF (224 + c / 4096) (omega arith) (omega (arith, high)),
      in_range 0x80 0xBF (128 + c % 64) (omega arith) (omega arith),
    ) refl
  where
    out : (lo hi n : ℕ) → hi < n → is_in_range lo hi n ≡ false
    out lo hi n h = grind (arith, h)

size_four : (c : ℕ) (rest : List ℕ) → 65536 ≤ c → c < 1114112
    → character_size ((240 + c / 262144) ∷ (128 + c / 4096 % 64) ∷ (128 + c / 64 % 64) ∷ (128 + c % 64) ∷ rest) ≡ 4
size_four c rest low high =
    let f = follows (240 + c / 262144) (128 + c / 4096 % 64) (omega arith) (omega arith) (λ e. omega (arith, e))
    (λ e. omega (arith, e)) (λ e. omega (arith, e, low)) (λ e. omega (arith, e)) (λ e. omega (arith, e, high)) in
    rw (
      high_plain (240 + c / 262144) (omega arith),
      f,
      out 0xC2 0xDF (240 + c / 262144) (omega arith),
      out 0xE0 0xEF (240 + c / 262144) (omega arith),
      in_range 0xF0 0xF4 (240 + c / 262144) (omega arith) (omega (arith, high)),
      in_range 0x80 0xBF (128 + c / 64 % 64) (omega arith) (omega arith),
      in_range 0x80 0xBF (128 + c % 64) (omega arith) (omega arith),
    ) refl
  where
    out : (lo hi n : ℕ) → hi < n → is_in_range lo hi n ≡ false
    out lo hi n h = grind (arith, h)

pub has_size : HasSize
unfolding encode_utf8
has_size c rest is printed = elim (cases_Bool (nat_lt c 128)) [
  | inl low ↦ rw low (rw (printed_low c (lt_is c 128 low) printed) refl)
  | inr one ↦ rw one (elim (cases_Bool (nat_lt c 2048)) [
    | inl low ↦ rw low (size_two c rest (printed_high c (ge_is c 128 one) printed) (lt_is c 2048 low))
    | inr two ↦ rw two (elim (cases_Bool (nat_lt c 65536)) [
      | inl low ↦ rw low (size_three c rest (ge_is c 2048 two) (lt_is c 65536 low) (elim (scalar_cases c is) [
        | inl below ↦ inl below
        | inr above ↦ inr above.0
      ]))
      | inr three ↦ rw three (elim (scalar_cases c is) [
        | inl below ↦ absurd (omega (arith, below, ge_is c 65536 three))
        | inr above ↦ size_four c rest (ge_is c 65536 three) above.1
      ])
    ])
  ])
]

-- ---- a character where there is a size

abbrev Found : List ℕ → Type 0
Found bytes = (c : ℕ) × (rest : List ℕ) × IsScalar c × (is_printed c ≡ true) × (bytes ≡ encode_utf8 c ++ rest)

not_lt : (c n : ℕ) → n ≤ c → nat_lt c n ≡ false
not_lt c n h = grind (arith, h)

is_lt : (c n : ℕ) → c < n → nat_lt c n ≡ true
is_lt c n h = grind (arith, h)

low_is : (c : ℕ) → c < 55296 → IsScalar c
low_is c h = rw (is_lt c 55296 h) refl

pair : {a b : ℕ} {xs ys : List ℕ} → a ≡ b → xs ≡ ys → a ∷ xs ≡ b ∷ ys
pair {a} {b} {xs} {ys} e f = ap (λ n. n ∷ xs) e ∙ ap (λ s. b ∷ s) f

second_least : (a b : ℕ) → may_follow a b ≡ true → a ≡ 0xC2 → 0xA0 ≤ b
second_least a b f e = grind (arith, f, e)

third_least : (a b : ℕ) → may_follow a b ≡ true → a ≡ 0xE0 → 0xA0 ≤ b
third_least a b f e = grind (arith, f, e)

fourth_least : (a b : ℕ) → may_follow a b ≡ true → a ≡ 0xF0 → 0x90 ≤ b
fourth_least a b f e = grind (arith, f, e)

third_greatest : (a b : ℕ) → may_follow a b ≡ true → a ≡ 0xED → b ≤ 0x9F
third_greatest a b f e = grind (arith, f, e)

fourth_greatest : (a b : ℕ) → may_follow a b ≡ true → a ≡ 0xF4 → b ≤ 0x8F
fourth_greatest a b f e = grind (arith, f, e)

printed_is : (c : ℕ) → 160 ≤ c → is_printed c ≡ true
printed_is c h = grind (arith, h)

plain_printed : (c : ℕ) → is_plain c ≡ true → (c < 128) × (is_printed c ≡ true)
plain_printed c e = (grind (arith, e), grind (arith, e))

found_one : (a : ℕ) (rest : List ℕ) → is_plain a ≡ true → Found (a ∷ rest)
unfolding encode_utf8
found_one a rest e =
    let p = plain_printed a e in
    (a, rest, low_is a (omega (arith, p.0)), p.1, rw (is_lt a 128 p.0) refl)

found_two : (a b : ℕ) (rest : List ℕ) → may_follow a b ≡ true → is_in_range 0xC2 0xDF a ≡ true → Found (a ∷ b ∷ rest)
unfolding encode_utf8
found_two a b rest f two =
    let c = (a - 192) * 64 + (b - 128) in
    let r = range_is 0xC2 0xDF a two in
    let s = second_is a b f in
    let low : 160 ≤ c = elim (cases_Bool (a == 0xC2)) [
      | inl hit ↦ omega (arith, is_that a 0xC2 hit, second_least a b f (is_that a 0xC2 hit))
      | inr miss ↦ let m : a ≢ 0xC2 = grind (arith, miss) in omega (arith, m, r.0)
    ] in (
      c,
      rest,
      low_is c (omega (arith, r.1, s.1)),
      printed_is c low,
      rw (not_lt c 128 (omega (arith, low)), is_lt c 2048 (omega (arith, r.1, s.1)))
          (pair (omega (arith, r.0, s.0, s.1)) (pair (omega (arith, r.0, s.0, s.1)) refl)),
    )

found_three : (a b d : ℕ) (rest : List ℕ) → may_follow a b ≡ true → is_in_range 0xE0 0xEF a ≡ true → is_later d ≡ true
    → Found (a ∷ b ∷ d ∷ rest)
unfolding encode_utf8
found_three a b d rest f three later =
    let c = (a - 224) * 4096 + (b - 128) * 64 + (d - 128) in
    let r = range_is 0xE0 0xEF a three in
    let s = second_is a b f in
    let t = range_is 0x80 0xBF d later in
    let low : 2048 ≤ c = elim (cases_Bool (a == 0xE0)) [
      | inl hit ↦ omega (arith, is_that a 0xE0 hit, third_least a b f (is_that a 0xE0 hit))
      | inr miss ↦ let m : a ≢ 0xE0 = grind (arith, miss) in omega (arith, m, r.0)
    ] in
    let high : c < 65536 = omega (arith, r.1, s.1, t.1) in
    let is : IsScalar c = elim (cases_Bool (nat_lt a 0xED)) [
      | inl hit ↦ low_is c (omega (arith, lt_is a 0xED hit, s.1, t.1))
      | inr miss ↦ elim (cases_Bool (a == 0xED)) [
        | inl hit ↦
            low_is c (omega (arith, is_that a 0xED hit, third_greatest a b f (is_that a 0xED hit), t.1))
        | inr other ↦ let m : a ≢ 0xED = grind (arith, other) in
            high_is c (omega (arith, m, ge_is a 0xED miss)) (omega (arith, high))
      ]
    ] in (
      c,
      rest,
      is,
      printed_is c (omega (arith, low)),
      rw (not_lt c 128 (omega (arith, low)), not_lt c 2048 low, is_lt c 65536 high)
          (pair (omega (arith, r.0, s.0, s.1, t.0, t.1)) (pair (omega (arith, r.0, s.0, s.1, t.0, t.1))
          (pair (omega (arith, r.0, s.0, s.1, t.0, t.1)) refl))),
    )
  where
    high_is : (c : ℕ) → 57344 ≤ c → c < 1114112 → IsScalar c
    high_is c h g = grind (arith, h, g)

found_four : (a b d e : ℕ) (rest : List ℕ) → may_follow a b ≡ true → is_in_range 0xF0 0xF4 a ≡ true
    → is_later d ≡ true → is_later e ≡ true → Found (a ∷ b ∷ d ∷ e ∷ rest)
unfolding encode_utf8
found_four a b d e rest f four later last =
    let c = (a - 240) * 262144 + (b - 128) * 4096 + (d - 128) * 64 + (e - 128) in
    let r = range_is 0xF0 0xF4 a four in
    let s = second_is a b f in
    let t = range_is 0x80 0xBF d later in
    let u = range_is 0x80 0xBF e last in
    let low : 65536 ≤ c = elim (cases_Bool (a == 0xF0)) [
      | inl hit ↦ omega (arith, is_that a 0xF0 hit, fourth_least a b f (is_that a 0xF0 hit))
      | inr miss ↦ let m : a ≢ 0xF0 = grind (arith, miss) in omega (arith, m, r.0)
    ] in
    let high : c < 1114112 = elim (cases_Bool (a == 0xF4)) [
      | inl hit ↦ omega (arith, is_that a 0xF4 hit, fourth_greatest a b f (is_that a 0xF4 hit), t.1, u.1)
      | inr miss ↦ let m : a ≢ 0xF4 = grind (arith, miss) in omega (arith, m, r.1, s.1, t.1, u.1)
    ] in (
      c,
      rest,
      high_is c (omega (arith, low)) high,
      printed_is c (omega (arith, low)),
      rw (not_lt c 128 (omega (arith, low)), not_lt c 2048 (omega (arith, low)), not_lt c 65536 low)
          (pair (omega (arith, r.0, s.0, s.1, t.0, t.1, u.0, u.1))
          (pair (omega (arith, r.0, s.0, s.1, t.0, t.1, u.0, u.1))
          (pair (omega (arith, r.0, s.0, s.1, t.0, t.1, u.0, u.1))
          (pair (omega (arith, r.0, s.0, s.1, t.0, t.1, u.0, u.1)) refl)))),
    )
  where
    high_is : (c : ℕ) → 57344 ≤ c → c < 1114112 → IsScalar c
    high_is c h g = grind (arith, h, g)

no_byte : (low high : ℕ) → 0 < low → is_in_range low high 0 ≡ true → ⊥
no_byte low high some e = omega (arith, some, (range_is low high 0 e).0)

found_long : (bytes : List ℕ) (n : ℕ)
    → IsLong (get_or bytes 0 0) (get_or bytes 1 0) (get_or bytes 2 0) (get_or bytes 3 0) n
    → 0 < n → Found bytes
found_long bytes n no_long some = absurd (omega (arith, some))
found_long [] n (long_two f two) some = absurd (no_byte 0xC2 0xDF (omega arith) two)
found_long (a ∷ []) n (long_two f two) some = absurd (omega (arith, (second_is a 0 f).0))
found_long (a ∷ b ∷ rest) n (long_two f two) some = found_two a b rest f two
found_long [] n (long_three f three l) some = absurd (no_byte 0x80 0xBF (omega arith) l)
found_long (a ∷ []) n (long_three f three l) some = absurd (no_byte 0x80 0xBF (omega arith) l)
found_long (a ∷ b ∷ []) n (long_three f three l) some = absurd (no_byte 0x80 0xBF (omega arith) l)
found_long (a ∷ b ∷ c ∷ rest) n (long_three f three l) some = found_three a b c rest f three l
found_long [] n (long_four f four l m) some = absurd (no_byte 0x80 0xBF (omega arith) m)
found_long (a ∷ []) n (long_four f four l m) some = absurd (no_byte 0x80 0xBF (omega arith) m)
found_long (a ∷ b ∷ []) n (long_four f four l m) some = absurd (no_byte 0x80 0xBF (omega arith) m)
found_long (a ∷ b ∷ c ∷ []) n (long_four f four l m) some = absurd (no_byte 0x80 0xBF (omega arith) m)
found_long (a ∷ b ∷ c ∷ d ∷ rest) n (long_four f four l m) some = found_four a b c d rest f four l m

found_plain : (bytes : List ℕ) → is_plain (get_or bytes 0 0) ≡ true → Found bytes
found_plain [] e = absurd (false≢true e)
found_plain (a ∷ rest) e = found_one a rest e

pub has_character : HasCharacter
has_character bytes small = elim (cases_Bool (is_plain (get_or bytes 0 0))) [
  | inl hit ↦ λ some. found_plain bytes hit
  | inr miss ↦ λ some. found_long bytes
      (long_size (get_or bytes 0 0) (get_or bytes 1 0) (get_or bytes 2 0) (get_or bytes 3 0))
      (long_is (get_or bytes 0 0) (get_or bytes 1 0) (get_or bytes 2 0) (get_or bytes 3 0)) (rw miss at some)
]
