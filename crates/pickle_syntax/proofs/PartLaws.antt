-- The parts of texts and characters are read by the rules.
use Rattle.std.proofs.Common.{◌≡◌, ◌≢◌, ℕ, ◌+◌, ◌*◌, ◌≤◌, Bool, true, false, cond, eqb, ltb, leb, List, [], ◌∷◌, ◌++◌, length, refl, sym, ap, ◌∙◌, subst, arith, inl, inr, ◌&&◌, ◌||◌}
use Rattle.std.specs.Prelude.{◌⊎◌, ◌==◌}
use Rattle.std.proofs.lemmas.Bool.{and_parts, or_cases, eqb-true, eqb-false, ne_eqb, ltb-true, leb-true, lt-ltb, le-leb}
use Rattle.pickle_syntax.specs.declared.lexer.texts.Part.{Part}
use Rattle.pickle_syntax.specs.declared.lexer.texts.Part.TheVariants.{Closes, Byte, Bad, Breaks}
use Rattle.pickle_syntax.specs.Bytes.{digit_of}
use Rattle.pickle_syntax.specs.Texts.{hex_pair, escape, part_at}
use Rattle.pickle_syntax.specs.Pieces.{IsEscape, Itself, LineFeed, Tab, HexadecimalByte, IsPart, Plain, Escaped}
use Rattle.pickle_syntax.proofs.Chains.{chosen}

byte_same : (a m v n : ℕ) → Byte a m ≡ Byte v n → (a ≡ v) × (m ≡ n)
byte_same a m v n e = (cc, cc)

-- a part at the front, and its length
pub record PartFront (quote value len : ℕ) (bytes : List ℕ) : Type 0 where
  pub part : List ℕ
  pub rest : List ℕ
  pub whole : bytes ≡ part ++ rest
  pub size : length part ≡ len
  pub is : IsPart quote value part

-- an escape at the front of what follows a backslash
record EscapeFront (value len : ℕ) (bytes : List ℕ) : Type 0 where
  part : List ℕ
  rest : List ℕ
  whole : 92 ∷ bytes ≡ part ++ rest
  size : length part ≡ len
  is : IsEscape value part

itself_is : (c v n : ℕ) (rest : List ℕ) → (c == 92 || c == 39 || c == 34) ≡ true → Byte c 2 ≡ Byte v n →
    EscapeFront v n (c ∷ rest)
itself_is c v n rest hit e =
    let same = byte_same c 2 v n e in
    record {
      part = 92 ∷ v ∷ [];
      rest = rest;
      whole = rw same.0 refl;
      size = same.1;
      is = Itself (subst (λ (k : ℕ). (k ≡ 92) ⊎ ((k ≡ 39) ⊎ (k ≡ 34))) same.0 which) refl;
    }
  where
    which : (c ≡ 92) ⊎ ((c ≡ 39) ⊎ (c ≡ 34))
    which = elim (or_cases (c == 92 || c == 39) (c == 34) hit) [
      | inl h ↦
          elim (or_cases (c == 92) (c == 39) h) [ inl k ↦ inl (eqb-true c 92 k) | inr k ↦ inr (inl (eqb-true c 39 k)) ]
      | inr h ↦ inr (inr (eqb-true c 34 h))
    ]

feed_is : (c v n : ℕ) (rest : List ℕ) → c ≡ 110 → Byte 10 2 ≡ Byte v n → EscapeFront v n (c ∷ rest)
feed_is c v n rest is e = (let same = byte_same 10 2 v n e in
    record { part = 92 ∷ 110 ∷ []; rest = rest; whole = rw is refl; size = same.1; is = LineFeed (sym same.0) refl })

tab_is : (c v n : ℕ) (rest : List ℕ) → c ≡ 116 → Byte 9 2 ≡ Byte v n → EscapeFront v n (c ∷ rest)
tab_is c v n rest is e = (let same = byte_same 9 2 v n e in
    record { part = 92 ∷ 116 ∷ []; rest = rest; whole = rw is refl; size = same.1; is = Tab (sym same.0) refl })

hex_is : (c v n : ℕ) (rest : List ℕ) → c ≡ 120 → hex_pair rest ≡ Byte v n → EscapeFront v n (c ∷ rest)
hex_is c v n [] is e = absurd cc
hex_is c v n (h ∷ []) is e = absurd cc
hex_is c v n (h ∷ l ∷ rest) is e = elim (chosen (ltb (digit_of h) 16 && ltb (digit_of l) 16)
    (Byte (digit_of h * 16 + digit_of l) 4) Bad (Byte v n) e) [
      | inl hit ↦ (let same = byte_same (digit_of h * 16 + digit_of l) 4 v n hit.1 in
          let both = and_parts (ltb (digit_of h) 16) (ltb (digit_of l) 16) hit.0 in
          record {
            part = 92 ∷ 120 ∷ h ∷ l ∷ [];
            rest = rest;
            whole = rw is refl;
            size = same.1;
            is = HexadecimalByte h l (ltb-true (digit_of h) 16 both.0)
                (ltb-true (digit_of l) 16 both.1) (sym same.0) refl;
          })
      | inr miss ↦ absurd (let f : Bad ≡ Byte v n = miss.1 in cc)
    ]

escape_is : (bytes : List ℕ) (v n : ℕ) → escape bytes ≡ Byte v n → EscapeFront v n bytes
escape_is [] v n e = absurd cc
escape_is (c ∷ rest) v n e =
    elim (chosen (c == 92 || c == 39 || c == 34) (Byte c 2)
    (cond (c == 110) (Byte 10 2) (cond (c == 116) (Byte 9 2) (cond (c == 120) (hex_pair rest) Bad))) (Byte v n) e) [
      | inl hit ↦ itself_is c v n rest hit.0 hit.1
      | inr m1 ↦ elim (chosen (c == 110) (Byte 10 2)
          (cond (c == 116) (Byte 9 2) (cond (c == 120) (hex_pair rest) Bad)) (Byte v n) m1.1) [
            | inl hit ↦ feed_is c v n rest (eqb-true c 110 hit.0) hit.1
            | inr m2 ↦ elim (chosen (c == 116) (Byte 9 2) (cond (c == 120) (hex_pair rest) Bad) (Byte v n) m2.1) [
              | inl hit ↦ tab_is c v n rest (eqb-true c 116 hit.0) hit.1
              | inr m3 ↦ elim (chosen (c == 120) (hex_pair rest) Bad (Byte v n) m3.1) [
                | inl hit ↦ hex_is c v n rest (eqb-true c 120 hit.0) hit.1
                | inr m4 ↦ absurd (let f : Bad ≡ Byte v n = m4.1 in cc)
              ]
            ]
          ]
    ]

pub part_is : (quote : ℕ) (bytes : List ℕ) (v n : ℕ) → part_at quote bytes ≡ Byte v n → PartFront quote v n bytes
unfolding part_at
part_is quote [] v n e = absurd cc
part_is quote (b ∷ rest) v n e =
    elim (chosen (b == quote) Closes
    (cond (b == 10) Breaks (cond (b == 92) (escape rest) (cond (leb 32 b && leb b 126) (Byte b 1) Bad))) (Byte v n) e) [
      | inl hit ↦ absurd (let f : Closes ≡ Byte v n = hit.1 in cc)
      | inr m1 ↦ elim (chosen (b == 10) Breaks
          (cond (b == 92) (escape rest) (cond (leb 32 b && leb b 126) (Byte b 1) Bad)) (Byte v n) m1.1) [
            | inl hit ↦ absurd (let f : Breaks ≡ Byte v n = hit.1 in cc)
            | inr m2 ↦
                elim (chosen (b == 92) (escape rest) (cond (leb 32 b && leb b 126) (Byte b 1) Bad) (Byte v n) m2.1) [
                  | inl hit ↦ (let k = escape_is rest v n hit.1 in let f : b ≡ 92 = eqb-true b 92 hit.0 in
                      record { part = k.part; rest = k.rest; whole = rw f k.whole; size = k.size; is = Escaped k.is })
                  | inr m3 ↦ elim (chosen (leb 32 b && leb b 126) (Byte b 1) Bad (Byte v n) m3.1) [
                    | inl hit ↦ plain hit.0 (eqb-false b 92 m3.0) (eqb-false b quote m1.0) hit.1
                    | inr m4 ↦ absurd (let f : Bad ≡ Byte v n = m4.1 in cc)
                  ]
                ]
          ]
    ]
  where
    plain : (leb 32 b && leb b 126) ≡ true → b ≢ 92 → b ≢ quote → Byte b 1 ≡ Byte v n → PartFront quote v n (b ∷ rest)
    plain range slash other f =
        let same = byte_same b 1 v n f in
        let both = and_parts (leb 32 b) (leb b 126) range in
        record {
          part = b ∷ [];
          rest = rest;
          whole = refl;
          size = same.1;
          is = rw (← same.0) (Plain (leb-true 32 b both.0) (leb-true b 126 both.1) slash other refl);
        }

-- an escape doesn't end a text
ends : Part → Bool
ends Closes = true
ends Breaks = true
ends (Byte v n) = false
ends Bad = false

hex_ends : (bytes : List ℕ) → ends (hex_pair bytes) ≡ false
unfolding ends
hex_ends [] = refl
hex_ends (h ∷ []) = refl
hex_ends (h ∷ l ∷ rest) = elim (ltb (digit_of h) 16 && ltb (digit_of l) 16) as (λ t.
    ends (cond t (Byte (digit_of h * 16 + digit_of l) 4) Bad) ≡ false) [ true ↦ refl | false ↦ refl ]

escape_ends : (bytes : List ℕ) → ends (escape bytes) ≡ false
unfolding ends
escape_ends [] = refl
escape_ends (c ∷ rest) = by (c == 92 || c == 39 || c == 34) (c == 110) (c == 116) (c == 120)
  where
    by : (t u v w : Bool) →
        ends (cond t (Byte c 2) (cond u (Byte 10 2) (cond v (Byte 9 2) (cond w (hex_pair rest) Bad)))) ≡ false
    by true u v w = refl
    by false true v w = refl
    by false false true w = refl
    by false false false true = hex_ends rest
    by false false false false = refl

no_end : (bytes : List ℕ) (p : Part) → ends p ≡ true → escape bytes ≡ p → ⊥
no_end bytes p is e = let f : ends (escape bytes) ≡ ends p = ap ends e in let g = escape_ends bytes in cc

ends_closes : ends Closes ≡ true
unfolding ends
ends_closes = refl

ends_breaks : ends Breaks ≡ true
unfolding ends
ends_breaks = refl

pub part_closes : (quote b : ℕ) (rest : List ℕ) → part_at quote (b ∷ rest) ≡ Closes → b ≡ quote
unfolding part_at
part_closes quote b rest e =
    elim (chosen (b == quote) Closes
    (cond (b == 10) Breaks (cond (b == 92) (escape rest) (cond (leb 32 b && leb b 126) (Byte b 1) Bad))) Closes e) [
      | inl hit ↦ eqb-true b quote hit.0
      | inr m1 ↦ elim (chosen (b == 10) Breaks
          (cond (b == 92) (escape rest) (cond (leb 32 b && leb b 126) (Byte b 1) Bad)) Closes m1.1) [
            | inl hit ↦ absurd (let f : Breaks ≡ Closes = hit.1 in cc)
            | inr m2 ↦ elim (chosen (b == 92) (escape rest) (cond (leb 32 b && leb b 126) (Byte b 1) Bad) Closes m2.1) [
              | inl hit ↦ absurd (no_end rest Closes ends_closes hit.1)
              | inr m3 ↦ elim (chosen (leb 32 b && leb b 126) (Byte b 1) Bad Closes m3.1) [
                | inl hit ↦ absurd (let f : Byte b 1 ≡ Closes = hit.1 in cc)
                | inr m4 ↦ absurd (let f : Bad ≡ Closes = m4.1 in cc)
              ]
            ]
          ]
    ]

pub part_breaks : (quote b : ℕ) (rest : List ℕ) → part_at quote (b ∷ rest) ≡ Breaks → b ≡ 10
unfolding part_at
part_breaks quote b rest e =
    elim (chosen (b == quote) Closes
    (cond (b == 10) Breaks (cond (b == 92) (escape rest) (cond (leb 32 b && leb b 126) (Byte b 1) Bad))) Breaks e) [
      | inl hit ↦ absurd (let f : Closes ≡ Breaks = hit.1 in cc)
      | inr m1 ↦ elim (chosen (b == 10) Breaks
          (cond (b == 92) (escape rest) (cond (leb 32 b && leb b 126) (Byte b 1) Bad)) Breaks m1.1) [
            | inl hit ↦ eqb-true b 10 hit.0
            | inr m2 ↦ elim (chosen (b == 92) (escape rest) (cond (leb 32 b && leb b 126) (Byte b 1) Bad) Breaks m2.1) [
              | inl hit ↦ absurd (no_end rest Breaks ends_breaks hit.1)
              | inr m3 ↦ elim (chosen (leb 32 b && leb b 126) (Byte b 1) Bad Breaks m3.1) [
                | inl hit ↦ absurd (let f : Byte b 1 ≡ Breaks = hit.1 in cc)
                | inr m4 ↦ absurd (let f : Bad ≡ Breaks = m4.1 in cc)
              ]
            ]
          ]
    ]

pub part_bad : (quote b : ℕ) (rest : List ℕ) → part_at quote (b ∷ rest) ≡ Bad → (b ≢ 10) × (b ≢ quote)
unfolding part_at
part_bad quote b rest e =
    elim (chosen (b == quote) Closes
    (cond (b == 10) Breaks (cond (b == 92) (escape rest) (cond (leb 32 b && leb b 126) (Byte b 1) Bad))) Bad e) [
      | inl hit ↦ absurd (let f : Closes ≡ Bad = hit.1 in cc)
      | inr m1 ↦ elim (chosen (b == 10) Breaks
          (cond (b == 92) (escape rest) (cond (leb 32 b && leb b 126) (Byte b 1) Bad)) Bad m1.1) [
            | inl hit ↦ absurd (let f : Breaks ≡ Bad = hit.1 in cc)
            | inr m2 ↦ (eqb-false b 10 m2.0, eqb-false b quote m1.0)
          ]
    ]

-- an escape is read
record EscapeReads (value : ℕ) (part : List ℕ) : Type 0 where
  more : List ℕ
  is : part ≡ 92 ∷ more
  reads : (rest : List ℕ) → escape (more ++ rest) ≡ Byte value (length part)

itself_reads : (v : ℕ) (rest : List ℕ) → (v ≡ 92) ⊎ ((v ≡ 39) ⊎ (v ≡ 34)) → escape (v ∷ rest) ≡ Byte v 2
itself_reads v rest (inl e) = rw e refl
itself_reads v rest (inr (inl e)) = rw e refl
itself_reads v rest (inr (inr e)) = rw e refl

escape_reads : (v : ℕ) (part : List ℕ) → IsEscape v part → EscapeReads v part
escape_reads v part (Itself which e) =
    record { more = v ∷ []; is = e; reads = λ rest. rw e (itself_reads v rest which) }
escape_reads v part (LineFeed f e) = record { more = 110 ∷ []; is = e; reads = λ rest. rw (e, f) refl }
escape_reads v part (Tab f e) = record { more = 116 ∷ []; is = e; reads = λ rest. rw (e, f) refl }
escape_reads v part (HexadecimalByte h l high low f e) =
    record {
      more = 120 ∷ h ∷ l ∷ [];
      is = e;
      reads = λ rest. rw (e, f, lt-ltb (digit_of h) 16 high, lt-ltb (digit_of l) 16 low) refl;
    }

escaped_at : (quote v : ℕ) (part rest : List ℕ) → eqb 92 quote ≡ false → EscapeReads v part →
    part_at quote (part ++ rest) ≡ Byte v (length part)
unfolding part_at
escaped_at quote v part rest other k =
    let f : part_at quote (92 ∷ k.more ++ rest) ≡ Byte v (length part) = rw other (k.reads rest) in
    ap (λ (l : List ℕ). part_at quote (l ++ rest)) k.is ∙ f

pub part_reads : (quote v : ℕ) (part rest : List ℕ) → eqb 92 quote ≡ false → IsPart quote v part →
    part_at quote (part ++ rest) ≡ Byte v (length part)
unfolding part_at
part_reads quote v part rest other (Plain low high slash apart e) =
    let line : v ≡ 10 → ⊥ = λ f. omega (arith, f, low) in
    rw (e, ne_eqb v quote apart, ne_eqb v 10 line, ne_eqb v 92 slash, le-leb 32 v low, le-leb v 126 high) refl
part_reads quote v part rest other (Escaped is) = escaped_at quote v part rest other (escape_reads v part is)

pub part_some : (quote v : ℕ) (part : List ℕ) → IsPart quote v part → 1 ≤ length part
part_some quote v part (Plain low high slash apart e) = rw e (omega arith)
part_some quote v part (Escaped is) = let k = escape_reads v part is in rw k.is (omega arith)
