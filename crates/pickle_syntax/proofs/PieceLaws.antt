-- What is cut at a place is the longest piece there; and where none is, the fault is the one that the rules name.
use Rattle.std.proofs.Common.{◌≡◌, false, ℕ, ◌<◌, ◌≤◌, List, [], ◌∷◌, ◌++◌, length, refl, sym, ap, ◌∙◌, subst, arith, inl, inr, Option, Some, None, Result, Ok, Err, length-append, append_assoc}
use Rattle.pickle_syntax.specs.declared.lexer.bytes.Start.{Start}
use Rattle.pickle_syntax.specs.declared.lexer.bytes.Start.TheVariants as start
use Rattle.pickle_syntax.specs.declared.lexer.bytes.Class.TheVariants as class
use Rattle.pickle_syntax.specs.declared.lexer.fault.LexFaultKind.TheVariants.{BadNumber}
use Rattle.pickle_syntax.specs.declared.token.Sign.{Sign}
use Rattle.pickle_syntax.specs.declared.token.Sign.TheVariants as sign
use Rattle.pickle_tree.specs.declared.tree.Number.{Number}
use Rattle.pickle_syntax.specs.Tokens.{Token, Reserved, Named, Opens, Numeral, Mark}
use Rattle.pickle_syntax.specs.Tokens as token
use Rattle.pickle_syntax.specs.Bytes.{Fault, ◌>>=◌, digit_of, starts}
use Rattle.pickle_syntax.specs.Words.{Cut, word_piece}
use Rattle.pickle_syntax.specs.Numbers as numbers
use Rattle.pickle_syntax.specs.Numbers.{number_at}
use Rattle.pickle_syntax.specs.Lexing.{piece_from, piece_at}
use Rattle.pickle_syntax.specs.Pieces.{begins, IsNumber, IsPrefix, Decimal, Hexadecimal, Octal, Binary, suffix_bytes, Spells, MayPrecede, IsPiece, IsFaultAt, InNumber, Elsewhere, sign_spelling}
use Rattle.pickle_syntax.proofs.Classes.{Tells, tells, starts_number, other_front}
use Rattle.pickle_syntax.proofs.Cuts.{Cuts, Reaches}
use Rattle.pickle_syntax.proofs.WordLaws.{word_cuts, reserved_reaches, named_reaches, opener_reaches}
use Rattle.pickle_syntax.proofs.SignLaws.{sign_piece_cuts, sign_piece_fails, sign_reaches}
use Rattle.pickle_syntax.proofs.CommentLaws.{slash_cuts, slash_fails, line_reaches, block_reaches, slash_reaches, blank_reaches}
use Rattle.pickle_syntax.proofs.TextLaws.{text_cuts, text_fails, text_reaches, apostrophe_cuts, apostrophe_fails, attribute_reaches, character_reaches}
use Rattle.pickle_syntax.proofs.NumberLaws.{number_reads, number_front, number_bad}

-- what a number cuts
abbrev pub number_cut : numbers.Read → Cut
number_cut n = (Some (Numeral n.0), n.1)

some_first : (b : ℕ) (rest front after : List ℕ) → b ∷ rest ≡ front ++ after → (n : Number) →
    IsNumber n front → 1 ≤ length front
some_first b rest front after e n k =
    omega (
      arith,
      ap length k.written,
      length-append (k.prefix ++ k.first ∷ k.digits) (suffix_bytes k.suffix),
      length-append k.prefix (k.first ∷ k.digits),
    )

number_cuts : (at b : ℕ) (rest : List ℕ) (cut : Cut) (r : Result numbers.Read Fault) → digit_of b < 10 →
    number_at at (b ∷ rest) ≡ r → (r >>= λ n. Ok (number_cut n)) ≡ Ok cut → Cuts cut (b ∷ rest)
number_cuts at b rest cut (Err f) digit er e = absurd cc
number_cuts at b rest cut (Ok (n, len)) digit er e =
    let k = number_front at b rest n len digit er in
    let f : (Some (Numeral n), len) ≡ cut = cc in
    subst (λ (c : Cut). Cuts c (b ∷ rest)) f (record {
      front = k.front;
      after = k.after;
      whole = k.whole;
      size = k.size;
      some = omega (arith, k.size, some_first b rest k.front k.after k.whole n k.is);
      is = (k.is, k.apart);
    })

pub number_fails : (at b : ℕ) (rest : List ℕ) (f : Fault) (r : Result numbers.Read Fault) →
    number_at at (b ∷ rest) ≡ r → (r >>= λ n. Ok (number_cut n)) ≡ Err f → f ≡ (BadNumber, at)
number_fails at b rest f (Ok n) er e = absurd cc
number_fails at b rest f (Err g) er e = (let h : g ≡ f = cc in sym h ∙ number_bad at (b ∷ rest) g er)

-- what is cut is a piece
cuts_from : (at b : ℕ) (rest : List ℕ) (cut : Cut) (s : Start) → Tells s b →
    piece_from s at b rest ≡ Ok cut → Cuts cut (b ∷ rest)
cuts_from at b rest cut start.Blank t e =
    let f : (None, 1) ≡ cut = cc in
    subst (λ (c : Cut). Cuts c (b ∷ rest)) f
    (record { front = b ∷ []; after = rest; whole = refl; size = refl; some = omega arith; is = inl (b, refl, t) })
cuts_from at b rest cut start.Word t e =
    (let f : word_piece (b ∷ rest) ≡ cut = cc in subst (λ (c : Cut). Cuts c (b ∷ rest)) f (word_cuts b rest t))
cuts_from at b rest cut start.Number t e = number_cuts at b rest cut (number_at at (b ∷ rest)) t refl e
cuts_from at b rest cut start.Text t e = rw t (text_cuts at rest cut e)
cuts_from at b rest cut start.Apostrophe t e = rw t (apostrophe_cuts at rest cut e)
cuts_from at b rest cut start.Slash t e = rw t (slash_cuts at rest cut e)
cuts_from at b rest cut start.Sign t e = sign_piece_cuts at b rest cut (λ h. absurd (t.1 h)) e

pub cuts : (at b : ℕ) (rest : List ℕ) (cut : Cut) → piece_at at (b ∷ rest) ≡ Ok cut → Cuts cut (b ∷ rest)
unfolding piece_at
cuts at b rest cut e = cuts_from at b rest cut (starts b) (tells b (starts b) refl) e

-- what no piece is cut from has the fault
fails_from : (at b : ℕ) (rest : List ℕ) (f : Fault) (s : Start) → Tells s b → piece_from s at b rest ≡ Err f →
    IsFaultAt at (b ∷ rest) f
fails_from at b rest f start.Blank t e = absurd cc
fails_from at b rest f start.Word t e = absurd cc
fails_from at b rest f start.Number t e =
    InNumber b rest refl t (number_fails at b rest f (number_at at (b ∷ rest)) refl e)
fails_from at b rest f start.Text t e = rw t (text_fails at rest f e)
fails_from at b rest f start.Apostrophe t e = rw t (apostrophe_fails at rest f e)
fails_from at b rest f start.Slash t e = rw t (slash_fails at rest f e)
fails_from at b rest f start.Sign t e =
    Elsewhere b rest refl t.2 t.0 (other_front b rest t.1) (sign_piece_fails at b rest f e)

pub fails : (at b : ℕ) (rest : List ℕ) (f : Fault) → piece_at at (b ∷ rest) ≡ Err f → IsFaultAt at (b ∷ rest) f
unfolding piece_at
fails at b rest f e = fails_from at b rest f (starts b) (tells b (starts b) refl) e

-- a number at the front is cut
record DigitFirst (bytes : List ℕ) : Type 0 where
  first : ℕ
  rest : List ℕ
  is : bytes ≡ first ∷ rest
  digit : digit_of first < 10

digit_first : (base first : ℕ) (prefix more bytes : List ℕ) → IsPrefix base prefix → digit_of first < base →
    bytes ≡ prefix ++ first ∷ more → DigitFirst bytes
digit_first base first prefix more bytes (Decimal e f) digit g =
    record { first = first; rest = more; is = g ∙ rw f refl; digit = omega (arith, e, digit) }
digit_first base first prefix more bytes (Hexadecimal e (inl f)) digit g =
    record { first = 48; rest = 120 ∷ first ∷ more; is = g ∙ rw f refl; digit = omega arith }
digit_first base first prefix more bytes (Hexadecimal e (inr f)) digit g =
    record { first = 48; rest = 88 ∷ first ∷ more; is = g ∙ rw f refl; digit = omega arith }
digit_first base first prefix more bytes (Octal e (inl f)) digit g =
    record { first = 48; rest = 111 ∷ first ∷ more; is = g ∙ rw f refl; digit = omega arith }
digit_first base first prefix more bytes (Octal e (inr f)) digit g =
    record { first = 48; rest = 79 ∷ first ∷ more; is = g ∙ rw f refl; digit = omega arith }
digit_first base first prefix more bytes (Binary e (inl f)) digit g =
    record { first = 48; rest = 98 ∷ first ∷ more; is = g ∙ rw f refl; digit = omega arith }
digit_first base first prefix more bytes (Binary e (inr f)) digit g =
    record { first = 48; rest = 66 ∷ first ∷ more; is = g ∙ rw f refl; digit = omega arith }

pub number_at_front : (at b : ℕ) (rest : List ℕ) → digit_of b < 10 →
    piece_at at (b ∷ rest) ≡ (number_at at (b ∷ rest) >>= λ n. Ok (number_cut n))
unfolding piece_at
number_at_front at b rest digit = rw (starts_number b digit) refl

number_reached : (at : ℕ) (bytes : List ℕ) (n : Number) (len : ℕ) → DigitFirst bytes →
    number_at at bytes ≡ Ok (n, len) → piece_at at bytes ≡ Ok (Some (Numeral n), len)
number_reached at bytes n len k e =
    let f : number_at at (k.first ∷ k.rest) ≡ Ok (n, len) = ap (number_at at) (sym k.is) ∙ e in
    ap (piece_at at) k.is ∙ number_at_front at k.first k.rest k.digit ∙ rw f refl

number_first : (n : Number) (front after : List ℕ) → IsNumber n front → DigitFirst (front ++ after)
number_first n front after k =
    let whole : front ++ after ≡ k.prefix ++ k.first ∷ (k.digits ++ suffix_bytes k.suffix ++ after) =
    ap (λ (l : List ℕ). l ++ after) k.written
    ∙ append_assoc (k.prefix ++ k.first ∷ k.digits) (suffix_bytes k.suffix) after
    ∙ append_assoc k.prefix (k.first ∷ k.digits) (suffix_bytes k.suffix ++ after)
    ∙ ap (λ (l : List ℕ). k.prefix ++ k.first ∷ l) (sym (append_assoc k.digits (suffix_bytes k.suffix) after)) in
    digit_first k.base k.first k.prefix
    (k.digits ++ suffix_bytes k.suffix ++ after) (front ++ after) k.prefixed k.digit whole

number_reaches : (at : ℕ) (n : Number) (front after : List ℕ) → IsNumber n front → begins class.Word after ≡ false →
    Reaches (Some (Numeral n)) front (piece_at at (front ++ after))
number_reaches at n front after k apart =
    record {
      cut = (Some (Numeral n), length front);
      reads = number_reached at (front ++ after) n (length front) (number_first n front after k)
          (number_reads at n front after k apart);
      far = omega arith;
      same = λ _. refl;
    }

mark_reaches : (at : ℕ) (s : Sign) (after : List ℕ) → MayPrecede (Mark s) after →
    Reaches (Some (Mark s)) (sign_spelling s) (piece_at at (sign_spelling s ++ after))
mark_reaches at sign.Slash after may = slash_reaches at after may
mark_reaches at s after may = sign_reaches at s after (λ e. absurd cc)

token_reaches : (at : ℕ) (t : Token) (front after : List ℕ) → Spells t front → MayPrecede t after →
    Reaches (Some t) front (piece_at at (front ++ after))
token_reaches at (Reserved w) front after is may = reserved_reaches at w front after is
token_reaches at (Named n) front after is may = named_reaches at n front after is.0 is.1 is.2
token_reaches at (Opens o) front after is may = opener_reaches at o front after is
token_reaches at (Numeral n) front after is may = number_reaches at n front after is may
token_reaches at (token.Character v) front after is may = character_reaches at v front after is
token_reaches at (token.Text values) front after is may = text_reaches at values front after is
token_reaches at (token.AttributeOf a) front after is may = attribute_reaches at a front after is
token_reaches at (Mark s) front after is may = rw is (mark_reaches at s after may)

-- a piece at the front is cut, or a longer one
pub reaches : (at : ℕ) (piece : Option Token) (front after : List ℕ) → IsPiece piece front after →
    Reaches piece front (piece_at at (front ++ after))
reaches at None front after (inl is) = blank_reaches at front after is
reaches at None front after (inr (inl is)) = line_reaches at front after is
reaches at None front after (inr (inr is)) = block_reaches at front after is
reaches at (Some t) front after is = token_reaches at t front after is.0 is.1
