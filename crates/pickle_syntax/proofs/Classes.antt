-- Classes of bytes, and runs of them.
use Rattle.std.proofs.Common.{◌≡◌, ◌≢◌, ℕ, suc, ◌+◌, ◌<◌, ◌≤◌, Bool, true, false, cond, ltb, eqb, List, [], ◌∷◌, ◌++◌, length, take, drop, refl, subst, arith, inl, inr}
use Rattle.std.specs.List.{prefix_len}
use Rattle.std.proofs.lemmas.Bool.{cases_Bool, eqb-true, eqb-false, ltb-true, ltb-false, lt-ltb}
use Rattle.std.proofs.lemmas.Bool.Decides.{nat_tests}
use Rattle.pickle_syntax.specs.declared.lexer.bytes.Class.{Class}
use Rattle.pickle_syntax.specs.declared.lexer.bytes.Class.TheVariants as class
use Rattle.pickle_syntax.specs.declared.lexer.bytes.Start.{Start}
use Rattle.pickle_syntax.specs.declared.lexer.bytes.Start.TheVariants as start
use Rattle.pickle_syntax.specs.Bytes.{digit_of, is_in, starts}
use Rattle.pickle_syntax.specs.Pieces.{AllIn, begins}

-- bytes of a class at the front are no more than the run there
pub run_reaches : (c : Class) (front after : List ℕ) → AllIn c front →
    length front ≤ prefix_len (is_in c) (front ++ after)
run_reaches c [] after all = omega arith
run_reaches c (b ∷ front) after all = rw all.0 (omega (arith, run_reaches c front after all.1))

-- a run ends where the class does
pub run_is : (c : Class) (front after : List ℕ) → AllIn c front → begins c after ≡ false →
    prefix_len (is_in c) (front ++ after) ≡ length front
run_is c [] [] all ends = refl
run_is c [] (a ∷ after) all ends = rw ends refl
run_is c (b ∷ front) after all ends = rw all.0 (omega (arith, run_is c front after all.1 ends))

one_more : (n : ℕ) → 1 + n ≡ suc n
one_more n = omega arith

pub run_all : (c : Class) (bytes : List ℕ) → AllIn c (take (prefix_len (is_in c) bytes) bytes)
run_all c [] = tt
run_all c (b ∷ bytes) = elim (cases_Bool (is_in c b)) [
  | inl hit ↦ rw (hit, one_more (prefix_len (is_in c) bytes)) (hit, run_all c bytes)
  | inr miss ↦ rw miss tt
]

pub run_stops : (c : Class) (bytes : List ℕ) → begins c (drop (prefix_len (is_in c) bytes) bytes) ≡ false
run_stops c [] = refl
run_stops c (b ∷ bytes) = elim (cases_Bool (is_in c b)) [
  | inl hit ↦ rw (hit, one_more (prefix_len (is_in c) bytes)) (run_stops c bytes)
  | inr miss ↦ rw miss miss
]

pub blank_not_letter : (b : ℕ) → is_in class.Letter b ≡ true → is_in class.Blank b ≡ false
blank_not_letter b h = grind (arith, nat_tests)

digit_not_blank : (b : ℕ) → digit_of b < 10 → is_in class.Blank b ≡ false
digit_not_blank b h = grind (arith, nat_tests)

digit_not_letter : (b : ℕ) → digit_of b < 10 → is_in class.Letter b ≡ false
digit_not_letter b h = grind (arith, nat_tests)

pub starts_blank : (b : ℕ) → is_in class.Blank b ≡ true → starts b ≡ start.Blank
starts_blank b h = rw h refl

pub starts_word : (b : ℕ) → is_in class.Letter b ≡ true → starts b ≡ start.Word
starts_word b h = rw (blank_not_letter b h, h) refl

-- what doesn't begin with a slash begins no comment
pub other_front : (b : ℕ) (rest : List ℕ) → b ≢ 47 → (more : List ℕ) → b ∷ rest ≢ 47 ∷ 42 ∷ more
other_front b rest other more e = other cc

pub starts_number : (b : ℕ) → digit_of b < 10 → starts b ≡ start.Number
starts_number b h = rw (digit_not_blank b h, digit_not_letter b h, lt-ltb (digit_of b) 10 h) refl

-- what the start that a byte has tells of it
abbrev pub Tells : Start → ℕ → Type 0
Tells start.Blank b = is_in class.Blank b ≡ true
Tells start.Word b = is_in class.Letter b ≡ true
Tells start.Number b = digit_of b < 10
Tells start.Text b = b ≡ 34
Tells start.Apostrophe b = b ≡ 39
Tells start.Slash b = b ≡ 47
Tells start.Sign b = (b ≢ 34) × (b ≢ 47) × (10 ≤ digit_of b)

pub tells : (b : ℕ) (s : Start) → starts b ≡ s → Tells s b
tells b s e = subst (λ (s : Start). Tells s b) e (by (is_in class.Blank b) (is_in class.Letter b) (ltb (digit_of b) 10)
    (eqb b 34) (eqb b 39) (eqb b 47) refl refl refl refl refl refl)
  where
    by : (t u v w x y : Bool) → is_in class.Blank b ≡ t → is_in class.Letter b ≡ u → ltb (digit_of b) 10 ≡ v →
        eqb b 34 ≡ w → eqb b 39 ≡ x → eqb b 47 ≡ y → Tells (cond t start.Blank (cond u start.Word
        (cond v start.Number (cond w start.Text (cond x start.Apostrophe (cond y start.Slash start.Sign))))))
        b
    by true u v w x y et eu ev ew ex ey = et
    by false true v w x y et eu ev ew ex ey = eu
    by false false true w x y et eu ev ew ex ey = ltb-true (digit_of b) 10 ev
    by false false false true x y et eu ev ew ex ey = eqb-true b 34 ew
    by false false false false true y et eu ev ew ex ey = eqb-true b 39 ex
    by false false false false false true et eu ev ew ex ey = eqb-true b 47 ey
    by false false false false false false et eu ev ew ex ey =
        (eqb-false b 34 ew, eqb-false b 47 ey, ltb-false (digit_of b) 10 ev)
