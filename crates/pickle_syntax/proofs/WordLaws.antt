-- Words, openers and attributes are cut by the rules.
use Rattle.std.proofs.Common.{◌≡◌, ◌≢◌, ℕ, suc, ◌+◌, ◌<◌, ◌≤◌, true, cond, List, [], ◌∷◌, ◌++◌, length, take, drop, refl, sym, ap, ◌∙◌, arith, inl, inr, Option, Some, None, Ok}
use Rattle.std.specs.List.{prefix_len, take_while}
use Rattle.std.specs.Str.{bytes_eq}
use Rattle.std.proofs.lemmas.Bool.Decides.{nat_tests}
use Rattle.std.proofs.lemmas.List.Folds.{length-prefix_len}
use Rattle.std.proofs.lemmas.Slice.Eq.{bytes_eq-Decides}
use Rattle.std.proofs.lemmas.List.{take-append-drop}
use Rattle.std.proofs.Math.Seq.{take-append_seam}
use Rattle.pickle_syntax.specs.declared.lexer.bytes.Class.TheVariants as class
use Rattle.pickle_syntax.specs.declared.token.Word.{Word}
use Rattle.pickle_syntax.specs.declared.token.Word.TheVariants as word
use Rattle.pickle_syntax.specs.declared.token.Opener.{Opener}
use Rattle.pickle_syntax.specs.declared.token.Opener.TheVariants as opener
use Rattle.pickle_syntax.specs.Tokens.{Token, Reserved, Named, Opens}
use Rattle.pickle_syntax.specs.Bytes.{is_in}
use Rattle.pickle_syntax.specs.Words.{reserved_word, opener_at, word_token, opened_or, word_piece}
use Rattle.pickle_syntax.specs.Pieces.{AllIn, begins, IsWord, word_spelling, opener_spelling, IsPiece}
use Rattle.pickle_syntax.proofs.Chains.{tested, Begins, begun}
use Rattle.pickle_syntax.proofs.Cuts.{Cuts, Reaches}
use Rattle.pickle_syntax.specs.Lexing.{piece_at}
use Rattle.pickle_syntax.proofs.Classes.{run_reaches, run_all, starts_word}

-- the reserved words are those that are spelled so
pub reserved_spells : (w : Word) → reserved_word (word_spelling w) ≡ Some w
unfolding reserved_word
reserved_spells word.«Type» = refl
reserved_spells word.Struct = refl
reserved_spells word.Union = refl
reserved_spells word.Pinned = refl
reserved_spells word.Big = refl
reserved_spells word.Little = refl
reserved_spells word.If = refl
reserved_spells word.As = refl
reserved_spells word.String = refl

-- a test in a chain of tests
on : (bytes : List ℕ) (w v : Word) (more : Option Word) →
    cond (bytes_eq bytes (word_spelling v)) (Some v) more ≡ Some w → (more ≡ Some w → bytes ≡ word_spelling w) →
    bytes ≡ word_spelling w
on bytes w v more is others = elim (tested (bytes_eq bytes (word_spelling v)) v more w is) [
  | inl hit ↦ (bytes_eq-Decides bytes (word_spelling v)).0 hit.0 ∙ ap word_spelling hit.1
  | inr e ↦ others e
]

pub reserved_is : (bytes : List ℕ) (w : Word) → reserved_word bytes ≡ Some w → bytes ≡ word_spelling w
unfolding reserved_word
reserved_is bytes w is =
    on bytes w word.«Type» _ is (λ is.
    on bytes w word.Struct _ is (λ is.
    on bytes w word.Union _ is (λ is.
    on bytes w word.Pinned _ is (λ is.
    on bytes w word.Big _ is (λ is.
    on bytes w word.Little _ is (λ is.
    on bytes w word.If _ is (λ is.
    on bytes w word.As _ is (λ is.
    on bytes w word.String None is (λ is. absurd cc)))))))))

pub letter_in_word : (b : ℕ) → is_in class.Letter b ≡ true → is_in class.Word b ≡ true
letter_in_word b h = grind (arith, nat_tests)

opener_is : (bytes : List ℕ) (o : Opener × ℕ) → opener_at bytes ≡ Some o → Begins opener_spelling bytes o
unfolding opener_at
opener_is bytes o is =
    begun opener_spelling bytes (opener.Int, 4) o _ refl is (λ is.
    begun opener_spelling bytes (opener.Uint, 5) o _ refl is (λ is.
    begun opener_spelling bytes (opener.Offset, 7) o None refl is (λ is. absurd cc)))

-- the word at the front of bytes that begin with a letter
word_front : (b : ℕ) (rest : List ℕ) → is_in class.Letter b ≡ true → IsWord (take_while (is_in class.Word) (b ∷ rest))
word_front b rest letter =
    let hit = letter_in_word b letter in
    let n = prefix_len (is_in class.Word) rest in
    let long : 1 + n ≡ suc n = omega arith in
    (b, take n rest, rw (hit, long) refl, letter, run_all class.Word rest)

word_is : (w after : List ℕ) (r : Option Word) → reserved_word w ≡ r → IsWord w →
    IsPiece (Some (word_token r w)) w after
word_is w after (Some r) e is = (reserved_is w r e, tt)
word_is w after None e is = (
  (refl, is, λ r same. let f : reserved_word w ≡ Some r = ap reserved_word same ∙ reserved_spells r in absurd cc),
  tt,
)

word_some : (w : List ℕ) → IsWord w → 1 ≤ length w
word_some [] is = absurd (let e : [] ≡ is.0 ∷ is.1 = is.2 in cc)
word_some (b ∷ w) is = omega arith

opened_cuts : (b : ℕ) (rest : List ℕ) (o : Option (Opener × ℕ)) → is_in class.Letter b ≡ true →
    opener_at (b ∷ rest) ≡ o → Cuts (opened_or o (b ∷ rest)) (b ∷ rest)
opened_cuts b rest (Some o) letter e =
    let is = opener_is (b ∷ rest) o e in
    record {
      front = opener_spelling o.0;
      after = drop o.1 (b ∷ rest);
      whole = is.front;
      size = is.size;
      some = omega (arith, is.size, opener_some o.0);
      is = (refl, tt);
    }
  where
    opener_some : (o : Opener) → 1 ≤ length (opener_spelling o)
    opener_some opener.Int = omega arith
    opener_some opener.Uint = omega arith
    opener_some opener.Offset = omega arith
opened_cuts b rest None letter e =
    let w = take_while (is_in class.Word) (b ∷ rest) in
    let is : IsWord w = word_front b rest letter in
    let size : length w ≡ prefix_len (is_in class.Word) (b ∷ rest) = length-prefix_len (is_in class.Word) (b ∷ rest) in
    record {
      front = w;
      after = drop (prefix_len (is_in class.Word) (b ∷ rest)) (b ∷ rest);
      whole = sym (take-append-drop (prefix_len (is_in class.Word) (b ∷ rest)) (b ∷ rest));
      size = size;
      some = omega (arith, size, word_some w is);
      is = word_is w _ (reserved_word w) refl is;
    }

pub word_cuts : (b : ℕ) (rest : List ℕ) → is_in class.Letter b ≡ true → Cuts (word_piece (b ∷ rest)) (b ∷ rest)
unfolding word_piece
word_cuts b rest letter = opened_cuts b rest (opener_at (b ∷ rest)) letter refl

-- an opener is one byte longer than its word
opener_long : (bytes : List ℕ) (o : Opener × ℕ) → Begins opener_spelling bytes o →
    prefix_len (is_in class.Word) bytes < o.1
opener_long bytes (opener.Int, n) is = rw is.front (omega (arith, is.size))
opener_long bytes (opener.Uint, n) is = rw is.front (omega (arith, is.size))
opener_long bytes (opener.Offset, n) is = rw is.front (omega (arith, is.size))

word_reached : (t : Token) (front after : List ℕ) (o : Option (Opener × ℕ)) → AllIn class.Word front →
    t ≡ word_token (reserved_word front) front → opener_at (front ++ after) ≡ o →
    Reaches (Some t) front (Ok (opened_or o (front ++ after)))
word_reached t front after (Some o) all is e =
    let far = run_reaches class.Word front after all in
    let long = opener_long (front ++ after) o (opener_is (front ++ after) o e) in
    record {
      cut = opened_or (Some o) (front ++ after);
      reads = refl;
      far = omega (arith, far, long);
      same = λ h. absurd (omega (arith, h, far, long));
    }
word_reached t front after None all is e =
    record {
      cut = opened_or None (front ++ after);
      reads = refl;
      far = run_reaches class.Word front after all;
      same = λ h. (let w : take_while (is_in class.Word) (front ++ after) ≡ front =
          rw (← h) (take-append_seam front after) in rw (w, is) refl);
    }

word_letters : (w : Word) → AllIn class.Word (word_spelling w)
word_letters word.«Type» = (refl, (refl, (refl, (refl, tt))))
word_letters word.Struct = (refl, (refl, (refl, (refl, (refl, (refl, tt))))))
word_letters word.Union = (refl, (refl, (refl, (refl, (refl, tt)))))
word_letters word.Pinned = (refl, (refl, (refl, (refl, (refl, (refl, tt))))))
word_letters word.Big = (refl, (refl, (refl, tt)))
word_letters word.Little = (refl, (refl, (refl, (refl, (refl, (refl, tt))))))
word_letters word.If = (refl, (refl, tt))
word_letters word.As = (refl, (refl, tt))
word_letters word.String = (refl, (refl, (refl, (refl, (refl, (refl, tt))))))

word_begins : (w : Word) → begins class.Letter (word_spelling w) ≡ true
word_begins word.«Type» = refl
word_begins word.Struct = refl
word_begins word.Union = refl
word_begins word.Pinned = refl
word_begins word.Big = refl
word_begins word.Little = refl
word_begins word.If = refl
word_begins word.As = refl
word_begins word.String = refl

at_word : (at b : ℕ) (rest : List ℕ) → is_in class.Letter b ≡ true → piece_at at (b ∷ rest) ≡ Ok (word_piece (b ∷ rest))
unfolding piece_at
at_word at b rest letter = rw (starts_word b letter) refl

-- a word with a token that its bytes spell
word_reaches : (at : ℕ) (t : Token) (front after : List ℕ) → begins class.Letter front ≡ true → AllIn class.Word front →
    t ≡ word_token (reserved_word front) front → Reaches (Some t) front (piece_at at (front ++ after))
unfolding word_piece
word_reaches at t [] after letter all is = absurd cc
word_reaches at t (b ∷ more) after letter all is = rw (at_word at b (more ++ after) letter)
    (word_reached t (b ∷ more) after (opener_at (b ∷ more ++ after)) all is refl)

pub reserved_reaches : (at : ℕ) (w : Word) (front after : List ℕ) → front ≡ word_spelling w →
    Reaches (Some (Reserved w)) front (piece_at at (front ++ after))
reserved_reaches at w front after is =
    rw is (word_reaches at (Reserved w) (word_spelling w) after (word_begins w) (word_letters w)
    (rw (reserved_spells w) refl))

named : (bytes : List ℕ) (r : Option Word) → reserved_word bytes ≡ r → ((w : Word) → bytes ≢ word_spelling w) →
    Named bytes ≡ word_token r bytes
named bytes (Some w) e none = absurd (none w (reserved_is bytes w e))
named bytes None e none = refl

pub named_reaches : (at : ℕ) (n front after : List ℕ) → n ≡ front → IsWord front →
    ((w : Word) → front ≢ word_spelling w) → Reaches (Some (Named n)) front (piece_at at (front ++ after))
named_reaches at n front after e is none =
    word_reaches at (Named n) front after (rw is.2 is.3) (rw is.2 (letter_in_word is.0 is.3, is.4))
    (rw e (named front (reserved_word front) refl none))

opens : (at : ℕ) (o : Opener) (after : List ℕ) →
    piece_at at (opener_spelling o ++ after) ≡ Ok (Some (Opens o), length (opener_spelling o))
unfolding piece_at word_piece opener_at
opens at opener.Int after = refl
opens at opener.Uint after = refl
opens at opener.Offset after = refl

pub opener_reaches : (at : ℕ) (o : Opener) (front after : List ℕ) → front ≡ opener_spelling o →
    Reaches (Some (Opens o)) front (piece_at at (front ++ after))
opener_reaches at o front after is = rw is (record {
  cut = (Some (Opens o), length (opener_spelling o));
  reads = opens at o after;
  far = omega arith;
  same = λ _. refl;
})
