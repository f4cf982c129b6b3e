-- Where a reading stops, something begins with the tokens in front, or each token more is too deep.
use Rattle.std.proofs.Common.{◌≡◌, ℕ, ◌≤◌, ◌⊎◌, inl, inr, Option, Some, None, List, [], ◌∷◌, ◌++◌, length, refl, sym, ap, subst, ◌∙◌, arith, Ok, Err, append_assoc}
use Rattle.pickle_syntax.specs.declared.token.Word.{Word}
use Rattle.pickle_syntax.specs.declared.token.Sign.{Sign}
use Rattle.pickle_syntax.specs.declared.token.Sign.TheVariants as sign
use Rattle.pickle_syntax.specs.Tokens.{Token, Reserved, Mark}
use Rattle.pickle_syntax.specs.Reading.{Fault, Wrong, Deep, ◌>>=◌, Read, after_sign, after_word, needed, expect}
use Rattle.pickle_syntax.proofs.Results.{ok_is}
use Rattle.pickle_syntax.proofs.FrontFacts.{after_sign_is, after_word_is}
use Rattle.pickle_syntax.proofs.Fronts.{Within, Paired, both, stops, past, Decided, sign_first, word_first, sign_none, word_none}

-- something that is fine shows tokens that begin with these
pub record Begins {A : Type 0} (shows : A → List Token) (Fine : A → Type 0) (front : List Token) : Type 0 where
  pub made : A
  pub more : List Token
  pub shown : shows made ≡ front ++ more
  pub fine : Fine made

-- there are at least so many tokens, and each token more is too deep; where at least one is asked for, an end at the
-- front is never full
pub record Full {A : Type 0} (n : ℕ) (read : List Token → Read A) (toks : List Token) : Type 0 where
  pub some : n ≤ length toks
  pub deep : (x : Token) (more : List Token) → read (toks ++ x ∷ more) ≡ Err Deep

-- the last tokens, of which so many are left, and those in front of them
pub record Cut (Goes : List Token → Type 0) (All : Type 0) (whole : List Token) (left : ℕ) : Type 0 where
  pub front : List Token
  pub back : List Token
  pub is : whole ≡ front ++ back
  pub size : length back ≡ left
  pub goes : Goes front ⊎ ((back ≡ []) × All)

-- wherever the reading stops, what stands in front goes on, or is full
pub record Cuts {A : Type 0} (Goes : List Token → Type 0) (n : ℕ) (whole : List Token) (read : List Token → Read A)
    (toks : List Token) : Type 0 where
  pub cut : (left : ℕ) → read toks ≡ Err (Wrong left) → Cut Goes (Full n read toks) whole left

-- what stops in a part stops in the whole
cut_map : {Goes Other : List Token → Type 0} {All More : Type 0} {whole larger : List Token} {left : ℕ}
    (pre : List Token) → larger ≡ pre ++ whole → ((front : List Token) → Goes front → Other (pre ++ front)) →
    (All → More) → Cut Goes All whole left → Cut Other More larger left
cut_map {Goes = Goes} {Other = Other} {All = All} {More = More} pre is goes all c = record {
  front = pre ++ c.front;
  back = c.back;
  is = is ∙ ap (λ (l : List Token). pre ++ l) c.is ∙ sym (append_assoc pre c.front c.back);
  size = c.size;
  goes = by c.front c.back c.goes;
}
  where
    by : (front back : List Token) → Goes front ⊎ ((back ≡ []) × All) → Other (pre ++ front) ⊎ ((back ≡ []) × More)
    by front back (inl g) = inl (goes front g)
    by front back (inr f) = inr (f.0, all f.1)

cut_full : {Goes : List Token → Type 0} {All More : Type 0} {whole : List Token} {left : ℕ} → (All → More) →
    Cut Goes All whole left → Cut Goes More whole left
cut_full all c = cut_map [] refl (λ front g. g) all c

stopped_is : {A : Type 0} (m n : ℕ) → let r : Read A = Err (Wrong m) in r ≡ Err (Wrong n) → m ≡ n
stopped_is m n e = cc

-- a reading that doesn't stop here
pub never : {A : Type 0} {Goes : List Token → Type 0} {n : ℕ} {whole : List Token} {read : List Token → Read A}
    {toks : List Token} → ((left : ℕ) → read toks ≡ Err (Wrong left) → ⊥) → Cuts Goes n whole read toks
never nowhere = record { cut = λ left e. absurd (nowhere left e) }

pub done_cut : {A : Type 0} {Goes : List Token → Type 0} {n : ℕ} {whole toks : List Token} (v : A) →
    Cuts Goes n whole (λ (l : List Token). Ok (v, l)) toks
done_cut v = never (λ left e. absurd cc)

-- a reading that stops here, where something goes on
pub stops_here : {A : Type 0} {Goes : List Token → Type 0} {n : ℕ} {whole : List Token} {read : List Token → Read A}
    {toks : List Token} (pre back : List Token) (left : ℕ) →
    read toks ≡ Err (Wrong left) → whole ≡ pre ++ back → length back ≡ left → Goes pre → Cuts Goes n whole read toks
stops_here pre back left e is size goes = record {
  cut = λ k f.
      let same : left ≡ k = stopped_is left k (sym e ∙ f) in
      record { front = pre; back = back; is = is; size = size ∙ same; goes = inl goes };
}

-- the tokens end where each one more is too deep
pub full_end : {A : Type 0} {Goes : List Token → Type 0} {read : List Token → Read A} → read [] ≡ Err (Wrong 0) →
    ((x : Token) (more : List Token) → read (x ∷ more) ≡ Err Deep) → Cuts Goes 0 [] read []
full_end e deep = record {
  cut = λ left f. record {
    front = [];
    back = [];
    is = refl;
    size = stopped_is 0 left (sym e ∙ f);
    goes = inr (refl, record { some = omega arith; deep = deep });
  };
}

-- a reading that has a value
pub reads_on : {A : Type 0} {Goes : List Token → Type 0} {n : ℕ} {whole : List Token} {read : List Token → Read A}
    {toks : List Token} (x : A × List Token) → read toks ≡ Ok x → Cuts Goes n whole read toks
reads_on x e = never (λ left f. let g = sym e ∙ f in absurd cc)

pub too_deep : {A : Type 0} {Goes : List Token → Type 0} {n : ℕ} {whole : List Token} {read : List Token → Read A}
    {toks : List Token} → read toks ≡ Err Deep → Cuts Goes n whole read toks
too_deep e = never (λ left f. let g = sym e ∙ f in absurd cc)

-- a reading that is another one of the last tokens
pub cut_through : {A : Type 0} {Goes : List Token → Type 0} {m n : ℕ} {whole : List Token} {read : List Token → Read A}
    {toks : List Token} (k : List Token → Read A) (rest : List Token) →
    read toks ≡ k rest → (n ≤ length rest → m ≤ length toks) →
    (m ≤ length toks → (x : Token) (more : List Token) → read (toks ++ x ∷ more) ≡ k (rest ++ x ∷ more)) →
    Cuts Goes n whole k rest → Cuts Goes m whole read toks
cut_through k rest is some same c = record {
  cut = λ left e.
      cut_full (λ f. let h = some f.some in record { some = h; deep = λ x more. same h x more ∙ f.deep x more })
      (c.cut left (sym is ∙ e));
}

-- fewer tokens are asked for
pub cut_less : {A : Type 0} {Goes : List Token → Type 0} {m n : ℕ} {whole : List Token} {read : List Token → Read A}
    {toks : List Token} →
    (n ≤ length toks → m ≤ length toks) → Cuts Goes n whole read toks → Cuts Goes m whole read toks
cut_less {read = read} {toks = toks} less c = cut_through read toks refl less (λ h x more. refl) c

regroup : (pre front more post : List Token) → (pre ++ (front ++ more)) ++ post ≡ (pre ++ front) ++ (more ++ post)
regroup pre front more post = simp append_assoc

-- a part of what is made
pub cut_inside : {A B C : Type 0} {shows : A → List Token} {Fine : A → Type 0} {displays : B → List Token}
    {Good : B → Type 0} {n : ℕ} {read : List Token → Read C} {toks whole larger : List Token} (wrap : A → B)
    (pre post : List Token) → larger ≡ pre ++ whole → ((x : A) → displays (wrap x) ≡ (pre ++ shows x) ++ post) →
    ((x : A) → Fine x → Good (wrap x)) → Cuts (Begins shows Fine) n whole read toks →
    Cuts (Begins displays Good) n larger read toks
cut_inside {A = A} {shows = shows} {Fine = Fine} {displays = displays} {Good = Good} wrap pre post is spells keeps c =
    record {
      cut = λ left e. cut_map pre is around (λ f. f) (c.cut left e);
    }
  where
    around : (front : List Token) → Begins shows Fine front → Begins displays Good (pre ++ front)
    around front b = record {
      made = wrap b.made;
      more = b.more ++ post;
      shown = spells b.made ∙ ap (λ (l : List Token). (pre ++ l) ++ post) b.shown ∙ regroup pre front b.more post;
      fine = keeps b.made b.fine;
    }

-- ---- one reading, and then the rest

abbrev pub Seen : {A : Type 0} → (List Token → Read A) → Type 0
Seen read = (t : Token) (a b : List Token) → Decided t a b read

record Last (toks : List Token) : Type 0 where
  front : List Token
  last : Token
  is : toks ≡ front ++ last ∷ []

last_of : (t : Token) (rest : List Token) → Last (t ∷ rest)
last_of t [] = record { front = []; last = t; is = refl }
last_of t (u ∷ rest) =
    let l = last_of u rest in
    record { front = t ∷ l.front; last = l.last; is = ap (λ (s : List Token). t ∷ s) l.is }

-- tokens behind the last one don't change what was read, where the last one wasn't read
abbrev done : {A : Type 0} → A → List Token → Read A
done v rest = Ok (v, rest)

abbrev failed : {A : Type 0} → Fault → Read A
failed d = Err d

none : (rest : List Token) → 1 ≤ length rest → length rest ≤ 0 → ⊥
none rest some few = absurd (omega (arith, some, few))

module _ {A : Type 0} (read : List Token → Read A) (seen : Seen read) where
  shorter : (toks : List Token) (x : A × List Token) → read toks ≡ Ok x → length x.1 ≤ length toks
  shorter toks x e = subst (Within (length toks)) e ((seen (Mark sign.Comma) [] []).within toks)

  extends : (toks : List Token) (x : A × List Token) → read toks ≡ Ok x → 1 ≤ length x.1 →
      (y : Token) (more : List Token) → read (toks ++ y ∷ more) ≡ Ok (x.0, x.1 ++ y ∷ more)
  extends [] x e some y more = absurd (omega (arith, some, shorter [] x e))
  extends (t ∷ rest) x e some y more = rw same (by (read (l.front ++ l.last ∷ []))
      (read (l.front ++ l.last ∷ y ∷ more)) ((seen l.last [] (y ∷ more)).paired l.front) (sym (ap read l.is) ∙ e))
    where
      l : Last (t ∷ rest)
      l = last_of t rest

      same : (t ∷ rest) ++ y ∷ more ≡ l.front ++ l.last ∷ y ∷ more
      same = ap (λ (s : List Token). s ++ y ∷ more) l.is ∙ append_assoc l.front (l.last ∷ []) (y ∷ more)

      by : (r s : Read A) → Paired l.last [] (y ∷ more) r s → r ≡ Ok x → s ≡ Ok (x.0, x.1 ++ y ∷ more)
      by r s (both v g e1 e2) is =
          let it : (v, g ++ l.last ∷ []) ≡ x = ok_is (v, g ++ l.last ∷ []) x (sym e1 ∙ is) in
          let tail : g ++ l.last ∷ y ∷ more ≡ (g ++ l.last ∷ []) ++ y ∷ more =
          sym (append_assoc g (l.last ∷ []) (y ∷ more)) in
          e2 ∙ ap (λ (s : List Token). done v s) tail ∙ ap (λ (z : A × List Token). done z.0 (z.1 ++ y ∷ more)) it
      by r s (stops left e1 e2) is = absurd cc
      by r s (past w) is = absurd (none x.1 some (subst (Within 0) is w))

  pub cut_then : {B : Type 0} {Goes : List Token → Type 0} {n : ℕ} {whole toks : List Token}
      (f : A × List Token → Read B) → n ≤ 1 → Cuts Goes n whole read toks →
      ((x : A × List Token) → read toks ≡ Ok x → Cuts Goes 1 whole (λ (l : List Token). f (x.0, l)) x.1) →
      Cuts Goes n whole (λ (l : List Token). read l >>= f) toks
  cut_then {B = B} {Goes = Goes} {n = n} {whole = whole} {toks = toks} f few c more =
      record { cut = λ left e. by left (read toks) refl e }
    where
      by : (left : ℕ) (r : Read A) → read toks ≡ r → (r >>= f) ≡ Err (Wrong left) →
          Cut Goes (Full n (λ (l : List Token). read l >>= f) toks) whole left
      by left (Err d) is e =
          let same : d ≡ Wrong left = cc in
          cut_full (λ a. record { some = a.some; deep = λ x others. rw (a.deep x others) refl })
          (c.cut left (is ∙ ap (failed {A = A}) same))
      by left (Ok x) is e =
          let inner = more x is in
          cut_full (λ a. record {
            some = omega (arith, few, a.some, shorter toks x is);
            deep = λ y others. rw (extends toks x is a.some y others) (a.deep y others);
          }) (inner.cut left e)

-- ---- what is chosen by the first token

-- a part of the tokens was read, and others come behind it
pub onward : (whole pre toks part rest : List Token) → whole ≡ pre ++ toks → toks ≡ part ++ rest →
    whole ≡ (pre ++ part) ++ rest
onward whole pre toks part rest is e = is ∙ ap (λ (l : List Token). pre ++ l) e ∙ sym (append_assoc pre part rest)

pub record Front (after : List Token → Option (List Token)) (m : Token) : Type 0 where
  pub none : after [] ≡ None
  pub first : (t : Token) →
      ((rest : List Token) → after (t ∷ rest) ≡ Some rest) ⊎ ((rest : List Token) → after (t ∷ rest) ≡ None)
  pub is : (toks rest : List Token) → after toks ≡ Some rest → toks ≡ m ∷ rest

pub front_sign : (s : Sign) → Front (after_sign s) (Mark s)
front_sign s = record { none = sign_none s; first = sign_first s; is = after_sign_is s }

pub front_word : (w : Word) → Front (after_word w) (Reserved w)
front_word w = record { none = word_none w; first = word_first w; is = after_word_is w }

module _ {A : Type 0} {Goes : List Token → Type 0} {whole : List Token} (after : List Token → Option (List Token))
    (m : Token) (front : Front after m) where
  pub cut_choice : (k : Option (List Token) → List Token → Read A) (some none : List Token → Read A)
      (toks : List Token) → ((rest l : List Token) → k (Some rest) l ≡ some rest) →
      ((l : List Token) → k None l ≡ none l) → ((rest : List Token) → toks ≡ m ∷ rest → Cuts Goes 0 whole some rest) →
      Cuts Goes 1 whole none toks → Cuts Goes 1 whole (λ (l : List Token). k (after l) l) toks
  cut_choice k some none [] is_some is_none taken other =
      cut_through none [] (rw front.none (is_none [])) (λ h. h) (λ h x more. absurd (omega (arith, h))) other
  cut_choice k some none (t ∷ rest) is_some is_none taken other = by (front.first t)
    where
      by : ((rest : List Token) → after (t ∷ rest) ≡ Some rest) ⊎ ((rest : List Token) → after (t ∷ rest) ≡ None) →
          Cuts Goes 1 whole (λ (l : List Token). k (after l) l) (t ∷ rest)
      by (inl h) = cut_through some rest (rw (h rest) (is_some rest (t ∷ rest))) (λ few. omega arith)
          (λ few x more. rw (h (rest ++ x ∷ more)) (is_some (rest ++ x ∷ more) (t ∷ (rest ++ x ∷ more))))
          (taken rest (front.is (t ∷ rest) rest (h rest)))
      by (inr h) = cut_through none (t ∷ rest) (rw (h rest) (is_none (t ∷ rest))) (λ few. few)
          (λ few x more. rw (h (rest ++ x ∷ more)) (is_none (t ∷ (rest ++ x ∷ more)))) other

  -- a token that has to come
  pub cut_needed : (f : List Token → Read A) (pre toks : List Token) → whole ≡ pre ++ toks → Goes pre →
      ((rest : List Token) → whole ≡ (pre ++ m ∷ []) ++ rest → Cuts Goes 0 whole f rest) →
      Cuts Goes 1 whole (λ (l : List Token). needed (after l) l >>= f) toks
  cut_needed f pre toks is goes more = cut_choice (λ o l. needed o l >>= f) f (λ l. Err (Wrong (length l))) toks
      (λ rest l. refl) (λ l. refl) (λ rest e. more rest (onward whole pre toks (m ∷ []) rest is e))
      (stops_here pre toks (length toks) refl is refl goes)

pub cut_expect : {A : Type 0} {Goes : List Token → Type 0} {whole : List Token} (s : Sign) (f : List Token → Read A)
    (pre toks : List Token) → whole ≡ pre ++ toks → Goes pre →
    ((rest : List Token) → whole ≡ (pre ++ Mark s ∷ []) ++ rest → Cuts Goes 0 whole f rest) →
    Cuts Goes 1 whole (λ (l : List Token). expect s l >>= f) toks
unfolding expect
cut_expect s f pre toks is goes more = cut_needed (after_sign s) (Mark s) (front_sign s) f pre toks is goes more
