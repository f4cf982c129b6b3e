-- Names that have numbers.
use Rattle.std.proofs.Common.{◌≡◌, ℕ, suc, ◌<◌, ◌≤◌, List, [], ◌∷◌, ◌++◌, length, Option, Some, None, Bool, true, false, refl, sym, ap, ◌∙◌, arith, eq-eqb, ne_eqb}
use Rattle.std.specs.Prelude.{if◌then◌else◌, option_map, IfSome, nat_eq}
use Rattle.std.specs.Str.{bytes_eq}
use Rattle.std.specs.Cmp.Lexicographic.{bytes_decides}
use Rattle.std.proofs.lemmas.Cmp.{nat_list_eq_equiv}
use Rattle.std.proofs.lemmas.List.{length-append, append-nil, append_assoc}
use Rattle.pickle_types.specs.Numbers.{number_in, at_number, Extends, IsNumbered}

pub extends_none : (words : List (List ℕ)) → Extends words words
extends_none words = record { more = []; is = sym (append-nil words) }

pub extends_on : {a b c : List (List ℕ)} → Extends a b → Extends b c → Extends a c
extends_on {a} {b} {c} g h =
    record { more = g.more ++ h.more; is = h.is ∙ ap (λ x. x ++ h.more) g.is ∙ append_assoc a g.more h.more }

abbrev number_or_none : Option ℕ → ℕ
number_or_none None = 0
number_or_none (Some n) = n

within_more : (n : ℕ) (b : Bool) (o : Option ℕ) → IfSome o (λ i. i < n) →
    IfSome (if b then Some 0 else option_map suc o) (λ i. i < suc n)
within_more n true o h = omega arith
within_more n false None h = tt
within_more n false (Some i) h = omega arith

-- a number is less than the count of all names
pub number_within : (words : List (List ℕ)) (word : List ℕ) → IfSome (number_in words word) (λ n. n < length words)
number_within [] word = tt
number_within (w ∷ words) word =
    within_more (length words) (bytes_eq w word) (number_in words word) (number_within words word)

same_step : (w a b : List ℕ) (oa ob : Option ℕ) (n : ℕ) (p q : Bool) → bytes_eq w a ≡ p → bytes_eq w b ≡ q →
    ((m : ℕ) → oa ≡ Some m → ob ≡ Some m → a ≡ b) →
    (if p then Some 0 else option_map suc oa) ≡ Some n → (if q then Some 0 else option_map suc ob) ≡ Some n → a ≡ b
same_step w a b oa ob n true true ea eb rest h k = sym ((bytes_decides w a).0 ea) ∙ (bytes_decides w b).0 eb
same_step w a b oa None n true false ea eb rest h k = cc
same_step w a b oa (Some j) n true false ea eb rest h k = let e = ap number_or_none (h ∙ sym k) in absurd (omega arith)
same_step w a b None ob n false true ea eb rest h k = cc
same_step w a b (Some i) ob n false true ea eb rest h k = let e = ap number_or_none (h ∙ sym k) in absurd (omega arith)
same_step w a b None ob n false false ea eb rest h k = cc
same_step w a b (Some i) None n false false ea eb rest h k = cc
same_step w a b (Some i) (Some j) n false false ea eb rest h k =
    let e = ap number_or_none (h ∙ sym k) in
    let same : j ≡ i = omega arith in
    rest i refl (ap Some same)

-- names of the same number are the same name
pub number_of_same : (words : List (List ℕ)) (a b : List ℕ) (n : ℕ) → number_in words a ≡ Some n →
    number_in words b ≡ Some n → a ≡ b
number_of_same [] a b n h k = cc
number_of_same (w ∷ words) a b n h k =
    same_step w a b (number_in words a) (number_in words b) n (bytes_eq w a) (bytes_eq w b) refl refl
    (number_of_same words a b) h k

more_step : (b : Bool) (o o' : Option ℕ) (n : ℕ) → ((m : ℕ) → o ≡ Some m → o' ≡ Some m) →
    (if b then Some 0 else option_map suc o) ≡ Some n → (if b then Some 0 else option_map suc o') ≡ Some n
more_step true o o' n rest h = h
more_step false None o' n rest h = cc
more_step false (Some m) o' n rest h = ap (option_map suc) (rest m refl) ∙ h

-- a name has the number that it had
pub number_kept : (words more : List (List ℕ)) (word : List ℕ) (n : ℕ) → number_in words word ≡ Some n →
    number_in (words ++ more) word ≡ Some n
number_kept [] more word n h = cc
number_kept (w ∷ words) more word n h = more_step (bytes_eq w word) (number_in words word)
    (number_in (words ++ more) word) n (number_kept words more word) h

none_step : (b : Bool) (o o' : Option ℕ) (k : ℕ) → (o ≡ None → IfSome o' (λ i. k ≤ i)) →
    (if b then Some 0 else option_map suc o) ≡ None → IfSome (if b then Some 0 else option_map suc o') (λ i. suc k ≤ i)
none_step true o o' k rest h = cc
none_step false (Some m) o' k rest h = cc
none_step false None None k rest h = tt
none_step false None (Some i) k rest h = let r : k ≤ i = rest refl in omega arith

any : (o : Option ℕ) → IfSome o (λ i. 0 ≤ i)
any None = tt
any (Some i) = omega arith

-- a name that had no number gets a later one
pub number_late : (words more : List (List ℕ)) (word : List ℕ) → number_in words word ≡ None →
    IfSome (number_in (words ++ more) word) (λ i. length words ≤ i)
number_late [] more word h = any (number_in more word)
number_late (w ∷ words) more word h = none_step (bytes_eq w word) (number_in words word)
    (number_in (words ++ more) word) (length words) (number_late words more word) h

module _ {X : Type 0} (words : List (List ℕ)) (at : ℕ → Option X) (look : List ℕ → Option X)
    (h : IsNumbered words at look) where
  nothing : (o : Option ℕ) → IfSome o (λ i. length words ≤ i) → at_number at o ≡ None
  nothing None le = refl
  nothing (Some i) le = h.unused i le

  -- what is stored stays so where more names have numbers
  pub numbered_more : (more : List (List ℕ)) → IsNumbered (words ++ more) at look
  numbered_more more = record {
    kept = λ word. by word (number_in words word) refl;
    unused = λ n le. let longer = length-append words more in h.unused n (omega arith);
  }
    where
      by : (word : List ℕ) (o : Option ℕ) → number_in words word ≡ o →
          at_number at (number_in (words ++ more) word) ≡ look word
      by word (Some n) e = ap (at_number at) (number_kept words more word n e ∙ sym e) ∙ h.kept word
      by word None e = nothing (number_in (words ++ more) word) (number_late words more word e)
          ∙ ap (at_number at) (sym e) ∙ h.kept word

  -- one more name that something is stored for
  module _ (name : List ℕ) (number : ℕ) (x : X) (at' : ℕ → Option X) (look' : List ℕ → Option X)
      (is : number_in words name ≡ Some number)
      (put : (n : ℕ) → at' n ≡ (if nat_eq number n then Some x else at n))
      (found : (word : List ℕ) → look' word ≡ (if bytes_eq name word then Some x else look word)) where
    same_number : (word : List ℕ) (n : ℕ) → number_in words word ≡ Some n → bytes_eq name word ≡ true → number ≡ n
    same_number word n e same =
        let one = (bytes_decides name word).0 same in
        ap number_or_none (sym is ∙ ap (number_in words) one ∙ e)

    same_name : (word : List ℕ) (n : ℕ) → number_in words word ≡ Some n → number ≡ n → bytes_eq name word ≡ true
    same_name word n e same =
        let one = number_of_same words name word n (is ∙ ap Some same) e in rw (← one) (nat_list_eq_equiv.refl name)

    numbered_kept : (word : List ℕ) (o : Option ℕ) → number_in words word ≡ o → (b : Bool) → bytes_eq name word ≡ b →
        at_number at' o ≡ (if b then Some x else look word)
    numbered_kept word None e true eb =
        let clash : None ≡ Some number = sym e ∙ ap (number_in words) (sym ((bytes_decides name word).0 eb)) ∙ is in cc
    numbered_kept word None e false eb = ap (at_number at) (sym e) ∙ h.kept word
    numbered_kept word (Some n) e true eb = put n ∙ rw (eq-eqb number n (same_number word n e eb)) refl
    numbered_kept word (Some n) e false eb =
        let other : number ≡ n → ⊥ = λ same. let clash = same_name word n e same in absurd (cc) in
        put n ∙ rw (ne_eqb number n other) (ap (at_number at) (sym e) ∙ h.kept word)

    pub numbered_put : IsNumbered words at' look'
    numbered_put = record {
      kept = λ word. numbered_kept word (number_in words word) refl (bytes_eq name word) refl ∙ sym (found word);
      unused = λ n le.
          let within = rw is at (number_within words name) in
          put n ∙ rw (ne_eqb number n (λ same. absurd (omega arith))) (h.unused n le);
    }

-- what is stored stays so in whatever extends the names
pub numbered_on : {X : Type 0} (old new : List (List ℕ)) (at : ℕ → Option X) (look : List ℕ → Option X) →
    IsNumbered old at look → Extends old new → IsNumbered new at look
numbered_on old new at look h e = rw e.is (numbered_more old at look h e.more)
