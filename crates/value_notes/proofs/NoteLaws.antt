-- A text is one note at most.
use Rattle.std.proofs.Common.{◌≡◌, ℕ, true, false, List, [], ◌∷◌, Result, Ok, sym, ap, ◌∙◌, subst, inl, inr, length, ◌-◌}
use Rattle.value_notes.specs.declared.entries.Subject.{Subject}
use Rattle.value_notes.specs.Blanks.{is_end}
use Rattle.value_notes.specs.Entries.{Entry, comma_at, AreEntries, StopsAfter}
use Rattle.value_notes.specs.Notes.{Said, Values, Bits, Formed, Body, BitNames, AForm, ValueNames, IsBody, BodyStops, body_of, HasOneNote}

same_ok : {X : Type 0} (r : Result X (List ℕ)) (a b : X) → r ≡ Ok a → r ≡ Ok b → a ≡ b
same_ok r a b p q = cc

same_read : {X : Type 0} (r : Result (X × List ℕ) (List ℕ)) (a b : X) (x y : List ℕ) → r ≡ Ok (a, x) → r ≡ Ok (b, y) →
    (a ≡ b) × (x ≡ y)
same_read {X = X} r a b x y p q =
    let e : ◌≡◌ {A = X × List ℕ} (a, x) (b, y) = same_ok r (a, x) (b, y) p q in
    (ap (λ (t : X × List ℕ). t.0) e, ap (λ (t : X × List ℕ). t.1) e)

same_rest : (r : Result (List ℕ) (List ℕ)) (x y : List ℕ) → r ≡ Ok x → r ≡ Ok y → x ≡ y
same_rest r x y p q = cc

never : (t : List ℕ) (u : List ℕ) → t ≡ u → is_end t ≡ true → is_end u ≡ false → ⊥
never t u e p q = let h : is_end u ≡ true = subst (λ xs. is_end xs ≡ true) e p in cc

pub one_entries : (subject : Subject) (a b : List Entry) (text : List ℕ) → AreEntries subject a text →
    AreEntries subject b text → a ≡ b
one_entries subject [] b text p q = absurd p
one_entries subject (x ∷ a) [] text p q = absurd q
one_entries subject (x ∷ a) (y ∷ b) text (r, is, inl (nil, end)) (s, also, inl (none, ends)) =
    let head : x ≡ y = (same_read _ x y r s is also).0 in
    cc
one_entries subject (x ∷ a) (y ∷ b) text (r, is, inl (nil, end)) (s, also, inr (more, t, comma, rest)) =
    absurd (never r s (same_read _ x y r s is also).1 end more)
one_entries subject (x ∷ a) (y ∷ b) text (r, is, inr (more, t, comma, rest)) (s, also, inl (nil, end)) =
    absurd (never s r (sym (same_read _ x y r s is also).1) end more)
one_entries subject (x ∷ a) (y ∷ b) text (r, is, inr (m, t, comma, rest)) (s, also, inr (n, u, mark, others)) =
    let same = same_read _ x y r s is also in
    let head : x ≡ y = same.0 in
    let next : t ≡ u = same_rest (comma_at s) t u (subst (λ xs. comma_at xs ≡ Ok t) same.1 comma) mark in
    let tail : a ≡ b = one_entries subject a b u (subst (AreEntries subject a) next rest) others in
    cc

pub no_entries : (subject : Subject) (a es : List Entry) (text stop : List ℕ) → AreEntries subject a text →
    StopsAfter subject es text stop → ⊥
no_entries subject [] es text stop p q = p
no_entries subject (x ∷ a) [] text stop (r, is, end) q = cc
no_entries subject (x ∷ a) (y ∷ es) text stop (r, is, inl (nil, end)) (s, also, more, stops) =
    never r s (same_read _ x y r s is also).1 end more
no_entries subject (x ∷ a) (y ∷ es) text stop (r, is, inr (more, t, comma, rest)) (s, also, go, inl (nil, stops)) =
    let e : comma_at s ≡ Ok t = subst (λ xs. comma_at xs ≡ Ok t) (same_read _ x y r s is also).1 comma in
    cc
no_entries subject (x ∷ a) (y ∷ es) text stop (r, is, inr (more, t, comma, rest)) (s, also, go, inr (u, mark, stops)) =
    let next : t ≡ u =
    same_rest (comma_at s) t u (subst (λ xs. comma_at xs ≡ Ok t) (same_read _ x y r s is also).1 comma) mark in
    no_entries subject a es u stop (subst (AreEntries subject a) next rest) stops

pub one_stop : (subject : Subject) (es fs : List Entry) (text a b : List ℕ) → StopsAfter subject es text a →
    StopsAfter subject fs text b → a ≡ b
one_stop subject [] [] text a b p q = cc
one_stop subject [] (y ∷ fs) text a b p (s, also, more, stops) = cc
one_stop subject (x ∷ es) [] text a b (r, is, more, stops) q = cc
one_stop subject (x ∷ es) (y ∷ fs) text a b (r, is, m, inl (nil, stops)) (s, also, more, inl (none, ends)) =
    let same : r ≡ s = (same_read _ x y r s is also).1 in cc
one_stop subject (x ∷ es) (y ∷ fs) text a b (r, is, m, inl (nil, stops)) (s, also, more, inr (u, mark, ends)) =
    let same : r ≡ s = (same_read _ x y r s is also).1 in cc
one_stop subject (x ∷ es) (y ∷ fs) text a b (r, is, m, inr (t, comma, stops)) (s, also, more, inl (none, ends)) =
    let same : r ≡ s = (same_read _ x y r s is also).1 in cc
one_stop subject (x ∷ es) (y ∷ fs) text a b (r, is, m, inr (t, comma, stops)) (s, also, more, inr (u, mark, ends)) =
    let next : t ≡ u =
    same_rest (comma_at s) t u (subst (λ xs. comma_at xs ≡ Ok t) (same_read _ x y r s is also).1 comma) mark in
    one_stop subject es fs u a b (subst (λ xs. StopsAfter subject es xs a) next stops) ends

one_body : (body : Body) (a b : Said) → IsBody body a → IsBody body b → a ≡ b
one_body (BitNames text) (Bits es) (Bits fs) p q = ap Bits (one_entries _ es fs text p q)
one_body (BitNames text) (Bits es) (Values fs) p q = absurd q
one_body (BitNames text) (Bits es) (Formed f) p q = absurd q
one_body (BitNames text) (Values es) b p q = absurd p
one_body (BitNames text) (Formed f) b p q = absurd p
one_body (AForm text) (Formed f) (Formed g) p q = let e : f ≡ g = cc in ap Formed e
one_body (AForm text) (Formed f) (Values es) p q = absurd q
one_body (AForm text) (Formed f) (Bits es) p q = absurd q
one_body (AForm text) (Values es) b p q = absurd p
one_body (AForm text) (Bits es) b p q = absurd p
one_body (ValueNames text) (Values es) (Values fs) p q = ap Values (one_entries _ es fs text p q)
one_body (ValueNames text) (Values es) (Bits fs) p q = absurd q
one_body (ValueNames text) (Values es) (Formed f) p q = absurd q
one_body (ValueNames text) (Bits es) b p q = absurd p
one_body (ValueNames text) (Formed f) b p q = absurd p

no_body : (body : Body) (a : Said) (stop : List ℕ) → IsBody body a → BodyStops body stop → ⊥
no_body (BitNames text) (Bits es) stop p q = no_entries _ es q.0 text stop p q.1
no_body (BitNames text) (Values es) stop p q = p
no_body (BitNames text) (Formed f) stop p q = p
no_body (AForm text) (Formed f) stop p q = cc
no_body (AForm text) (Values es) stop p q = p
no_body (AForm text) (Bits es) stop p q = p
no_body (ValueNames text) (Values es) stop p q = no_entries _ es q.0 text stop p q.1
no_body (ValueNames text) (Bits es) stop p q = p
no_body (ValueNames text) (Formed f) stop p q = p

one_body_stop : (body : Body) (a b : List ℕ) → BodyStops body a → BodyStops body b → a ≡ b
one_body_stop (BitNames text) a b p q = one_stop _ p.0 q.0 text a b p.1 q.1
one_body_stop (AForm text) a b p q = cc
one_body_stop (ValueNames text) a b p q = one_stop _ p.0 q.0 text a b p.1 q.1

pub one_note : HasOneNote
one_note = record {
  one = λ text a b p q. one_body (body_of text) a b p q;
  none = λ text place note stops is. no_body (body_of text) note stops.0 is stops.1;
  place = λ text a b p q.
      p.2 ∙ ap (λ xs. length text - length xs) (one_body_stop (body_of text) p.0 q.0 p.1 q.1) ∙ sym q.2;
}
