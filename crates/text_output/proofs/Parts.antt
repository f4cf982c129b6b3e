-- Laws of what a writer accepted of a text.
use Rattle.std.proofs.Common.{◌≡◌, ℕ, ◌+◌, ◌-◌, ◌<◌, ◌≤◌, List, ◌++◌, Option, take, drop, length, sym, ◌∙◌, ap, subst, arith, take-add}
use Rattle.std.specs.Io.KnownBytes.{Appends, Keeps}
use Rattle.std.proofs.KnownBytes.{Appends-trans, Appends-nil}
use Rattle.std.proofs.Common.{Some, None}
use Rattle.std.proofs.lemmas.List.{append_assoc, take-append-drop, take_rest, length-drop, length-append}
use Rattle.text_output.specs.Written.{AppendsPart}

pub Appends-keeps : (a b c : Option (List ℕ)) (x : List ℕ) → Appends a b x → Keeps b c → Appends a c x
Appends-keeps None b c x h g = tt
Appends-keeps (Some a) None c x h g = absurd h
Appends-keeps (Some a) (Some b) None x h g = absurd g
Appends-keeps (Some a) (Some b) (Some c) x h g = g ∙ h

-- the first bytes of a text that has more
pub part_from_take : (a b : Option (List ℕ)) (k : ℕ) (text : List ℕ) → k < length text → Appends a b (take k text) →
    AppendsPart a b text
part_from_take a b k text lt h = record {
  taken = take k text;
  rest = drop k text;
  appends = h;
  whole = take-append-drop k text;
  more = omega (arith, length-drop k text);
}

-- one turn of writing what is left
pub part_step : (a b c : Option (List ℕ)) (k n : ℕ) (text : List ℕ) → k ≤ length text → Appends a b (take k text) →
    n ≤ length (take (length text - k) (drop k text)) → Appends b c (take n (take (length text - k) (drop k text))) →
    (k + n ≤ length text) × Appends a c (take (k + n) text)
part_step a b c k n text le h low g =
    let e : take (length text - k) (drop k text) ≡ drop k text = take_rest text k in
    let low' : n ≤ length (drop k text) = subst (λ s. n ≤ length s) e low in
    let g' : Appends b c (take n (drop k text)) = subst (λ s. Appends b c (take n s)) e g in (
      omega (arith, length-drop k text),
      subst (λ s. Appends a c s) (sym (take-add k n text))
          (Appends-trans a b c (take k text) (take n (drop k text)) h g'),
    )

-- a part of the first of two texts
pub part_first : (a b : Option (List ℕ)) (x y : List ℕ) → AppendsPart a b x → AppendsPart a b (x ++ y)
part_first a b x y h = record {
  taken = h.taken;
  rest = h.rest ++ y;
  appends = h.appends;
  whole = sym (append_assoc h.taken h.rest y) ∙ ap (λ s. s ++ y) h.whole;
  more = omega (arith, length-append h.rest y, h.more);
}

-- a part of the second
pub part_next : (a b c : Option (List ℕ)) (x y : List ℕ) → Appends a b x → AppendsPart b c y → AppendsPart a c (x ++ y)
part_next a b c x y h g = record {
  taken = x ++ g.taken;
  rest = g.rest;
  appends = Appends-trans a b c x g.taken h g.appends;
  whole = append_assoc x g.taken g.rest ∙ ap (λ s. x ++ s) g.whole;
  more = g.more;
}

pub ruleset written = (part_first, part_next, Appends-trans)
