-- Laws of what a pickle takes of a reader.
use Rattle.std.proofs.Common.{◌≡◌, ℕ, ◌+◌, ◌≤◌, List, [], ◌++◌, Option, Some, None, take, drop, length, sym, ◌∙◌, ap, subst, arith}
use Rattle.std.specs.Io.KnownBytes.{Consumes, Keeps, IsAtEnd}
use Rattle.std.proofs.KnownBytes.{Consumes-trans, Consumes-kept}
use Rattle.std.proofs.Math.Seq.{take-append_seam}
use Rattle.std.proofs.lemmas.List.{append-nil, take_all, drop_all, drop-append-le, drop_all, length-append, length-take}
use Rattle.run_parts.specs.Taken.{ConsumesUpTo, GivesFirst}

-- as many as were asked for
pub gives_full : (a b : Option (List ℕ)) (given : List ℕ) (count : ℕ) → Consumes a b given → length given ≡ count →
    GivesFirst count a b given
gives_full None b given count h e = omega (arith, e)
gives_full (Some xs) None given count h e = absurd h
gives_full (Some xs) (Some ys) given count h e =
    let front : take count xs ≡ given =
    ap (take count) h ∙ ap (λ n. take n (given ++ ys)) (sym e) ∙ take-append_seam given ys in
    let back : drop count xs ≡ ys =
    ap (drop count) h ∙ ap (λ n. drop n (given ++ ys)) (sym e) ∙ drop-append-le (length given) given ys (omega arith)
    ∙ ap (λ l. l ++ ys) (drop_all (length given) given (omega arith)) in
    (sym front, ap Some (sym back))

-- all that there were
pub gives_all : (a b : Option (List ℕ)) (given : List ℕ) (count : ℕ) → Consumes a b given → length given ≤ count →
    IsAtEnd b → GivesFirst count a b given
gives_all None b given count h le end = le
gives_all (Some xs) None given count h le end = absurd h
gives_all (Some xs) (Some ys) given count h le end =
    let same : xs ≡ given = h ∙ ap (λ l. given ++ l) end ∙ append-nil given in
    let few : length xs ≤ count = subst (λ l. length l ≤ count) (sym same) le in
    (sym same ∙ sym (take_all count xs few), ap Some (end ∙ sym (drop_all count xs few)))

-- what was kept, and what was read after it
pub up_to_more : (a b c : Option (List ℕ)) (given page : List ℕ) (n count : ℕ) → Consumes a b given →
    Consumes b c (take n page) → length given + n ≤ count → ConsumesUpTo count a c
up_to_more a b c given page n count h g le = record {
  taken = given ++ take n page;
  consumes = Consumes-trans a b c given (take n page) h g;
  few = omega (arith, length-append given (take n page), length-take n page, le);
}

pub up_to_kept : (a b c : Option (List ℕ)) (given : List ℕ) (count : ℕ) → Consumes a b given → Keeps b c →
    length given ≤ count → ConsumesUpTo count a c
up_to_kept a b c given count h g le = record { taken = given; consumes = Consumes-kept a b c given h g; few = le }

-- a read of no byte takes nothing
pub consumes_none : (a b c : Option (List ℕ)) (given page : List ℕ) (n : ℕ) → n ≡ 0 → Consumes a b given →
    Consumes b c (take n page) → Consumes a c given
consumes_none a b c given page n e h g =
    let g' : Consumes b c [] = subst (λ m. Consumes b c (take m page)) e g in
    subst (Consumes a c) (append-nil given) (Consumes-trans a b c given [] h g')
