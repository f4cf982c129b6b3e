-- Steps over the declarations.
use Rattle.std.proofs.Common.{◌≡◌, ℕ, zero, suc, ◌-◌, ◌<◌, List, [], ◌∷◌, ◌++◌, true, false, map, refl, sym, ap, arith, append_assoc, Result, Ok, Err}
use Rattle.std.proofs.lemmas.List.{append-nil, map_push}
use Rattle.pickle_tree.specs.declared.tree.Declaration.{Declaration}
use Rattle.pickle_syntax.specs.Tokens.{Token}
use Rattle.pickle_tree.specs.Tree.{DeclarationTree, declaration_tree}
use Rattle.pickle_tree.specs.Limits.{Limits}
use Rattle.pickle_syntax.specs.Reading.{Fault, Many}
use Rattle.pickle_syntax.specs.ReadForms.{declaration_at, with_declaration, is_over, declarations_at}

-- the declarations before, and then the others
abbrev pub with_earlier : List DeclarationTree → Result (List DeclarationTree) Fault →
    Result (List DeclarationTree) Fault
with_earlier front (Ok ds) = Ok (front ++ ds)
with_earlier front (Err f) = Err f

pub earlier_none : (r : Result (List DeclarationTree) Fault) → with_earlier [] r ≡ r
earlier_none (Ok ds) = refl
earlier_none (Err f) = refl

pub declarations_push : (ds : List Declaration) (d : Declaration) →
    map declaration_tree (ds ++ d ∷ []) ≡ map declaration_tree ds ++ declaration_tree d ∷ []
declarations_push ds d = map_push declaration_tree ds d

earlier_next : (front : List DeclarationTree) (d : DeclarationTree) (r : Result (List DeclarationTree) Fault) →
    with_earlier front (with_declaration d r) ≡ with_earlier (front ++ d ∷ []) r
earlier_next front d (Ok ds) = ap (λ (l : List DeclarationTree). Ok l) (sym (append_assoc front (d ∷ []) ds))
earlier_next front d (Err f) = refl

module _ (limits : Limits) (front : List DeclarationTree) where
  pub declarations_done : (n : ℕ) (toks : List Token) → is_over toks ≡ true →
      with_earlier front (declarations_at limits n toks) ≡ Ok front
  unfolding declarations_at
  declarations_done n [] over = rw (append-nil front) refl
  declarations_done n (t ∷ toks) over = absurd cc

  pub declarations_full : (n : ℕ) (toks : List Token) → n ≡ 0 → is_over toks ≡ false →
      with_earlier front (declarations_at limits n toks) ≡ Err Many
  unfolding declarations_at
  declarations_full n [] e more = absurd cc
  declarations_full zero (t ∷ toks) e more = refl
  declarations_full (suc n) (t ∷ toks) e more = absurd (omega arith)

  pub declarations_fault : (n : ℕ) (toks : List Token) (f : Fault) → 0 < n → is_over toks ≡ false →
      declaration_at limits toks ≡ Err f → with_earlier front (declarations_at limits n toks) ≡ Err f
  unfolding declarations_at
  declarations_fault n [] f pos more e = absurd cc
  declarations_fault zero (t ∷ toks) f pos more e = absurd (omega arith)
  declarations_fault (suc n) (t ∷ toks) f pos more e = rw e refl

  pub declarations_step : (n : ℕ) (toks : List Token) (d : DeclarationTree) (after : List Token) → 0 < n →
      is_over toks ≡ false → declaration_at limits toks ≡ Ok (d, after) →
      with_earlier (front ++ d ∷ []) (declarations_at limits (n - 1) after)
      ≡ with_earlier front (declarations_at limits n toks)
  unfolding declarations_at
  declarations_step n [] d after pos more e = absurd cc
  declarations_step zero (t ∷ toks) d after pos more e = absurd (omega arith)
  declarations_step (suc n) (t ∷ toks) d after pos more e =
      let g : suc n - 1 ≡ n = omega arith in rw (e, g) (sym (earlier_next front d (declarations_at limits n after)))

pub ruleset declaration_steps =
    (declarations_push, earlier_none, declarations_done, declarations_full, declarations_fault, declarations_step)
