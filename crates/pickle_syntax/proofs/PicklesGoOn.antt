-- Where the reading of tokens stops, some pickle begins with those in front, or each token more is too deep.
use Rattle.std.proofs.Common.{◌≡◌, ℕ, zero, suc, ◌+◌, ◌-◌, ◌<◌, ◌≤◌, ◌⊎◌, inl, inr, List, [], ◌∷◌, ◌++◌, length, take, refl, sym, ap, subst, ◌∙◌, arith, Result, Ok, Err, length-append}
use Rattle.std.proofs.lemmas.List.{append-nil}
use Rattle.std.proofs.Math.Seq.{take-append_seam}
use Rattle.pickle_syntax.specs.declared.token.Word.TheVariants as word
use Rattle.pickle_syntax.specs.declared.token.Sign.TheVariants as sign
use Rattle.pickle_syntax.specs.Tokens.{Token, Reserved, Named, Mark}
use Rattle.pickle_tree.specs.Tree.{Called, FormTree, Plain, DeclarationTree}
use Rattle.pickle_syntax.specs.Show.{show_form, show_declaration, show_pickle}
use Rattle.pickle_syntax.specs.Levels.{IsFormWellBracketed, IsPickleWellBracketed}
use Rattle.pickle_tree.specs.Limits.{Limits, standard, form_depth, IsFormWithin, AreDeclarationsWithin}
use Rattle.pickle_syntax.specs.Reading.{Fault, Wrong, Deep, Read, ◌>>=◌, after_word, expect, name_at}
use Rattle.pickle_syntax.specs.ReadForms.{form_at, declaration_at, with_declaration, declarations_at, pickle_at}
use Rattle.pickle_syntax.specs.Told.{TellsToken, TellsEnd, BeginsPickle, IsFull}
use Rattle.pickle_syntax.proofs.FrontFacts.{name_law}
use Rattle.pickle_syntax.proofs.Parsed.{pickle_refused}
use Rattle.pickle_syntax.proofs.FormsSound.{form_law, declaration_law}
use Rattle.pickle_syntax.proofs.Fronts.{nothing_left, behind, then_twice, name_decided, form_decided, declaration_decided, all_decided}
use Rattle.pickle_syntax.proofs.GoingOn.{Begins, Full, Cut, Cuts, never, done_cut, reads_on, cut_through, cut_less, cut_inside, cut_then, onward, front_word, cut_needed, cut_expect}
use Rattle.pickle_syntax.proofs.ExpressionsGoOn.{missing, name_cut}
use Rattle.pickle_syntax.proofs.FormsGoOn.{form_cut}

abbrev declared : List ℕ → FormTree → DeclarationTree
declared n f = record { name = n; form = f }

abbrev some_form : FormTree
some_form = Plain (Called missing)

abbrev end : List Token
end = Mark sign.Semicolon ∷ []

behind_is : (d : DeclarationTree) (r : Result (List DeclarationTree) Fault) →
    (with_declaration d r >>= nothing_left) ≡ (r >>= nothing_left >>= λ x. behind d x)
behind_is d (Ok ds) = refl
behind_is d (Err e) = refl

module _ (limits : Limits) (enough : limits.form_depth ≤ limits.expression_depth) (some : 1 ≤ limits.form_depth) where
  abbrev DeclarationFits : DeclarationTree → Type 0
  DeclarationFits d = IsFormWellBracketed d.form × IsFormWithin limits d.form × (form_depth d.form ≤ limits.form_depth)

  abbrev DeclarationsFit : ℕ → List DeclarationTree → Type 0
  DeclarationsFit n ds = IsPickleWellBracketed ds × AreDeclarationsWithin limits ds × (length ds ≤ n)

  declaration_cut : (toks : List Token) →
      Cuts (Begins show_declaration DeclarationFits) 1 toks (declaration_at limits) toks
  unfolding declaration_at
  declaration_cut toks =
      let room = limits.form_depth in
      cut_needed (after_word word.Type) (Reserved word.Type) (front_word word.Type)
      (λ start. name_at start >>= λ name. expect sign.Assign name.1 >>= λ assign. form_at limits room assign >>= λ f.
      expect sign.Semicolon f.1 >>= λ after. Ok (declared name.0 f.0, after)) [] toks refl
      (record {
        made = declared missing some_form;
        more = show_declaration (declared missing some_form);
        shown = refl;
        fine = (tt, tt, some);
      })
      (λ start is.
      cut_then name_at (λ t a b. name_decided t a b) (λ name. expect sign.Assign name.1 >>= λ assign. form_at limits
      room assign >>= λ f. expect sign.Semicolon f.1 >>= λ after. Ok (declared name.0 f.0, after)) (omega arith)
      (cut_less {n = 1} (λ few. omega arith) (cut_inside (λ n. declared n some_form) (Reserved word.Type ∷ [])
      (Mark sign.Assign ∷ Named missing ∷ end) is (λ n. refl) (λ n g. (tt, tt, some)) (name_cut start)))
      (λ name e.
      let is2 =
      onward toks (Reserved word.Type ∷ []) start (Named name.0 ∷ []) name.1 is ((name_law start).good name e) in
      cut_expect sign.Assign (λ assign. form_at limits room assign >>= λ f. expect sign.Semicolon f.1 >>= λ after.
      Ok (declared name.0 f.0, after)) (Reserved word.Type ∷ Named name.0 ∷ []) name.1 is2
      (record {
        made = declared name.0 some_form;
        more = Mark sign.Assign ∷ Named missing ∷ end;
        shown = refl;
        fine = (tt, tt, some);
      })
      (λ assign is3.
      let begin = Reserved word.Type ∷ Named name.0 ∷ Mark sign.Assign ∷ [] in
      cut_then (form_at limits room) (λ t a b. form_decided t a b limits room)
      (λ f. expect sign.Semicolon f.1 >>= λ after. Ok (declared name.0 f.0, after)) (omega arith)
      (cut_inside (declared name.0) begin end is3 (λ f. refl) (λ f g. g) (form_cut limits room assign enough))
      (λ f e2.
      let r = (form_law limits room assign enough).good f e2 in
      cut_expect sign.Semicolon (λ after. Ok (declared name.0 f.0, after)) (begin ++ show_form f.0) f.1
      (onward toks begin assign (show_form f.0) f.1 is3 r.shown)
      (record { made = declared name.0 f.0; more = end; shown = refl; fine = (r.fine, r.within, r.low) })
      (λ after is4. done_cut (declared name.0 f.0))))))

  -- all declarations, to the end
  abbrev pub every : ℕ → List Token → Read (List DeclarationTree)
  every n toks = declarations_at limits n toks >>= nothing_left

  abbrev more_at : ℕ → List Token → Read (List DeclarationTree)
  more_at n toks =
      declaration_at limits toks >>= λ d. with_declaration d.0 (declarations_at limits n d.1) >>= nothing_left

  every_next : (n : ℕ) (t : Token) (rest : List Token) → every (suc n) (t ∷ rest) ≡ more_at n (t ∷ rest)
  unfolding declarations_at
  every_next n t rest = then_twice (Mark sign.Comma) [] [] limits
      (declaration_at limits (t ∷ rest)) (λ d. with_declaration d.0 (declarations_at limits n d.1)) nothing_left

  pub declarations_cut : (n : ℕ) (toks : List Token) →
      Cuts (Begins show_pickle (DeclarationsFit n)) 1 toks (every n) toks
  unfolding declarations_at
  declarations_cut n [] = reads_on ([], []) refl
  declarations_cut zero (t ∷ rest) = never (λ left e. absurd cc)
  declarations_cut (suc n) (t ∷ rest) =
      cut_through (more_at n) (t ∷ rest) (every_next n t rest)
      (λ few. few) (λ few x more. every_next n t (rest ++ x ∷ more))
      (cut_then (declaration_at limits) (λ u a b. declaration_decided u a b limits)
      (λ d. with_declaration d.0 (declarations_at limits n d.1) >>= nothing_left) (omega arith)
      (cut_inside (λ d. d ∷ []) [] [] refl (λ d. refl) (λ d g. ((g.0, tt), (g.1, g.2, tt), omega arith))
      (declaration_cut (t ∷ rest)))
      (λ d e.
      let one = (declaration_law limits (t ∷ rest) enough).good d e in
      cut_through (λ l. every n l >>= λ x. behind d.0 x) d.1 (behind_is d.0 (declarations_at limits n d.1))
      (λ few. few) (λ few x more. behind_is d.0 (declarations_at limits n (d.1 ++ x ∷ more)))
      (cut_then (every n) (λ u a b. all_decided u a b limits n) (λ x. behind d.0 x) (omega arith)
      (cut_inside (λ ds. d.0 ∷ ds) (show_declaration d.0) [] one.shown
      (λ ds. sym (append-nil (show_declaration d.0 ++ show_pickle ds)))
      (λ ds g. ((one.fine, g.0), (one.within, one.low, g.1), omega (arith, g.2))) (declarations_cut n d.1))
      (λ x e2. done_cut (d.0 ∷ x.0)))))

-- ---- what a refusal says

-- what stands in front of as many tokens is the same
same_front : (a b c d : List Token) → a ++ b ≡ c ++ d → length b ≡ length d → a ≡ c
same_front a b c d e size =
    let long : length a ≡ length c = omega (arith, length-append a b, length-append c d, ap length e, size) in
    sym (take-append_seam a b) ∙ ap (λ (l : List Token). take (length a) l) e ∙ ap (λ (n : ℕ). take n (c ++ d)) long
    ∙ take-append_seam c d

no_tokens : (l : List Token) → length l ≡ 0 → l ≡ []
no_tokens [] e = refl
no_tokens (t ∷ l) e = absurd (omega (arith, e))

abbrev all : ℕ → List Token → Read (List DeclarationTree)
all n toks = declarations_at standard n toks >>= nothing_left

abbrev Goes : List Token → Type 0
Goes = Begins show_pickle (DeclarationsFit standard (omega arith) (omega arith) 4096)

is_begun : (front : List Token) → Goes front → BeginsPickle front
is_begun front b =
    (b.more, (b.made, record { shown = sym b.shown; bracketed = b.fine.0; within = (b.fine.2, b.fine.1) }))

deep_all : (r : Result (List DeclarationTree) Fault) →
    (let s : Read (List DeclarationTree) = Err Deep in (r >>= nothing_left) ≡ s) → r ≡ Err Deep
deep_all (Ok ds) e = absurd cc
deep_all (Err f) e = let same : f ≡ Deep = cc in ap (λ (g : Fault). Err g) same

cut_at : (toks : List Token) (left : ℕ) → pickle_at standard toks ≡ Err (Wrong left) →
    Cut Goes (Full 1 (all 4096) toks) toks left
cut_at toks left e = (declarations_cut standard (omega arith) (omega arith) 4096 toks).cut left (rw e refl)

pub before_token : (front rest : List Token) (token : Token) → TellsToken front token rest → BeginsPickle front
before_token front rest token told =
    by (cut_at (front ++ token ∷ rest) (length rest + 1) (told ∙ ap (λ (n : ℕ). Err (Wrong n)) left))
  where
    left : length (front ++ token ∷ rest) - length front ≡ length rest + 1
    left = omega (arith, length-append front (token ∷ rest))

    by : Cut Goes (Full 1 (all 4096) (front ++ token ∷ rest)) (front ++ token ∷ rest) (length rest + 1) →
        BeginsPickle front
    by c =
        let same : c.front ≡ front =
        sym (same_front front (token ∷ rest) c.front c.back c.is (omega (arith, c.size))) in
        chosen c.front c.back c.size same c.goes
      where
        chosen : (f b : List Token) → length b ≡ length rest + 1 → f ≡ front →
            Goes f ⊎ ((b ≡ []) × Full 1 (all 4096) (front ++ token ∷ rest)) → BeginsPickle front
        chosen f b size same (inl g) = is_begun front (subst Goes same g)
        chosen f b size same (inr p) = absurd (omega (arith, size, ap length p.0))

pub at_end : (tokens : List Token) → TellsEnd tokens → BeginsPickle tokens ⊎ IsFull tokens
at_end tokens told = by (cut_at tokens 0 (told ∙ ap (λ (n : ℕ). Err (Wrong n)) left))
  where
    left : length tokens - length tokens ≡ 0
    left = omega arith

    by : Cut Goes (Full 1 (all 4096) tokens) tokens 0 → BeginsPickle tokens ⊎ IsFull tokens
    by c = chosen c.front c.back c.is (no_tokens c.back c.size) c.goes
      where
        chosen : (f b : List Token) → tokens ≡ f ++ b → b ≡ [] → Goes f ⊎ ((b ≡ []) × Full 1 (all 4096) tokens) →
            BeginsPickle tokens ⊎ IsFull tokens
        chosen f b is none (inl g) =
            let same : f ≡ tokens = sym (is ∙ ap (λ (l : List Token). f ++ l) none ∙ append-nil f) in
            inl (is_begun tokens (subst Goes same g))
        chosen f b is none (inr p) =
            let full = p.1 in
            inr (λ token more. deep_all (pickle_at standard (tokens ++ token ∷ more)) (full.deep token more))

-- only where there are many tokens is each one more too deep
pub soon : (tokens : List Token) → TellsEnd tokens → length tokens < 64 → BeginsPickle tokens
soon tokens told few = by (at_end tokens told)
  where
    by : BeginsPickle tokens ⊎ IsFull tokens → BeginsPickle tokens
    by (inl b) = b
    by (inr full) = absurd (omega (
      arith,
      few,
      pickle_refused (tokens ++ Mark sign.Comma ∷ []) Deep (full (Mark sign.Comma) []),
      length-append tokens (Mark sign.Comma ∷ []),
    ))
