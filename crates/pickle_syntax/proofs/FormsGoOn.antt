-- Where the reading of a type stops, some type begins with the tokens in front, or each token more is too deep.
use Rattle.std.proofs.Common.{◌≡◌, ℕ, zero, suc, ◌+◌, ◌≤◌, inl, Bool, true, false, cond, ltb, Option, Some, None, List, [], ◌∷◌, ◌++◌, length, refl, sym, ap, subst, ◌∙◌, arith, Ok, Err, append_assoc}
use Rattle.std.proofs.lemmas.Bool.{ltb-false}
use Rattle.std.proofs.lemmas.List.{append-nil}
use Rattle.pickle_syntax.specs.declared.token.Word.{Word}
use Rattle.pickle_syntax.specs.declared.token.Word.TheVariants as word
use Rattle.pickle_syntax.specs.declared.token.Sign.{Sign}
use Rattle.pickle_syntax.specs.declared.token.Sign.TheVariants as sign
use Rattle.pickle_tree.specs.declared.tree.ByteOrder.{ByteOrder}
use Rattle.pickle_tree.specs.declared.tree.ByteOrder.TheVariants as order
use Rattle.pickle_syntax.specs.Tokens.{Token, Reserved, Named, Mark}
use Rattle.pickle_tree.specs.Tree.{Called, TreeTarget, ToReference, ToOffset, Tree, FormTree, Plain, StringForm, ArrayForm, StructForm, IntegralForm, UnionForm, FieldTrees, NoFields, FieldThen, FieldTree}
use Rattle.pickle_syntax.specs.Show.{show, show_reference, show_target, show_optional, show_part, show_name, show_order, show_form, show_fields}
use Rattle.pickle_syntax.specs.Levels.{IsOptionalWellBracketed, ArePartsWellBracketed, IsBase, IsFormWellBracketed, AreFieldsWellBracketed}
use Rattle.pickle_tree.specs.Limits.{Limits, form_depth, fields_depth, field_count, IsOptionalWithin, ArePartsWithin, IsFormWithin, AreFieldsWithin}
use Rattle.pickle_syntax.specs.Reading.{Wrong, Deep, Many, Read, ◌>>=◌, after_sign, after_word, expect, reference_at, target_at}
use Rattle.pickle_syntax.specs.ReadExpressions.{expression_at, operand_at}
use Rattle.pickle_syntax.specs.ReadForms.{present_at, present_if, part_at, condition_at, bound_by, bound_at, FormReader, order_at, optional_name_at, field_at, with_field, unless_closed, fields_at, braced_at, target_form, struct_by, struct_at, pinned_at, word_form, base_at, suffix_by, suffix_at, form_at}
use Rattle.pickle_syntax.proofs.Results.{Outcome}
use Rattle.pickle_syntax.proofs.FrontFacts.{reference_law}
use Rattle.pickle_syntax.proofs.FormsSound.{before_end, present_law, part_law, condition_law, ReadsForm, IsRefused, field_law, fields_law, base_law, form_law}
use Rattle.pickle_syntax.proofs.Fronts.{with_field_is, reference_decided, target_decided, expression_decided, present_decided, part_decided, condition_decided, bound_decided, field_decided, fields_decided, braced_decided, base_decided, form_decided}
use Rattle.pickle_syntax.proofs.GoingOn.{Begins, Cuts, never, done_cut, stops_here, full_end, too_deep, cut_through, cut_less, cut_inside, Seen, cut_then, onward, front_sign, front_word, cut_choice, cut_needed, cut_expect}
use Rattle.pickle_syntax.proofs.ExpressionsGoOn.{Any, missing, reference_cut, target_cut, Fits, joins, expression_cut}

-- ---- expressions that may be absent

abbrev Allowed : ℕ → Option Tree → Type 0
Allowed most o = IsOptionalWellBracketed o × IsOptionalWithin most o

present_cut : (most : ℕ) (toks : List Token) → Cuts (Begins show (Fits most 1)) 0 toks (present_at most) toks
unfolding present_at
present_cut most toks =
    cut_then (expression_at most 1) (λ t a b. expression_decided t a b most 1) (λ e. Ok (Some e.0, e.1)) (omega arith)
    (expression_cut most 1 toks (omega arith) (omega arith)) (λ e is. done_cut (Some e.0))

part_cut : (most : ℕ) (s : Sign) (toks : List Token) →
    Cuts (Begins (show_part (Mark s)) (Allowed most)) 1 toks (part_at most s) toks
unfolding part_at
part_cut most s toks =
    cut_choice (after_sign s) (Mark s) (front_sign s) (present_if most) (present_at most) (λ l. Ok (None, l)) toks
    (λ rest l. refl) (λ l. refl)
    (λ rest e. cut_inside (λ t. Some t) (Mark s ∷ []) [] e (λ t. sym (append-nil (Mark s ∷ show t))) (λ t f. (f.0, f.2))
    (present_cut most rest))
    (done_cut None)

condition_cut : (most : ℕ) (toks : List Token) →
    Cuts (Begins (show_part (Reserved word.If)) (Allowed most)) 1 toks (condition_at most) toks
unfolding condition_at
condition_cut most toks =
    cut_choice (after_word word.If) (Reserved word.If) (front_word word.If) (present_if most) (present_at most)
    (λ l. Ok (None, l)) toks (λ rest l. refl) (λ l. refl)
    (λ rest e. cut_inside (λ t. Some t) (Reserved word.If ∷ []) [] e (λ t. sym (append-nil (Reserved word.If ∷ show t)))
    (λ t f. (f.0, f.2)) (present_cut most rest))
    (done_cut None)

-- a bound with the bracket that closes it
abbrev show_bound : Option Tree → List Token
show_bound b = show_optional b ++ Mark sign.CloseBracket ∷ []

abbrev closed_at : ℕ → List Token → Read (Option Tree)
closed_at most toks = present_at most toks >>= λ e. expect sign.CloseBracket e.1 >>= λ after. Ok (e.0, after)

no_bound : (most : ℕ) → let r : Read (Option Tree) = Err (Wrong 0) in closed_at most [] ≡ r
unfolding present_at expression_at operand_at
no_bound zero = refl
no_bound (suc most) = refl

closed_cut : (most : ℕ) (toks : List Token) → Cuts (Begins show_bound (Allowed most)) 1 toks (closed_at most) toks
closed_cut most [] = stops_here [] [] 0 (no_bound most) refl refl
    (record { made = None; more = Mark sign.CloseBracket ∷ []; shown = refl; fine = (tt, tt) })
closed_cut most (t ∷ toks) =
    cut_less {n = 0} (λ few. omega arith)
    (cut_then (present_at most) (λ u a b. present_decided u a b most)
    (λ e. expect sign.CloseBracket e.1 >>= λ after. Ok (e.0, after)) (omega arith)
    (cut_inside (λ e. Some e) [] (Mark sign.CloseBracket ∷ []) refl (λ e. refl) (λ e f. (f.0, f.2))
    (present_cut most (t ∷ toks)))
    (λ e is.
    let r = (present_law most show_optional (t ∷ toks) [] (t ∷ toks) refl (λ e. refl)).good e is in
    cut_expect sign.CloseBracket (λ after. Ok (e.0, after)) (show_optional e.0) e.1 r.shown
    (record { made = e.0; more = Mark sign.CloseBracket ∷ []; shown = refl; fine = (r.fine, r.low) })
    (λ after is2. done_cut e.0)))

bound_cut : (most : ℕ) (toks : List Token) → Cuts (Begins show_bound (Allowed most)) 1 toks (bound_at most) toks
unfolding bound_at
bound_cut most toks =
    cut_choice (after_sign sign.CloseBracket) (Mark sign.CloseBracket) (front_sign sign.CloseBracket) (bound_by most)
    (λ rest. Ok (None, rest)) (closed_at most) toks (λ rest l. refl) (λ l. refl)
    (λ rest e. done_cut None) (closed_cut most toks)

-- ---- fields

abbrev field_of : Option ByteOrder → FormTree → Option (List ℕ) → Option Tree → Option Tree → Option Tree → FieldTree
field_of o f n c l k =
    record { form = f; parts = record { order = o; name = n; constraint = c; label = l; condition = k } }

abbrev end : List Token
end = Mark sign.Semicolon ∷ []

abbrev show_field : FieldTree → List Token
show_field f = before_end f ++ end

spells_field : (o f n c l k s : List Token) →
    (o ++ f ++ (n ++ c ++ l ++ k)) ++ s ≡ (((((o ++ f) ++ n) ++ c) ++ l) ++ k) ++ s
spells_field o f n c l k s = simp append_assoc

spells_label : (o f n c l s : List Token) → (o ++ f ++ (n ++ c ++ l ++ [])) ++ s ≡ ((((o ++ f) ++ n) ++ c) ++ l) ++ s
spells_label o f n c l s = simp (append_assoc, append-nil)

spells_constraint : (o f n c s : List Token) → (o ++ f ++ (n ++ c ++ [] ++ [])) ++ s ≡ (((o ++ f) ++ n) ++ c) ++ s
spells_constraint o f n c s = simp (append_assoc, append-nil)

spells_form : (o f s : List Token) → (o ++ f ++ ([] ++ [] ++ [] ++ [])) ++ s ≡ (o ++ f) ++ s
spells_form o f s = simp (append_assoc, append-nil)

spells_only : (o f n c l k s t : List Token) →
    (o ++ f ++ (n ++ c ++ l ++ k ++ s) ++ []) ++ t ≡ ([] ++ ((o ++ f ++ (n ++ c ++ l ++ k)) ++ s)) ++ t
spells_only o f n c l k s t = simp (append_assoc, append-nil)

spells_first : (o f n c l k s fs t : List Token) →
    (o ++ f ++ (n ++ c ++ l ++ k ++ s) ++ fs) ++ t ≡ (((o ++ f ++ (n ++ c ++ l ++ k)) ++ s) ++ (fs ++ t)) ++ []
spells_first o f n c l k s fs t = simp (append_assoc, append-nil)

spells_braced : (r fs s : List Token) (m : Token) → (r ++ m ∷ fs) ++ s ≡ (r ++ m ∷ (fs ++ s)) ++ []
spells_braced r fs s m = simp (append_assoc, append-nil)

spells_array : (f b s : List Token) (m : Token) → (f ++ m ∷ b) ++ s ≡ ((f ++ m ∷ []) ++ (b ++ s)) ++ []
spells_array f b s m = simp (append_assoc, append-nil)

-- the fields with the brace that closes them, and with both
abbrev show_inside : FieldTrees → List Token
show_inside fs = show_fields fs ++ Mark sign.CloseBrace ∷ []

abbrev show_braced : FieldTrees → List Token
show_braced fs = Mark sign.OpenBrace ∷ (show_fields fs ++ Mark sign.CloseBrace ∷ [])

module _ (limits : Limits) where
  abbrev FieldFits : ℕ → FieldTree → Type 0
  FieldFits room f = IsFormWellBracketed f.form × ArePartsWellBracketed f.parts × IsFormWithin limits f.form
      × ArePartsWithin limits.expression_depth f.parts × (form_depth f.form ≤ room)

  abbrev FieldsFit : ℕ → ℕ → FieldTrees → Type 0
  FieldsFit room n fs =
      AreFieldsWellBracketed fs × AreFieldsWithin limits fs × (fields_depth fs ≤ room) × (field_count fs ≤ n)

  abbrev pub FormFits : ℕ → FormTree → Type 0
  FormFits room f = IsFormWellBracketed f × IsFormWithin limits f × (form_depth f ≤ room)

  abbrev BaseFits : ℕ → FormTree → Type 0
  BaseFits room f = IsFormWellBracketed f × IsFormWithin limits f × (form_depth f ≤ room) × IsBase f

  -- a field after its name, and after its order of bytes
  abbrev named : Option ByteOrder → FormTree → Option (List ℕ) × List Token → Read FieldTree
  named o f n = part_at limits.expression_depth sign.Colon n.1 >>= λ c.
      part_at limits.expression_depth sign.At c.1 >>= λ l. condition_at limits.expression_depth l.1 >>= λ k.
      expect sign.Semicolon k.1 >>= λ after. Ok (field_of o f n.0 c.0 l.0 k.0, after)

  abbrev ordered : FormReader → Option ByteOrder × List Token → Read FieldTree
  ordered sub o = sub o.1 >>= λ f. named o.0 f.0 (optional_name_at f.1)

  module _ (room : ℕ) (o : Option ByteOrder) (f : FormTree) (fine : IsFormWellBracketed f)
      (within : IsFormWithin limits f) (low : form_depth f ≤ room) (whole : List Token) where
    named_cut : (n : Option (List ℕ)) (toks : List Token) →
        whole ≡ ((show_order o ++ show_form f) ++ show_name n) ++ toks →
        Cuts (Begins show_field (FieldFits room)) 1 whole (λ (l : List Token). named o f (n, l)) toks
    named_cut n toks is =
        let most = limits.expression_depth in
        let begin = (show_order o ++ show_form f) ++ show_name n in
        cut_then (part_at most sign.Colon) (λ t a b. part_decided t a b most sign.Colon)
        (λ c. part_at most sign.At c.1 >>= λ l. condition_at most l.1 >>= λ k. expect sign.Semicolon k.1 >>= λ after.
        Ok (field_of o f n c.0 l.0 k.0, after)) (omega arith)
        (cut_inside (λ c. field_of o f n c None None) begin end is
        (λ c. spells_constraint (show_order o) (show_form f) (show_name n) (show_part (Mark sign.Colon) c) end)
        (λ c g. (fine, (g.0, tt, tt), within, (g.1, tt, tt), low)) (part_cut most sign.Colon toks))
        (λ c e.
        let rc = (part_law most sign.Colon toks).good c e in
        let with_c = begin ++ show_part (Mark sign.Colon) c.0 in
        let is2 = onward whole begin toks (show_part (Mark sign.Colon) c.0) c.1 is rc.shown in
        cut_then (part_at most sign.At) (λ t a b. part_decided t a b most sign.At) (λ l. condition_at most l.1 >>= λ k.
        expect sign.Semicolon k.1 >>= λ after. Ok (field_of o f n c.0 l.0 k.0, after)) (omega arith)
        (cut_inside (λ l. field_of o f n c.0 l None) with_c end is2 (λ l. spells_label (show_order o) (show_form f)
        (show_name n) (show_part (Mark sign.Colon) c.0) (show_part (Mark sign.At) l) end)
        (λ l g. (fine, (rc.fine, g.0, tt), within, (rc.low, g.1, tt), low)) (part_cut most sign.At c.1))
        (λ l e2.
        let rl = (part_law most sign.At c.1).good l e2 in
        let with_l = with_c ++ show_part (Mark sign.At) l.0 in
        let is3 = onward whole with_c c.1 (show_part (Mark sign.At) l.0) l.1 is2 rl.shown in
        let spells = λ (k : Option Tree). spells_field (show_order o) (show_form f) (show_name n)
        (show_part (Mark sign.Colon) c.0) (show_part (Mark sign.At) l.0) (show_part (Reserved word.If) k) end in
        cut_then (condition_at most) (λ t a b. condition_decided t a b most)
        (λ k. expect sign.Semicolon k.1 >>= λ after. Ok (field_of o f n c.0 l.0 k.0, after)) (omega arith)
        (cut_inside (λ k. field_of o f n c.0 l.0 k) with_l end is3 spells
        (λ k g. (fine, (rc.fine, rl.fine, g.0), within, (rc.low, rl.low, g.1), low)) (condition_cut most l.1))
        (λ k e3.
        let rk = (condition_law most l.1).good k e3 in
        cut_expect sign.Semicolon (λ after. Ok (field_of o f n c.0 l.0 k.0, after))
        (with_l ++ show_part (Reserved word.If) k.0) k.1
        (onward whole with_l l.1 (show_part (Reserved word.If) k.0) k.1 is3 rk.shown)
        (record {
          made = field_of o f n c.0 l.0 k.0;
          more = end;
          shown = spells k.0;
          fine = (fine, (rc.fine, rl.fine, rk.fine), within, (rc.low, rl.low, rk.low), low);
        })
        (λ after is4. done_cut (field_of o f n c.0 l.0 k.0)))))

    with_name_cut : (toks : List Token) → whole ≡ (show_order o ++ show_form f) ++ toks →
        Cuts (Begins show_field (FieldFits room)) 1 whole (λ (l : List Token). named o f (optional_name_at l)) toks
    unfolding optional_name_at
    with_name_cut (Named n ∷ rest) is =
        cut_through (λ l. named o f (Some n, l)) rest refl (λ few. omega arith) (λ few x more. refl)
        (named_cut (Some n) rest
        (onward whole (show_order o ++ show_form f) (Named n ∷ rest) (Named n ∷ []) rest is refl))
    with_name_cut [] is =
        cut_through (λ l. named o f (None, l)) [] refl (λ few. few) (λ few x more. absurd (omega (arith, few)))
        (named_cut None [] (onward whole (show_order o ++ show_form f) [] [] [] is refl))
    with_name_cut (t ∷ rest) is =
        cut_through (λ l. named o f (None, l)) (t ∷ rest) refl (λ few. few) (λ few x more. refl)
        (named_cut None (t ∷ rest) (onward whole (show_order o ++ show_form f) (t ∷ rest) [] (t ∷ rest) is refl))

  module _ (sub : FormReader) (room : ℕ) (enough : room ≤ limits.expression_depth)
      (law : (toks : List Token) → Outcome (ReadsForm limits room toks) (IsRefused limits.fields room toks) (sub toks))
      (seen : Seen sub) (cuts : (toks : List Token) → Cuts (Begins show_form (FormFits room)) 0 toks sub toks) where
    ordered_cut : (o : Option ByteOrder) (toks : List Token) →
        Cuts (Begins show_field (FieldFits room)) 0 (show_order o ++ toks) (λ (l : List Token). ordered sub (o, l)) toks
    ordered_cut o toks =
        cut_then sub seen (λ f. named o f.0 (optional_name_at f.1)) (omega arith)
        (cut_inside (λ f. field_of o f None None None None) (show_order o) end refl
        (λ f. spells_form (show_order o) (show_form f) end)
        (λ f g. (g.0, (tt, tt, tt), g.1, (tt, tt, tt), g.2)) (cuts toks))
        (λ f e.
        let r = (law toks).good f e in
        with_name_cut room o f.0 r.fine r.within r.low (show_order o ++ toks) f.1
        (onward (show_order o ++ toks) (show_order o) toks (show_form f.0) f.1 refl r.shown))

    field_cut : (t : Token) (rest : List Token) →
        Cuts (Begins show_field (FieldFits room)) 1 (t ∷ rest) (field_at limits sub) (t ∷ rest)
    unfolding field_at order_at
    field_cut (Reserved word.Big) rest = cut_through {n = 0} (λ l. ordered sub (Some order.Big, l)) rest refl
        (λ few. omega arith) (λ few x more. refl) (ordered_cut (Some order.Big) rest)
    field_cut (Reserved word.Little) rest = cut_through {n = 0} (λ l. ordered sub (Some order.Little, l)) rest refl
        (λ few. omega arith) (λ few x more. refl) (ordered_cut (Some order.Little) rest)
    field_cut t rest = cut_through {n = 0} (λ l. ordered sub (None, l)) (t ∷ rest) refl (λ few. omega arith)
        (λ few x more. refl) (ordered_cut None (t ∷ rest))

    -- a field, and then others
    abbrev several : ℕ → List Token → Read FieldTrees
    several n toks = field_at limits sub toks >>= λ f. with_field f.0 (fields_at limits sub n f.1)

    -- no field has begun
    fields_end : (n : ℕ) → suc n ≤ limits.fields →
        Cuts (Begins show_inside (FieldsFit room (suc n))) 1 [] (several n) []
    unfolding fields_at after_sign
    fields_end n few = record {
      cut = λ left e.
          let least = (fields_law limits sub room enough law (suc n) [] few).bad (Wrong left) e in
          record {
            front = [];
            back = [];
            is = refl;
            size = omega (arith, least);
            goes = inl (record {
              made = NoFields;
              more = Mark sign.CloseBrace ∷ [];
              shown = refl;
              fine = (tt, tt, omega arith, omega arith);
            });
          };
    }

    several_cut : (n : ℕ) (toks : List Token) → suc n ≤ limits.fields →
        ((l : List Token) → Cuts (Begins show_inside (FieldsFit room n)) 1 l (fields_at limits sub n) l) →
        Cuts (Begins show_inside (FieldsFit room (suc n))) 1 toks (several n) toks
    several_cut n [] few others = fields_end n few
    several_cut n (t ∷ rest) few others =
        cut_then (field_at limits sub) (λ u a b. field_decided u a b limits sub (seen u a b))
        (λ f. with_field f.0 (fields_at limits sub n f.1)) (omega arith)
        (cut_inside (λ f. FieldThen f.form f.parts NoFields) [] (Mark sign.CloseBrace ∷ []) refl
        (λ f. spells_only (show_order f.parts.order) (show_form f.form) (show_name f.parts.name)
        (show_part (Mark sign.Colon) f.parts.constraint) (show_part (Mark sign.At) f.parts.label)
        (show_part (Reserved word.If) f.parts.condition) end (Mark sign.CloseBrace ∷ []))
        (λ f g. ((g.0, g.1, tt), (g.2, g.3, tt), omega (arith, g.4), omega arith)) (field_cut t rest))
        (λ f e.
        let one = (field_law limits sub room enough law (t ∷ rest)).good f e in
        let low = one.low in
        let p = f.0.parts in
        let is : t ∷ rest ≡ show_field f.0 ++ f.1 = one.shown ∙ sym (append_assoc (before_end f.0) end f.1) in
        cut_through (λ l. fields_at limits sub n l >>= λ x. Ok (FieldThen f.0.form p x.0, x.1)) f.1
        (with_field_is f.0 (fields_at limits sub n f.1))
        (λ some. some) (λ some x more. with_field_is f.0 (fields_at limits sub n (f.1 ++ x ∷ more)))
        (cut_then (fields_at limits sub n) (λ u a b. fields_decided u a b limits sub (seen u a b) n)
        (λ x. Ok (FieldThen f.0.form p x.0, x.1)) (omega arith)
        (cut_inside (FieldThen f.0.form p) (show_field f.0) [] is
        (λ fs. spells_first (show_order p.order) (show_form f.0.form) (show_name p.name)
        (show_part (Mark sign.Colon) p.constraint) (show_part (Mark sign.At) p.label)
        (show_part (Reserved word.If) p.condition) end (show_fields fs) (Mark sign.CloseBrace ∷ []))
        (λ fs g.
        ((one.fine.0, one.fine.1, g.0), (one.within.0, one.within.1, g.1), omega (arith, low, g.2), omega (arith, g.3)))
        (others f.1))
        (λ x e2. done_cut (FieldThen f.0.form p x.0))))

    fields_cut : (n : ℕ) (toks : List Token) → n ≤ limits.fields →
        Cuts (Begins show_inside (FieldsFit room n)) 1 toks (fields_at limits sub n) toks
    unfolding fields_at
    fields_cut zero toks few =
        cut_choice (after_sign sign.CloseBrace) (Mark sign.CloseBrace) (front_sign sign.CloseBrace)
        (λ o l. unless_closed o (Err Many)) (λ rest. Ok (NoFields, rest)) (λ l. Err Many) toks
        (λ rest l. refl) (λ l. refl)
        (λ rest e. done_cut NoFields) (never (λ left e. absurd cc))
    fields_cut (suc n) toks few =
        cut_choice (after_sign sign.CloseBrace) (Mark sign.CloseBrace) (front_sign sign.CloseBrace)
        (λ o l. unless_closed o (several n l)) (λ rest. Ok (NoFields, rest)) (several n) toks
        (λ rest l. refl) (λ l. refl)
        (λ rest e. done_cut NoFields) (several_cut n toks few (λ l. fields_cut n l (omega (arith, few))))

    all_fields_cut : (toks : List Token) →
        Cuts (Begins show_inside (FieldsFit room limits.fields)) 1 toks (fields_at limits sub limits.fields) toks
    all_fields_cut toks = fields_cut limits.fields toks (omega arith)

    braced_cut : (toks : List Token) →
        Cuts (Begins show_braced (FieldsFit room limits.fields)) 1 toks (braced_at limits sub) toks
    unfolding braced_at
    braced_cut toks =
        cut_expect sign.OpenBrace (λ after. fields_at limits sub limits.fields after) [] toks refl (record {
          made = NoFields;
          more = Mark sign.OpenBrace ∷ Mark sign.CloseBrace ∷ [];
          shown = refl;
          fine = (tt, tt, omega arith, omega arith);
        })
        (λ rest is. cut_less {n = 1} (λ few. omega arith) (cut_inside (λ fs. fs) (Mark sign.OpenBrace ∷ []) [] is
        (λ fs. sym (append-nil (show_braced fs))) (λ fs g. g) (all_fields_cut rest)))

    -- ---- types

    struct_cut : (toks : List Token) →
        Cuts (Begins show_form (BaseFits (room + 1))) 1 (Reserved word.Struct ∷ toks) (struct_at limits sub) toks
    unfolding struct_at
    struct_cut toks =
        cut_choice (after_sign sign.OpenBrace) (Mark sign.OpenBrace) (front_sign sign.OpenBrace) (struct_by limits sub)
        (λ rest. fields_at limits sub limits.fields rest >>= λ fs. Ok (StructForm false fs.0, fs.1))
        (λ l. reference_at l >>= λ r. braced_at limits sub r.1 >>= λ fs. Ok (IntegralForm r.0 fs.0, fs.1)) toks
        (λ rest l. refl) (λ l. refl)
        (λ rest e. cut_less {n = 1} (λ few. omega arith)
        (cut_then (fields_at limits sub limits.fields)
        (λ u a b. fields_decided u a b limits sub (seen u a b) limits.fields)
        (λ fs. Ok (StructForm false fs.0, fs.1)) (omega arith)
        (cut_inside (StructForm false) (Reserved word.Struct ∷ Mark sign.OpenBrace ∷ []) []
        (ap (λ (l : List Token). Reserved word.Struct ∷ l) e)
        (λ fs. sym (append-nil (Reserved word.Struct ∷ show_braced fs)))
        (λ fs g. (g.0, (g.3, g.1), omega (arith, g.2), tt)) (all_fields_cut rest))
        (λ fs e2. done_cut (StructForm false fs.0))))
        (cut_then reference_at (λ u a b. reference_decided u a b)
        (λ r. braced_at limits sub r.1 >>= λ fs. Ok (IntegralForm r.0 fs.0, fs.1)) (omega arith)
        (cut_inside (λ r. IntegralForm r NoFields) (Reserved word.Struct ∷ [])
        (Mark sign.OpenBrace ∷ Mark sign.CloseBrace ∷ []) refl (λ r.
        append_assoc (Reserved word.Struct ∷ show_reference r) (Mark sign.OpenBrace ∷ []) (Mark sign.CloseBrace ∷ []))
        (λ r g. (tt, (omega arith, tt), omega arith, tt)) (reference_cut toks))
        (λ r e. cut_then (braced_at limits sub) (λ u a b. braced_decided u a b limits sub (seen u a b))
        (λ fs. Ok (IntegralForm r.0 fs.0, fs.1)) (omega arith)
        (cut_inside (IntegralForm r.0) (Reserved word.Struct ∷ show_reference r.0) []
        (ap (λ (l : List Token). Reserved word.Struct ∷ l) ((reference_law toks).good r e))
        (λ fs. spells_braced (Reserved word.Struct ∷ show_reference r.0) (show_fields fs) (Mark sign.CloseBrace ∷ [])
        (Mark sign.OpenBrace)) (λ fs g. (g.0, (g.3, g.1), omega (arith, g.2), tt)) (braced_cut r.1))
        (λ fs e2. done_cut (IntegralForm r.0 fs.0))))

    pinned_cut : (toks : List Token) →
        Cuts (Begins show_form (BaseFits (room + 1))) 1 (Reserved word.Pinned ∷ toks) (pinned_at limits sub) toks
    unfolding pinned_at
    pinned_cut toks =
        cut_needed (after_word word.Struct) (Reserved word.Struct) (front_word word.Struct)
        (λ after. braced_at limits sub after >>= λ fs. Ok (StructForm true fs.0, fs.1))
        (Reserved word.Pinned ∷ []) toks refl
        (record {
          made = StructForm true NoFields;
          more = Reserved word.Struct ∷ Mark sign.OpenBrace ∷ Mark sign.CloseBrace ∷ [];
          shown = refl;
          fine = (tt, (omega arith, tt), omega arith, tt);
        })
        (λ after is. cut_less {n = 1} (λ few. omega arith)
        (cut_then (braced_at limits sub) (λ u a b. braced_decided u a b limits sub (seen u a b))
        (λ fs. Ok (StructForm true fs.0, fs.1)) (omega arith)
        (cut_inside (StructForm true) (Reserved word.Pinned ∷ Reserved word.Struct ∷ []) [] is
        (λ fs. sym (append-nil (Reserved word.Pinned ∷ Reserved word.Struct ∷ show_braced fs)))
        (λ fs g. (g.0, (g.3, g.1), omega (arith, g.2), tt)) (braced_cut after))
        (λ fs e. done_cut (StructForm true fs.0))))

    union_cut : (toks : List Token) → Cuts (Begins show_form (BaseFits (room + 1))) 1 (Reserved word.Union ∷ toks)
        (λ (l : List Token). braced_at limits sub l >>= λ fs. Ok (UnionForm fs.0, fs.1)) toks
    union_cut toks =
        cut_then (braced_at limits sub) (λ u a b. braced_decided u a b limits sub (seen u a b))
        (λ fs. Ok (UnionForm fs.0, fs.1)) (omega arith)
        (cut_inside (λ fs. UnionForm fs) (Reserved word.Union ∷ []) [] refl
        (λ fs. sym (append-nil (Reserved word.Union ∷ show_braced fs)))
        (λ fs g. (g.0, (g.3, g.1), omega (arith, g.2), tt)) (braced_cut toks))
        (λ fs e. done_cut (UnionForm fs.0))

    some_base : Begins show_form (BaseFits (room + 1)) []
    some_base = record {
      made = Plain (Called missing);
      more = Named missing ∷ [];
      shown = refl;
      fine = (tt, tt, omega arith, tt);
    }

    word_form_cut : (w : Word) (rest : List Token) → Cuts (Begins show_form (BaseFits (room + 1))) 0
        (Reserved w ∷ rest) (λ (l : List Token). word_form limits sub l w) rest
    word_form_cut word.String rest = done_cut StringForm
    word_form_cut word.Struct rest = cut_less {n = 1} (λ few. omega arith) (struct_cut rest)
    word_form_cut word.Pinned rest = cut_less {n = 1} (λ few. omega arith) (pinned_cut rest)
    word_form_cut word.Union rest = cut_less {n = 1} (λ few. omega arith) (union_cut rest)
    word_form_cut w rest = stops_here [] (Reserved w ∷ rest) (length rest + 1) refl refl (omega arith) some_base

    abbrev targeted : List Token → Read FormTree
    targeted toks = target_at toks >>= λ t. Ok (target_form t.0, t.1)

    targeted_cut : (toks : List Token) → Cuts (Begins show_form (BaseFits (room + 1))) 1 toks targeted toks
    targeted_cut toks =
        cut_then target_at (λ u a b. target_decided u a b) (λ t. Ok (target_form t.0, t.1)) (omega arith)
        (cut_inside target_form [] [] refl spells keeps (target_cut toks))
        (λ t e. done_cut (target_form t.0))
      where
        spells : (t : TreeTarget) → show_form (target_form t) ≡ ([] ++ show_target t) ++ []
        spells (ToReference r) = sym (append-nil (show_target (ToReference r)))
        spells (ToOffset r u) = sym (append-nil (show_target (ToOffset r u)))

        keeps : (t : TreeTarget) → Any t → BaseFits (room + 1) (target_form t)
        keeps (ToReference r) g = (tt, tt, omega arith, tt)
        keeps (ToOffset r u) g = (tt, tt, omega arith, tt)

    base_cut : (toks : List Token) → Cuts (Begins show_form (BaseFits (room + 1))) 1 toks (base_at limits sub) toks
    unfolding base_at
    base_cut (Reserved w ∷ rest) = cut_through (λ l. word_form limits sub l w) rest refl (λ few. omega arith)
        (λ few x more. refl) (word_form_cut w rest)
    base_cut [] =
        cut_through targeted [] refl (λ few. few) (λ few x more. absurd (omega (arith, few))) (targeted_cut [])
    base_cut (t ∷ rest) =
        cut_through targeted (t ∷ rest) refl (λ few. few) (λ few x more. refl) (targeted_cut (t ∷ rest))

  suffix_cut : (room : ℕ) (f : FormTree) (toks : List Token) → BaseFits (room + 1) f →
      Cuts (Begins show_form (FormFits (room + 1))) 1 (show_form f ++ toks) (suffix_at limits room f) toks
  unfolding suffix_at
  suffix_cut room f toks fits =
      let most = limits.expression_depth in
      cut_choice (after_sign sign.OpenBracket) (Mark sign.OpenBracket) (front_sign sign.OpenBracket)
      (suffix_by limits room f)
      (λ rest. cond (ltb room (form_depth f)) (Err Deep) (bound_at most rest >>= λ b. Ok (ArrayForm f b.0, b.1)))
      (λ l. Ok (f, l)) toks (λ rest l. refl) (λ l. refl)
      (λ rest e. by rest e (ltb room (form_depth f)) refl) (done_cut f)
    where
      by : (rest : List Token) → toks ≡ Mark sign.OpenBracket ∷ rest → (d : Bool) → ltb room (form_depth f) ≡ d →
          Cuts (Begins show_form (FormFits (room + 1))) 0
          (show_form f ++ toks) (λ (l : List Token). cond (ltb room (form_depth f)) (Err Deep)
          (bound_at limits.expression_depth l >>= λ b. Ok (ArrayForm f b.0, b.1))) rest
      by rest e true is = too_deep (rw is refl)
      by rest e false is =
          let most = limits.expression_depth in
          let shallow = ltb-false room (form_depth f) is in
          cut_through {n = 1} (λ l. bound_at most l >>= λ b. Ok (ArrayForm f b.0, b.1)) rest (rw is refl)
          (λ few. omega arith) (λ few x more. rw is refl)
          (cut_then (bound_at most) (λ u a b. bound_decided u a b most) (λ b. Ok (ArrayForm f b.0, b.1)) (omega arith)
          (cut_inside (ArrayForm f) (show_form f ++ Mark sign.OpenBracket ∷ []) []
          (joins (show_form f) toks rest (Mark sign.OpenBracket) e)
          (λ b. spells_array (show_form f) (show_optional b) (Mark sign.CloseBracket ∷ []) (Mark sign.OpenBracket))
          (λ b g. ((fits.3, fits.0, g.0), (fits.1, g.1), omega (arith, shallow))) (bound_cut most rest))
          (λ b e2. done_cut (ArrayForm f b.0)))

  pub form_cut : (room : ℕ) (toks : List Token) → room ≤ limits.expression_depth →
      Cuts (Begins show_form (FormFits room)) 0 toks (form_at limits room) toks
  unfolding form_at
  form_cut zero [] enough = full_end refl (λ x more. refl)
  form_cut zero (t ∷ toks) enough = never (λ left e. absurd cc)
  form_cut (suc room) toks enough =
      let is : room + 1 ≡ suc room = omega arith in
      let less : room ≤ limits.expression_depth = omega (arith, enough) in
      let seen : Seen (form_at limits room) = λ u a b. form_decided u a b limits room in
      let law = λ (l : List Token). form_law limits room l less in
      subst (λ (k : ℕ). Cuts (Begins show_form (FormFits k)) 0 toks
      (λ (l : List Token). base_at limits (form_at limits room) l >>= λ f. suffix_at limits room f.0 f.1) toks) is
      (cut_then (base_at limits (form_at limits room))
      (λ u a b. base_decided u a b limits (form_at limits room) (seen u a b))
      (λ f. suffix_at limits room f.0 f.1) (omega arith)
      (cut_less {n = 1} (λ few. omega arith) (cut_inside (λ f. f) [] [] refl (λ f. sym (append-nil (show_form f)))
      (λ f g. (g.0, g.1, g.2)) (base_cut (form_at limits room) room less law seen (λ l. form_cut room l less) toks)))
      (λ f e.
      let b = (base_law limits (form_at limits room) room less law toks).good f e in
      let r = b.read in
      subst (λ (l : List Token). Cuts (Begins show_form (FormFits (room + 1))) 1 l (suffix_at limits room f.0) f.1)
      (sym r.shown) (suffix_cut room f.0 f.1 (r.fine, r.within, r.low, b.base))))
