-- What is read is shown by its tree, which is well bracketed and within the limits; what is refused as too deep or too
-- long has many tokens.
use Rattle.std.proofs.Common.{◌≡◌, ℕ, zero, suc, ◌+◌, ◌-◌, ◌<◌, ◌≤◌, true, false, ltb, Option, Some, None, List, [], ◌∷◌, ◌++◌, length, refl, sym, ap, subst, ◌∙◌, arith, Result, Ok, Err, append_assoc, length-append}
use Rattle.std.proofs.lemmas.Bool.{ltb-true, ltb-false}
use Rattle.pickle_syntax.specs.declared.token.Word.{Word}
use Rattle.pickle_syntax.specs.declared.token.Word.TheVariants as word
use Rattle.pickle_syntax.specs.declared.token.Sign.{Sign}
use Rattle.pickle_syntax.specs.declared.token.Sign.TheVariants as sign
use Rattle.pickle_syntax.specs.Tokens.{Token, Reserved, Named, Mark}
use Rattle.pickle_tree.specs.Tree.{Int, Uint, Called, TreeTarget, ToReference, ToOffset, Tree, FormTree, Plain, StringForm, OffsetForm, ArrayForm, StructForm, IntegralForm, UnionForm, FieldTrees, NoFields, FieldThen, FieldTree, DeclarationTree}
use Rattle.pickle_syntax.specs.Show.{show, show_reference, show_target, show_optional, show_part, show_name, show_order, show_pinned, show_parts, show_form, show_fields, show_declaration, show_pickle}
use Rattle.pickle_syntax.specs.Levels.{IsOptionalWellBracketed, ArePartsWellBracketed, IsBase, IsFormWellBracketed, AreFieldsWellBracketed, IsPickleWellBracketed}
use Rattle.pickle_tree.specs.Limits.{Limits, form_depth, fields_depth, field_count, IsOptionalWithin, ArePartsWithin, IsFormWithin, AreFieldsWithin, AreDeclarationsWithin}
use Rattle.pickle_syntax.specs.Pickles.{semicolons}
use Rattle.pickle_syntax.specs.Reading.{Fault, Wrong, Deep, Many, Read, ◌>>=◌, after_sign, after_word, needed, expect, name_at, reference_at, target_at}
use Rattle.pickle_syntax.specs.ReadExpressions.{expression_at}
use Rattle.pickle_syntax.specs.ReadForms.{present_at, present_if, part_at, condition_at, bound_by, bound_at, FormReader, order_at, optional_name_at, field_at, with_field, unless_closed, fields_at, braced_at, target_form, struct_by, struct_at, pinned_at, word_form, base_at, suffix_by, suffix_at, form_at, declaration_at, with_declaration, declarations_at}
use Rattle.pickle_syntax.proofs.Results.{Outcome, value, fault, then, then_all, either}
use Rattle.pickle_syntax.proofs.FrontFacts.{IsWrong, wrong_only, after_sign_is, after_word_is, expect_law, name_law, reference_law, target_law}
use Rattle.pickle_syntax.proofs.ExpressionsSound.{Refused, expression_law}

-- ---- parts of the tokens

semicolons-append : (a b : List Token) → semicolons (a ++ b) ≡ semicolons a + semicolons b
semicolons-append [] b = omega arith
semicolons-append (Mark sign.Semicolon ∷ a) b = omega (arith, semicolons-append a b)
semicolons-append (_ ∷ a) b = semicolons-append a b

-- the tokens of a later part are some of the tokens
record Later (rest toks : List Token) : Type 0 where
  shorter : length rest ≤ length toks
  fewer : semicolons rest ≤ semicolons toks

later : (front rest toks : List Token) → toks ≡ front ++ rest → Later rest toks
later front rest toks e = rw e
    (record { shorter = omega (arith, length-append front rest); fewer = omega (arith, semicolons-append front rest) })

same : (toks : List Token) → Later toks toks
same toks = later [] toks toks refl

later_still : (last rest toks : List Token) → Later last rest → Later rest toks → Later last toks
later_still last rest toks a b =
    let a1 = a.shorter in let a2 = a.fewer in let b1 = b.shorter in let b2 = b.fewer in
    record { shorter = omega arith; fewer = omega arith }

-- a refusal of types: what is wrong stands among the tokens or behind the last, deep ones have more tokens than the
-- room, and too many parts as many semicolons
abbrev pub IsRefused : ℕ → ℕ → List Token → Fault → Type 0
IsRefused many room toks (Wrong left) = left ≤ length toks
IsRefused many room toks Deep = room < length toks
IsRefused many room toks Many = many ≤ semicolons toks

refused_later : (many room : ℕ) (rest toks : List Token) → Later rest toks → (f : Fault) → IsRefused many room rest f →
    IsRefused many room toks f
refused_later many room rest toks l (Wrong left) r = let h = l.shorter in omega arith
refused_later many room rest toks l Deep r = let h = l.shorter in omega arith
refused_later many room rest toks l Many r = let h = l.fewer in omega arith

refused_fewer : (few many room : ℕ) (toks : List Token) → few ≤ many → (f : Fault) → IsRefused many room toks f →
    IsRefused few room toks f
refused_fewer few many room toks h (Wrong left) r = r
refused_fewer few many room toks h Deep r = r
refused_fewer few many room toks h Many r = omega arith

-- one token more
refused_inside : (many room : ℕ) (t : Token) (rest : List Token) → (f : Fault) → IsRefused many room rest f →
    IsRefused many (room + 1) (t ∷ rest) f
refused_inside many room t rest (Wrong left) r = omega arith
refused_inside many room t rest Deep r = omega arith
refused_inside many room t rest Many r = let l = later (t ∷ []) rest (t ∷ rest) refl in let h = l.fewer in omega arith

refused_expression : (many room most : ℕ) (rest toks : List Token) → room ≤ most → Later rest toks → (f : Fault) →
    Refused most rest f → IsRefused many room toks f
refused_expression many room most rest toks enough l (Wrong left) r = let h = l.shorter in omega arith
refused_expression many room most rest toks enough l Deep r = let h = l.shorter in omega arith
refused_expression many room most rest toks enough l Many r = absurd r

refused_wrong : (many room : ℕ) (rest toks : List Token) → Later rest toks → (f : Fault) → IsWrong rest f →
    IsRefused many room toks f
refused_wrong many room rest toks l =
    wrong_only rest (IsRefused many room toks) (λ left w. let h = l.shorter in omega (arith, w))

expression_wrong : (most : ℕ) (rest toks : List Token) → Later rest toks → (f : Fault) →
    IsWrong rest f → Refused most toks f
expression_wrong most rest toks l =
    wrong_only rest (Refused most toks) (λ left w. let h = l.shorter in omega (arith, w))

-- ---- expressions that may be absent

pub record ReadsOptional (shows : Option Tree → List Token) (most : ℕ) (toks : List Token)
    (x : Option Tree × List Token) : Type 0 where
  pub shown : toks ≡ shows x.0 ++ x.1
  pub fine : IsOptionalWellBracketed x.0
  pub low : IsOptionalWithin most x.0

expression_later : (most : ℕ) (rest toks : List Token) → Later rest toks → (f : Fault) →
    Refused most rest f → Refused most toks f
expression_later most rest toks l (Wrong left) r = let h = l.shorter in omega arith
expression_later most rest toks l Deep r = let h = l.shorter in omega arith
expression_later most rest toks l Many r = absurd r

optional_joins : (toks front rest e after shown : List Token) → toks ≡ front ++ rest → rest ≡ e ++ after →
    shown ≡ front ++ e → toks ≡ shown ++ after
optional_joins toks front rest e after shown a b c = rw (a, b, c) (simp append_assoc)

pub present_law : (most : ℕ) (shows : Option Tree → List Token) (toks front rest : List Token) → toks ≡ front ++ rest →
    ((e : Tree) → shows (Some e) ≡ front ++ show e) →
    Outcome (ReadsOptional shows most toks) (Refused most toks) (present_at most rest)
unfolding present_at
present_law most shows toks front rest is spells =
    then (expression_at most 1 rest) (λ e. Ok (Some e.0, e.1)) (expression_law most 1 rest (omega arith) (omega arith))
    (λ e _ r. value _ _ (Some e.0, e.1) (record {
      shown = optional_joins toks front rest (show e.0) e.1 (shows (Some e.0)) is r.shown (spells e.0);
      fine = r.fine;
      low = r.low;
    }))
    (expression_later most rest toks (later front rest toks is))

pub part_law : (most : ℕ) (s : Sign) (toks : List Token) →
    Outcome (ReadsOptional (show_part (Mark s)) most toks) (Refused most toks) (part_at most s toks)
unfolding part_at
part_law most s toks = by (after_sign s toks) refl
  where
    by : (o : Option (List Token)) → after_sign s toks ≡ o →
        Outcome (ReadsOptional (show_part (Mark s)) most toks) (Refused most toks) (present_if most o toks)
    by None is = value _ _ (None, toks) (record { shown = refl; fine = tt; low = tt })
    by (Some rest) is =
        present_law most (show_part (Mark s)) toks (Mark s ∷ []) rest (after_sign_is s toks rest is) (λ e. refl)

pub condition_law : (most : ℕ) (toks : List Token) →
    Outcome (ReadsOptional (show_part (Reserved word.If)) most toks) (Refused most toks) (condition_at most toks)
unfolding condition_at
condition_law most toks = by (after_word word.If toks) refl
  where
    by : (o : Option (List Token)) → after_word word.If toks ≡ o →
        Outcome (ReadsOptional (show_part (Reserved word.If)) most toks) (Refused most toks) (present_if most o toks)
    by None is = value _ _ (None, toks) (record { shown = refl; fine = tt; low = tt })
    by (Some rest) is = present_law most (show_part (Reserved word.If)) toks (Reserved word.If ∷ []) rest
        (after_word_is word.If toks rest is) (λ e. refl)

-- the bound, with the bracket that closes it
record ReadsBound (most : ℕ) (toks : List Token) (x : Option Tree × List Token) : Type 0 where
  shown : toks ≡ show_optional x.0 ++ (Mark sign.CloseBracket ∷ x.1)
  fine : IsOptionalWellBracketed x.0
  low : IsOptionalWithin most x.0

bound_law : (most : ℕ) (toks : List Token) → Outcome (ReadsBound most toks) (Refused most toks) (bound_at most toks)
unfolding bound_at
bound_law most toks = by (after_sign sign.CloseBracket toks) refl
  where
    by : (o : Option (List Token)) → after_sign sign.CloseBracket toks ≡ o →
        Outcome (ReadsBound most toks) (Refused most toks) (bound_by most o toks)
    by (Some rest) is =
        value _ _ (None, rest) (record { shown = after_sign_is sign.CloseBracket toks rest is; fine = tt; low = tt })
    by None is =
        then (present_at most toks) (λ e. expect sign.CloseBracket e.1 >>= λ after. Ok (e.0, after))
        (present_law most show_optional toks [] toks refl (λ e. refl))
        (λ e _ r. then (expect sign.CloseBracket e.1) (λ after. Ok (e.0, after)) (expect_law sign.CloseBracket e.1)
        (λ after _ close. value _ _ (e.0, after) (record {
          shown = r.shown ∙ ap (λ (l : List Token). show_optional e.0 ++ l) close;
          fine = r.fine;
          low = r.low;
        }))
        (expression_wrong most e.1 toks (later (show_optional e.0) e.1 toks r.shown)))
        (λ d w. w)

-- ---- fields

order_shown : (toks : List Token) → toks ≡ show_order (order_at toks).0 ++ (order_at toks).1
unfolding order_at
order_shown (Reserved word.Big ∷ rest) = refl
order_shown (Reserved word.Little ∷ rest) = refl
order_shown [] = refl
order_shown (_ ∷ rest) = refl

optional_name_shown : (toks : List Token) → toks ≡ show_name (optional_name_at toks).0 ++ (optional_name_at toks).1
unfolding optional_name_at
optional_name_shown (Named n ∷ rest) = refl
optional_name_shown [] = refl
optional_name_shown (_ ∷ rest) = refl

field_joins : (toks o r1 f r2 n r3 c r4 l r5 k r6 after : List Token) → toks ≡ o ++ r1 → r1 ≡ f ++ r2 → r2 ≡ n ++ r3 →
    r3 ≡ c ++ r4 → r4 ≡ l ++ r5 → r5 ≡ k ++ r6 → r6 ≡ Mark sign.Semicolon ∷ after →
    toks ≡ (o ++ f ++ (n ++ c ++ l ++ k)) ++ Mark sign.Semicolon ∷ after
field_joins toks o r1 f r2 n r3 c r4 l r5 k r6 after e1 e2 e3 e4 e5 e6 e7 =
    rw (e1, e2, e3, e4, e5, e6, e7) (simp append_assoc)

-- the tokens of a field before its semicolon
abbrev pub before_end : FieldTree → List Token
before_end f = show_order f.parts.order ++ show_form f.form ++ (show_name f.parts.name ++ show_part (Mark sign.Colon)
    f.parts.constraint ++ show_part (Mark sign.At) f.parts.label ++ show_part (Reserved word.If) f.parts.condition)

braced_joins : (toks l inside fs after : List Token) → toks ≡ l ++ (Mark sign.OpenBrace ∷ inside) →
    inside ≡ fs ++ (Mark sign.CloseBrace ∷ after) →
    toks ≡ (l ++ Mark sign.OpenBrace ∷ fs ++ Mark sign.CloseBrace ∷ []) ++ after
braced_joins toks l inside fs after e f = rw (e, f) (simp append_assoc)

array_joins : (all f toks rest b after : List Token) → all ≡ f ++ toks → toks ≡ Mark sign.OpenBracket ∷ rest →
    rest ≡ b ++ (Mark sign.CloseBracket ∷ after) →
    all ≡ (f ++ Mark sign.OpenBracket ∷ b ++ Mark sign.CloseBracket ∷ []) ++ after
array_joins all f toks rest b after e g h = rw (e, g, h) (simp append_assoc)

declaration_joins : (toks : List Token) (n : List ℕ) (assign f r after : List Token) →
    toks ≡ (Reserved word.Type ∷ Named n ∷ Mark sign.Assign ∷ []) ++ assign → assign ≡ f ++ r →
    r ≡ Mark sign.Semicolon ∷ after →
    toks ≡ (Reserved word.Type ∷ Named n ∷ Mark sign.Assign ∷ f ++ Mark sign.Semicolon ∷ []) ++ after
declaration_joins toks n assign f r after e g h = rw (e, g, h) (simp append_assoc)

word_law : (w : Word) (toks : List Token) →
    Outcome (λ rest. toks ≡ Reserved w ∷ rest) (IsWrong toks) (needed (after_word w toks) toks)
word_law w toks = by (after_word w toks) refl
  where
    by : (o : Option (List Token)) → after_word w toks ≡ o →
        Outcome (λ rest. toks ≡ Reserved w ∷ rest) (IsWrong toks) (needed o toks)
    by None is = fault _ _ (Wrong _) (omega arith)
    by (Some rest) is = value _ _ rest (after_word_is w toks rest is)

-- a type is no deeper than its tokens are many
mutual
  pub form_depth_shown : (f : FormTree) → form_depth f ≤ length (show_form f)
  form_depth_shown (Plain (Int n)) = omega arith
  form_depth_shown (Plain (Uint n)) = omega arith
  form_depth_shown (Plain (Called n)) = omega arith
  form_depth_shown StringForm = omega arith
  form_depth_shown (OffsetForm r u) = omega arith
  form_depth_shown (ArrayForm e b) = omega (
    arith,
    form_depth_shown e,
    length-append (show_form e ++ Mark sign.OpenBracket ∷ show_optional b) (Mark sign.CloseBracket ∷ []),
    length-append (show_form e) (Mark sign.OpenBracket ∷ show_optional b),
  )
  form_depth_shown (StructForm p fs) = omega (
    arith,
    fields_depth_shown fs,
    length-append (show_pinned p ++ Reserved word.Struct ∷ Mark sign.OpenBrace ∷ show_fields fs)
        (Mark sign.CloseBrace ∷ []),
    length-append (show_pinned p) (Reserved word.Struct ∷ Mark sign.OpenBrace ∷ show_fields fs),
  )
  form_depth_shown (IntegralForm r fs) = omega (
    arith,
    fields_depth_shown fs,
    length-append (Reserved word.Struct ∷ show_reference r ++ Mark sign.OpenBrace ∷ show_fields fs)
        (Mark sign.CloseBrace ∷ []),
    length-append (Reserved word.Struct ∷ show_reference r) (Mark sign.OpenBrace ∷ show_fields fs),
  )
  form_depth_shown (UnionForm fs) =
      omega (arith, fields_depth_shown fs, length-append (show_fields fs) (Mark sign.CloseBrace ∷ []))

  fields_depth_shown : (fs : FieldTrees) → fields_depth fs ≤ length (show_fields fs)
  fields_depth_shown NoFields = omega arith
  fields_depth_shown (FieldThen f p fs) = omega (
    arith,
    form_depth_shown f,
    fields_depth_shown fs,
    length-append (show_order p.order ++ show_form f ++ show_parts p) (show_fields fs),
    length-append (show_order p.order ++ show_form f) (show_parts p),
    length-append (show_order p.order) (show_form f),
  )

module _ (limits : Limits) where
  pub record ReadsForm (room : ℕ) (toks : List Token) (x : FormTree × List Token) : Type 0 where
    pub shown : toks ≡ show_form x.0 ++ x.1
    pub fine : IsFormWellBracketed x.0
    pub within : IsFormWithin limits x.0
    pub low : form_depth x.0 ≤ room

  pub record ReadsField (room : ℕ) (toks : List Token) (x : FieldTree × List Token) : Type 0 where
    pub shown : toks ≡ before_end x.0 ++ Mark sign.Semicolon ∷ x.1
    pub fine : IsFormWellBracketed x.0.form × ArePartsWellBracketed x.0.parts
    pub within : IsFormWithin limits x.0.form × ArePartsWithin limits.expression_depth x.0.parts
    pub low : form_depth x.0.form ≤ room

  pub record ReadsFields (room n : ℕ) (toks : List Token) (x : FieldTrees × List Token) : Type 0 where
    pub shown : toks ≡ show_fields x.0 ++ (Mark sign.CloseBrace ∷ x.1)
    pub fine : AreFieldsWellBracketed x.0
    pub within : AreFieldsWithin limits x.0
    pub low : fields_depth x.0 ≤ room
    pub few : field_count x.0 ≤ n

  -- the fields with both braces
  record ReadsBraced (room : ℕ) (toks : List Token) (x : FieldTrees × List Token) : Type 0 where
    inside : List Token
    opens : toks ≡ Mark sign.OpenBrace ∷ inside
    fields : ReadsFields room limits.fields inside x

  -- a type with no array suffix
  pub record ReadsBase (room : ℕ) (toks : List Token) (x : FormTree × List Token) : Type 0 where
    pub read : ReadsForm room toks x
    pub base : IsBase x.0

  with_field_law : (room n many more : ℕ) (toks : List Token) (f : FieldTree × List Token) (r : Read FieldTrees) →
      more ≤ many + 1 → ReadsField room toks f → Outcome (ReadsFields room n f.1) (IsRefused many room f.1) r →
      Outcome (ReadsFields room (suc n) toks) (IsRefused more room toks) (with_field f.0 r)
  with_field_law room n many more toks f (Ok x) enough one o =
      let fs = o.good x refl in
      let low1 = one.low in
      let low2 = fs.low in
      let few = fs.few in
      value _ _ (FieldThen f.0.form f.0.parts x.0, x.1) (record {
        shown = fields_joins toks f.1 (before_end f.0) (show_order f.0.parts.order) (show_form f.0.form)
            (show_name f.0.parts.name) (show_part (Mark sign.Colon) f.0.parts.constraint)
            (show_part (Mark sign.At) f.0.parts.label) (show_part (Reserved word.If) f.0.parts.condition)
            (show_fields x.0) (Mark sign.CloseBrace ∷ x.1) refl one.shown fs.shown;
        fine = (one.fine.0, one.fine.1, fs.fine);
        within = (one.within.0, one.within.1, fs.within);
        low = omega arith;
        few = omega arith;
      })
    where
      fields_joins : (toks after before o g n c l k fs rest : List Token) → before ≡ o ++ g ++ (n ++ c ++ l ++ k) →
          toks ≡ before ++ Mark sign.Semicolon ∷ after → after ≡ fs ++ rest →
          toks ≡ (o ++ g ++ (n ++ c ++ l ++ k ++ Mark sign.Semicolon ∷ []) ++ fs) ++ rest
      fields_joins toks after before o g n c l k fs rest a b e = rw (b, a, e) (simp append_assoc)
  with_field_law room n many more toks f (Err d) enough one o = fault _ _ d (by d (o.bad d refl))
    where
      by : (d : Fault) → IsRefused many room f.1 d → IsRefused more room toks d
      by (Wrong left) r = rw one.shown (omega (arith, length-append (before_end f.0) (Mark sign.Semicolon ∷ f.1)))
      by Deep r = rw one.shown (omega (arith, length-append (before_end f.0) (Mark sign.Semicolon ∷ f.1)))
      by Many r = rw one.shown (omega (arith, semicolons-append (before_end f.0) (Mark sign.Semicolon ∷ f.1)))

  module _ (sub : FormReader) (room : ℕ) (enough : room ≤ limits.expression_depth)
      (law : (toks : List Token) → Outcome (ReadsForm room toks) (IsRefused limits.fields room toks) (sub toks)) where
    pub field_law : (toks : List Token) →
        Outcome (ReadsField room toks) (IsRefused limits.fields room toks) (field_at limits sub toks)
    unfolding field_at
    field_law toks =
        let most = limits.expression_depth in
        let many = limits.fields in
        let r1 = (order_at toks).1 in
        let e1 = order_shown toks in
        let l1 = later (show_order (order_at toks).0) r1 toks e1 in
        then (sub r1) (λ f. part_at most sign.Colon (optional_name_at f.1).1 >>= λ c. part_at most sign.At c.1 >>= λ l.
        condition_at most l.1 >>= λ k. expect sign.Semicolon k.1 >>= λ after. Ok (
          record {
            form = f.0;
            parts = record {
              order = (order_at toks).0;
              name = (optional_name_at f.1).0;
              constraint = c.0;
              label = l.0;
              condition = k.0;
            };
          },
          after,
        )) (law r1)
        (λ f _ form.
        let r3 = (optional_name_at f.1).1 in
        let e3 = optional_name_shown f.1 in
        let l3 = later_still r3 f.1 toks (later (show_name (optional_name_at f.1).0) r3 f.1 e3)
        (later_still f.1 r1 toks (later (show_form f.0) f.1 r1 form.shown) l1) in
        then (part_at most sign.Colon r3) (λ c. part_at most sign.At c.1 >>= λ l. condition_at most l.1 >>= λ k.
        expect sign.Semicolon k.1 >>= λ after. Ok (
          record {
            form = f.0;
            parts = record {
              order = (order_at toks).0;
              name = (optional_name_at f.1).0;
              constraint = c.0;
              label = l.0;
              condition = k.0;
            };
          },
          after,
        )) (part_law most sign.Colon r3)
        (λ c _ constraint.
        let l4 = later_still c.1 r3 toks (later (show_part (Mark sign.Colon) c.0) c.1 r3 constraint.shown) l3 in
        then (part_at most sign.At c.1) (λ l. condition_at most l.1 >>= λ k. expect sign.Semicolon k.1 >>= λ after. Ok (
          record {
            form = f.0;
            parts = record {
              order = (order_at toks).0;
              name = (optional_name_at f.1).0;
              constraint = c.0;
              label = l.0;
              condition = k.0;
            };
          },
          after,
        )) (part_law most sign.At c.1)
        (λ l _ label.
        let l5 = later_still l.1 c.1 toks (later (show_part (Mark sign.At) l.0) l.1 c.1 label.shown) l4 in
        then (condition_at most l.1) (λ k. expect sign.Semicolon k.1 >>= λ after. Ok (
          record {
            form = f.0;
            parts = record {
              order = (order_at toks).0;
              name = (optional_name_at f.1).0;
              constraint = c.0;
              label = l.0;
              condition = k.0;
            };
          },
          after,
        )) (condition_law most l.1)
        (λ k _ condition.
        let l6 = later_still k.1 l.1 toks (later (show_part (Reserved word.If) k.0) k.1 l.1 condition.shown) l5 in
        then (expect sign.Semicolon k.1) (λ after. Ok (
          record {
            form = f.0;
            parts = record {
              order = (order_at toks).0;
              name = (optional_name_at f.1).0;
              constraint = c.0;
              label = l.0;
              condition = k.0;
            };
          },
          after,
        )) (expect_law sign.Semicolon k.1)
        (λ after _ end. value _ _ (
          record {
            form = f.0;
            parts = record {
              order = (order_at toks).0;
              name = (optional_name_at f.1).0;
              constraint = c.0;
              label = l.0;
              condition = k.0;
            };
          },
          after,
        ) (record {
          shown = field_joins toks (show_order (order_at toks).0) r1 (show_form f.0) f.1
              (show_name (optional_name_at f.1).0) r3 (show_part (Mark sign.Colon) c.0) c.1
              (show_part (Mark sign.At) l.0) l.1 (show_part (Reserved word.If) k.0) k.1 after e1 form.shown e3
              constraint.shown label.shown condition.shown end;
          fine = (form.fine, (constraint.fine, label.fine, condition.fine));
          within = (form.within, (constraint.low, label.low, condition.low));
          low = form.low;
        }))
        (refused_wrong many room k.1 toks l6))
        (refused_expression many room most l.1 toks enough l5))
        (refused_expression many room most c.1 toks enough l4))
        (refused_expression many room most r3 toks enough l3))
        (refused_later many room r1 toks l1)

    unless_law : (n : ℕ) (toks : List Token) (r : Read FieldTrees) →
        Outcome (ReadsFields room n toks) (IsRefused n room toks) r →
        Outcome (ReadsFields room n toks) (IsRefused n room toks) (unless_closed (after_sign sign.CloseBrace toks) r)
    unless_law n toks r o = by (after_sign sign.CloseBrace toks) refl
      where
        by : (c : Option (List Token)) → after_sign sign.CloseBrace toks ≡ c →
            Outcome (ReadsFields room n toks) (IsRefused n room toks) (unless_closed c r)
        by None is = o
        by (Some rest) is = value _ _ (NoFields, rest) (record {
          shown = after_sign_is sign.CloseBrace toks rest is;
          fine = tt;
          within = tt;
          low = omega arith;
          few = omega arith;
        })

    pub fields_law : (n : ℕ) (toks : List Token) → n ≤ limits.fields →
        Outcome (ReadsFields room n toks) (IsRefused n room toks) (fields_at limits sub n toks)
    unfolding fields_at
    fields_law zero toks few = unless_law zero toks (Err Many) (fault _ _ Many (omega arith))
    fields_law (suc n) toks few =
        unless_law (suc n) toks (field_at limits sub toks >>= λ f. with_field f.0 (fields_at limits sub n f.1))
        (then (field_at limits sub toks) (λ f. with_field f.0 (fields_at limits sub n f.1)) (field_law toks)
        (λ f _ one. with_field_law room n n (suc n) toks f (fields_at limits sub n f.1) (omega arith) one
        (fields_law n f.1 (omega arith)))
        (refused_fewer (suc n) limits.fields room toks few))

    braced_law : (toks : List Token) →
        Outcome (ReadsBraced room toks) (IsRefused limits.fields room toks) (braced_at limits sub toks)
    unfolding braced_at
    braced_law toks =
        then (expect sign.OpenBrace toks) (λ after. fields_at limits sub limits.fields after)
        (expect_law sign.OpenBrace toks)
        (λ after _ open_brace.
        then_all (fields_at limits sub limits.fields after) (fields_law limits.fields after (omega arith))
        (λ x r. record { inside = after; opens = open_brace; fields = r })
        (refused_later limits.fields room after toks (later (Mark sign.OpenBrace ∷ []) after toks open_brace)))
        (refused_wrong limits.fields room toks toks (same toks))

    struct_law : (toks : List Token) → Outcome (ReadsBase (room + 1) (Reserved word.Struct ∷ toks))
        (IsRefused limits.fields (room + 1) (Reserved word.Struct ∷ toks)) (struct_at limits sub toks)
    unfolding struct_at
    struct_law toks = by (after_sign sign.OpenBrace toks) refl
      where
        by : (o : Option (List Token)) → after_sign sign.OpenBrace toks ≡ o →
            Outcome (ReadsBase (room + 1) (Reserved word.Struct ∷ toks))
            (IsRefused limits.fields (room + 1) (Reserved word.Struct ∷ toks)) (struct_by limits sub o toks)
        by (Some rest) is =
            let open_brace = after_sign_is sign.OpenBrace toks rest is in
            then (fields_at limits sub limits.fields rest) (λ fs. Ok (StructForm false fs.0, fs.1))
            (fields_law limits.fields rest (omega arith))
            (λ fs _ r.
            let low = r.low in
            let shown = braced_joins (Reserved word.Struct ∷ toks) (Reserved word.Struct ∷ []) rest (show_fields fs.0)
            fs.1 (ap (λ (l : List Token). Reserved word.Struct ∷ l) open_brace) r.shown in
            value _ _ (StructForm false fs.0, fs.1) (record {
              read = record { shown = shown; fine = r.fine; within = (r.few, r.within); low = omega arith };
              base = tt;
            }))
            (λ d w. refused_inside limits.fields room (Reserved word.Struct) toks d
            (refused_later limits.fields room rest toks (later (Mark sign.OpenBrace ∷ []) rest toks open_brace) d w))
        by None is =
            then (reference_at toks) (λ r. braced_at limits sub r.1 >>= λ fs. Ok (IntegralForm r.0 fs.0, fs.1))
            (reference_law toks)
            (λ r _ reference.
            then (braced_at limits sub r.1) (λ fs. Ok (IntegralForm r.0 fs.0, fs.1)) (braced_law r.1)
            (λ fs _ b.
            let f = b.fields in
            let low = f.low in
            let begins : Reserved word.Struct ∷ toks
            ≡ (Reserved word.Struct ∷ show_reference r.0) ++ (Mark sign.OpenBrace ∷ b.inside) =
            ap (λ (l : List Token). Reserved word.Struct ∷ l)
            (reference ∙ ap (λ (l : List Token). show_reference r.0 ++ l) b.opens) in
            let shown = braced_joins (Reserved word.Struct ∷ toks) (Reserved word.Struct ∷ show_reference r.0) b.inside
            (show_fields fs.0) fs.1 begins f.shown in
            value _ _ (IntegralForm r.0 fs.0, fs.1) (record {
              read = record { shown = shown; fine = f.fine; within = (f.few, f.within); low = omega arith };
              base = tt;
            }))
            (λ d w. refused_inside limits.fields room (Reserved word.Struct) toks d
            (refused_later limits.fields room r.1 toks (later (show_reference r.0) r.1 toks reference) d w)))
            (refused_wrong limits.fields (room + 1) toks
            (Reserved word.Struct ∷ toks) (later (Reserved word.Struct ∷ []) toks (Reserved word.Struct ∷ toks) refl))

    pinned_law : (toks : List Token) → Outcome (ReadsBase (room + 1) (Reserved word.Pinned ∷ toks))
        (IsRefused limits.fields (room + 1) (Reserved word.Pinned ∷ toks)) (pinned_at limits sub toks)
    unfolding pinned_at
    pinned_law toks =
        then (needed (after_word word.Struct toks) toks)
        (λ after. braced_at limits sub after >>= λ fs. Ok (StructForm true fs.0, fs.1)) (word_law word.Struct toks)
        (λ after _ is.
        then (braced_at limits sub after) (λ fs. Ok (StructForm true fs.0, fs.1)) (braced_law after)
        (λ fs _ b.
        let f = b.fields in
        let low = f.low in
        let begins : Reserved word.Pinned ∷ toks
        ≡ (Reserved word.Pinned ∷ Reserved word.Struct ∷ []) ++ (Mark sign.OpenBrace ∷ b.inside) =
        ap (λ (l : List Token). Reserved word.Pinned ∷ l)
        (is ∙ ap (λ (l : List Token). Reserved word.Struct ∷ l) b.opens) in
        let shown = braced_joins (Reserved word.Pinned ∷ toks) (Reserved word.Pinned ∷ Reserved word.Struct ∷ [])
        b.inside (show_fields fs.0) fs.1 begins f.shown in
        value _ _ (StructForm true fs.0, fs.1) (record {
          read = record { shown = shown; fine = f.fine; within = (f.few, f.within); low = omega arith };
          base = tt;
        }))
        (λ d w. refused_inside limits.fields room (Reserved word.Pinned) toks d
        (refused_later limits.fields room after toks (later (Reserved word.Struct ∷ []) after toks is) d w)))
        (refused_wrong limits.fields (room + 1) toks
        (Reserved word.Pinned ∷ toks) (later (Reserved word.Pinned ∷ []) toks (Reserved word.Pinned ∷ toks) refl))

    union_law : (toks : List Token) → Outcome (ReadsBase (room + 1) (Reserved word.Union ∷ toks))
        (IsRefused limits.fields (room + 1) (Reserved word.Union ∷ toks))
        (braced_at limits sub toks >>= λ fs. Ok (UnionForm fs.0, fs.1))
    union_law toks =
        then (braced_at limits sub toks) (λ fs. Ok (UnionForm fs.0, fs.1)) (braced_law toks)
        (λ fs _ b.
        let f = b.fields in
        let low = f.low in
        let shown = braced_joins (Reserved word.Union ∷ toks) (Reserved word.Union ∷ []) b.inside (show_fields fs.0)
        fs.1 (ap (λ (l : List Token). Reserved word.Union ∷ l) b.opens) f.shown in
        value _ _ (UnionForm fs.0, fs.1) (record {
          read = record { shown = shown; fine = f.fine; within = (f.few, f.within); low = omega arith };
          base = tt;
        }))
        (refused_inside limits.fields room (Reserved word.Union) toks)

    word_form_law : (w : Word) (rest : List Token) → Outcome (ReadsBase (room + 1) (Reserved w ∷ rest))
        (IsRefused limits.fields (room + 1) (Reserved w ∷ rest)) (word_form limits sub rest w)
    word_form_law word.String rest = value _ _ (StringForm, rest)
        (record { read = record { shown = refl; fine = tt; within = tt; low = omega arith }; base = tt })
    word_form_law word.Struct rest = struct_law rest
    word_form_law word.Pinned rest = pinned_law rest
    word_form_law word.Union rest = union_law rest
    word_form_law _ rest = fault _ _ (Wrong _) (omega arith)

    plain_law : (toks : List Token) → Outcome (ReadsBase (room + 1) toks) (IsRefused limits.fields (room + 1) toks)
        (target_at toks >>= λ t. Ok (target_form t.0, t.1))
    plain_law toks =
        then (target_at toks) (λ t. Ok (target_form t.0, t.1)) (target_law toks)
        (λ t _ e. value _ _ (target_form t.0, t.1) (by t.0 t.1 e))
        (refused_wrong limits.fields (room + 1) toks toks (same toks))
      where
        by : (t : TreeTarget) (rest : List Token) → toks ≡ show_target t ++ rest →
            ReadsBase (room + 1) toks (target_form t, rest)
        by (ToReference r) rest e =
            record { read = record { shown = e; fine = tt; within = tt; low = omega arith }; base = tt }
        by (ToOffset r u) rest e =
            record { read = record { shown = e; fine = tt; within = tt; low = omega arith }; base = tt }

    pub base_law : (toks : List Token) →
        Outcome (ReadsBase (room + 1) toks) (IsRefused limits.fields (room + 1) toks) (base_at limits sub toks)
    unfolding base_at
    base_law (Reserved w ∷ rest) = word_form_law w rest
    base_law [] = plain_law []
    base_law (t ∷ rest) = plain_law (t ∷ rest)

  suffix_law : (room : ℕ) (all toks : List Token) (f : FormTree) → room + 1 ≤ limits.expression_depth →
      ReadsBase (room + 1) all (f, toks) →
      Outcome (ReadsForm (room + 1) all) (IsRefused limits.fields (room + 1) all) (suffix_at limits room f toks)
  unfolding suffix_at
  suffix_law room all toks f enough b = by (after_sign sign.OpenBracket toks) refl
    where
      by : (o : Option (List Token)) → after_sign sign.OpenBracket toks ≡ o →
          Outcome (ReadsForm (room + 1) all) (IsRefused limits.fields (room + 1) all) (suffix_by limits room f o toks)
      by None is = value _ _ (f, toks) b.read
      by (Some rest) is =
          let r = b.read in
          let starts = after_sign_is sign.OpenBracket toks rest is in
          let e : all ≡ (show_form f ++ Mark sign.OpenBracket ∷ []) ++ rest = r.shown
          ∙ ap (λ (l : List Token). show_form f ++ l) starts
          ∙ sym (append_assoc (show_form f) (Mark sign.OpenBracket ∷ []) rest) in
          either (ltb room (form_depth f)) (Err Deep)
          (bound_at limits.expression_depth rest >>= λ b. Ok (ArrayForm f b.0, b.1))
          (λ p. fault _ _ Deep (deep (ltb-true _ _ p) e))
          (λ p.
          let shallow = ltb-false room (form_depth f) p in
          then (bound_at limits.expression_depth rest) (λ b. Ok (ArrayForm f b.0, b.1))
          (bound_law limits.expression_depth rest)
          (λ x _ bound. value _ _ (ArrayForm f x.0, x.1) (record {
            shown = array_joins all (show_form f) toks rest (show_optional x.0) x.1 r.shown starts bound.shown;
            fine = (b.base, r.fine, bound.fine);
            within = (r.within, bound.low);
            low = omega (arith, shallow);
          }))
          (refused_expression limits.fields (room + 1) limits.expression_depth rest all enough
          (later (show_form f ++ Mark sign.OpenBracket ∷ []) rest all e)))
        where
          deep : room < form_depth f → all ≡ (show_form f ++ Mark sign.OpenBracket ∷ []) ++ rest → room + 1 < length all
          deep h e = rw e (omega (
            arith,
            form_depth_shown f,
            length-append (show_form f) (Mark sign.OpenBracket ∷ []),
            length-append (show_form f ++ Mark sign.OpenBracket ∷ []) rest,
          ))

  pub form_law : (room : ℕ) (toks : List Token) → room ≤ limits.expression_depth →
      Outcome (ReadsForm room toks) (IsRefused limits.fields room toks) (form_at limits room toks)
  unfolding form_at
  form_law zero [] enough = fault _ _ (Wrong _) (omega arith)
  form_law zero (t ∷ toks) enough = fault _ _ Deep (omega arith)
  form_law (suc room) toks enough =
      let is : room + 1 ≡ suc room = omega arith in
      subst (λ (k : ℕ). Outcome (ReadsForm k toks) (IsRefused limits.fields k toks)
      (base_at limits (form_at limits room) toks >>= λ f. suffix_at limits room f.0 f.1)) is
      (then (base_at limits (form_at limits room) toks) (λ f. suffix_at limits room f.0 f.1)
      (base_law (form_at limits room) room (omega arith) (λ toks. form_law room toks (omega arith)) toks)
      (λ f _ b. suffix_law room toks f.1 f.0 (omega arith) b)
      (λ d w. w))

  -- ---- pickles

  pub record ReadsDeclaration (toks : List Token) (x : DeclarationTree × List Token) : Type 0 where
    pub shown : toks ≡ show_declaration x.0 ++ x.1
    pub fine : IsFormWellBracketed x.0.form
    pub within : IsFormWithin limits x.0.form
    pub low : form_depth x.0.form ≤ limits.form_depth

  pub declaration_law : (toks : List Token) → limits.form_depth ≤ limits.expression_depth →
      Outcome (ReadsDeclaration toks) (IsRefused limits.fields limits.form_depth toks) (declaration_at limits toks)
  unfolding declaration_at
  declaration_law toks enough =
      let many = limits.fields in
      let room = limits.form_depth in
      then (needed (after_word word.Type toks) toks) (λ start. name_at start >>= λ name.
      expect sign.Assign name.1 >>= λ assign. form_at limits limits.form_depth assign >>= λ f.
      expect sign.Semicolon f.1 >>= λ after. Ok (record { name = name.0; form = f.0 }, after)) (word_law word.Type toks)
      (λ start _ e1.
      let first = later (Reserved word.Type ∷ []) start toks e1 in
      then (name_at start) (λ name. expect sign.Assign name.1 >>= λ assign. form_at limits limits.form_depth assign
      >>= λ f. expect sign.Semicolon f.1 >>= λ after. Ok (record { name = name.0; form = f.0 }, after)) (name_law start)
      (λ name _ e2. then (expect sign.Assign name.1) (λ assign. form_at limits limits.form_depth assign >>= λ f.
      expect sign.Semicolon f.1 >>= λ after. Ok (record { name = name.0; form = f.0 }, after))
      (expect_law sign.Assign name.1)
      (λ assign _ e3.
      let front : toks ≡ (Reserved word.Type ∷ Named name.0 ∷ Mark sign.Assign ∷ []) ++ assign = e1
      ∙ ap (λ (l : List Token). Reserved word.Type ∷ l) (e2 ∙ ap (λ (l : List Token). Named name.0 ∷ l) e3) in
      let last = later (Reserved word.Type ∷ Named name.0 ∷ Mark sign.Assign ∷ []) assign toks front in
      then (form_at limits limits.form_depth assign)
      (λ f. expect sign.Semicolon f.1 >>= λ after. Ok (record { name = name.0; form = f.0 }, after))
      (form_law limits.form_depth assign enough)
      (λ f _ form. then (expect sign.Semicolon f.1) (λ after. Ok (record { name = name.0; form = f.0 }, after))
      (expect_law sign.Semicolon f.1)
      (λ after _ end. value _ _ (record { name = name.0; form = f.0 }, after) (record {
        shown = declaration_joins toks name.0 assign (show_form f.0) f.1 after front form.shown end;
        fine = form.fine;
        within = form.within;
        low = form.low;
      }))
      (refused_wrong many room f.1 toks
      (later_still f.1 assign toks (later (show_form f.0) f.1 assign form.shown) last)))
      (refused_later many room assign toks last))
      (refused_wrong many room name.1 toks
      (later_still name.1 start toks (later (Named name.0 ∷ []) name.1 start e2) first)))
      (refused_wrong many room start toks first))
      (refused_wrong many room toks toks (same toks))

  pub record ReadsDeclarations (n : ℕ) (toks : List Token) (ds : List DeclarationTree) : Type 0 where
    pub shown : toks ≡ show_pickle ds
    pub fine : IsPickleWellBracketed ds
    pub within : AreDeclarationsWithin limits ds
    pub few : length ds ≤ n

  with_declaration_law : (n many more : ℕ) (toks : List Token) (d : DeclarationTree × List Token)
      (r : Result (List DeclarationTree) Fault) → more ≤ many + 1 → ReadsDeclaration toks d →
      Outcome (ReadsDeclarations n d.1) (IsRefused many limits.form_depth d.1) r →
      Outcome (ReadsDeclarations (suc n) toks) (IsRefused more limits.form_depth toks) (with_declaration d.0 r)
  with_declaration_law n many more toks d (Ok ds) enough one o =
      let others = o.good ds refl in
      let few = others.few in
      value _ _ (d.0 ∷ ds) (record {
        shown = one.shown ∙ ap (λ (l : List Token). show_declaration d.0 ++ l) others.shown;
        fine = (one.fine, others.fine);
        within = (one.within, one.low, others.within);
        few = omega arith;
      })
  with_declaration_law n many more toks d (Err f) enough one o = fault _ _ f (by f (o.bad f refl))
    where
      e : toks
          ≡ (Reserved word.Type ∷ Named d.0.name ∷ Mark sign.Assign ∷ show_form d.0.form) ++ Mark sign.Semicolon ∷ d.1
      e = one.shown ∙ append_assoc (Reserved word.Type ∷ Named d.0.name ∷ Mark sign.Assign ∷ show_form d.0.form)
          (Mark sign.Semicolon ∷ []) d.1

      by : (f : Fault) → IsRefused many limits.form_depth d.1 f → IsRefused more limits.form_depth toks f
      by (Wrong left) r = rw e (omega (
        arith,
        length-append (Reserved word.Type ∷ Named d.0.name ∷ Mark sign.Assign ∷ show_form d.0.form)
            (Mark sign.Semicolon ∷ d.1),
      ))
      by Deep r = rw e (omega (
        arith,
        length-append (Reserved word.Type ∷ Named d.0.name ∷ Mark sign.Assign ∷ show_form d.0.form)
            (Mark sign.Semicolon ∷ d.1),
      ))
      by Many r = rw e (omega (
        arith,
        semicolons-append (Reserved word.Type ∷ Named d.0.name ∷ Mark sign.Assign ∷ show_form d.0.form)
            (Mark sign.Semicolon ∷ d.1),
      ))

  -- `many` is no more than either limit
  pub declarations_law : (n many : ℕ) (toks : List Token) → limits.form_depth ≤ limits.expression_depth →
      many ≤ limits.fields → many ≤ n →
      Outcome (ReadsDeclarations n toks) (IsRefused many limits.form_depth toks) (declarations_at limits n toks)
  unfolding declarations_at
  declarations_law n many [] enough less few =
      value _ _ [] (record { shown = refl; fine = tt; within = tt; few = omega arith })
  declarations_law zero many (t ∷ toks) enough less few = fault _ _ Many (omega arith)
  declarations_law (suc n) many (t ∷ toks) enough less few =
      then (declaration_at limits (t ∷ toks)) (λ d. with_declaration d.0 (declarations_at limits n d.1))
      (declaration_law (t ∷ toks) enough)
      (λ d _ one. with_declaration_law n (many - 1) many (t ∷ toks) d (declarations_at limits n d.1) (omega arith) one
      (declarations_law n (many - 1) d.1 enough (omega arith) (omega arith)))
      (refused_fewer many limits.fields limits.form_depth (t ∷ toks) less)
