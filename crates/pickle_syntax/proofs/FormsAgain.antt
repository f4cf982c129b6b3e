-- What a well bracketed type or pickle within the limits shows is read again.
use Rattle.std.proofs.Common.{◌≡◌, ℕ, zero, suc, ◌-◌, ◌<◌, ◌≤◌, Bool, true, false, Option, Some, None, List, [], ◌∷◌, ◌++◌, length, refl, ◌∙◌, arith, Ok, append_assoc}
use Rattle.std.proofs.lemmas.Bool.{le-ltb}
use Rattle.pickle_syntax.specs.declared.token.Word.TheVariants as word
use Rattle.pickle_syntax.specs.declared.token.Sign.{Sign}
use Rattle.pickle_syntax.specs.declared.token.Sign.TheVariants as sign
use Rattle.pickle_tree.specs.declared.tree.Prefix.{Prefix}
use Rattle.pickle_tree.specs.declared.tree.Prefix.TheVariants as prefix
use Rattle.pickle_tree.specs.declared.tree.Unit.{Unit as OffsetUnit}
use Rattle.pickle_tree.specs.declared.tree.ByteOrder.{ByteOrder}
use Rattle.pickle_tree.specs.declared.tree.ByteOrder.TheVariants as order
use Rattle.pickle_syntax.specs.declared.parser.operators.Next.TheVariants as next
use Rattle.pickle_syntax.specs.Tokens.{Token, Reserved, Mark}
use Rattle.pickle_tree.specs.Tree.{TreeReference, Int, Uint, Called, ToReference, ToOffset, Literal, Name, Bracket, Before, Between, Choice, Index, After, Tree, FormTree, Plain, StringForm, OffsetForm, ArrayForm, StructForm, IntegralForm, UnionForm, FieldTrees, NoFields, FieldThen, FieldParts, FieldTree, DeclarationTree}
use Rattle.pickle_tree.specs.Tree as tree
use Rattle.pickle_syntax.specs.Show.{prefix_sign, infix_sign, show_suffix, show, show_optional, show_part, show_name, show_order, show_form, show_fields, show_declaration, show_pickle}
use Rattle.pickle_syntax.specs.Levels.{IsWellBracketed, IsOptionalWellBracketed, ArePartsWellBracketed, IsBase, IsFormWellBracketed, AreFieldsWellBracketed, IsPickleWellBracketed}
use Rattle.pickle_tree.specs.Limits.{Limits, depth, form_depth, fields_depth, field_count, IsOptionalWithin, ArePartsWithin, IsFormWithin, AreFieldsWithin, AreDeclarationsWithin, IsPickleWithin}
use Rattle.pickle_syntax.specs.Operators.{next_of}
use Rattle.pickle_syntax.specs.Reading.{Read, ◌>>=◌, after_sign, after_word, expect, name_at, width_at, reference_at, target_at}
use Rattle.pickle_syntax.specs.ReadForms.{present_at, part_at, condition_at, bound_at, FormReader, order_at, optional_name_at, field_at, fields_at, braced_at, struct_at, pinned_at, base_at, suffix_at, form_at, declaration_at, declarations_at, pickle_at}
use Rattle.pickle_syntax.proofs.ExpressionsAgain.{expression_again}
use Rattle.pickle_syntax.proofs.FrontFacts.{target_again}

abbrev done : {A : Type 0} → A → List Token → Read A
done x rest = Ok (x, rest)

-- ---- expressions that may be absent

present_again : (most : ℕ) (e : Tree) (rest : List Token) → IsWellBracketed e → depth e ≤ most →
    next_of rest ≡ next.Nothing → present_at most (show e ++ rest) ≡ done (Some e) rest
unfolding present_at
present_again most e rest fine low ends = rw (expression_again e most rest fine low ends) refl

prefix_open : (op : Prefix) (rest : List Token) → after_sign sign.CloseBracket (Mark (prefix_sign op) ∷ rest) ≡ None
unfolding after_sign
prefix_open prefix.Plus rest = refl
prefix_open prefix.Minus rest = refl
prefix_open prefix.Complement rest = refl
prefix_open prefix.Not rest = refl

-- no expression begins with a closing bracket
starts_open : (e : Tree) (rest : List Token) → after_sign sign.CloseBracket (show e ++ rest) ≡ None
unfolding after_sign
starts_open (Literal n) rest = refl
starts_open (tree.Character b) rest = refl
starts_open (tree.Text bytes) rest = refl
starts_open (Name n) rest = refl
starts_open (Bracket e) rest = refl
starts_open (Before op e) rest = prefix_open op (show e ++ rest)
starts_open (Between op a b) rest = rw (append_assoc (show a) (Mark (infix_sign op) ∷ show b) rest)
    (starts_open a ((Mark (infix_sign op) ∷ show b) ++ rest))
starts_open (Choice c x y) rest =
    let tail = (Mark sign.Question ∷ show x) ++ ((Mark sign.Colon ∷ show y) ++ rest) in
    let regroup : show (Choice c x y) ++ rest ≡ show c ++ tail = simp append_assoc in
    rw regroup (starts_open c tail)
starts_open (Index e i) rest =
    let tail = (Mark sign.OpenBracket ∷ show i) ++ ((Mark sign.CloseBracket ∷ []) ++ rest) in
    let regroup : show (Index e i) ++ rest ≡ show e ++ tail = simp append_assoc in
    rw regroup (starts_open e tail)
starts_open (After e s) rest = rw (append_assoc (show e) (show_suffix s) rest) (starts_open e (show_suffix s ++ rest))

bound_again : (most : ℕ) (b : Option Tree) (rest : List Token) → IsOptionalWellBracketed b → IsOptionalWithin most b →
    bound_at most (show_optional b ++ (Mark sign.CloseBracket ∷ rest)) ≡ done b rest
unfolding bound_at expect after_sign
bound_again most None rest fine low = refl
bound_again most (Some e) rest fine low = rw
    (starts_open e (Mark sign.CloseBracket ∷ rest), present_again most e (Mark sign.CloseBracket ∷ rest) fine low refl)
    refl

-- ---- what stands behind the type of a field

abbrev from_condition : FieldParts → List Token → List Token
from_condition p rest = show_part (Reserved word.If) p.condition ++ (Mark sign.Semicolon ∷ rest)

abbrev from_label : FieldParts → List Token → List Token
from_label p rest = show_part (Mark sign.At) p.label ++ from_condition p rest

abbrev from_constraint : FieldParts → List Token → List Token
from_constraint p rest = show_part (Mark sign.Colon) p.constraint ++ from_label p rest

abbrev from_name : FieldParts → List Token → List Token
from_name p rest = show_name p.name ++ from_constraint p rest

-- where these parts are left out, the next one begins
record Stops (toks : List Token) : Type 0 where
  no_operator : next_of toks ≡ next.Nothing
  no_constraint : after_sign sign.Colon toks ≡ None
  no_name : optional_name_at toks ≡ (None, toks)
  no_array : after_sign sign.OpenBracket toks ≡ None

condition_stops : (k : Option Tree) (rest : List Token) →
    Stops (show_part (Reserved word.If) k ++ (Mark sign.Semicolon ∷ rest))
    × (after_sign sign.At (show_part (Reserved word.If) k ++ (Mark sign.Semicolon ∷ rest)) ≡ None)
unfolding after_sign optional_name_at
condition_stops None rest = (record { no_operator = refl; no_constraint = refl; no_name = refl; no_array = refl }, refl)
condition_stops (Some e) rest =
    (record { no_operator = refl; no_constraint = refl; no_name = refl; no_array = refl }, refl)

label_stops : (l : Option Tree) (toks : List Token) → Stops toks → Stops (show_part (Mark sign.At) l ++ toks)
unfolding after_sign optional_name_at
label_stops None toks s = s
label_stops (Some e) toks s = record { no_operator = refl; no_constraint = refl; no_name = refl; no_array = refl }

constraint_name : (c : Option Tree) (toks : List Token) → Stops toks →
    optional_name_at (show_part (Mark sign.Colon) c ++ toks) ≡ (None, show_part (Mark sign.Colon) c ++ toks)
unfolding optional_name_at
constraint_name None toks s = s.no_name
constraint_name (Some e) toks s = refl

constraint_array : (c : Option Tree) (toks : List Token) → Stops toks →
    after_sign sign.OpenBracket (show_part (Mark sign.Colon) c ++ toks) ≡ None
unfolding after_sign
constraint_array None toks s = s.no_array
constraint_array (Some e) toks s = refl

name_array : (n : Option (List ℕ)) (toks : List Token) → after_sign sign.OpenBracket toks ≡ None →
    after_sign sign.OpenBracket (show_name n ++ toks) ≡ None
unfolding after_sign
name_array None toks e = e
name_array (Some n) toks e = refl

name_again : (n : Option (List ℕ)) (toks : List Token) → optional_name_at toks ≡ (None, toks) →
    optional_name_at (show_name n ++ toks) ≡ (n, toks)
unfolding optional_name_at
name_again None toks e = e
name_again (Some n) toks e = refl

part_again : (most : ℕ) (s : Sign) (e : Option Tree) (toks : List Token) →
    ((rest : List Token) → after_sign s (Mark s ∷ rest) ≡ Some rest) → IsOptionalWellBracketed e →
    IsOptionalWithin most e → next_of toks ≡ next.Nothing → after_sign s toks ≡ None →
    part_at most s (show_part (Mark s) e ++ toks) ≡ done e toks
unfolding part_at
part_again most s None toks known fine low ends none = rw none refl
part_again most s (Some e) toks known fine low ends none =
    rw (known (show e ++ toks), present_again most e toks fine low ends) refl

condition_again : (most : ℕ) (e : Option Tree) (rest : List Token) → IsOptionalWellBracketed e →
    IsOptionalWithin most e → condition_at most (show_part (Reserved word.If) e ++ (Mark sign.Semicolon ∷ rest))
    ≡ done e (Mark sign.Semicolon ∷ rest)
unfolding condition_at after_word
condition_again most None rest fine low = refl
condition_again most (Some e) rest fine low = present_again most e (Mark sign.Semicolon ∷ rest) fine low refl

colon_known : (rest : List Token) → after_sign sign.Colon (Mark sign.Colon ∷ rest) ≡ Some rest
unfolding after_sign
colon_known rest = refl

at_known : (rest : List Token) → after_sign sign.At (Mark sign.At ∷ rest) ≡ Some rest
unfolding after_sign
at_known rest = refl

order_again : (o : Option ByteOrder) (toks : List Token) → order_at toks ≡ (None, toks) →
    order_at (show_order o ++ toks) ≡ (o, toks)
unfolding order_at
order_again None toks e = e
order_again (Some order.Big) toks e = refl
order_again (Some order.Little) toks e = refl

field_again : (limits : Limits) (sub : FormReader) (f : FormTree) (p : FieldParts) (rest : List Token) →
    ArePartsWellBracketed p → ArePartsWithin limits.expression_depth p →
    order_at (show_form f ++ from_name p rest) ≡ (None, show_form f ++ from_name p rest) →
    sub (show_form f ++ from_name p rest) ≡ done f (from_name p rest) →
    field_at limits sub (show_order p.order ++ (show_form f ++ from_name p rest))
    ≡ done (record { form = f; parts = p }) rest
unfolding field_at expect after_sign
field_again limits sub f p rest fine low first e =
    let most = limits.expression_depth in
    let at_condition = condition_stops p.condition rest in
    let at_label = label_stops p.label (from_condition p rest) at_condition.0 in
    let a = order_again p.order (show_form f ++ from_name p rest) first in
    let n = name_again p.name (from_constraint p rest) (constraint_name p.constraint (from_label p rest) at_label) in
    let c = part_again most sign.Colon p.constraint (from_label p rest) colon_known fine.0 low.0 at_label.no_operator
    at_label.no_constraint in
    let l = part_again most sign.At p.label (from_condition p rest) at_known fine.1 low.1
    at_condition.0.no_operator at_condition.1 in
    let k = condition_again most p.condition rest fine.2 low.2 in
    rw (a, e, n, c, l, k) refl

-- no array suffix before the parts of a field
parts_array : (p : FieldParts) (rest : List Token) → after_sign sign.OpenBracket (from_name p rest) ≡ None
parts_array p rest =
    let at_condition = condition_stops p.condition rest in
    let at_label = label_stops p.label (from_condition p rest) at_condition.0 in
    name_array p.name (from_constraint p rest) (constraint_array p.constraint (from_label p rest) at_label)

-- ---- types

-- no type begins with an order of bytes or a closing brace
record Starts (toks : List Token) : Type 0 where
  no_order : order_at toks ≡ (None, toks)
  no_brace : after_sign sign.CloseBrace toks ≡ None

form_starts : (f : FormTree) (rest : List Token) → Starts (show_form f ++ rest)
unfolding order_at after_sign
form_starts (Plain (Int n)) rest = record { no_order = refl; no_brace = refl }
form_starts (Plain (Uint n)) rest = record { no_order = refl; no_brace = refl }
form_starts (Plain (Called n)) rest = record { no_order = refl; no_brace = refl }
form_starts StringForm rest = record { no_order = refl; no_brace = refl }
form_starts (OffsetForm r u) rest = record { no_order = refl; no_brace = refl }
form_starts (ArrayForm e b) rest =
    let tail = (Mark sign.OpenBracket ∷ show_optional b) ++ ((Mark sign.CloseBracket ∷ []) ++ rest) in
    let regroup : show_form (ArrayForm e b) ++ rest ≡ show_form e ++ tail = simp append_assoc in
    rw regroup (form_starts e tail)
form_starts (StructForm true fs) rest = record { no_order = refl; no_brace = refl }
form_starts (StructForm false fs) rest = record { no_order = refl; no_brace = refl }
form_starts (IntegralForm r fs) rest = record { no_order = refl; no_brace = refl }
form_starts (UnionForm fs) rest = record { no_order = refl; no_brace = refl }

field_starts : (o : Option ByteOrder) (toks : List Token) → after_sign sign.CloseBrace toks ≡ None →
    after_sign sign.CloseBrace (show_order o ++ toks) ≡ None
unfolding after_sign
field_starts None toks e = e
field_starts (Some order.Big) toks e = refl
field_starts (Some order.Little) toks e = refl

form_depth_pos : (f : FormTree) → 1 ≤ form_depth f
form_depth_pos (Plain r) = omega arith
form_depth_pos StringForm = omega arith
form_depth_pos (OffsetForm r u) = omega arith
form_depth_pos (ArrayForm e b) = omega arith
form_depth_pos (StructForm p fs) = omega arith
form_depth_pos (IntegralForm r fs) = omega arith
form_depth_pos (UnionForm fs) = omega arith

module _ (limits : Limits) where
  no_suffix : (room : ℕ) (f : FormTree) (rest : List Token) → after_sign sign.OpenBracket rest ≡ None →
      suffix_at limits room f rest ≡ done f rest
  unfolding suffix_at
  no_suffix room f rest e = rw e refl

  suffix_again : (room : ℕ) (f : FormTree) (b : Option Tree) (rest : List Token) → form_depth f ≤ room →
      IsOptionalWellBracketed b → IsOptionalWithin limits.expression_depth b →
      suffix_at limits room f (Mark sign.OpenBracket ∷ (show_optional b ++ (Mark sign.CloseBracket ∷ rest)))
      ≡ done (ArrayForm f b) rest
  unfolding suffix_at after_sign
  suffix_again room f b rest shallow fine low =
      rw (le-ltb room (form_depth f) shallow, bound_again limits.expression_depth b rest fine low) refl

  form_at_more : (room : ℕ) (toks : List Token) → 0 < room → form_at limits room toks
      ≡ (base_at limits (form_at limits (room - 1)) toks >>= λ f. suffix_at limits (room - 1) f.0 f.1)
  unfolding form_at
  form_at_more zero toks h = absurd (omega arith)
  form_at_more (suc room) toks h = let e : suc room - 1 ≡ room = omega arith in rw e refl

  module _ (sub : FormReader) where
    reference_form : (r : TreeReference) (rest : List Token) →
        base_at limits sub (show_form (Plain r) ++ rest) ≡ done (Plain r) rest
    unfolding base_at target_at reference_at width_at expect after_sign
    reference_form (Int n) rest = refl
    reference_form (Uint n) rest = refl
    reference_form (Called n) rest = refl

    offset_form : (r : TreeReference) (u : OffsetUnit) (rest : List Token) →
        base_at limits sub (show_form (OffsetForm r u) ++ rest) ≡ done (OffsetForm r u) rest
    unfolding base_at
    offset_form r u rest = rw (target_again (ToOffset r u) rest) refl

    string_form : (rest : List Token) → base_at limits sub (show_form StringForm ++ rest) ≡ done StringForm rest
    unfolding base_at
    string_form rest = refl

    abbrev FieldsAgain : FieldTrees → Type 0
    FieldsAgain fs = (rest : List Token) →
        fields_at limits sub limits.fields (show_fields fs ++ (Mark sign.CloseBrace ∷ rest)) ≡ done fs rest

    struct_form : (p : Bool) (fs : FieldTrees) (rest : List Token) → FieldsAgain fs →
        base_at limits sub (show_form (StructForm p fs) ++ rest) ≡ done (StructForm p fs) rest
    unfolding base_at struct_at pinned_at braced_at expect after_sign after_word
    struct_form true fs rest e = rw (append_assoc (show_fields fs) (Mark sign.CloseBrace ∷ []) rest, e rest) refl
    struct_form false fs rest e = rw (append_assoc (show_fields fs) (Mark sign.CloseBrace ∷ []) rest, e rest) refl

    integral_form : (r : TreeReference) (fs : FieldTrees) (rest : List Token) → FieldsAgain fs →
        base_at limits sub (show_form (IntegralForm r fs) ++ rest) ≡ done (IntegralForm r fs) rest
    unfolding base_at struct_at braced_at reference_at width_at expect after_sign
    integral_form (Int n) fs rest e = rw (append_assoc (show_fields fs) (Mark sign.CloseBrace ∷ []) rest, e rest) refl
    integral_form (Uint n) fs rest e = rw (append_assoc (show_fields fs) (Mark sign.CloseBrace ∷ []) rest, e rest) refl
    integral_form (Called n) fs rest e =
        rw (append_assoc (show_fields fs) (Mark sign.CloseBrace ∷ []) rest, e rest) refl

    union_form : (fs : FieldTrees) (rest : List Token) → FieldsAgain fs →
        base_at limits sub (show_form (UnionForm fs) ++ rest) ≡ done (UnionForm fs) rest
    unfolding base_at braced_at expect after_sign
    union_form fs rest e = rw (append_assoc (show_fields fs) (Mark sign.CloseBrace ∷ []) rest, e rest) refl

  -- how a type is read, from any room that it fits
  record Again (f : FormTree) : Type 0 where
    base : IsBase f → (room : ℕ) → form_depth f ≤ room → (rest : List Token) →
        base_at limits (form_at limits (room - 1)) (show_form f ++ rest) ≡ done f rest
    whole : (room : ℕ) → form_depth f ≤ room → (rest : List Token) → after_sign sign.OpenBracket rest ≡ None →
        form_at limits room (show_form f ++ rest) ≡ done f rest

  base_again : (f : FormTree) → IsBase f → ((room : ℕ) → form_depth f ≤ room → (rest : List Token) →
      base_at limits (form_at limits (room - 1)) (show_form f ++ rest) ≡ done f rest) →
      Again f
  base_again f is base = record {
    base = λ p. base;
    whole = λ room low rest ends. form_at_more room (show_form f ++ rest) (omega (arith, low, form_depth_pos f))
        ∙ rw (base room low rest) (no_suffix (room - 1) f rest ends);
  }

  mutual
    unfolding fields_at after_sign

    again : (f : FormTree) → IsFormWellBracketed f → IsFormWithin limits f → Again f
    again (Plain r) fine within =
        base_again (Plain r) tt (λ room low rest. reference_form (form_at limits (room - 1)) r rest)
    again StringForm fine within =
        base_again StringForm tt (λ room low rest. string_form (form_at limits (room - 1)) rest)
    again (OffsetForm r u) fine within =
        base_again (OffsetForm r u) tt (λ room low rest. offset_form (form_at limits (room - 1)) r u rest)
    again (ArrayForm e b) fine within = record {
      base = λ p. absurd p;
      whole = λ room low rest ends.
          let tail = Mark sign.OpenBracket ∷ (show_optional b ++ (Mark sign.CloseBracket ∷ rest)) in
          let regroup : show_form (ArrayForm e b) ++ rest ≡ show_form e ++ tail = simp append_assoc in
          rw regroup (form_at_more room (show_form e ++ tail) (omega (arith, low, form_depth_pos e))
          ∙ rw ((again e fine.1 within.0).base fine.0 room (omega (arith, low)) tail)
          (suffix_again (room - 1) e b rest (omega (arith, low)) fine.2 within.1));
    }
    again (StructForm p fs) fine within =
        base_again (StructForm p fs) tt (λ room low rest. struct_form (form_at limits (room - 1)) p fs rest
        (λ rest. fields_again fs fine within.1 (room - 1) (omega (arith, low)) limits.fields within.0 rest))
    again (IntegralForm r fs) fine within =
        base_again (IntegralForm r fs) tt (λ room low rest. integral_form (form_at limits (room - 1)) r fs rest
        (λ rest. fields_again fs fine within.1 (room - 1) (omega (arith, low)) limits.fields within.0 rest))
    again (UnionForm fs) fine within =
        base_again (UnionForm fs) tt (λ room low rest. union_form (form_at limits (room - 1)) fs rest
        (λ rest. fields_again fs fine within.1 (room - 1) (omega (arith, low)) limits.fields within.0 rest))

    fields_again : (fs : FieldTrees) → AreFieldsWellBracketed fs → AreFieldsWithin limits fs → (room : ℕ) →
        fields_depth fs ≤ room → (n : ℕ) → field_count fs ≤ n → (rest : List Token) →
        fields_at limits (form_at limits room) n (show_fields fs ++ (Mark sign.CloseBrace ∷ rest)) ≡ done fs rest
    fields_again NoFields fine within room low zero few rest = refl
    fields_again NoFields fine within room low (suc n) few rest = refl
    fields_again (FieldThen f p fs) fine within room low zero few rest = absurd (omega (arith, few))
    fields_again (FieldThen f p fs) fine within room low (suc n) few rest =
        let after = show_fields fs ++ (Mark sign.CloseBrace ∷ rest) in
        let toks = show_form f ++ from_name p after in
        let starts = form_starts f (from_name p after) in
        let read =
        (again f fine.0 within.0).whole room (omega (arith, low)) (from_name p after) (parts_array p after) in
        let one = field_again limits (form_at limits room) f p after fine.1 within.1 starts.no_order read in
        let others = fields_again fs fine.2 within.2 room (omega (arith, low)) n (omega (arith, few)) rest in
        let regroup : show_fields (FieldThen f p fs) ++ (Mark sign.CloseBrace ∷ rest) ≡ show_order p.order ++ toks =
        simp append_assoc in
        rw (regroup, field_starts p.order toks starts.no_brace, one, others) refl

  form_again : (f : FormTree) (room : ℕ) (rest : List Token) → IsFormWellBracketed f → IsFormWithin limits f →
      form_depth f ≤ room → after_sign sign.OpenBracket rest ≡ None →
      form_at limits room (show_form f ++ rest) ≡ done f rest
  form_again f room rest fine within low ends = (again f fine within).whole room low rest ends

  declaration_again : (d : DeclarationTree) (rest : List Token) → IsFormWellBracketed d.form →
      IsFormWithin limits d.form → form_depth d.form ≤ limits.form_depth →
      declaration_at limits (show_declaration d ++ rest) ≡ done d rest
  unfolding declaration_at name_at expect after_sign after_word
  declaration_again d rest fine within low =
      rw (
        append_assoc (show_form d.form) (Mark sign.Semicolon ∷ []) rest,
        form_again d.form limits.form_depth (Mark sign.Semicolon ∷ rest) fine within low refl,
      ) refl

  declarations_again : (ds : List DeclarationTree) (n : ℕ) → IsPickleWellBracketed ds →
      AreDeclarationsWithin limits ds → length ds ≤ n → declarations_at limits n (show_pickle ds) ≡ Ok ds
  unfolding declarations_at
  declarations_again [] n fine within few = refl
  declarations_again (d ∷ ds) zero fine within few = absurd (omega (arith, few))
  declarations_again (d ∷ ds) (suc n) fine within few =
      rw (
        declaration_again d (show_pickle ds) fine.0 within.0 within.1,
        declarations_again ds n fine.1 within.2 (omega (arith, few)),
      ) refl

  pub pickle_again : (ds : List DeclarationTree) → IsPickleWellBracketed ds → IsPickleWithin limits ds →
      pickle_at limits (show_pickle ds) ≡ Ok ds
  pickle_again ds fine within = declarations_again ds limits.declarations fine within.1 within.0
