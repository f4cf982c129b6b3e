-- What an answer of the parser says of the tokens.
use Rattle.std.proofs.Common.{◌≡◌, ◌≢◌, ℕ, ◌+◌, ◌<◌, ◌≤◌, Option, Some, None, List, [], ◌∷◌, ◌++◌, length, refl, sym, ap, ◌∙◌, arith, Result, Ok, Err, length-append}
use Rattle.std.proofs.lemmas.List.{length-map}
use Rattle.pickle_tree.specs.declared.tree.Pickle.{Pickle}
use Rattle.pickle_syntax.specs.declared.token.Kind.{Kind}
use Rattle.pickle_syntax.specs.declared.token.Word.TheVariants as word
use Rattle.pickle_syntax.specs.declared.token.Sign.TheVariants as sign
use Rattle.pickle_syntax.specs.declared.parser.fault.Stop.{Stop}
use Rattle.pickle_syntax.specs.declared.parser.fault.Stop.TheVariants as stop
use Rattle.pickle_syntax.specs.declared.parser.fault.ParseFault.TheVariants.{Memory, TooDeep, TooMany}
use Rattle.pickle_syntax.specs.Tokens.{Token, Reserved, Mark, token_of, tokens_of}
use Rattle.pickle_tree.specs.Pickle.{pickle_tree}
use Rattle.pickle_tree.specs.Tree.{DeclarationTree, Tree, FormTree, Plain, StringForm, OffsetForm, ArrayForm, StructForm, IntegralForm, UnionForm, FieldTrees, NoFields, FieldThen, FieldParts}
use Rattle.pickle_syntax.specs.Show.{show_reference, show_optional, show_part, show_name, show_order, show_pinned, show_parts, show_form, show_fields, show_declaration, show_pickle}
use Rattle.pickle_syntax.specs.Levels.{IsPickleWellBracketed}
use Rattle.pickle_tree.specs.Limits.{Limits, standard, field_count, IsOptionalWithin, ArePartsWithin, IsFormWithin, AreFieldsWithin, AreDeclarationsWithin, IsPickleWithin, pickle_form_count, MOST_FORMS}
use Rattle.pickle_syntax.specs.Pickles.{IsPickle, IsPickleOf, semicolons, fault_of}
use Rattle.pickle_syntax.specs.Reading.{Fault, Wrong, Deep, Many, Fails}
use Rattle.pickle_syntax.specs.ReadForms.{pickle_at}
use Rattle.pickle_syntax.proofs.ExpressionsSound.{depth_shown}
use Rattle.pickle_syntax.proofs.FormsAgain.{pickle_again}
use Rattle.pickle_syntax.proofs.FormsSound.{IsRefused, declarations_law, form_depth_shown}
use Rattle.pickle_syntax.proofs.Sizes.{pickle_count_shown}

pickle_sound : (toks : List Token) (ds : List DeclarationTree) → pickle_at standard toks ≡ Ok ds → IsPickleOf toks ds
pickle_sound toks ds e =
    let law = declarations_law standard 4096 1024 toks (omega arith) (omega arith) (omega arith) in
    let r = law.good ds e in
    record { shown = r.shown; bracketed = r.fine; within = (r.few, r.within) }

-- what was read keeps the limits that a pickle keeps by its type
pub read_within : (toks : List Token) (ds : List DeclarationTree) → pickle_at standard toks ≡ Ok ds →
    IsPickleWithin standard ds
read_within toks ds e = let is = pickle_sound toks ds e in is.within

pub read_few : (kinds : List Kind) (ds : List DeclarationTree) → length kinds ≤ MOST_FORMS →
    pickle_at standard (tokens_of kinds) ≡ Ok ds → pickle_form_count ds ≤ MOST_FORMS
read_few kinds ds few e =
    let is = pickle_sound (tokens_of kinds) ds e in
    omega (arith, pickle_count_shown ds, ap length is.shown, length-map kinds token_of)

pub pickle_refused : (toks : List Token) (f : Fault) → pickle_at standard toks ≡ Err f → IsRefused 1024 64 toks f
pickle_refused toks f e =
    let law = declarations_law standard 4096 1024 toks (omega arith) (omega arith) (omega arith) in law.bad f e

pub left_within : (toks : List Token) (left : ℕ) → pickle_at standard toks ≡ Err (Wrong left) → left ≤ length toks
left_within toks left e = pickle_refused toks (Wrong left) e

pub never_pickle : (toks : List Token) (f : Fault) → pickle_at standard toks ≡ Err f → IsPickle toks → ⊥
never_pickle toks f e x =
    let is = x.1 in
    let read : pickle_at standard toks ≡ Ok x.0 = ap (pickle_at standard) is.shown
    ∙ pickle_again standard x.0 is.bracketed is.within in
    cc

pub is_found : (toks : List Token) (p : Pickle) → pickle_at standard toks ≡ Ok (pickle_tree p) →
    IsPickleOf toks (pickle_tree p)
is_found toks p e = pickle_sound toks (pickle_tree p) e

pub is_refused : (toks : List Token) (s : Stop) (count : ℕ) → Fails s (pickle_at standard toks) →
    fault_of s count ≢ Memory → IsPickle toks → ⊥
is_refused toks (stop.Syntax left) count e h x = never_pickle toks (Wrong left) e x
is_refused toks stop.TooDeep count e h x = never_pickle toks Deep e x
is_refused toks stop.TooMany count e h x = never_pickle toks Many e x
is_refused toks stop.Memory count e h x = h refl

pub is_deep : (kinds : List Kind) (s : Stop) (count : ℕ) → Fails s (pickle_at standard (tokens_of kinds)) →
    fault_of s count ≡ TooDeep → 64 < length kinds
is_deep kinds (stop.Syntax left) count e h = absurd cc
is_deep kinds stop.TooDeep count e h = omega (arith, pickle_refused (tokens_of kinds) Deep e, length-map kinds token_of)
is_deep kinds stop.TooMany count e h = absurd cc
is_deep kinds stop.Memory count e h = absurd cc

pub is_many : (toks : List Token) (s : Stop) (count : ℕ) → Fails s (pickle_at standard toks) →
    fault_of s count ≡ TooMany → 1024 ≤ semicolons toks
is_many toks (stop.Syntax left) count e h = absurd cc
is_many toks stop.TooDeep count e h = absurd cc
is_many toks stop.TooMany count e h = pickle_refused toks Many e
is_many toks stop.Memory count e h = absurd cc

-- ---- every tree is within the limits that its tokens set

abbrev all : ℕ → Limits
all n = record { expression_depth = n; form_depth = n; fields = n; declarations = n }

optional_within : (b : Option Tree) (n : ℕ) → length (show_optional b) ≤ n → IsOptionalWithin n b
optional_within None n h = tt
optional_within (Some e) n h = omega (arith, depth_shown e)

part_within : (lead : Token) (b : Option Tree) (n : ℕ) → length (show_part lead b) ≤ n → IsOptionalWithin n b
part_within lead None n h = tt
part_within lead (Some e) n h = omega (arith, depth_shown e)

length_five : (a b c d e : List Token) →
    length (a ++ b ++ c ++ d ++ e) ≡ length a + length b + length c + length d + length e
length_five a b c d e = omega (
  arith,
  length-append (a ++ b ++ c ++ d) e,
  length-append (a ++ b ++ c) d,
  length-append (a ++ b) c,
  length-append a b,
)

parts_within : (p : FieldParts) (n : ℕ) → length (show_parts p) ≤ n → ArePartsWithin n p
parts_within p n h =
    let sum = length_five (show_name p.name) (show_part (Mark sign.Colon) p.constraint)
    (show_part (Mark sign.At) p.label) (show_part (Reserved word.If) p.condition) (Mark sign.Semicolon ∷ []) in (
      part_within (Mark sign.Colon) p.constraint n (omega (arith, sum)),
      part_within (Mark sign.At) p.label n (omega (arith, sum)),
      part_within (Reserved word.If) p.condition n (omega (arith, sum)),
    )

length_three : (a b c : List Token) → length (a ++ b ++ c) ≡ length a + length b + length c
length_three a b c = omega (arith, length-append (a ++ b) c, length-append a b)

length_four : (a b c d : List Token) → length (a ++ b ++ c ++ d) ≡ length a + length b + length c + length d
length_four a b c d = omega (arith, length-append (a ++ b ++ c) d, length-append (a ++ b) c, length-append a b)

-- a field has its semicolon
parts_long : (p : FieldParts) → 1 ≤ length (show_parts p)
parts_long p = omega (
  arith,
  length-append (show_name p.name ++ show_part (Mark sign.Colon) p.constraint ++ show_part (Mark sign.At) p.label
      ++ show_part (Reserved word.If) p.condition) (Mark sign.Semicolon ∷ []),
)

count_shown : (fs : FieldTrees) → field_count fs ≤ length (show_fields fs)
count_shown NoFields = omega arith
count_shown (FieldThen f p fs) = omega (
  arith,
  count_shown fs,
  parts_long p,
  length_four (show_order p.order) (show_form f) (show_parts p) (show_fields fs),
)

mutual
  form_within : (f : FormTree) (n : ℕ) → length (show_form f) ≤ n → IsFormWithin (all n) f
  form_within (Plain r) n h = tt
  form_within StringForm n h = tt
  form_within (OffsetForm r u) n h = tt
  form_within (ArrayForm e b) n h =
      let sum = length_three (show_form e) (Mark sign.OpenBracket ∷ show_optional b) (Mark sign.CloseBracket ∷ []) in
      (form_within e n (omega (arith, sum)), optional_within b n (omega (arith, sum)))
  form_within (StructForm p fs) n h =
      let sum = length_three (show_pinned p) (Reserved word.Struct ∷ Mark sign.OpenBrace ∷ show_fields fs)
      (Mark sign.CloseBrace ∷ []) in
      (omega (arith, sum, count_shown fs), fields_within fs n (omega (arith, sum)))
  form_within (IntegralForm r fs) n h =
      let sum = length_three (Reserved word.Struct ∷ show_reference r) (Mark sign.OpenBrace ∷ show_fields fs)
      (Mark sign.CloseBrace ∷ []) in
      (omega (arith, sum, count_shown fs), fields_within fs n (omega (arith, sum)))
  form_within (UnionForm fs) n h =
      let sum = length-append (show_fields fs) (Mark sign.CloseBrace ∷ []) in
      (omega (arith, sum, count_shown fs), fields_within fs n (omega (arith, sum)))

  fields_within : (fs : FieldTrees) (n : ℕ) → length (show_fields fs) ≤ n → AreFieldsWithin (all n) fs
  fields_within NoFields n h = tt
  fields_within (FieldThen f p fs) n h =
      let sum = length_four (show_order p.order) (show_form f) (show_parts p) (show_fields fs) in (
        form_within f n (omega (arith, sum)),
        parts_within p n (omega (arith, sum)),
        fields_within fs n (omega (arith, sum)),
      )

declarations_within : (ds : List DeclarationTree) (n : ℕ) → length (show_pickle ds) ≤ n →
    AreDeclarationsWithin (all n) ds
declarations_within [] n h = tt
declarations_within (d ∷ ds) n h =
    let sum = length-append (show_declaration d) (show_pickle ds) in
    let one = length-append (show_form d.form) (Mark sign.Semicolon ∷ []) in (
      form_within d.form n (omega (arith, sum, one)),
      omega (arith, sum, one, form_depth_shown d.form),
      declarations_within ds n (omega (arith, sum)),
    )

few_declarations : (ds : List DeclarationTree) → length ds ≤ length (show_pickle ds)
few_declarations [] = omega arith
few_declarations (d ∷ ds) = omega (arith, few_declarations ds, length-append (show_declaration d) (show_pickle ds))

shown_again : (ds : List DeclarationTree) (n : ℕ) → IsPickleWellBracketed ds → length (show_pickle ds) ≤ n →
    pickle_at (all n) (show_pickle ds) ≡ Ok ds
shown_again ds n fine h = pickle_again (all n) ds fine (omega (arith, few_declarations ds), declarations_within ds n h)

abbrev read : List DeclarationTree → Result (List DeclarationTree) Fault
read ds = Ok ds

read_is : (ds es : List DeclarationTree) → read ds ≡ read es → ds ≡ es
read_is ds es e = cc

pub pickle_once : (ds es : List DeclarationTree) → IsPickleWellBracketed ds → IsPickleWellBracketed es →
    show_pickle ds ≡ show_pickle es → ds ≡ es
pickle_once ds es fd fe e =
    let n = length (show_pickle ds) + length (show_pickle es) in
    let a = shown_again ds n fd (omega arith) in
    let b = shown_again es n fe (omega arith) in
    read_is ds es (sym a ∙ ap (pickle_at (all n)) e ∙ b)
