-- The types of a pickle have widths up to 64, units below 2^64, few fields, and names of bytes.
use Rattle.std.proofs.Common.{◌≡◌, ℕ, ◌+◌, ◌^◌, ◌<◌, ◌≤◌, length, true, false, List, [], ◌∷◌, ◌++◌, Option, Some, None, refl, sym, ◌∙◌, subst, arith}
use Rattle.std.specs.Char.{is_ascii_digit}
use Rattle.std.proofs.lemmas.Bool.Decides.{nat_tests}
use Rattle.pickle_syntax.specs.declared.token.Sign.TheVariants as sign
use Rattle.pickle_syntax.specs.declared.token.Word.TheVariants as word
use Rattle.pickle_syntax.specs.declared.lexer.bytes.Class.TheVariants as class
use Rattle.pickle_tree.specs.declared.tree.Unit.{Unit as PokeUnit}
use Rattle.pickle_syntax.specs.Bytes.{is_in}
use Rattle.pickle_syntax.specs.Tokens.{Token, Reserved, Named, Opens, Numeral, Character, Text, AttributeOf, Mark}
use Rattle.pickle_tree.specs.Tree.{TreeReference, FieldParts, FormTree, Plain, StringForm, OffsetForm, ArrayForm, StructForm, IntegralForm, UnionForm, FieldTrees, DeclarationTree}
use Rattle.pickle_tree.specs.Tree as tree
use Rattle.pickle_syntax.specs.Show.{show_optional, show_part, show_name, show_order, show_pinned, show_parts, show_reference, show_form, show_fields, show_declaration, show_pickle}
use Rattle.pickle_tree.specs.Limits.{standard, field_count, IsFormWithin, AreFieldsWithin, AreDeclarationsWithin}
use Rattle.pickle_syntax.specs.Lexing.{token_list}
use Rattle.pickle_syntax.specs.Pieces.{AllIn, IsPiece, Piece, pieces, tokens_in}
use Rattle.pickle_syntax.proofs.LexedLaws.{tokens_are}
use Rattle.pickle_types.specs.declared.check.enclosing.Enclosing.{Enclosing}
use Rattle.pickle_types.specs.Types.{PokeType, IntegerOf, OffsetOf, StringOf, ArrayOf, StructOf, IntegralOf, UnionOf, Fields, NoFields, FieldThen, Parts, NoParts, PartThen}
use Rattle.pickle_types.specs.Scopes.{Visible}
use Rattle.pickle_types.specs.Names.{Names, find_type, predeclared}
use Rattle.pickle_types.specs.Meaning.{parts_of}
use Rattle.pickle_types.specs.WellTyped.{Refers, HasBits, Means, FieldsMean, Declares}
use Rattle.pickle_meaning.specs.Means.{field_names, part_names}
use Rattle.command_line.specs.Paths.{is_name_byte, AreNameBytes, IsName}
use Rattle.run_parts.specs.Accepted.{IsAccepted}
use Rattle.value_text.specs.SmallParts.{AreBytes, IsNameOfBytes, AreNamesOfBytes}
use Rattle.poke_batch.proofs.NamedTypes.{OfEach, found_is, one_more_is}

-- ---- types

abbrev mutual
  pub IsSmallType : PokeType → Type 0
  IsSmallType (IntegerOf type) = type.width ≤ 64
  IsSmallType (OffsetOf type unit) = (type.width ≤ 64) × (unit < 2 ^ 64)
  IsSmallType StringOf = Unit {0}
  IsSmallType (ArrayOf element bound) = IsSmallType element
  IsSmallType (StructOf name pinned fields) =
      (length (field_names fields) < 2 ^ 64) × AreNamesOfBytes (field_names fields) × AreSmallFields fields
  IsSmallType (IntegralOf name type fields) =
      (length (part_names fields) < 2 ^ 64) × AreNamesOfBytes (part_names fields) × AreSmallTypes fields
  IsSmallType (UnionOf name alternatives) = AreNamesOfBytes (part_names alternatives) × AreSmallTypes alternatives

  pub AreSmallFields : Fields → Type 0
  AreSmallFields NoFields = Unit {0}
  AreSmallFields (FieldThen name order type constraint label condition rest) = IsSmallType type × AreSmallFields rest

  pub AreSmallTypes : Parts → Type 0
  AreSmallTypes NoParts = Unit {0}
  AreSmallTypes (PartThen name order type constraint rest) = IsSmallType type × AreSmallTypes rest

-- ---- the names of a form

-- a name is a word, if there is one
abbrev pub IsWord : Option (List ℕ) → Type 0
IsWord None = Unit {0}
IsWord (Some name) = IsName name

abbrev mutual
  pub HasNames : FormTree → Type 0
  HasNames (Plain r) = Unit {0}
  HasNames StringForm = Unit {0}
  HasNames (OffsetForm r u) = Unit {0}
  HasNames (ArrayForm e b) = HasNames e
  HasNames (StructForm p fs) = HaveNames fs
  HasNames (IntegralForm r fs) = HaveNames fs
  HasNames (UnionForm fs) = HaveNames fs

  pub HaveNames : FieldTrees → Type 0
  HaveNames tree.NoFields = Unit {0}
  HaveNames (tree.FieldThen f p rest) = IsWord p.name × HasNames f × HaveNames rest

abbrev pub DeclareNames : List DeclarationTree → Type 0
DeclareNames [] = Unit {0}
DeclareNames (d ∷ ds) = HasNames d.form × DeclareNames ds

-- a name among tokens is a word
abbrev HasWord : Token → Type 0
HasWord (Reserved w) = Unit {0}
HasWord (Named n) = IsName n
HasWord (Opens o) = Unit {0}
HasWord (Numeral n) = Unit {0}
HasWord (Character b) = Unit {0}
HasWord (Text bytes) = Unit {0}
HasWord (AttributeOf a) = Unit {0}
HasWord (Mark s) = Unit {0}

abbrev HaveWords : List Token → Type 0
HaveWords [] = Unit {0}
HaveWords (t ∷ ts) = HasWord t × HaveWords ts

front_of : (a b : List Token) → HaveWords (a ++ b) → HaveWords a
front_of [] b h = tt
front_of (t ∷ a) b h = (h.0, front_of a b h.1)

back_of : (a b : List Token) → HaveWords (a ++ b) → HaveWords b
back_of [] b h = h
back_of (t ∷ a) b h = back_of a b h.1

name_is : (name : Option (List ℕ)) → HaveWords (show_name name) → IsWord name
name_is None h = tt
name_is (Some word) h = h.0

parts_name : (p : FieldParts) → HaveWords (show_parts p) → IsWord p.name
parts_name p h = name_is p.name (front_of (show_name p.name) _
    (front_of _ (show_part _ p.label) (front_of _ (show_part _ p.condition) (front_of _ (Mark sign.Semicolon ∷ []) h))))

mutual
  form_names : (f : FormTree) → HaveWords (show_form f) → HasNames f
  form_names (Plain r) h = tt
  form_names StringForm h = tt
  form_names (OffsetForm r u) h = tt
  form_names (ArrayForm e b) h = form_names e
      (front_of (show_form e) (Mark sign.OpenBracket ∷ show_optional b) (front_of _ (Mark sign.CloseBracket ∷ []) h))
  form_names (StructForm p fs) h = fields_names fs (back_of (show_pinned p)
      (Reserved word.Struct ∷ Mark sign.OpenBrace ∷ show_fields fs) (front_of _ (Mark sign.CloseBrace ∷ []) h)).1.1
  form_names (IntegralForm r fs) h =
      fields_names fs (back_of (Reserved word.Struct ∷ show_reference r) (Mark sign.OpenBrace ∷ show_fields fs)
      (front_of (Reserved word.Struct ∷ show_reference r ++ Mark sign.OpenBrace ∷ show_fields fs)
      (Mark sign.CloseBrace ∷ []) h)).1
  form_names (UnionForm fs) h = fields_names fs
      (front_of (Reserved word.Union ∷ Mark sign.OpenBrace ∷ show_fields fs) (Mark sign.CloseBrace ∷ []) h).1.1

  fields_names : (fs : FieldTrees) → HaveWords (show_fields fs) → HaveNames fs
  fields_names tree.NoFields h = tt
  fields_names (tree.FieldThen f p rest) h =
      let field = front_of (show_order p.order ++ show_form f ++ show_parts p) (show_fields rest) h in
      let form = front_of (show_order p.order ++ show_form f) (show_parts p) field in (
        parts_name p (back_of (show_order p.order ++ show_form f) (show_parts p) field),
        form_names f (back_of (show_order p.order) (show_form f) form),
        fields_names rest (back_of (show_order p.order ++ show_form f ++ show_parts p) (show_fields rest) h),
      )

pickle_names : (ds : List DeclarationTree) → HaveWords (show_pickle ds) → DeclareNames ds
pickle_names [] h = tt
pickle_names (d ∷ ds) h =
    let declaration = front_of (show_declaration d) (show_pickle ds) h in (
      form_names d.form (front_of (Reserved word.«Type» ∷ Named d.name ∷ Mark sign.Assign ∷ show_form d.form)
          (Mark sign.Semicolon ∷ []) declaration).1.1.1,
      pickle_names ds (back_of (show_declaration d) (show_pickle ds) h),
    )

-- ---- the names of tokens

letter_begins : (b : ℕ) → is_in class.Letter b ≡ true → is_ascii_digit b ≡ false
letter_begins b h = grind (arith, nat_tests)

letter_word : (b : ℕ) → is_in class.Letter b ≡ true → is_in class.Word b ≡ true
letter_word b h = grind (arith, nat_tests)

words_are : (bytes : List ℕ) → AllIn class.Word bytes → AreNameBytes bytes
words_are [] h = tt
words_are (b ∷ bytes) h = (h.0, words_are bytes h.1)

name_byte_small : (b : ℕ) → is_name_byte b ≡ true → b < 2 ^ 8
name_byte_small b h = grind (arith, h)

name_bytes_small : (bytes : List ℕ) → AreNameBytes bytes → AreBytes bytes
name_bytes_small [] h = tt
name_bytes_small (b ∷ bytes) h = (name_byte_small b h.0, name_bytes_small bytes h.1)

name_small : (name : List ℕ) → IsName name → AreBytes name
name_small [] h = absurd h
name_small (b ∷ bytes) h = name_bytes_small (b ∷ bytes) h.1

-- a word has bytes below 256
word_small : (name : Option (List ℕ)) → IsWord name → IsNameOfBytes name
word_small None h = tt
word_small (Some name) h = name_small name h

piece_words : (token : Option Token) (bytes rest : List ℕ) → IsPiece token bytes rest → HaveWords (token_list token)
piece_words None bytes rest h = tt
piece_words (Some (Reserved w)) bytes rest h = (tt, tt)
piece_words (Some (Named n)) bytes rest h =
    let word = h.0.1 in (
      subst IsName
          (sym (h.0.0 ∙ word.2)) (letter_begins word.0 word.3, (letter_word word.0 word.3, words_are word.1 word.4)),
      tt,
    )
piece_words (Some (Opens o)) bytes rest h = (tt, tt)
piece_words (Some (Numeral n)) bytes rest h = (tt, tt)
piece_words (Some (Character b)) bytes rest h = (tt, tt)
piece_words (Some (Text values)) bytes rest h = (tt, tt)
piece_words (Some (AttributeOf a)) bytes rest h = (tt, tt)
piece_words (Some (Mark s)) bytes rest h = (tt, tt)

joined_words : (a b : List Token) → HaveWords a → HaveWords b → HaveWords (a ++ b)
joined_words [] b h g = g
joined_words (t ∷ a) b h g = (h.0, joined_words a b h.1 g)

pieces_words : (ps : List Piece) (bytes rest : List ℕ) → pieces ps bytes rest → HaveWords (tokens_in ps)
pieces_words [] bytes rest h = tt
pieces_words (p ∷ ps) bytes rest h = joined_words (token_list p.token) (tokens_in ps)
    (piece_words p.token p.bytes h.0 h.2.is) (pieces_words ps h.0 rest h.3)

-- ---- what forms mean

-- fields of so many trees
record AreSmall (trees : FieldTrees) (fields : Fields) : Type 0 where
  count : length (field_names fields) ≡ field_count trees
  names : AreNamesOfBytes (field_names fields)
  types : AreSmallFields fields

parts_count : (fields : Fields) → length (part_names (parts_of fields)) ≡ length (field_names fields)
parts_count NoFields = refl
parts_count (FieldThen name order type constraint label condition rest) = omega (arith, parts_count rest)

parts_names : (fields : Fields) → AreNamesOfBytes (field_names fields) → AreNamesOfBytes (part_names (parts_of fields))
parts_names NoFields h = tt
parts_names (FieldThen name order type constraint label condition rest) h = (h.0, parts_names rest h.1)

parts_types : (fields : Fields) → AreSmallFields fields → AreSmallTypes (parts_of fields)
parts_types NoFields h = tt
parts_types (FieldThen name order type constraint label condition rest) h = (h.0, parts_types rest h.1)

bits_small : (u : PokeUnit) (n : ℕ) → HasBits u n → n < 2 ^ 64
bits_small _ _ HasBits.bit = omega arith
bits_small _ _ HasBits.byte = omega arith
bits_small _ _ (HasBits.number some most) = omega (arith, most)

module _ (names : Names) (small : OfEach IsSmallType names) where
  refers_small : (r : TreeReference) (t : PokeType) → Refers names r t → IsSmallType t
  refers_small _ _ (Refers.signed some most) = most
  refers_small _ _ (Refers.unsigned some most) = most
  refers_small _ _ (Refers.called {word} {t} is) = found_is IsSmallType word names t small is

  mutual
    form_small : (seen : List Visible) (levels : ℕ) (title : Option (List ℕ)) (form : FormTree) (t : PokeType) →
        HasNames form → IsFormWithin standard form → Means names seen levels title form t → IsSmallType t
    form_small seen levels title _ _ named within (Means.plain {r = r} {t = t} refers) = refers_small r t refers
    form_small seen levels title _ _ named within Means.string = tt
    form_small seen levels title _ _ named within (Means.offset {r = r} {u = u} {t = t} {n = n} refers bits) =
        (refers_small r (IntegerOf t) refers, bits_small u n bits)
    form_small seen levels title _ _ named within (Means.array {element = element} {t = t} is bound) =
        form_small seen (levels + 1) None element t named within.0 is
    form_small seen levels title _ _ named within (Means.struct {fields = fields} {fs = fs} are) =
        let h = fields_small _ seen levels [] fields fs named within.1 are in
        (omega (arith, h.count, within.0), h.names, h.types)
    form_small seen levels title _ _ named within (Means.integral {fields = fields} {fs = fs} refers are total) =
        let h = fields_small _ seen levels [] fields fs named within.1 are in
        (omega (arith, parts_count fs, h.count, within.0), parts_names fs h.names, parts_types fs h.types)
    form_small seen levels title _ _ named within
        (Means.union {form = form} {parts = parts} {rest = rest} {fs = fs} are) =
        let h = fields_small _ seen levels [] (tree.FieldThen form parts rest) fs named within.1 are in
        (parts_names fs h.names, parts_types fs h.types)

    fields_small : (here : Enclosing) (seen : List Visible) (levels : ℕ) (before : List (Option (List ℕ)))
        (trees : FieldTrees) (fs : Fields) → HaveNames trees → AreFieldsWithin standard trees →
        FieldsMean names here seen levels before trees fs → AreSmall trees fs
    fields_small here seen levels before _ _ named within FieldsMean.done =
        record { count = refl; names = tt; types = tt }
    fields_small here seen levels before _ _ named within (FieldsMean.field {form = form} {parts = parts} {rest = rest}
        {t = t} {fs = fs} is stands fresh label condition constraint are) =
        let h = fields_small here _ levels _ rest fs named.2 within.2 are in
        record {
          count = omega (arith, h.count);
          names = (word_small parts.name named.0, h.names);
          types = (form_small seen (levels + 1) None form t named.1 within.0 is, h.types);
        }

declared_small : (names : Names) (ds : List DeclarationTree) (all : Names) → OfEach IsSmallType names →
    DeclareNames ds → AreDeclarationsWithin standard ds → Declares names ds all → OfEach IsSmallType all
declared_small names _ _ small named within Declares.none = small
declared_small names _ all small named within (Declares.more {d = d} {ds = ds} {t = t} fresh is deep rest) =
    declared_small (names ++ (d.name, t) ∷ []) ds all (one_more_is IsSmallType names d.name t small
    (form_small names small [] 0 (Some d.name) d.form t named.0 within.0 is)) named.1 within.2 rest

predeclared_small : OfEach IsSmallType predeclared
predeclared_small = search (arith)

-- the names in an accepted pickle are words
pub accepted_names : (pickle : List ℕ) (declarations : List DeclarationTree) (types : Names) →
    IsAccepted pickle declarations types → DeclareNames declarations
accepted_names pickle declarations types accepted =
    let syntax = accepted.syntax in
    let tokens = (tokens_are pickle (syntax.tokens, syntax.spans)).0 syntax.cut in
    let words : HaveWords syntax.tokens =
    subst HaveWords (sym tokens.1.2) (pieces_words tokens.1.0 pickle [] tokens.1.1) in
    pickle_names declarations (subst HaveWords syntax.parsed.shown words)

-- each type of an accepted pickle is small
pub accepted_small : (pickle : List ℕ) (declarations : List DeclarationTree) (types : Names) (name : List ℕ)
    (type : PokeType) → IsAccepted pickle declarations types → find_type name types ≡ Some type → IsSmallType type
accepted_small pickle declarations types name type accepted found =
    let named = accepted_names pickle declarations types accepted in
    found_is IsSmallType name types type (declared_small predeclared declarations types predeclared_small named
    accepted.syntax.parsed.within.1 accepted.declares) found
