-- No field of an integral struct of an accepted pickle is wider than the integral struct.
use Rattle.std.proofs.Common.{◌≡◌, ℕ, ◌+◌, ◌≤◌, List, [], ◌∷◌, ◌++◌, Option, Some, None, arith}
use Rattle.pickle_tree.specs.Tree as tree
use Rattle.pickle_tree.specs.Tree.{DeclarationTree, FieldTrees, FormTree, TreeReference}
use Rattle.pickle_types.specs.Meaning.{bit_width, parts_of, total_width, width_or_none}
use Rattle.pickle_types.specs.Names.{Names, find_type, predeclared}
use Rattle.pickle_types.specs.Scopes.{Visible}
use Rattle.pickle_types.specs.Types.{PokeType, IntegerOf, OffsetOf, StringOf, ArrayOf, StructOf, IntegralOf, UnionOf, Fields, NoFields, FieldThen, Parts, NoParts, PartThen}
use Rattle.pickle_types.specs.WellTyped.{Declares, FieldsMean, Means, Refers}
use Rattle.pickle_types.specs.declared.check.enclosing.Enclosing.{Enclosing}
use Rattle.poke_batch.proofs.NamedTypes.{OfEach, found_is, one_more_is}

-- how wide a field of an integral struct is
abbrev pub width_of : PokeType → ℕ
width_of type = width_or_none (bit_width type)

-- each of these fields has so many bits at most
abbrev pub AreUpTo : (most : ℕ) → Parts → Type 0
AreUpTo most NoParts = Unit {0}
AreUpTo most (PartThen name order type constraint rest) = (width_of type ≤ most) × AreUpTo most rest

abbrev mutual
  pub IsNarrowType : PokeType → Type 0
  IsNarrowType (IntegerOf type) = Unit {0}
  IsNarrowType (OffsetOf type unit) = Unit {0}
  IsNarrowType StringOf = Unit {0}
  IsNarrowType (ArrayOf element bound) = IsNarrowType element
  IsNarrowType (StructOf name pinned fields) = AreNarrowFields fields
  IsNarrowType (IntegralOf name type fields) = AreUpTo type.width fields × AreNarrowTypes fields
  IsNarrowType (UnionOf name alternatives) = AreNarrowTypes alternatives

  pub AreNarrowFields : Fields → Type 0
  AreNarrowFields NoFields = Unit {0}
  AreNarrowFields (FieldThen name order type constraint label condition rest) =
      IsNarrowType type × AreNarrowFields rest

  pub AreNarrowTypes : Parts → Type 0
  AreNarrowTypes NoParts = Unit {0}
  AreNarrowTypes (PartThen name order type constraint rest) = IsNarrowType type × AreNarrowTypes rest

parts_narrow : (fields : Fields) → AreNarrowFields fields → AreNarrowTypes (parts_of fields)
parts_narrow NoFields h = tt
parts_narrow (FieldThen name order type constraint label condition rest) h = (h.0, parts_narrow rest h.1)

-- no field is wider than all together
parts_up_to : (fields : Fields) (most : ℕ) → total_width fields ≤ most → AreUpTo most (parts_of fields)
parts_up_to NoFields most le = tt
parts_up_to (FieldThen name order type constraint label condition rest) most le =
    (omega (arith, le), parts_up_to rest most (omega (arith, le)))

module _ (names : Names) (narrow : OfEach IsNarrowType names) where
  refers_narrow : (r : TreeReference) (t : PokeType) → Refers names r t → IsNarrowType t
  refers_narrow _ _ (Refers.signed some most) = tt
  refers_narrow _ _ (Refers.unsigned some most) = tt
  refers_narrow _ _ (Refers.called {word} {t} is) = found_is IsNarrowType word names t narrow is

  mutual
    form_narrow : (seen : List Visible) (levels : ℕ) (title : Option (List ℕ)) (form : FormTree) (t : PokeType) →
        Means names seen levels title form t → IsNarrowType t
    form_narrow seen levels title _ _ (Means.plain {r = r} {t = t} refers) = refers_narrow r t refers
    form_narrow seen levels title _ _ Means.string = tt
    form_narrow seen levels title _ _ (Means.offset refers wide) = tt
    form_narrow seen levels title _ _ (Means.array {element = element} {t = t} is bound) =
        form_narrow seen (levels + 1) None element t is
    form_narrow seen levels title _ _ (Means.struct {fields = fields} {fs = fs} are) =
        fields_narrow _ seen levels [] fields fs are
    form_narrow seen levels title _ _ (Means.integral {fields = fields} {t = t} {fs = fs} refers are total) = (
      parts_up_to fs t.width (omega (arith, total)),
      parts_narrow fs (fields_narrow _ seen levels [] fields fs are),
    )
    form_narrow seen levels title _ _ (Means.union {form = form} {parts = parts} {rest = rest} {fs = fs} are) =
        parts_narrow fs (fields_narrow _ seen levels [] (tree.FieldThen form parts rest) fs are)

    fields_narrow : (here : Enclosing) (seen : List Visible) (levels : ℕ) (before : List (Option (List ℕ)))
        (trees : FieldTrees) (fs : Fields) → FieldsMean names here seen levels before trees fs → AreNarrowFields fs
    fields_narrow here seen levels before _ _ FieldsMean.done = tt
    fields_narrow here seen levels before _ _ (FieldsMean.field {form = form} {rest = rest} {t = t} {fs = fs} is
        stands fresh label condition constraint are) =
        (form_narrow seen (levels + 1) None form t is, fields_narrow here _ levels _ rest fs are)

declared_narrow : (names : Names) (ds : List DeclarationTree) (all : Names) → OfEach IsNarrowType names →
    Declares names ds all → OfEach IsNarrowType all
declared_narrow names _ _ narrow Declares.none = narrow
declared_narrow names _ all narrow (Declares.more {d = d} {ds = ds} {t = t} fresh is deep rest) =
    declared_narrow (names ++ (d.name, t) ∷ []) ds all
    (one_more_is IsNarrowType names d.name t narrow (form_narrow names narrow [] 0 (Some d.name) d.form t is)) rest

predeclared_narrow : OfEach IsNarrowType predeclared
predeclared_narrow = search (arith)

-- each type that is declared is such
pub declared_is_narrow : (declarations : List DeclarationTree) (types : Names) (name : List ℕ) (type : PokeType) →
    Declares predeclared declarations types → find_type name types ≡ Some type → IsNarrowType type
declared_is_narrow declarations types name type declares found =
    found_is IsNarrowType name types type
    (declared_narrow predeclared declarations types predeclared_narrow declares) found
