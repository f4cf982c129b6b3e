-- The data of the checker, as the trees of the definitions.
use Rattle.std.specs.Prelude.{◌≡◌, ℕ, ◌<◌, length, List, [], ◌∷◌, ◌++◌, map, Option, Some, None, Result, Ok, Err, Vec, All, if◌then◌else◌}
use Rattle.std.specs.declared.alloc.Global.{Global}
use Rattle.std.specs.Str.{bytes_eq}
use denote.Bor.{Bor}
use Rattle.pickle_types.specs.declared.fault.FaultKind.{FaultKind}
use Rattle.pickle_types.specs.declared.fault.FaultKind.TheVariants.{Memory}
use Rattle.pickle_types.specs.declared.node.Field.{Field}
use Rattle.pickle_types.specs.declared.node.Part.{Part}
use Rattle.pickle_types.specs.declared.node.Node.{Node}
use Rattle.pickle_types.specs.declared.names.Declared.{Declared}
use Rattle.pickle_types.specs.declared.names.Named.{Named}
use Rattle.pickle_types.specs.declared.scopes.Seen.{Seen}
use Rattle.pickle_types.specs.declared.check.sorts.Sort.{Sort as RustSort}
use Rattle.pickle_types.specs.declared.check.sorts.Sort.TheVariants as sort
use Rattle.pickle_types.specs.declared.check.sorts.Meant.{Meant as RustMeant}
use Rattle.pickle_types.specs.Types.{PokeType, depth}
use Rattle.pickle_types.specs.Sound.{IsSoundScalar, IsSoundTerm}
use Rattle.pickle_types.specs.Table.{term_of, name_of, type_of}
use Rattle.pickle_types.specs.Scopes.{Visible}
use Rattle.pickle_types.specs.Names.{Names}
use Rattle.pickle_types.specs.Expressions.{Sort, TextLiteral, Typed, scalar_sort, Meant}

-- the fault that was returned is the definition's, or an allocation failure
abbrev pub Fails : {Y : Type 0} → FaultKind → Result Y FaultKind → Type 0
Fails Memory given = Unit {0}
Fails k given = given ≡ Err k

-- the result of a function, seen by a view, is what the definition gives, unless memory ran out
abbrev pub Gives : {X Y : Type 0} → (X → Y) → Result X FaultKind → Result Y FaultKind → Type 0
Gives view (Ok x) given = given ≡ Ok (view x)
Gives view (Err e) given = Fails e given

abbrev pub bytes_now : Option (Bor (List ℕ)) → Option (List ℕ)
bytes_now None = None
bytes_now (Some n) = Some n.now

abbrev pub view_of : List Node → Seen → Visible
view_of nodes s = record { name = bytes_now s.name; level = s.level; place = s.place; type = type_of nodes s.node }

abbrev pub views_of : List Node → List Seen → List Visible
views_of nodes = map (view_of nodes)

abbrev pub IsResolved : List Node → Option Seen → Option Visible → Type 0
IsResolved nodes None found = found ≡ None
IsResolved nodes (Some s) found = found ≡ Some (view_of nodes s)

-- the node of a field is less than n, and its frame is one of the open frames
pub record IsInLevel (n levels : ℕ) (s : Seen) : Type 0 where
  pub node : s.node < n
  pub level : s.level < levels

abbrev pub AreBelow : ℕ → ℕ → List Seen → Type 0
AreBelow n levels seen = All (IsInLevel n levels) seen

abbrev pub named_of : List Node → Named → List ℕ × PokeType
named_of nodes d = (d.word.items, type_of nodes d.declared.node)

abbrev pub listed_of : List Node → List Named → Names
listed_of nodes list = map (named_of nodes) list

-- the named types, and the names that have numbers
abbrev pub Known : Type 0
Known = List Named × List (List ℕ)

abbrev pub types_in : Known → List Named
types_in known = known.0

abbrev pub words_in : Known → List (List ℕ)
words_in known = known.1

abbrev pub names_of : List Node → Known → Names
names_of nodes known = listed_of nodes (types_in known)

-- the node and the depth that the first entry of that name has
abbrev pub declared_as : List ℕ → List Named → Option Declared
declared_as word [] = None
declared_as word (d ∷ ds) = if bytes_eq word d.word.items then Some d.declared else declared_as word ds

-- the node of a name is one of the table, and its depth is that of its type
pub record IsNamed (nodes : List Node) (d : Declared) : Type 0 where
  pub inside : d.node < length nodes
  pub deep : d.depth ≡ depth (type_of nodes d.node)

abbrev pub AreListed : List Node → List Named → Type 0
AreListed nodes list = All (IsNamed nodes) (map (λ d. d.declared) list)

abbrev pub AreNamed : List Node → Known → Type 0
AreNamed nodes known = AreListed nodes (types_in known)

abbrev pub IsFound : List Node → Option Declared → Option PokeType → Type 0
IsFound nodes None found = found ≡ None
IsFound nodes (Some d) found = found ≡ Some (type_of nodes d.node)

abbrev pub sort_of : List Node → RustSort → Sort
sort_of nodes sort.Text = TextLiteral
sort_of nodes (sort.Scalar s) = scalar_sort s
sort_of nodes (sort.Node i) = Typed (type_of nodes i)

-- the number's type has a width, and the node is one of the table
abbrev pub IsInside : List Node → RustSort → Type 0
IsInside nodes sort.Text = Unit {0}
IsInside nodes (sort.Scalar s) = IsSoundScalar s
IsInside nodes (sort.Node i) = i < length nodes

pub record IsSoundMeant (nodes : List Node) (x : RustMeant) : Type 0 where
  pub sort : IsInside nodes x.sort
  pub term : IsSoundTerm (term_of x.term)

abbrev pub meant_of : List Node → RustMeant → Meant
meant_of nodes x = (term_of x.term, sort_of nodes x.sort)

abbrev pub IsFoundField : (ℕ → PokeType) → Option (ℕ × ℕ) → Option (ℕ × PokeType) → Type 0
IsFoundField at None found = found ≡ None
IsFoundField at (Some x) found = found ≡ Some (x.0, at x.1)

-- the names of some fields
abbrev pub names_in : List Field → List (Option (List ℕ))
names_in [] = []
names_in (f ∷ fs) = name_of f.name ∷ names_in fs

-- a field without its label and condition
abbrev pub part_of : Field → Part
part_of f = record { name = f.name; order = f.order; node = f.node; constraint = f.constraint }

-- one more name, after the others
pub record AddsName (old new : List Named) (word : List ℕ) (d : Declared) : Type 0 where
  pub name : Vec ℕ Global
  pub bytes : name.items ≡ word
  pub names : new ≡ old ++ record { word = name; declared = d } ∷ []
