-- What the formats of installed pickles are.
use Rattle.std.specs.Prelude.{◌≡◌, ℕ, ◌+◌, ◌++◌, Bool, true, false, List, [], ◌∷◌, length, Option, Some, None, option_map, slice_get, position}
use Rattle.std.specs.Cmp.Lexicographic.{slice_cmp}
use Rattle.std.specs.List.{AllAdjacentBelow, list_any}
use Rattle.std.specs.Ordering.{nat_cmp}
use Rattle.std.specs.Str.{bytes_eq}
use Rattle.std.specs.declared.cmp.Ordering.TheVariants.{Less}
use Rattle.bit_space.specs.declared.order.Order.{Order}
use Rattle.bit_space.specs.declared.order.Order.TheVariants.{Big, Little}
use Rattle.pickle_heads.specs.Heads.{sentence_of, main_of, options_of, identified_of, form_of, inside_of}
use Rattle.pickle_heads.specs.Heads.{fault_of, orders_for}
use Rattle.pickle_heads.specs.Identified.{Signature, by_nothing, by_type}
use Rattle.pickle_heads.specs.Inside.{Among, no_type, by_type as by_inner}
use Rattle.pickle_heads.specs.Options.{given_or_none}
use Rattle.pickle_types.specs.declared.table.Table.{Table}
use Rattle.pickle_types.specs.declared.table.TypeId.{TypeId}
use Rattle.pickle_types.specs.Names.{find_type}
use Rattle.pickle_types.specs.TypeTable.{type_named, types_of}
use Rattle.run_parts.specs.Accepted.{IsTableOf, Refuses}
use Rattle.identification.specs.declared.format.Documented.{Documented}
use Rattle.identification.specs.declared.format.Format.{Format}
use Rattle.identification.specs.declared.format.Formats.{Formats}
use Rattle.identification.specs.declared.format.Line.{Line}
use Rattle.identification.specs.declared.format.Orders.{Orders}
use Rattle.identification.specs.declared.prepare.Source.{Source}
use Rattle.identification.specs.declared.prepare.Unfit.{Unfit}
use Rattle.identification.specs.declared.prepare.Unfit.TheVariants as unfit
use Rattle.identification.specs.declared.prepare.Unprepared.{Unprepared}

-- ---- one pickle

-- the name of the type that a head says, if it says one
abbrev pub type_in : Option Signature → Option (List ℕ)
type_in (Some (by_type name orders)) = Some name
type_in (Some by_nothing) = None
type_in None = None

-- the name of the type inside other bytes, if a head says one
abbrev pub inside_name : Option Among → Option (List ℕ)
inside_name (Some (by_inner name)) = Some name
inside_name (Some (no_type reason)) = None
inside_name None = None

-- a name has a type in a table
abbrev pub HasType : Table → (name : List ℕ) → TypeId → Type 0
HasType table name id = find_type name (types_of table) ≡ Some (type_named table id)

abbrev pub HasNoType : Table → (name : List ℕ) → Type 0
HasNoType table name = find_type name (types_of table) ≡ None

-- the type of a name, if there is a name
abbrev pub IsIdentifying : Table → (name : Option (List ℕ)) → Option TypeId → Type 0
IsIdentifying table None found = found ≡ None
IsIdentifying table (Some name) None = ⊥
IsIdentifying table (Some name) (Some id) = HasType table name id

-- the type of a name, if there is a name, and the table has a type of it
abbrev pub IsInside : Table → (name : Option (List ℕ)) → Option TypeId → Type 0
IsInside table None found = found ≡ None
IsInside table (Some name) None = HasNoType table name
IsInside table (Some name) (Some id) = HasType table name id

abbrev pub IsDocumented : Table → (name : Option (List ℕ)) → (options : List ℕ) → Option Documented → Type 0
IsDocumented table None options found = found ≡ None
IsDocumented table (Some name) options None = ⊥
IsDocumented table (Some name) options (Some type) =
    (type.name.items ≡ name) × HasType table name type.id × (type.order ≡ (given_or_none options).order)
    × (type.whole ≡ (given_or_none options).whole)

abbrev pub is_little : Order → Bool
is_little Little = true
is_little Big = false

abbrev pub is_big : Order → Bool
is_big Little = false
is_big Big = true

abbrev pub orders_among : List Order → Orders
orders_among orders = record { little = list_any is_little orders; big = list_any is_big orders }

-- the orders in which an identifying type of a pickle is tried
abbrev pub orders_of : (pickle : List ℕ) → Orders
orders_of pickle = orders_among (orders_for (identified_of pickle) (given_or_none (options_of pickle)).order)

-- the format of a pickle, as its head says
pub record IsFormatOf (name pickle : List ℕ) (format : Format) : Type 0 where
  pub sound : fault_of pickle ≡ None
  pub name_is : format.name.items ≡ name
  pub sentence : format.sentence.items ≡ sentence_of name pickle
  pub accepted : IsTableOf pickle format.table
  pub identified : IsIdentifying format.table (type_in (identified_of pickle)) format.identifying
  pub orders : format.orders ≡ orders_of pickle
  pub documented : IsDocumented format.table (main_of pickle) (options_of pickle) format.documented
  pub form : option_map (λ name. name.items) format.form_of ≡ form_of pickle
  pub inside : IsInside format.table (inside_name (inside_of pickle)) format.inside

-- ---- many pickles

abbrev pub AreRead : List Source → List Format → Type 0
AreRead [] [] = Unit {0}
AreRead [] (format ∷ formats) = ⊥
AreRead (source ∷ sources) [] = ⊥
AreRead (source ∷ sources) (format ∷ formats) =
    IsFormatOf source.name.now source.pickle.now format × AreRead sources formats

-- one more format
pub record AddsFormat (source : Source) (before after : List Format) : Type 0 where
  pub format : Format
  pub is : IsFormatOf source.name.now source.pickle.now format
  pub added : after ≡ before ++ format ∷ []

-- the first format that has a name
abbrev pub place_named : List Format → (name : List ℕ) → Option ℕ
place_named formats name = position (λ format. bytes_eq format.name.items name) formats

-- the format at a place is a form of the one at another, or of none
pub record IsParent (formats : List Format) (place parent : ℕ) : Type 0 where
  pub format : Format
  pub there : slice_get formats place ≡ Some format
  pub name : List ℕ
  pub form : option_map (λ name. name.items) format.form_of ≡ Some name
  pub found : place_named formats name ≡ Some parent

pub record HasNoParent (formats : List Format) (place : ℕ) : Type 0 where
  pub format : Format
  pub there : slice_get formats place ≡ Some format
  pub form : format.form_of ≡ None

-- all formats that the one at a place is a form of, the nearest first
abbrev pub IsLine : List Format → (place : ℕ) → (line : List ℕ) → Type 0
IsLine formats place [] = HasNoParent formats place
IsLine formats place (parent ∷ line) = IsParent formats place parent × IsLine formats parent line

-- so many of them, up to a place
abbrev pub Leads : List Format → (place : ℕ) → (line : List ℕ) → (end : ℕ) → Type 0
Leads formats place [] end = place ≡ end
Leads formats place (parent ∷ line) end = IsParent formats place parent × Leads formats parent line end

abbrev pub AreLines : List Format → (place : ℕ) → List Line → Type 0
AreLines formats place [] = Unit {0}
AreLines formats place (line ∷ lines) = IsLine formats place line.places.items × AreLines formats (place + 1) lines

-- the name of a pickle comes before that of another
abbrev pub IsNamedBefore : (a b : Source) → Type 0
IsNamedBefore a b = slice_cmp nat_cmp a.name.now b.name.now ≡ Less

-- The formats of pickles, in the order of their names, each with all formats that it is a form of.
pub record AreFormats (sources : List Source) (formats : Formats) : Type 0 where
  pub ordered : AllAdjacentBelow IsNamedBefore sources (length sources)
  pub read : AreRead sources formats.list.items
  pub count : length formats.lines.items ≡ length formats.list.items
  pub lines : AreLines formats.list.items 0 formats.lines.items

-- ---- a pickle that is no format

-- no type of a name, or no name where a type identifies the format
abbrev pub LacksMain : Table → (main identified : Option (List ℕ)) → Type 0
LacksMain table None None = ⊥
LacksMain table None (Some name) = Unit {0}
LacksMain table (Some name) identified = HasNoType table name

abbrev pub LacksIdentifying : Table → (name : Option (List ℕ)) → Type 0
LacksIdentifying table None = ⊥
LacksIdentifying table (Some name) = HasNoType table name

-- why it isn't documented
abbrev pub MissesMain : Table → (main identified : Option (List ℕ)) → Unfit → Type 0
MissesMain table main identified unfit.NoMainType = LacksMain table main identified
MissesMain table main identified unfit.Memory = Unit {0}
MissesMain table main identified why = ⊥

abbrev pub TellsUnfit : (pickle : List ℕ) → Unfit → Type 0
TellsUnfit pickle (unfit.Refused refusal) = Refuses pickle refusal
TellsUnfit pickle (unfit.Head fault) = fault_of pickle ≡ Some fault
TellsUnfit pickle unfit.NoIdentifyingType =
    (table : Table) × IsTableOf pickle table × LacksIdentifying table (type_in (identified_of pickle))
TellsUnfit pickle unfit.NoMainType =
    (table : Table) × IsTableOf pickle table × LacksMain table (main_of pickle) (type_in (identified_of pickle))
TellsUnfit pickle unfit.NoForm = ⊥
TellsUnfit pickle unfit.Cycle = ⊥
TellsUnfit pickle unfit.Order = ⊥
TellsUnfit pickle unfit.Memory = Unit {0}

-- of the pickle at a place among all
pub record IsUnfit (sources : List Source) (place : ℕ) (why : Unfit) : Type 0 where
  pub source : Source
  pub there : slice_get sources place ≡ Some source
  pub tells : TellsUnfit source.pickle.now why

-- it is a form of what no pickle is named
pub record HasNoForm (formats : List Format) (place : ℕ) : Type 0 where
  pub format : Format
  pub there : slice_get formats place ≡ Some format
  pub name : List ℕ
  pub form : option_map (λ name. name.items) format.form_of ≡ Some name
  pub none : place_named formats name ≡ None

-- it is a form of as many as there are formats, so of itself
pub record IsCycle (formats : List Format) (place : ℕ) : Type 0 where
  pub line : List ℕ
  pub end : ℕ
  pub leads : Leads formats place line end
  pub long : length formats ≡ length line

abbrev pub TellsLine : List Format → (place : ℕ) → Unfit → Type 0
TellsLine formats place unfit.NoForm = HasNoForm formats place
TellsLine formats place unfit.Cycle = IsCycle formats place
TellsLine formats place unfit.Memory = Unit {0}
TellsLine formats place why = ⊥

-- a pickle's name doesn't come after that of the pickle before it
pub record IsMisplaced (sources : List Source) (place : ℕ) : Type 0 where
  pub source : Source
  pub other : Source
  pub before : slice_get sources place ≡ Some source
  pub after : slice_get sources (place + 1) ≡ Some other
  pub not : IsNamedBefore source other → ⊥

-- why pickles aren't formats: the first that is none, one whose forms aren't right, or one that isn't in its place
pub data TellsUnprepared (sources : List Source) : Unprepared → Type 0 where
  is_unfit : {place : ℕ} {why : Unfit} → IsUnfit sources place why →
      TellsUnprepared sources (record { place = place; why = why })
  has_no_line : {place : ℕ} {why : Unfit} (formats : List Format) → AreRead sources formats →
      TellsLine formats place why → TellsUnprepared sources (record { place = place; why = why })
  is_misplaced : {place : ℕ} → IsMisplaced sources place →
      TellsUnprepared sources (record { place = place + 1; why = unfit.Order })
