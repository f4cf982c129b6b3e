-- What is printed of a format that fits a file, and its columns.
use Rattle.std.specs.Prelude.{ℕ, List, [], ◌++◌, Option, None, Some, slice_get, codes}
use Rattle.bit_space.specs.declared.order.Order.{Order}
use Rattle.bit_space.specs.declared.order.Order.TheVariants.{Little, Big}
use Rattle.identification.specs.declared.fit.Fit.{Fit}
use Rattle.identification.specs.declared.format.Documented.{Documented}
use Rattle.identification.specs.declared.format.Format.{Format}
use Rattle.identity_text.specs.declared.row.Row.{Row}
use Rattle.poke_batch.specs.FileLine.{shown_name}

-- the name of a format, and nothing where there is none
abbrev pub name_of : Option Format → List ℕ
name_of None = []
name_of (Some format) = format.name.items

-- the name of its documented type
abbrev pub name_in : Option Documented → List ℕ
name_in None = []
name_in (Some type) = type.name.items

abbrev pub type_of : Option Format → List ℕ
type_of None = []
type_of (Some format) = name_in format.documented

-- the sentence that says what it is
abbrev pub sentence_of : Option Format → List ℕ
sentence_of None = []
sentence_of (Some format) = format.sentence.items

-- what is printed of a format: its name, its documented type, its sentence, the byte order in which it fits, and the
-- size in bits of the value that identifies it
pub record Shown : Type 0 where
  pub name : List ℕ
  pub type_name : List ℕ
  pub sentence : List ℕ
  pub order : Order
  pub size : ℕ

abbrev pub told : Row → Shown
told row = record {
  name = row.name.now;
  type_name = row.type_name.now;
  sentence = row.sentence.now;
  order = row.order;
  size = row.size;
}

-- that of one among all formats
abbrev pub shown : List Format → Fit → Shown
shown formats fit = record {
  name = name_of (slice_get formats fit.place);
  type_name = type_of (slice_get formats fit.place);
  sentence = sentence_of (slice_get formats fit.place);
  order = fit.order;
  size = fit.measured.size;
}

-- the column of a byte order, after a tab
abbrev pub order_column : Order → List ℕ
order_column Little = codes "\tlittle"
order_column Big = codes "\tbig"

-- name, documented type and byte order, with tabs between; names are escaped as those of files
abbrev pub columns : Shown → List ℕ
columns fit = shown_name fit.name ++ (codes "\t" ++ (shown_name fit.type_name ++ order_column fit.order))
