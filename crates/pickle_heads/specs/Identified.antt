-- What the line `Identified by` says.
use Rattle.std.specs.Prelude.{ℕ, if◌then◌else◌, List, [], Option, Some, None, option_map, codes}
use Rattle.std.specs.Str.{bytes_eq}
use Rattle.bit_space.specs.declared.order.Order.TheVariants.{Big, Little}
use Rattle.pickle_heads.specs.declared.identified.Orders.{Orders}
use Rattle.pickle_heads.specs.declared.identified.Orders.TheVariants.{OfOptions, One, Both}
use Rattle.pickle_heads.specs.declared.identified.Identified.{Identified}
use Rattle.pickle_heads.specs.declared.identified.Identified.TheVariants.{Nothing, By}
use Rattle.pickle_heads.specs.Texts.{name_of}

-- by nothing, or by a type with a name, in orders
pub data Signature : Type 0 where
  by_nothing : Signature
  by_type : (name : List ℕ) → (orders : Orders) → Signature

abbrev pub identified_said : Identified → Signature
identified_said Nothing = by_nothing
identified_said (By name orders) = by_type name.now orders

-- the orders after the name
abbrev pub orders_in : List ℕ → Option Orders
orders_in text =
    if bytes_eq text [] then Some OfOptions
    else if bytes_eq text (codes ", little") then Some (One Little)
    else if bytes_eq text (codes ", big") then Some (One Big)
    else if bytes_eq text (codes ", little, big") then Some (Both Little)
    else if bytes_eq text (codes ", big, little") then Some (Both Big)
    else None

-- `nothing` alone is no type
abbrev pub identified_by : Option (List ℕ × List ℕ) → Option Signature
identified_by None = None
identified_by (Some parts) =
    if bytes_eq parts.0 (codes "nothing") then (if bytes_eq parts.1 [] then Some by_nothing else None)
    else option_map (by_type parts.0) (orders_in parts.1)

-- what the text of the line says, if it is in its form
abbrev pub identified_in : List ℕ → Option Signature
identified_in text = identified_by (name_of text)
