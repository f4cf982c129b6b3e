-- What is found on a path through the elements of an array.
use Rattle.std.specs.Prelude.{◌≡◌, ℕ, false, List, Option, Ok, length, IfSome}
use Rattle.bit_space.specs.declared.order.Order.{Order}
use Rattle.pickle_types.specs.Types.{PokeType, ArrayOf}
use Rattle.pickle_types.specs.Table.{type_of, bound_of}
use Rattle.pickle_meaning.specs.declared.extent.Extent.{Extent}
use Rattle.pickle_meaning.specs.declared.faults.MapFault.{MapFault}
use Rattle.pickle_meaning.specs.Values.{Value, end_of, Levels}
use Rattle.pickle_meaning.specs.Clauses.{is_due, is_met}
use Rattle.pickle_meaning.specs.Means.{Means, Elements}
use Rattle.fault_location.specs.declared.checker.Checker.{Checker}
use Rattle.fault_location.specs.declared.part.Array.{Array}
use Rattle.fault_location.specs.declared.part.Elements.{Elements as ArrayElements}
use Rattle.fault_location.specs.declared.part.Entered.{Entered}
use Rattle.fault_location.specs.declared.part.Entered.TheVariants as entered
use Rattle.fault_location.specs.declared.site.Inner.{Inner}
use Rattle.fault_location.specs.Frames.{frames_after, frames_of}
use Rattle.fault_location.specs.Parts.{IsBare}
use Rattle.fault_location.specs.Ways.{fault_of, Enters}
use Rattle.fault_parts.specs.Arises.{Path, Arises, ElementsArise}
use Rattle.fault_parts.specs.Somehow.{Somehow}
use Rattle.value_store.specs.Slots.{levels}

-- the elements of an array up to one are values
abbrev pub ElementsTo : List ℕ → PokeType → Order → (s : ℕ) → Extent → (levels levels' : Levels) → (n end : ℕ) → Type 0
ElementsTo bits ty order s extent levels levels' n end =
    Somehow (Elements bits ty order s extent 0 levels s n levels' end)

-- a type is a value without bits
pub record HasNoBits (bits : List ℕ) (ty : PokeType) (order : Order) (levels : Levels) (at : ℕ) : Type 0 where
  pub value : Value
  pub means : Somehow (Means bits ty order levels at (Ok value))
  pub ends : end_of value ≡ at

-- an element is a value without bits, or nothing of it was stored
abbrev pub IsEmpty : List ℕ → PokeType → Inner → (levels levels' : Levels) → Entered → Type 0
IsEmpty bits ty element levels levels' (entered.Part next) = IsBare element next × (levels' ≡ levels)
IsEmpty bits ty element levels levels' entered.There = HasNoBits bits ty element.order levels element.start
IsEmpty bits ty element levels levels' entered.Nowhere = Unit {0}

-- the elements of an array are values and end past its size
pub record Outgrows (bits : List ℕ) (ty : PokeType) (order : Order) (s : ℕ) (extent : Extent)
    (levels : Levels) : Type 0 where
  pub inside : Levels
  pub count : ℕ
  pub end : ℕ
  pub elements : ElementsTo bits ty order s extent levels inside count end
  pub over : is_due extent (length bits) s count end ≡ false
  pub unmet : is_met extent s end ≡ false

-- What the calls on a path through an array say, on bits, from the state of the checker before the call and after it.
module _ (checker : Checker) where
  -- the fault arises in the array at the end of a path
  abbrev pub ArrayHas : Array → MapFault → Path → (bits : List ℕ) → Type 0
  ArrayHas array fault path bits =
      Arises bits (ArrayOf (type_of checker.nodes.now array.element) (bound_of array.bound.now)) array.order
      (frames_of checker) array.start (fault_of fault) path

  -- the elements of an array end past its size
  abbrev pub OutgrowsSize : ArrayElements → (bits : List ℕ) → Type 0
  OutgrowsSize all bits =
      Outgrows bits (type_of checker.nodes.now all.element) all.order all.start all.extent (frames_of checker)

module _ (old new : Checker) where
  -- an array was entered at a place
  abbrev pub EntersArray : Array → (place : ℕ) → MapFault → Entered → (bits : List ℕ) → Type 0
  EntersArray array place fault entered bits =
      Enters bits old.nodes.now (frames_after old new) place (fault_of fault)
      (λ path. ArrayHas old array fault path bits) entered

  -- its elements were entered at a place
  abbrev pub EntersElements : ArrayElements → (place : ℕ) → MapFault → Entered → (bits : List ℕ) → Type 0
  EntersElements all place fault entered bits =
      Enters bits old.nodes.now (frames_after old new) place (fault_of fault)
      (ElementsArise bits (type_of old.nodes.now all.element) all.order all.start all.extent (frames_of old)
      (fault_of fault)) entered

  -- so many elements were stored, if the call returns their end
  abbrev pub StoresElements : ArrayElements → (count : ℕ) → Option ℕ → (bits : List ℕ) → Type 0
  StoresElements all count end bits =
      IfSome end (ElementsTo bits (type_of old.nodes.now all.element) all.order all.start all.extent (frames_of old)
      (frames_after old new) count)

  -- an element was found to be without bits, or is entered
  abbrev pub FindsEmpty : Inner → Entered → (bits : List ℕ) → Type 0
  FindsEmpty element entered bits =
      IsEmpty bits (type_of old.nodes.now element.node) element (frames_of old) (frames_after old new) entered
