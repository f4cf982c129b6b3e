-- Paths through the elements of arrays, step by step.
use Rattle.std.proofs.Common.{◌≡◌, ℕ, ◌+◌, ◌*◌, ◌<◌, ◌≤◌, List, length, Bool, true, false, Option, Some, None, Ok, refl, sym, ap, ◌∙◌, arith}
use Rattle.bit_space.specs.declared.order.Order.{Order}
use Rattle.bit_space.specs.Bits.{bits_of}
use Rattle.bit_space.specs.SpaceView.{SpaceView, IsWhole}
use Rattle.bit_space.proofs.Digits.{length-bits_of}
use Rattle.pickle_types.specs.declared.node.Node.{Node}
use Rattle.pickle_types.specs.Types.{Term, Bound, PokeType, ArrayOf}
use Rattle.pickle_types.specs.Table.{type_of}
use Rattle.pickle_meaning.specs.declared.extent.Extent.{Extent}
use Rattle.pickle_meaning.specs.declared.faults.MapFault.{MapFault}
use Rattle.pickle_meaning.specs.declared.faults.MapFaultKind.{MapFaultKind}
use Rattle.pickle_meaning.specs.declared.faults.MapFaultKind.TheVariants as fault
use Rattle.pickle_meaning.specs.Values.{Value, end_of, Levels, pushed, opened}
use Rattle.pickle_meaning.specs.Clauses.{FaultAt, constraint, extent_of, is_due, ends_before}
use Rattle.pickle_meaning.specs.Means.{Means, Elements, no_more, next_element}
use Rattle.pickle_map.specs.declared.mapper.stop.Stop.TheVariants.{Fault}
use Rattle.fault_parts.specs.Somehow.{Somehow}
use Rattle.fault_parts.specs.Arises.{Path, Arises, in_array, ElementsArise, of_no_bits, in_element, PartArises, constraint_of_part, in_part}
use Rattle.fault_location.specs.declared.part.Part.{Part}
use Rattle.fault_location.specs.declared.part.Entered.{Entered}
use Rattle.fault_location.specs.declared.part.Entered.TheVariants as entered
use Rattle.fault_location.specs.Ways.{OnBits, Comes, Enters, IsFault, fault_of}
use Rattle.fault_location.specs.declared.site.Inner.{Inner}
use Rattle.fault_location.specs.Elements.{ElementsTo, IsEmpty}
use Rattle.fault_location.specs.Parts.{IsBare}

one_more : {bits : List ℕ} {ty : PokeType} {order : Order} {s : ℕ} {extent : Extent} {i : ℕ} {levels : Levels} {p n : ℕ}
    {inside : Levels} {pn k j k' j' : ℕ} {v : Value} →
    Elements bits ty order s extent i levels p n inside pn k j → is_due extent (length bits) s n pn ≡ true →
    Means bits ty order inside pn (Ok v) k' j' → pn < end_of v →
    Somehow (Elements bits ty order s extent i levels p (n + 1) (pushed inside (Some v)) (end_of v))
one_more no_more due m lt = record { steps = _; made = _; holds = next_element due m lt no_more }
one_more (next_element d first l more) due m lt =
    let r = one_more more due m lt in record { steps = _; made = _; holds = next_element d first l r.holds }

-- one more element
pub elements_more : {bits : List ℕ} {ty : PokeType} {order : Order} {s : ℕ} {extent : Extent} {levels inside : Levels}
    {n pn : ℕ} (v : Value) →
    ElementsTo bits ty order s extent levels inside n pn → is_due extent (length bits) s n pn ≡ true →
    Somehow (Means bits ty order inside pn (Ok v)) → pn < end_of v →
    ElementsTo bits ty order s extent levels (pushed inside (Some v)) (n + 1) (end_of v)
elements_more v es due m lt = one_more es.holds due m.holds lt

pub no_elements : {bits : List ℕ} {ty : PokeType} {order : Order} {s : ℕ} {extent : Extent} {levels : Levels} →
    ElementsTo bits ty order s extent levels levels 0 s
no_elements = record { steps = _; made = _; holds = no_more }

-- the fault of a part with no constraint arises in its type
pub of_bare : {bits : List ℕ} {ty : PokeType} {c : Option Term} {order : Order} {levels : Levels} {s : ℕ} {f : FaultAt}
    {path : Path} → c ≡ None → PartArises bits ty c order levels s f path → Arises bits ty order levels s f path
unfolding constraint
of_bare e (constraint_of_part m refused) = absurd (let none = rw e at refused in cc)
of_bare e (in_part h) = h

-- as many bits as the bytes of a space have
pub due_on : (space : SpaceView) → IsWhole space → (bytes : List ℕ) → space.bytes ≡ Some bytes →
    (extent : Extent) (m s n p : ℕ) (b : Bool) → m ≡ 8 * space.len → is_due extent m s n p ≡ b →
    is_due extent (length (bits_of bytes)) s n p ≡ b
due_on space whole bytes e extent m s n p b em due =
    let same : length (bits_of bytes) ≡ m = length-bits_of bytes ∙ ap (λ n. 8 * n) (whole bytes e) ∙ sym em in
    rw same due

-- one more element, of a space whose bytes are known
module _ (space now : SpaceView) (whole : IsWhole space) (same : now.bytes ≡ space.bytes) (ty : PokeType)
    (order : Order) (s : ℕ) (extent : Extent) (levels inside inside' : Levels) where
  pub elements_go : (n p end m : ℕ) → m ≡ 8 * space.len → is_due extent m s n p ≡ true → p < end →
      OnBits space (λ bits. ElementsTo bits ty order s extent levels inside n p) →
      OnBits now (λ bits. Comes (Means bits ty order inside p) inside inside' (Ok end)) →
      OnBits space (λ bits. ElementsTo bits ty order s extent levels inside' (n + 1) end)
  elements_go n p end m em due lt before one bytes e =
      let h = one bytes (same ∙ e) in
      let due = due_on space whole bytes e extent m s n p true em due in
      let further : p < end_of h.value = omega (arith, h.ends) in
      let more = elements_more h.value (before bytes e) due h.means further in
      rw h.keeps (rw h.ends at more)

-- a stop that is the fault
pub same_fault : (kind : MapFaultKind) (place : ℕ) (f : MapFault) → IsFault (Fault kind place) f →
    fault_of f ≡ (kind, place)
same_fault kind place f e =
    let ek : f.kind ≡ kind = cc in
    let ea : f.at ≡ place = cc in
    rw (ek, ea) refl

-- the element after those that are values is entered
module _ (bits : List ℕ) (nodes : List Node) (element : ℕ) (order : Order) (s : ℕ) (extent : Extent)
    (levels inside : Levels) (n p : ℕ) (f : FaultAt)
    (before : ElementsTo bits (type_of nodes element) order s extent levels inside n p)
    (due : is_due extent (length bits) s n p ≡ true) (goes : ends_before extent f.0 ≡ false) where
  abbrev here : Inner
  here = record { node = element; order = order; start = p }

  pub enters_element : (next : Part) → IsBare here next →
      Enters bits nodes inside n f
      (ElementsArise bits (type_of nodes element) order s extent levels f) (entered.Part next)
  enters_element next is path h =
      let h = of_bare is.clause_is h in
      let h = rw is.inner_is at h in
      in_element before.holds due goes h

  -- or is a value without bits
  pub enters_empty : (inside' : Levels) → f ≡ (fault.NoBits, p) → (result : Entered) →
      IsEmpty bits (type_of nodes element) here inside inside' result →
      Enters bits nodes inside' n f (ElementsArise bits (type_of nodes element) order s extent levels f) result
  enters_empty inside' ef (entered.Part next) h = λ path arises. enters_element next h.0 path (rw h.1 at arises)
  enters_empty inside' ef entered.There h = rw ef (of_no_bits before.holds due h.means.holds h.ends)
  enters_empty inside' ef entered.Nowhere h = tt

-- an array is entered through its elements
module _ (bits : List ℕ) (nodes : List Node) (ty : PokeType) (bound : Bound) (order : Order) (s : ℕ) (extent : Extent)
    (levels inside : Levels) (n : ℕ) (f : FaultAt) (here : s ≤ length bits)
    (bounded : extent_of bound levels s ≡ Ok extent) where
  pub enters_array : (result : Entered) →
      Enters bits nodes inside n f (ElementsArise bits ty order s extent (opened levels) f) result →
      Enters bits nodes inside n f (Arises bits (ArrayOf ty bound) order levels s f) result
  enters_array (entered.Part next) h = λ path arises. in_array here bounded (h path arises)
  enters_array entered.There h = in_array here bounded h
  enters_array entered.Nowhere h = tt
