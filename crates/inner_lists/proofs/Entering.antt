-- Types on the way to a list: a struct that is entered, and the array at the end of the path.
use Rattle.std.proofs.Common.{◌≡◌, ◌∙◌, ℕ, ◌+◌, ◌*◌, ◌<◌, ◌≤◌, max, Bool, true, List, [], ◌∷◌, Option, Some, None, Result, Ok, Err, IfOk, get_or, drop, length, refl, sym, ap, subst, arith}
use Rattle.bit_space.specs.declared.order.Order.{Order}
use Rattle.pickle_types.specs.Types.{PokeType, Bound, ArrayOf, StructOf, Fields}
use Rattle.pickle_meaning.specs.declared.extent.Extent.{Extent}
use Rattle.pickle_meaning.specs.declared.faults.MapFaultKind.TheVariants as fault
use Rattle.pickle_meaning.specs.Clauses.{extent_of, bound_steps}
use Rattle.pickle_meaning.specs.Values.{Naming, Levels, opened}
use Rattle.pickle_map.specs.declared.mapper.state.Mapper.{Mapper}
use Rattle.pickle_map.specs.declared.mapper.stop.Stop.{Stop}
use Rattle.pickle_map.specs.Settles.{Settles}
use Rattle.inner_lists.specs.declared.place.Stage.{Stage}
use Rattle.bit_space.specs.SpaceView.{SpaceView}
use Rattle.pickle_types.specs.declared.node.Field.{Field}
use Rattle.pickle_types.specs.declared.node.Node.{Node}
use Rattle.pickle_types.specs.Table.{open_fields, type_of}
use Rattle.pickle_map.specs.Mappable.{IsFieldOf}
use Rattle.value_store.specs.Slots.{level_count}
use Rattle.std.proofs.lemmas.List.{drop_more}
use Rattle.fault_location.specs.Ways.{field_then}
use Rattle.inner_lists.proofs.Fields.{field_leads}
use Rattle.inner_lists.specs.Calls.{Claim, Comes, EndsIn, Enters, GoesOn, IsStageOf, Leads, Reaching, RunsOut, StopsAt, listed, passed_top}
use Rattle.inner_lists.specs.declared.place.ListPlace.{ListPlace}
use Rattle.list_laws.specs.Meanings.{IsMeant, Meaning, SpaceBytes, meaning_in}
use Rattle.list_laws.specs.Paths.{Path, is_list, is_list_in}
use Rattle.list_laws.specs.Reaches.{Reached, Faulty, Found, Reaches, ReachesIn, past_end, array, bound_fault, through}
use Rattle.inner_lists.proofs.Leading.{comes_later, leads_both, stops_later}
use Rattle.inner_lists.proofs.Passing.{clause_stops, runs_out}
use Rattle.inner_lists.proofs.Totals.{Total, total_array, total_in}

-- a start past the last bit
pub past_comes : (space : SpaceBytes) (ty : PokeType) (path : Path) (order : Order) (levels : Levels) (s top at : ℕ)
    → 8 * space.len < s
    → Comes space (λ M r k. Reaches (8 * space.len) M ty path order levels s top r k) at at (Faulty (fault.End, s))
past_comes space ty path order levels s top at past =
    record { steps = 0; taken = omega arith; holds = λ known are. past_end past }

module _ (space : SpaceBytes) (D : Type 0) (ty element : PokeType) (bound : Bound) (order : Order) (levels : Levels)
    (s top limit before : ℕ) (inside : s ≤ 8 * space.len) (is : ty ≡ ArrayOf element bound) where
  -- what is at an array
  abbrev pub at_array : Claim Reached
  at_array = λ M r k. Reaches (8 * space.len) M ty [] order levels s top r k

  as_array : (M : Meaning) (r : Reached) (k : ℕ)
      → Reaches (8 * space.len) M (ArrayOf element bound) [] order levels s top r k → at_array M r k
  as_array M r k h = subst (λ (t : PokeType). Reaches (8 * space.len) M t [] order levels s top r k) (sym is) h

  total : (bits : List ℕ) → Total (at_array (IsMeant bits)) (1 + bound_steps bound levels)
  total bits =
      let t =
      total_array (8 * space.len) bits element bound order levels s top inside (extent_of bound levels s) refl in
      record { outcome = t.outcome; steps = t.steps; holds = as_array (IsMeant bits) _ _ t.holds; most = t.most }

  pub array_tick : (after : ℕ) → after ≡ limit → before ≡ limit → RunsOut space at_array limit before after
  array_tick after all none =
      runs_out space at_array limit before after (1 + bound_steps bound levels) all (omega (arith, none)) total

  pub bound_stops : (limit' mid after : ℕ) (stop : Stop) → limit' ≡ limit → mid ≡ before + 1
      → Settles {A = Extent} limit' mid after (Err stop) (extent_of bound levels s) (bound_steps bound levels)
      → StopsAt space D at_array Faulty limit before after stop
  bound_stops limit' mid after stop same taken h =
      clause_stops space D at_array limit before mid after (1 + bound_steps bound levels)
      (bound_steps bound levels) (extent_of bound levels s) stop (omega (arith, taken))
      (λ M f e. as_array M _ _ (bound_fault inside e)) total
      (subst (λ (n : ℕ).
      Settles {A = Extent} n mid after (Err stop) (extent_of bound levels s) (bound_steps bound levels)) same h)

  pub array_comes : (after : ℕ) (extent : Extent) → extent_of bound levels s ≡ Ok extent
      → after ≡ before + 1 + bound_steps bound levels
      → Comes space at_array before after
      (Found (record { element = element; order = order; start = s; extent = extent; levels = levels; top = top }))
  array_comes after extent e taken = record {
    steps = 1 + bound_steps bound levels;
    taken = omega (arith, taken);
    holds = λ known are. as_array (meaning_in space known) _ _ (array inside e);
  }

module _ (space : SpaceBytes) (ty : PokeType) (name : Naming) (pinned : Bool) (fields : Fields) (place : ℕ)
    (path : Path) (order : Order) (levels : Levels) (s top before : ℕ) (inside : s ≤ 8 * space.len)
    (is : ty ≡ StructOf name pinned fields) where
  -- what a path through a struct leads to
  abbrev pub at_struct : Claim Reached
  at_struct = λ M r k. Reaches (8 * space.len) M ty (place ∷ path) order levels s top r k

  as_struct : (M : Meaning) (r : Reached) (k : ℕ)
      → Reaches (8 * space.len) M (StructOf name pinned fields) (place ∷ path) order levels s top r k
      → at_struct M r k
  as_struct M r k h =
      subst (λ (t : PokeType). Reaches (8 * space.len) M t (place ∷ path) order levels s top r k) (sym is) h

  -- the path leads on through the struct's fields
  pub leads_in : is_list ty (place ∷ path) ≡ true → is_list_in fields place path ≡ true
  leads_in list = subst (λ (t : PokeType). is_list t (place ∷ path) ≡ true) is list

  pub struct_tick : (limit after : ℕ) → is_list ty (place ∷ path) ≡ true → after ≡ limit → before ≡ limit
      → RunsOut space at_struct limit before after
  struct_tick limit after list all none =
      runs_out space at_struct limit before after 1 all (omega (arith, none))
      (λ bits.
      let t = total_in (8 * space.len) bits fields place path pinned order (opened levels) s s (max top s)
      (leads_in list) in
      record {
        outcome = t.outcome;
        steps = _;
        holds = as_struct (IsMeant bits) _ _ (through inside t.holds);
        most = omega arith;
      })

  pub struct_leads : (after top' : ℕ) (levels' : Levels) → levels' ≡ opened levels → after ≡ before + 1
      → top' ≡ max top s
      → Leads space
      (λ M r k. ReachesIn (8 * space.len) M pinned s fields place path order levels' s top' r k)
      at_struct before after
  struct_leads after top' levels' frames taken tops = record {
    steps = 1;
    taken = omega (arith, taken);
    leads = λ known are r k h.
        as_struct (meaning_in space known) _ _ (through inside
        (subst (λ (n : ℕ). ReachesIn (8 * space.len) (meaning_in space known) pinned s fields place path order
        (opened levels) s n r k) tops
        (subst (λ (l : Levels). ReachesIn (8 * space.len) (meaning_in space known) pinned s fields place path order l s
        top' r k) frames h)));
  }

-- what was entered after some steps was entered from before them
pub enters_later : {W : Type 0} (space : SpaceBytes) (D D' : Type 0) (limit limit' before mid : ℕ) (new : Mapper W)
    (IsPath IsPath' : Path → Bool) (inner outer : Path → Claim Reached) (result : Result (Option Stage) Stop)
    → (D → D') → limit' ≡ limit
    → ((path : Path) → IsPath' path ≡ true → IsPath path ≡ true)
    → ((path : Path) → Leads space (inner path) (outer path) before mid)
    → Enters space limit mid new D IsPath inner result → Enters space limit' before new D' IsPath' outer result
enters_later space D D' limit limit' before mid new IsPath IsPath' inner outer (Ok (Some next)) device same paths first
    h = λ path. leads_both (first path) (h path)
enters_later space D D' limit limit' before mid new IsPath IsPath' inner outer (Ok None) device same paths first h =
    λ path. comes_later (first path) (h path)
enters_later space D D' limit limit' before mid new IsPath IsPath' inner outer (Err stop) device same paths first h =
    λ path is. stops_later D D' Faulty limit limit' new.meter.now.steps stop device same
    (first path) (h path (paths path is))

-- the paths of one kind go on where those of another do
pub goes_on_too : {W : Type 0} (space : SpaceView) (new : Mapper W) (IsPath IsPath' : Path → Bool)
    (result : Result (Option Stage) Stop) → ((path : Path) → IsPath' path ≡ true → IsPath path ≡ true)
    → IfOk result (GoesOn space new IsPath) → IfOk result (GoesOn space new IsPath')
goes_on_too space new IsPath IsPath' (Ok (Some next)) paths h =
    record { may = h.may; inside = h.inside; list = λ path is. h.list path (paths path is) }
goes_on_too space new IsPath IsPath' (Ok None) paths h = tt
goes_on_too space new IsPath IsPath' (Err stop) paths h = tt

-- the paths go on in the stage of a field
pub stage_goes_on : {W : Type 0} (space : SpaceView) (new : Mapper W) (nodes : List Node) (fs : List Field)
    (other field : Field) (place top : ℕ) (result : Result (Option Stage) Stop) → new.nodes.now ≡ nodes
    → field ≡ get_or fs place other → IsFieldOf nodes (level_count new.store.now) field → top ≤ 8 * space.len
    → IfOk result (IsStageOf field top)
    → IfOk result (GoesOn space new (is_list_in (open_fields (type_of nodes) fs) place))
stage_goes_on space new nodes fs other field place top (Ok (Some stage)) same is may inside h = record {
  may = rw (same, h.0) (record { inside = may.inside; deep = may.deep });
  inside = rw h.1 inside;
  list = λ path list.
      rw (same, h.0, is) (field_leads (type_of nodes) fs other place path list);
}
stage_goes_on space new nodes fs other field place top (Ok None) same is may inside h = tt
stage_goes_on space new nodes fs other field place top (Err stop) same is may inside h = tt

-- the fields from one of them on
pub fields_from : (nodes nodes' : List Node) (fs : List Field) (index : ℕ) (field : Field) → nodes' ≡ nodes
    → field ≡ get_or fs index field → index < length fs
    → open_fields (type_of nodes) (drop index fs)
    ≡ field_then nodes' field (open_fields (type_of nodes) (drop (index + 1) fs))
fields_from nodes nodes' fs index field same is lt =
    ap (open_fields (type_of nodes)) (drop_more fs index field lt)
    ∙ ap (λ (f : Field). open_fields (type_of nodes) (f ∷ drop (index + 1) fs)) (sym is)
    ∙ ap (λ (n : List Node). field_then n field (open_fields (type_of nodes) (drop (index + 1) fs))) (sym same)

module _ (space : SpaceBytes) (outer : Claim Reached) (pinned : Bool) (s : ℕ) (path : Path) (order : Order)
    (levels : Levels) (before after : ℕ) where
  -- what fields lead to, with the same fields and places
  pub leads_same : (fields fields' : Fields) (place place' behind top : ℕ) → fields ≡ fields' → place ≡ place'
      → Leads space (λ M r k. ReachesIn (8 * space.len) M pinned s fields place path order levels behind top r k) outer
      before after
      → Leads space
      (λ M r k. ReachesIn (8 * space.len) M pinned s fields' place' path order levels behind top r k) outer
      before after
  leads_same fields fields' place place' behind top same at h =
      subst (λ (n : ℕ). Leads space
      (λ M r k. ReachesIn (8 * space.len) M pinned s fields' n path order levels behind top r k) outer before after) at
      (subst (λ (fs : Fields). Leads space
      (λ M r k. ReachesIn (8 * space.len) M pinned s fs place path order levels behind top r k) outer before after)
      same h)

  -- with the same ends
  pub leads_ends : (fields : Fields) (place behind behind' top top' : ℕ) → behind' ≡ behind → top' ≡ top
      → Leads space (λ M r k. ReachesIn (8 * space.len) M pinned s fields place path order levels behind top r k) outer
      before after
      → Leads space
      (λ M r k. ReachesIn (8 * space.len) M pinned s fields place path order levels behind' top' r k) outer
      before after
  leads_ends fields place behind behind' top top' ends tops h =
      subst (λ (n : ℕ). Leads space
      (λ M r k. ReachesIn (8 * space.len) M pinned s fields place path order levels behind' n r k) outer before after)
      (sym tops)
      (subst (λ (n : ℕ). Leads space
      (λ M r k. ReachesIn (8 * space.len) M pinned s fields place path order levels n top r k) outer before after)
      (sym ends) h)

-- a field that was passed ends in the space, and so does the greatest end
pub ends_there : (later space : SpaceView) (end : Option ℕ) → later.len ≡ space.len → EndsIn later end →
    EndsIn space end
ends_there later space (Some end) same h = omega (arith, same, h)
ends_there later space None same h = tt

pub top_inside : (space : SpaceView) (top : ℕ) (end : Option ℕ) → top ≤ 8 * space.len → EndsIn space end →
    passed_top top end ≤ 8 * space.len
top_inside space top (Some end) inside h = omega (arith, inside, h)
top_inside space top None inside h = inside

-- what a path leads to, by the same path
pub leads_path : (space : SpaceBytes) (outer : Claim Reached) (ty : PokeType) (order : Order) (levels : Levels)
    (s top before after : ℕ) (path path' : Path) → path ≡ path'
    → Leads space (λ M r k. Reaches (8 * space.len) M ty path order levels s top r k) outer before after
    → Leads space (λ M r k. Reaches (8 * space.len) M ty path' order levels s top r k) outer before after
leads_path space outer ty order levels s top before after path path' same h =
    subst
    (λ (p : Path). Leads space (λ M r k. Reaches (8 * space.len) M ty p order levels s top r k) outer before after)
    same h

-- a list that was reached after some steps was reached from before them
pub reaching_later : {W : Type 0} (space : SpaceBytes) (D D' : Type 0) (old mid new : Mapper W)
    (inner outer : Claim Reached) (result : Result (Option ListPlace) Stop) → (D → D')
    → old.meter.now.limit ≡ mid.meter.now.limit → mid.nodes.now ≡ old.nodes.now
    → Leads space inner outer old.meter.now.steps mid.meter.now.steps
    → Reaching space mid new D inner result → Reaching space old new D' outer result
reaching_later space D D' old mid new inner outer (Ok (Some list)) device same nodes first h = record {
  around = h.around;
  frames = h.frames;
  comes = comes_later first
      (subst (λ (n : List Node). Comes space inner mid.meter.now.steps new.meter.now.steps
      (Found (listed n h.around list))) nodes h.comes);
  element = h.element;
  inside = h.inside;
  top = h.top;
}
reaching_later space D D' old mid new inner outer (Ok None) device same nodes first h = comes_later first h
reaching_later space D D' old mid new inner outer (Err stop) device same nodes first h =
    stops_later D D' Faulty mid.meter.now.limit old.meter.now.limit new.meter.now.steps stop device same first h
