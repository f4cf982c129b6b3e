-- An array of packed values that is closed.
use Rattle.std.proofs.Common.{◌≡◌, ℕ, List, [], ◌∷◌, Option, Some, length, sym, ap, ◌∙◌, arith}
use Rattle.std.proofs.lemmas.List.{length_push}
use Rattle.pickle_types.specs.declared.node.Node.{Node}
use Rattle.pickle_types.specs.Types.{PokeType}
use Rattle.pickle_meaning.specs.Means.{array_value}
use Rattle.pickle_meaning.specs.Values.{ArrayLabel, Value, Mapped, Levels, gathered, pushed}
use Rattle.value_store.specs.declared.store.slots.Node.{Node as SlotNode}
use Rattle.value_store.specs.declared.store.slots.Shape.TheVariants.{Records}
use Rattle.value_store.specs.Closed.{closed}
use Rattle.value_store.specs.Keeping.{IsClosed}
use Rattle.value_store.specs.LayoutArrays.{ClosesPacking, instances_from}
use Rattle.value_store.specs.Layouts.{row_length, template_of}
use Rattle.value_store.specs.Slots.{Held, HasNoNode, levels}
use Rattle.value_store.proofs.Fits.{innermost-level}
use Rattle.pickle_map.specs.LaidArrays.{IsLaidArray}

module _ (nodes : List Node) (h : Held) (start : ℕ) (outer : Levels) (place : ℕ) (values : List (Option Value))
    (n : Held) where
  -- without values it is closed as other arrays are
  pub none_closed : levels nodes h ≡ [] ∷ outer → values ≡ [] → IsClosed h n (λ names. ArrayLabel) start place →
      levels nodes n ≡ pushed outer (Some (array_value start place (values ∷ outer)))
  none_closed are none is = is nodes ∙ ap (closed ArrayLabel start place) are
      ∙ ap (λ vs. pushed outer (Some (array_value start place (vs ∷ outer)))) (sym none)

  pub some_closed : {ty : PokeType} → IsLaidArray nodes h ty start outer place values → ClosesPacking h n →
      levels nodes n ≡ pushed outer (Some (array_value start place (values ∷ outer)))
  some_closed a closes = closes nodes (template_of a.first 0) a.size start a.rows outer a.array
      ∙ ap (λ end. pushed outer (Some (Mapped ArrayLabel start end
      (gathered (instances_from (template_of a.first 0) a.size 0 a.rows))))) (sym a.ends)
      ∙ ap (λ vs. pushed outer (Some (Mapped ArrayLabel start place (gathered vs)))) (sym a.are)

-- there is a node for the values
pub laid_nodes : (nodes : List Node) (h : Held) (ty : PokeType) (start : ℕ) (outer : Levels) (place : ℕ)
    (values : List (Option Value)) → IsLaidArray nodes h ty start outer place values → HasNoNode h → ⊥
laid_nodes nodes h ty start outer place values a none =
    let g = a.array.gathering in
    let i = innermost-level h.room h.frames a.array.before g.own in
    let within = i.is.within.nodes in
    let count = ap (λ s. length s.nodes) g.is in
    let n : SlotNode = record {
      start = start;
      content = length a.array.before.texts;
      shape = Records (row_length (template_of a.first 0)) a.size;
    } in
    omega (arith, none, within, count, length_push a.array.before.nodes n)
