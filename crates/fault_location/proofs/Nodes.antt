-- What a table says about its nodes.
use Rattle.std.proofs.Common.{◌≡◌, ℕ, ◌+◌, ◌≤◌, ◌<◌, length, get_or, Bool, List, Option, refl, arith}
use Rattle.std.specs.Prelude.{All, Vec}
use Rattle.std.specs.declared.alloc.Global.{Global}
use Rattle.pickle_types.specs.declared.integer.IntegerType.{IntegerType}
use Rattle.pickle_types.specs.declared.name.Name.{Name}
use Rattle.pickle_types.specs.declared.node.Extent.{Extent as Bound}
use Rattle.pickle_types.specs.declared.node.Field.{Field}
use Rattle.pickle_types.specs.declared.node.Node.{Node}
use Rattle.pickle_types.specs.declared.node.Part.{Part}
use Rattle.pickle_types.specs.declared.node.Shape.TheVariants as shape
use Rattle.pickle_types.specs.Types.{ArrayOf, StructOf, IntegralOf, UnionOf, depth, fields_depth, parts_depth}
use Rattle.pickle_types.specs.Sound.{IsSoundBound}
use Rattle.pickle_types.specs.Table.{IsTable, IsWidth, type_of, bound_of, open_fields, open_parts}
use Rattle.pickle_map.specs.Mappable.{IsFieldOf, IsPartOf}
use Rattle.pickle_map.proofs.Shapes.{below_as, sound_as, opened_as, struct_opened, integral_opened, union_opened, fields_within, parts_within}
use Rattle.value_store.specs.Names.{title_at}

-- an integral struct in a table, where so many frames are open
pub record IntegralNode (nodes : List Node) (at levels : ℕ) (number : IntegerType) (fields : List Part) : Type 0 where
  pub type_is : type_of nodes at ≡ IntegralOf (title_at nodes at) number (open_parts (type_of nodes) fields)
  pub fields_are : All (IsPartOf nodes (levels + 1)) fields
  pub width : IsWidth number
  pub few : levels ≤ 64

pub integral_node : (nodes : List Node) → IsTable nodes → (at : ℕ) → at < length nodes → (levels : ℕ) →
    levels + depth (type_of nodes at) ≤ 65 →
    (other : Node) (name : Option Name) (number : IntegerType) (fields : Vec Part Global) →
    (get_or nodes at other).shape ≡ shape.Integral name number fields → IntegralNode nodes at levels number fields.items
unfolding parts_depth
integral_node nodes table at inside levels held other name number fields is =
    let below = below_as nodes table at inside other _ is in
    let sound = sound_as nodes table at inside other _ is in
    let opened = opened_as nodes table at inside other _ is in
    let deep = rw opened at held in
    record {
      type_is = integral_opened nodes table at inside other name number fields fields.items is refl;
      fields_are = parts_within nodes at inside (levels + 1) fields.items below.1 sound (omega (arith, deep));
      width = below.0;
      few = omega (arith, deep);
    }

-- a struct
pub record StructNode (nodes : List Node) (at levels : ℕ) (pinned : Bool) (fields : List Field) : Type 0 where
  pub type_is : type_of nodes at ≡ StructOf (title_at nodes at) pinned (open_fields (type_of nodes) fields)
  pub fields_are : All (IsFieldOf nodes (levels + 1)) fields
  pub few : levels ≤ 64

pub struct_node : (nodes : List Node) → IsTable nodes → (at : ℕ) → at < length nodes → (levels : ℕ) →
    levels + depth (type_of nodes at) ≤ 65 →
    (other : Node) (name : Option Name) (pinned : Bool) (fields : Vec Field Global) →
    (get_or nodes at other).shape ≡ shape.Struct name pinned fields → StructNode nodes at levels pinned fields.items
unfolding fields_depth
struct_node nodes table at inside levels held other name pinned fields is =
    let below = below_as nodes table at inside other _ is in
    let sound = sound_as nodes table at inside other _ is in
    let deep = rw (opened_as nodes table at inside other _ is) at held in
    record {
      type_is = struct_opened nodes table at inside other name pinned fields fields.items is refl;
      fields_are = fields_within nodes at inside (levels + 1) fields.items below sound (omega (arith, deep));
      few = omega (arith, deep);
    }

-- a union
pub record UnionNode (nodes : List Node) (at levels : ℕ) (alternatives : List Part) : Type 0 where
  pub type_is : type_of nodes at ≡ UnionOf (title_at nodes at) (open_parts (type_of nodes) alternatives)
  pub alternatives_are : All (IsPartOf nodes (levels + 1)) alternatives
  pub few : levels ≤ 64

pub union_node : (nodes : List Node) → IsTable nodes → (at : ℕ) → at < length nodes → (levels : ℕ) →
    levels + depth (type_of nodes at) ≤ 65 → (other : Node) (name : Option Name) (alternatives : Vec Part Global) →
    (get_or nodes at other).shape ≡ shape.Union name alternatives → UnionNode nodes at levels alternatives.items
unfolding parts_depth
union_node nodes table at inside levels held other name alternatives is =
    let below = below_as nodes table at inside other _ is in
    let sound = sound_as nodes table at inside other _ is in
    let deep = rw (opened_as nodes table at inside other _ is) at held in
    record {
      type_is = union_opened nodes table at inside other name alternatives alternatives.items is refl;
      alternatives_are =
          parts_within nodes at inside (levels + 1) alternatives.items below sound.0 (omega (arith, deep));
      few = omega (arith, deep);
    }

-- an array
pub record ArrayNode (nodes : List Node) (at levels element : ℕ) (bound : Bound) : Type 0 where
  pub type_is : type_of nodes at ≡ ArrayOf (type_of nodes element) (bound_of bound)
  pub inside : element < length nodes
  pub deep : levels + 1 + depth (type_of nodes element) ≤ 65
  pub sound : IsSoundBound (bound_of bound)

pub array_node : (nodes : List Node) → IsTable nodes → (at : ℕ) → at < length nodes → (levels : ℕ) →
    levels + depth (type_of nodes at) ≤ 65 → (other : Node) (element : ℕ) (bound : Bound) →
    (get_or nodes at other).shape ≡ shape.Array element bound → ArrayNode nodes at levels element bound
unfolding depth
array_node nodes table at inside levels held other element bound is =
    let below = below_as nodes table at inside other _ is in
    let deep = rw (opened_as nodes table at inside other _ is) at held in
    record {
      type_is = opened_as nodes table at inside other _ is;
      inside = omega (arith, below, inside);
      deep = omega (arith, deep);
      sound = sound_as nodes table at inside other _ is;
    }
