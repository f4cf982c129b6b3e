-- The nodes of declared types stay the same while the table grows.
use Rattle.std.proofs.Common.{◌≡◌, ℕ, List, [], ◌∷◌, ◌++◌, Option, Some, None, Bool, true, false, refl, sym, ◌∙◌, arith}
use Rattle.std.specs.Prelude.{slice_get, if◌then◌else◌}
use Rattle.std.specs.Option.{option_map}
use Rattle.std.specs.Str.{bytes_eq}
use Rattle.std.proofs.lemmas.Option.{slice_get_within}
use Rattle.pickle_tree.specs.Tree.{TreeReference, Int, Uint, Called, FormTree, Plain, StringForm, OffsetForm, ArrayForm, StructForm, IntegralForm, UnionForm, FieldTrees, NoFields, FieldThen, DeclarationTree}
use Rattle.pickle_types.specs.declared.names.Declared.{Declared}
use Rattle.pickle_types.specs.declared.names.Named.{Named}
use Rattle.pickle_types.specs.declared.node.Node.{Node}
use Rattle.pickle_types.specs.Table.{IsTable, Grows}
use Rattle.pickle_types.specs.Built.{declared_as}
use Rattle.pickle_types.specs.DeclaredNodes.{node_called, part_nodes, HasParts, IsOnly, IsWritten, IsReferred, IsFormNode, AreFormNodes, IsDeclaredNode}
use Rattle.pickle_types.proofs.Growth.{type_kept, longer}
use Rattle.pickle_types.proofs.Items.{get_front}

module _ (word : List ℕ) (more : List Named) (i : ℕ) where
  called_or : (b : Bool) (d : Declared) (o o' : Option Declared) →
      (option_map (λ (x : Declared). x.node) o ≡ Some i → option_map (λ (x : Declared). x.node) o' ≡ Some i) →
      option_map (λ (x : Declared). x.node) (if b then Some d else o) ≡ Some i →
      option_map (λ (x : Declared). x.node) (if b then Some d else o') ≡ Some i
  called_or true d o o' rest h = h
  called_or false d o o' rest h = rest h

  -- a name that has a node keeps it while more names come
  pub called_on : (types : List Named) → node_called types word ≡ Some i → node_called (types ++ more) word ≡ Some i
  called_on [] h = cc
  called_on (d ∷ types) h =
      called_or (bytes_eq word d.word.items) d.declared (declared_as word types) (declared_as word (types ++ more))
      (called_on types) h

has_kept : (o o' : Option Node) (P Q : List ℕ → Type 0) → ((node : Node) → o ≡ Some node → o' ≡ Some node) →
    ((is : List ℕ) → P is → Q is) → HasParts o P → HasParts o' Q
has_kept None o' P Q same on h = absurd h
has_kept (Some node) o' P Q same on h = rw (same node refl) (on (part_nodes node.shape) h)

only_kept : (P Q : ℕ → Type 0) → ((i : ℕ) → P i → Q i) → (is : List ℕ) → IsOnly P is → IsOnly Q is
only_kept P Q on [] h = absurd h
only_kept P Q on (i ∷ []) h = on i h
only_kept P Q on (i ∷ j ∷ is) h = absurd h

module _ (old new : List Node) (table : IsTable old) (grows : Grows old new) (types more : List Named) where
  node_kept : (i : ℕ) (node : Node) → slice_get old i ≡ Some node → slice_get new i ≡ Some node
  node_kept i node is =
      let within = slice_get_within old i node is in rw grows.is (get_front old grows.more i (omega arith) ∙ is)

  pub written_kept : (i : ℕ) → IsWritten old i → IsWritten new i
  written_kept i h =
      let inside = h.inside in
      let long = longer old new table grows in
      record {
        inside = omega arith;
        first = λ j lt few same. h.first j lt few (sym (type_kept old new table grows j (omega arith)) ∙ same
            ∙ type_kept old new table grows i inside);
      }

  referred_kept : (r : TreeReference) (i : ℕ) → IsReferred old types r i → IsReferred new (types ++ more) r i
  referred_kept (Int width) i h = written_kept i h
  referred_kept (Uint width) i h = written_kept i h
  referred_kept (Called word) i h = called_on word more i types h

  mutual
    pub form_kept : (form : FormTree) (i : ℕ) → IsFormNode old types form i → IsFormNode new (types ++ more) form i
    form_kept (Plain r) i h = referred_kept r i h
    form_kept StringForm i h = tt
    form_kept (OffsetForm r unit) i h = tt
    form_kept (ArrayForm element bound) i h = has_kept (slice_get old i) (slice_get new i)
        (IsOnly (λ e. IsFormNode old types element e)) (IsOnly (λ e. IsFormNode new (types ++ more) element e))
        (node_kept i) (only_kept (λ e. IsFormNode old types element e) (λ e. IsFormNode new (types ++ more) element e)
        (λ e k. form_kept element e k)) h
    form_kept (StructForm pinned fields) i h = has_kept (slice_get old i) (slice_get new i)
        (λ is. AreFormNodes old types fields is) (λ is. AreFormNodes new (types ++ more) fields is)
        (node_kept i) (λ is k. forms_kept fields is k) h
    form_kept (IntegralForm r fields) i h = has_kept (slice_get old i) (slice_get new i)
        (λ is. AreFormNodes old types fields is) (λ is. AreFormNodes new (types ++ more) fields is)
        (node_kept i) (λ is k. forms_kept fields is k) h
    form_kept (UnionForm fields) i h = has_kept (slice_get old i) (slice_get new i)
        (λ is. AreFormNodes old types fields is) (λ is. AreFormNodes new (types ++ more) fields is)
        (node_kept i) (λ is k. forms_kept fields is k) h

    pub forms_kept : (fields : FieldTrees) (is : List ℕ) → AreFormNodes old types fields is →
        AreFormNodes new (types ++ more) fields is
    forms_kept NoFields [] h = tt
    forms_kept NoFields (i ∷ is) h = absurd h
    forms_kept (FieldThen form parts rest) [] h = absurd h
    forms_kept (FieldThen form parts rest) (i ∷ is) h = (form_kept form i h.0, forms_kept rest is h.1)

  pub declared_kept : (d : DeclarationTree) → IsDeclaredNode old types d → IsDeclaredNode new (types ++ more) d
  declared_kept d h = record {
    node = h.node;
    called = called_on d.name more h.node types h.called;
    form = form_kept d.form h.node h.form;
  }
