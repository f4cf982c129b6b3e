use Rattle.std.proofs.Common.{take, ◌≡◌, ◌<◌, ◌^◌, ◌∙◌, ap, sym, subst}
use Rattle.std.specs.Prelude.{All, IfSome}
use Rattle.pickle_types.specs.declared.integer.IntegerType.{IntegerType}
use Rattle.pickle_meaning.specs.Values.{start_of, members_of, gathered}
use Rattle.value_store.specs.declared.store.slots.Shape.TheVariants.{Integers}
use Rattle.value_store.specs.Integers.{byte_members, AreBytesOf}
use Rattle.value_store.specs.Lent.{place_value}
use Rattle.value_store.specs.Packed.{numbers_in}
use Rattle.value_store.specs.Slots.{trees, elements, parts_in, row_numbers, value_at, IsContent}
use Rattle.value_store.proofs.Integers.{elements_bytes}
use Rattle.value_store.proofs.Lent.{byte_numbers}
use Rattle.value_store.proofs.stored.StoredValue.byte_row.Goals as goal

pub returns-in-Integers : goal.returns-in-Integers
returns-in-Integers c = λ names.
    let slots = c.args.self.now.store.now.slots in
    let node = c.node_at-node.result in
    let read = c.node_at-node.ensures.read in
    let w = c.in-Integers.width in
    let type : IntegerType = record { width = w; signed = c.in-Integers.signed } in
    let bytes = c.text-bytes.result.now in
    let is : place_value names slots c.args.self.now.place ≡ value_at names slots c.in-Node.at =
    ap (λ p. place_value names slots p) c.in-Node.is in
    let content : IsContent slots (Integers w c.in-Integers.signed) node.start node.content =
    subst (λ shape. IsContent slots shape node.start node.content) c.in-Integers.is read.content in
    let numbers : row_numbers slots w node.content ≡ bytes =
    ap (λ bs. numbers_in w bs) (sym c.text-bytes.ensures) ∙ byte_numbers w bytes content.1.some c.if-width-le8.true in
    let start : start_of (place_value names slots c.args.self.now.place) ≡ node.start =
    ap start_of is ∙ read.start names in
    record {
      width = record { some = content.1.some; most = content.1.most };
      most = c.if-width-le8.true;
      below = subst (λ ns. All (λ n. n < 2 ^ w) ns) numbers content.1.below;
      members = ap members_of is ∙ read.members names
          ∙ ap
          (λ shape. gathered (parts_in slots (take c.in-Node.at (trees names slots)) shape node.start node.content))
          c.in-Integers.is
          ∙ ap (λ ns. gathered (elements (Integers w c.in-Integers.signed) node.start ns)) numbers
          ∙ elements_bytes w c.in-Integers.signed node.start bytes
          ∙ ap (λ start. byte_members type start bytes) (sym start);
    }

pub returns-in-Part : goal.returns-in-Part
returns-in-Part c = λ names.
    subst (λ p. IfSome c.part_bytes.result
    (λ row. AreBytesOf row.0 row.1.now (place_value names c.args.self.now.store.now.slots p))) (sym c.in-Part.is)
    (c.part_bytes.ensures names)
