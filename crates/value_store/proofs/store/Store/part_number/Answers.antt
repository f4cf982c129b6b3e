use Rattle.std.proofs.Common.{rules, ◌≡◌, ◌∙◌}
use Rattle.pickle_meaning.specs.Values.{label_of}
use Rattle.value_store.specs.Labels.{number_of}
use Rattle.value_store.specs.Lent.{place_value}
use Rattle.value_store.specs.Slots.{IsNumber}
use Rattle.value_store.specs.declared.store.slots.Place.TheVariants.{Part}
use Rattle.value_store.proofs.Instances.{is_part}
use Rattle.value_store.proofs.RecordsRead.{part_number, number_content}
use Rattle.value_store.proofs.store.Store.part_number.Goals as goal

pub returns-in-Integer-clause-is : goal.returns-in-Integer-clause-is
returns-in-Integer-clause-is c = λ names.
    let slots = c.args.self.now.slots in
    let p = is_part slots c.args.array c.args.index c.args.node c.requires in
    let read = c.node_at-number.ensures in
    let n = c.node_at-number.result in
    let number : IsNumber n.shape =
    number_content slots n c.in-Integer.width c.in-Integer.signed c.in-Integer.is read.read in
    let own = part_number names slots c.args.array c.args.index c.args.node n c.in-Integer.width c.in-Integer.signed
    c.part_digits.result p read.read read.is number c.in-Integer.is c.part_digits.ensures.is in
    let is : c.with_sign.result
    ≡ number_of (label_of (place_value names slots (Part c.args.array c.args.index c.args.node))) =
    c.with_sign.ensures.is ∙ own in
    search (rules, is)
