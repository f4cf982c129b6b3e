use Rattle.std.proofs.Common.{rules, [], sym, subst, ap, ◌∙◌}
use Rattle.pickle_types.specs.Sound.{IsSmall}
use Rattle.pickle_meaning.specs.Values.{label_of}
use Rattle.value_store.specs.Labels.{signed_of}
use Rattle.value_store.specs.Lent.{place_value}
use Rattle.value_store.proofs.stored.StoredValue.number_as.Goals as goal

-- (a packed number has no names)
pub returns-in-Element-clause-small : goal.returns-in-Element-clause-small
returns-in-Element-clause-small c =
    let own = c.requires.signed []
    ∙ ap (λ p. signed_of (label_of (place_value [] c.args.self.now.store.now.slots p))) c.in-Element.is in
    let small : IsSmall c.args.signed c.element_number.result =
    subst (λ g. IsSmall g c.element_number.result) (sym own) c.element_number.ensures.small in
    search (rules, small)

-- (so has a number of a packed struct)
pub returns-in-Part-clause-small : goal.returns-in-Part-clause-small
returns-in-Part-clause-small c =
    let own = c.requires.signed []
    ∙ ap (λ p. signed_of (label_of (place_value [] c.args.self.now.store.now.slots p))) c.in-Part.is in
    let small : IsSmall c.args.signed c.part_number.result =
    subst (λ g. IsSmall g c.part_number.result) (sym own) (c.part_number.ensures.small []) in
    search (rules, small)
