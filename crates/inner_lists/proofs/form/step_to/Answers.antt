-- `step_to`: the path goes on in the type of the field.
use Rattle.inner_lists.proofs.Fields.{field_below, field_ends, field_leads, field_open}
use Rattle.inner_lists.proofs.form.step_to.Goals as goal

pub returns-clause-list : goal.returns-clause-list
returns-clause-list c = λ at path list.
    field_leads at c.args.fields.now c.index-fields-place.result c.args.place path list

pub returns-clause-open : goal.returns-clause-open
returns-clause-open c = λ at path.
    field_open at c.args.fields.now c.index-fields-place.result c.args.place path c.requires

pub returns-clause-last : goal.returns-clause-last
returns-clause-last c = λ at path.
    field_ends at c.args.fields.now c.index-fields-place.result c.args.place path c.requires

pub returns-clause-inside : goal.returns-clause-inside
returns-clause-inside c = λ count below.
    field_below count c.args.fields.now c.index-fields-place.result c.args.place c.requires below
