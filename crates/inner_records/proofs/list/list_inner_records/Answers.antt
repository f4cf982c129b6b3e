-- `list_inner_records`: a list is reached, and its elements are written.
use Rattle.std.proofs.KnownBytes.{Keeps-refl}
use Rattle.inner_records.specs.Stored.{listed_of}
use Rattle.inner_records.specs.Written.{no_memory}
use Rattle.inner_records.proofs.Started.{writes_elements, writes_nothing}
use Rattle.inner_records.proofs.list.list_inner_records.Goals as goal

pub returns-in_default-clause-writes : goal.returns-in_default-clause-writes
returns-in_default-clause-writes g c =
    writes_nothing c.args.run.now c.args.list.now.fields.items c.args.resume c.args.listing
    (g.S.Space.view c.args.space.now) _ _ _ c.first-first.result _ no_memory (Keeps-refl _) c.first-first.ensures

pub returns-in-Ok-start_list-clause-writes : goal.returns-in-Ok-start_list-clause-writes
returns-in-Ok-start_list-clause-writes g c =
    let first = g.S.Space.view c.args.space.now in
    let started = c.in-Ok-start_list.ensures.ok in
    let is = rw (c.nodes.ensures, c.node.ensures, c.deref.ensures.value) at c.form_of-last.ensures.last in
    writes_elements c.args.run.now c.args.list.now.fields.items c.args.resume c.args.listing first _ _ _ _ _
    (listed_of c.args.run.now c.in-Ok-start_list.started.list c.start_list.new.stored)
    c.in-Ok-start_list.started.left c.form_of-last.result.last is started.reached
    (c.list_started.ensures.writes first c.start_list.ensures.keeps)

pub returns-clause-writes : goal.returns-clause-writes
returns-clause-writes g c =
    writes_nothing c.args.run.now c.args.list.now.fields.items c.args.resume c.args.listing
    (g.S.Space.view c.args.space.now) _ _ _ c.first-first.result _ c.in-Err.ensures.err (Keeps-refl _)
    c.first-first.ensures
