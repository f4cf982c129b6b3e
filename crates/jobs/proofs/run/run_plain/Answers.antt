use Rattle.std.proofs.Common.{rules}
use Rattle.jobs.proofs.Asked.{only_formats}
use Rattle.std.proofs.KnownBytes.{Keeps-refl}
use Rattle.jobs.proofs.run.run_plain.Goals as goal

pub returns-in-Map-clause-holds : goal.returns-in-Map-clause-holds
returns-in-Map-clause-holds g c = rw c.in-Map.is (search rules)

pub returns-in-Dump-clause-holds : goal.returns-in-Dump-clause-holds
returns-in-Dump-clause-holds g c = rw c.in-Dump.is (search rules)

pub returns-in-Identify-clause-holds : goal.returns-in-Identify-clause-holds
returns-in-Identify-clause-holds g c = rw c.in-Identify.is c.identify_each.ensures.holds

pub returns-in_default-clause-holds : goal.returns-in_default-clause-holds
returns-in_default-clause-holds g c =
    let is = only_formats c.args.asked.now.job c.requires.over c.in_default.not-Map c.requires.plain
    c.in_default.not-Dump c.in_default.not-Identify in
    rw is c.list_formats.ensures

pub returns-in-Map-clause-says : goal.returns-in-Map-clause-says
returns-in-Map-clause-says g c = rw c.in-Map.is (rw c.deref-in-Map.ensures at c.map_plain.ensures.says)

pub returns-in-Map-clause-told : goal.returns-in-Map-clause-told
returns-in-Map-clause-told g c = rw c.in-Map.is (Keeps-refl _)

pub returns-in-Dump-clause-says : goal.returns-in-Dump-clause-says
returns-in-Dump-clause-says g c = rw c.in-Dump.is tt

pub returns-in-Dump-clause-told : goal.returns-in-Dump-clause-told
returns-in-Dump-clause-told g c = rw c.in-Dump.is (Keeps-refl _)

pub returns-in-Identify-clause-says : goal.returns-in-Identify-clause-says
returns-in-Identify-clause-says g c = rw c.in-Identify.is tt

pub returns-in-Identify-clause-told : goal.returns-in-Identify-clause-told
returns-in-Identify-clause-told g c = rw c.in-Identify.is c.identify_each.ensures.told

pub returns-in_default-clause-says : goal.returns-in_default-clause-says
returns-in_default-clause-says g c =
    let is = only_formats c.args.asked.now.job c.requires.over c.in_default.not-Map c.requires.plain
    c.in_default.not-Dump c.in_default.not-Identify in
    rw is tt

pub returns-in_default-clause-told : goal.returns-in_default-clause-told
returns-in_default-clause-told g c =
    let is = only_formats c.args.asked.now.job c.requires.over c.in_default.not-Map c.requires.plain
    c.in_default.not-Dump c.in_default.not-Identify in
    rw is (Keeps-refl _)

pub returns-in-Map-clause-opened : goal.returns-in-Map-clause-opened
returns-in-Map-clause-opened g c =
    rw c.in-Map.is
    (rw (
      c.from_bit-mapping.ensures.request,
      c.none.ensures,
      c.deref.ensures,
      c.deref-in-Map.ensures,
      c.deref-in-Map-2.ensures,
    ) at c.map_plain.ensures.opened)

pub returns-in-Dump-clause-opened : goal.returns-in-Dump-clause-opened
returns-in-Dump-clause-opened g c = rw c.in-Dump.is tt

pub returns-in-Identify-clause-opened : goal.returns-in-Identify-clause-opened
returns-in-Identify-clause-opened g c = rw c.in-Identify.is tt

pub returns-in_default-clause-opened : goal.returns-in_default-clause-opened
returns-in_default-clause-opened g c =
    let is = only_formats c.args.asked.now.job c.requires.over c.in_default.not-Map c.requires.plain
    c.in_default.not-Dump c.in_default.not-Identify in
    rw is tt
