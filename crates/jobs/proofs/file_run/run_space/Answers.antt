use Rattle.std.proofs.Common.{IfOk, OnErr, subst, sym}
use Rattle.bit_space.specs.SpaceView.{HasRisen}
use Rattle.jobs.specs.Every.{every_of, runs_of}
use Rattle.jobs.specs.Files.{AppendsRun, CutsRun}
use Rattle.jobs.specs.declared.file_run.Work.{Work}
use Rattle.jobs.proofs.file_run.run_space.Goals as goal

pub returns-in-Map-clause-ready : goal.returns-in-Map-clause-ready
returns-in-Map-clause-ready g c = rw c.in-Map.is c.map_space.ensures.ready

pub returns-in-Map-clause-ok : goal.returns-in-Map-clause-ok
returns-in-Map-clause-ok g c =
    let file = g.S.Space.view c.args.space.now in
    let after = g.S.Space.view c.map_space.new.space in
    let Written : Work → Type 0 = λ work. IfOk c.map_space.result
    (AppendsRun (runs_of work c.args.start file (HasRisen file.failures after.failures)) (every_of c.args.task)
    c.args.name.now (g.O.Write.contents c.args.out.now) (g.O.Write.contents c.map_space.new.out)) in
    subst Written (sym c.in-Map.is) c.map_space.ensures.ok

pub returns-in-Map-clause-err : goal.returns-in-Map-clause-err
returns-in-Map-clause-err g c =
    let file = g.S.Space.view c.args.space.now in
    let after = g.S.Space.view c.map_space.new.space in
    let Cut : Work → Type 0 = λ work. OnErr c.map_space.result
    (CutsRun (runs_of work c.args.start file (HasRisen file.failures after.failures)) (every_of c.args.task)
    c.args.name.now (g.O.Write.contents c.args.out.now) (g.O.Write.contents c.map_space.new.out)) in
    subst Cut (sym c.in-Map.is) c.map_space.ensures.err

pub returns-in-Identify-clause-ready : goal.returns-in-Identify-clause-ready
returns-in-Identify-clause-ready g c = rw c.in-Identify.is tt

pub returns-in-Identify-clause-ok : goal.returns-in-Identify-clause-ok
returns-in-Identify-clause-ok g c =
    let file = g.S.Space.view c.args.space.now in
    let after = g.S.Space.view c.identify_space.new.space in
    let Written : Work → Type 0 = λ work. IfOk c.identify_space.result
    (AppendsRun (runs_of work c.args.start file (HasRisen file.failures after.failures)) (every_of c.args.task)
    c.args.name.now (g.O.Write.contents c.args.out.now) (g.O.Write.contents c.identify_space.new.out)) in
    subst Written (sym c.in-Identify.is) c.identify_space.ensures.ok

pub returns-in-Identify-clause-err : goal.returns-in-Identify-clause-err
returns-in-Identify-clause-err g c =
    let file = g.S.Space.view c.args.space.now in
    let after = g.S.Space.view c.identify_space.new.space in
    let Cut : Work → Type 0 = λ work. OnErr c.identify_space.result
    (CutsRun (runs_of work c.args.start file (HasRisen file.failures after.failures)) (every_of c.args.task)
    c.args.name.now (g.O.Write.contents c.args.out.now) (g.O.Write.contents c.identify_space.new.out)) in
    subst Cut (sym c.in-Identify.is) c.identify_space.ensures.err

pub returns-in-Map-clause-told : goal.returns-in-Map-clause-told
returns-in-Map-clause-told g c = rw c.in-Map.is c.map_space.ensures.told

pub returns-in-Identify-clause-told : goal.returns-in-Identify-clause-told
returns-in-Identify-clause-told g c = rw c.in-Identify.is c.identify_space.ensures.told
