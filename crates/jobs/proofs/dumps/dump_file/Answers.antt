use Rattle.std.proofs.Common.{None}
use Rattle.std.proofs.KnownBytes.{Keeps-refl}
use Rattle.std.proofs.lemmas.Result.{err_from_is_err_and}
use Rattle.bit_space.specs.SpaceView.{HasRisen}
use Rattle.jobs.specs.Jobs.{dumps, no_dump_pages, undumped}
use Rattle.jobs.proofs.Dumped.{dump_ends, dump_holds}
use Rattle.run_parts.specs.DumpText.{dump_text}
use Rattle.spool.proofs.Windows.{keeps_cut}
use Rattle.jobs.proofs.dumps.dump_file.Goals as goal

pub returns-in_err-bytes : goal.returns-in_err-bytes
returns-in_err-bytes g c =
    let p = err_from_is_err_and c.from_residual.result c.from_residual.ensures.1 in
    rw (p.1, p.2) (undumped c.in_err-bytes.ensures.err (Keeps-refl _))

pub returns-in_err-space : goal.returns-in_err-space
returns-in_err-space g c =
    let p = err_from_is_err_and c.from_residual-in_err-space.result c.from_residual-in_err-space.ensures.1 in
    rw (p.1, p.2) (no_dump_pages (Keeps-refl _))

pub returns : goal.returns
returns g c =
    let gives = g.P.Opener.gives c.args.opener.now in
    let file = g.P.Bytes.Space.view c.in_ok-space.space in
    let after = g.P.Bytes.Space.view c.dump-dumped.new.space in
    let opened : gives.is_file c.args.path.now None file = rw c.in_ok-space.ensures c.in_ok-bytes.ensures.ok in
    rw c.end_dump.ensures
    (dumps {file = file} opened
    (dump_ends (HasRisen file.failures after.failures) (gives.is_failing c.args.path.now) c.dump-dumped.result
    (g.met.P.Opener.failing c.args.opener.now c.args.path.now None c.in_ok-space.space c.dump-dumped.new.space 0 0
    opened (keeps_cut 0 file after c.dump-dumped.ensures.keeps))
    c.dump-dumped.ensures.device)
    (dump_holds (λ bytes. dump_text bytes c.args.range.from c.args.range.size c.args.range.ruler) file
    c.dump-dumped.result _ _ c.dump-dumped.ensures.ok c.dump-dumped.ensures.err))
