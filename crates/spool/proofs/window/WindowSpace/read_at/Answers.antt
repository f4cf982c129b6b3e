use Rattle.std.proofs.Common.{length}
use Rattle.std.proofs.lemmas.Result.{on_ok_weaker}
use Rattle.spool.proofs.Windows.{gives_cut}
use Rattle.spool.proofs.window.WindowSpace.read_at.Goals as goal

pub returns-clause-bytes : goal.returns-clause-bytes
returns-clause-bytes g c =
    let view = g.S.Space.view c.args.self.now.whole in
    on_ok_weaker c.read_at.result
    (gives_cut c.args.self.now.end view c.args.at (length c.args.into.now) c.read_at.new.into c.requires)
    c.read_at.ensures.bytes
