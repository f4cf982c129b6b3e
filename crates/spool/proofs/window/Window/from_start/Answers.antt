use Rattle.std.proofs.Common.{◌∙◌, ap}
use Rattle.spool.proofs.Windows.{cut_seen}
use Rattle.spool.specs.Window.{cut_at, end_of_window}
use Rattle.spool.proofs.window.Window.from_start.Goals as goal

pub returns : goal.returns
returns g c =
    let view = g.S.Space.view c.args.whole in
    c.new.ensures
    ∙ ap (λ end. cut_at end view)
    (c.window_end-end.ensures ∙ ap (end_of_window c.args.start c.args.count) c.len.ensures)
    ∙ cut_seen c.args.count c.args.start view (g.met.S.Space.whole c.args.whole)
