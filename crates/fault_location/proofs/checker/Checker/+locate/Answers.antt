use Rattle.std.proofs.Common.{◌∙◌}
use Rattle.std.proofs.lemmas.Result.{err_from_is_err_and}
use Rattle.fault_location.proofs.Searching.{kept_ends, in_turn, in_number}
use Rattle.fault_location.proofs.checker.Checker.+locate.Goals as goal

pub returns-in_err-find_site-clause-spends : goal.returns-in_err-find_site-clause-spends
returns-in_err-find_site-clause-spends g t c =
    let p = err_from_is_err_and c.from_residual.result c.from_residual.ensures.1 in
    λ bytes known. rw (p.1, p.2)
    (c.in_err-find_site.ensures.spends bytes known)

pub returns-in-Itself-clause-spends : goal.returns-in-Itself-clause-spends
returns-in-Itself-clause-spends g t c =
    λ bytes known. rw c.in-Itself.is at (c.in_ok-find_site.ensures.spends bytes known)

pub returns-in-Beside-clause-spends : goal.returns-in-Beside-clause-spends
returns-in-Beside-clause-spends g t c =
    λ bytes known.
    let found = rw c.in-Beside.is at (c.in_ok-find_site.ensures.spends bytes known) in
    kept_ends _ c.args.self.now.meter.now.limit c.args.self.now.meter.now.steps c.find_site.new.self.meter.now.steps _
    c.keep.result c.keep.ensures.memory found

pub returns-in_ok-keep-in-Inside-clause-spends : goal.returns-in_ok-keep-in-Inside-clause-spends
returns-in_ok-keep-in-Inside-clause-spends g t c =
    λ bytes known.
    let leaves = c.in_ok-find_site.ensures.frame.left in
    let found = rw c.in-Inside.is at (c.in_ok-find_site.ensures.spends bytes known) in
    in_turn (g.S.Space.view c.args.space.now) (g.S.Space.view c.find_site.new.space) (g.S.Space.view c.locate.new.space)
    c.args.self.now.meter.now c.find_site.new.self.meter.now c.locate.new.self.meter.now _ _ c.locate.result
    leaves.failures c.locate.ensures.frame.left.failures leaves.limit found
    (rw c.in_ok-find_site.ensures.frame.lent.nodes at (c.locate.ensures.spends bytes (leaves.bytes ∙ known)))

pub returns-in-Number-clause-spends : goal.returns-in-Number-clause-spends
returns-in-Number-clause-spends g t c =
    λ bytes known.
    let leaves = c.in_ok-find_site.ensures.frame.left in
    let found = rw c.in-Number.is at (c.in_ok-find_site.ensures.spends bytes known) in
    in_number _ c.args.self.now.meter.now.limit c.find_site.new.self.meter.now.limit c.args.self.now.meter.now.steps
    c.find_site.new.self.meter.now.steps c.locate_in_number.new.self.meter.now.steps _ _ c.locate_in_number.result
    leaves.limit found (rw c.in_ok-find_site.ensures.frame.lent.nodes at c.locate_in_number.ensures.spends)
