use Rattle.std.proofs.Common.{◌≡◌, ◌-◌, length, sym, arith}
use Rattle.pickle_types.proofs.Places.{taken_both}
use Rattle.pickle_types.proofs.scopes.Scopes.truncate.Goals as goal

pub returns : goal.returns
returns c =
    let few = c.self.inside.few.items in
    let left : c.saturating_sub.result ≡ c.args.count - length few = omega arith in
    rw (← c.self.view_is, c.truncate.ensures, c.truncate-2.ensures.items, left)
    (sym (taken_both few c.self.inside.many c.args.count))
