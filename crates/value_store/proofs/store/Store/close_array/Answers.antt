use Rattle.std.proofs.Common.{◌≡◌, ◌+◌, ◌-◌, subst, arith}
use Rattle.std.specs.Prelude.{OnErr}
use Rattle.pickle_meaning.specs.Values.{ArrayLabel}
use Rattle.value_store.specs.Keeping.{CannotClose}
use Rattle.value_store.proofs.store.Store.close_array.Goals as goal

pub returns-clause-full : goal.returns-clause-full
returns-clause-full c =
    let end : c.args.start + (c.args.end - c.args.start) ≡ c.args.end = omega (arith, c.requires.order) in
    subst (λ n. OnErr c.close.result (CannotClose c.args.self.now (λ names. ArrayLabel) c.args.start n)) end
    c.close.ensures.full
