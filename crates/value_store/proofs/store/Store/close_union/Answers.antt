use Rattle.std.proofs.Common.{◌≡◌, ◌+◌, ◌-◌, subst, arith}
use Rattle.std.specs.Prelude.{OnErr}
use Rattle.value_store.specs.Closed.{union_label}
use Rattle.value_store.specs.Keeping.{CannotClose}
use Rattle.value_store.proofs.store.Store.close_union.Goals as goal

pub returns-clause-full : goal.returns-clause-full
returns-clause-full c =
    let end : c.args.start + (c.args.end - c.args.start) ≡ c.args.end = omega (arith, c.requires) in
    subst (λ n. OnErr c.close.result
    (CannotClose c.args.self.now (λ names. (union_label names c.args.of c.args.taken)) c.args.start n))
    end c.close.ensures.full
