use Rattle.std.proofs.Common.{◌≡◌, ◌+◌, List, [], ◌∷◌, ◌++◌, rules, sym, subst, arith}
use Rattle.first_numbers.specs.declared.sieve.Sieve.{Sieve}
use Rattle.searches.specs.Round.{IsSieveOf}
use Rattle.searches.specs.declared.sought.Sought.{Sought}
use Rattle.searches.proofs.Sieves.{AreMade, all_made, none_made, one_made}
use Rattle.searches.proofs.types.new_sieves.Goals as goal

pub loop-done-init : goal.loop-done-init
loop-done-init c =
    let none : c.new-sieves.result.items ≡ [] = search rules in
    record {
      within = omega arith;
      made = λ space.
          subst (λ (all : List Sieve). AreMade c.args.list.now space 0 all) (sym none)
          (none_made c.args.list.now space);
    }

pub loop-done-preserved : goal.loop-done-preserved
loop-done-preserved c =
    let more : c.push.new.self.items ≡ c.loop-done.sieves.items ++ c.in-Ok.sieve ∷ [] = search rules in
    record {
      within = omega (arith, c.loop-done-test.true);
      made = λ space.
          subst (λ (all : List Sieve). AreMade c.args.list.now space (c.loop-done.done + 1) all) (sym more)
          (one_made c.args.list.now space c.loop-done.done c.loop-done.sieves.items c.index-list-done.result
          c.in-Ok.sieve (c.loop-done.invariant.made space) c.loop-done-test.true
          (subst (λ (sought : Sought). IsSieveOf sought space c.in-Ok.sieve) c.index-list-done.is
          (c.in-Ok.ensures space)));
    }

pub returns : goal.returns
returns c = λ space.
    all_made c.args.list.now space c.loop-done.done c.loop-done.sieves.items
    (omega (arith, c.loop-done.invariant.within, c.loop-done-test.false)) (c.loop-done.invariant.made space)
