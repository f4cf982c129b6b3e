use Rattle.std.proofs.Common.{◌≡◌, ◌+◌, List, [], ◌∷◌, ◌++◌, rules, sym, subst, arith}
use Rattle.pickle_map.specs.declared.mapper.findings.Findings.{Findings}
use Rattle.searches.specs.Round.{AreNew}
use Rattle.searches.proofs.Stocks.{one_new}
use Rattle.searches.proofs.types.new_findings.Goals as goal

pub loop-done-preserved : goal.loop-done-preserved
loop-done-preserved c =
    let more : c.push.new.self.items ≡ c.loop-done.all.items ++ c.new.result ∷ [] = search rules in
    record {
      within = omega (arith, c.loop-done-test.true);
      are = subst (λ (all : List Findings). AreNew (c.loop-done.done + 1) all) (sym more)
          (one_new c.loop-done.done c.loop-done.all.items c.new.result c.loop-done.invariant.are c.new.ensures);
    }
