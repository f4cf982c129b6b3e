use Rattle.std.proofs.Common.{◌≡◌, ◌≤◌, ◌-◌, vec_len, map}
use Rattle.pickle_syntax.specs.Tokens.{tokens_of}
use Rattle.pickle_tree.specs.Tree.{declaration_tree}
use Rattle.pickle_tree.specs.Limits.{standard}
use Rattle.pickle_syntax.specs.ReadForms.{declarations_at, pickle_at}
use Rattle.pickle_syntax.proofs.DeclarationSteps.{with_earlier}
use Rattle.pickle_syntax.proofs.parser.pickle.pickle_at.Given as goal

abbrev pub invariant-declarations : goal.invariant-declarations
invariant-declarations l = record {
  same : with_earlier (map declaration_tree l.declarations.items)
      (declarations_at standard (4096 - vec_len l.declarations) (tokens_of l.rest))
      ≡ pickle_at standard (tokens_of l.tokens);
  few : vec_len l.declarations ≤ 4096;
}

abbrev pub decreases-declarations : goal.decreases-declarations
decreases-declarations l = 4096 - vec_len l.declarations
