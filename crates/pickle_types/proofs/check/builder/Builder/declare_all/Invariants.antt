use Rattle.std.proofs.Common.{◌≡◌, [], ◌+◌, map, drop}
use Rattle.pickle_tree.specs.Limits.{standard, pickle_form_count, AreDeclarationsWithin}
use Rattle.pickle_tree.specs.Tree.{declaration_tree}
use Rattle.pickle_types.specs.Meaning.{declared}
use Rattle.pickle_types.specs.Wrong.{first_wrong}
use Rattle.pickle_types.specs.Building.{known_types, HasRoom, Continues}
use Rattle.pickle_types.proofs.BuiltNodes.{DeclaredSoFar}
use Rattle.pickle_types.proofs.check.builder.Builder.declare_all.Given as goal

abbrev pub invariant-loop-i : goal.invariant-loop-i
invariant-loop-i l = record {
  ready : l.self.seen ≡ [];
  within : AreDeclarationsWithin standard (map declaration_tree (drop l.i l.declarations));
  space : HasRoom l.self (pickle_form_count (map declaration_tree (drop l.i l.declarations)));
  on : Continues l.initial.self l.self;
  nodes : DeclaredSoFar l.self (map declaration_tree l.declarations)
      (map declaration_tree (drop l.i l.declarations));
  rest : declared (known_types l.initial.self) (map declaration_tree l.declarations)
      ≡ declared (known_types l.self) (map declaration_tree (drop l.i l.declarations));
  place : first_wrong 1 (known_types l.initial.self) (map declaration_tree l.declarations)
      ≡ first_wrong (l.i + 1) (known_types l.self) (map declaration_tree (drop l.i l.declarations));
}
