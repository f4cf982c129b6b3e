use Rattle.std.proofs.Common.{◌+◌, List, map, drop, sym, ap, ◌∙◌, arith}
use Rattle.std.proofs.lemmas.List.{drop_all}
use Rattle.pickle_tree.specs.declared.tree.Declaration.{Declaration}
use Rattle.pickle_tree.specs.Tree.{declaration_tree}
use Rattle.pickle_types.specs.Names.{Names}
use Rattle.pickle_types.specs.Meaning.{declared}
use Rattle.pickle_types.specs.Wrong.{first_wrong}
use Rattle.pickle_types.specs.Building.{known_types}
use Rattle.pickle_types.proofs.Buildings.{drop_item}
use Rattle.pickle_types.proofs.BuiltNodes.{continues_on, so_far_next, so_far_last}
use Rattle.pickle_types.proofs.Declarations.{declared_next, declared_fails, declared_end, fails_along}
use Rattle.pickle_types.proofs.WrongPlaces.{wrong_next, wrong_here, tells_along}
use Rattle.pickle_types.proofs.check.builder.Builder.declare_all.Goals as goal

pub returns-in-Err-clause-err : goal.returns-in-Err-clause-err
returns-in-Err-clause-err c =
    let b = c.loop-i.self in
    let e = drop_item c.args.declarations.now c.loop-i.i c.index-declarations-i.result (omega arith)
    c.index-declarations-i.is in
    rw c.fault_in.ensures.kind (fails_along _ _ _
    (c.loop-i.invariant.rest ∙ ap (λ (l : List Declaration). declared (known_types b) (map declaration_tree l)) e)
    (declared_fails (known_types b) (declaration_tree c.index-declarations-i.result) _ _ c.in-Err.ensures.adds))

pub returns-in-Err-clause-place : goal.returns-in-Err-clause-place
returns-in-Err-clause-place c =
    let b = c.loop-i.self in
    let e = drop_item c.args.declarations.now c.loop-i.i c.index-declarations-i.result (omega arith)
    c.index-declarations-i.is in
    rw c.fault_in.ensures.kind (tells_along _ _ _ _ (c.loop-i.invariant.place
    ∙ ap (λ (l : List Declaration). first_wrong (c.loop-i.i + 1) (known_types b) (map declaration_tree l)) e)
    (wrong_here _ (c.loop-i.i + 1) (known_types b) (declaration_tree c.index-declarations-i.result) _ _
    c.in-Err.ensures.adds c.fault_in.ensures.place))

pub declare-requires-clause-within : goal.declare-requires-clause-within
declare-requires-clause-within c =
    let e = drop_item c.args.declarations.now c.loop-i.i c.index-declarations-i.result (omega arith)
    c.index-declarations-i.is in
    (rw e at c.loop-i.invariant.within).0

pub declare-requires-clause-space : goal.declare-requires-clause-space
declare-requires-clause-space c =
    let e = drop_item c.args.declarations.now c.loop-i.i c.index-declarations-i.result (omega arith)
    c.index-declarations-i.is in
    let space = rw e at c.loop-i.invariant.space in
    omega arith

pub loop-i-preserved : goal.loop-i-preserved
loop-i-preserved c =
    let b = c.loop-i.self in
    let e = drop_item c.args.declarations.now c.loop-i.i c.index-declarations-i.result (omega arith)
    c.index-declarations-i.is in
    let h = c.in-Ok.ensures.adds in
    let rest = map declaration_tree (drop (c.loop-i.i + 1) c.args.declarations.now) in
    let space = rw e at c.loop-i.invariant.space in
    let added = c.in-Ok.ensures.few in
    record {
      ready = h.3;
      on = continues_on c.args.self.now b c.declare.new.self c.loop-i.invariant.on c.in-Ok.ensures.node.on;
      nodes = so_far_next b c.declare.new.self (map declaration_tree c.args.declarations.now)
          (declaration_tree c.index-declarations-i.result) rest c.in-Ok.ensures.node
          (λ n on r. c.loop-i.invariant.nodes n on
          (rw (ap (λ (l : List Declaration). map declaration_tree l) e) r));
      within = (rw e at c.loop-i.invariant.within).2;
      space = omega arith;
      rest = c.loop-i.invariant.rest
          ∙ ap (λ (l : List Declaration). declared (known_types b) (map declaration_tree l)) e
          ∙ declared_next (known_types b) (declaration_tree c.index-declarations-i.result) rest h.0 h.1
          ∙ ap (λ (names : Names). declared names rest) (sym h.2);
      place = c.loop-i.invariant.place
          ∙ ap (λ (l : List Declaration). first_wrong (c.loop-i.i + 1) (known_types b) (map declaration_tree l)) e
          ∙ wrong_next (c.loop-i.i + 1) (known_types b) (declaration_tree c.index-declarations-i.result) rest h.0 h.1
          ∙ ap (λ (names : Names). first_wrong (c.loop-i.i + 1 + 1) names rest) (sym h.2);
    }

pub returns-clause-ok : goal.returns-clause-ok
returns-clause-ok c =
    let e = drop_all c.loop-i.i c.args.declarations.now (omega arith) in
    c.loop-i.invariant.rest
    ∙ ap (λ (l : List Declaration). declared (known_types c.loop-i.self) (map declaration_tree l)) e
    ∙ declared_end (known_types c.loop-i.self)

pub returns-clause-nodes : goal.returns-clause-nodes
returns-clause-nodes c =
    let e = drop_all c.loop-i.i c.args.declarations.now (omega arith) in
    so_far_last c.args.self.now c.loop-i.self (map declaration_tree c.args.declarations.now) _
    (ap (λ (l : List Declaration). map declaration_tree l) e) c.loop-i.invariant.on c.loop-i.invariant.nodes
