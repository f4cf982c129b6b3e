use Rattle.std.proofs.Common.{◌≡◌, ◌-◌, ◌<◌, ◌∙◌, sym, arith, vec_len, map}
use Rattle.pickle_syntax.specs.Tokens.{tokens_of}
use Rattle.pickle_tree.specs.Tree.{declaration_tree}
use Rattle.pickle_tree.specs.Limits.{standard}
use Rattle.pickle_syntax.proofs.DeclarationSteps.{declarations_push, declarations_done, declarations_step}
use Rattle.pickle_syntax.proofs.Parsed.{read_within, read_few}
use Rattle.pickle_syntax.proofs.parser.pickle.pickle_at.Goals as goal

pub declarations-preserved : goal.declarations-preserved
declarations-preserved c =
    let len = c.len.ensures in
    let pushed = c.in_ok-push.ensures.len in
    let few : vec_len c.declarations.declarations < 4096 = omega arith in
    let num : 4096 - vec_len c.push.new.self ≡ 4096 - vec_len c.declarations.declarations - 1 = omega arith in
    let step = declarations_step standard (map declaration_tree c.declarations.declarations.items)
    (4096 - vec_len c.declarations.declarations) (tokens_of c.declarations.rest.now)
    (declaration_tree c.in_ok-declaration.declaration) (tokens_of c.in_ok-declaration.after.now) (omega arith)
    (sym c.is_over.ensures ∙ c.if-is_over.false) c.in_ok-declaration.ensures in
    record {
      same = rw (
        c.in_ok-push.ensures.items,
        declarations_push c.declarations.declarations.items c.in_ok-declaration.declaration,
        num,
        c.onward-rest.ensures,
      ) (step ∙ c.declarations.invariant.same);
      few = omega arith;
    }

-- no token is left, so the declarations are all that is read
pub invariant_of-result : goal.invariant_of-result
invariant_of-result c =
    let found = c.declarations.declarations in
    let ds = map declaration_tree found.items in
    let done = declarations_done standard ds (4096 - vec_len found) (tokens_of c.declarations.rest.now)
    (sym c.is_over.ensures ∙ c.if-is_over.true) in
    let read = sym c.declarations.invariant.same ∙ done in
    record {
      within = read_within (tokens_of c.args.tokens.now) ds read;
      few = read_few c.args.tokens.now ds c.requires read;
    }
