use Rattle.std.proofs.Common.{◌≡◌, ◌∙◌, ◌++◌, ◌∷◌, [], false, length, ap, sym, append_assoc, append-nil, arith}
use Rattle.std.specs.Vec.Iter.{into_iter_items}
use Rattle.command_line.specs.Patterns.{is_exact, parts_of}
use Rattle.command_line.proofs.PatternTexts.{no_exact_path, exact_more, nothing_left}
use Rattle.command_line.proofs.pattern.exact_path.Goals as goal

pub returns-in-Elements : goal.returns-in-Elements
returns-in-Elements c =
    let at = c.loop-step in
    let next : into_iter_items at.step-iterator ≡ c.in-Some.step ∷ into_iter_items c.next.new.self =
    c.in-Some.ensures.steps.0 in
    let all = ap (λ items. at.yielded ++ items) (sym next) ∙ at.invariant.all
    ∙ c.into_iter-step-iterator.ensures.into_iter_gives.0 in
    let other : is_exact c.in-Some.step ≡ false = ap is_exact c.in-Elements.is in
    no_exact_path at.yielded (into_iter_items c.next.new.self) c.args.pattern.steps.items c.in-Some.step all other

pub returns-in-Fields : goal.returns-in-Fields
returns-in-Fields c =
    let at = c.loop-step in
    let next : into_iter_items at.step-iterator ≡ c.in-Some.step ∷ into_iter_items c.next.new.self =
    c.in-Some.ensures.steps.0 in
    let all = ap (λ items. at.yielded ++ items) (sym next) ∙ at.invariant.all
    ∙ c.into_iter-step-iterator.ensures.into_iter_gives.0 in
    let other : is_exact c.in-Some.step ≡ false = ap is_exact c.in-Fields.is in
    no_exact_path at.yielded (into_iter_items c.next.new.self) c.args.pattern.steps.items c.in-Some.step all other

pub loop-step-preserved : goal.loop-step-preserved
loop-step-preserved c =
    let at = c.loop-step in
    let next : into_iter_items at.step-iterator ≡ c.in-Some.step ∷ into_iter_items c.next.new.self =
    c.in-Some.ensures.steps.0 in
    record {
      all = append_assoc at.yielded (c.in-Some.step ∷ []) (into_iter_items c.next.new.self)
          ∙ ap (λ items. at.yielded ++ items) (sym next) ∙ at.invariant.all;
      so_far = exact_more at.steps.items c.push.new.self.items c.in-Exact.step at.yielded at.invariant.so_far
          c.in_ok-push-in-Exact.ensures.items
          ∙ ap (λ step. parts_of (at.yielded ++ step ∷ [])) (sym c.in-Exact.is);
      left =
          let was = at.invariant.left in
          let gone = c.in-Some.ensures.steps.1 in
          let short = ap length next in
          omega arith;
    }

pub returns : goal.returns
returns c =
    let at = c.loop-step in
    let none = c.in-None.ensures.steps in
    let empty : into_iter_items at.step-iterator ≡ [] = nothing_left _ (sym at.invariant.left ∙ none.0) in
    let all =
    sym (append-nil at.yielded) ∙ rw empty at at.invariant.all ∙ c.into_iter-step-iterator.ensures.into_iter_gives.0 in
    at.invariant.so_far ∙ ap parts_of all
