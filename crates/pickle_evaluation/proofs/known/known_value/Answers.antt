use Rattle.std.proofs.Common.{◌≡◌, ℕ, ◌-◌, ◌^◌, List, Err, arith}
use Rattle.pickle_types.specs.declared.node.Node.{Node}
use Rattle.pickle_evaluation.specs.declared.operand.Unvalued.{Unvalued}
use Rattle.pickle_evaluation.specs.declared.operand.Unvalued.TheVariants.{Fault, Limit}
use Rattle.pickle_meaning.specs.Evaluation.{Evaluation}
use Rattle.pickle_evaluation.specs.Operands.{Evaluated}
use Rattle.pickle_evaluation.specs.Known.{IsUnknown, faulty, endless}
use Rattle.pickle_evaluation.proofs.known.known_value.Goals as goal

unknown_by : (nodes : List Node) (limit before after : ℕ) (why : Unvalued) (e : Evaluation) → limit ≡ 2 ^ 64 - 1 →
    before ≡ 0 → Evaluated nodes limit before after (Err why) e → IsUnknown e
unknown_by nodes limit before after (Fault kind) e l b h = faulty kind h.0
unknown_by nodes limit before after Limit e l b h = endless (omega (arith, h.1, l, b))

pub returns-in-Err : goal.returns-in-Err
returns-in-Err c = unknown_by c.args.table.now _ _ _ c.in-Err.field-0 _ c.new-meter.ensures.limit
    c.new-meter.ensures.steps (c.in-Err.ensures.is c.args.table.now)
