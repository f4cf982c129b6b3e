use Rattle.std.proofs.Common.{arith}
use Rattle.std.proofs.lemmas.List.FromFn.{get_or-map-range_with_len}
use Rattle.run_parts.specs.DumpText.{shown}
use Rattle.run_parts.proofs.dump.line.character_of.Goals as goal

pub returns : goal.returns
returns c = get_or-map-range_with_len shown 0 256 c.from.result c.args.byte 0 (omega arith) (omega arith)
