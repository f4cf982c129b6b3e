use Rattle.value_text.specs.TypedValue.{nodes_in, char_node_in, types_in, mapped_in}
use Rattle.value_text.proofs.CharTexts.{untyped_is}
use Rattle.value_text.proofs.typed.Typed.untyped.Goals as goal

pub returns : goal.returns
returns c = untyped_is (nodes_in (types_in c.args.self.now)) (char_node_in (types_in c.args.self.now))
    (mapped_in c.args.self.now)
