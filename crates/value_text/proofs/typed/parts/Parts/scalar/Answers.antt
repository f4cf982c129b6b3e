use Rattle.std.proofs.Common.{◌∙◌}
use Rattle.value_text.specs.TypedParts.{whole_of}
use Rattle.value_text.proofs.WholeParts.{whole_scalar}
use Rattle.value_text.proofs.typed.parts.Parts.scalar.Goals as goal

pub returns : goal.returns
returns c = c.scalar.ensures ∙ whole_scalar (whole_of c.args.self.now) c.args.place c.requires
