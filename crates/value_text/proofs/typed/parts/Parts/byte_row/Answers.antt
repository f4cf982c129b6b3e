use Rattle.std.proofs.Common.{◌≡◌, ◌∙◌, sym, false}
use Rattle.value_text.specs.TypedValue.{is_of_chars}
use Rattle.value_text.specs.TypedParts.{whole_of}
use Rattle.value_text.proofs.WholeParts.{whole_bytes}
use Rattle.value_text.proofs.typed.parts.Parts.byte_row.Goals as goal

pub returns : goal.returns
returns c =
    let t = whole_of c.args.self.now in
    let other : is_of_chars t ≡ false =
    sym c.are_chars.ensures ∙ c.if-are_chars.false in
    whole_bytes t c.byte_row.result other c.byte_row.ensures
