use Rattle.std.proofs.Common.{◌≡◌, ◌∙◌, sym, false}
use Rattle.value_text.specs.TypedValue.{is_of_chars}
use Rattle.value_text.specs.TypedParts.{whole_of}
use Rattle.value_text.proofs.WholeParts.{whole_count}
use Rattle.value_text.proofs.typed.parts.Parts.len.Goals as goal

pub returns-else-are_chars : goal.returns-else-are_chars
returns-else-are_chars c =
    let t = whole_of c.args.self.now in
    let other : is_of_chars t ≡ false =
    sym c.are_chars.ensures ∙ c.if-are_chars.false in
    c.len.ensures ∙ sym (whole_count t other)
