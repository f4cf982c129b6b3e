use Rattle.std.proofs.Common.{◌≡◌, ◌∙◌, sym, false}
use Rattle.value_text.specs.TypedValue.{is_of_chars}
use Rattle.value_text.specs.TypedParts.{whole_of}
use Rattle.value_text.proofs.WholeParts.{whole_integers}
use Rattle.value_text.proofs.typed.parts.Parts.row_type.Goals as goal

pub returns : goal.returns
returns c =
    let t = whole_of c.args.self.now in
    let other : is_of_chars t ≡ false =
    sym c.are_chars.ensures ∙ c.if-are_chars.false in
    whole_integers t c.row_type.result other c.row_type.ensures
