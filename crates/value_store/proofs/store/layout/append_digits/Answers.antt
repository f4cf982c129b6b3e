use Rattle.std.proofs.Common.{◌≡◌, ◌++◌, ◌∙◌, ap, arith}
use mir.Syntax.{w128}
use Rattle.std.proofs.lemmas.Int.{to_z-of_z}
use Rattle.pickle_meaning.specs.Arithmetic.{modulo}
use Rattle.value_store.specs.Packed.{bytes_for, number_bytes}
use Rattle.value_store.proofs.Packed.{length-number_bytes}
use Rattle.value_store.proofs.store.layout.append_digits.Goals as goal

pub append_number-requires-clause-room : goal.append_number-requires-clause-room
append_number-requires-clause-room c =
    let w = c.args.number_type.width in
    omega (arith, c.requires.room, length-number_bytes (bytes_for w) (modulo w c.args.number))

pub returns : goal.returns
returns c =
    let w = c.args.number_type.width in
    let is : c.modulo.result ≡ modulo w c.args.number =
    c.modulo.ensures.is ∙ ap (modulo w) (to_z-of_z w128 c.args.number c.ranges.number) in
    c.append_number.ensures ∙ ap (λ d. c.args.row.now.items ++ number_bytes (bytes_for w) d) is
