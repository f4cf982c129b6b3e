use Rattle.std.proofs.Common.{◌∙◌, sym, ap, refl, Some}
use Rattle.std.specs.Option.{option_map}
use Rattle.value_text.specs.CharTexts.{with_texts}
use Rattle.value_text.specs.TypedValue.{nodes_in, char_node_in, types_in, part_node_in}
use Rattle.value_text.specs.TypedParts.{whole_of}
use Rattle.value_text.proofs.WholeParts.{part_shown, whole_at}
use Rattle.value_text.proofs.typed.parts.Parts.get.Goals as goal

pub returns-in-Some-clause-member : goal.returns-in-Some-clause-member
returns-in-Some-clause-member c =
    let t = whole_of c.args.self.now in
    let i = c.args.place in
    ap Some (part_shown t (record { value = c.in-Some.part; types = c.args.self.now.types; node = c.part_node.result })
    c.in-Some.part i refl refl c.part_node.ensures)
    ∙ ap (option_map (with_texts (nodes_in (types_in t)) (char_node_in (types_in t)) (part_node_in t i)))
    c.in-Some.ensures.member
    ∙ sym (whole_at t i c.requires)

pub returns-in-None-clause-member : goal.returns-in-None-clause-member
returns-in-None-clause-member c =
    let t = whole_of c.args.self.now in
    let i = c.args.place in
    ap (option_map (with_texts (nodes_in (types_in t)) (char_node_in (types_in t)) (part_node_in t i)))
    c.in-None.ensures.member
    ∙ sym (whole_at t i c.requires)
