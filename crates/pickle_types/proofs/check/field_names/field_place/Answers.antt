use Rattle.std.proofs.Common.{List, refl, sym, ap, ◌∙◌, arith}
use Rattle.std.proofs.lemmas.List.{drop_all}
use Rattle.pickle_types.specs.declared.node.Field.{Field}
use Rattle.pickle_types.specs.Table.{name_of}
use Rattle.pickle_types.specs.Built.{names_in}
use Rattle.pickle_types.specs.FieldNames.{place_named}
use Rattle.pickle_types.proofs.Placed.{behind, behind_none, found_behind, passed_behind}
use Rattle.pickle_types.proofs.check.field_names.field_place.Goals as goal

pub loop-i-init : goal.loop-i-init
loop-i-init c = behind_none _

pub returns-then-is_called : goal.returns-then-is_called
returns-then-is_called c =
    sym
    (found_behind (λ (x : Field). name_of x.name) names_in (λ x xs. refl) c.args.word.now c.args.fields.now c.loop-i.i
    c.index-fields-i.result (omega arith) c.index-fields-i.is (sym c.is_called.ensures ∙ c.if-is_called.true))
    ∙ c.loop-i.invariant

pub loop-i-preserved : goal.loop-i-preserved
loop-i-preserved c =
    sym
    (passed_behind (λ (x : Field). name_of x.name) names_in (λ x xs. refl) c.args.word.now c.args.fields.now c.loop-i.i
    c.index-fields-i.result (omega arith) c.index-fields-i.is (sym c.is_called.ensures ∙ c.if-is_called.false))
    ∙ c.loop-i.invariant

pub returns : goal.returns
returns c = sym (ap (λ (xs : List Field). behind c.loop-i.i (place_named c.args.word.now (names_in xs)))
    (drop_all c.loop-i.i c.args.fields.now (omega arith)))
    ∙ c.loop-i.invariant
