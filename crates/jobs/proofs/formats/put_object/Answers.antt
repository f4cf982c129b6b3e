use Rattle.std.proofs.KnownBytes.{Appends-trans}
use Rattle.jobs.specs.Chosen.{type_among}
use Rattle.jobs.specs.Formats.{object_end, object_start}
use Rattle.pickle_heads.specs.Heads.{inside_of, main_of, options_of, sentence_of}
use Rattle.pickle_heads.specs.Options.{given_or_none}
use Rattle.run_parts.proofs.Sayings.{on_err}
use Rattle.text_output.proofs.Parts.{part_first, part_next}
use Rattle.jobs.proofs.formats.put_object.Goals as goal

pub returns-in_err-put_start-clause-err : goal.returns-in_err-put_start-clause-err
returns-in_err-put_start-clause-err g c =
    let pickle = c.args.pickle.now in
    let said = given_or_none (options_of pickle) in
    let head = c.head_of-head.ensures in
    on_err c.from_residual.result
    (part_first _ _ (object_start c.args.name.now (main_of pickle) said.order said.whole) _
    (rw (head.main, head.order, head.whole, head.options) at c.in_err-put_start.ensures.err))

pub returns-in_err-put_end-clause-err : goal.returns-in_err-put_end-clause-err
returns-in_err-put_end-clause-err g c =
    let pickle = c.args.pickle.now in
    let said = given_or_none (options_of pickle) in
    let head = c.head_of-head.ensures in
    on_err c.from_residual-in_err-put_end.result
    (part_next _ _ _ (object_start c.args.name.now (main_of pickle) said.order said.whole) _
    (rw (head.main, head.order, head.whole, head.options) at c.in_ok-put_start.ensures.ok)
    (rw (c.type_inside.ensures, head.inside, head.sentence) at c.in_err-put_end.ensures.err))

pub returns-clause-ok : goal.returns-clause-ok
returns-clause-ok g c =
    let pickle = c.args.pickle.now in
    let said = given_or_none (options_of pickle) in
    let head = c.head_of-head.ensures in
    Appends-trans _ _ _ (object_start c.args.name.now (main_of pickle) said.order said.whole)
    (object_end (type_among (inside_of pickle)) (sentence_of c.args.name.now pickle))
    (rw (head.main, head.order, head.whole, head.options) at c.in_ok-put_start.ensures.ok)
    (rw (c.type_inside.ensures, head.inside, head.sentence) at c.in_ok-put_end.ensures.ok)
