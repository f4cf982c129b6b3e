use Rattle.std.proofs.Common.{Ok, rules, sym}
use Rattle.jobs.specs.Due.{DueRun, Holds}
use Rattle.jobs.proofs.Holding.{run_holds}
use Rattle.part_lists.specs.PartRuns.{PartsAs}
use Rattle.poke_batch.specs.Runs.{ChecksAs}
use Rattle.run_parts.specs.TypesText.{TypesAs}
use Rattle.jobs.proofs.Explained.{check_explains, types_explain}
use Rattle.jobs.proofs.pickles.answer.Goals as goal

pub returns-in-Check-Text-clause-holds : goal.returns-in-Check-Text-clause-holds
returns-in-Check-Text-clause-holds g c =
    let pickle = c.args.pickle.now.bytes.items in
    let out = g.O.Write.contents c.args.out.now in
    let out' = g.O.Write.contents c.check_outcome-outcome.new.out in
    let holds : Holds (DueRun (ChecksAs pickle)) out out' (Ok c.end_in_words.result) =
    rw c.end_in_words.ensures.is
    (run_holds (ChecksAs pickle) c.check_outcome-outcome.result out out'
    (rw (sym c.deref-in-Check-Text.ensures.value) c.check_outcome-outcome.ensures)) in
    search rules

pub returns-in-Parts-clause-holds : goal.returns-in-Parts-clause-holds
returns-in-Parts-clause-holds g c =
    let pickle = c.args.pickle.now.bytes.items in
    let out = g.O.Write.contents c.args.out.now in
    let out' = g.O.Write.contents c.parts_outcome-outcome.new.out in
    let is = PartsAs pickle c.in-Parts.name.now c.in-Parts.depth c.in-Parts.form in
    let holds : Holds (DueRun is) out out' (Ok c.end_in_words-in-Parts.result) =
    rw c.end_in_words-in-Parts.ensures.is
    (run_holds is c.parts_outcome-outcome.result out out'
    (rw (sym c.deref-in-Parts.ensures.value) c.parts_outcome-outcome.ensures)) in
    search rules

pub returns-in-Types-Text-clause-holds : goal.returns-in-Types-Text-clause-holds
returns-in-Types-Text-clause-holds g c =
    let pickle = c.args.pickle.now.bytes.items in
    let out = g.O.Write.contents c.args.out.now in
    let out' = g.O.Write.contents c.types_outcome-outcome.new.out in
    let holds : Holds (DueRun (TypesAs pickle)) out out' (Ok c.end_in_words-in-Types-Text.result) =
    rw c.end_in_words-in-Types-Text.ensures.is
    (run_holds (TypesAs pickle) c.types_outcome-outcome.result out out'
    (rw (sym c.deref-in-Types-Text.ensures.value) c.types_outcome-outcome.ensures)) in
    search rules

pub returns-in-Check-Json-clause-says : goal.returns-in-Check-Json-clause-says
returns-in-Check-Json-clause-says g c =
    check_explains _ _ _ c.args.why.now.asked c.deref.result.now _ _ (Ok c.check_in_json.result) c.check_in_json.ensures

pub returns-in-Types-Json-clause-says : goal.returns-in-Types-Json-clause-says
returns-in-Types-Json-clause-says g c =
    types_explain _ _ _ c.args.why.now.asked c.deref-in-Types-Json.result.now _ _ (Ok c.types_in_json.result)
    c.types_in_json.ensures

pub returns-in-Check-Text-clause-says : goal.returns-in-Check-Text-clause-says
returns-in-Check-Text-clause-says g c = rw c.warn.ensures.asked at c.end_in_words.ensures.says
