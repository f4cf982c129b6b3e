use Rattle.std.proofs.Common.{rules, subst}
use Rattle.clap.specs.Matches.{found_of}
use Rattle.command_line.proofs.Printed.{printed_values}
use Rattle.command_line.specs.Found.{AsksSubject, HasTerms}
use Rattle.command_line.specs.Styles.{NamesFaults}
use Rattle.command_line.specs.Words.{NamesMode}
use Rattle.command_line.specs.declared.selection.Choice.TheVariants.{Parts}
use Rattle.command_line.proofs.words.read_map.Goals as goal

-- the subject that is left, which no arm has taken apart
pub request-requires-clause-values : goal.request-requires-clause-values
request-requires-clause-values c =
    let found = found_of c.args.found.now in
    let asked = subst (λ type. AsksSubject found type c.in_ok-subject.subject) c.type_word.ensures
    c.in_ok-subject.ensures in
    rw c.over_file-over.ensures
    (printed_values found c.in_ok-terms.terms _ c.mode_of-mode.result c.faults_of-faults.result
    c.in_ok-raw.raw c.in_ok-file.file
    (search rules)
    (subst (λ style. HasTerms found Parts style c.in_ok-terms.terms) c.plain.ensures c.in_ok-terms.ensures.terms)
    c.in_ok-raw.ensures.ok c.in_ok-raw.ensures.one
    (subst (λ word. NamesMode word c.mode_of-mode.result) c.word.ensures c.mode_of-mode.ensures)
    (subst (λ word. NamesFaults word c.faults_of-faults.result) c.word-2.ensures c.faults_of-faults.ensures)
    c.in_ok-file.ensures)
