use Rattle.std.proofs.Common.{rules, ◌≡◌, ◌∙◌, false, Ok, Err, sym, subst}
use Rattle.std.proofs.lemmas.Result.{err_from_is_err_and}
use Rattle.value_notes.specs.declared.fault.Stop.{Stop}
use Rattle.value_notes.specs.Blanks.{is_end}
use Rattle.value_notes.specs.Entries.{entry, entry_at, comma_at}
use Rattle.value_notes.proofs.EntrySteps.{goes_on, stops_on, stops_at_comma, same_stop}
use Rattle.value_notes.proofs.entries.read_entries.Goals as goal

pub returns-in_err-rest-clause-stop : goal.returns-in_err-rest-clause-stop
returns-in_err-rest-clause-stop c = λ stop e.
    let p = err_from_is_err_and c.from_residual-in_err-rest.result c.from_residual-in_err-rest.ensures.1 in
    let is : entry_at c.args.subject c.entries.rest.now ≡ Ok (entry c.in_ok-one.one, c.in_ok-one.after.now) =
    search rules in
    let end : is_end c.in_ok-one.after.now ≡ false = sym c.is_end.ensures ∙ c.if-is_end.false in
    let same = same_stop _ p.0 c.in_err-rest.field-0.0 stop p.1 p.2 e in
    let comma : comma_at c.in_ok-one.after.now ≡ Err stop.rest.now =
    subst (λ (s : Stop). comma_at c.in_ok-one.after.now ≡ Err s.rest.now) same c.in_err-rest.ensures.value in
    stops_at_comma c.args.subject c.args.text.now c.in_ok-one.one c.entries.rest.now c.in_ok-one.after.now stop.rest.now
    c.entries.invariant.stops is end comma

pub entries-preserved : goal.entries-preserved
entries-preserved c =
    let is : entry_at c.args.subject c.entries.rest.now ≡ Ok (entry c.in_ok-one.one, c.in_ok-one.after.now) =
    search rules in
    let end : is_end c.in_ok-one.after.now ≡ false = sym c.is_end.ensures ∙ c.if-is_end.false in
    let comma : comma_at c.in_ok-one.after.now ≡ Ok c.in_ok-rest.rest.now = search rules in
    record {
      goes = goes_on c.args.subject c.args.text.now c.entries.named.items c.push.new.self.items c.in_ok-one.one
          c.entries.rest.now c.in_ok-one.after.now c.in_ok-rest.rest.now c.entries.invariant.goes is end comma
          c.in_ok-push.ensures.items;
      stops = stops_on c.args.subject c.args.text.now c.in_ok-one.one c.entries.rest.now c.in_ok-one.after.now
          c.in_ok-rest.rest.now c.entries.invariant.stops is end comma;
    }
