-- `write_due`: a value with bits is omitted or written.
use Rattle.std.proofs.Common.{◌≡◌, ◌∙◌, ◌<◌, [], ◌∷◌, true, sym, arith}
use Rattle.std.proofs.KnownBytes.{Keeps-refl}
use Rattle.std.proofs.lemmas.Result.{err_from_is_err_and}
use Rattle.pickle_meaning.specs.Values.{end_of}
use Rattle.records.specs.Next.{is_empty, is_unput, omits, puts}
use Rattle.records.specs.Records.{is_written}
use Rattle.value_store.specs.Refs.{value_shown}
use Rattle.records.proofs.next.write_due.Goals as goal

pub returns-then-end-run-clause-err : goal.returns-then-end-run-clause-err
returns-then-end-run-clause-err g c =
    let still : end_of (value_shown c.args.value) ≡ c.args.run.now.ask.now.start =
    omega (arith, c.start.ensures, c.size.ensures, c.requires.forward, c.if-end-run.true) in
    rw c.fault_at.ensures (is_empty still (Keeps-refl _))

pub returns-then-not-is_written-clause-ok : goal.returns-then-not-is_written-clause-ok
returns-then-not-is_written-clause-ok g c = record {
  is_end = omega (arith, c.start.ensures, c.size.ensures, c.requires.forward);
  moves = omega (arith, c.start.ensures, c.size.ensures, c.requires.starts, c.requires.forward, c.if-end-run.false);
  more = [];
  due = omits (sym c.is_written.ensures ∙ c.if-not-is_written.true) (Keeps-refl _);
}

pub returns-in_err-write_value-clause-err : goal.returns-in_err-write_value-clause-err
returns-in_err-write_value-clause-err g c =
    let p = err_from_is_err_and c.from_residual.result c.from_residual.ensures.1 in
    let moves : c.args.run.now.ask.now.start < end_of (value_shown c.args.value) =
    omega (arith, c.start.ensures, c.size.ensures, c.requires.starts, c.requires.forward, c.if-end-run.false) in
    let due : is_written c.args.listing c.args.before ≡ true = sym c.is_written.ensures ∙ c.if-not-is_written.false in
    rw (p.1, p.2) (is_unput moves due c.in_err-write_value.ensures.err)

pub returns-clause-ok : goal.returns-clause-ok
returns-clause-ok g c =
    let put = c.in_ok-write_value.ensures.ok in
    record {
      is_end = omega (arith, c.start.ensures, c.size.ensures, c.requires.forward);
      moves = omega (arith, c.start.ensures, c.size.ensures, c.requires.starts, c.requires.forward, c.if-end-run.false);
      more = put.text ∷ [];
      due = puts (sym c.is_written.ensures ∙ c.if-not-is_written.false) put;
    }
