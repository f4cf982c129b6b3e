-- What standard output holds of a dump.
use Rattle.std.proofs.Common.{◌≡◌, ℕ, List, Option, Some, Result, Ok, Err, IfErr, OnOk, OnErr, refl}
use Rattle.bit_space.specs.SpaceView.{SpaceView}
use Rattle.jobs.specs.Due.{Holds}
use Rattle.jobs.specs.Given.{dump_end}
use Rattle.jobs.specs.Jobs.{DueDump, EndsDump, dump_done, dump_due, dump_unread, dump_unwritten, front_due}
use Rattle.jobs.specs.declared.ending.Ending.TheVariants.{Run}
use Rattle.jobs.specs.declared.fault.FileFault.TheVariants as fault
use Rattle.jobs.proofs.Holding.{part_text, whole_text}
use Rattle.run_parts.specs.DumpText.{Dumps, DumpsPart}
use Rattle.run_parts.specs.declared.dump.DumpFault.{DumpFault}
use Rattle.run_parts.specs.declared.dump.DumpFault.TheVariants as dump
use Rattle.run_parts.specs.declared.outcome.Outcome.TheVariants as outcome

pub dump_holds : (text : List ℕ → List ℕ) (file : SpaceView) (dumped : Result (Unit {0}) DumpFault)
    (out out' : Option (List ℕ)) → OnOk dumped (Dumps file out out' text) → OnErr dumped (DumpsPart file out out' text)
    → (bytes : List ℕ) → file.bytes ≡ Some bytes → Holds (DueDump (text bytes)) out out' (dump_end dumped)
dump_holds text file (Ok unit) out out' whole part bytes known =
    whole_text (DueDump (text bytes)) (text bytes) (Ok (Run outcome.Done)) out out' dump_due (whole bytes known)
dump_holds text file (Err dump.Write) out out' whole part bytes known =
    part_text (DueDump (text bytes)) (text bytes) (Ok (Run outcome.Done)) out out' dump_due (part bytes known)
dump_holds text file (Err dump.Device) out out' whole part bytes known =
    let front = part bytes known in
    whole_text (DueDump (text bytes)) front.taken (Err (fault.Dump dump.Device)) out out'
    (front_due front.rest front.whole front.more) front.appends

pub dump_ends : (Risen MayFail : Type 0) (dumped : Result (Unit {0}) DumpFault) → (Risen → MayFail)
    → IfErr dumped (λ fault. fault ≡ dump.Device → Risen) → EndsDump MayFail (dump_end dumped)
dump_ends Risen MayFail (Ok unit) may risen = dump_done
dump_ends Risen MayFail (Err dump.Write) may risen = dump_unwritten
dump_ends Risen MayFail (Err dump.Device) may risen = dump_unread (may (risen refl))
