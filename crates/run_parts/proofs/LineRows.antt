-- Rows worked by hand hold of the lines.
use Rattle.std.proofs.Common.{◌≡◌, refl}
use Rattle.std.specs.Fmt.{digits}
use Rattle.std.specs.Prelude.{codes}
use Rattle.pickle_meaning.specs.declared.faults.MapFaultKind.TheVariants.{End, Memory}
use Rattle.pickle_types.specs.declared.fault.FaultKind.TheVariants.{Mismatch}
use Rattle.run_parts.specs.declared.accept.Refusal.TheVariants.{Syntax, Types}
use Rattle.run_parts.specs.declared.outcome.Outcome.TheVariants as outcome
use Rattle.run_parts.specs.declared.status.Status.TheVariants.{Outside}
use Rattle.run_parts.specs.FaultLines.{fault_saying}
use Rattle.run_parts.specs.Lines.{refused_line, fault_line}
use Rattle.run_parts.specs.Outcomes.{outcome_json, outcome_line}
use Rattle.run_parts.specs.Told.{Line}

name_line : refused_line (codes "NoSuchType") ≡ codes "refused NoSuchType\n"
name_line = refl

write_line : fault_line (codes "Write") ≡ codes "fault Write\n"
write_line = refl

memory_line : fault_saying Memory 8 ≡ Line Outside (codes "fault Memory\n")
memory_line = refl

left_line : outcome_line (outcome.Left 24) ≡ codes "fault Left at 24#b\n"
unfolding digits
left_line = refl

fault_json : outcome_json (outcome.Fault (record { kind = End; at = 32 })) ≡ codes "{\"fault\":\"End\",\"at\":32}\n"
unfolding digits
fault_json = refl

syntax_json : outcome_json (outcome.Refused (Syntax 17)) ≡ codes "{\"refused\":\"Syntax\",\"byte\":17}\n"
unfolding digits
syntax_json = refl

type_json : outcome_json (outcome.Refused (Types Mismatch 3)) ≡ codes "{\"refused\":\"Mismatch\",\"type\":3}\n"
unfolding digits
type_json = refl

part_json : outcome_json outcome.NoSuchPart ≡ codes "{\"fault\":\"NoSuchPart\"}\n"
part_json = refl

unidentified_line : outcome_line outcome.Unidentified ≡ codes "fault Unidentified\n"
unidentified_line = refl

not_found_line : outcome_line outcome.NotFound ≡ codes "fault NotFound\n"
not_found_line = refl

attempts_line : outcome_line (outcome.Attempts 24 3) ≡ codes "fault Attempts at 24#b count 3\n"
unfolding digits
attempts_line = refl

attempts_json : outcome_json (outcome.Attempts 24 3) ≡ codes "{\"fault\":\"Attempts\",\"at\":24,\"count\":3}\n"
unfolding digits
attempts_json = refl
