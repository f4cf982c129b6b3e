-- What standard output holds of the bytes of a part.
use Rattle.std.proofs.Common.{ℕ, List, Option, Ok}
use Rattle.bit_space.specs.SpaceView.{SpaceView}
use Rattle.jobs.specs.Due.{Holds}
use Rattle.jobs.specs.Tasks.{DueCopy, copied, copied_some, not_copied, no_value, no_memory}
use Rattle.jobs.specs.declared.ending.Ending.TheVariants.{Run}
use Rattle.jobs.proofs.Holding.{no_text, whole_text}
use Rattle.poke_batch.specs.declared.type_run.TypeRun.{TypeRun}
use Rattle.raw_parts.specs.Written.{WritesRaw, has_no_value, has_value, lacks_memory, writes_all, writes_none, writes_some}
use Rattle.run_parts.specs.declared.outcome.Outcome.{Outcome}

pub copy_holds : (pickle : List ℕ) (run : TypeRun) (file after : SpaceView) (ended : Outcome)
    (out out' : Option (List ℕ)) → WritesRaw pickle run file after out out' ended
    → Holds (DueCopy pickle run file after) out out' (Ok (Run ended))
copy_holds pickle run file after _ out out' (has_value mapped (writes_all due copies)) =
    whole_text (DueCopy pickle run file after) copies.text _ out out' (copied mapped due copies.bytes) copies.takes
copy_holds pickle run file after _ out out' (has_value mapped (writes_some due some)) =
    whole_text (DueCopy pickle run file after) some.copies.text _ out out'
    (copied_some mapped due some.starts some.less some.copies.bytes some.breaks) some.copies.takes
copy_holds pickle run file after _ out out' (has_value mapped (writes_none lacks keeps)) =
    no_text (DueCopy pickle run file after) _ out out' (not_copied mapped lacks) keeps
copy_holds pickle run file after _ out out' (has_value mapped (lacks_memory keeps)) =
    no_text (DueCopy pickle run file after) _ out out' no_memory keeps
copy_holds pickle run file after _ out out' (has_no_value none keeps) =
    no_text (DueCopy pickle run file after) _ out out' (no_value none) keeps
