-- The part that is told has the fault where the check found it.
--
-- The check finds the fault at the places of the part's way; the notes near it leave the way as it was.
use Rattle.fault_report.proofs.part.confirm_part.Goals as goal

pub returns-clause-part : goal.returns-clause-part
returns-clause-part g c =
    rw (c.with_surroundings.ensures, ← c.in_ok-places.ensures, ← c.as_slice.ensures.value)
    (c.is_at.ensures.at c.if-not-is_at.false)
