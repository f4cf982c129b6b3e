use Rattle.std.proofs.Common.{inl, refl}
use Rattle.std.proofs.KnownBytes.{Appends-nil}
use Rattle.jobs.proofs.ending.Ending.tell.Goals as goal

pub returns-in-Silent : goal.returns-in-Silent
returns-in-Silent g c = rw c.in-Silent.is (inl (refl, Appends-nil _))
