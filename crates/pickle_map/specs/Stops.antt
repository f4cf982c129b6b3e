-- Why a mapping stops, as the end of a plan.
use Rattle.std.specs.Prelude.{Bool, false, Result, Err}
use Rattle.pickle_meaning.specs.declared.extent.Extent.{Extent}
use Rattle.pickle_map.specs.declared.mapper.stop.Stop.{Stop}
use Rattle.pickle_map.specs.declared.mapper.stop.Stop.TheVariants.{Fault, Limit, Device, Memory}
use Rattle.pickle_meaning.specs.Clauses.{FaultAt, misses, ends_before}
use Rattle.pickle_map.specs.Follows.{Finish, Done, NoSteps, Broken, NoRoom}

abbrev pub stop_finish : {A : Type 0} → Stop → Finish (Result A FaultAt)
stop_finish (Fault kind place) = Done (Err (kind, place))
stop_finish Limit = NoSteps
stop_finish Device = Broken
stop_finish Memory = NoRoom

abbrev pub stop_misses : Stop → Bool
stop_misses (Fault kind place) = misses kind
stop_misses Limit = false
stop_misses Device = false
stop_misses Memory = false

abbrev pub stop_ends : Extent → Stop → Bool
stop_ends extent (Fault kind place) = ends_before extent kind
stop_ends extent Limit = false
stop_ends extent Device = false
stop_ends extent Memory = false
