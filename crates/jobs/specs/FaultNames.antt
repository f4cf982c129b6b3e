-- What failed, by the fault of a file or of a list.
use Rattle.bit_space.specs.declared.file.OpenFault.TheVariants as unopened
use Rattle.jobs.specs.declared.fault.FileFault.{FileFault}
use Rattle.jobs.specs.declared.fault.FileFault.TheVariants as file
use Rattle.jobs.specs.declared.names.ListFault.{ListFault}
use Rattle.jobs.specs.declared.names.ListFault.TheVariants as listed
use Rattle.run_parts.specs.declared.dump.DumpFault.TheVariants as dump
use Rattle.run_parts.specs.declared.outcome.Failure.{Failure}
use Rattle.run_parts.specs.declared.outcome.Failure.TheVariants as failure
use Rattle.run_parts.specs.declared.pickle.PickleFault.TheVariants as pickle
use Rattle.spool.specs.declared.stream.StreamFault.TheVariants as stream

abbrev pub failure_of : FileFault → Failure
failure_of (file.Pickle pickle.Read) = failure.Read
failure_of (file.Pickle pickle.Memory) = failure.Memory
failure_of (file.Space unopened.NotOpened) = failure.Open
failure_of (file.Space unopened.TooLong) = failure.TooLong
failure_of (file.Stream stream.Device) = failure.Device
failure_of (file.Stream stream.TooLong) = failure.TooLong
failure_of (file.Stream stream.Memory) = failure.Memory
failure_of (file.Dump dump.Device) = failure.Device
failure_of (file.Dump dump.Write) = failure.Write
failure_of file.Memory = failure.Memory

abbrev pub list_failure : ListFault → Failure
list_failure listed.Read = failure.Read
list_failure listed.Memory = failure.Memory
list_failure listed.Write = failure.Write
