-- Why the file of a name isn't opened.
use Rattle.std.specs.Prelude.{ℕ, List, Option, Some, None, IsUtf8}
use Rattle.bit_space.specs.declared.file.OpenFault.TheVariants.{NotOpened}
use Rattle.jobs.specs.Gives.{Gives}
use Rattle.jobs.specs.declared.fault.FileFault.{FileFault}
use Rattle.jobs.specs.declared.fault.FileFault.TheVariants as file
use Rattle.jobs.specs.declared.opener.GivenName.{GivenName}
use Rattle.jobs.specs.declared.opener.GivenName.TheVariants as given
use Rattle.jobs.specs.declared.opener.Lengthless.{Lengthless}
use Rattle.jobs.specs.declared.opener.Lengthless.TheVariants.{Reads, NeedsSpool}

-- the name isn't text, or an opener says why
pub data FailsNamed (gives : Gives) (name : List ℕ) (spool : Option ℕ) : FileFault → Type 0 where
  not_text : ¬ (IsUtf8 name) → FailsNamed gives name spool (file.Space NotOpened)
  not_opened : {fault : FileFault} → gives.is_unopened name spool fault → FailsNamed gives name spool fault

-- what a mapping does with a file that has no length, by its option `--spool`
abbrev pub lengthless_with : (spool : Option ℕ) → Lengthless
lengthless_with (Some most) = Reads
lengthless_with None = NeedsSpool

-- the bytes of a name
abbrev pub name_bytes : GivenName → List ℕ
name_bytes (given.Word word) = word.now
name_bytes (given.Bytes bytes) = bytes.items
