-- What an opener gives for the arguments and paths of a job.
use Rattle.std.specs.Prelude.{ℕ, List, Option, Result}
use Rattle.bit_space.specs.SpaceView.{SpaceView}
use Rattle.jobs.specs.declared.fault.FileFault.{FileFault}

-- a pickle that is installed: the name that `+NAME` has, and its bytes or why they aren't read
pub record InstalledPickle : Type 0 where
  pub name : List ℕ
  pub pickle : Result (List ℕ) FileFault

-- the pickles that arguments name, and why they name none; the files at paths, of which at most so many bytes are read
-- into memory if they have no length, why there is none, and those of which a read may fail; the names that arguments
-- represent, and the arguments whose name may lack memory; the bytes of lists of names; the pickles that are installed
-- in folders, and why they aren't read
pub record Gives : Type 1 where
  pub is_pickle : (word bytes : List ℕ) → Type 0
  pub is_unread : (word : List ℕ) → FileFault → Type 0
  pub is_file : (path : List ℕ) → (spool : Option ℕ) → SpaceView → Type 0
  pub is_unopened : (path : List ℕ) → (spool : Option ℕ) → FileFault → Type 0
  pub is_failing : (path : List ℕ) → Type 0
  pub is_name : (word name : List ℕ) → Type 0
  pub is_unnamed : (word : List ℕ) → Type 0
  pub is_list : (path : List ℕ) → Option (List ℕ) → Type 0
  pub is_installed : (folder : Option (List ℕ)) → List InstalledPickle → Type 0
  pub is_uninstalled : (folder : Option (List ℕ)) → FileFault → Type 0

-- nothing is known of what is given
abbrev pub anything : Gives
anything = record {
  is_pickle = λ word bytes. Unit {0};
  is_unread = λ word fault. Unit {0};
  is_file = λ path spool space. Unit {0};
  is_unopened = λ path spool fault. Unit {0};
  is_failing = λ path. Unit {0};
  is_name = λ word name. Unit {0};
  is_unnamed = λ word. Unit {0};
  is_list = λ path bytes. Unit {0};
  is_installed = λ folder pickles. Unit {0};
  is_uninstalled = λ folder fault. Unit {0};
}
