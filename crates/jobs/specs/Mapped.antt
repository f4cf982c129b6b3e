-- What is mapped over files.
use Rattle.std.specs.Prelude.{ℕ, List}
use Rattle.command_line.specs.declared.terms.Terms.{Terms}
use Rattle.jobs.specs.Aims.{Aim}

-- what is mapped over every file: the pickle, what is mapped, and under which terms
pub record Mapped : Type 0 where
  pub pickle : List ℕ
  pub aim : Aim
  pub terms : Terms
