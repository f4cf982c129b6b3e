use Rattle.std.proofs.Common.{ℕ, Vec, sym, subst}
use Rattle.std.specs.declared.alloc.Global.{Global}
use Rattle.fault_report.specs.Impossible.{TellsImpossible}
use Rattle.jobs.proofs.why.impossible_line.Goals as goal

pub returns : goal.returns
returns c = subst (λ (bytes : Vec ℕ Global). TellsImpossible bytes.items) (sym c.into_bytes.ensures)
    c.in_ok-impossible_text.ensures
