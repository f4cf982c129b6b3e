use Rattle.type_parts.specs.CanHave.{any_type, can_have, can_have_columns}
use Rattle.type_parts.proofs.Known.{ok_more}
use Rattle.type_parts.proofs.can_have.Finder.shape.Goals as goal

pub returns-in_ok-columns-in-Rows : goal.returns-in_ok-columns-in-Rows
returns-in_ok-columns-in-Rows c =
    rw c.in-Rows.is (ok_more c.both.result (λ all h. h (can_have c.in-Rows.rows.pattern.steps.items)
    (can_have_columns c.in-Rows.rows.pattern.steps.items c.in-Rows.rows.columns.items)
    (rw c.as_slice-in-Rows.ensures.value at (c.in_ok-row-in-Rows.ensures.each any_type c.in_ok-any-in-Rows.ensures))
    (rw (c.as_slice-in-Rows-2.ensures.value, c.as_slice-in-Rows-3.ensures.value) at c.in_ok-columns-in-Rows.ensures))
    c.both.ensures)
