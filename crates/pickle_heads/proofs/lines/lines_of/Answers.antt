use Rattle.std.proofs.Common.{◌∙◌, ap}
use Rattle.std.specs.Prelude.{codes}
use Rattle.pickle_heads.specs.Texts.{after_line}
use Rattle.pickle_heads.specs.Lines.{said, past, begins_as_one}
use Rattle.pickle_heads.proofs.lines.lines_of.Goals as goal

pub returns-clause-form : goal.returns-clause-form
returns-clause-form c =
    let body = c.split_line-2.ensures.rest ∙ ap after_line c.split_line.ensures.rest in
    let form = c.take_line.ensures.rest ∙ ap (past (codes "// Identified by: ")) body in
    c.take_line-2.ensures.said ∙ ap (said (codes "// Form of: ")) form

pub returns-clause-inside : goal.returns-clause-inside
returns-clause-inside c =
    let body = c.split_line-2.ensures.rest ∙ ap after_line c.split_line.ensures.rest in
    let form = c.take_line.ensures.rest ∙ ap (past (codes "// Identified by: ")) body in
    let inside = c.take_line-2.ensures.rest ∙ ap (past (codes "// Form of: ")) form in
    c.take_line-3.ensures.said ∙ ap (said (codes "// Inside: ")) inside

pub returns-clause-records : goal.returns-clause-records
returns-clause-records c =
    let body = c.split_line-2.ensures.rest ∙ ap after_line c.split_line.ensures.rest in
    let form = c.take_line.ensures.rest ∙ ap (past (codes "// Identified by: ")) body in
    let inside = c.take_line-2.ensures.rest ∙ ap (past (codes "// Form of: ")) form in
    let records = c.take_line-3.ensures.rest ∙ ap (past (codes "// Inside: ")) inside in
    c.take_line-4.ensures.said ∙ ap (said (codes "// Records: ")) records

pub returns-clause-misplaced : goal.returns-clause-misplaced
returns-clause-misplaced c =
    let body = c.split_line-2.ensures.rest ∙ ap after_line c.split_line.ensures.rest in
    let form = c.take_line.ensures.rest ∙ ap (past (codes "// Identified by: ")) body in
    let inside = c.take_line-2.ensures.rest ∙ ap (past (codes "// Form of: ")) form in
    let records = c.take_line-3.ensures.rest ∙ ap (past (codes "// Inside: ")) inside in
    let after = c.take_line-4.ensures.rest ∙ ap (past (codes "// Records: ")) records in
    c.begins_as_one.ensures ∙ ap begins_as_one after
