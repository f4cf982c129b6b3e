use Rattle.std.proofs.Common.{length, ap}
use Rattle.bit_space.proofs.Pages.{page_newest, shown_inside, shown_same}
use Rattle.bit_space.proofs.paged.Paged.read_part.Goals as goal

pub copy_part-requires : goal.copy_part-requires
copy_part-requires g c =
    let p = page_newest c.in-Some.newest.now c.in-Some.bytes.now c.self.invariant c.in-Some.ensures in
    shown_inside c.args.at (length c.args.into.now) (ap g.S.Space.view c.self.view_is) p c.if-newest-page.true
    c.as_slice.ensures.value c.requires.inside c.requires.one_page

pub returns-then-newest-page-clause-bytes : goal.returns-then-newest-page-clause-bytes
returns-then-newest-page-clause-bytes g c =
    let p = page_newest c.in-Some.newest.now c.in-Some.bytes.now c.self.invariant c.in-Some.ensures in
    shown_same c.args.at (length c.args.into.now) (ap g.S.Space.view c.self.view_is) p c.if-newest-page.true
    c.as_slice.ensures.value c.requires.inside c.requires.one_page c.copy_part.ensures
