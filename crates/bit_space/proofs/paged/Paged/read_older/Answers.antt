use Rattle.std.proofs.Common.{◌/◌, length, ap, refl}
use Rattle.bit_space.proofs.Pages.{page_found, page_kept, pages_kept, pages_promoted, pages_put, shown_inside, shown_same}
use Rattle.bit_space.proofs.paged.Paged.read_older.Goals as goal

pub copy_part-requires : goal.copy_part-requires
copy_part-requires g c =
    let p = page_found (c.args.at / 4096) c.in-Some.bytes.now c.self.invariant c.in-Some.ensures in
    shown_inside c.args.at (length c.args.into.now) (ap g.S.Space.view c.self.view_is) p refl c.as_slice.ensures.value
    c.requires.inside c.requires.one_page

pub invariant_of-self : goal.invariant_of-self
invariant_of-self g c = rw c.promote.ensures.entries (pages_promoted _ c.self.invariant)

pub returns-in-Some-clause-bytes : goal.returns-in-Some-clause-bytes
returns-in-Some-clause-bytes g c =
    let p = page_found (c.args.at / 4096) c.in-Some.bytes.now c.self.invariant c.in-Some.ensures in
    shown_same c.args.at (length c.args.into.now) (ap g.S.Space.view c.self.view_is) p refl c.as_slice.ensures.value
    c.requires.inside c.requires.one_page c.copy_part.ensures

pub invariant_of-self-in_err-bytes : goal.invariant_of-self-in_err-bytes
invariant_of-self-in_err-bytes g c = pages_kept c.load.ensures.keeps c.self.invariant

pub invariant_of-self-in-Some-2 : goal.invariant_of-self-in-Some-2
invariant_of-self-in-Some-2 g c =
    pages_put c.put.result c.self.inside.pages c.put.new.self (c.args.at / 4096) c.in-Some-2.bytes c.put.ensures.entries
    c.put.ensures.err (pages_kept c.load.ensures.keeps c.self.invariant)
    (page_kept c.load.ensures.keeps (rw c.in-Some-2.is at c.in_ok-bytes.ensures.page))

pub invariant_of-self-in-None : goal.invariant_of-self-in-None
invariant_of-self-in-None g c = pages_kept c.read_at.ensures.keeps (pages_kept c.load.ensures.keeps c.self.invariant)

pub returns-in-Some-2-clause-bytes : goal.returns-in-Some-2-clause-bytes
returns-in-Some-2-clause-bytes g c =
    shown_same c.args.at (length c.args.into.now) (ap g.S.Space.view c.self.view_is)
    (rw c.in-Some-2.is at c.in_ok-bytes.ensures.page) refl c.as_slice-in-Some-2.ensures.value c.requires.inside
    c.requires.one_page c.copy_part-in-Some-2.ensures
