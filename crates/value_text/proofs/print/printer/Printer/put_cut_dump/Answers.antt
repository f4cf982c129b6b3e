use Rattle.std.proofs.Common.{arith, ◌+◌, ◌/◌, ◌≤◌, subst, sym}
use Rattle.pickle_meaning.specs.Values.{members_of, member_count}
use Rattle.value_store.specs.Refs.{value_shown}
use Rattle.value_text.specs.Puts.{Puts}
use Rattle.value_text.specs.ShowText.{rows_text}
use Rattle.value_text.proofs.ShowLines.{dump_whole}
use Rattle.value_text.proofs.print.printer.Printer.put_cut_dump.Goals as goal

pub returns-else-most-rows : goal.returns-else-most-rows
returns-else-most-rows g c =
    let members = members_of (value_shown c.args.value) in
    let few : (member_count members + 15) / 16 ≤ c.args.most =
    omega (arith, c.row_count-rows.ensures.count, c.if-most-rows.false) in
    subst (Puts g.W.Write.contents c.args.self.now c.put_rows.new.self)
    (sym (dump_whole c.args.look c.args.level c.args.most members few))
    (subst
    (λ n. Puts g.W.Write.contents c.args.self.now c.put_rows.new.self (rows_text c.args.look c.args.level n members))
    c.row_count-rows.ensures.count c.put_rows.ensures)
