use Rattle.std.proofs.Common.{◌≡◌, ◌-◌, ◌*◌, ◌∙◌, length, IfOk, IfErr, ap, refl, sym, subst, arith}
use Rattle.std.specs.Option.{option_map}
use Rattle.bit_space.specs.Bits.{bits_of}
use Rattle.bit_space.proofs.Digits.{length-bits_of}
use Rattle.pickle_types.specs.TypeTable.{type_named}
use Rattle.identification.specs.declared.timed.TheConstants.{MOST_STEPS}
use Rattle.identification.specs.Others.{BreaksOff, Finds}
use Rattle.identification.proofs.Answered.{root_given}
use Rattle.identification.proofs.InTime.{breaks_off, cut_off, fault_found, value_found, value_in_time}
use Rattle.identification.proofs.timed.try_in_time.Goals as goal

pub returns-in-Ok-clause-ok : goal.returns-in-Ok-clause-ok
returns-in-Ok-clause-ok g c bytes known =
    let given = c.in-Ok.ensures.value bytes known in
    let none = c.new-meter.ensures.steps in
    let most = c.new-meter.ensures.limit in
    let limit : c.new-meter.result.limit - c.new-meter.result.steps ≡ MOST_STEPS = omega arith in
    let size : c.bits_in-bits.result ≡ length (bits_of bytes) =
    c.bits_in-bits.ensures ∙ ap (λ n. 8 * n) (sym (g.met.S.Space.whole c.args.space.now bytes known))
    ∙ sym (length-bits_of bytes) in
    subst (λ order. Finds (bits_of bytes) (type_named c.args.table.now c.args.documented.now.id) order
    c.args.documented.now.whole c.args.start c.ended.result) c.order_of-order.ensures
    (subst (Finds (bits_of bytes) (type_named c.args.table.now c.args.documented.now.id) c.order_of-order.result
    c.args.documented.now.whole c.args.start) (sym c.ended.ensures)
    (value_found c.args.documented.now.whole c.measure-measured.result c.bits_in-bits.result
    (value_in_time limit given.holds) (c.measure-measured.ensures given.value (root_given given)) size))

pub returns-clause-ok : goal.returns-clause-ok
returns-clause-ok g c bytes known =
    let none = c.new-meter.ensures.steps in
    let most = c.new-meter.ensures.limit in
    let limit : c.new-meter.result.limit - c.new-meter.result.steps ≡ MOST_STEPS = omega arith in
    let size = ap (λ n. 8 * n) (sym (g.met.S.Space.whole c.args.space.now bytes known)) ∙ sym (length-bits_of bytes) in
    subst (λ order. IfOk c.unmapped.result (Finds (bits_of bytes)
    (type_named c.args.table.now c.args.documented.now.id) order c.args.documented.now.whole c.args.start))
    c.order_of-order.ensures
    (subst (λ r. IfOk r (Finds (bits_of bytes) (type_named c.args.table.now c.args.documented.now.id)
    c.order_of-order.result c.args.documented.now.whole c.args.start)) (sym c.unmapped.ensures)
    (fault_found c.args.documented.now.whole _ c.in-Err.fault.kind c.in-Err.fault.at _ _ c.in-Err.fault limit
    (c.in-Err.ensures.fault bytes known)
    (λ e. cut_off _ c.args.documented.now.whole (ap (option_map bits_of) known) size most none
    (let runs = rw e at c.in-Err.ensures.counts in runs.follows))))

pub returns-clause-err : goal.returns-clause-err
returns-clause-err g c =
    let before = g.S.Space.view c.args.space.now in
    let after = g.S.Space.view c.map.new.space in
    subst (λ r. IfErr r (BreaksOff before after)) (sym c.unmapped.ensures)
    (breaks_off before after c.in-Err.fault.kind c.in-Err.fault refl c.in-Err.ensures.device)
