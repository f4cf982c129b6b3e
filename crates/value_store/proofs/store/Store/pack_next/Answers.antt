use Rattle.std.proofs.Common.{◌≡◌, length, inl, sym, ◌∙◌, ap, subst, arith}
use Rattle.value_store.specs.Gathering.{TakesRecord}
use Rattle.value_store.specs.LayoutArrays.{LacksRow, RefusesNext}
use Rattle.value_store.specs.Layouts.{row_of}
use Rattle.std.proofs.lemmas.List.{length-take}
use Rattle.value_store.specs.declared.store.slots.Marks.{Marks}
use Rattle.value_store.specs.Slots.{Held, HasSlots, with_more}
use Rattle.value_store.proofs.Held.{refused}
use Rattle.value_store.proofs.LayoutNext.{bytes-within, next-length, next-part, next-row, cut-levels, takes-next, packs-next, next-state, next-as_move, next-lacks, next-heavy, next-light, regrown-cut, regrown-levels_cut, cut-text}
use Rattle.value_store.proofs.Weights.{heavy-bound}
use Rattle.value_store.proofs.Below.{next-below}
use Rattle.value_store.proofs.store.Store.pack_next.Goals as goal

pub append_part-requires-clause-part : goal.append_part-requires-clause-part
append_part-requires-clause-part c = next-part c.args.self.now c.requires

pub cut_back-requires : goal.cut_back-requires
cut_back-requires c =
    let h = c.args.self.now in
    let q = c.requires in
    let marks = c.array_marks-marks.result in
    let are = c.array_marks-marks.ensures q.names q.template q.size q.start q.rows q.value q.outer q.next in
    regrown-levels_cut h c.reserve_struct.new.self c.reserve_struct.new.self marks c.reserve_struct.ensures.same
    (cut-levels q.names h q.template q.size q.start q.rows q.value q.outer q.next marks are)

pub extend_records-requires-clause-takes : goal.extend_records-requires-clause-takes
extend_records-requires-clause-takes c =
    let h = c.args.self.now in
    let q = c.requires in
    let marks = c.array_marks-marks.result in
    let n = c.cut_back.new.self in
    let are = c.array_marks-marks.ensures q.names q.template q.size q.start q.rows q.value q.outer q.next in
    let cut = regrown-cut h c.reserve_struct.new.self n marks c.reserve_struct.ensures.same c.cut_back.ensures.slots in
    let row : c.as_slice.result.now ≡ row_of q.value =
    c.as_slice.ensures.value
    ∙ next-row q.names h q.template q.size q.start q.rows q.value q.outer q.next _ c.append_part.ensures in
    subst (TakesRecord n) (sym row)
    (takes-next q.names h q.template q.size q.start q.rows q.value q.outer q.next q.fixed q.is q.short marks are n cut)

pub returns-clause-ok : goal.returns-clause-ok
returns-clause-ok c = λ names template size start rows value outer p fixed like short.
    let h = c.args.self.now in
    let marks = c.array_marks-marks.result in
    let n = c.cut_back.new.self in
    let l = c.extend_records.new.self in
    let are = c.array_marks-marks.ensures names template size start rows value outer p in
    let cut = regrown-cut h c.reserve_struct.new.self n marks c.reserve_struct.ensures.same c.cut_back.ensures.slots in
    let row : c.as_slice.result.now ≡ row_of value =
    c.as_slice.ensures.value ∙ next-row names h template size start rows value outer p _ c.append_part.ensures in
    packs-next names h template size start rows value outer p fixed like short marks are n cut l
    (subst (λ bs. HasSlots n l (with_more bs n.slots)) row c.extend_records.ensures.slots)

pub returns-clause-lengths : goal.returns-clause-lengths
returns-clause-lengths c = λ names template size start rows value outer p fixed like short.
    let h = c.args.self.now in
    let marks = c.array_marks-marks.result in
    let n = c.cut_back.new.self in
    let l = c.extend_records.new.self in
    let are = c.array_marks-marks.ensures names template size start rows value outer p in
    let cut = regrown-cut h c.reserve_struct.new.self n marks c.reserve_struct.ensures.same c.cut_back.ensures.slots in
    let row : c.as_slice.result.now ≡ row_of value =
    c.as_slice.ensures.value ∙ next-row names h template size start rows value outer p _ c.append_part.ensures in
    next-state names h template size start rows value outer p fixed like short marks are n cut l
    (length c.as_slice.result.now) (ap length row) c.extend_records.ensures.moves

pub overflow_sub-given_back : goal.overflow_sub-given_back
overflow_sub-given_back c =
    let q = c.requires in
    let marks = c.array_marks-marks.result in
    let are = c.array_marks-marks.ensures q.names q.template q.size q.start q.rows q.value q.outer q.next in
    let within =
    bytes-within q.names c.args.self.now q.template q.size q.start q.rows q.value q.outer q.next marks are in
    omega (arith, within, c.len.ensures, ap (λ (x : Held). length x.slots.bytes) c.self.view_is)

pub extend_records-requires-clause-room : goal.extend_records-requires-clause-room
extend_records-requires-clause-room c =
    let q = c.requires in
    let marks = c.array_marks-marks.result in
    let are = c.array_marks-marks.ensures q.names q.template q.size q.start q.rows q.value q.outer q.next in
    let within =
    bytes-within q.names c.args.self.now q.template q.size q.start q.rows q.value q.outer q.next marks are in
    omega (
      arith,
      within,
      c.len.ensures,
      ap (λ (x : Held). length x.slots.bytes) c.self.view_is,
      ap (λ (x : Held). length x.slots.bytes) c.cut_back.ensures.slots,
      length-take marks.bytes c.reserve_struct.new.self.slots.bytes,
      ap (λ (x : Held). length x.slots.bytes) c.reserve_struct.ensures.same,
      c.in_ok-reserve_struct.ensures.bytes,
      c.cut_back.ensures.room.bytes,
      c.saturating_sub.ensures,
      c.len-count.ensures.value,
      ap length c.as_slice.ensures.value,
    )

pub returns-in_err-reserve_struct-clause-full : goal.returns-in_err-reserve_struct-clause-full
returns-in_err-reserve_struct-clause-full c =
    let lacks : LacksRow c.args.self.now = λ names template size start rows value outer p fixed like short free.
    let h = c.args.self.now in
    let marks = c.array_marks-marks.result in
    let are = c.array_marks-marks.ensures names template size start rows value outer p in
    let within = bytes-within names h template size start rows value outer p marks are in
    let row = next-row names h template size start rows value outer p _ c.append_part.ensures in
    omega (
      arith,
      within,
      c.len.ensures,
      ap (λ (x : Held). length x.slots.bytes) c.self.view_is,
      c.in_err-reserve_struct.ensures.full,
      c.in_err-reserve_struct.ensures.some,
      c.saturating_sub.ensures,
      c.len-count.ensures.value,
      ap length row,
      next-length names h template size start rows value outer p fixed like short,
      ap (λ (m : Marks). m.bytes) are,
    ) in
    refused _ lacks

pub returns-clause-moves : goal.returns-clause-moves
returns-clause-moves c = λ names template size start rows value outer p fixed like short after.
    let h = c.args.self.now in
    let marks = c.array_marks-marks.result in
    let n = c.cut_back.new.self in
    let l = c.extend_records.new.self in
    let are = c.array_marks-marks.ensures names template size start rows value outer p in
    let cut = regrown-cut h c.reserve_struct.new.self n marks c.reserve_struct.ensures.same c.cut_back.ensures.slots in
    let row : c.as_slice.result.now ≡ row_of value =
    c.as_slice.ensures.value ∙ next-row names h template size start rows value outer p _ c.append_part.ensures in
    next-as_move names h template size start rows value outer p fixed like short l
    (next-state names h template size start rows value outer p fixed like short marks are n cut l
    (length c.as_slice.result.now) (ap length row) c.extend_records.ensures.moves) after

pub returns-in_err-reserve_struct-clause-lacks : goal.returns-in_err-reserve_struct-clause-lacks
returns-in_err-reserve_struct-clause-lacks c =
    let lacks : RefusesNext c.args.self.now = λ names template size start rows value outer p fixed like short after.
    let h = c.args.self.now in
    let marks = c.array_marks-marks.result in
    let are = c.array_marks-marks.ensures names template size start rows value outer p in
    let within = bytes-within names h template size start rows value outer p marks are in
    let row = next-row names h template size start rows value outer p _ c.append_part.ensures in
    inl (next-lacks names h template size start rows value outer p fixed like short (omega (
      arith,
      within,
      c.len.ensures,
      ap (λ (x : Held). length x.slots.bytes) c.self.view_is,
      c.in_err-reserve_struct.ensures.full,
      c.in_err-reserve_struct.ensures.some,
      c.saturating_sub.ensures,
      c.len-count.ensures.value,
      ap length row,
      next-length names h template size start rows value outer p fixed like short,
      ap (λ (m : Marks). m.bytes) are,
    )) after) in
    refused _ lacks

pub returns-clause-below : goal.returns-clause-below
returns-clause-below c =
    let h = c.args.self.now in
    let q = c.requires in
    let marks = c.array_marks-marks.result in
    let n = c.cut_back.new.self in
    let are = c.array_marks-marks.ensures q.names q.template q.size q.start q.rows q.value q.outer q.next in
    let cut = regrown-cut h c.reserve_struct.new.self n marks c.reserve_struct.ensures.same c.cut_back.ensures.slots in
    next-below h n c.extend_records.new.self marks cut
    (cut-levels q.names h q.template q.size q.start q.rows q.value q.outer q.next marks are)
    (cut-text q.names h q.template q.size q.start q.rows q.value q.outer q.next marks are) c.as_slice.result.now
    c.extend_records.ensures.slots

pub returns-in_err-admit_above-clause-lacks : goal.returns-in_err-admit_above-clause-lacks
returns-in_err-admit_above-clause-lacks c =
    let lacks : RefusesNext c.args.self.now = λ names template size start rows value outer p fixed like short after.
    let h = c.args.self.now in
    let are = c.array_marks-marks.ensures names template size start rows value outer p in
    let row = next-row names h template size start rows value outer p _ c.append_part.ensures in
    next-heavy names h template size start rows value outer p fixed like short
    c.array_marks-marks.result c.len-count.result
    are (c.len-count.ensures.value ∙ ap length row
    ∙ next-length names h template size start rows value outer p fixed like short) after
    c.in_err-admit_above.ensures.heavy in
    refused _ lacks

pub returns-clause-light : goal.returns-clause-light
returns-clause-light c =
    let h = c.args.self.now in
    let q = c.requires in
    let marks = c.array_marks-marks.result in
    let n = c.cut_back.new.self in
    let l = c.extend_records.new.self in
    let are = c.array_marks-marks.ensures q.names q.template q.size q.start q.rows q.value q.outer q.next in
    let cut = regrown-cut h c.reserve_struct.new.self n marks c.reserve_struct.ensures.same c.cut_back.ensures.slots in
    let own = next-row q.names h q.template q.size q.start q.rows q.value q.outer q.next _ c.append_part.ensures in
    let row : c.as_slice.result.now ≡ row_of q.value = c.as_slice.ensures.value ∙ own in
    let is = next-state q.names h q.template q.size q.start q.rows q.value q.outer q.next q.fixed q.is q.short marks are
    n cut l (length c.as_slice.result.now) (ap length row) c.extend_records.ensures.moves in
    next-light q.names h q.template q.size q.start q.rows q.value q.outer q.next q.fixed q.is q.short marks
    c.len-count.result are (c.len-count.ensures.value ∙ ap length own
    ∙ next-length q.names h q.template q.size q.start q.rows q.value q.outer q.next q.fixed q.is q.short) l is
    (c.extend_records.ensures.room.room ∙ c.cut_back.ensures.room.room ∙ c.reserve_struct.ensures.room.room)
    c.in_ok-admit_above.ensures.light

pub returns-in_err-admit_above-clause-full : goal.returns-in_err-admit_above-clause-full
returns-in_err-admit_above-clause-full c =
    let lacks : LacksRow c.args.self.now = λ names template size start rows value outer p fixed like short free.
    absurd (heavy-bound c.args.self.now.room _ c.in_err-admit_above.ensures.heavy free) in
    refused _ lacks
