use Rattle.std.proofs.Common.{◌≡◌, ◌+◌, ◌-◌, Some, length, sym, ◌∙◌, ap, arith}
use Rattle.std.specs.Prelude.{slice_index, slice_index_or}
use Rattle.value_store.specs.declared.store.slots.Marks.{Marks}
use Rattle.value_store.specs.Slots.{Held, family_at}
use Rattle.value_store.proofs.LayoutNext.{some-array, array-at, link-read, own-read, template-read, family-read, text-read, marks-are}
use Rattle.value_store.proofs.store.Store.array_marks.Goals as goal

pub overflow_add-result-2 : goal.overflow_add-result-2
overflow_add-result-2 c =
    let h = c.args.self.now in
    let some = some-array h c.requires in
    let at = some.3 in
    let mark = ap (λ (k : Marks). k.pending) c.innermost-pending.ensures in
    let pending = ap (λ (x : Held). x.slots.pending) c.self.view_is in
    let found : Some c.in-Some.array ≡ c.index.result.now = sym c.in-Some.is ∙ c.target.ensures in
    let is : c.in-Some.array ≡ some.0 =
    link-read h some.0 some.1 some.2 at c.innermost-pending.result.pending c.index.result.now c.in-Some.array mark
    (c.index.ensures
    ∙ ap (λ ls. slice_index_or ls c.innermost-pending.result.pending c.index.result.now) pending) found in
    let family = template-read h some.0 some.1 some.2 at c.in-Some.array c.node_at-template.result is
    c.node_at-template.ensures.is in
    omega (arith, family, at.families, ap (λ (k : Marks). k.families) c.marks-all.ensures)

pub index-requires-2 : goal.index-requires-2
index-requires-2 c =
    let h = c.args.self.now in
    let some = some-array h c.requires in
    let at = some.3 in
    let mark = ap (λ (k : Marks). k.pending) c.innermost-pending.ensures in
    let pending = ap (λ (x : Held). x.slots.pending) c.self.view_is in
    let found : Some c.in-Some.array ≡ c.index.result.now = sym c.in-Some.is ∙ c.target.ensures in
    let is : c.in-Some.array ≡ some.0 =
    link-read h some.0 some.1 some.2 at c.innermost-pending.result.pending c.index.result.now c.in-Some.array mark
    (c.index.ensures
    ∙ ap (λ ls. slice_index_or ls c.innermost-pending.result.pending c.index.result.now) pending) found in
    let family = template-read h some.0 some.1 some.2 at c.in-Some.array c.node_at-template.result is
    c.node_at-template.ensures.is in
    let count = ap (λ (x : Held). length x.slots.families) c.self.view_is in
    omega (arith, family, at.families, count)

pub overflow_add-result-4 : goal.overflow_add-result-4
overflow_add-result-4 c =
    let h = c.args.self.now in
    let some = some-array h c.requires in
    let at = some.3 in
    let mark = ap (λ (k : Marks). k.pending) c.innermost-pending.ensures in
    let pending = ap (λ (x : Held). x.slots.pending) c.self.view_is in
    let found : Some c.in-Some.array ≡ c.index.result.now = sym c.in-Some.is ∙ c.target.ensures in
    let is : c.in-Some.array ≡ some.0 =
    link-read h some.0 some.1 some.2 at c.innermost-pending.result.pending c.index.result.now c.in-Some.array mark
    (c.index.ensures
    ∙ ap (λ ls. slice_index_or ls c.innermost-pending.result.pending c.index.result.now) pending) found in
    let text = own-read h some.0 some.1 some.2 at c.in-Some.array c.node_at-own.result is c.node_at-own.ensures.is in
    omega (arith, text, at.texts, ap (λ (k : Marks). k.texts) c.marks-all.ensures)

pub index-requires-3 : goal.index-requires-3
index-requires-3 c =
    let h = c.args.self.now in
    let some = some-array h c.requires in
    let at = some.3 in
    let mark = ap (λ (k : Marks). k.pending) c.innermost-pending.ensures in
    let pending = ap (λ (x : Held). x.slots.pending) c.self.view_is in
    let found : Some c.in-Some.array ≡ c.index.result.now = sym c.in-Some.is ∙ c.target.ensures in
    let is : c.in-Some.array ≡ some.0 =
    link-read h some.0 some.1 some.2 at c.innermost-pending.result.pending c.index.result.now c.in-Some.array mark
    (c.index.ensures
    ∙ ap (λ ls. slice_index_or ls c.innermost-pending.result.pending c.index.result.now) pending) found in
    let text = own-read h some.0 some.1 some.2 at c.in-Some.array c.node_at-own.result is c.node_at-own.ensures.is in
    let count = ap (λ (x : Held). length x.slots.texts) c.self.view_is in
    omega (arith, text, at.texts, count)

pub returns : goal.returns
returns c = λ names template size start rows value outer next.
    let h = c.args.self.now in
    let b = next.packing.before in
    let a = length b.nodes in
    let t = length b.texts in
    let f = length b.families - 1 in
    let at = array-at names h template size start rows value outer next in
    let mark = ap (λ (k : Marks). k.pending) c.innermost-pending.ensures in
    let pending = ap (λ (x : Held). x.slots.pending) c.self.view_is in
    let found : Some c.in-Some.array ≡ c.index.result.now = sym c.in-Some.is ∙ c.target.ensures in
    let is : c.in-Some.array ≡ a =
    link-read h a t f at c.innermost-pending.result.pending c.index.result.now c.in-Some.array mark
    (c.index.ensures
    ∙ ap (λ ls. slice_index_or ls c.innermost-pending.result.pending c.index.result.now) pending) found in
    let family = template-read h a t f at c.in-Some.array c.node_at-template.result is c.node_at-template.ensures.is in
    let text = own-read h a t f at c.in-Some.array c.node_at-own.result is c.node_at-own.ensures.is in
    let links : c.index-2.result.now.end ≡ (family_at h.slots.families f).end =
    family-read h a t f at c.node_at-template.result.content c.index-2.result.now family
    (c.index-2.ensures ∙ ap (λ fs. slice_index_or fs c.node_at-template.result.content c.index-2.result.now)
    (ap (λ (x : Held). x.slots.families) c.self.view_is)) in
    let bytes : c.index-3.result.now ≡ slice_index h.slots.texts t =
    text-read h a t f at c.node_at-own.result.content c.index-3.result.now text
    (c.index-3.ensures ∙ ap (λ es. slice_index_or es c.node_at-own.result.content c.index-3.result.now)
    (ap (λ (x : Held). x.slots.texts) c.self.view_is)) in
    marks-are names h template size start rows value outer next _ (ap (λ n. n + 1) is) (ap (λ n. n + 1) family) links
    (ap (λ n. n + 1) mark) (ap (λ n. n + 1) text) bytes
