-- `bytes_of`: the bytes of the requested part, or why it has none.
use Rattle.std.proofs.Common.{◌≡◌, ◌∙◌, ◌+◌, ◌*◌, Some, ap, sym}
use Rattle.pickle_meaning.specs.Values.{end_of}
use Rattle.poke_batch.specs.PathParts.{part_at}
use Rattle.poke_batch.specs.RunsUnder.{is_left}
use Rattle.raw_parts.proofs.Places.{end_is, ended_early, has_place, lacks_own, lacks_room, left_told}
use Rattle.raw_parts.specs.Places.{lacks_part}
use Rattle.value_store.specs.Refs.{value_shown}
use Rattle.value_text.specs.TypedValue.{nodes_in}
use Rattle.raw_parts.proofs.place.bytes_of.Goals as goal

pub returns-then-is_left-clause-err : goal.returns-then-is_left-clause-err
returns-then-is_left-clause-err c = λ within.
    let run = c.args.run.now in
    let v = value_shown c.args.value in
    let end : c.from.result + c.from-2.result ≡ end_of v =
    end_is (8 * c.args.len) _ _ v within (c.from.ensures ∙ c.start.ensures) (c.from-2.ensures ∙ c.size.ensures) in
    let left : is_left run.terms.now.whole (end_of v) (8 * c.args.len) ≡ c.is_left.result =
    left_told run.terms.now.whole _ _ _ _ _ c.is_left.ensures end (ap (λ n. 8 * n) c.from-bits.ensures) in
    ended_early run c.args.len _ v end (left ∙ c.if-is_left.true)

pub returns-in_default-clause-err : goal.returns-in_default-clause-err
returns-in_default-clause-err c = λ within.
    let run = c.args.run.now in
    let v = value_shown c.args.value in
    let end : c.from.result + c.from-2.result ≡ end_of v =
    end_is (8 * c.args.len) _ _ v within (c.from.ensures ∙ c.start.ensures) (c.from-2.ensures ∙ c.size.ensures) in
    let left : is_left run.terms.now.whole (end_of v) (8 * c.args.len) ≡ c.is_left.result =
    left_told run.terms.now.whole _ _ _ _ _ c.is_left.ensures end (ap (λ n. 8 * n) c.from-bits.ensures) in
    lacks_part (left ∙ c.if-is_left.false)
    (sym (c.in_default.ensures.value ∙ ap (λ u. part_at run.terms.now.part (value_shown u)) c.new-whole.ensures.value))

pub returns-in_default-own_bytes-clause-err : goal.returns-in_default-own_bytes-clause-err
returns-in_default-own_bytes-clause-err c = λ within.
    let run = c.args.run.now in
    let v = value_shown c.args.value in
    let end : c.from.result + c.from-2.result ≡ end_of v =
    end_is (8 * c.args.len) _ _ v within (c.from.ensures ∙ c.start.ensures) (c.from-2.ensures ∙ c.size.ensures) in
    let left : is_left run.terms.now.whole (end_of v) (8 * c.args.len) ≡ c.is_left.result =
    left_told run.terms.now.whole _ _ _ _ _ c.is_left.ensures end (ap (λ n. 8 * n) c.from-bits.ensures) in
    let shown = value_shown c.value-part.result in
    let found : part_at run.terms.now.part v ≡ Some shown =
    sym (c.in-Some.ensures.value ∙ ap (λ u. part_at run.terms.now.part (value_shown u)) c.new-whole.ensures.value)
    ∙ ap (λ u. Some (value_shown u)) (sym c.value-part.ensures) in
    let nodes = ap nodes_in c.new-whole.ensures.types ∙ c.new-types.ensures.nodes in
    let node = c.new-whole.ensures.node ∙ ap Some c.node.ensures in
    let same = ap value_shown c.new-whole.ensures.value in
    lacks_own run c.args.len v shown within (left ∙ c.if-is_left.false) found _ _ _ nodes node same _
    c.start-in_default-own_bytes.ensures c.in_default-own_bytes.ensures.none

pub returns-then-is_too_long-clause-err : goal.returns-then-is_too_long-clause-err
returns-then-is_too_long-clause-err c = λ within.
    let run = c.args.run.now in
    let v = value_shown c.args.value in
    let end : c.from.result + c.from-2.result ≡ end_of v =
    end_is (8 * c.args.len) _ _ v within (c.from.ensures ∙ c.start.ensures) (c.from-2.ensures ∙ c.size.ensures) in
    let left : is_left run.terms.now.whole (end_of v) (8 * c.args.len) ≡ c.is_left.result =
    left_told run.terms.now.whole _ _ _ _ _ c.is_left.ensures end (ap (λ n. 8 * n) c.from-bits.ensures) in
    let shown = value_shown c.value-part.result in
    let found : part_at run.terms.now.part v ≡ Some shown =
    sym (c.in-Some.ensures.value ∙ ap (λ u. part_at run.terms.now.part (value_shown u)) c.new-whole.ensures.value)
    ∙ ap (λ u. Some (value_shown u)) (sym c.value-part.ensures) in
    let nodes = ap nodes_in c.new-whole.ensures.types ∙ c.new-types.ensures.nodes in
    let node = c.new-whole.ensures.node ∙ ap Some c.node.ensures in
    let same = ap value_shown c.new-whole.ensures.value in
    lacks_room run c.args.len v shown within (left ∙ c.if-is_left.false) found _ _ _ nodes node same
    c.in-Some-own_bytes.range c.in-Some-own_bytes.ensures.some _ c.is_too_long.ensures c.if-is_too_long.true

pub returns-clause-ok : goal.returns-clause-ok
returns-clause-ok c = λ within.
    let run = c.args.run.now in
    let v = value_shown c.args.value in
    let end : c.from.result + c.from-2.result ≡ end_of v =
    end_is (8 * c.args.len) _ _ v within (c.from.ensures ∙ c.start.ensures) (c.from-2.ensures ∙ c.size.ensures) in
    let left : is_left run.terms.now.whole (end_of v) (8 * c.args.len) ≡ c.is_left.result =
    left_told run.terms.now.whole _ _ _ _ _ c.is_left.ensures end (ap (λ n. 8 * n) c.from-bits.ensures) in
    let shown = value_shown c.value-part.result in
    let found : part_at run.terms.now.part v ≡ Some shown =
    sym (c.in-Some.ensures.value ∙ ap (λ u. part_at run.terms.now.part (value_shown u)) c.new-whole.ensures.value)
    ∙ ap (λ u. Some (value_shown u)) (sym c.value-part.ensures) in
    let nodes = ap nodes_in c.new-whole.ensures.types ∙ c.new-types.ensures.nodes in
    let node = c.new-whole.ensures.node ∙ ap Some c.node.ensures in
    let same = ap value_shown c.new-whole.ensures.value in
    has_place run c.args.len v shown within (left ∙ c.if-is_left.false) found _ _ _ nodes node same
    c.in-Some-own_bytes.range c.in-Some-own_bytes.ensures.some _ c.is_too_long.ensures c.if-is_too_long.false
