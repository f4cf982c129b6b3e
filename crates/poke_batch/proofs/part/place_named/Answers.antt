use Rattle.std.proofs.Common.{◌≡◌, ◌∙◌, ◌<◌, ap, arith, sym}
use Rattle.value_store.specs.Refs.{value_shown}
use Rattle.pickle_meaning.specs.Values.{label_of, members_of, member_count}
use Rattle.poke_batch.specs.PathParts.{is_named}
use Rattle.poke_batch.proofs.PartsFound.{found_later}
use Rattle.poke_batch.proofs.part.place_named.Goals as goal

pub loop-place-preserved : goal.loop-place-preserved
loop-place-preserved c =
    let label = label_of (value_shown c.args.value) in
    let count = member_count (members_of (value_shown c.args.value)) in
    let len : c.len-place-end.result ≡ count = c.len-place-end.ensures in
    let more : c.loop-place.place < count = omega (arith, len, c.loop-place-test.true) in
    let named = c.is_named.ensures ∙ ap (is_named c.args.name.now) c.field_name.ensures in
    c.loop-place.invariant
    ∙ found_later c.args.name.now label count c.loop-place.place more (sym named ∙ c.if-is_named.false)
