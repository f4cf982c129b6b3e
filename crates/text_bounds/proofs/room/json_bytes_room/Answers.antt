use Rattle.std.proofs.Common.{[], ◌∷◌, length, take, get_or, ap, arith, length-append}
use Rattle.std.proofs.lemmas.List.{take_more}
use Rattle.poke_batch.specs.JsonText.{json_escape}
use Rattle.poke_batch.specs.ValueText.{spelled, spelled_byte}
use Rattle.value_text.proofs.StringTexts.{bytes_append}
use Rattle.text_bounds.proofs.room.json_bytes_room.Goals as goal

pub loop-byte-preserved : goal.loop-byte-preserved
loop-byte-preserved c =
    let bytes = c.args.bytes.now in
    let at = c.loop-byte.byte-index in
    let more = ap (λ xs. length (spelled json_escape xs)) (take_more bytes at 0 (omega arith)) in
    let split = ap length (bytes_append json_escape (take at bytes) (get_or bytes at 0 ∷ [])) in
    let two = length-append (spelled json_escape (take at bytes)) (spelled json_escape (get_or bytes at 0 ∷ [])) in
    let one = length-append (spelled_byte json_escape (get_or bytes at 0)) [] in
    record {
      so_far = omega (arith, c.loop-byte.invariant.so_far, c.json_byte_room-room.ensures.count, more, split, two, one);
      few = omega (arith, c.loop-byte.invariant.few, c.json_byte_room-room.ensures.few);
    }
