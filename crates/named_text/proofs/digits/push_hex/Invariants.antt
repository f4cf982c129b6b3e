use Rattle.std.proofs.Common.{◌≡◌, ◌+◌, ◌*◌, ◌++◌, take}
use Rattle.arrayvec.specs.ArrayVec.{array_vec_len}
use Rattle.named_text.specs.Digits.{hex_bytes}
use Rattle.named_text.proofs.digits.push_hex.Given as goal

abbrev pub invariant-loop-byte : goal.invariant-loop-byte
invariant-loop-byte l = record {
  text : l.text.items ≡ l.fn.text.items ++ hex_bytes (take l.byte-index l.bytes);
  len : array_vec_len l.text ≡ array_vec_len l.fn.text + 2 * l.byte-index;
}
