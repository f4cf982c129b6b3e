use Rattle.std.proofs.Common.{◌≡◌, ◌+◌, ◌*◌, ◌≤◌, ◌++◌, take}
use Rattle.std.specs.List.{flat_map}
use Rattle.arrayvec.specs.ArrayVec.{array_vec_len}
use Rattle.named_text.specs.Addresses.{colon_group}
use Rattle.named_text.proofs.ipv6.push_more.Given as goal

abbrev pub invariant-loop-group : goal.invariant-loop-group
invariant-loop-group l = record {
  text : l.text.items ≡ l.fn.text.items ++ flat_map colon_group (take l.group-index l.groups);
  len : array_vec_len l.text ≤ array_vec_len l.fn.text + 5 * l.group-index;
}
