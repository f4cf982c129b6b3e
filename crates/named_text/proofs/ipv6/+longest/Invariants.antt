use Rattle.std.proofs.Common.{length}
use Rattle.named_text.proofs.ipv6.+longest.Given as goal

abbrev pub decreases-longest : goal.decreases-longest
decreases-longest l = length l.groups.now
