use Rattle.std.proofs.Common.{◌≡◌, map, take}
use Rattle.identity_text.specs.Identities.{fit_of}
use Rattle.identity_text.proofs.identity.without_chains.Given as goal

abbrev pub invariant-loop-own : goal.invariant-loop-own
invariant-loop-own l = l.fits.items ≡ map fit_of (take l.own-index l.ranked)
