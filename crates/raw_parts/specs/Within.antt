-- Values whose parts are all in a file.
use Rattle.std.specs.Prelude.{ℕ, ◌≤◌}
use Rattle.pickle_meaning.specs.Values.{Value, Mapped, Members, NoMembers, MemberThen, AbsentThen}

-- neither a value nor a part of it ends before its start, or after the bit m
abbrev mutual
  pub IsWithin : (m : ℕ) → Value → Type 0
  IsWithin m (Mapped label start end members) = (start ≤ end) × (end ≤ m) × AreWithin m members

  pub AreWithin : (m : ℕ) → Members → Type 0
  AreWithin m NoMembers = Unit {0}
  AreWithin m (MemberThen value rest) = IsWithin m value × AreWithin m rest
  AreWithin m (AbsentThen rest) = AreWithin m rest
