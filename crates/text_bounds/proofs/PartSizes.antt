-- The sizes of a value's parts.
use Rattle.std.proofs.Common.{◌≡◌, ℕ, zero, suc, ◌≤◌, Option, Some, arith, subst}
use Rattle.pickle_meaning.specs.Values.{Value, Mapped, Members, NoMembers, MemberThen, AbsentThen, member_at, members_of}
use Rattle.command_line.specs.declared.path.Path.{Path}
use Rattle.poke_batch.specs.PathParts.{part_at}
use Rattle.poke_batch.proofs.PartsKept.{same_value, part_keeps}
use Rattle.text_bounds.specs.declared.form.Form.{Form}
use Rattle.text_bounds.specs.TextRoom.{Size}
use Rattle.text_bounds.proofs.Within.{Within}
use Rattle.text_bounds.proofs.Sizes.{size_in}

module _ (form : Form) where
  abbrev mutual
    -- a value and all its parts have at most so many bytes
    pub AllWithin : (most : ℕ) → Value → Type 0
    AllWithin most (Mapped label start end members) =
        ((size_in form (Mapped label start end members)).text ≤ most) × PartsWithin most members

    pub PartsWithin : (most : ℕ) → Members → Type 0
    PartsWithin most NoMembers = Unit {0}
    PartsWithin most (AbsentThen rest) = PartsWithin most rest
    PartsWithin most (MemberThen value rest) = AllWithin most value × PartsWithin most rest

  mutual
    pub all_more : (a b : ℕ) → a ≤ b → (value : Value) → AllWithin a value → AllWithin b value
    all_more a b le (Mapped label start end members) h = (omega (arith, le, h.0), parts_more a b le members h.1)

    pub parts_more : (a b : ℕ) → a ≤ b → (members : Members) → PartsWithin a members → PartsWithin b members
    parts_more a b le NoMembers h = tt
    parts_more a b le (AbsentThen rest) h = parts_more a b le rest h
    parts_more a b le (MemberThen value rest) h = (all_more a b le value h.0, parts_more a b le rest h.1)

  -- a value within a size, whose parts have no more bytes
  pub record IsBounded (value : Value) (room : Size) : Type 0 where
    pub size : Within (size_in form value) room
    pub parts : PartsWithin room.text (members_of value)

  pub all_of : (value : Value) {room : Size} → IsBounded value room → AllWithin room.text value
  all_of (Mapped label start end members) h = (h.size.text, h.parts)

  member_within : (most : ℕ) (members : Members) (place : ℕ) (part : Value) → PartsWithin most members →
      member_at members place ≡ Some part → AllWithin most part
  member_within most NoMembers place part h e = cc
  member_within most (MemberThen value rest) zero part h e = subst (AllWithin most) (same_value value part e) h.0
  member_within most (MemberThen value rest) (suc place) part h e = member_within most rest place part h.1 e
  member_within most (AbsentThen rest) zero part h e = cc
  member_within most (AbsentThen rest) (suc place) part h e = member_within most rest place part h e

  part_within : (most : ℕ) (value part : Value) (place : ℕ) → AllWithin most value →
      member_at (members_of value) place ≡ Some part → AllWithin most part
  part_within most (Mapped label start end members) part place h e = member_within most members place part h.1 e

  within : (most : ℕ) (value : Value) → AllWithin most value → (size_in form value).text ≤ most
  within most (Mapped label start end _) h = h.0

  pub asked_within : (most : ℕ) (path : Option Path) (value part : Value) → AllWithin most value →
      part_at path value ≡ Some part → (size_in form part).text ≤ most
  asked_within most path value part h e =
      within most part (part_keeps (AllWithin most) (part_within most) path value part h e)
