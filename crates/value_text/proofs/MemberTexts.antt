-- Members from a place on.
use Rattle.std.proofs.Common.{◌≡◌, ℕ, zero, suc, add-one, ◌+◌, ◌<◌, ◌≤◌, Option, Some, None, refl, arith}
use Rattle.pickle_meaning.specs.Values.{Value, Mapped, IntegerLabel, OffsetLabel, TextLabel, ArrayLabel, StructLabel, UnionLabel, Members, NoMembers, MemberThen, AbsentThen, label_of, member_count, member_at}
use Rattle.std.specs.Prelude.{IfSome}
use Rattle.std.specs.Option.{option_map}
use Rattle.value_store.specs.declared.scalar.Scalar.{Scalar}
use Rattle.value_store.specs.Scalars.{scalar_label, scalar_if}

-- the members from a place on
abbrev pub members_from : ℕ → Members → Members
members_from zero all = all
members_from (suc i) NoMembers = NoMembers
members_from (suc i) (MemberThen value rest) = members_from i rest
members_from (suc i) (AbsentThen rest) = members_from i rest

-- these members after one more
abbrev pub with_member : Option Value → Members → Members
with_member None rest = AbsentThen rest
with_member (Some value) rest = MemberThen value rest

pub from_at : (all : Members) (i : ℕ) → i < member_count all →
    members_from i all ≡ with_member (member_at all i) (members_from (i + 1) all)
from_at all i h = rw add-one (at_suc all i h)
  where
    at_suc : (all : Members) (i : ℕ) → i < member_count all →
        members_from i all ≡ with_member (member_at all i) (members_from (suc i) all)
    at_suc NoMembers i h = absurd (omega (arith, h))
    at_suc (MemberThen value rest) zero h = refl
    at_suc (AbsentThen rest) zero h = refl
    at_suc (MemberThen value rest) (suc i) h = at_suc rest i (omega (arith, h))
    at_suc (AbsentThen rest) (suc i) h = at_suc rest i (omega (arith, h))

pub from_end : (all : Members) (i : ℕ) → member_count all ≤ i → members_from i all ≡ NoMembers
from_end NoMembers zero h = refl
from_end NoMembers (suc i) h = refl
from_end (MemberThen value rest) zero h = absurd (omega (arith, h))
from_end (AbsentThen rest) zero h = absurd (omega (arith, h))
from_end (MemberThen value rest) (suc i) h = from_end rest i (omega (arith, h))
from_end (AbsentThen rest) (suc i) h = from_end rest i (omega (arith, h))

-- a member that is an integer or an offset
pub record IsScalarOf (member : Option Value) (number : Scalar) : Type 0 where
  pub value : Value
  pub there : Some value ≡ member
  pub label : label_of value ≡ scalar_label number

pub found_scalar : (member : Option Value) (number : Scalar) → Some (scalar_label number) ≡ scalar_if member →
    IsScalarOf member number
found_scalar None number e = cc
found_scalar (Some (Mapped (IntegerLabel n t) start end all)) number e =
    record { value = Mapped (IntegerLabel n t) start end all; there = refl; label = cc }
found_scalar (Some (Mapped (OffsetLabel m t u) start end all)) number e =
    record { value = Mapped (OffsetLabel m t u) start end all; there = refl; label = cc }
found_scalar (Some (Mapped (TextLabel bytes) start end all)) number e = cc
found_scalar (Some (Mapped ArrayLabel start end all)) number e = cc
found_scalar (Some (Mapped (StructLabel name fields) start end all)) number e = cc
found_scalar (Some (Mapped (UnionLabel name index alternative) start end all)) number e = cc

-- a number that was found is that of the member, if any was
abbrev pub IsFound : Option Scalar → Option Value → Type 0
IsFound found member = IfSome found (λ number. Some (scalar_label number) ≡ scalar_if member)

pub found_if : (found : Option Scalar) (member : Option Value) → option_map scalar_label found ≡ scalar_if member →
    IsFound found member
found_if None member e = tt
found_if (Some number) member e = e

pub none_found : (found : Option Scalar) (member : Option Value) → found ≡ None → IsFound found member
none_found found member e = rw e tt
