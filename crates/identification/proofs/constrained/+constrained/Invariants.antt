use Rattle.std.proofs.Common.{◌≡◌, ◌+◌, ◌-◌, ◌*◌, ◌≤◌, drop}
use Rattle.pickle_types.specs.Table.{type_of, open_fields, open_parts}
use Rattle.pickle_meaning.specs.Values.{members_of, member_count}
use Rattle.value_store.specs.Owners.{owner_of}
use Rattle.value_store.specs.Refs.{value_shown}
use Rattle.identification.specs.Constrained.{capped, bits_inside, fields_bits, digits_bits, elements_bits}
use Rattle.identification.proofs.constrained.+constrained.Given as goal

abbrev pub decreases-bits_inside : goal.decreases-bits_inside
decreases-bits_inside l = 8 * l.at + 3

abbrev pub decreases-elements_bits : goal.decreases-elements_bits
decreases-elements_bits l = 8 * l.element + 7

abbrev pub decreases-element_bits : goal.decreases-element_bits
decreases-element_bits l = 8 * l.element + 6

abbrev pub decreases-field_bits : goal.decreases-field_bits
decreases-field_bits l = 8 * l.below

abbrev pub decreases-digit_bits : goal.decreases-digit_bits
decreases-digit_bits l = 8 * l.below

abbrev pub decreases-alternative_bits : goal.decreases-alternative_bits
decreases-alternative_bits l = 8 * l.below

abbrev pub decreases-part_bits : goal.decreases-part_bits
decreases-part_bits l = 8 * l.at + 5

abbrev pub decreases-number_bits : goal.decreases-number_bits
decreases-number_bits l = 8 * l.at + 4

abbrev pub decreases-member_bits : goal.decreases-member_bits
decreases-member_bits l = 8 * l.at + 6

abbrev pub invariant-elements_bits-loop-place : goal.invariant-elements_bits-loop-place
invariant-elements_bits-loop-place l =
    let inside = members_of (value_shown (owner_of l.members)) in
    let each = bits_inside (type_of l.nodes l.fn.element) in
    record {
      small : l.bits ≤ 18446744073709551615;
      so_far : capped (elements_bits each inside (member_count inside) 0)
          ≡ capped (l.bits + elements_bits each inside (member_count inside - l.place) l.place);
    }

abbrev pub invariant-field_bits-loop-place : goal.invariant-field_bits-loop-place
invariant-field_bits-loop-place l =
    let inside = members_of (value_shown (owner_of l.members)) in
    let types = type_of l.nodes in
    record {
      small : l.bits ≤ 18446744073709551615;
      so_far : capped (fields_bits (open_fields types l.fields) inside 0)
          ≡ capped (l.bits + fields_bits (open_fields types (drop l.place l.fields)) inside l.place);
    }

abbrev pub invariant-digit_bits-loop-place : goal.invariant-digit_bits-loop-place
invariant-digit_bits-loop-place l =
    let inside = members_of (value_shown (owner_of l.members)) in
    let types = type_of l.nodes in
    record {
      small : l.bits ≤ 18446744073709551615;
      so_far : capped (digits_bits (open_parts types l.parts) inside 0)
          ≡ capped (l.bits + digits_bits (open_parts types (drop l.place l.parts)) inside l.place);
    }
