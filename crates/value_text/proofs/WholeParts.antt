-- The parts of a value beside its type.
use denote.Bor.{Bor}
use Rattle.std.proofs.Common.{◌≡◌, ℕ, ◌+◌, ◌<◌, List, Option, Some, None, false, inl, inr, sym, ◌∙◌, ap, arith}
use Rattle.std.specs.Prelude.{IfSome}
use Rattle.std.specs.Option.{option_map}
use Rattle.std.proofs.lemmas.Bool.{cases_Bool}
use Rattle.pickle_types.specs.declared.integer.IntegerType.{IntegerType}
use Rattle.pickle_meaning.specs.Values.{label_of, members_of, member_at, member_count}
use Rattle.value_store.specs.declared.value.ValueRef.{ValueRef}
use Rattle.value_store.specs.Integers.{AreIntegersOf, AreBytesOf}
use Rattle.value_store.specs.Refs.{value_shown}
use Rattle.value_store.specs.Scalars.{scalar_if}
use Rattle.value_text.specs.declared.typed.Typed.{Typed}
use Rattle.value_text.specs.CharTexts.{with_texts}
use Rattle.value_text.specs.TypedValue.{nodes_in, char_node_in, value_in, types_in, node_in, mapped_in, part_node_in, is_of_chars, typed_shown}
use Rattle.value_text.proofs.CharTexts.{seen_scalar, seen_text, seen_other, parts_count, parts_at, bytes_seen, integers_seen}

-- a part is shown by its own type
pub part_shown : (t b : Typed) (part : ValueRef) (place : ℕ) → value_in b ≡ part → types_in b ≡ types_in t
    → node_in b ≡ part_node_in t place
    → typed_shown b
    ≡ with_texts (nodes_in (types_in t)) (char_node_in (types_in t)) (part_node_in t place) (value_shown part)
part_shown t b part place v y n =
    ap (λ r. with_texts (nodes_in (types_in b)) (char_node_in (types_in b)) (node_in b) (value_shown r)) v
    ∙ ap (λ types. with_texts (nodes_in types) (char_node_in types) (node_in b) (value_shown part)) y
    ∙ ap (λ of. with_texts (nodes_in (types_in t)) (char_node_in (types_in t)) of (value_shown part)) n

module _ (t : Typed) where
  pub whole_count : is_of_chars t ≡ false →
      member_count (members_of (typed_shown t)) ≡ member_count (members_of (mapped_in t))
  whole_count other =
      ap (λ v. member_count (members_of v))
      (seen_other (nodes_in (types_in t)) (char_node_in (types_in t)) (node_in t) (mapped_in t) other)
      ∙ parts_count (nodes_in (types_in t)) (char_node_in (types_in t)) (node_in t) (label_of (mapped_in t)) 0
      (members_of (mapped_in t))

  -- an array of chars has no parts
  no_text : (place : ℕ) → place < member_count (members_of (typed_shown t)) → is_of_chars t ≡ false
  no_text place lt = elim (cases_Bool (is_of_chars t)) [
    | inl hit ↦
        (let none : member_count (members_of (typed_shown t)) ≡ 0 =
        ap (λ v. member_count (members_of v))
        (seen_text (nodes_in (types_in t)) (char_node_in (types_in t)) (node_in t) (mapped_in t) hit) in
        absurd (omega (arith, lt, none)))
    | inr miss ↦ miss
  ]

  pub whole_at : (place : ℕ) → place < member_count (members_of (typed_shown t))
      → member_at (members_of (typed_shown t)) place
      ≡ option_map (with_texts (nodes_in (types_in t)) (char_node_in (types_in t)) (part_node_in t place))
      (member_at (members_of (mapped_in t)) place)
  whole_at place lt =
      let here : 0 + place ≡ place = omega arith in
      ap (λ v. member_at (members_of v) place)
      (seen_other (nodes_in (types_in t)) (char_node_in (types_in t)) (node_in t) (mapped_in t) (no_text place lt))
      ∙ parts_at (nodes_in (types_in t)) (char_node_in (types_in t)) (node_in t) (label_of (mapped_in t)) 0
      (members_of (mapped_in t)) place
      ∙ ap (λ n. option_map (with_texts (nodes_in (types_in t)) (char_node_in (types_in t)) (part_node_in t n))
      (member_at (members_of (mapped_in t)) place)) here

  pub whole_scalar : (place : ℕ) → place < member_count (members_of (typed_shown t)) →
      scalar_if (member_at (members_of (mapped_in t)) place) ≡ scalar_if (member_at (members_of (typed_shown t)) place)
  whole_scalar place lt =
      sym (ap scalar_if (whole_at place lt)
      ∙ seen_scalar (nodes_in (types_in t)) (char_node_in (types_in t)) (part_node_in t place)
      (member_at (members_of (mapped_in t)) place))

  pub whole_bytes : (row : Option (IntegerType × Bor (List ℕ))) → is_of_chars t ≡ false
      → IfSome row (λ r. AreBytesOf r.0 r.1.now (mapped_in t))
      → IfSome row (λ r. AreBytesOf r.0 r.1.now (typed_shown t))
  whole_bytes None other h = tt
  whole_bytes (Some r) other h =
      bytes_seen (nodes_in (types_in t)) (char_node_in (types_in t)) (node_in t) r.0 r.1.now (mapped_in t) other h

  pub whole_integers : (row : Option IntegerType) → is_of_chars t ≡ false
      → IfSome row (λ type. AreIntegersOf type (members_of (mapped_in t)))
      → IfSome row (λ type. AreIntegersOf type (members_of (typed_shown t)))
  whole_integers None other h = tt
  whole_integers (Some type) other h =
      integers_seen (nodes_in (types_in t)) (char_node_in (types_in t)) (node_in t) type (mapped_in t) other h
