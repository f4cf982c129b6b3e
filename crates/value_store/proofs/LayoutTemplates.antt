-- The templates of values of fixed layout, for structs of other bytes.
use Rattle.std.proofs.Common.{◌≡◌, ℕ, ◌+◌, ◌-◌, ◌*◌, ◌/◌, ◌^◌, ◌<◌, ◌≤◌, List, ◌∷◌, Option, length, take, drop, map, pos, refl, sym, ◌∙◌, ap, subst, arith}
use Rattle.std.specs.Prelude.{unsigned_abs}
use Rattle.std.proofs.Math.Nat.{mul-div_cancel_left}
use Rattle.value_store.specs.declared.store.slots.Shape.{Shape}
use Rattle.value_store.specs.declared.store.slots.Shape.TheVariants.{Integer, Offset, Text, Integers, Offsets, Records, Array, Struct, Union}
use Rattle.pickle_types.specs.declared.integer.IntegerType.{IntegerType}
use Rattle.pickle_meaning.specs.Values.{Label, IntegerLabel, OffsetLabel, TextLabel, ArrayLabel, StructLabel, UnionLabel, Value, Mapped, Members, NoMembers, MemberThen, AbsentThen, label_of, members_of, gathered}
use Rattle.value_store.specs.Layouts.{label_length, label_place, row_length, template_of, templates_of, FitsBits, FitsLabel, FitsRow, FitsRows}
use Rattle.value_store.specs.Names.{Names}
use Rattle.value_store.specs.Packed.{bytes_for, bytes_number}
use Rattle.value_store.specs.Slots.{Slots, part, opened, trees, value_at, label_in, number_in, number_bits, parts_in, family_links, LinksBelow, IsNumber, IsComposite, IsTemplatePart, NumberPart, BranchPart, AreTemplateParts, NoParts, PartThen, AbsentPartThen, IsTemplate, IsSound}
use Rattle.value_store.proofs.Found.{node_sound, read-node}
use Rattle.value_store.proofs.Grown.{length-trees, opened-take}
use Rattle.value_store.proofs.Instances.{link-value}
use Rattle.value_store.proofs.Linked.{node_there}
use Rattle.value_store.proofs.Placed.{family-links}
use Rattle.value_store.proofs.RecordsRead.{small-place}

composite-parts : (s : Slots) (ts : List Value) (shape : Shape) (start c : ℕ) → IsComposite shape →
    parts_in s ts shape start c ≡ map (opened ts) (family_links s.families s.links c)
composite-parts s ts (Integer w g) start c h = absurd h
composite-parts s ts (Offset w g u) start c h = absurd h
composite-parts s ts Text start c h = absurd h
composite-parts s ts (Integers w g) start c h = absurd h
composite-parts s ts (Offsets w g u) start c h = absurd h
composite-parts s ts (Records stride size) start c h = absurd h
composite-parts s ts Array start c h = refl
composite-parts s ts (Struct t) start c h = refl
composite-parts s ts (Union t i) start c h = refl

module _ (names : Names) (s : Slots) (sound : IsSound s) (size stride start : ℕ) (row : List ℕ)
    (whole : length row ≡ stride) (some : 1 ≤ stride) (few : stride ≤ 2 ^ 16) where
  -- the place of a number's bytes is the content of its node
  number-again : (shape : Shape) (c at : ℕ) (label : Label) → IsNumber shape → c ≤ 2 ^ 16 →
      label_in names s shape c ≡ label_place label at → FitsLabel label at row → FitsBits (number_bits shape) c row
  number-again (Integer w g) c at (IntegerLabel z type) n most e h =
      let own : number_in g c ≡ pos at = cc in
      let place : at ≡ c = sym (ap unsigned_abs own) ∙ small-place g c most in
      let same : type ≡ record { width = w; signed = g } = cc in
      subst (λ (t : IntegerType). FitsBits t.width c row) same (subst (λ n. FitsBits type.width n row) place h)
  number-again (Integer w g) c at (OffsetLabel z type unit) n most e h = absurd (cc)
  number-again (Integer w g) c at (TextLabel bytes) n most e h = absurd (cc)
  number-again (Integer w g) c at ArrayLabel n most e h = absurd (cc)
  number-again (Integer w g) c at (StructLabel name fields) n most e h = absurd (cc)
  number-again (Integer w g) c at (UnionLabel name index alternative) n most e h = absurd (cc)
  number-again (Offset w g u) c at (IntegerLabel z type) n most e h = absurd (cc)
  number-again (Offset w g u) c at (OffsetLabel z type unit) n most e h =
      let own : number_in g c ≡ pos at = cc in
      let place : at ≡ c = sym (ap unsigned_abs own) ∙ small-place g c most in
      let same : type ≡ record { width = w; signed = g } = cc in
      subst (λ (t : IntegerType). FitsBits t.width c row) same (subst (λ n. FitsBits type.width n row) place h)
  number-again (Offset w g u) c at (TextLabel bytes) n most e h = absurd (cc)
  number-again (Offset w g u) c at ArrayLabel n most e h = absurd (cc)
  number-again (Offset w g u) c at (StructLabel name fields) n most e h = absurd (cc)
  number-again (Offset w g u) c at (UnionLabel name index alternative) n most e h = absurd (cc)
  number-again Text c at label n most e h = absurd n
  number-again (Integers w g) c at label n most e h = absurd n
  number-again (Offsets w g u) c at label n most e h = absurd n
  number-again (Records x y) c at label n most e h = absurd n
  number-again Array c at label n most e h = absurd n
  number-again (Struct t) c at label n most e h = absurd n
  number-again (Union t i) c at label n most e h = absurd n

  -- there is one struct
  only : (w c i : ℕ) → i < length row / stride → FitsBits w c row →
      bytes_number (part (stride * i + c) (bytes_for w) row) < 2 ^ w
  only w c i p h =
      let all : length row ≡ stride * 1 = omega (arith, whole) in
      let one : length row / stride ≡ 1 = ap (λ n. n / stride) all ∙ mul-div_cancel_left 1 (omega (arith, some)) in
      let none : 0 ≡ i = omega (arith, p, one) in
      let first : c ≡ stride * 0 + c = omega arith in
      subst (λ k. bytes_number (part (stride * k + c) (bytes_for w) row) < 2 ^ w) none
      (subst (λ k. bytes_number (take (bytes_for w) (drop k row)) < 2 ^ w) first h)

  mutual
    part-again : {bytes : List ℕ} {j : ℕ} (v : Value) (at : ℕ) → IsTemplatePart s size stride start bytes j →
        value_at names s j ≡ template_of v at → FitsRow v at row → IsTemplatePart s size stride start row j
    part-again (Mapped label st en ms) at (NumberPart {j} column) e h =
        let n = column.node in
        let r = read-node s j n sound column.found in
        let fits = number-again n.shape n.content at label column.number (omega (arith, column.fits, few))
        (sym (r.label names) ∙ ap label_of e) h.0 in
        NumberPart (record {
          node = n;
          found = column.found;
          number = column.number;
          fits = column.fits;
          within = column.within;
          below = λ i p. only (number_bits n.shape) n.content i p fits;
        })
    part-again (Mapped label st en ms) at (BranchPart {j} branch parts) e h =
        let n = branch.node in
        let r = read-node s j n sound branch.found in
        let ls = family_links s.families s.links n.content in
        let own : LinksBelow j ls = subst (LinksBelow j) (family-links s n.shape n.content branch.composite)
        (node_sound s j n sound branch.found).below in
        let there = node_there (BranchPart branch parts) in
        let values : gathered (map (opened (trees names s)) ls) ≡ templates_of ms (at + label_length label) =
        ap gathered (sym (opened-take j (trees names s) ls (omega (arith, there, length-trees names s)) own))
        ∙ ap gathered (sym (composite-parts s (take j (trees names s)) n.shape n.start n.content branch.composite))
        ∙ sym (r.members names) ∙ ap members_of e in
        BranchPart branch (parts-again ms (at + label_length label) parts values h.1)

    parts-again : {bytes : List ℕ} {ls : List (Option ℕ)} (ms : Members) (at : ℕ) →
        AreTemplateParts s size stride start bytes ls →
        gathered (map (opened (trees names s)) ls) ≡ templates_of ms at → FitsRows ms at row →
        AreTemplateParts s size stride start row ls
    parts-again ms at NoParts e h = NoParts
    parts-again NoMembers at (PartThen {j} {ls} part rest) e h =
        let found = link-value s names j (node_there part) in
        let whole = ap (λ o. gathered (o ∷ map (opened (trees names s)) ls)) (sym found) ∙ e in
        absurd (cc)
    parts-again (MemberThen v others) at (PartThen {j} {ls} part rest) e h =
        let found = link-value s names j (node_there part) in
        let whole = ap (λ o. gathered (o ∷ map (opened (trees names s)) ls)) (sym found) ∙ e in
        let first : value_at names s j ≡ template_of v at = cc in
        let after : gathered (map (opened (trees names s)) ls) ≡ templates_of others (at + row_length v) = cc in
        PartThen (part-again v at part first h.0) (parts-again others (at + row_length v) rest after h.1)
    parts-again (AbsentThen others) at (PartThen {j} {ls} part rest) e h =
        let found = link-value s names j (node_there part) in
        let whole = ap (λ o. gathered (o ∷ map (opened (trees names s)) ls)) (sym found) ∙ e in
        absurd (cc)
    parts-again NoMembers at (AbsentPartThen rest) e h = absurd (cc)
    parts-again (MemberThen v others) at (AbsentPartThen rest) e h = absurd (cc)
    parts-again (AbsentThen others) at (AbsentPartThen {ls} rest) e h =
        let after : gathered (map (opened (trees names s)) ls) ≡ templates_of others at = cc in
        AbsentPartThen (parts-again others at rest after h)

  -- the template of some structs is that of another struct of the same layout
  pub template-again : (i : ℕ) (bytes : List ℕ) (v : Value) → IsTemplate s i size stride start bytes →
      value_at names s (i - 1) ≡ template_of v 0 → FitsRow v 0 row → IsTemplate s i size stride start row
  template-again i bytes v t e h = record {
    some = t.some;
    node = t.node;
    found = t.found;
    type = t.type;
    shape = t.shape;
    begins = t.begins;
    sized = t.sized;
    few = t.few;
    part = part-again v 0 t.part e h;
  }
