-- The fields of a struct of numbers, as they are mapped.
use Rattle.std.proofs.Common.{◌≡◌, ℕ, ◌+◌, ◌<◌, ◌^◌, length, List, [], ◌∷◌, ◌++◌, None, refl, sym, ap, subst, ◌∙◌}
use Rattle.std.proofs.lemmas.List.{length_push, append-nil, append_assoc, length-append, take_at, take_all}
use Rattle.pickle_types.specs.declared.node.Field.{Field}
use Rattle.pickle_types.specs.Types.{PokeType}
use Rattle.pickle_types.specs.Table.{optional_term, open_fields}
use Rattle.bit_space.specs.declared.order.Order.{Order}
use Rattle.std.specs.Prelude.{Bool, false, Some, Ok, ◌≤◌}
use Rattle.std.proofs.Common.{arith}
use Rattle.pickle_meaning.specs.Clauses.{field_start, condition}
use Rattle.pickle_meaning.specs.Means.{ordered}
use Rattle.pickle_meaning.specs.Values.{Value, end_of, Levels, pushed}
use Rattle.mapping_plans.specs.Mapping.{fields_plan}
use Rattle.pickle_map.specs.declared.mapper.stop.Stop.{Stop}
use Rattle.pickle_map.specs.Follows.{World, Follows, Done, Partly}
use Rattle.pickle_map.specs.Stops.{stop_finish}
use Rattle.value_store.specs.Moves.{Places, State, state_of, moved}
use Rattle.pickle_map.proofs.Mapping.{checked, field_stops, field_goes}
use Rattle.mapping_plans.specs.Avoids.{ClauseAvoids, IsScalar, AreColumns}
use Rattle.pickle_map.specs.Columns.{PlacesMore, AddsDigits, AddsColumns, after_columns}
use Rattle.value_store.proofs.PackedStructs.{bits-push}
use Rattle.value_store.specs.declared.store.slots.Node.{Node as SlotNode}
use Rattle.value_store.specs.declared.store.slots.Shape.{Shape}
use Rattle.value_store.specs.Columns.{links_to, with_numbers}
use Rattle.value_store.specs.Lent.{numbered}
use Rattle.value_store.specs.Packed.{bytes_for, number_bytes}
use Rattle.value_store.specs.PackedStructs.{AreDigits, fields, struct_bits, struct_row}
use Rattle.value_store.specs.Slots.{Slots, Held, HoldsInRoom, Regrown, cut_to, marks_of, number_bits, packs}
use Rattle.value_store.proofs.Numbers.{numbers-none}
use Rattle.value_store.proofs.Packed.{length-number_bytes}

-- the first of some fields that are numbers
pub first_column : (types : ℕ → PokeType) (fs : List Field) (f : Field) (rest : List Field) → fs ≡ f ∷ rest →
    AreColumns (open_fields types fs) →
    IsScalar (types f.node) × ClauseAvoids 1 (optional_term f.constraint) × (optional_term f.label ≡ None)
    × (optional_term f.condition ≡ None) × AreColumns (open_fields types rest)
first_column types fs f rest is h = subst (λ (gs : List Field). AreColumns (open_fields types gs)) is h

-- ---- numbers, one after the other

digits_more : (cs : List Shape) (ds : List ℕ) (c : Shape) (d : ℕ) → AreDigits cs ds → d < 2 ^ number_bits c →
    AreDigits (cs ++ c ∷ []) (ds ++ d ∷ [])
digits_more [] [] c d h lt = (lt, tt)
digits_more [] (e ∷ ds) c d h lt = absurd h
digits_more (b ∷ cs) [] c d h lt = absurd h
digits_more (b ∷ cs) (e ∷ ds) c d h lt = (h.0, digits_more cs ds c d h.1 lt)

fields_more : (cs : List Shape) (ds : List ℕ) (c : Shape) (d start place : ℕ) → AreDigits cs ds →
    place ≡ start + struct_bits cs →
    fields (cs ++ c ∷ []) start (ds ++ d ∷ []) ≡ fields cs start ds ++ Some (numbered c place d) ∷ []
fields_more [] [] c d start place h e = let same : place ≡ start = omega (arith, e) in rw same refl
fields_more [] (x ∷ ds) c d start place h e = absurd h
fields_more (b ∷ cs) [] c d start place h e = absurd h
fields_more (b ∷ cs) (x ∷ ds) c d start place h e =
    ap (λ r. Some (numbered b start x) ∷ r) (fields_more cs ds c d (start + number_bits b) place h.1 (omega (arith, e)))

row_more : (cs : List Shape) (ds : List ℕ) (c : Shape) (d : ℕ) → AreDigits cs ds →
    struct_row (cs ++ c ∷ []) (ds ++ d ∷ []) ≡ struct_row cs ds ++ number_bytes (bytes_for (number_bits c)) d
row_more [] [] c d h = append-nil (number_bytes (bytes_for (number_bits c)) d)
row_more [] (x ∷ ds) c d h = absurd h
row_more (b ∷ cs) [] c d h = absurd h
row_more (b ∷ cs) (x ∷ ds) c d h =
    let own = number_bytes (bytes_for (number_bits b)) x in
    ap (λ r. own ++ r) (row_more cs ds c d h.1)
    ∙ sym (append_assoc own (struct_row cs ds) (number_bytes (bytes_for (number_bits c)) d))

columns_state : (h : Held) (b : Bool) (i n : ℕ) → n ≡ i + 1 →
    moved b Places (after_columns i (state_of h)) ≡ after_columns n (state_of h)
columns_state h b i n e =
    let nodes : (length h.slots.nodes + i) + 1 ≡ length h.slots.nodes + n = omega (arith, e) in
    let pending : (length h.slots.pending + i) + 1 ≡ length h.slots.pending + n = omega (arith, e) in
    rw (nodes, pending) refl

-- no field is mapped yet
pub adds_none : (h : Held) (start : ℕ) (row : List ℕ) → HoldsInRoom h → AddsColumns h h [] start start row row
adds_none h start row holds = record {
  within = holds;
  digits = [];
  are = tt;
  state =
      let nodes : length h.slots.nodes ≡ length h.slots.nodes + 0 = omega arith in
      let pending : length h.slots.pending ≡ length h.slots.pending + 0 = omega arith in rw (← nodes, ← pending) refl;
  more = λ names top outer is. is ∙ ap (λ l. l ∷ outer) (sym (append-nil top));
  bytes = sym (append-nil row);
  ends = omega arith;
}

-- one field more
pub adds_more : (s0 s1 s2 : Held) (cs : List Shape) (c : Shape) (start place end : ℕ) (row0 row1 row2 : List ℕ) →
    AddsColumns s0 s1 cs start place row0 row1 → AddsDigits s1 s2 c place end row1 row2 →
    AddsColumns s0 s2 (cs ++ c ∷ []) start end row0 row2
adds_more s0 s1 s2 cs c start place end row0 row1 row2 h g = record {
  digits = h.digits ++ g.digits ∷ [];
  are = digits_more cs h.digits c g.digits h.are g.below;
  more = λ names top outer is.
      g.more names ∙ ap (λ ls. pushed ls (Some (numbered c place g.digits))) (h.more names top outer is)
      ∙ ap (λ l. l ∷ outer) (append_assoc top (fields cs start h.digits) (Some (numbered c place g.digits) ∷ [])
      ∙ ap (λ l. top ++ l) (sym (fields_more cs h.digits c g.digits start place h.are h.ends)));
  within = g.within;
  state = g.moves ∙ ap (moved (packs s1.room) Places) h.state
      ∙ columns_state s0 (packs s1.room) (length cs) (length (cs ++ c ∷ [])) (length_push cs c);
  bytes = g.bytes ∙ ap (λ r. r ++ number_bytes (bytes_for (number_bits c)) g.digits) h.bytes
      ∙ append_assoc row0 (struct_row cs h.digits) (number_bytes (bytes_for (number_bits c)) g.digits)
      ∙ ap (λ r. row0 ++ r) (sym (row_more cs h.digits c g.digits h.are));
  ends = omega (arith, h.ends, g.ends, bits-push cs c);
}

pub adds_length : (h n : Held) (c : Shape) (start end : ℕ) (row row' : List ℕ) → AddsDigits h n c start end row row' →
    length row' ≡ length row + bytes_for (number_bits c)
adds_length h n c start end row row' g =
    let own = number_bytes (bytes_for (number_bits c)) g.digits in
    ap length g.bytes ∙ omega (arith, length-append row own, length-number_bytes (bytes_for (number_bits c)) g.digits)

-- nothing but numbers was placed
pub places_none : (h n : Held) → Regrown h n → PlacesMore h n
places_none h n e = record {
  numbers = [];
  slots = ap (λ (x : Held). x.slots) e ∙ numbers-none h.slots;
  frames = ap (λ (x : Held). x.frames) e;
}

links_more : (first : ℕ) (ns ms : List SlotNode) →
    links_to first (ns ++ ms) ≡ links_to first ns ++ links_to (first + length ns) ms
links_more first [] ms = let e : first ≡ first + 0 = omega arith in ap (λ i. links_to i ms) e
links_more first (n ∷ ns) ms =
    let e : first + 1 + length ns ≡ first + length (n ∷ ns) = omega arith in
    ap (λ ls. Some first ∷ ls) (links_more (first + 1) ns ms ∙ ap (λ i. links_to (first + 1) ns ++ links_to i ms) e)

pub places_more : (h n m : Held) → PlacesMore h n → PlacesMore n m → PlacesMore h m
places_more h n m a b =
    let s = h.slots in
    let nodes : (s.nodes ++ a.numbers) ++ b.numbers ≡ s.nodes ++ (a.numbers ++ b.numbers) =
    append_assoc s.nodes a.numbers b.numbers in
    let pending : (s.pending ++ links_to (length s.nodes) a.numbers)
    ++ links_to (length (s.nodes ++ a.numbers)) b.numbers
    ≡ s.pending ++ links_to (length s.nodes) (a.numbers ++ b.numbers) =
    append_assoc s.pending _ _
    ∙ ap (λ ls. s.pending ++ ls)
    (ap (λ i. links_to (length s.nodes) a.numbers ++ links_to i b.numbers) (length-append s.nodes a.numbers)
    ∙ sym (links_more (length s.nodes) a.numbers b.numbers)) in
    record {
      numbers = a.numbers ++ b.numbers;
      slots = b.slots ∙ ap (with_numbers b.numbers) a.slots ∙ rw (nodes, pending) refl;
      frames = b.frames ∙ a.frames;
    }

-- the frame of the numbers is given up
pub cut_numbers : (numbers : List SlotNode) (s : Slots) → cut_to (marks_of s) (with_numbers numbers s) ≡ s
cut_numbers numbers s =
    let nodes = take_at s.nodes numbers (length s.nodes) refl in
    let pending = take_at s.pending (links_to (length s.nodes) numbers) (length s.pending) refl in
    let families = take_all (length s.families) s.families (omega arith) in
    let links = take_all (length s.links) s.links (omega arith) in
    let texts = take_all (length s.texts) s.texts (omega arith) in
    let bytes = take_all (length s.bytes) s.bytes (omega arith) in
    rw (nodes, pending, families, links, texts, bytes) refl

-- a field that is a number, with its steps
module _ {world : World} {limit : ℕ} (types : ℕ → PokeType) (m s : ℕ) (fs : List Field) (order : Order)
    (levels : Levels) (place : ℕ) {k j : ℕ} {state : State} (f : Field) (rest : List Field) (is : fs ≡ f ∷ rest)
    (unlabelled : optional_term f.label ≡ None) (present : optional_term f.condition ≡ None)
    {k1 j1 limit1 : ℕ} (el : limit1 ≡ limit) (ek : k1 ≡ k + 1) (ej : j1 ≡ j) {k' j' : ℕ} {state' : State} where
  pub column_stops : (stop : Stop) →
      Follows world limit1 (checked m (types f.node) (optional_term f.constraint) (ordered f.order order) levels place)
      k1 j1 state k' j' state' (stop_finish stop) →
      Follows world limit (fields_plan m false s (open_fields types fs) order levels place place) k j state k' j'
      state' (stop_finish stop)
  unfolding field_start condition
  column_stops stop h =
      field_stops types m false s fs order levels place place f rest is el ek ej {k2 = k1} refl
      (rw present (refl, omega arith)) {k3 = k1} refl refl place (rw unlabelled (refl, omega arith)) refl stop h

  pub column_goes : (v : Value) (end : ℕ) → end_of v ≡ end → place ≤ end →
      Follows world limit1 (checked m (types f.node) (optional_term f.constraint) (ordered f.order order) levels place)
      k1 j1 state k' j' state' (Done (Ok v)) →
      Follows world limit (fields_plan m false s (open_fields types fs) order levels place place) k j state k' j' state'
      (Partly (fields_plan m false s (open_fields types rest) order (pushed levels (Some v)) end end))
  unfolding field_start condition
  column_goes v end ends le h =
      field_goes types m false s fs order levels place place f rest is el ek ej {k2 = k1} refl
      (rw present (refl, omega arith)) {k3 = k1} refl refl place (rw unlabelled (refl, omega arith)) refl v end end ends
      (omega (arith, le)) h
