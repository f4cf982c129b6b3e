-- Arrays of packed structs of fixed layout.
use Rattle.std.proofs.Common.{◌≡◌, ℕ, ◌+◌, ◌*◌, ◌/◌, ◌≤◌, List, [], ◌∷◌, ◌++◌, Some, length, take, drop, refl, sym, ◌∙◌, ap, arith}
use Rattle.std.proofs.Math.Nat.{mul-zero, mul-suc, mul-div_cancel_left}
use Rattle.std.proofs.lemmas.List.{append-nil, append_assoc, length-append, take_at, drop_at}
use Rattle.pickle_meaning.specs.Values.{ArrayLabel, Value, Mapped, Levels, outer_of, pushed, gathered}
use Rattle.value_store.specs.Gathering.{records_array, last_value, IsGathering, gathering_levels, ClosesRecords}
use Rattle.value_store.specs.LayoutArrays.{joined_rows, instances_from, packed_array, HaveLength, EndsWithFamily, IsPackingLike, ClosesPacking}
use Rattle.value_store.specs.Layouts.{row_length, template_of}
use Rattle.value_store.specs.Names.{Names}
use Rattle.value_store.specs.Records.{instance, records}
use Rattle.value_store.specs.Slots.{Slots, Held, levels_at}
use Rattle.value_store.proofs.Gathering.{gathering-levels}

-- the rows of structs, side by side
module _ (stride : ℕ) where
  joined-length : (rows : List (List ℕ)) → HaveLength stride rows → length (joined_rows rows) ≡ stride * length rows
  joined-length [] h = sym (mul-zero stride)
  joined-length (row ∷ rows) h =
      omega (arith, length-append row (joined_rows rows), h.0, joined-length rows h.1, mul-suc stride (length rows))

  pub joined-count : (rows : List (List ℕ)) → 1 ≤ stride → HaveLength stride rows →
      length (joined_rows rows) / stride ≡ length rows
  joined-count rows some h =
      ap (λ (n : ℕ). n / stride) (joined-length rows h) ∙ mul-div_cancel_left (length rows) (omega (arith, some))

  pub lengths-push : (rows : List (List ℕ)) (row : List ℕ) → HaveLength stride rows → length row ≡ stride →
      HaveLength stride (rows ++ row ∷ [])
  lengths-push [] row h e = (e, tt)
  lengths-push (r ∷ rows) row h e = (h.0, lengths-push rows row h.1 e)

  records-joined : (template : Value) (size shift : ℕ) (rows : List (List ℕ)) → HaveLength stride rows →
      records template size stride shift (length rows) (joined_rows rows) ≡ instances_from template size shift rows
  records-joined template size shift [] h = refl
  records-joined template size shift (row ∷ rows) h =
      let own : take stride (row ++ joined_rows rows) ≡ row = take_at row (joined_rows rows) stride h.0 in
      let rest : drop stride (row ++ joined_rows rows) ≡ joined_rows rows = drop_at row (joined_rows rows) stride h.0 in
      ap (λ bs. Some (instance template shift bs)
      ∷ records template size stride (shift + size) (length rows) (drop stride (row ++ joined_rows rows))) own
      ∙ ap (λ bs. Some (instance template shift row) ∷ records template size stride (shift + size) (length rows) bs)
      rest
      ∙ ap (λ os. Some (instance template shift row) ∷ os) (records-joined template size (shift + size) rows h.1)

  pub array-joined : (template : Value) (size start : ℕ) (rows : List (List ℕ)) → 1 ≤ stride → HaveLength stride rows →
      records_array template size stride start (joined_rows rows) ≡ packed_array template size start rows
  array-joined template size start rows some h =
      ap (λ n. Mapped ArrayLabel start (start + size * n)
      (gathered (records template size stride 0 n (joined_rows rows)))) (joined-count rows some h)
      ∙ ap (λ os. Mapped ArrayLabel start (start + size * length rows) (gathered os))
      (records-joined template size 0 rows h)

pub joined-push : (rows : List (List ℕ)) (row : List ℕ) → joined_rows (rows ++ row ∷ []) ≡ joined_rows rows ++ row
joined-push [] row = append-nil row
joined-push (r ∷ rows) row = ap (λ bs. r ++ bs) (joined-push rows row) ∙ sym (append_assoc r (joined_rows rows) row)

-- the array is closed
pub closes-packing : (h n : Held) → ClosesRecords h n → ClosesPacking h n
closes-packing h n closes = λ names template size start rows outer p.
    let stride = row_length template in
    let array = array-joined stride template size start rows p.gathering.are.some p.lengths in
    closes names p.before size stride start (joined_rows rows) p.gathering
    ∙ ap
    (λ ls. pushed (outer_of ls) (Some (records_array (last_value names p.before) size stride start (joined_rows rows))))
    p.is
    ∙ ap (λ v. pushed outer (Some (records_array v size stride start (joined_rows rows)))) p.last
    ∙ ap (λ v. pushed outer (Some v)) array

-- an open array of such structs, from its slots
module _ (names : Names) (n : Held) (before : Slots) (template first : Value) (size start : ℕ) (rows : List (List ℕ))
    (outer : Levels) (g : IsGathering n before size (row_length template) start (joined_rows rows))
    (last : last_value names before ≡ template) (drafted : template ≡ template_of first 0)
    (family : EndsWithFamily before) (lengths : HaveLength (row_length template) rows) (few : row_length template ≤ 512)
    (inside : outer_of (levels_at names n.frames before) ≡ outer) where
  pub packing-like : IsPackingLike names n template size start rows outer
  packing-like =
      let stride = row_length template in
      record {
        is = gathering-levels n before size stride start (joined_rows rows) g names
            ∙ ap (gathering_levels names before size stride start (joined_rows rows)) inside
            ∙ ap (λ v. (Some (records_array v size stride start (joined_rows rows)) ∷ []) ∷ outer) last
            ∙ ap (λ v. (Some v ∷ []) ∷ outer) (array-joined stride template size start rows g.are.some lengths);
        before = before;
        gathering = g;
        last = last;
        first = first;
        drafted = drafted;
        family = family;
        lengths = lengths;
        few = few;
      }
