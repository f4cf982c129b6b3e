-- The place of the innermost field of each name.
use Rattle.std.proofs.Common.{◌≡◌, ℕ, suc, ◌+◌, ◌-◌, ◌<◌, ◌≤◌, List, [], ◌∷◌, ◌++◌, take, get_or, length, Option, Some, None, Bool, true, false, refl, sym, ap, subst, ◌∙◌, arith, inl, inr}
use denote.Bor.{Bor}
use Rattle.std.specs.Prelude.{if◌then◌else◌, slice_get, option_map, IfSome, IsSome}
use Rattle.std.specs.Str.{bytes_eq}
use Rattle.std.specs.Cmp.Lexicographic.{bytes_decides}
use Rattle.std.proofs.lemmas.Bool.{cases_lt}
use Rattle.std.proofs.lemmas.Option.{slice_get_within}
use Rattle.std.proofs.lemmas.List.{length-map, map_push, take-append-le, take_all, get_or-map, map-append, length-append, get_or_append_left, get_or-append-add, append-nil}
use Rattle.std.proofs.Math.Seq.{take-append-add, take-suc}
use Rattle.pickle_types.proofs.Items.{get_front, get_last, is_last}
use Rattle.pickle_types.specs.declared.node.Node.{Node}
use Rattle.pickle_types.specs.declared.scopes.Seen.{Seen}
use Rattle.pickle_types.specs.declared.many_fields.Entry.{Entry}
use Rattle.pickle_types.specs.Scopes.{Visible, is_named, or_this, resolve}
use Rattle.pickle_types.specs.Built.{bytes_now, view_of, views_of, IsInLevel, AreBelow}
use Rattle.pickle_types.specs.Innermost.{fields_of, or_here, last_place, IsIndexed}
use Rattle.pickle_types.specs.PlacesByName.{place_at}
use Rattle.pickle_types.specs.declared.places_by_name.PlacesByName.{PlacesByName}

-- the last place where there is one more field
here_more : (here last : Bool) (n : ℕ) (o : Option ℕ) →
    or_here (if last then Some n else o) here ≡ (if last then Some (suc n) else or_here o here)
here_more here true n o = refl
here_more here false n o = refl

pub last_more : (word : List ℕ) (seen : List Seen) (s : Seen) → last_place word (seen ++ s ∷ [])
    ≡ (if is_named (bytes_now s.name) word then Some (length seen) else last_place word seen)
last_more word [] s = refl
last_more word (x ∷ seen) s = ap (λ o. or_here o (is_named (bytes_now x.name) word)) (last_more word seen s)
    ∙ here_more _ (is_named (bytes_now s.name) word) (length seen) _

-- the field at the last place is the one that is meant
module _ (nodes : List Node) (word : List ℕ) (d : Seen) where
  meant_here : (s : Seen) (seen : List Seen) (o : Option ℕ) →
      or_this word (view_of nodes s) (option_map (λ i. view_of nodes (get_or seen i d)) o)
      ≡ option_map (λ i. view_of nodes (get_or (s ∷ seen) i d)) (or_here o (is_named (bytes_now s.name) word))
  meant_here s seen (Some i) = refl
  meant_here s seen None = by (is_named (bytes_now s.name) word)
    where
      by : (b : Bool) → (if b then Some (view_of nodes s) else None)
          ≡ option_map (λ i. view_of nodes (get_or (s ∷ seen) i d)) (if b then Some 0 else None)
      by true = refl
      by false = refl

  pub meant_at : (seen : List Seen) →
      resolve word (views_of nodes seen) ≡ option_map (λ i. view_of nodes (get_or seen i d)) (last_place word seen)
  meant_at [] = refl
  meant_at (s ∷ seen) = ap (or_this word (view_of nodes s)) (meant_at seen) ∙ meant_here s seen (last_place word seen)

within_here : (n : ℕ) (o : Option ℕ) (b : Bool) → IfSome o (λ i. i < n) → IfSome (or_here o b) (λ i. i < suc n)
within_here n (Some i) b h = omega arith
within_here n None true h = omega arith
within_here n None false h = tt

pub last_within : (word : List ℕ) (seen : List Seen) → IfSome (last_place word seen) (λ i. i < length seen)
last_within word [] = tt
last_within word (s ∷ seen) =
    within_here (length seen) (last_place word seen) (is_named (bytes_now s.name) word) (last_within word seen)

-- one more entry
module _ (es : List Entry) (e : Entry) where
  pub fields_more : fields_of (es ++ e ∷ []) ≡ fields_of es ++ e.field ∷ []
  fields_more = map_push (λ x. x.field) es e

  taken_less : (i : ℕ) → i ≤ length es → take i (fields_of (es ++ e ∷ [])) ≡ take i (fields_of es)
  taken_less i le =
      let n = length-map es (λ x. x.field) in
      ap (take i) fields_more ∙ take-append-le i (fields_of es) (e.field ∷ []) (omega arith)

  module _ (old new : PlacesByName) where
    pub indexed_more : IsIndexed es old → IfSome e.field.name (λ n. e.hidden ≡ place_at old n.now) →
        ((word : List ℕ) →
        place_at new word ≡ (if is_named (bytes_now e.field.name) word then Some (length es) else place_at old word)) →
        IsIndexed (es ++ e ∷ []) new
    indexed_more h hides put = record {
      innermost = λ word.
          let n = length-map es (λ x. x.field) in
          put word ∙ rw (h.innermost word, ← n) refl ∙ sym (last_more word (fields_of es) e.field)
          ∙ ap (last_place word) (sym fields_more);
      hidden = λ i x name at is. elim (cases_lt i (length es)) [
        | inl lt ↦ h.hidden i x name (sym (get_front es (e ∷ []) i lt) ∙ at) is
            ∙ ap (last_place name.now) (sym (taken_less i (omega arith)))
        | inr le ↦ at_end i x name at is le
      ];
    }
      where
        at_end : (i : ℕ) (x : Entry) (name : Bor (List ℕ)) → slice_get (es ++ e ∷ []) i ≡ Some x →
            x.field.name ≡ Some name → length es ≤ i →
            x.hidden ≡ last_place name.now (take i (fields_of (es ++ e ∷ [])))
        at_end i x name at is le =
            let end = is_last es e i x at le in
            let same = end.item in
            let last = end.place in
            let n = length-map es (λ y. y.field) in
            let named : e.field.name ≡ Some name = ap (λ y. y.field.name) (sym same) ∙ is in
            let hidden = rw named at hides in
            rw (same, last, taken_less (length es) (omega arith)) (hidden ∙ h.innermost name.now
            ∙ ap (last_place name.now) (sym (take_all (length es) (fields_of es) (omega arith))))

    pub indexed_less : IsIndexed (es ++ e ∷ []) old → ((word : List ℕ) →
        place_at new word ≡ (if is_named (bytes_now e.field.name) word then e.hidden else place_at old word)) →
        IsIndexed es new
    indexed_less h put = record {
      innermost = λ word. put word ∙ by word e.field.name refl;
      hidden = λ i x name at is.
          let lt = slice_get_within es i x at in
          h.hidden i x name (get_front es (e ∷ []) i lt ∙ at) is
          ∙ ap (last_place name.now) (taken_less i (omega arith));
    }
      where
        before : (word : List ℕ) →
            last_place word (take (length es) (fields_of (es ++ e ∷ []))) ≡ last_place word (fields_of es)
        before word =
            let n = length-map es (λ x. x.field) in
            ap (last_place word)
            (taken_less (length es) (omega arith) ∙ take_all (length es) (fields_of es) (omega arith))

        other : (word : List ℕ) → is_named (bytes_now e.field.name) word ≡ false →
            place_at old word ≡ last_place word (fields_of es)
        other word apart = h.innermost word ∙ ap (last_place word) fields_more
            ∙ last_more word (fields_of es) e.field ∙ rw apart refl

        by : (word : List ℕ) (o : Option (Bor (List ℕ))) → e.field.name ≡ o →
            (if is_named (bytes_now o) word then e.hidden else place_at old word) ≡ last_place word (fields_of es)
        by word None is = other word (rw is refl)
        by word (Some name) is = cases (bytes_eq name.now word) refl
          where
            cases : (b : Bool) → bytes_eq name.now word ≡ b →
                (if b then e.hidden else place_at old word) ≡ last_place word (fields_of es)
            cases true same =
                let equal : name.now ≡ word = (bytes_decides name.now word).0 same in
                h.hidden (length es) e name (get_last es e) is ∙ before name.now
                ∙ ap (λ w. last_place w (fields_of es)) equal
            cases false apart = other word (rw is apart)

  -- the last field is stored for its name
  pub last_kept : (places : PlacesByName) → IsIndexed (es ++ e ∷ []) places →
      IfSome e.field.name (λ n. IsSome (place_at places n.now))
  last_kept places h = by e.field.name refl
    where
      by : (o : Option (Bor (List ℕ))) → e.field.name ≡ o → IfSome o (λ n. IsSome (place_at places n.now))
      by None is = tt
      by (Some name) is =
          let yes : bytes_eq name.now name.now ≡ true = (bytes_decides name.now name.now).1 refl in
          let kept = h.innermost name.now ∙ ap (last_place name.now) fields_more
          ∙ last_more name.now (fields_of es) e.field in
          let there : place_at places name.now ≡ Some (length (fields_of es)) = kept ∙ rw (is, yes) refl in
          rw there refl

-- what is found where the places are stored
module _ (es : List Entry) (places : PlacesByName) (h : IsIndexed es places) (word : List ℕ) where
  pub meant_none : (nodes : List Node) → place_at places word ≡ None →
      resolve word (views_of nodes (fields_of es)) ≡ None
  meant_none nodes none = by es (sym (h.innermost word) ∙ none)
    where
      by : (xs : List Entry) → last_place word (fields_of xs) ≡ None →
          resolve word (views_of nodes (fields_of xs)) ≡ None
      by [] is = refl
      by (x ∷ xs) is = meant_at nodes word x.field (fields_of (x ∷ xs)) ∙ rw is refl

  pub meant_within : (i : ℕ) → place_at places word ≡ Some i → i < length es
  meant_within i some =
      let at : last_place word (fields_of es) ≡ Some i = sym (h.innermost word) ∙ some in
      let lt = rw at at (last_within word (fields_of es)) in
      let n = length-map es (λ x. x.field) in
      omega arith

  pub meant_some : (nodes : List Node) (i : ℕ) (e : Entry) → place_at places word ≡ Some i → e ≡ get_or es i e →
      resolve word (views_of nodes (fields_of es)) ≡ Some (view_of nodes e.field)
  meant_some nodes i e some is =
      let at : last_place word (fields_of es) ≡ Some i = sym (h.innermost word) ∙ some in
      let field = get_or-map (λ x. x.field) es i e e.field (meant_within i some) in
      meant_at nodes word e.field (fields_of es)
      ∙ rw at (ap (λ s. Some (view_of nodes s)) (field ∙ ap (λ x. x.field) (sym is)))

  pub field_at : (i : ℕ) (e : Entry) → place_at places word ≡ Some i → e ≡ get_or es i e →
      e.field ≡ get_or (fields_of es) i e.field
  field_at i e some is = ap (λ x. x.field) is ∙ sym (get_or-map (λ x. x.field) es i e e.field (meant_within i some))

-- looking for a name among fields and others after them
module _ (word : List ℕ) where
  pub resolve_some : (xs ys : List Visible) (v : Visible) → resolve word ys ≡ Some v → resolve word (xs ++ ys) ≡ Some v
  resolve_some [] ys v some = some
  resolve_some (x ∷ xs) ys v some = rw (resolve_some xs ys v some) refl

  pub resolve_none : (xs ys : List Visible) → resolve word ys ≡ None → resolve word (xs ++ ys) ≡ resolve word xs
  resolve_none [] ys none = none
  resolve_none (x ∷ xs) ys none = ap (or_this word x) (resolve_none xs ys none)

-- fields and others after them
module _ (nodes : List Node) (word : List ℕ) (few many : List Seen) where
  pub seen_behind : (s : Seen) → resolve word (views_of nodes many) ≡ Some (view_of nodes s) →
      resolve word (views_of nodes (few ++ many)) ≡ Some (view_of nodes s)
  seen_behind s some = ap (resolve word) (map-append (view_of nodes) few many)
      ∙ resolve_some word (views_of nodes few) (views_of nodes many) (view_of nodes s) some

  pub seen_before : resolve word (views_of nodes many) ≡ None →
      resolve word (views_of nodes (few ++ many)) ≡ resolve word (views_of nodes few)
  seen_before none = ap (resolve word) (map-append (view_of nodes) few many)
      ∙ resolve_none word (views_of nodes few) (views_of nodes many) none

module _ (n levels : ℕ) (few many : List Seen) (below : AreBelow n levels (few ++ many)) where
  pub below_before : AreBelow n levels few
  below_before k d lt =
      let long = length-append few many in
      subst (IsInLevel n levels) (get_or_append_left few many d k lt) (below k d (omega arith))

  pub below_behind : AreBelow n levels many
  below_behind k d lt =
      let long = length-append few many in
      subst (IsInLevel n levels) (get_or-append-add few many k d) (below (length few + k) d (omega arith))

-- the first of fields and others after them
pub taken_both : (few many : List Seen) (count : ℕ) →
    take count (few ++ many) ≡ take count few ++ take (count - length few) many
taken_both few many count = elim (cases_lt count (length few)) [
  | inl lt ↦
      let none : count - length few ≡ 0 = omega arith in
      take-append-le count few many (omega arith) ∙ rw none (sym (append-nil (take count few)))
  | inr le ↦
      let more : length few + (count - length few) ≡ count = omega arith in
      ap (λ c. take c (few ++ many)) (sym more) ∙ take-append-add few many (count - length few)
      ∙ ap (λ xs. xs ++ take (count - length few) many) (sym (take_all count few le))
]

-- the last of the first fields
module _ (nodes : List Node) (word : List ℕ) (fields : List Seen) (left : ℕ) (d : Seen)
    (lt : left < length fields) where
  last_of : take (left + 1) fields ≡ take left fields ++ get_or fields left d ∷ []
  last_of = let next : left + 1 ≡ suc left = omega arith in ap (λ n. take n fields) next ∙ take-suc fields left d lt

  pub last_here : is_named (bytes_now (get_or fields left d).name) word ≡ true →
      resolve word (views_of nodes (take (left + 1) fields)) ≡ Some (view_of nodes (get_or fields left d))
  last_here here =
      ap (λ xs. resolve word (views_of nodes xs)) last_of
      ∙ seen_behind nodes word (take left fields) (get_or fields left d ∷ []) (get_or fields left d) (rw here refl)

  pub last_passed : is_named (bytes_now (get_or fields left d).name) word ≡ false →
      resolve word (views_of nodes (take (left + 1) fields)) ≡ resolve word (views_of nodes (take left fields))
  last_passed passed =
      ap (λ xs. resolve word (views_of nodes xs)) last_of
      ∙ seen_before nodes word (take left fields) (get_or fields left d ∷ []) (rw passed refl)
