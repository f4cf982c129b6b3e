-- Steps of the attempts: one more format is tried in one more byte order.
use Rattle.std.proofs.Common.{◌≡◌, ℕ, zero, suc, ◌+◌, ◌-◌, ◌*◌, ◌^◌, ◌<◌, ◌≤◌, ◌⊎◌, inl, inr, ◌++◌, List, [], ◌∷◌, length, get_or, Some, None, refl, sym, ap, subst, ◌∙◌, arith}
use Rattle.std.specs.Prelude.{Any, slice_get}
use Rattle.std.proofs.lemmas.List.{get_or_append_left, length_push}
use Rattle.std.proofs.lemmas.List.Elements.{All-nil, All-push, All-weaker, All-get_or}
use Rattle.std.proofs.lemmas.List.Quantifiers.{Any-push, all_pairs_push}
use Rattle.std.proofs.lemmas.Option.{same_Some, slice_get-get_or}
use Rattle.bit_space.specs.declared.order.Order.{Order}
use Rattle.bit_space.specs.declared.order.Order.TheVariants.{Big, Little}
use Rattle.bit_space.specs.SpaceView.{SpaceView, HasRisen, Keeps}
use Rattle.pickle_types.specs.Bounds.{cost}
use Rattle.pickle_types.specs.Types.{PokeType}
use Rattle.pickle_types.specs.TypeTable.{type_named}
use Rattle.pickle_types.specs.declared.table.TypeId.{TypeId}
use Rattle.pickle_meaning.specs.declared.faults.MapFault.{MapFault}
use Rattle.pickle_meaning.specs.declared.faults.MapFaultKind.TheVariants as fault
use Rattle.pickle_map.specs.Mapped.{EndsRun}
use Rattle.identification.specs.declared.fit.Fit.{Fit}
use Rattle.identification.specs.declared.fit.Measured.{Measured}
use Rattle.identification.specs.Attempts.{MapsTo, Measures, IsStopped}
use Rattle.identification.specs.declared.format.Format.{Format}
use Rattle.identification.specs.Ranking.{turn, IsEarlier}
use Rattle.identification.specs.Fits.{IsFit, IsTried, MapsFormat, FitsBefore, AreFits, StopsTrying, type_to_try}

-- ---- turns

turn_place : (p q : ℕ) (a b : Order) → turn p a ≡ turn q b → p ≡ q
turn_place p q Little Little e = omega arith
turn_place p q Little Big e = omega arith
turn_place p q Big Little e = omega arith
turn_place p q Big Big e = omega arith

turn_order : (p q : ℕ) (a b : Order) → turn p a ≡ turn q b → a ≡ b
turn_order p q Little Little e = refl
turn_order p q Little Big e = absurd (omega arith)
turn_order p q Big Little e = absurd (omega arith)
turn_order p q Big Big e = refl

turn_last : (p n : ℕ) (a : Order) → p < n → turn p a < 2 * n
turn_last p n Little lt = omega arith
turn_last p n Big lt = omega arith

pub below_or_at : (m n : ℕ) → m < n + 1 → (m < n) ⊎ (m ≡ n)
below_or_at m zero lt = inr (omega arith)
below_or_at zero (suc n) lt = inl (omega arith)
below_or_at (suc m) (suc n) lt =
    elim (below_or_at m n (omega arith)) [ inl less ↦ inl (omega arith) | inr e ↦ inr (ap suc e) ]

pub in_list : {X : Type 0} (xs : List X) (i : ℕ) (x : X) → slice_get xs i ≡ Some x → i < length xs
in_list [] i x e = cc
in_list (y ∷ xs) zero x e = omega arith
in_list (y ∷ xs) (suc i) x e = let lt = in_list xs i x e in omega arith

pub any_left : {X : Type 0} (P : X → Type 0) (xs : List X) (y : X) → Any P xs → Any P (xs ++ y ∷ [])
any_left P xs y (k, x, lt, is, p) =
    (k, x, (let n = length_push xs y in omega arith), get_or_append_left xs (y ∷ []) x k lt ∙ is, p)

-- failures that rose after they had risen or not
below_most : (m n : ℕ) → (m < n) ⊎ (n ≤ m)
below_most m zero = inr (omega arith)
below_most zero (suc n) = inl (omega arith)
below_most (suc m) (suc n) = elim (below_most m n) [ inl lt ↦ inl (omega arith) | inr le ↦ inr (omega arith) ]

pub risen_later : (first before after : ℕ) → first ≤ before → before ≤ after → HasRisen before after →
    HasRisen first after
risen_later first before after le le' risen low =
    elim (below_most before (2 ^ 64 - 1)) [
      | inl lt ↦ (let more = risen lt in omega arith)
      | inr high ↦ omega arith
    ]

-- ---- steps

module _ (formats : List Format) (start : ℕ) (bits : List ℕ) where
  pub none_before : (fits : List Fit) → fits ≡ [] → FitsBefore formats start bits 0 fits
  none_before fits none =
      subst (FitsBefore formats start bits 0) (sym none)
      (record {
        sound = All-nil _;
        complete = λ place order lt maps. absurd (omega arith);
        rising = λ i j d lt lt'. absurd (omega arith);
        early = All-nil _;
      })

  module _ (place : ℕ) (order : Order) (fits : List Fit)
      (so_far : FitsBefore formats start bits (turn place order) fits) where
    -- of the turns up to this one
    split : (p : ℕ) (o : Order) → turn p o < turn place order + 1 →
        (turn p o < turn place order) ⊎ (turn p o ≡ turn place order)
    split p o lt = below_or_at (turn p o) (turn place order) lt

    -- the format doesn't fit in this order, or isn't tried
    pub one_misses : (MapsFormat formats start bits place order → ⊥) →
        FitsBefore formats start bits (turn place order + 1) fits
    one_misses misses = record {
      sound = so_far.sound;
      complete = λ p o lt maps. elim (split p o lt) [
        | inl less ↦ so_far.complete p o less maps
        | inr same ↦ absurd (misses
            (subst (λ o. MapsFormat formats start bits place o) (turn_order p place o order same)
            (subst (λ p. MapsFormat formats start bits p o) (turn_place p place o order same) maps)))
      ];
      rising = so_far.rising;
      early = All-weaker (λ (fit : Fit). turn fit.place fit.order < turn place order)
          (λ (fit : Fit). turn fit.place fit.order < turn place order + 1) (λ fit lt. omega arith) fits so_far.early;
    }

    -- it fits
    pub one_fits : (fit : Fit) → fit.place ≡ place → fit.order ≡ order → IsFit formats start bits fit →
        FitsBefore formats start bits (turn place order + 1) (fits ++ fit ∷ [])
    one_fits fit at by is =
        let now : turn fit.place fit.order ≡ turn place order = ap (λ p. turn p fit.order) at ∙ ap (turn place) by in
        record {
          sound = All-push (IsFit formats start bits) fits fit so_far.sound is;
          complete = λ p o lt maps. elim (split p o lt) [
            | inl less ↦
                any_left (λ (fit : Fit). (fit.place ≡ p) × (fit.order ≡ o)) fits fit (so_far.complete p o less maps)
            | inr same ↦ Any-push (λ (fit : Fit). (fit.place ≡ p) × (fit.order ≡ o)) fits fit
                (at ∙ sym (turn_place p place o order same), by ∙ sym (turn_order p place o order same))
          ];
          rising = all_pairs_push IsEarlier fits fit so_far.rising
              (λ k d lt.
              let early = All-get_or (λ (fit : Fit). turn fit.place fit.order < turn place order) fits k d lt
              so_far.early in
              omega arith);
          early = All-push (λ (fit : Fit). turn fit.place fit.order < turn place order + 1) fits fit
              (All-weaker (λ (fit : Fit). turn fit.place fit.order < turn place order)
              (λ (fit : Fit). turn fit.place fit.order < turn place order + 1) (λ fit lt. omega arith) fits
              so_far.early)
              (omega arith);
        }

  -- all formats were tried
  pub all_tried : (count : ℕ) (fits : List Fit) → length formats ≤ count →
      FitsBefore formats start bits (turn count Little) fits → AreFits formats start bits fits
  all_tried count fits all are = record {
    sound = are.sound;
    complete = λ place order maps.
        let lt = in_list formats place maps.tried.format maps.tried.there in
        are.complete place order (turn_last place count order (omega arith)) maps;
    rising = are.rising;
  }

-- ---- one attempt

module _ (formats : List Format) (place : ℕ) (order : Order) (format : Format)
    (there : slice_get formats place ≡ Some format) where
  -- no type is tried
  pub untried : type_to_try format order ≡ None → (start : ℕ) (bits : List ℕ) →
      MapsFormat formats start bits place order → ⊥
  untried none start bits maps =
      let tried = maps.tried in
      let same : format ≡ tried.format = same_Some _ _ (sym there ∙ tried.there) in
      let other : type_to_try format order ≡ Some tried.id =
      ap (λ (f : Format). type_to_try f order) same ∙ tried.found in
      cc

  module _ (id : TypeId) (found : type_to_try format order ≡ Some id) where
    pub is_tried : IsTried formats place order (type_named format.table id)
    is_tried = record { format = format; there = there; id = id; found = found; type_is = refl }

    pub only_type : (type : PokeType) → IsTried formats place order type → type_named format.table id ≡ type
    only_type type tried =
        let same : format ≡ tried.format = same_Some _ _ (sym there ∙ tried.there) in
        let other : Some id ≡ Some tried.id =
        sym found ∙ ap (λ (f : Format). type_to_try f order) same ∙ tried.found in
        ap (λ (f : Format). type_named f.table id) same
        ∙ ap (type_named tried.format.table) (same_Some _ _ other) ∙ tried.type_is

    -- the type that is tried means no value
    pub unmapped : (start : ℕ) (bits : List ℕ) → Measures bits (type_named format.table id) order start None →
        MapsFormat formats start bits place order → ⊥
    unmapped start bits none maps =
        none maps.value (subst (λ type. MapsTo bits type order start maps.value)
        (sym (only_type maps.type maps.tried)) maps.maps)

    pub is_fit : (start : ℕ) (bits : List ℕ) (measured : Measured) →
        Measures bits (type_named format.table id) order start (Some measured) →
        IsFit formats start bits (record { place = place; order = order; measured = measured })
    is_fit start bits measured measures = record { type = _; tried = is_tried; measures = measures }

    pub stops_trying : (before after : SpaceView) (stop : MapFault) →
        IsStopped (type_named format.table id) before after stop → StopsTrying formats before after stop
    stops_trying before after stop is = record {
      ends = is.ends;
      device = is.device;
      limit = λ e. record { place = place; order = order; type = _; tried = is_tried; long = is.limit e };
    }

-- an allocation failure
pub lacks_memory : (formats : List Format) (before after : SpaceView) (stop : MapFault) →
    stop.kind ≡ fault.Memory → StopsTrying formats before after stop
lacks_memory formats before after stop e = record {
  ends = subst EndsRun (sym e) tt;
  device = λ f. cc;
  limit = λ f. cc;
}

-- a stop after other attempts
pub stops_later : (formats : List Format) (first before after : SpaceView) (stop : MapFault) → Keeps first before →
    Keeps before after →
    StopsTrying formats before after stop → StopsTrying formats first after stop
stops_later formats first before after stop keeps later is = record {
  ends = is.ends;
  device = λ e. risen_later _ _ _ keeps.failures later.failures (is.device e);
  limit = λ e. let long = is.limit e in record {
    place = long.place;
    order = long.order;
    type = long.type;
    tried = long.tried;
    long = subst (λ len. 18446744073709551615 < cost long.type (8 * len)) keeps.len long.long;
  };
}

pub same_view : (view : SpaceView) → Keeps view view
same_view view = record { len = refl; bytes = refl; failures = omega arith }

pub at_place : (formats : List Format) (i : ℕ) (format : Format) → i < length formats →
    format ≡ get_or formats i format → slice_get formats i ≡ Some format
at_place formats i format lt e = slice_get-get_or formats i format lt ∙ ap Some (sym e)
