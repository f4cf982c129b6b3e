-- Steps of the attempts without signatures: one more format is tried.
use Rattle.std.proofs.Common.{◌≡◌, ℕ, ◌+◌, ◌≤◌, ◌++◌, List, [], ◌∷◌, length, Bool, Some, None, Result, Ok, Err, IfErr, refl, sym, ap, subst, ◌∙◌, arith}
use Rattle.std.specs.Prelude.{slice_get}
use Rattle.std.proofs.lemmas.Option.{same_Some}
use Rattle.bit_space.specs.declared.order.Order.{Order}
use Rattle.bit_space.specs.SpaceView.{SpaceView, Keeps}
use Rattle.pickle_types.specs.Types.{PokeType}
use Rattle.pickle_types.specs.TypeTable.{type_named}
use Rattle.pickle_meaning.specs.declared.faults.MapFault.{MapFault}
use Rattle.pickle_meaning.specs.declared.faults.MapFaultKind.TheVariants as fault
use Rattle.pickle_map.specs.Mapped.{EndsRun}
use Rattle.identification.specs.declared.fit.Fit.{Fit}
use Rattle.identification.specs.declared.fit.Measured.{Measured}
use Rattle.identification.specs.declared.format.Documented.{Documented}
use Rattle.identification.specs.declared.format.Format.{Format}
use Rattle.identification.specs.declared.timed.Attempt.{Attempt}
use Rattle.identification.specs.declared.timed.Attempt.TheVariants.{Fits, Misses, Unfinished}
use Rattle.identification.specs.declared.without_signature.OtherFits.{OtherFits}
use Rattle.identification.specs.Others.{Adds, AreOthers, BreaksOff, Finds, FitsInTime, HasBefore, IsBare, IsCutOff, IsOther, IsUnfinished, MapsBare, MissesInTime, OthersBefore, bare_type, itself, order_of, place_of}
use Rattle.identification.proofs.Collected.{added, all_had, none_yet, skipped}
use Rattle.identification.proofs.Tries.{in_list, risen_later}

module _ (formats : List Format) (start : ℕ) (bits : List ℕ) where
  pub no_others : (others : OtherFits) → others.fits.items ≡ [] → others.unfinished.items ≡ [] →
      OthersBefore formats start bits 0 others
  no_others others fits unfinished = record {
    fits = none_yet place_of (IsOther formats start bits) (MapsBare formats start bits) _ fits;
    unfinished = none_yet itself (IsUnfinished formats start bits) (IsUnfinished formats start bits) _ unfinished;
  }

  module _ (place : ℕ) (others : OtherFits) (so_far : OthersBefore formats start bits place others) where
    -- the format isn't tried, or misses
    pub one_missing : (next : OtherFits) → (MapsBare formats start bits place → ⊥) →
        (IsUnfinished formats start bits place → ⊥) → next.fits.items ≡ others.fits.items →
        next.unfinished.items ≡ others.unfinished.items → OthersBefore formats start bits (place + 1) next
    one_missing next misses done fits unfinished = record {
      fits =
          subst (HasBefore place_of (IsOther formats start bits) (MapsBare formats start bits) (place + 1)) (sym fits)
          (skipped place_of (IsOther formats start bits) (MapsBare formats start bits) place _ so_far.fits misses);
      unfinished = subst
          (HasBefore itself (IsUnfinished formats start bits) (IsUnfinished formats start bits) (place + 1))
          (sym unfinished)
          (skipped itself (IsUnfinished formats start bits) (IsUnfinished formats start bits) place _
          so_far.unfinished done);
    }

    -- it fits
    pub one_fitting : (fit : Fit) (next : OtherFits) → fit.place ≡ place → IsOther formats start bits fit →
        (IsUnfinished formats start bits place → ⊥) → next.fits.items ≡ others.fits.items ++ fit ∷ [] →
        next.unfinished.items ≡ others.unfinished.items → OthersBefore formats start bits (place + 1) next
    one_fitting fit next at is done fits unfinished = record {
      fits =
          subst (HasBefore place_of (IsOther formats start bits) (MapsBare formats start bits) (place + 1)) (sym fits)
          (added place_of (IsOther formats start bits) (MapsBare formats start bits) place _ so_far.fits fit at is);
      unfinished = subst
          (HasBefore itself (IsUnfinished formats start bits) (IsUnfinished formats start bits) (place + 1))
          (sym unfinished)
          (skipped itself (IsUnfinished formats start bits) (IsUnfinished formats start bits) place _
          so_far.unfinished done);
    }

    -- its attempt took too long
    pub one_unfinished : (next : OtherFits) → IsUnfinished formats start bits place →
        (MapsBare formats start bits place → ⊥) → next.fits.items ≡ others.fits.items →
        next.unfinished.items ≡ others.unfinished.items ++ place ∷ [] → OthersBefore formats start bits (place + 1) next
    one_unfinished next is misses fits unfinished = record {
      fits =
          subst (HasBefore place_of (IsOther formats start bits) (MapsBare formats start bits) (place + 1)) (sym fits)
          (skipped place_of (IsOther formats start bits) (MapsBare formats start bits) place _ so_far.fits misses);
      unfinished = subst
          (HasBefore itself (IsUnfinished formats start bits) (IsUnfinished formats start bits) (place + 1))
          (sym unfinished)
          (added itself (IsUnfinished formats start bits) (IsUnfinished formats start bits) place _
          so_far.unfinished place refl is);
    }

  -- all formats were tried
  pub all_others : (count : ℕ) (others : OtherFits) → length formats ≤ count →
      OthersBefore formats start bits count others →
      AreOthers formats start bits others
  all_others count others all are = record {
    fits = all_had place_of (IsOther formats start bits) (MapsBare formats start bits) count _
        (λ place maps. let lt = in_list formats place maps.bare.format maps.bare.there in omega arith) are.fits;
    unfinished = all_had itself (IsUnfinished formats start bits) (IsUnfinished formats start bits) count _
        (λ place cut. let lt = in_list formats place cut.bare.format cut.bare.there in omega arith) are.unfinished;
  }

-- ---- one attempt

module _ (formats : List Format) (place : ℕ) (format : Format) (there : slice_get formats place ≡ Some format) where
  -- no type is tried
  pub not_bare : bare_type format ≡ None → (type : PokeType) (order : Order) (whole : Bool) →
      IsBare formats place type order whole → ⊥
  not_bare none type order whole bare =
      let same : format ≡ bare.format = same_Some _ _ (sym there ∙ bare.there) in
      let other : bare_type format ≡ Some bare.documented = ap bare_type same ∙ bare.found in
      cc

  module _ (documented : Documented) (found : bare_type format ≡ Some documented) where
    pub is_bare : IsBare formats place (type_named format.table documented.id) (order_of documented.order)
        documented.whole
    is_bare = record {
      format = format;
      there = there;
      documented = documented;
      found = found;
      type_is = refl;
      order_is = refl;
      whole_is = refl;
    }

    -- a fact of the type, its order and whether it must end with the file, as of those that are tried
    alike : (P : PokeType → Order → Bool → Type 0) (type : PokeType) (order : Order) (whole : Bool) →
        IsBare formats place type order whole → P type order whole →
        P (type_named format.table documented.id) (order_of documented.order) documented.whole
    alike P type order whole bare h =
        let same : bare.format ≡ format = same_Some _ _ (sym bare.there ∙ there) in
        let other : Some bare.documented ≡ Some documented = sym bare.found ∙ ap bare_type same ∙ found in
        let one : bare.documented ≡ documented = same_Some _ _ other in
        subst (λ (d : Documented). P (type_named format.table d.id) (order_of d.order) d.whole) one
        (subst (λ (f : Format). P (type_named f.table bare.documented.id) (order_of bare.documented.order)
        bare.documented.whole) same
        (subst (λ t. P t (order_of bare.documented.order) bare.documented.whole) (sym bare.type_is)
        (subst (λ o. P type o bare.documented.whole) (sym bare.order_is)
        (subst (λ w. P type order w) (sym bare.whole_is) h))))

    module _ (start : ℕ) (bits : List ℕ) where
      pub missing : MissesInTime bits (type_named format.table documented.id) (order_of documented.order)
          documented.whole start →
          (MapsBare formats start bits place → ⊥) × (IsUnfinished formats start bits place → ⊥)
      missing h = (
        λ maps. alike (λ t o w. MissesInTime bits t o w start → ⊥) maps.type maps.order maps.whole maps.bare
            (λ no. no.none maps.value maps.maps) h,
        λ cut. alike (λ t o w. MissesInTime bits t o w start → ⊥) cut.type cut.order cut.whole cut.bare
            (λ no. no.done cut.longer) h,
      )

      pub fitting : (measured : Measured) →
          FitsInTime bits (type_named format.table documented.id) (order_of documented.order) documented.whole start
          measured →
          IsOther formats start bits (record { place = place; order = order_of documented.order; measured = measured })
          × (IsUnfinished formats start bits place → ⊥)
      fitting measured h = (
        record { type = _; whole = _; bare = is_bare; found = h },
        λ cut. alike (λ t o w. FitsInTime bits t o w start measured → ⊥) cut.type cut.order cut.whole cut.bare
            (λ fits. fits.done cut.longer) h,
      )

      pub unfinished : IsCutOff bits (type_named format.table documented.id) (order_of documented.order)
          documented.whole start →
          IsUnfinished formats start bits place × (MapsBare formats start bits place → ⊥)
      unfinished h = (
        record { type = _; order = _; whole = documented.whole; bare = is_bare; longer = h.longer },
        λ maps. alike (λ t o w. IsCutOff bits t o w start → ⊥) maps.type maps.order maps.whole maps.bare
            (λ cut. cut.none maps.value maps.maps) h,
      )

      -- one more format was tried
      pub one_tried : (others next : OtherFits) (attempt : Attempt) → OthersBefore formats start bits place others →
          Finds bits (type_named format.table documented.id) (order_of documented.order)
          documented.whole start attempt →
          Adds attempt place (order_of documented.order) others next →
          OthersBefore formats start bits (place + 1) next
      one_tried others next Misses so_far found adds =
          let no = missing found in
          one_missing formats start bits place others so_far next no.0 no.1 adds.0 adds.1
      one_tried others next (Fits measured) so_far found adds =
          let fits = fitting measured found in
          one_fitting formats start bits place others so_far
          (record { place = place; order = order_of documented.order; measured = measured }) next refl fits.0 fits.1
          adds.0 adds.1
      one_tried others next Unfinished so_far found adds =
          let cut = unfinished found in
          one_unfinished formats start bits place others so_far next cut.0 cut.1 adds.0 adds.1

-- an allocation failure
pub no_room : (before after : SpaceView) (stop : MapFault) → stop.kind ≡ fault.Memory → BreaksOff before after stop
no_room before after stop e = record {
  ends = subst EndsRun (sym e) tt;
  timely = λ f. cc;
  device = λ f. cc;
}

-- a stop after other attempts
pub breaks_later : (first before after : SpaceView) (stop : MapFault) → Keeps first before → Keeps before after →
    BreaksOff before after stop → BreaksOff first after stop
breaks_later first before after stop keeps later is = record {
  ends = is.ends;
  timely = is.timely;
  device = λ e. risen_later _ _ _ keeps.failures later.failures (is.device e);
}

-- an attempt that only an allocation failure ended
pub only_memory : (before after : SpaceView) (r : Result (Unit {0}) MapFault) →
    IfErr r (λ stop. stop.kind ≡ fault.Memory) → IfErr r (BreaksOff before after)
only_memory before after (Ok u) h = tt
only_memory before after (Err stop) h = no_room before after stop h
