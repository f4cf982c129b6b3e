-- A table that grows leaves the meanings of names and fields.
use Rattle.std.proofs.Common.{◌≡◌, ℕ, suc, List, [], ◌∷◌, ◌++◌, map, Option, Result, length, refl, ap, ◌∙◌, arith}
use Rattle.std.specs.Prelude.{All}
use Rattle.std.proofs.lemmas.List.{map_push, append_assoc}
use Rattle.std.proofs.lemmas.List.Elements.{All-append}
use Rattle.pickle_types.specs.declared.fault.FaultKind.{FaultKind}
use Rattle.pickle_types.specs.declared.fault.FaultKind.TheVariants.{Memory}
use Rattle.pickle_types.specs.declared.node.Node.{Node}
use Rattle.pickle_types.specs.declared.scopes.Seen.{Seen}
use Rattle.pickle_types.specs.declared.names.Declared.{Declared}
use Rattle.pickle_types.specs.declared.names.Named.{Named}
use Rattle.pickle_types.specs.Types.{PokeType}
use Rattle.pickle_types.specs.Table.{type_of, IsTable, Grows}
use Rattle.pickle_types.specs.Scopes.{sees}
use Rattle.pickle_types.specs.Expressions.{◌>>=◌}
use Rattle.pickle_types.specs.Built.{Fails, bytes_now, view_of, views_of, IsInLevel, AreBelow, named_of, IsNamed}
use Rattle.pickle_types.proofs.Growth.{type_kept, longer}

pub fails_bind : {A B : Type 0} (e : FaultKind) (r : Result A FaultKind) (f : A → Result B FaultKind) →
    Fails e r → Fails e (r >>= f)
fails_bind Memory r f h = tt
fails_bind _ r f h = rw h refl

pub grows_on : (a b c : List Node) → Grows a b → Grows b c → Grows a c
grows_on a b c g h =
    record { more = g.more ++ h.more; is = h.is ∙ ap (λ x. x ++ h.more) g.is ∙ append_assoc a g.more h.more }

module _ (old new : List Node) (table : IsTable old) (grows : Grows old new) where
  pub views_kept : (levels : ℕ) (seen : List Seen) → AreBelow (length old) levels seen →
      views_of new seen ≡ views_of old seen
  views_kept levels [] h = refl
  views_kept levels (s ∷ seen) h =
      let head : type_of new s.node ≡ type_of old s.node =
      type_kept old new table grows s.node (h 0 s (omega arith)).node in
      let tail = views_kept levels seen (λ k d lt. h (suc k) d (omega arith)) in
      rw (head, tail) refl

  pub names_kept : (es : List Named) → All (IsNamed old) (map (λ d. d.declared) es) →
      map (named_of new) es ≡ map (named_of old) es
  names_kept [] h = refl
  names_kept (e ∷ es) h =
      let head : type_of new e.declared.node ≡ type_of old e.declared.node =
      type_kept old new table grows e.declared.node (h 0 e.declared (omega arith)).inside in
      let tail = names_kept es (λ k d lt. h (suc k) d (omega arith)) in
      rw (head, tail) refl

  pub below_kept : (levels : ℕ) (seen : List Seen) → AreBelow (length old) levels seen →
      AreBelow (length new) levels seen
  below_kept levels seen h k d lt =
      let b = h k d lt in let l = longer old new table grows in record { node = omega arith; level = b.level }

  pub named_kept : (ds : List Declared) → All (IsNamed old) ds → All (IsNamed new) ds
  named_kept ds h k d lt =
      let b = h k d lt in
      let l = longer old new table grows in
      record { inside = omega arith; deep = rw (type_kept old new table grows _ b.inside) b.deep }

  -- one more visible field
  pub seen_more : (levels : ℕ) (seen : List Seen) → AreBelow (length old) levels seen →
      (s : Seen) (t : PokeType) (name : Option (List ℕ)) →
      type_of new s.node ≡ t → bytes_now s.name ≡ name →
      views_of new (seen ++ s ∷ []) ≡ sees (views_of old seen) s.level s.place name t
  seen_more levels seen below s t name et en =
      map_push (view_of new) seen s ∙ rw (views_kept levels seen below, et, en) refl

  -- what is visible is of the table that grew, one more field included
  pub below_more : (levels : ℕ) (seen : List Seen) → AreBelow (length old) levels seen → (s : Seen) →
      IsInLevel (length new) levels s → AreBelow (length new) levels (seen ++ s ∷ [])
  below_more levels seen below s h =
      All-append (IsInLevel (length new) levels) seen (s ∷ []) (below_kept levels seen below)
      (λ k d lt. let e : k ≡ 0 = omega arith in rw e h)
