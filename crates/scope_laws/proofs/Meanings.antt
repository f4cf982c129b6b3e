-- A type all of whose expressions have the same evaluation beside two pairs of frames means the same beside them.
use Rattle.std.proofs.Common.{◌≡◌, ℕ, ◌+◌, Bool, List, [], ◌∷◌, ◌++◌, Option, Some, Result, Ok, Err, refl, sym, subst, ◌∙◌}
use Rattle.bit_space.specs.declared.order.Order.{Order}
use Rattle.pickle_types.specs.Types.{Term, PokeType, ArrayOf, Fields, FieldThen, Parts, PartThen}
use Rattle.pickle_meaning.specs.declared.extent.Extent.{Extent}
use Rattle.pickle_meaning.specs.Values.{Value, Levels, pushed, top_of}
use Rattle.pickle_meaning.specs.Clauses.{FaultAt, clause_steps, label_steps}
use Rattle.pickle_meaning.specs.Means.{Means, past_end, number_read, number_end, string, string_end, array, bound_fault, struct, struct_fault, union, union_fault, NumberMeans, integer, offset, integral, integral_fault, no_number, DigitsMean, no_digits, next_digits, digits_refused, digits_fault, Elements, no_more, next_element, Closing, none_due, beyond_size, no_bits, ends_without, element_fault, PartMeans, part, part_refused, part_fault, FieldsMean, all_fields, absent, field, condition_fault, label_fault, field_fault, AlternativesMean, none_left, fits, misses_it, other_fault, Opened, Taken}
use Rattle.scope_laws.proofs.SameTypes.{SameClause, SameType, SameFields, SameParts, same_steps, same_constraint, same_condition, same_start, same_label_steps, same_extent, same_bound_steps}

-- the same innermost frame, inside others
abbrev pub inside_of : Levels → Levels → Levels
inside_of outer levels = top_of levels ∷ outer

abbrev digits_inside : Levels → Result Levels FaultAt → Result Levels FaultAt
digits_inside outer (Ok inside) = Ok (inside_of outer inside)
digits_inside outer (Err f) = Err f

abbrev fields_inside : Levels → Result Opened FaultAt → Result Opened FaultAt
fields_inside outer (Ok o) = Ok (inside_of outer o.0, o.1)
fields_inside outer (Err f) = Err f

-- ---- integral structs

mutual
  unfolding SameType

  number_alike : {ty : PokeType} {n : ℕ} {levels : Levels} {s k j : ℕ} {r : Result Value FaultAt} →
      NumberMeans ty n levels s r k j → (levels' : Levels) → SameType levels levels' ty →
      NumberMeans ty n levels' s r k j
  number_alike integer levels' h = integer
  number_alike offset levels' h = offset
  number_alike (integral ds) levels' h = integral (digits_alike ds levels' h)
  number_alike (integral_fault ds) levels' h = integral_fault (digits_alike ds levels' h)
  number_alike (no_number e) levels' h = no_number e

  digits_alike : {fields : Parts} {n left : ℕ} {top : List (Option Value)} {outer : Levels} {s k j : ℕ}
      {r : Result Levels FaultAt} → DigitsMean fields n left (top ∷ outer) s r k j →
      (outer' : Levels) → SameParts outer outer' fields →
      DigitsMean fields n left (top ∷ outer') s (digits_inside outer' r) k j
  digits_alike no_digits outer' h = no_digits
  digits_alike {top} {outer} {s}
      (next_digits {name} {order} {ty} {c} {rest} {n} {left} {k} {j} {k'} {j'} {v} {r} m e ds)
      outer' h =
      let own = h.0 (top ++ Some v ∷ []) in
      subst (λ x. DigitsMean (PartThen name order ty c rest) n left (top ∷ outer') s (digits_inside outer' r)
      (1 + k + x + k') (j + j'))
      (sym (same_steps ((top ++ Some v ∷ []) ∷ outer) ((top ++ Some v ∷ []) ∷ outer') c own.1))
      (next_digits (number_alike m (top ∷ outer') (h.0 top).0)
      (same_constraint ((top ++ Some v ∷ []) ∷ outer) ((top ++ Some v ∷ []) ∷ outer') c s own.1 ∙ e)
      (digits_alike ds outer' h.1))
  digits_alike {top} {outer} {s}
      (digits_refused {name} {order} {ty} {c} {rest} {n} {left} {k} {j} {v} {f} m e) outer' h =
      let own = h.0 (top ++ Some v ∷ []) in
      subst (λ x. DigitsMean (PartThen name order ty c rest) n left (top ∷ outer') s (Err f) (1 + k + x) j)
      (sym (same_steps ((top ++ Some v ∷ []) ∷ outer) ((top ++ Some v ∷ []) ∷ outer') c own.1))
      (digits_refused (number_alike m (top ∷ outer') (h.0 top).0)
      (same_constraint ((top ++ Some v ∷ []) ∷ outer) ((top ++ Some v ∷ []) ∷ outer') c s own.1 ∙ e))
  digits_alike {top} (digits_fault m) outer' h = digits_fault (number_alike m (top ∷ outer') (h.0 top).0)

-- ---- arrays

-- the elements change the innermost frame alone
elements_outer : {bits : List ℕ} {ty : PokeType} {order : Order} {s : ℕ} {extent : Extent} {i n : ℕ}
    {top : List (Option Value)} {outer inside : Levels} {p pn k j : ℕ} →
    Elements bits ty order s extent i (top ∷ outer) p n inside pn k j → inside ≡ inside_of outer inside
elements_outer no_more = refl
elements_outer (next_element due m lt es) = elements_outer es

mutual
  unfolding SameType

  pub means_alike : {bits : List ℕ} {ty : PokeType} {order : Order} {levels : Levels} {s k j : ℕ}
      {r : Result Value FaultAt} → Means bits ty order levels s r k j → (levels' : Levels) →
      SameType levels levels' ty → Means bits ty order levels' s r k j
  means_alike (past_end lt) levels' h = past_end lt
  means_alike (number_read le e inside m) levels' h = number_read le e inside (number_alike m levels' h)
  means_alike (number_end le e lt) levels' h = number_end le e lt
  means_alike (string le run inside e) levels' h = string le run inside e
  means_alike (string_end le run lt) levels' h = string_end le run lt
  means_alike {bits} {s} {r}
      (array {ty} {bound} {order} {levels} {inside} {k} {j} {k'} {j'} le e es c) levels' h =
      subst (λ x. Means bits (ArrayOf ty bound) order levels' s r (1 + x + k + k') (j + j'))
      (sym (same_bound_steps levels levels' bound h.0))
      (array le (same_extent levels levels' bound s h.0 ∙ e) (elements_alike es levels' h.1)
      (closing_alike c levels'
      (subst (λ x. SameType x (inside_of levels' inside) ty) (sym (elements_outer es)) (h.1 (top_of inside)))))
  means_alike {bits} {s} (bound_fault {ty} {bound} {order} {levels} {f} le e) levels' h =
      subst (λ x. Means bits (ArrayOf ty bound) order levels' s (Err f) (1 + x) 0)
      (sym (same_bound_steps levels levels' bound h.0))
      (bound_fault le (same_extent levels levels' bound s h.0 ∙ e))
  means_alike (struct le fs) levels' h = struct le (fields_alike fs levels' h)
  means_alike (struct_fault le fs) levels' h = struct_fault le (fields_alike fs levels' h)
  means_alike (union le os) levels' h = union le (alternatives_alike os levels' h)
  means_alike (union_fault le os) levels' h = union_fault le (alternatives_alike os levels' h)

  elements_alike : {bits : List ℕ} {ty : PokeType} {order : Order} {s : ℕ} {extent : Extent} {i n : ℕ}
      {top : List (Option Value)} {outer inside : Levels} {p pn k j : ℕ} →
      Elements bits ty order s extent i (top ∷ outer) p n inside pn k j → (outer' : Levels) →
      ((top : List (Option Value)) → SameType (top ∷ outer) (top ∷ outer') ty) →
      Elements bits ty order s extent i (top ∷ outer') p n (inside_of outer' inside) pn k j
  elements_alike no_more outer' h = no_more
  elements_alike {top} (next_element due m lt es) outer' h =
      next_element due (means_alike m (top ∷ outer') (h top)) lt (elements_alike es outer' h)

  closing_alike : {bits : List ℕ} {ty : PokeType} {order : Order} {s : ℕ} {extent : Extent} {n : ℕ} {inside : Levels}
      {pn k j : ℕ} {r : Result Value FaultAt} → Closing bits ty order s extent n inside pn r k j → (outer' : Levels) →
      SameType inside (inside_of outer' inside) ty →
      Closing bits ty order s extent n (inside_of outer' inside) pn r k j
  closing_alike (none_due over met) outer' h = none_due over met
  closing_alike (beyond_size over met) outer' h = beyond_size over met
  closing_alike {inside} (no_bits due m e) outer' h = no_bits due (means_alike m (inside_of outer' inside) h) e
  closing_alike {inside} (ends_without due m e) outer' h =
      ends_without due (means_alike m (inside_of outer' inside) h) e
  closing_alike {inside} (element_fault due m e) outer' h =
      element_fault due (means_alike m (inside_of outer' inside) h) e

  part_alike : {bits : List ℕ} {ty : PokeType} {c : Option Term} {order : Order} {levels : Levels} {s k j : ℕ}
      {r : Result Value FaultAt} → PartMeans bits ty c order levels s r k j → (levels' : Levels) →
      SameType levels levels' ty →
      ((v : Value) → SameClause (pushed levels (Some v)) (pushed levels' (Some v)) c) →
      PartMeans bits ty c order levels' s r k j
  part_alike {bits} {ty} {c} {order} {levels} {s} (part {k} {j} {v} m e) levels' h g =
      subst (λ x. PartMeans bits ty c order levels' s (Ok v) (k + x) j)
      (sym (same_steps (pushed levels (Some v)) (pushed levels' (Some v)) c (g v)))
      (part (means_alike m levels' h)
      (same_constraint (pushed levels (Some v)) (pushed levels' (Some v)) c s (g v) ∙ e))
  part_alike {bits} {ty} {c} {order} {levels} {s} (part_refused {k} {j} {v} {f} m e) levels' h g =
      subst (λ x. PartMeans bits ty c order levels' s (Err f) (k + x) j)
      (sym (same_steps (pushed levels (Some v)) (pushed levels' (Some v)) c (g v)))
      (part_refused (means_alike m levels' h)
      (same_constraint (pushed levels (Some v)) (pushed levels' (Some v)) c s (g v) ∙ e))
  part_alike (part_fault m) levels' h g = part_fault (means_alike m levels' h)

  fields_alike : {bits : List ℕ} {pinned : Bool} {s : ℕ} {fields : Fields} {order : Order}
      {top : List (Option Value)} {outer : Levels} {behind end k j : ℕ} {r : Result Opened FaultAt} →
      FieldsMean bits pinned s fields order (top ∷ outer) behind end r k j → (outer' : Levels) →
      SameFields outer outer' fields →
      FieldsMean bits pinned s fields order (top ∷ outer') behind end (fields_inside outer' r) k j
  fields_alike all_fields outer' h = all_fields
  fields_alike {bits} {pinned} {s} {order} {top} {outer} {behind} {end} {r}
      (absent {name} {set} {ty} {c} {label} {when} {rest} {k} {j} e fs) outer' h =
      let own = h.0 top in
      subst (λ x. FieldsMean bits pinned s (FieldThen name set ty c label when rest) order (top ∷ outer') behind end
      (fields_inside outer' r) (1 + x + k) j)
      (sym (same_steps (top ∷ outer) (top ∷ outer') when own.3))
      (absent (same_condition (top ∷ outer) (top ∷ outer') when s own.3 ∙ e) (fields_alike fs outer' h.1))
  fields_alike {bits} {pinned} {s} {order} {top} {outer} {behind} {end} {r}
      (field {name} {set} {ty} {c} {label} {when} {rest} {k} {j} {k'} {j'} e st m fs) outer' h =
      let own = h.0 top in
      subst (λ x. FieldsMean bits pinned s (FieldThen name set ty c label when rest) order (top ∷ outer') behind end
      (fields_inside outer' r) (1 + x + label_steps pinned label (top ∷ outer) + k + k') (j + j'))
      (sym (same_steps (top ∷ outer) (top ∷ outer') when own.3))
      (subst (λ x. FieldsMean bits pinned s (FieldThen name set ty c label when rest) order (top ∷ outer') behind end
      (fields_inside outer' r) (1 + clause_steps when (top ∷ outer') + x + k + k') (j + j'))
      (sym (same_label_steps (top ∷ outer) (top ∷ outer') pinned label own.2))
      (field (same_condition (top ∷ outer) (top ∷ outer') when s own.3 ∙ e)
      (same_start (top ∷ outer) (top ∷ outer') pinned label s behind own.2 ∙ st)
      (part_alike m (top ∷ outer') own.0 (λ v. (h.0 (top ++ Some v ∷ [])).1))
      (fields_alike fs outer' h.1)))
  fields_alike {bits} {pinned} {s} {order} {top} {outer} {behind} {end}
      (condition_fault {name} {set} {ty} {c} {label} {when} {rest} {f} e) outer' h =
      let own = h.0 top in
      subst (λ x. FieldsMean bits pinned s (FieldThen name set ty c label when rest) order (top ∷ outer') behind end
      (Err f) (1 + x) 0)
      (sym (same_steps (top ∷ outer) (top ∷ outer') when own.3))
      (condition_fault (same_condition (top ∷ outer) (top ∷ outer') when s own.3 ∙ e))
  fields_alike {bits} {pinned} {s} {order} {top} {outer} {behind} {end}
      (label_fault {name} {set} {ty} {c} {label} {when} {rest} {f} e st) outer' h =
      let own = h.0 top in
      subst (λ x. FieldsMean bits pinned s (FieldThen name set ty c label when rest) order (top ∷ outer') behind end
      (Err f) (1 + x + label_steps pinned label (top ∷ outer)) 0)
      (sym (same_steps (top ∷ outer) (top ∷ outer') when own.3))
      (subst (λ x. FieldsMean bits pinned s (FieldThen name set ty c label when rest) order (top ∷ outer') behind end
      (Err f) (1 + clause_steps when (top ∷ outer') + x) 0)
      (sym (same_label_steps (top ∷ outer) (top ∷ outer') pinned label own.2))
      (label_fault (same_condition (top ∷ outer) (top ∷ outer') when s own.3 ∙ e)
      (same_start (top ∷ outer) (top ∷ outer') pinned label s behind own.2 ∙ st)))
  fields_alike {bits} {pinned} {s} {order} {top} {outer} {behind} {end}
      (field_fault {name} {set} {ty} {c} {label} {when} {rest} {k} {j} {f} e st m) outer' h =
      let own = h.0 top in
      subst (λ x. FieldsMean bits pinned s (FieldThen name set ty c label when rest) order (top ∷ outer') behind end
      (Err f) (1 + x + label_steps pinned label (top ∷ outer) + k) j)
      (sym (same_steps (top ∷ outer) (top ∷ outer') when own.3))
      (subst (λ x. FieldsMean bits pinned s (FieldThen name set ty c label when rest) order (top ∷ outer') behind end
      (Err f) (1 + clause_steps when (top ∷ outer') + x + k) j)
      (sym (same_label_steps (top ∷ outer) (top ∷ outer') pinned label own.2))
      (field_fault (same_condition (top ∷ outer) (top ∷ outer') when s own.3 ∙ e)
      (same_start (top ∷ outer) (top ∷ outer') pinned label s behind own.2 ∙ st)
      (part_alike m (top ∷ outer') own.0 (λ v. (h.0 (top ++ Some v ∷ [])).1))))

  alternatives_alike : {bits : List ℕ} {parts : Parts} {index : ℕ} {order : Order} {top : List (Option Value)}
      {outer : Levels} {s k j : ℕ} {r : Result Taken FaultAt} →
      AlternativesMean bits parts index order (top ∷ outer) s r k j → (outer' : Levels) →
      SameParts outer outer' parts → AlternativesMean bits parts index order (top ∷ outer') s r k j
  alternatives_alike none_left outer' h = none_left
  alternatives_alike {top} (fits m) outer' h =
      fits (part_alike m (top ∷ outer') (h.0 top).0 (λ v. (h.0 (top ++ Some v ∷ [])).1))
  alternatives_alike {top} (misses_it m e os) outer' h =
      misses_it (part_alike m (top ∷ outer') (h.0 top).0 (λ v. (h.0 (top ++ Some v ∷ [])).1)) e
      (alternatives_alike os outer' h.1)
  alternatives_alike {top} (other_fault m e) outer' h =
      other_fault (part_alike m (top ∷ outer') (h.0 top).0 (λ v. (h.0 (top ++ Some v ∷ [])).1)) e
