-- What was found of the types of each table.
use Rattle.std.proofs.Common.{◌≡◌, ◌∙◌, ◌<◌, ◌+◌, ℕ, zero, suc, Bool, true, false, List, [], ◌∷◌, ◌++◌, get_or, refl, sym, subst, arith, length}
use Rattle.std.proofs.lemmas.Bool.{eqb-false, eqb-true}
use Rattle.std.proofs.lemmas.List.{get_or-set_other, get_or-set_same, get_or_default, length-append, length-set}
use Rattle.std.proofs.lemmas.List.Elements.{All-append, All-get_or}
use Rattle.std.specs.Prelude.{◌==◌, slice_set}
use Rattle.pickle_map.specs.Findings.{AreFound}
use Rattle.pickle_map.specs.declared.mapper.findings.Findings.{Findings}
use Rattle.pickle_types.specs.TypeTable.{nodes_of}
use Rattle.pickle_types.specs.declared.node.Node.{Node}
use Rattle.searches.specs.Round.{AreFindings, AreNew}
use Rattle.searches.specs.declared.sought.Sought.{Sought}

pub new_serves : (list : List Sought) (all : List Findings) → AreNew (length list) all → AreFindings list all
new_serves list all h =
    let count = h.count_is in record {
      count = count;
      each = λ k sought findings inside.
          All-get_or (λ (findings : Findings). (nodes : List Node) → AreFound nodes findings) all k findings
          (omega (arith, count, inside)) h.all_are (nodes_of (get_or list k sought).table.now);
    }

pub one_new : (count : ℕ) (all : List Findings) (more : Findings) → AreNew count all
    → ((nodes : List Node) → AreFound nodes more) → AreNew (count + 1) (all ++ more ∷ [])
one_new count all more h new = record {
  count_is =
      let size = length-append all (more ∷ []) in
      let before = h.count_is in omega (arith, size, before);
  all_are = All-append (λ (findings : Findings). (nodes : List Node) → AreFound nodes findings) all (more ∷ [])
      h.all_are only;
}
  where
    only : (k : ℕ) (d : Findings) → k < 1 → (nodes : List Node) → AreFound nodes (get_or (more ∷ []) k d)
    only zero d within = new
    only (suc k) d within = absurd (omega (arith, within))

pub set_serves : (list : List Sought) (all : List Findings) (k : ℕ) (sought : Sought) (found : Findings)
    → AreFindings list all → k < length list → AreFound (nodes_of (get_or list k sought).table.now) found
    → AreFindings list (slice_set all k found)
set_serves list all k sought found h inside is = record {
  count = length-set all k found ∙ h.count;
  each = λ j other findings within. by_test j other findings within (j == k) refl;
}
  where
    here : (other : Sought) (findings : Findings) →
        AreFound (nodes_of (get_or list k other).table.now) (get_or (slice_set all k found) k findings)
    here other findings =
        let count = h.count in
        subst (λ (found : Findings). AreFound (nodes_of (get_or list k other).table.now) found)
        (sym (get_or-set_same all k found findings (omega (arith, count, inside))))
        (subst (λ (sought : Sought). AreFound (nodes_of sought.table.now) found)
        (get_or_default list k sought other inside) is)

    by_test : (j : ℕ) (other : Sought) (findings : Findings) → j < length list → (b : Bool) → (j == k) ≡ b
        → AreFound (nodes_of (get_or list j other).table.now) (get_or (slice_set all k found) j findings)
    by_test j other findings within true e =
        subst
        (λ (j : ℕ). AreFound (nodes_of (get_or list j other).table.now) (get_or (slice_set all k found) j findings))
        (sym (eqb-true j k e)) (here other findings)
    by_test j other findings within false e =
        subst (λ (findings : Findings). AreFound (nodes_of (get_or list j other).table.now) findings)
        (sym (get_or-set_other all k j found findings (eqb-false j k e))) (h.each j other findings within)
