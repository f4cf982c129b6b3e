-- Paths through the fields of integral structs, step by step.
use Rattle.std.proofs.Common.{◌≡◌, ℕ, ◌+◌, ◌-◌, ◌≤◌, true, List, [], ◌∷◌, length, get_or, take, drop, refl, sym, ap, ◌∙◌, arith}
use Rattle.std.specs.Prelude.{◌==◌}
use Rattle.std.proofs.lemmas.List.{take_all}
use Rattle.pickle_types.specs.declared.node.Node.{Node}
use Rattle.pickle_types.specs.declared.node.Part.{Part}
use Rattle.pickle_types.specs.Types.{Parts}
use Rattle.pickle_types.specs.Table.{type_of, open_parts}
use Rattle.pickle_meaning.specs.Values.{Levels}
use Rattle.pickle_meaning.specs.Clauses.{FaultAt}
use Rattle.pickle_meaning.specs.Means.{number_type, width_in, first_digits}
use Rattle.fault_parts.specs.Arises.{Path, DigitsBefore, digits_before, NumberArises, DigitsArise, digits_constraint, digits_inside}
use Rattle.fault_location.specs.Digits.{PassesNumber, RefusesNumber}

-- one more field of an integral struct
pub digits_more : (nodes : List Node) (fields : List Part) (n s width i left cut w left' : ℕ) (all : Parts)
    (levels inside inside' : Levels) (p : Part) →
    drop i fields ≡ p ∷ drop (i + 1) fields → w ≡ width_in (number_type (type_of nodes p.node)) →
    cut ≡ first_digits n left w → left' ≡ left - w →
    DigitsBefore n s all width levels i (open_parts (type_of nodes) (drop i fields)) left inside →
    PassesNumber nodes cut s p inside inside' →
    DigitsBefore n s all width levels (i + 1) (open_parts (type_of nodes) (drop (i + 1) fields)) left' inside'
digits_more nodes fields n s width i left cut w left' all levels inside inside' p next ew ec el before m =
    let before = rw next at before in
    let means = rw (ec, ew) at m.means.holds in
    rw (m.keeps, el, ew) (digits_before before means m.holds)

-- the field at a place of an integral struct refuses its number, or the fault arises in it
module _ (nodes : List Node) (fields : List Part) (n s width place left cut w : ℕ) (levels inside : Levels)
    (f : FaultAt) (p : Part) (next : drop place fields ≡ p ∷ drop (place + 1) fields)
    (ew : w ≡ width_in (number_type (type_of nodes p.node))) (ec : cut ≡ first_digits n left w)
    (before : DigitsBefore n s (open_parts (type_of nodes) fields) width levels place
    (open_parts (type_of nodes) (drop place fields)) left inside) where
  pub digits_refused_there : RefusesNumber nodes cut s p inside f →
      DigitsArise (open_parts (type_of nodes) fields) n width levels s f (place ∷ [])
  digits_refused_there m =
      let before = rw next at before in
      let means = rw (ec, ew) at m.means.holds in
      digits_constraint before means m.refused

  pub digits_arise_inside : (path : Path) → NumberArises (type_of nodes p.node) cut inside s f path →
      DigitsArise (open_parts (type_of nodes) fields) n width levels s f (place ∷ path)
  digits_arise_inside path h =
      let before = rw next at before in
      let h = rw (ec, ew) at h in
      digits_inside before h

-- a path with a place, by that place and those after it
pub path_is : (path : List ℕ) → 1 ≤ length path → path ≡ get_or path 0 0 ∷ take (length path - 1) (drop 1 path)
path_is [] some = absurd (omega arith)
path_is (place ∷ rest) some =
    ap (λ (r : List ℕ). place ∷ r) (sym (take_all (length (place ∷ rest) - 1) rest (omega arith)))

none_behind : (rest : List ℕ) → (length rest == 0) ≡ true → rest ≡ []
none_behind [] e = refl
none_behind (place ∷ rest) e = absurd (let n = length rest in grind arith)

-- a path of one place
pub path_ends : (path : List ℕ) → 1 ≤ length path → (length (take (length path - 1) (drop 1 path)) == 0) ≡ true →
    path ≡ get_or path 0 0 ∷ []
path_ends path some e =
    path_is path some ∙ ap (λ (r : List ℕ). get_or path 0 0 ∷ r) (none_behind (take (length path - 1) (drop 1 path)) e)
