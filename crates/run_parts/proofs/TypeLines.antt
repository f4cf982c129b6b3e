-- Laws of the lines of types.
use Rattle.std.proofs.Common.{◌≡◌, ℕ, ◌+◌, ◌<◌, Option, List, [], ◌∷◌, ◌++◌, take, drop, length, map, get_or, sym, ◌∙◌, ap, subst, suc, arith}
use Rattle.std.specs.List.{flat_map}
use Rattle.std.specs.Io.KnownBytes.{Appends}
use Rattle.std.proofs.KnownBytes.{Appends-trans}
use Rattle.std.proofs.lemmas.Grind.{flat_map-append}
use Rattle.std.proofs.lemmas.List.{append-nil, take-append-drop, drop_more}
use Rattle.std.proofs.lemmas.List.Folds.{flat_map-map}
use Rattle.std.proofs.Math.Seq.{take-suc}
use Rattle.pickle_types.specs.Names.{Names}
use Rattle.pickle_types.specs.DeclaredTypes.{told_of, told_as, declared_in}
use Rattle.pickle_types.specs.declared.declared_types.DeclaredType.{DeclaredType}
use Rattle.text_output.specs.Written.{AppendsPart}
use Rattle.run_parts.specs.TypesText.{type_line, told_lines, types_lines}
use Rattle.text_output.proofs.Parts.{part_first, part_next}

next_is : (n : ℕ) → n + 1 ≡ suc n
next_is n = omega arith

module _ {X : Type 0} (text : X → List ℕ) (xs : List X) (k : ℕ) (x : X) (lt : k < length xs) where
  -- the elements before a place, the one there, and those behind it
  split_at : flat_map text xs ≡ flat_map text (take k xs) ++ (text (get_or xs k x) ++ flat_map text (drop (k + 1) xs))
  split_at =
      ap (flat_map text) (sym (take-append-drop k xs)) ∙ flat_map-append text (take k xs) (drop k xs)
      ∙ ap (λ ys. flat_map text (take k xs) ++ flat_map text ys) (drop_more xs k x lt)

  one_more : flat_map text (take (k + 1) xs) ≡ flat_map text (take k xs) ++ text (get_or xs k x)
  one_more =
      ap (λ n. flat_map text (take n xs)) (next_is k) ∙ ap (flat_map text) (take-suc xs k x lt)
      ∙ flat_map-append text (take k xs) (get_or xs k x ∷ [])
      ∙ ap (λ s. flat_map text (take k xs) ++ s) (append-nil (text (get_or xs k x)))

  -- one turn of writing their texts
  pub texts_step : (a b c : Option (List ℕ)) → Appends a b (flat_map text (take k xs)) →
      Appends b c (text (get_or xs k x)) → Appends a c (flat_map text (take (k + 1) xs))
  texts_step a b c h g = subst (λ s. Appends a c s) (sym one_more)
      (Appends-trans a b c (flat_map text (take k xs)) (text (get_or xs k x)) h g)

  pub texts_cut : (a b c : Option (List ℕ)) → Appends a b (flat_map text (take k xs)) →
      AppendsPart b c (text (get_or xs k x)) → AppendsPart a c (flat_map text xs)
  texts_cut a b c h g =
      subst (λ s. AppendsPart a c s) (sym split_at)
      (part_next a b c (flat_map text (take k xs)) _ h
      (part_first b c (text (get_or xs k x)) (flat_map text (drop (k + 1) xs)) g))

-- the lines of what was told of types are the lines of the types
pub lines_same : (told : List DeclaredType) (types : Names) → map told_of told ≡ map told_as (declared_in types) →
    told_lines told ≡ types_lines types
lines_same told types e = sym (flat_map-map type_line told_of told) ∙ ap (flat_map type_line) e
