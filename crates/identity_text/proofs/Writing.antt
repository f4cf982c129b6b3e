-- Laws of the texts of formats that are written one after another.
use Rattle.std.proofs.Common.{◌≡◌, ℕ, ◌≤◌, Option, List, take, length, map, sym, ◌∙◌, ap, subst}
use Rattle.std.specs.List.{flat_map}
use Rattle.std.specs.Io.KnownBytes.{Appends}
use Rattle.std.proofs.lemmas.List.{take_all}
use Rattle.std.proofs.lemmas.List.Folds.{flat_map-map}
use Rattle.command_line.specs.declared.answer_form.AnswerForm.{AnswerForm}
use Rattle.identification.specs.declared.fit.Fit.{Fit}
use Rattle.identification.specs.declared.format.Format.{Format}
use Rattle.text_output.specs.Written.{AppendsPart}
use Rattle.identity_text.specs.Columns.{shown}
use Rattle.identity_text.specs.Texts.{next_text}

-- what is written of a format after others
abbrev pub next_of : AnswerForm → List Format → Fit → List ℕ
next_of form formats fit = next_text form (shown formats fit)

module _ (form : AnswerForm) (formats : List Format) (fits : List Fit) where
  mapped : flat_map (next_of form formats) fits ≡ flat_map (next_text form) (map (shown formats) fits)
  mapped = sym (flat_map-map (next_text form) (shown formats) fits)

  pub all_written : (a b : Option (List ℕ)) (count : ℕ) → length fits ≤ count →
      Appends a b (flat_map (next_of form formats) (take count fits)) →
      Appends a b (flat_map (next_text form) (map (shown formats) fits))
  all_written a b count all h =
      subst (Appends a b) (ap (flat_map (next_of form formats)) (take_all count fits all) ∙ mapped) h

  pub part_written : (a b : Option (List ℕ)) → AppendsPart a b (flat_map (next_of form formats) fits) →
      AppendsPart a b (flat_map (next_text form) (map (shown formats) fits))
  part_written a b h = subst (AppendsPart a b) mapped h
