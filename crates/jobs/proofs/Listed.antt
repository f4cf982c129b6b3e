-- Laws of the list of the installed pickles.
use Rattle.std.proofs.Common.{◌≡◌, ◌∙◌, ℕ, ◌≤◌, List, Option, length, map, take, ap, sym, subst}
use Rattle.std.specs.List.{flat_map}
use Rattle.std.specs.Io.KnownBytes.{Appends}
use Rattle.std.proofs.lemmas.List.{take_all}
use Rattle.std.proofs.lemmas.List.Folds.{flat_map-map}
use Rattle.command_line.specs.declared.answer_form.AnswerForm.{AnswerForm}
use Rattle.jobs.specs.Formats.{listed}
use Rattle.jobs.specs.Installed.{installed_pickle}
use Rattle.jobs.specs.declared.installed.Installed.{Installed}
use Rattle.text_output.specs.Written.{AppendsPart}

-- what is written of a pickle
abbrev pub listed_one : AnswerForm → Installed → List ℕ
listed_one form one = listed form (installed_pickle one)

module _ (form : AnswerForm) (installed : List Installed) where
  mapped : flat_map (listed_one form) installed ≡ flat_map (listed form) (map installed_pickle installed)
  mapped = sym (flat_map-map (listed form) installed_pickle installed)

  pub all_listed : (a b : Option (List ℕ)) (count : ℕ) → length installed ≤ count →
      Appends a b (flat_map (listed_one form) (take count installed)) →
      Appends a b (flat_map (listed form) (map installed_pickle installed))
  all_listed a b count all h =
      subst (Appends a b) (ap (flat_map (listed_one form)) (take_all count installed all) ∙ mapped) h

  pub part_listed : (a b : Option (List ℕ)) → AppendsPart a b (flat_map (listed_one form) installed) →
      AppendsPart a b (flat_map (listed form) (map installed_pickle installed))
  part_listed a b h = subst (AppendsPart a b) mapped h
