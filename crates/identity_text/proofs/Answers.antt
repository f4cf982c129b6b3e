-- What is written of the formats that fit.
use Rattle.std.proofs.Common.{◌≡◌, ℕ, Bool, true, false, List, [], ◌∷◌, length, map, refl, sym, subst, arith}
use Rattle.std.specs.Prelude.{◌==◌}
use Rattle.command_line.specs.declared.answer_form.AnswerForm.{AnswerForm}
use Rattle.identification.specs.declared.fit.Fit.{Fit}
use Rattle.identification.specs.declared.format.Format.{Format}
use Rattle.run_parts.specs.declared.outcome.Failure.TheVariants.{Memory}
use Rattle.run_parts.specs.declared.outcome.Outcome.TheVariants.{Done, Unidentified, Failed}
use Rattle.identity_text.specs.Columns.{shown}
use Rattle.identity_text.specs.Identities.{IsAnswer, is_line, has_none, is_cut}
use Rattle.identity_text.specs.Texts.{answer}

-- whether there is a format
pub none_in : (fits : List Fit) → (length fits == 0) ≡ true → fits ≡ []
none_in [] e = refl
none_in (fit ∷ fits) e = let some : (length (fit ∷ fits) == 0) ≡ false = grind arith in cc

pub some_in : (fits : List Fit) → (length fits == 0) ≡ false → fits ≡ [] → ⊥
some_in [] e none = cc
some_in (fit ∷ fits) e none = cc

module _ (formats : List Format) (all : Bool) (form : AnswerForm) where
  pub none_written : (fits : List Fit) (text : List ℕ) → fits ≡ [] → text ≡ [] →
      IsAnswer formats all form fits Unidentified text
  none_written fits text none empty =
      subst (IsAnswer formats all form fits Unidentified) (sym empty)
      (subst (λ fits. IsAnswer formats all form fits Unidentified []) (sym none) has_none)

  pub line_written : (fits : List Fit) (text : List ℕ) → (fits ≡ [] → ⊥) →
      text ≡ answer all form (map (shown formats) fits) → IsAnswer formats all form fits Done text
  line_written [] text some is = absurd (some refl)
  line_written (fit ∷ fits) text some is =
      subst (IsAnswer formats all form (fit ∷ fits) Done) (sym is) is_line

  pub cut_off : (fits : List Fit) (text : List ℕ) → text ≡ [] → IsAnswer formats all form fits (Failed Memory) text
  cut_off fits text empty = subst (IsAnswer formats all form fits (Failed Memory)) (sym empty) is_cut
