-- What standard output holds where lines are due.
use Rattle.std.proofs.Common.{◌≡◌, ◌≢◌, ◌∙◌, ℕ, List, [], ◌∷◌, ◌++◌, Option, Some, None, Ok, length, refl, sym, ap, subst, arith}
use Rattle.std.proofs.KnownBytes.{Appends-trans}
use Rattle.std.proofs.lemmas.List.{append-nil, append_assoc, length-append}
use Rattle.std.specs.List.{concat}
use Rattle.std.specs.Prelude.{IfNone}
use Rattle.std.specs.Io.KnownBytes.{Appends, Keeps}
use Rattle.jobs.specs.Due.{DueAfter, DueRun, End, Holds, after_text, early, line_due, output_fails, part, text_due, whole}
use Rattle.jobs.specs.declared.ending.Ending.TheVariants.{Run}
use Rattle.run_parts.specs.Outcomes.{EndsAs, cuts, reports, writes}
use Rattle.run_parts.specs.Told.{AppendsUpTo, Saying}
use Rattle.run_parts.specs.declared.outcome.Outcome.{Outcome}
use Rattle.run_parts.specs.declared.outcome.Outcome.TheVariants as outcome
use Rattle.text_output.proofs.Parts.{Appends-keeps, part_next}
use Rattle.text_output.specs.Written.{AppendsPart}

-- what is said where there is no value
pub if_not_some : {A P : Type 0} (o : Option A) → ((found : A) → o ≢ Some found) → IfNone o P → P
if_not_some None none said = said
if_not_some (Some found) none said = absurd (none found refl)

-- nothing is written
pub keeps_appends : (a b : Option (List ℕ)) → Keeps a b → Appends a b []
keeps_appends None b keeps = tt
keeps_appends (Some x) None keeps = absurd keeps
keeps_appends (Some x) (Some y) keeps = keeps ∙ sym (append-nil x)

pub appends_keeps : (a b : Option (List ℕ)) → Appends a b [] → Keeps a b
appends_keeps None b h = tt
appends_keeps (Some x) None h = absurd h
appends_keeps (Some x) (Some y) h = h ∙ append-nil x

-- no text has a part that lacks something of nothing
pub no_part : (a b : Option (List ℕ)) → AppendsPart a b [] → ⊥
no_part a b h = absurd (omega (arith, ap length h.whole, length-append h.taken h.rest, h.more))

-- nothing, and then a text
pub keeps_before : (a b c : Option (List ℕ)) (text : List ℕ) → Keeps a b → Appends b c text → Appends a c text
keeps_before a b c text keeps h = Appends-trans a b c [] text (keeps_appends a b keeps) h

pub keeps_before_part : (a b c : Option (List ℕ)) (text : List ℕ) → Keeps a b → AppendsPart b c text →
    AppendsPart a c text
keeps_before_part a b c text keeps h = record {
  taken = h.taken;
  rest = h.rest;
  appends = keeps_before a b c h.taken keeps h.appends;
  whole = h.whole;
  more = h.more;
}

pub part_keeps : (a b c : Option (List ℕ)) (text : List ℕ) → AppendsPart a b text → Keeps b c → AppendsPart a c text
part_keeps a b c text h keeps = record {
  taken = h.taken;
  rest = h.rest;
  appends = Appends-keeps a b c h.taken h.appends keeps;
  whole = h.whole;
  more = h.more;
}

-- a text, or its first bytes
pub upto_whole : (a b : Option (List ℕ)) (text : List ℕ) → Appends a b text → AppendsUpTo a b text
upto_whole a b text h = record { taken = text; rest = []; appends = h; whole = append-nil text }

pub upto_part : (a b : Option (List ℕ)) (text : List ℕ) → AppendsPart a b text → AppendsUpTo a b text
upto_part a b text h = record { taken = h.taken; rest = h.rest; appends = h.appends; whole = h.whole }

-- a text, and then another or its first bytes
pub upto_next : (a b c : Option (List ℕ)) (x y : List ℕ) → Appends a b x → AppendsUpTo b c y → AppendsUpTo a c (x ++ y)
upto_next a b c x y h g = record {
  taken = x ++ g.taken;
  rest = g.rest;
  appends = Appends-trans a b c x g.taken h g.appends;
  whole = append_assoc x g.taken g.rest ∙ ap (λ s. x ++ s) g.whole;
}

-- the text of one line
one_line : (text : List ℕ) → concat (text ∷ []) ≡ text
one_line text = append-nil text

pub whole_text : (Due : List (List ℕ) → Option End → Type 0) (text : List ℕ) (end : End) (out out' : Option (List ℕ))
    → Due (text ∷ []) (Some end) → Appends out out' text → Holds Due out out' end
whole_text Due text end out out' due h = whole due (subst (λ t. Appends out out' t) (sym (one_line text)) h)

pub part_text : (Due : List (List ℕ) → Option End → Type 0) (text : List ℕ) (end : End) (out out' : Option (List ℕ))
    → Due (text ∷ []) (Some end) → AppendsPart out out' text → Holds Due out out' output_fails
part_text Due text end out out' due h =
    part {end = end} due (subst (λ t. AppendsPart out out' t) (sym (one_line text)) h)

pub no_text : (Due : List (List ℕ) → Option End → Type 0) (end : End) (out out' : Option (List ℕ))
    → Due [] (Some end) → Keeps out out' → Holds Due out out' end
no_text Due end out out' due keeps = whole due (keeps_appends out out' keeps)

-- what a run must say
pub run_holds : (IsRight : Saying → Type 0) (ended : Outcome) (out out' : Option (List ℕ))
    → EndsAs IsRight ended out out'
    → Holds (DueRun IsRight) out out' (Ok (Run ended))
run_holds IsRight _ out out' (writes text right h) =
    whole_text (DueRun IsRight) text (Ok (Run outcome.Done)) out out' (text_due right) h
run_holds IsRight _ out out' (cuts text right h) =
    part_text (DueRun IsRight) text (Ok (Run outcome.Done)) out out' (text_due right) h
run_holds IsRight ended out out' (reports right keeps) =
    no_text (DueRun IsRight) (Ok (Run ended)) out out' (line_due right) keeps

-- nothing, and then what is due
pub holds_after : (Due : List (List ℕ) → Option End → Type 0) (end : End) (out mid out' : Option (List ℕ))
    → Keeps out mid
    → Holds Due mid out' end → Holds Due out out' end
holds_after Due _ out mid out' keeps (whole {lines = lines} due h) =
    whole due (keeps_before out mid out' (concat lines) keeps h)
holds_after Due _ out mid out' keeps (part {lines = lines} {end = end} due h) =
    part {end = end} due (keeps_before_part out mid out' (concat lines) keeps h)
holds_after Due _ out mid out' keeps (early {lines = lines} due h) =
    early due (record {
      taken = h.taken;
      rest = h.rest;
      appends = keeps_before out mid out' h.taken keeps h.appends;
      whole = h.whole;
    })

-- a text, and then what is due
pub holds_next : (Due : List (List ℕ) → Option End → Type 0) (text : List ℕ) (end : End)
    (out mid out' : Option (List ℕ))
    → Appends out mid text
    → Holds Due mid out' end → Holds (DueAfter text Due) out out' end
holds_next Due text _ out mid out' h (whole {lines = lines} due g) =
    whole (after_text due) (Appends-trans out mid out' text (concat lines) h g)
holds_next Due text _ out mid out' h (part {lines = lines} {end = end} due g) =
    part {end = end} (after_text due) (part_next out mid out' text (concat lines) h g)
holds_next Due text _ out mid out' h (early {lines = lines} due g) =
    early (after_text due) (upto_next out mid out' text (concat lines) h g)

-- the first bytes of that text
pub holds_cut : (Due : List (List ℕ) → Option End → Type 0) (text : List ℕ) (out out' : Option (List ℕ)) → Due [] None
    → AppendsPart out out' text → Holds (DueAfter text Due) out out' output_fails
holds_cut Due text out out' due h =
    early (after_text due)
    (subst (λ t. AppendsUpTo out out' t) (sym (one_line text)) (upto_part out out' text h))

-- what is due is due in a wider sense
pub holds_more : (Due More : List (List ℕ) → Option End → Type 0) (end : End) (out out' : Option (List ℕ))
    → ((lines : List (List ℕ)) (end : Option End) → Due lines end → More lines end)
    → Holds Due out out' end → Holds More out out' end
holds_more Due More _ out out' more (whole {lines = lines} {end = end} due h) = whole (more lines (Some end) due) h
holds_more Due More _ out out' more (part {lines = lines} {end = end} due h) =
    part {end = end} (more lines (Some end) due) h
holds_more Due More _ out out' more (early {lines = lines} due h) = early (more lines None due) h
