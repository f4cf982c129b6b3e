-- What standard output holds of a file that is shown as the format that it has.
use Rattle.std.proofs.Common.{◌≡◌, ◌≢◌, ◌⊎◌, inl, inr, ℕ, Bool, List, [], ◌∷◌, Option, Some, None, Ok, String, drop, slice_get, refl, sym, ap, subst}
use Rattle.std.proofs.lemmas.Option.{none-some, same_Some}
use Rattle.std.specs.declared.alloc.Global.{Global}
use Rattle.std.specs.Io.KnownBytes.{Keeps}
use Rattle.command_line.specs.declared.request.Over.TheVariants.{File}
use Rattle.command_line.specs.declared.request.Request.{Request}
use Rattle.identification.specs.declared.format.Formats.{Formats}
use Rattle.jobs.specs.Due.{Holds}
use Rattle.jobs.specs.Gives.{Gives, InstalledPickle}
use Rattle.jobs.specs.Identified.{DueSeenFile, many_files, many_unwritten}
use Rattle.jobs.specs.declared.ending.Ending.{Ending}
use Rattle.jobs.specs.declared.ending.Ending.TheVariants.{Run, Silent}
use Rattle.jobs.proofs.Holding.{no_text}
use Rattle.run_parts.specs.declared.outcome.Failure.TheVariants as failure
use Rattle.run_parts.specs.declared.outcome.Outcome.TheVariants as outcome
use Rattle.run_parts.specs.declared.status.Status.TheVariants.{Refused}

-- many files, or a list, have no format of their own, which is a usage error
pub many_hold : (gives : Gives) (why : Bool) (request : Request) (pickles : List InstalledPickle) (formats : Formats)
    (ending : Ending) (out out' : Option (List ℕ)) → ((file : String Global) → request.over ≢ File file)
    → (ending ≡ Silent Refused) ⊎ (ending ≡ Run (outcome.Failed failure.Memory)) → Keeps out out'
    → Holds (DueSeenFile gives why request pickles formats) out out' (Ok ending)
many_hold gives why request pickles formats ending out out' other (inl is) keeps =
    subst (λ e. Holds (DueSeenFile gives why request pickles formats) out out' (Ok e)) (sym is)
    (no_text (DueSeenFile gives why request pickles formats) (Ok (Silent Refused)) out out' (many_files other) keeps)
many_hold gives why request pickles formats ending out out' other (inr is) keeps =
    subst (λ e. Holds (DueSeenFile gives why request pickles formats) out out' (Ok e)) (sym is)
    (no_text (DueSeenFile gives why request pickles formats) (Ok (Run (outcome.Failed failure.Memory))) out out'
    (many_unwritten other) keeps)

-- the first of a list, and the rest of it
pub none_first : {A : Type 0} (xs : List A) → slice_get xs 0 ≡ None → xs ≡ []
none_first [] is = refl
none_first (x ∷ xs) is = absurd (none-some _ (sym is))

pub first_then : {A : Type 0} (xs : List A) (first : A) → slice_get xs 0 ≡ Some first → xs ≡ first ∷ drop 1 xs
first_then [] first is = absurd (none-some _ is)
first_then (x ∷ xs) first is = ap (λ one. one ∷ xs) (same_Some x first is)
