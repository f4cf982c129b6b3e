-- What standard output holds where installed pickles aren't formats.
use Rattle.std.proofs.Common.{◌≡◌, inl, inr, ℕ, List, [], Option, Some, sym, subst}
use Rattle.std.specs.Io.KnownBytes.{Keeps}
use Rattle.identification.specs.declared.format.Formats.{Formats}
use Rattle.jobs.specs.Due.{End, Holds}
use Rattle.jobs.specs.Gives.{Gives, InstalledPickle}
use Rattle.jobs.specs.Installed.{DueAmong, EndsFormatless, IsFormatless, formatless, no_room, unreadable, unwritten}
use Rattle.jobs.specs.declared.installed.Formatless.{Formatless}
use Rattle.jobs.specs.declared.installed.Formatless.TheVariants.{Memory, Unprepared, Unread}
use Rattle.jobs.proofs.Holding.{no_text}

module _ (gives : Gives) (folder : Option (List ℕ))
    (Due : List InstalledPickle → Formats → (lines : List (List ℕ)) → Option End → Type 0)
    (pickles : List InstalledPickle) (installed : gives.is_installed folder pickles) where
  no_lines : (end other : End) (out out' : Option (List ℕ)) → DueAmong gives folder Due [] (Some other) → end ≡ other →
      Keeps out out' → Holds (DueAmong gives folder Due) out out' end
  no_lines end other out out' due is keeps =
      subst (Holds (DueAmong gives folder Due) out out') (sym is)
      (no_text (DueAmong gives folder Due) other out out' due keeps)

  pub formatless_holds : (why : Formatless) (end : End) (out out' : Option (List ℕ)) → IsFormatless pickles why →
      EndsFormatless why end → Keeps out out' → Holds (DueAmong gives folder Due) out out' end
  formatless_holds Memory end out out' no_formats ends keeps = no_lines end _ out out' no_room ends keeps
  formatless_holds (Unread fault) end out out' no_formats ends keeps =
      no_lines end _ out out' (unreadable installed no_formats) ends keeps
  formatless_holds (Unprepared unfit) end out out' no_formats (inl is) keeps =
      no_lines end _ out out' (formatless installed no_formats) is keeps
  formatless_holds (Unprepared unfit) end out out' no_formats (inr is) keeps =
      no_lines end _ out out' unwritten is keeps
