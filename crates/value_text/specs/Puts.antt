-- What a printer did with a text.
use Rattle.std.specs.Prelude.{◌≡◌, ℕ, Bool, true, false, List, ◌++◌, Option, Result, OnOk, OnErr}
use Rattle.std.specs.Io.KnownBytes.{Appends}
use Rattle.text_output.specs.Written.{AppendsPart}
use Rattle.value_text.specs.declared.print.printer.Printer.{Printer}

-- known bytes grow by a text but for a remainder at its end
pub record AppendsBut (old new : Option (List ℕ)) (rest text : List ℕ) : Type 0 where
  pub taken : List ℕ
  pub appends : Appends old new taken
  pub whole : taken ++ rest ≡ text

-- what became of a text since the writer had the old bytes: it accepted all but what is in the line or, if it failed, a
-- part
abbrev pub Stands : (failed : Bool) (old new : Option (List ℕ)) (line text : List ℕ) → Type 0
Stands false old new line text = AppendsBut old new line text
Stands true old new line text = AppendsPart old new text

module _ {W : Type 0} (contents : W → Option (List ℕ)) where
  -- a printer has put this text since its writer had these bytes
  abbrev pub HasPut : (start : Option (List ℕ)) → Printer W → List ℕ → Type 0
  HasPut start printer text = Stands printer.failed start (contents printer.writer.now) printer.line text

  -- a call puts a text after all that was put before
  pub record Puts (old new : Printer W) (text : List ℕ) : Type 0 where
    pub lent : new.writer.ghost_name ≡ old.writer.ghost_name
    pub behind : (start : Option (List ℕ)) (before : List ℕ) → HasPut start old before →
        HasPut start new (before ++ text)

  -- a call ends the printing of a text: the writer accepted it or, with a fault, some of its first bytes
  pub record Ends {A E : Type 0} (old new : Printer W) (result : Result A E) : Type 0 where
    pub lent : new.writer.ghost_name ≡ old.writer.ghost_name
    pub ok : (start : Option (List ℕ)) (text : List ℕ) → HasPut start old text →
        OnOk result (Appends start (contents new.writer.now) text)
    pub err : (start : Option (List ℕ)) (text : List ℕ) → HasPut start old text →
        OnErr result (AppendsPart start (contents new.writer.now) text)
