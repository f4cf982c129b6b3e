-- What the line `Inside` says.
use Rattle.std.specs.Prelude.{ℕ, Bool, ◌&&◌, ◌==◌, not, if◌then◌else◌, List, [], slice_index, Option, Some, None, codes}
use Rattle.std.specs.Str.{bytes_eq}
use Rattle.pickle_heads.specs.declared.inside.Inside.{Inside}
use Rattle.pickle_heads.specs.declared.inside.Inside.TheVariants as inside
use Rattle.pickle_heads.specs.Texts.{after, before, is_name}

-- what maps a format among other bytes: nothing, for a reason, or a type with a name
pub data Among : Type 0 where
  no_type : (reason : List ℕ) → Among
  by_type : (name : List ℕ) → Among

abbrev pub inside_said : Inside → Among
inside_said (inside.Nothing reason) = no_type reason.now
inside_said (inside.«Type» name) = by_type name.now

-- a reason isn't empty, and begins with no blank
abbrev pub is_reason : List ℕ → Bool
is_reason text = not (bytes_eq text []) && not (slice_index text 0 == 32)

abbrev pub reason_if_any : Option (List ℕ) → Option Among
reason_if_any None = None
reason_if_any (Some reason) = if is_reason reason then Some (no_type reason) else None

-- a reason and a `.`
abbrev pub reason_in : List ℕ → Option Among
reason_in sentence = reason_if_any (before (codes ".") sentence)

abbrev pub inside_type : List ℕ → Option Among
inside_type text = if is_name text && not (bytes_eq text (codes "nothing")) then Some (by_type text) else None

abbrev pub because_or_type : (text : List ℕ) → Option (List ℕ) → Option Among
because_or_type text (Some sentence) = reason_in sentence
because_or_type text None = inside_type text

-- what the text of the line says, if it is in its form
abbrev pub inside_in : List ℕ → Option Among
inside_in text = because_or_type text (after (codes "nothing, because ") text)
