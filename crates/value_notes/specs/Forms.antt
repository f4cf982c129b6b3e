-- The forms of values that have no names.
use Rattle.std.specs.Prelude.{ℕ, if◌then◌else◌, List, Option, Some, None, Result, Ok, Err, codes}
use Rattle.std.specs.Str.{bytes_eq}
use Rattle.value_notes.specs.declared.forms.Form.{Form}
use Rattle.value_notes.specs.declared.forms.Form.TheVariants as form
use Rattle.value_notes.specs.Blanks.{skip, is_end}
use Rattle.value_notes.specs.Readings.{◌>>=◌}
use Rattle.value_notes.specs.Entries.{word_at}

-- the form that a word names alone
abbrev pub form_named : List ℕ → Option Form
form_named word =
    if bytes_eq word (codes "dostime") then Some form.DosTime
    else if bytes_eq word (codes "filetime") then Some form.FileTime
    else if bytes_eq word (codes "ipv4") then Some form.Ipv4
    else if bytes_eq word (codes "ipv6") then Some form.Ipv6
    else if bytes_eq word (codes "mac") then Some form.Mac
    else if bytes_eq word (codes "guid") then Some form.Guid
    else if bytes_eq word (codes "uuid") then Some form.Uuid
    else if bytes_eq word (codes "float") then Some form.Float
    else if bytes_eq word (codes "text") then Some form.Text
    else if bytes_eq word (codes "utf16") then Some form.Utf16
    else None

-- the form that a word names after `time`
abbrev pub time_named : List ℕ → Option Form
time_named word =
    if bytes_eq word (codes "ms") then Some form.TimeMilliseconds
    else if bytes_eq word (codes "us") then Some form.TimeMicroseconds
    else None

-- a form, and nothing after it
abbrev pub ends : Form → List ℕ → Result Form (List ℕ)
ends f rest = if is_end rest then Ok f else Err (skip rest)

-- the form that a word names, and nothing after it; `text` is from the word on
abbrev pub ends_named : Option Form → (text rest : List ℕ) → Result Form (List ℕ)
ends_named None text rest = Err (skip text)
ends_named (Some f) text rest = ends f rest

-- the form of a text after `time`: nothing, or the word of a unit
abbrev pub time_at : List ℕ → Result Form (List ℕ)
time_at text =
    if is_end text then Ok form.Time
    else (word_at text >>= λ word. ends_named (time_named word.0) text word.1)

-- the form that a text names
abbrev pub form_at : List ℕ → Result Form (List ℕ)
form_at text =
    word_at text >>= λ word.
    if bytes_eq word.0 (codes "time") then time_at word.1 else ends_named (form_named word.0) text word.1
