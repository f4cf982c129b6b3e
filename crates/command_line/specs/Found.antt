-- What the arguments of a command request, by what clap found among them.
use Rattle.std.specs.Prelude.{◌≡◌, ◌≢◌, ◌⊎◌, ◌<◌, ◌||◌, ℕ, Bool, true, false, is_some, not, List, [], map, Option, Some, None, option_map, String, string_bytes, codes}
use Rattle.std.specs.Option.{unwrap_or, option_map_or}
use Rattle.std.specs.declared.alloc.Global.{Global}
use Rattle.std.specs.Str.{bytes_eq}
use Rattle.clap.specs.Matches.{first_value, one_text, matched_of, raw_values}
use Rattle.clap.specs.declared.parser.matches.Found.{Found}
use Rattle.bit_space.specs.declared.order.Order.{Order}
use Rattle.bit_space.specs.declared.order.Order.TheVariants.{Big, Little}
use Rattle.text_output.specs.declared.mode.Mode.{Mode}
use Rattle.text_output.specs.declared.style.Style.{Style}
use Rattle.text_output.specs.Styles.{plain}
use Rattle.text_output.specs.declared.style.Beside.{Beside}
use Rattle.text_output.specs.declared.style.Chars.TheVariants.{Text as AsText}
use Rattle.text_output.specs.declared.style.Numbers.TheVariants.{Decimal}
use Rattle.command_line.specs.Numerals.{IsNumber, IsNoNumber}
use Rattle.command_line.specs.Starts.{NamesStart, IsNoStart, NamesByteIfAny, IsNoByteIfAny, NamesBytes, IsNoBytes, NamesWindow, IsNoWindow}
use Rattle.command_line.specs.OffsetWord.{IsOffsetWord, IsNoOffset}
use Rattle.command_line.specs.Subjects.{HasPart, IsPartOfHead, IsTypeOf, is_by_head, is_file_alone, pickle_of, type_before, word_after}
use Rattle.command_line.specs.Flags.{FlagIn}
use Rattle.command_line.specs.Paths.{IsPath, steps_of}
use Rattle.command_line.specs.Selects.{Selects, PartBeside, IsNoPathIfAny}
use Rattle.command_line.specs.Styles.{NamesNumbersOr, NamesNumbersIfAny, NamesCharsOr, NamesElementsOr, IsNoElementsIfAny, NamesColor, NamesFaults}
use Rattle.command_line.specs.Words.{NamesMode, NamesModeIfAny}
use Rattle.command_line.specs.declared.selection.Choice.{Choice}
use Rattle.command_line.specs.declared.selection.Choice.TheVariants.{Parts, Columns}
use Rattle.command_line.specs.declared.start.Start.{Start}
use Rattle.command_line.specs.declared.start.Start.TheVariants.{Bit}
use Rattle.command_line.specs.declared.subject.HeadType.{HeadType}
use Rattle.command_line.specs.declared.subject.HeadType.TheVariants as head
use Rattle.command_line.specs.declared.subject.Subject.{Subject}
use Rattle.command_line.specs.declared.subject.Subject.TheVariants.{Named, Identified}
use Rattle.command_line.specs.declared.terms.Terms.{Terms}
use Rattle.command_line.specs.declared.words.mapping.MappingWords.{MappingWords}
use Rattle.command_line.specs.declared.words.Job.{Job}
use Rattle.command_line.specs.declared.words.Job.TheVariants as job
use Rattle.command_line.specs.declared.words.Job.TheVariants.{Map, Bound, BoundText, TightBound, MemoryBound, Check, Types, Identify, Formats, Dump}
use Rattle.command_line.specs.declared.identification.Identification.{Identification}
use Rattle.command_line.specs.declared.request.Request.{Request}
use Rattle.command_line.specs.declared.fault_form.FaultForm.{FaultForm}
use Rattle.command_line.specs.declared.limit.Limit.{Limit}
use Rattle.command_line.specs.declared.limit.Limit.TheVariants.{Steps, Auto}
use Rattle.command_line.specs.declared.fault_form.FaultForm.TheVariants.{Text}
use Rattle.command_line.specs.declared.request.Form.{Form}
use Rattle.command_line.specs.declared.request.Form.TheVariants.{Printed, Shown}
use Rattle.command_line.specs.declared.request.Over.{Over}
use Rattle.command_line.specs.declared.request.Over.TheVariants.{Bytes, File, Files, Records, Search}
use Rattle.command_line.specs.declared.request.RecordList.{RecordList}
use Rattle.command_line.specs.declared.request.RecordsOf.{RecordsOf}
use Rattle.command_line.specs.declared.request.RecordsOf.TheVariants as of
use Rattle.command_line.specs.declared.request.ValueSearch.{ValueSearch}
use Rattle.command_line.specs.declared.request.FileNames.{FileNames}
use Rattle.command_line.specs.declared.request.FileNames.TheVariants.{Words, EndedByZero}

-- the text of an argument, empty if it wasn't given
abbrev pub word_in : Found → List ℕ → List ℕ
word_in found name = unwrap_or (first_value found name) []

-- the number that an argument is; the default if it wasn't given
abbrev pub NumberIn : Option (List ℕ) → ℕ → ℕ → Type 0
NumberIn None default number = number ≡ default
NumberIn (Some word) default number = IsNumber word number

-- the same, and no number if it wasn't given
abbrev pub NumberIfAny : Option (List ℕ) → Option ℕ → Type 0
NumberIfAny None number = number ≡ None
NumberIfAny (Some word) None = ⊥
NumberIfAny (Some word) (Some number) = IsNumber word number

-- an argument was given, and is no number
abbrev pub IsNoNumberIfAny : Option (List ℕ) → Type 0
IsNoNumberIfAny None = ⊥
IsNoNumberIfAny (Some word) = IsNoNumber word

-- `little` is little-endian, any other text big-endian
abbrev pub NamesOrder : List ℕ → Order → Type 0
NamesOrder word Big = word ≢ codes "little"
NamesOrder word Little = word ≡ codes "little"

-- the order that an argument names, or none if it wasn't given
abbrev pub NamesOrderIfAny : Option (List ℕ) → Option Order → Type 0
NamesOrderIfAny None order = order ≡ None
NamesOrderIfAny (Some word) None = ⊥
NamesOrderIfAny (Some word) (Some order) = NamesOrder word order

-- the same, and big-endian if it wasn't given
abbrev pub NamesOrderOrBig : Option (List ℕ) → Order → Type 0
NamesOrderOrBig None order = order ≡ Big
NamesOrderOrBig (Some word) order = NamesOrder word order

-- how a printed value looks, with so many elements by default
pub record NamesStyle (found : Found) (default style : Style) : Type 0 where
  pub numbers : NamesNumbersOr default.numbers (first_value found (codes "numbers")) style.numbers
  pub chars : NamesCharsOr default.chars (first_value found (codes "chars")) style.chars
  pub elements : NamesElementsOr default.elements (first_value found (codes "elements")) style.elements

-- the terms under which a value is accepted, and what is printed of it, with so many elements by default
pub record HasTerms (found : Found) (choice : Choice) (default : Style) (terms : Terms) : Type 0 where
  pub whole : FlagIn (one_text found (codes "whole")) terms.whole
  pub most_output : NumberIfAny (first_value found (codes "max-output")) terms.most_output
  pub part : PartBeside (first_value found (codes "get")) terms.selection terms.part
  pub most_slots : NumberIfAny (first_value found (codes "slots")) terms.most_slots
  pub most_bytes : NumberIfAny (first_value found (codes "memory")) terms.most_bytes
  pub style : NamesStyle found default terms.style
  pub look : terms.look ≡ None
  pub selection : Selects found choice terms.selection

abbrev pub no_terms : Terms
no_terms = record {
  whole = false;
  most_output = None;
  part = None;
  most_slots = None;
  most_bytes = None;
  style = plain;
  look = None;
  selection = None;
}

-- where a mapping starts
abbrev pub StartsAt : Found → Start → Type 0
StartsAt found start = NamesStart (first_value found (codes "byte")) (word_in found (codes "at")) start

-- what is mapped of which pickle, by the argument for the type
pub record AsksSubject (found : Found) (type : Option (List ℕ)) (subject : Subject) : Type 0 where
  pub read_from : pickle_of subject ≡ Some (word_in found (codes "PICKLE"))
  pub typed : IsTypeOf (word_in found (codes "PICKLE")) type subject
  pub part : HasPart (one_text found (codes "inside")) subject

-- one argument alone is the file, to show by the format that it has or to search
abbrev pub shows_file_alone : Found → Bool
shows_file_alone found = is_file_alone (first_value found (codes "PICKLE")) (first_value found (codes "TYPE"))
    (first_value found (codes "FILE"))

-- the same of what is looked for or listed, which by a head is one type of it
pub record AsksPart (found : Found) (part : HeadType) (type : Option (List ℕ)) (subject : Subject) : Type 0 where
  pub read_from : pickle_of subject ≡ Some (word_in found (codes "PICKLE"))
  pub typed : IsTypeOf (word_in found (codes "PICKLE")) type subject
  pub part_of_head : IsPartOfHead part subject

-- the same where one argument alone is the file to search, for all formats
abbrev pub SeeksBy : (alone : Bool) → (found : Found) → (type : Option (List ℕ)) → Subject → Type 0
SeeksBy true found type subject = subject ≡ Identified
SeeksBy false found type subject = AsksPart found head.Inside type subject

abbrev pub SeeksSubject : (found : Found) → (type : Option (List ℕ)) → Subject → Type 0
SeeksSubject found type subject = SeeksBy (shows_file_alone found) found type subject

-- `auto` is a limit that fits the type and the file, any other text a number of steps
abbrev pub NamesLimit : List ℕ → Limit → Type 0
NamesLimit word Auto = word ≡ codes "auto"
NamesLimit word (Steps most) = IsNumber word most

abbrev pub NamesLimitIn : Option (List ℕ) → Limit → Type 0
NamesLimitIn None limit = limit ≡ Steps 1000000000
NamesLimitIn (Some word) limit = NamesLimit word limit

-- an argument was given, and is neither
abbrev pub IsNoLimitIfAny : Option (List ℕ) → Type 0
IsNoLimitIfAny None = ⊥
IsNoLimitIfAny (Some word) = (word ≢ codes "auto") × IsNoNumber word

-- where a mapping starts, after how many bytes from there its file ends, and its limit of steps
pub record AsksMapping (found : Found) (start : Start) (window : Option ℕ) (limit : Limit) : Type 0 where
  pub starts : StartsAt found start
  pub ends : NamesWindow (first_value found (codes "length")) window
  pub most_steps : NamesLimitIn (first_value found (codes "limit")) limit

-- its byte order, if one is named
abbrev pub AsksOrder : Found → Option Order → Type 0
AsksOrder found order = NamesOrderIfAny (first_value found (codes "endian")) order

-- what is shown, by whether the file is alone and by the argument for the type
abbrev pub ShowsBy : (alone : Bool) → (found : Found) → (type : Option (List ℕ)) → Subject → Type 0
ShowsBy true found type subject = subject ≡ Identified
ShowsBy false found type subject = AsksSubject found type subject

abbrev pub ShowsSubject : (found : Found) → (type : Option (List ℕ)) → Subject → Type 0
ShowsSubject found type subject = ShowsBy (shows_file_alone found) found type subject

-- the words of a mapping are what its arguments request
pub record AsksMappingOf (found : Found) (words : MappingWords) : Type 0 where
  pub mapping : AsksMapping found words.start words.window words.limit
  pub order : AsksOrder found words.order

-- the most bytes that are read of a file without a length, if such a file is read
abbrev pub Spools : Found → Option ℕ → Type 0
Spools found most = NumberIfAny (first_value found (codes "spool")) most

-- how the value is printed
abbrev pub IsInMode : Found → Mode → Type 0
IsInMode found mode = NamesMode (word_in found (codes "mode")) mode

-- the argument for the type, if it isn't left out before the argument of this name, and that argument
abbrev pub type_in : Found → (after : List ℕ) → Option (List ℕ)
type_in found after = type_before (first_value found (codes "TYPE")) (first_value found after)

abbrev pub after_type_in : Found → (after : List ℕ) → Option (List ℕ)
after_type_in found after = word_after (first_value found (codes "TYPE")) (first_value found after)

-- bounds of a type of a pickle over so many bits; a type that is left out is `-`
pub record AsksBound (found : Found) (pickle name : List ℕ) (bits : ℕ) : Type 0 where
  pub read_from : pickle ≡ word_in found (codes "PICKLE")
  pub type_named : name ≡ unwrap_or (type_in found (codes "BITS")) (codes "-")
  pub over : NumberIn (after_type_in found (codes "BITS")) 0 bits

-- the files that arguments name, or the file from which a list of names is read
abbrev pub NamesFiles : Found → FileNames → Type 0
NamesFiles found (Words names) = (first_value found (codes "files0-from") ≡ None)
    × (map string_bytes names.items ≡ option_map_or raw_values (matched_of found (codes "FILE")) [])
NamesFiles found (EndedByZero path) = first_value found (codes "files0-from") ≡ Some (string_bytes path)

-- how a refusal or a fault is written
abbrev pub ReportsIn : Found → FaultForm → Type 0
ReportsIn found faults = NamesFaults (word_in found (codes "faults")) faults

-- what is shown beside each part
pub record ShowsBeside (found : Found) (beside : Beside) : Type 0 where
  pub sizes : FlagIn (one_text found (codes "sizes")) beside.sizes
  pub bytes : FlagIn (one_text found (codes "bytes")) beside.bytes

-- `raw` is the mode in which the bytes of a part are written as they are
abbrev pub is_raw : Found → Bool
is_raw found = bytes_eq (word_in found (codes "mode")) (codes "raw")

-- what is mapped over, by whether bytes are written
abbrev pub over_file : String Global → (raw : Bool) → Over
over_file file true = Bytes file
over_file file false = File file

abbrev pub IsPrintedOver : Found → Over → Type 0
IsPrintedOver found (File file) = is_raw found ≡ false
IsPrintedOver found (Bytes file) = is_raw found ≡ true
IsPrintedOver found (Files names flush) = Unit {0}
IsPrintedOver found (Records file of list) = Unit {0}
IsPrintedOver found (Search file search) = Unit {0}

-- how a value is written: printed in a mode, beside the form of refusals and faults, or shown with colors and with so
-- many levels of parts, 6 by default
abbrev pub IsInForm : Found → Over → Form → Type 0
IsInForm found over (Printed mode faults) = IsInMode found mode × ReportsIn found faults × IsPrintedOver found over
IsInForm found over (Shown color depth numbers beside) = NamesColor (word_in found (codes "color")) color
    × NamesElementsOr (Some 6) (first_value found (codes "depth")) depth
    × NamesNumbersIfAny (first_value found (codes "numbers")) numbers × ShowsBeside found beside

-- the style by default: the plain one; for the eye texts, and 16 elements of an array
abbrev pub for_the_eye : Style
for_the_eye = record { numbers = Decimal; chars = AsText; elements = Some 16 }

abbrev pub style_by_default : Form → Style
style_by_default (Printed mode faults) = plain
style_by_default (Shown color depth numbers beside) = for_the_eye

-- the one file: the last argument, before which the type may be left out, or the pickle too
abbrev pub file_in : Found → List ℕ
file_in found = unwrap_or (after_type_in found (codes "FILE")) (word_in found (codes "PICKLE"))

-- the limit of steps grows with the file where no number is given
abbrev pub is_without_number : Option (List ℕ) → Bool
is_without_number None = true
is_without_number (Some word) = bytes_eq word (codes "auto")

abbrev pub GrowsLimit : Found → Bool → Type 0
GrowsLimit found grows = grows ≡ is_without_number (first_value found (codes "limit"))

-- the offset that an argument is, and none if it wasn't given
abbrev pub NamesOffsetIfAny : Option (List ℕ) → Option ℕ → Type 0
NamesOffsetIfAny None offset = offset ≡ None
NamesOffsetIfAny (Some word) None = ⊥
NamesOffsetIfAny (Some word) (Some offset) = IsOffsetWord word offset

-- a line with the names of the columns comes first, which no JSON has
pub record HasHeader (found : Found) (header : Bool) : Type 0 where
  pub given : FlagIn (one_text found (codes "header")) header
  pub mode : header ≡ true → word_in found (codes "mode") ≢ codes "json"

-- which records of a list are printed, and how the list may end
pub record AsksList (found : Found) (list : RecordList) : Type 0 where
  pub omits : NumberIn (first_value found (codes "omit")) 0 list.omit
  pub counts : NumberIfAny (first_value found (codes "count")) list.count
  pub any_end : FlagIn (one_text found (codes "any-end")) list.any_end
  pub flush : FlagIn (one_text found (codes "flush")) list.flush
  pub report_end : FlagIn (one_text found (codes "report-end")) list.report_end
  pub header : HasHeader found list.header
  pub grows : GrowsLimit found list.grows
  pub resumes : NamesOffsetIfAny (first_value found (codes "resume")) list.resume

-- the offset that an argument is, of at least a bit
abbrev pub NamesStep : List ℕ → ℕ → Type 0
NamesStep word step = IsOffsetWord word step × (0 < step)

-- at which places a type is tried, and which values are printed
pub record AsksSearch (found : Found) (search : ValueSearch) : Type 0 where
  pub steps : NamesStep (word_in found (codes "step")) search.step
  pub attempts : NumberIn (first_value found (codes "attempt-limit")) 1000000 search.attempt_limit
  pub counts : NumberIfAny (first_value found (codes "count")) search.count
  pub apart : FlagIn (one_text found (codes "apart")) search.apart
  pub flush : FlagIn (one_text found (codes "flush")) search.flush
  pub header : HasHeader found search.header
  pub grows : GrowsLimit found search.grows

-- a type's own name is by the head of its pickle
abbrev pub is_headed : Found → Bool
is_headed found = is_by_head (word_in found (codes "PICKLE")) (type_in found (codes "FILE"))

-- the records are elements of the array at the path that is given, or that a head says, or values of the type
abbrev pub IsSource : Found → (path : Option (List ℕ)) → RecordsOf → Type 0
IsSource found (Some word) (of.«Path» path) = IsPath word (steps_of path.steps.items)
IsSource found (Some word) of.Values = ⊥
IsSource found (Some word) of.Head = ⊥
IsSource found None (of.«Path» path) = ⊥
IsSource found None of.Values = is_headed found ≡ false
IsSource found None of.Head = is_headed found ≡ true

-- the name of the one file that a type is mapped over
abbrev pub file_over : Over → Option (List ℕ)
file_over (File file) = Some (string_bytes file)
file_over (Bytes file) = Some (string_bytes file)
file_over (Files names flush) = None
file_over (Records file of list) = Some (string_bytes file)
file_over (Search file search) = Some (string_bytes file)

-- what a type is mapped over: the one file that an argument names, or many, of which each line may be written at once,
-- or the records in one, or the places in one
abbrev pub IsOver : Found → Over → Type 0
IsOver found (File file) = string_bytes file ≡ file_in found
IsOver found (Bytes file) = string_bytes file ≡ file_in found
IsOver found (Files names flush) = NamesFiles found names × FlagIn (one_text found (codes "flush")) flush
IsOver found (Records file of list) = (string_bytes file ≡ file_in found)
    × IsSource found (first_value found (codes "of")) of × AsksList found list
IsOver found (Search file search) = (string_bytes file ≡ file_in found) × AsksSearch found search

-- the argument for the type; before many files it is left out only if their names are in a list
abbrev pub type_over : Found → Over → Option (List ℕ)
type_over found (File file) = type_in found (codes "FILE")
type_over found (Bytes file) = type_in found (codes "FILE")
type_over found (Files names flush) = first_value found (codes "TYPE")
type_over found (Records file of list) = type_in found (codes "FILE")
type_over found (Search file search) = type_in found (codes "FILE")

-- what a request maps that writes in a form
abbrev pub AsksSubjectIn : (found : Found) → (type : Option (List ℕ)) → Form → Over → Subject → Type 0
AsksSubjectIn found type (Printed mode faults) (File file) subject = AsksSubject found type subject
AsksSubjectIn found type (Printed mode faults) (Bytes file) subject = AsksSubject found type subject
AsksSubjectIn found type (Printed mode faults) (Files names flush) subject = AsksSubject found type subject
AsksSubjectIn found type (Printed mode faults) (Records file of list) subject =
    AsksPart found head.Records type subject
AsksSubjectIn found type (Printed mode faults) (Search file search) subject = SeeksSubject found type subject
AsksSubjectIn found type (Shown color depth numbers beside) over subject = ShowsSubject found type subject

-- whether how much is done is shown
abbrev pub ShowsProgress : Found → Bool → Type 0
ShowsProgress found progress = FlagIn (one_text found (codes "progress")) progress

-- these are the records of the list that arguments request
abbrev pub IsListOver : Found → Over → Type 0
IsListOver found (Records file of list) = IsOver found (Records file of list)
IsListOver found (File file) = ⊥
IsListOver found (Bytes file) = ⊥
IsListOver found (Files names flush) = ⊥
IsListOver found (Search file search) = ⊥

-- which selections the command offers that writes in a form, over one file or many
abbrev pub choice_of : Form → Over → Choice
choice_of (Shown color depth numbers beside) over = Parts
choice_of (Printed mode faults) (File file) = Parts
choice_of (Printed mode faults) (Bytes file) = Parts
choice_of (Printed mode faults) (Files names flush) = Columns
choice_of (Printed mode faults) (Records file of list) = Columns
choice_of (Printed mode faults) (Search file search) = Columns

-- bytes are those of one part
abbrev pub SelectsOne : Over → Terms → Type 0
SelectsOne (Bytes file) terms = terms.selection ≡ None
SelectsOne (File file) terms = Unit {0}
SelectsOne (Files names flush) terms = Unit {0}
SelectsOne (Records file of list) terms = Unit {0}
SelectsOne (Search file search) terms = Unit {0}

-- what values a request writes, over what and how, is what arguments request
pub record AsksValues (found : Found) (terms : Terms) (form : Form) (subject : Subject) (over : Over) : Type 0 where
  pub subject_is : AsksSubjectIn found (type_over found over) form over subject
  pub terms_are : HasTerms found (choice_of form over) (style_by_default form) terms
  pub selects : SelectsOne over terms
  pub form_is : IsInForm found over form
  pub over_is : IsOver found over

-- a request is what arguments request
pub record AsksRequest (found : Found) (request : Request) : Type 0 where
  pub mapping : AsksMapping found request.start request.window request.limit
  pub order : AsksOrder found request.order
  pub spools : Spools found request.spool
  pub values : AsksValues found request.terms request.form request.subject request.over
  pub progress : ShowsProgress found request.progress

-- the formats of files are what arguments request
pub record AsksFormats (found : Found) (asked : Identification) : Type 0 where
  pub starts : NamesByteIfAny (first_value found (codes "byte")) asked.start
  pub ends : NamesWindow (first_value found (codes "length")) asked.window
  pub spools : Spools found asked.spool
  pub all : FlagIn (one_text found (codes "all")) asked.all
  pub folder : option_map string_bytes asked.folder ≡ first_value found (codes "in")
  pub reports : ReportsIn found asked.faults
  pub progress : ShowsProgress found asked.progress
  pub names : NamesFiles found asked.names
  pub flush : FlagIn (one_text found (codes "flush")) asked.flush

-- the first byte of a dump
abbrev pub DumpsFrom : Found → ℕ → Type 0
DumpsFrom found from = NamesBytes (first_value found (codes "skip")) (word_in found (codes "from")) from

-- how many bytes a dump has at most
abbrev pub DumpsBytes : Found → ℕ → Type 0
DumpsBytes found size = NamesBytes (first_value found (codes "length")) (word_in found (codes "size")) size

-- a job is what the arguments of its command request
abbrev pub Asks : Found → Job → Type 0
Asks found (Map at order limit mode pickle name file) =
    AsksSubject found (type_in found (codes "FILE")) (Named pickle name)
    × AsksMapping found (Bit at) None (Steps limit) × NamesOrderOrBig (first_value found (codes "endian")) order
    × IsInMode found mode × (is_raw found ≡ false) × ReportsIn found Text × Spools found None
    × ShowsProgress found false
    × HasTerms found Parts plain no_terms
    × (string_bytes file ≡ file_in found)
Asks found (job.Request request) = AsksRequest found request
Asks found (Bound pickle name bits) = AsksBound found (string_bytes pickle) (string_bytes name) bits
    × FlagIn (one_text found (codes "text")) false × FlagIn (one_text found (codes "tight")) false
    × FlagIn (one_text found (codes "memory")) false
Asks found (TightBound pickle name bits) = AsksBound found (string_bytes pickle) (string_bytes name) bits
    × FlagIn (one_text found (codes "text")) false × FlagIn (one_text found (codes "tight")) true
Asks found (MemoryBound pickle name bits) = AsksBound found (string_bytes pickle) (string_bytes name) bits
    × FlagIn (one_text found (codes "text")) false × FlagIn (one_text found (codes "tight")) false
    × FlagIn (one_text found (codes "memory")) true
Asks found (BoundText pickle name bits mode style) = AsksBound found (string_bytes pickle) (string_bytes name) bits
    × FlagIn (one_text found (codes "text")) true × NamesModeIfAny (first_value found (codes "mode")) mode
    × NamesStyle found plain style
Asks found (Check pickle) = string_bytes pickle ≡ word_in found (codes "PICKLE")
Asks found (Types pickle) =
    (string_bytes pickle ≡ word_in found (codes "PICKLE")) × (first_value found (codes "parts") ≡ None)
Asks found (job.Parts pickle name depth) = (string_bytes pickle ≡ word_in found (codes "PICKLE"))
    × (first_value found (codes "parts") ≡ Some (string_bytes name))
    × NamesElementsOr (Some 6) (first_value found (codes "depth")) depth
Asks found (Identify asked) = AsksFormats found asked
Asks found Formats = Unit {0}
Asks found (Dump from size ruler file) = DumpsFrom found from × DumpsBytes found size
    × FlagIn (one_text found (codes "no-ruler")) (not ruler) × (string_bytes file ≡ word_in found (codes "FILE"))

-- a command is not the one of a name
abbrev pub IsOther : Option (List ℕ) → List ℕ → Type 0
IsOther command name = command ≢ Some name

-- the command that writes in a form, over one file, many, a list or places; only one file is shown to the eye
abbrev pub IsRequestOf : Option (List ℕ) → Form → Over → Type 0
IsRequestOf command (Printed mode faults) (File file) = command ≡ Some (codes "map")
IsRequestOf command (Shown color depth numbers beside) (File file) = command ≡ Some (codes "show")
IsRequestOf command (Printed mode faults) (Bytes file) = command ≡ Some (codes "map")
IsRequestOf command (Shown color depth numbers beside) (Bytes file) = ⊥
IsRequestOf command (Printed mode faults) (Files names flush) = command ≡ Some (codes "each")
IsRequestOf command (Shown color depth numbers beside) (Files names flush) = ⊥
IsRequestOf command (Printed mode faults) (Records file of list) = command ≡ Some (codes "records")
IsRequestOf command (Shown color depth numbers beside) (Records file of list) = ⊥
IsRequestOf command (Printed mode faults) (Search file search) = command ≡ Some (codes "find")
IsRequestOf command (Shown color depth numbers beside) (Search file search) = ⊥

-- a job is of the command of a name
abbrev pub IsJobOf : Option (List ℕ) → Job → Type 0
IsJobOf command (Map at order limit mode pickle name file) = command ≡ Some (codes "map")
IsJobOf command (job.Request request) = IsRequestOf command request.form request.over
IsJobOf command (Bound pickle name bits) = command ≡ Some (codes "bound")
IsJobOf command (TightBound pickle name bits) = command ≡ Some (codes "bound")
IsJobOf command (MemoryBound pickle name bits) = command ≡ Some (codes "bound")
IsJobOf command (BoundText pickle name bits mode style) = command ≡ Some (codes "bound")
IsJobOf command (Types pickle) = command ≡ Some (codes "types")
IsJobOf command (job.Parts pickle name depth) = command ≡ Some (codes "types")
IsJobOf command (Identify asked) = command ≡ Some (codes "identify")
IsJobOf command Formats = command ≡ Some (codes "formats")
IsJobOf command (Dump from size ruler file) = command ≡ Some (codes "dump")
IsJobOf command (Check pickle) =
    IsOther command (codes "map") × IsOther command (codes "show") × IsOther command (codes "each")
    × IsOther command (codes "records") × IsOther command (codes "find") × IsOther command (codes "identify")
    × IsOther command (codes "bound") × IsOther command (codes "types") × IsOther command (codes "formats")
    × IsOther command (codes "dump")

-- the arguments of a mapping name no start, or no number of bytes from there on
abbrev pub IsNoExtent : Found → Type 0
IsNoExtent found = IsNoStart (first_value found (codes "byte")) (word_in found (codes "at"))
    ⊎ IsNoWindow (first_value found (codes "length"))

-- the same of arguments for formats, of which the start is a byte
abbrev pub IsNoByteExtent : Found → Type 0
IsNoByteExtent found =
    IsNoByteIfAny (first_value found (codes "byte")) ⊎ IsNoWindow (first_value found (codes "length"))

-- the arguments of a dump don't name bytes: one of them isn't such a number or offset
abbrev pub IsNoRange : Found → Type 0
IsNoRange found = IsNoBytes (first_value found (codes "skip")) (word_in found (codes "from"))
    ⊎ IsNoBytes (first_value found (codes "length")) (word_in found (codes "size"))

-- the arguments of a bound have something else than a number where one belongs
abbrev pub IsNoBound : Found → Type 0
IsNoBound found =
    IsNoNumberIfAny (after_type_in found (codes "BITS")) ⊎ IsNoElementsIfAny (first_value found (codes "elements"))

-- an argument was given, and is no offset
abbrev pub IsNoOffsetIfAny : Option (List ℕ) → Type 0
IsNoOffsetIfAny None = ⊥
IsNoOffsetIfAny (Some word) = IsNoOffset word

-- names of columns are requested in JSON
pub record IsNoHeader (found : Found) : Type 0 where
  pub given : FlagIn (one_text found (codes "header")) true
  pub mode : word_in found (codes "mode") ≡ codes "json"

-- the arguments for a list have something else than a number or a path where one belongs, or a header in JSON
abbrev pub IsNoList : Found → Type 0
IsNoList found = (IsNoNumberIfAny (first_value found (codes "omit")) ⊎ IsNoHeader found)
    ⊎ (IsNoNumberIfAny (first_value found (codes "count")) ⊎ IsNoPathIfAny (first_value found (codes "of")))

-- they name no start, or no place where the list goes on
abbrev pub IsNoListExtent : Found → Type 0
IsNoListExtent found = IsNoExtent found ⊎ IsNoOffsetIfAny (first_value found (codes "resume"))

-- the distance of places isn't an offset
abbrev pub IsNoStep : Found → Type 0
IsNoStep found = IsNoOffset (word_in found (codes "step"))

-- the arguments for a search have something else than a number where one belongs, places that don't move, or names of
-- columns in JSON
abbrev pub IsNoSearch : Found → Type 0
IsNoSearch found = (IsNoNumberIfAny (first_value found (codes "attempt-limit")) ⊎ IsNoHeader found)
    ⊎ (IsNoNumberIfAny (first_value found (codes "count")) ⊎ IsOffsetWord (word_in found (codes "step")) 0)

-- whether parts of values are requested
abbrev pub asks_parts : Terms → Bool
asks_parts terms = is_some terms.part || is_some terms.selection

-- parts are requested of values of all formats
pub record SeeksParts (found : Found) : Type 0 where
  pub alone : shows_file_alone found ≡ true
  pub terms : Terms
  pub has : HasTerms found Columns plain terms
  pub parts : asks_parts terms ≡ true
