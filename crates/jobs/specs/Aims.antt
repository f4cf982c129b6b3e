-- What a mapping is requested to do, whatever the file.
use Rattle.std.specs.Prelude.{◌≡◌, ◌||◌, ℕ, Bool, true, false, List, Option, Some, None, option_map}
use Rattle.bit_space.specs.declared.order.Order.{Order}
use Rattle.command_line.specs.Requests.{faults_in}
use Rattle.command_line.specs.declared.ask.Ask.{Ask}
use Rattle.command_line.specs.declared.color.Color.{Color}
use Rattle.command_line.specs.declared.color.Color.TheVariants.{Auto, Always, Never}
use Rattle.command_line.specs.declared.fault_form.FaultForm.{FaultForm}
use Rattle.command_line.specs.declared.fault_form.FaultForm.TheVariants.{Text}
use Rattle.command_line.specs.declared.limit.Limit.{Limit}
use Rattle.command_line.specs.declared.limit.Limit.TheVariants.{Steps}
use Rattle.command_line.specs.declared.request.Form.{Form}
use Rattle.command_line.specs.declared.request.Form.TheVariants.{Printed, Shown}
use Rattle.command_line.specs.declared.request.Request.{Request}
use Rattle.command_line.specs.declared.start.Start.{Start}
use Rattle.command_line.specs.declared.start.Start.TheVariants.{Bit}
use Rattle.command_line.specs.declared.terms.Terms.{Terms}
use Rattle.jobs.specs.Chosen.{ChosenType, chosen, first_order}
use Rattle.jobs.specs.Growth.{limit_over}
use Rattle.jobs.specs.declared.settings.Mapping.{Mapping}
use Rattle.text_output.specs.declared.mode.Mode.{Mode}
use Rattle.text_output.specs.declared.mode.Mode.TheVariants.{Flat}
use Rattle.text_output.specs.declared.style.Look.{Look}

-- a type's name, a start, a byte order, a limit of steps, and a mode
pub record Aim : Type 0 where
  pub name : List ℕ
  pub start : Start
  pub order : Order
  pub limit : Limit
  pub mode : Mode

abbrev pub aim_of : Mapping → Aim
aim_of mapping = record {
  name = mapping.name.now;
  start = mapping.start;
  order = mapping.order;
  limit = mapping.limit;
  mode = mapping.mode;
}

-- that of a mapping which starts at a bit
abbrev pub plain_aim : (name : List ℕ) (at : ℕ) → Order → (limit : ℕ) → Mode → Aim
plain_aim name at order limit mode =
    record { name = name; start = Bit at; order = order; limit = Steps limit; mode = mode }

-- a value that is shown to the eye has no mode of its own
abbrev pub form_mode : Form → Mode
form_mode (Printed mode faults) = mode
form_mode (Shown color depth numbers beside) = Flat

-- whether types are dimmed
abbrev pub dims : Color → Bool
dims Auto = false
dims Always = true
dims Never = false

-- the look of a value that is shown to the eye
abbrev pub look_of : Form → Terms → Option Look
look_of (Printed mode faults) terms = terms.look
look_of (Shown color depth numbers beside) terms =
    Some (record {
      numbers = numbers;
      chars = terms.style.chars;
      elements = terms.style.elements;
      depth = depth;
      dim = dims color;
      beside = beside;
    })

-- the terms of a request: a head may want that a value ends where its file does
abbrev pub settled_terms : Form → (whole : Bool) → Terms → Terms
settled_terms form whole terms = record terms { whole = terms.whole || whole; look = look_of form terms }

-- what a job requests of a mapping: what is mapped and under which terms, after how many bytes its file ends, how many
-- bytes of a file without a length are read, and the form of a fault of one file among many
pub record Requested : Type 0 where
  pub aim : Aim
  pub window : Option ℕ
  pub terms : Terms
  pub spool : Option ℕ
  pub faults : FaultForm

-- a mapping of one file from a bit on
abbrev pub plain_request : (name : List ℕ) (at : ℕ) → Order → (limit : ℕ) → Mode → Terms → Requested
plain_request name at order limit mode terms = record {
  aim = plain_aim name at order limit mode;
  window = None;
  terms = terms;
  spool = None;
  faults = Text;
}

-- what a request says of the type of a name, in a byte order and under terms
abbrev pub of_type : Request → (name : List ℕ) → Order → Terms → Requested
of_type request name order terms = record {
  aim = record {
    name = name;
    start = request.start;
    order = order;
    limit = request.limit;
    mode = form_mode request.form;
  };
  window = request.window;
  terms = terms;
  spool = request.spool;
  faults = faults_in request.form;
}

-- what a request says once its type is chosen. A byte order that is given comes before that of a head
abbrev pub of_chosen : Request → ChosenType → Requested
of_chosen request chosen = of_type request chosen.name (first_order request.order chosen.order)
    (settled_terms request.form chosen.whole request.terms)

-- what a request says of a pickle; nothing if its head doesn't say the type
abbrev pub of_request : Request → (pickle : List ℕ) → Option Requested
of_request request pickle = option_map (of_chosen request) (chosen request.subject pickle)

-- what a mapping is given
abbrev pub of_mapping : Mapping → Requested
of_mapping mapping = record {
  aim = aim_of mapping;
  window = mapping.window;
  terms = mapping.terms.now;
  spool = mapping.spool;
  faults = mapping.faults;
}

-- what the run of an aim is given from a bit on, over a file of so many bytes
pub record IsAskAt (aim : Aim) (start length : ℕ) (ask : Ask) : Type 0 where
  pub name : ask.name.now ≡ aim.name
  pub start_is : ask.start ≡ start
  pub order : ask.order ≡ aim.order
  pub limit : ask.limit ≡ limit_over aim.limit length
  pub mode : ask.mode ≡ aim.mode
