-- The arguments and commands of the program without ties.
use Rattle.std.proofs.Common.{◌≡◌, ◌∙◌, ◌||◌, ◌+◌, ◌<◌, ℕ, Bool, true, false, List, Option, [], ◌∷◌, ◌++◌, length, take, get_or, Result, Ok, Err, IfOk, refl, sym, ap, ap₂, subst, append_assoc, append-nil}
use Rattle.std.proofs.lemmas.List.{map-append, take_more}
use Rattle.clap.specs.Walk.{Rule, Text}
use Rattle.clap.specs.Simple.{App, new_app, new_shape, with_rule, with_subcommand}
use Rattle.clap.specs.Words.{AddsArg, AddsSubcommand}
use Rattle.clap.specs.declared.Arg.{Arg}
use Rattle.clap.specs.declared.Command.{Command}
use Rattle.command_line.specs.declared.words.arguments.Argument.{Argument}
use Rattle.command_line.specs.declared.words.commands.Verb.{Verb}
use Rattle.command_line.specs.Commands.{Row, AreRows, IsArg, IsApp, IsTable, before_if, command_of, format_options, has, listed, mapping_options, other_options, positionals, row_of, rules_of, rule_of_argument, style_options, verb_names, with_commands, with_rules}

-- two groups of rows, one after the other
both_are : (group more : List Argument) (rows others : List Row) → AreRows group rows → AreRows more others
    → AreRows (group ++ more) (rows ++ others)
both_are group more rows others is next = map-append row_of group more ∙ ap₂ (λ a b. a ++ b) is next

-- the five groups are the table
pub is_table : (mapping formats style others places : List Argument) → AreRows mapping mapping_options
    → AreRows formats format_options → AreRows style style_options → AreRows others other_options
    → AreRows places positionals → IsTable (mapping ++ formats ++ style ++ others ++ places)
is_table mapping formats style others places m f s o p =
    both_are _ places _ positionals
    (both_are _ others _ other_options
    (both_are _ style _ style_options
    (both_are mapping formats mapping_options format_options m f) s) o) p

-- one argument more
pub added : (old new : Command) (arg : Arg) (app : App) (rule : Rule) → AddsArg old arg new → IsApp app old →
    IsArg rule arg → IsApp (with_rule app rule) new
added old new arg app rule adds is one = record {
  reads = adds.shape one.local ∙ ap₂ with_rule is.reads one.reads;
  local = adds.globals ∙ ap₂ ◌||◌ is.local one.local;
}

-- one command more
joined : (old sub new : Command) (app one : App) → AddsSubcommand old sub new → IsApp app old → IsApp one sub →
    IsApp (with_subcommand app one.top) new
joined old sub new app one adds is more = record {
  reads = adds.shape more.local ∙ ap₂ (λ a s. with_subcommand a s) is.reads (ap (λ (a : App). a.top) more.reads);
  local = adds.globals ∙ ap₂ ◌||◌ is.local more.local;
}

append_if : (b : Bool) (rule : Rule) (before after : List Rule)
    → before_if b rule (before ++ after) ≡ before_if b rule before ++ after
append_if true rule before after = refl
append_if false rule before after = refl

-- the rules of a command, of two tables one after the other
rules_append : (command : Text) (table more : List Argument)
    → rules_of command (table ++ more) ≡ rules_of command table ++ rules_of command more
rules_append command [] more = refl
rules_append command (argument ∷ table) more =
    ap (before_if (has command argument) (rule_of_argument argument)) (rules_append command table more)
    ∙ append_if (has command argument) (rule_of_argument argument) (rules_of command table) (rules_of command more)

with_rules_append : (app : App) (rules more : List Rule)
    → with_rules app (rules ++ more) ≡ with_rules (with_rules app rules) more
with_rules_append app [] more = refl
with_rules_append app (rule ∷ rules) more = with_rules_append (with_rule app rule) rules more

app_more : (command : Text) (table : List Argument) (i : ℕ) (default : Argument) (app : App) → i < length table
    → with_rules app (rules_of command (take (i + 1) table))
    ≡ with_rules (with_rules app (rules_of command (take i table))) (rules_of command (get_or table i default ∷ []))
app_more command table i default app lt =
    ap (λ rows. with_rules app (rules_of command rows)) (take_more table i default lt)
    ∙ ap (with_rules app) (rules_append command (take i table) (get_or table i default ∷ []))
    ∙ with_rules_append app (rules_of command (take i table)) (rules_of command (get_or table i default ∷ []))

-- the arguments of two groups, one after the other
pub group_added : (command : Text) (group more : List Argument) (new : Command) (app : App)
    → IsApp (with_rules (with_rules app (rules_of command group)) (rules_of command more)) new
    → IsApp (with_rules app (rules_of command (group ++ more))) new
group_added command group more new app is =
    let P : App → Type 0 = λ made. IsApp made new in
    subst P (sym (ap (with_rules app) (rules_append command group more)
    ∙ with_rules_append app (rules_of command group) (rules_of command more))) is

-- one argument more of the table, if the command has it
pub row_added : (command : Text) (table : List Argument) (i : ℕ) (default : Argument) (new : Command) (app : App)
    → i < length table
    → IsApp (with_rules (with_rules app (rules_of command (take i table)))
    (before_if (has command (get_or table i default)) (rule_of_argument (get_or table i default)) [])) new
    → IsApp (with_rules app (rules_of command (take (i + 1) table))) new
row_added command table i default new app lt is =
    let P : App → Type 0 = λ made. IsApp made new in
    subst P (sym (app_more command table i default app lt)) is

-- an argument that the command has
pub had : {E : Type 0} (r : Result Command E) (old : Command) (arg : Arg) (b : Bool) (rule : Rule) (W : Type 0)
    → b ≡ true → IfOk r (AddsArg old arg) → (W → IsArg rule arg)
    → IfOk r (λ new. (app : App) → W → IsApp app old → IsApp (with_rules app (before_if b rule [])) new)
had (Ok new) old arg b rule W has adds is = λ app w before.
    let P : Bool → Type 0 = λ b. IsApp (with_rules app (before_if b rule [])) new in
    subst P (sym has) (added old new arg app rule adds before (is w))
had (Err e) old arg b rule W has adds is = tt

-- one that it doesn't have
pub not_had : (old : Command) (b : Bool) (rule : Rule) (W : Type 0) → b ≡ false
    → (app : App) → W → IsApp app old → IsApp (with_rules app (before_if b rule [])) old
not_had old b rule W has app w before =
    let P : Bool → Type 0 = λ b. IsApp (with_rules app (before_if b rule [])) old in subst P (sym has) before

-- a command with rules, and more of them
abbrev pub app_of_rules : Text → List Rule → App
app_of_rules name rules = record { top = record (new_shape name) { rules = rules }; subs = [] }

rules_after : (name : Text) (rules more : List Rule)
    → with_rules (app_of_rules name rules) more ≡ app_of_rules name (rules ++ more)
rules_after name rules [] = ap (app_of_rules name) (sym (append-nil rules))
rules_after name rules (rule ∷ more) = rules_after name (rules ++ rule ∷ []) more
    ∙ ap (app_of_rules name) (append_assoc rules (rule ∷ []) more)

-- the command of a name, with its arguments of a table
pub commanded : (name : Text) (table : List Argument) (made : Command)
    → IsApp (with_rules (new_app name) (rules_of name table)) made → IsApp (command_of name table) made
commanded name table made is =
    let P : App → Type 0 = λ app. IsApp app made in subst P (rules_after name [] (rules_of name table)) is

with_commands_append : (app : App) (names more : List Text) (only : Option Text) (table : List Argument)
    → with_commands app (names ++ more) only table ≡ with_commands (with_commands app names only table) more only table
with_commands_append app [] more only table = refl
with_commands_append app (name ∷ names) more only table =
    with_commands_append (with_subcommand app (command_of name (listed only name table)).top) names more only table

commands_more : (verbs : List Verb) (only : Option Text) (table : List Argument) (i : ℕ) (default : Verb) (app : App)
    → i < length verbs
    → with_commands app (verb_names (take (i + 1) verbs)) only table
    ≡ with_subcommand (with_commands app (verb_names (take i verbs)) only table)
    (command_of (get_or verbs i default).name.now (listed only (get_or verbs i default).name.now table)).top
commands_more verbs only table i default app lt =
    ap (λ some. with_commands app (verb_names some) only table) (take_more verbs i default lt)
    ∙ ap (λ names. with_commands app names only table)
    (map-append (λ (verb : Verb). verb.name.now) (take i verbs) (get_or verbs i default ∷ []))
    ∙ with_commands_append app (verb_names (take i verbs)) ((get_or verbs i default).name.now ∷ []) only table

-- one command more of those of the code
pub command_added : (verbs : List Verb) (only : Option Text) (table : List Argument) (i : ℕ) (default : Verb)
    (old sub new : Command) (app : App) → i < length verbs → AddsSubcommand old sub new
    → IsApp (with_commands app (verb_names (take i verbs)) only table) old
    → IsApp (command_of (get_or verbs i default).name.now (listed only (get_or verbs i default).name.now table)) sub
    → IsApp (with_commands app (verb_names (take (i + 1) verbs)) only table) new
command_added verbs only table i default old sub new app lt adds is more =
    let P : App → Type 0 = λ made. IsApp made new in
    subst P (sym (commands_more verbs only table i default app lt)) (joined old sub new _ _ adds is more)
