-- The program in which one command alone has its arguments reads the words that begin with that command as the whole
-- program does.
use Rattle.std.proofs.Common.{◌≡◌, ◌∙◌, ◌||◌, Bool, true, false, List, [], ◌∷◌, Option, Some, None, IfSome, String, is_some, codes, map, option_map, slice_get, string_bytes, refl, sym, ap, ap₂, subst}
use Rattle.std.proofs.lemmas.Slice.Eq.{bytes_eq-Decides}
use Rattle.std.specs.List.{fold, list_any}
use Rattle.std.specs.Str.{bytes_eq}
use Rattle.clap.specs.Walk.{Names, Rule, Text, Walk, nothing_held, stop_after, walk, walk_from, walked}
use Rattle.clap.specs.Simple.{App, argument_words, built, entered, names_of, subcommand_of}
use Rattle.clap.specs.Faults.{entered_fault, fault_of, level_fault}
use Rattle.clap.proofs.OnLiterals.{clap_on_literals}
use Rattle.clap.proofs.WalkLemmas.{walk_stopped}
use Rattle.command_line.specs.declared.words.arguments.Argument.{Argument}
use Rattle.command_line.specs.Commands.{EntersCommand, commands, program_with, the_program}

-- both programs read these words alike
pub record ReadAlike (a b : App) (words : List Text) : Type 0 where
  pub enters : subcommand_of a words ≡ subcommand_of b words
  pub fails : fault_of a words ≡ fault_of b words

-- so they do if they stop at the same command, and enter it alike
alike : (a b : App) (words rest : List Text) (name : Text)
    → (stop_after (built a).top.rules (names_of (built a)) (argument_words a words) ≡ Some (name, rest))
    → subcommand_of b words
    ≡ entered (built b) (stop_after (built a).top.rules (names_of (built a)) (argument_words a words))
    → fault_of b words ≡ level_fault (built a).top (names_of (built a)) nothing_held (argument_words a words)
    (is_some (entered (built b) (stop_after (built a).top.rules (names_of (built a)) (argument_words a words))))
    (entered_fault (built b) (stop_after (built a).top.rules (names_of (built a)) (argument_words a words)))
    → entered (built a) (Some (name, rest)) ≡ entered (built b) (Some (name, rest))
    → entered_fault (built a) (Some (name, rest)) ≡ entered_fault (built b) (Some (name, rest))
    → ReadAlike a b words
alike a b words rest name stops enters fails same same_fault =
    let stop : Option (Text × List Text) =
    stop_after (built a).top.rules (names_of (built a)) (argument_words a words) in
    let E : Option (Text × List Text) → Type 0 = λ s. entered (built a) s ≡ entered (built b) s in
    let F : Option (Text × List Text) → Type 0 = λ s. entered_fault (built a) s ≡ entered_fault (built b) s in
    let here : entered (built a) stop ≡ entered (built b) stop = subst E (sym stops) same in
    let failing : entered_fault (built a) stop ≡ entered_fault (built b) stop = subst F (sym stops) same_fault in
    record {
      enters = here ∙ sym enters;
      fails = ap₂ (λ has below. level_fault (built a).top (names_of (built a)) nothing_held (argument_words a words)
          has below) (ap is_some here) failing ∙ sym fails;
    }

-- something holds for each name of a list
abbrev pub HoldsForEach : (P : Text → Type 0) → List Text → Type 0
HoldsForEach P [] = Unit {0}
HoldsForEach P (name ∷ names) = P name × HoldsForEach P names

-- it holds for each command
pub for_commands : (P : Text → Type 0) → P (codes "map") → P (codes "show") → P (codes "each") → P (codes "records") →
    P (codes "find") → P (codes "identify") → P (codes "bound") → P (codes "check") → P (codes "types") →
    P (codes "formats") → P (codes "dump") → HoldsForEach P commands
for_commands P a0 a1 a2 a3 a4 a5 a6 a7 a8 a9 a10 = (a0, (a1, (a2, (a3, (a4, (a5, (a6, (a7, (a8, (a9, (a10, tt)))))))))))

-- a command that the program in which it alone has arguments reads as the whole program does
abbrev pub IsServed : Text → Type 0
IsServed name = (table : List Argument) (program : Text) (rest : List Text)
    → ReadAlike (the_program table) (program_with (Some name) table) (program ∷ name ∷ rest)

-- where the walk of the program stops whose first word is a command
stops : (c : List Rule) (names : Names) (w : Walk) (name : Text) (rest : List Text)
    → walked c names (walk_from nothing_held) name ≡ record w { stopped = Some (name, []) }
    → stop_after c names (name ∷ rest) ≡ Some (name, rest)
stops c names w name rest first =
    ap (λ (after : Walk). (fold (walked c names) after rest).stopped) first
    ∙ ap (λ (after : Walk). after.stopped) (sym (walk_stopped c names w name [] rest))

-- it is served if the first word is walked so, and both programs enter it alike
serves : (name : Text)
    → ((table : List Argument) → walked (built (the_program table)).top.rules (names_of (built (the_program table)))
    (walk_from nothing_held) name ≡ record (walk_from nothing_held) { stopped = Some (name, []) })
    → ((table : List Argument) (rest : List Text) → entered (built (the_program table)) (Some (name, rest))
    ≡ entered (built (program_with (Some name) table)) (Some (name, rest)))
    → ((table : List Argument) (rest : List Text) → entered_fault (built (the_program table)) (Some (name, rest))
    ≡ entered_fault (built (program_with (Some name) table)) (Some (name, rest)))
    → IsServed name
serves name first enters fails table program rest = alike (the_program table) (program_with (Some name) table)
    (program ∷ name ∷ rest) rest name
    (stops (built (the_program table)).top.rules (names_of (built (the_program table)))
    (walk_from nothing_held) name rest
    (first table)) refl refl (enters table rest) (fails table rest)

served : HoldsForEach IsServed commands
unfolding walked clap_on_literals
served = for_commands IsServed
    (serves (codes "map") (λ t. refl) (λ t r. refl) (λ t r. refl))
    (serves (codes "show") (λ t. refl) (λ t r. refl) (λ t r. refl))
    (serves (codes "each") (λ t. refl) (λ t r. refl) (λ t r. refl))
    (serves (codes "records") (λ t. refl) (λ t r. refl) (λ t r. refl))
    (serves (codes "find") (λ t. refl) (λ t r. refl) (λ t r. refl))
    (serves (codes "identify") (λ t. refl) (λ t r. refl) (λ t r. refl))
    (serves (codes "bound") (λ t. refl) (λ t r. refl) (λ t r. refl))
    (serves (codes "check") (λ t. refl) (λ t r. refl) (λ t r. refl))
    (serves (codes "types") (λ t. refl) (λ t r. refl) (λ t r. refl))
    (serves (codes "formats") (λ t. refl) (λ t r. refl) (λ t r. refl))
    (serves (codes "dump") (λ t. refl) (λ t r. refl) (λ t r. refl))

-- what holds for each name of a list holds for one that is among them
among_next : (P : Text → Type 0) (command name : Text) (others b : Bool) → bytes_eq command name ≡ b → P command
    → (others ≡ true → P name) → (b || others) ≡ true → P name
among_next P command name others true is here next known = subst P ((bytes_eq-Decides command name).0 is) here
among_next P command name others false is here next known = next known

pub among : (P : Text → Type 0) (names : List Text) (name : Text) → HoldsForEach P names
    → list_any (λ command. bytes_eq command name) names ≡ true → P name
among P [] name all known = cc
among P (command ∷ names) name all known = among_next P command name
    (list_any (λ it. bytes_eq it name) names) (bytes_eq command name) refl all.0 (among P names name all.1) known

-- the program in which one command, if it is named, alone has its arguments reads the words that begin with it alike
pub reads_alike : (only : Option Text) (table : List Argument) (line : List Text)
    → IfSome only (EntersCommand line) → ReadAlike (the_program table) (program_with only table) line
reads_alike None table line enters = record { enters = refl; fails = refl }
reads_alike (Some name) table line enters =
    let P : List Text → Type 0 = λ words. ReadAlike (the_program table) (program_with (Some name) table) words in
    subst P (sym enters.is) (among IsServed commands name served enters.known table enters.program enters.rest)

pub is_some_of : {A B : Type 0} (f : A → B) (P : B → Type 0) (o : Option A) → IfSome o (λ a. P (f a))
    → IfSome (option_map f o) P
is_some_of f P None is = tt
is_some_of f P (Some a) is = is

-- the second word of a line is a command
pub second : {Z : Type 0} (line : List (String Z)) (word : String Z) → slice_get line 1 ≡ Some word
    → list_any (λ command. bytes_eq command (string_bytes word)) commands ≡ true
    → EntersCommand (map string_bytes line) (string_bytes word)
second [] word is known = cc
second (program ∷ []) word is known = cc
second (program ∷ other ∷ rest) word is known =
    let same : other ≡ word = cc in
    record {
      program = string_bytes program;
      rest = map string_bytes rest;
      is = ap (λ it. string_bytes program ∷ string_bytes it ∷ map string_bytes rest) same;
      known = known;
    }
