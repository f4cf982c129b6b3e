-- The command that the parser finds.
use Rattle.std.proofs.Common.{◌≡◌, ◌∙◌, ℕ, true, List, Option, Some, None, Result, Ok, Err, IfOk, IfErr, OnOk, option_map, inl, inr, ◌⊎◌, refl, sym, ap, ap₂}
use Rattle.std.proofs.lemmas.Result.{IfErr-weaker}
use Rattle.std.specs.Borrow.{Bor}
use Rattle.clap.specs.Walk.{Row, Text, rows_of}
use Rattle.clap.specs.Simple.{subcommand_of, subcommand_rows_of}
use Rattle.clap.specs.Matches.{found_of, subcommand_name_of}
use Rattle.clap.specs.declared.ArgMatches.{ArgMatches}
use Rattle.command_line.specs.declared.words.Asked.{Asked}
use Rattle.command_line.specs.declared.words.WordFault.{WordFault}
use Rattle.clap.specs.declared.parser.matches.Found.{Found}
use Rattle.command_line.specs.Commands.{the_program}
use Rattle.command_line.specs.Commanded.{Finds, AsksOf, IsAskedBy, IsTakenAs, IsMisread, IsMisplaced, IsUnread, FindsNone}
use Rattle.command_line.specs.Misread.{FailsFor}
use Rattle.command_line.proofs.Misreads.{fails_weaker}
use Rattle.command_line.specs.Ties.{keeps_ties}

composed : {X Y Z : Type 0} (g : Y → Z) (f : X → Y) (o : Option X) →
    option_map g (option_map f o) ≡ option_map (λ x. g (f x)) o
composed g f None = refl
composed g f (Some x) = refl

name_of : (m : ArgMatches) → option_map (λ p. p.0) (subcommand_rows_of m) ≡ subcommand_name_of m
name_of m = composed _ _ _

pair_of : {X Y : Type 0} (o : Option (X × Y)) (x : X) (y : Y) → option_map (λ p. p.0) o ≡ Some x →
    option_map (λ p. p.1) o ≡ Some y → o ≡ Some (x, y)
pair_of None x y first second = cc
pair_of (Some p) x y first second =
    let at_first : p.0 ≡ x = cc in
    let at_second : p.1 ≡ y = cc in
    ap₂ (λ a b. Some (a, b)) at_first at_second

pub entered : (m : ArgMatches) (name : Text) (rows : List Row) → subcommand_name_of m ≡ Some name
    → option_map (λ p. p.1) (subcommand_rows_of m) ≡ Some rows
    → subcommand_rows_of m ≡ Some (name, rows)
entered m name rows first second = pair_of (subcommand_rows_of m) name rows (name_of m ∙ first) second

found_here : (m : ArgMatches) (s : Option (Bor Text × Bor ArgMatches)) (command : Bor Text) (found : Bor ArgMatches)
    → s ≡ Some (command, found)
    → option_map (λ p. p.0.now) s ≡ subcommand_name_of m
    → option_map (λ p. rows_of (found_of p.1.now)) s ≡ option_map (λ p. p.1) (subcommand_rows_of m)
    → subcommand_rows_of m ≡ Some (command.now, rows_of (found_of found.now))
found_here m s command found is named matched = entered m command.now (rows_of (found_of found.now))
    (sym named ∙ ap (option_map (λ p. p.0.now)) is) (sym matched ∙ ap (option_map (λ p. rows_of (found_of p.1.now))) is)

-- it is in the matches that the parser finds for a line
entered_by : (m : ArgMatches) (line : List (List ℕ)) (finds : Finds line m) (command : List ℕ) (rows : List Row)
    → subcommand_rows_of m ≡ Some (command, rows)
    → subcommand_of (the_program finds.table) line ≡ Some (command, rows)
entered_by m line finds command rows here = sym finds.found ∙ here

pub asked_by : (m : ArgMatches) (s : Option (Bor Text × Bor ArgMatches)) (command : Bor Text) (found : Bor ArgMatches)
    (r : Result Asked WordFault) → s ≡ Some (command, found)
    → option_map (λ p. p.0.now) s ≡ subcommand_name_of m
    → option_map (λ p. rows_of (found_of p.1.now)) s ≡ option_map (λ p. p.1) (subcommand_rows_of m)
    → OnOk r (keeps_ties command.now (found_of found.now) ≡ true) → IfOk r (AsksOf command.now (found_of found.now))
    → IfOk r (λ asked. (line : List (List ℕ)) → Finds line m → IsAskedBy line asked)
asked_by m s command found (Ok asked) is named matched tied asks = λ line finds. record {
  table = finds.table;
  listed = finds.listed;
  taken = finds.taken;
  command = command.now;
  found = found_of found.now;
  enters = entered_by m line finds command.now (rows_of (found_of found.now))
      (found_here m s command found is named matched);
  tied = tied;
  asks = asks;
}
asked_by m s command found (Err fault) is named matched tied asks = tt

taken_as : (m : ArgMatches) (line : List (List ℕ)) (finds : Finds line m) (command : List ℕ) (found : Found)
    (IsSuch : List ℕ → Found → Type 0)
    → subcommand_rows_of m ≡ Some (command, rows_of found) → IsSuch command found → IsTakenAs line IsSuch
taken_as m line finds command found IsSuch here such = record {
  table = finds.table;
  listed = finds.listed;
  taken = finds.taken;
  command = command;
  found = found;
  enters = entered_by m line finds command (rows_of found) here;
  such = such;
}

pub unread_by : (m : ArgMatches) (s : Option (Bor Text × Bor ArgMatches)) (command : Bor Text) (found : Bor ArgMatches)
    (r : Result Asked WordFault) → s ≡ Some (command, found)
    → option_map (λ p. p.0.now) s ≡ subcommand_name_of m
    → option_map (λ p. rows_of (found_of p.1.now)) s ≡ option_map (λ p. p.1) (subcommand_rows_of m)
    → IfErr r (FailsFor (IsMisread command.now (found_of found.now)) (IsMisplaced command.now (found_of found.now)))
    → IfErr r (λ fault. (line : List (List ℕ)) → Finds line m → IsUnread line fault)
unread_by m s command found r is named matched misread = IfErr-weaker r _ _ (λ fault h line finds.
    let here = found_here m s command found is named matched in
    fails_weaker _ _ _ _
    (λ wrong. inl (taken_as m line finds command.now (found_of found.now) IsMisread here wrong))
    (taken_as m line finds command.now (found_of found.now) IsMisplaced here) fault h) misread

-- the parser finds no command
no_rows : {X Y : Type 0} (o : Option (X × Y)) → option_map (λ p. p.0) o ≡ None → o ≡ None
no_rows None none = refl
no_rows (Some p) none = cc

pub none_by : (m : ArgMatches) (s : Option (Bor Text × Bor ArgMatches)) → s ≡ None
    → option_map (λ p. p.0.now) s ≡ subcommand_name_of m
    → (line : List (List ℕ)) → Finds line m → IsTakenAs line IsMisread ⊎ FindsNone line
none_by m s is named line finds = inr (record {
  table = finds.table;
  listed = finds.listed;
  none = sym finds.found ∙ no_rows (subcommand_rows_of m) (name_of m ∙ (sym named ∙ ap (option_map (λ p. p.0.now)) is));
})
