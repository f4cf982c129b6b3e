-- The ties of the arguments of the code are those of the contract's table.
use Rattle.std.proofs.Common.{◌≡◌, ◌∙◌, ◌&&◌, ◌||◌, Bool, true, false, List, [], ◌∷◌, ◌++◌, map, not, refl, sym, ap, ap₂}
use Rattle.std.specs.Borrow.{Bor}
use Rattle.std.specs.List.{list_all}
use Rattle.std.specs.Str.{bytes_eq}
use Rattle.std.proofs.lemmas.List.Folds.{list_all-append}
use Rattle.clap.specs.Walk.{Text}
use Rattle.clap.specs.declared.parser.matches.Found.{Found}
use Rattle.clap.proofs.WalkLemmas.{list_any-map}
use Rattle.command_line.specs.declared.words.arguments.Argument.{Argument}
use Rattle.command_line.specs.Commands.{IsTable, arguments, row_of, tied_as}
use Rattle.command_line.specs.Ties.{keep_ties, keeps_argument, keeps_row, keeps_tie, keeps_ties}

nested : (a b c d e : Bool) → (a && (b && (c && (d && e)))) ≡ ((((a && b) && c) && d) && e)
nested true true true true e = refl
nested true true true false e = refl
nested true true false d e = refl
nested true false c d e = refl
nested false b c d e = refl

module _ (command : Text) (found : Found) where
  row_kept : (argument : Argument) → keeps_argument command found argument ≡ keeps_row command found (row_of argument)
  row_kept argument =
      ap (λ b. not b || keeps_tie found argument.name.now (tied_as argument.tie))
      (list_any-map (λ name. bytes_eq name command) (λ (name : Bor Text). name.now) argument.of.now)

  rows_kept : (group : List Argument)
      → keep_ties command found group ≡ list_all (keeps_row command found) (map row_of group)
  rows_kept [] = refl
  rows_kept (argument ∷ group) = ap₂ (λ a b. a && b) (row_kept argument) (rows_kept group)

  both_kept : (group more : List Argument) → keep_ties command found (group ++ more)
      ≡ (keep_ties command found group && keep_ties command found more)
  both_kept group more = list_all-append (keeps_argument command found) group more

  -- those of the five groups are those of the table
  pub all_kept : (mapping formats style others places : List Argument)
      → IsTable (mapping ++ formats ++ style ++ others ++ places)
      → (keep_ties command found mapping && (keep_ties command found formats && (keep_ties command found style
      && (keep_ties command found others && keep_ties command found places)))) ≡ keeps_ties command found
  unfolding keeps_ties
  all_kept mapping formats style others places table =
      nested (keep_ties command found mapping) (keep_ties command found formats) (keep_ties command found style)
      (keep_ties command found others) (keep_ties command found places)
      ∙ sym (both_kept (mapping ++ formats ++ style ++ others) places
      ∙ ap (λ b. b && keep_ties command found places) (both_kept (mapping ++ formats ++ style) others
      ∙ ap (λ b. b && keep_ties command found others) (both_kept (mapping ++ formats) style
      ∙ ap (λ b. b && keep_ties command found style) (both_kept mapping formats))))
      ∙ rows_kept (mapping ++ formats ++ style ++ others ++ places)
      ∙ ap (list_all (keeps_row command found)) table
