-- Laws of the patterns and columns that arguments are.
use Rattle.std.proofs.Common.{◌≡◌, ◌∙◌, ℕ, ◌+◌, ◌<◌, true, List, [], ◌∷◌, ◌++◌, Option, Result, Some, None, IfErr, inl, inr, length, map, take, get_or, codes, sym, ap, subst}
use Rattle.std.specs.Prelude.{slice_get, option_map, option_and_then, unwrap_or}
use Rattle.std.specs.Option.{option_map_or}
use Rattle.std.specs.Borrow.{Bor}
use Rattle.std.proofs.lemmas.List.{take_more, map-append}
use Rattle.command_line.specs.declared.pattern.Pattern.{Pattern}
use Rattle.clap.specs.Matches.{first_value, matched_of, raw_values}
use Rattle.clap.specs.declared.parser.matches.Found.{Found}
use Rattle.clap.specs.declared.parser.matches.MatchedArg.{MatchedArg}
use Rattle.command_line.specs.declared.selection.Absent.{Absent}
use Rattle.command_line.specs.declared.selection.Absent.TheVariants as absent
use Rattle.command_line.specs.declared.selection.Choice.{Choice}
use Rattle.command_line.specs.declared.selection.Choice.TheVariants as choice
use Rattle.command_line.specs.declared.selection.Column.{Column}
use Rattle.command_line.specs.declared.selection.Selection.{Selection}
use Rattle.command_line.specs.Misread.{AnyWord, FailsFor, MisreadColumns, MisreadRequest, MisreadTable}
use Rattle.command_line.specs.Misread.MisreadColumns.{path_wrong}
use Rattle.command_line.specs.Misread.MisreadRequest.{selection_wrong}
use Rattle.command_line.specs.Patterns.{parts_of, IsPattern}
use Rattle.command_line.specs.Selects.{IsNoPath, IsNoPathIfAny, NamesAbsent, ArePatterns, IsColumn, AreColumns, ArePaths, IsOneAtMost, SelectsAny, Selects, is_one_path, words_in}
use Rattle.command_line.specs.declared.words.WordFault.{WordFault}
use Rattle.command_line.proofs.Misreads.{fails_more}
use Rattle.command_line.proofs.PatternTexts.{path_of_exact}

-- one more pattern
pub patterns_more : (words : List (List ℕ)) (patterns : List Pattern) (word : List ℕ) (pattern : Pattern)
    → ArePatterns words patterns → IsPattern word (parts_of pattern.steps.items)
    → ArePatterns (words ++ word ∷ []) (patterns ++ pattern ∷ [])
patterns_more [] [] word pattern h g = (g, tt)
patterns_more [] (p ∷ patterns) word pattern h g = absurd h
patterns_more (w ∷ words) [] word pattern h g = absurd h
patterns_more (w ∷ words) (p ∷ patterns) word pattern h g = (h.0, patterns_more words patterns word pattern h.1 g)

-- one more column
pub columns_more : (words : List (List ℕ)) (columns : List Column) (word : List ℕ) (column : Column)
    → AreColumns words columns → IsColumn word column
    → AreColumns (words ++ word ∷ []) (columns ++ column ∷ [])
columns_more [] [] word column h g = (g, tt)
columns_more [] (p ∷ columns) word column h g = absurd h
columns_more (w ∷ words) [] word column h g = absurd h
columns_more (w ∷ words) (p ∷ columns) word column h g = (h.0, columns_more words columns word column h.1 g)

-- one more of the arguments
word_more : (words : List (Bor (List ℕ))) (i : ℕ) (default : Bor (List ℕ)) → i < length words
    → map (λ word. word.now) (take i words) ++ (get_or words i default).now ∷ []
    ≡ map (λ word. word.now) (take (i + 1) words)
word_more words i default lt = sym (ap (map (λ word. word.now)) (take_more words i default lt)
    ∙ map-append (λ word. word.now) (take i words) (get_or words i default ∷ []))

pub patterns_step : (words : List (Bor (List ℕ))) (i : ℕ) (default : Bor (List ℕ)) (patterns more : List Pattern)
    (pattern : Pattern) → i < length words
    → ArePatterns (map (λ word. word.now) (take i words)) patterns
    → IsPattern (get_or words i default).now (parts_of pattern.steps.items) → more ≡ patterns ++ pattern ∷ []
    → ArePatterns (map (λ word. word.now) (take (i + 1) words)) more
patterns_step words i default patterns more pattern lt so_far next all =
    subst (ArePatterns (map (λ word. word.now) (take (i + 1) words))) (sym all)
    (subst (λ texts. ArePatterns texts (patterns ++ pattern ∷ [])) (word_more words i default lt)
    (patterns_more _ patterns _ pattern so_far next))

pub columns_step : (words : List (Bor (List ℕ))) (i : ℕ) (default : Bor (List ℕ)) (columns more : List Column)
    (column : Column) → i < length words
    → AreColumns (map (λ word. word.now) (take i words)) columns → IsColumn (get_or words i default).now column
    → more ≡ columns ++ column ∷ []
    → AreColumns (map (λ word. word.now) (take (i + 1) words)) more
columns_step words i default columns more column lt so_far next all =
    subst (AreColumns (map (λ word. word.now) (take (i + 1) words))) (sym all)
    (subst (λ texts. AreColumns texts (columns ++ column ∷ [])) (word_more words i default lt)
    (columns_more _ columns _ column so_far next))

-- one pattern that leads to one part is a path
pub one_is_path : (words : List (List ℕ)) (patterns : List Pattern) → ArePatterns words patterns
    → is_one_path patterns ≡ true → (given : Absent) → given ≡ absent.Fault
    → IsOneAtMost words given × ArePaths words
one_is_path [] [] h one given is = cc
one_is_path [] (p ∷ patterns) h one given is = absurd h
one_is_path (w ∷ words) [] h one given is = absurd h
one_is_path (w ∷ []) (p ∷ []) h one given is = (is, (path_of_exact w p.steps.items one h.0, tt))
one_is_path (w ∷ v ∷ words) (p ∷ []) h one given is = absurd h.1
one_is_path (w ∷ words) (p ∷ q ∷ patterns) h one given is = cc

-- the first of some texts is among them
first_wrong : (words : List (Bor (List ℕ))) → IsNoPathIfAny (option_map (λ word. word.now) (slice_get words 0))
    → AnyWord IsNoPath (map (λ word. word.now) words)
first_wrong [] wrong = absurd wrong
first_wrong (word ∷ words) wrong = inl wrong

given_wrong : (given : Option MatchedArg)
    → IsNoPathIfAny (option_and_then (λ a. option_map (λ s. s.now) (slice_get a.vals.items 0)) given)
    → AnyWord IsNoPath (option_map_or raw_values given [])
given_wrong None wrong = absurd wrong
given_wrong (Some a) wrong = first_wrong a.vals.items wrong

none_wrong : (words : List (List ℕ)) → ArePaths words → AnyWord IsNoPath words → ⊥
none_wrong [] paths wrong = wrong
none_wrong (word ∷ words) paths (inl wrong) = wrong paths.0.0 paths.0.1
none_wrong (word ∷ words) paths (inr wrong) = none_wrong words paths.1 wrong

parts_wrong : (found : Found) (rows : Option (List ℕ)) (given : Absent)
    → SelectsAny found rows given None → AnyWord IsNoPath (words_in found (codes "get")) → ⊥
parts_wrong found None given selects wrong = none_wrong _ selects.1 wrong
parts_wrong found (Some pattern) given selects wrong = selects

-- where nothing is selected, a text that is no path is a wrong column of `each`, and none of `map` and `show`, whose
-- texts were read as patterns
pub beside_wrong : (found : Found) (offered : Choice) (selection : Option Selection) → Selects found offered selection
    → (selection ≡ None) × IsNoPathIfAny (first_value found (codes "get")) → MisreadRequest found offered
beside_wrong found choice.Parts selection selects wrong =
    let Any : Option Selection → Type 0 = SelectsAny found (first_value found (codes "rows")) selects.absent in
    absurd (parts_wrong found (first_value found (codes "rows")) selects.absent
    (subst Any wrong.0 selects.selected) (given_wrong (matched_of found (codes "get")) wrong.1))
beside_wrong found choice.Columns selection selects wrong =
    selection_wrong (record {
      absent = selects.absent;
      named = selects.absent_named;
      misread = path_wrong (given_wrong (matched_of found (codes "get")) wrong.1);
    })

-- the columns are wrong that arguments request
pub table_wrong : {T : Type 0} (result : Result T WordFault) (found : Found) (given : Absent) (word mode : List ℕ)
    (words : List (List ℕ)) → NamesAbsent word given → word ≡ unwrap_or (first_value found (codes "absent")) []
    → mode ≡ unwrap_or (first_value found (codes "mode")) [] → words ≡ words_in found (codes "get")
    → IfErr result (FailsFor (MisreadColumns mode given words) ⊥) → IfErr result (FailsFor (MisreadTable found) ⊥)
table_wrong result found given word mode words named is_word is_mode all wrong =
    fails_more result (MisreadColumns mode given words) (MisreadTable found) ⊥ ⊥
    (λ wrong. record {
      absent = given;
      named = subst (λ (text : List ℕ). NamesAbsent text given) is_word named;
      misread =
          subst (λ (text : List ℕ). MisreadColumns text given (words_in found (codes "get"))) is_mode
          (subst (λ (texts : List (List ℕ)). MisreadColumns mode given texts) all wrong);
    })
    (λ never. never) wrong
