-- Steps of reading names.
use Rattle.std.proofs.Common.{◌≡◌, ℕ, false, List, [], ◌∷◌, ◌++◌, map, Result, Ok, Err, refl, sym, ap, ◌∙◌, subst, inl, inr, append_assoc}
use Rattle.std.proofs.lemmas.List.{map-append}
use Rattle.value_notes.specs.declared.fault.Stop.{Stop}
use Rattle.value_notes.specs.declared.fault.Halt.TheVariants.{At}
use Rattle.value_notes.specs.declared.fault.Halt.{Halt}
use Rattle.value_notes.specs.declared.entries.Named.{Named}
use Rattle.value_notes.specs.declared.entries.Subject.{Subject}
use Rattle.value_notes.specs.Blanks.{is_end}
use Rattle.value_notes.specs.Entries.{Entry, entry, entry_at, comma_at, AreEntries, EntriesStop}

abbrev Goes : (subject : Subject) (text : List ℕ) (so_far : List Named) (rest : List ℕ) → Type 0
Goes subject text so_far rest =
    (es : List Entry) → AreEntries subject es rest → AreEntries subject (map entry so_far ++ es) text

abbrev Stops : (subject : Subject) (text rest : List ℕ) → Type 0
Stops subject text rest = (stop : List ℕ) → EntriesStop subject rest stop → EntriesStop subject text stop

one_more : (so_far : List Named) (one : Named) (es : List Entry) →
    map entry so_far ++ entry one ∷ es ≡ map entry (so_far ++ one ∷ []) ++ es
one_more so_far one es = sym (ap (λ xs. xs ++ es) (map-append entry so_far (one ∷ []))
    ∙ append_assoc (map entry so_far) (entry one ∷ []) es)

-- one more name is read
pub goes_on : (subject : Subject) (text : List ℕ) (so_far new : List Named) (one : Named) (rest after more : List ℕ) →
    Goes subject text so_far rest → entry_at subject rest ≡ Ok (entry one, after) → is_end after ≡ false →
    comma_at after ≡ Ok more → new ≡ so_far ++ one ∷ [] → Goes subject text new more
goes_on subject text so_far new one rest after more goes is end comma items = λ es p.
    subst (λ xs. AreEntries subject xs text) (one_more so_far one es ∙ ap (λ xs. map entry xs ++ es) (sym items))
    (goes (entry one ∷ es) (after, is, inr (end, more, comma, p)))

pub stops_on : (subject : Subject) (text : List ℕ) (one : Named) (rest after more : List ℕ) →
    Stops subject text rest → entry_at subject rest ≡ Ok (entry one, after) → is_end after ≡ false →
    comma_at after ≡ Ok more → Stops subject text more
stops_on subject text one rest after more stops is end comma =
    λ stop p. stops stop (entry one ∷ p.0, (after, is, end, inr (more, comma, p.1)))

-- where a comma should be, nothing of a list is
pub stops_at_comma : (subject : Subject) (text : List ℕ) (one : Named) (rest after stop : List ℕ) →
    Stops subject text rest → entry_at subject rest ≡ Ok (entry one, after) → is_end after ≡ false →
    comma_at after ≡ Err stop → EntriesStop subject text stop
stops_at_comma subject text one rest after stop stops is end comma =
    stops stop (entry one ∷ [], (after, is, end, inl (refl, comma)))

-- the stop of a result
pub same_stop : {A : Type 0} (r : Result A Halt) (x : Halt) (f stop : Stop) → r ≡ Err x → x ≡ At f → r ≡ Err (At stop) →
    f ≡ stop
same_stop r x f stop p q e = cc
