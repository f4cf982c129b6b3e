-- Laws of refusals.
use Rattle.std.proofs.Common.{◌≡◌, ◌≢◌, ◌-◌, ◌≤◌, ◌∙◌, refl, sym, ap, subst, Bool, true, false, ℕ, List, Option, Some, Result, Ok, Err, length}
use Rattle.std.proofs.lemmas.Bool.{false≢true}
use Rattle.pickle_syntax.specs.Tokens.{Token}
use Rattle.pickle_syntax.specs.Bytes.{Fails}
use Rattle.pickle_syntax.specs.Lexing.{lexed}
use Rattle.pickle_tree.specs.Limits.{standard}
use Rattle.pickle_syntax.specs.Pickles.{IsPickle, IsPlaceWithin}
use Rattle.pickle_syntax.specs.ReadForms.{pickle_at}
use Rattle.pickle_syntax.specs.Reading.{Fault, Wrong, Deep, Many}
use Rattle.pickle_syntax.specs.Told.{Tells}
use Rattle.pickle_syntax.specs.declared.parser.fault.ParseFault.{ParseFault}
use Rattle.pickle_syntax.specs.declared.parser.fault.ParseFault.TheVariants as fault
use Rattle.pickle_syntax.specs.declared.lexer.fault.LexFaultKind.{LexFaultKind}
use Rattle.pickle_syntax.specs.declared.lexer.fault.LexFaultKind.TheVariants.{BadByte, Unclosed, BadNumber, TooLong, Memory}
use Rattle.pickle_types.specs.Built as checking
use Rattle.pickle_types.specs.Wrong.{TellsPlace}
use Rattle.pickle_types.specs.declared.fault.FaultKind.{FaultKind}
use Rattle.pickle_types.specs.declared.fault.FaultKind.TheVariants as types
use Rattle.run_parts.specs.declared.accept.Refusal.TheVariants as refusal
use Rattle.run_parts.specs.Accepted.{Refuses, no_tokens, IsNoPickle}

-- a fault of tokens, but for want of memory, is the definition's
pub tokens_refused : (pickle : List ℕ) (kind : LexFaultKind) (at : ℕ) → kind ≢ Memory → Fails kind at (lexed pickle) →
    Refuses pickle (refusal.Tokens kind at)
tokens_refused pickle BadByte at other e = no_tokens e
tokens_refused pickle Unclosed at other e = no_tokens e
tokens_refused pickle BadNumber at other e = no_tokens e
tokens_refused pickle TooLong at other e = no_tokens e
tokens_refused pickle Memory at other e = absurd (other refl)

pub no_pickle : (pickle : List ℕ) (tokens : List Token) (spans : List (ℕ × ℕ)) (count : ℕ) (why : Fault)
    → lexed pickle ≡ Ok (tokens, spans) → length tokens ≡ count
    → (IsPickle tokens → ⊥) → pickle_at standard tokens ≡ Err why → IsNoPickle pickle spans count why
no_pickle pickle tokens spans count why cut counted none stops =
    record { tokens = tokens; cut = cut; counted = counted; none = none; stops = stops }

-- what a fault tells of the reading of tokens
pub told_syntax : (tokens : List Token) (f : ParseFault) (token : ℕ) → f ≡ fault.Syntax token → Tells tokens f →
    pickle_at standard tokens ≡ Err (Wrong (length tokens - token))
told_syntax tokens f token e told = subst (Tells tokens) e told

pub told_deep : (tokens : List Token) (f : ParseFault) → f ≡ fault.TooDeep → Tells tokens f →
    pickle_at standard tokens ≡ Err Deep
told_deep tokens f e told = subst (Tells tokens) e told

pub told_many : (tokens : List Token) (f : ParseFault) → f ≡ fault.TooMany → Tells tokens f →
    pickle_at standard tokens ≡ Err Many
told_many tokens f e told = subst (Tells tokens) e told

-- a fault of types, but for want of memory, is the definition's
pub types_fail : {Y : Type 0} (kind : FaultKind) (given : Result Y FaultKind) → kind ≢ types.Memory →
    checking.Fails kind given → given ≡ Err kind
types_fail types.UnknownType given other fails = fails
types_fail types.DuplicateType given other fails = fails
types_fail types.UnknownName given other fails = fails
types_fail types.DuplicateField given other fails = fails
types_fail types.Mismatch given other fails = fails
types_fail types.Width given other fails = fails
types_fail types.IntegralWidths given other fails = fails
types_fail types.NotHere given other fails = fails
types_fail types.TooDeep given other fails = fails
types_fail types.Memory given other fails = absurd (other refl)

-- and so is the declaration that it tells
pub told_place : (kind : FaultKind) (told : ℕ) (wrong : Option ℕ) → kind ≢ types.Memory →
    TellsPlace kind told wrong → wrong ≡ Some told
told_place types.UnknownType told wrong other tells = tells
told_place types.DuplicateType told wrong other tells = tells
told_place types.UnknownName told wrong other tells = tells
told_place types.DuplicateField told wrong other tells = tells
told_place types.Mismatch told wrong other tells = tells
told_place types.Width told wrong other tells = tells
told_place types.IntegralWidths told wrong other tells = tells
told_place types.NotHere told wrong other tells = tells
told_place types.TooDeep told wrong other tells = tells
told_place types.Memory told wrong other tells = absurd (other refl)

abbrev wants_memory : ParseFault → Bool
wants_memory (fault.Syntax token) = false
wants_memory fault.TooDeep = false
wants_memory fault.TooMany = false
wants_memory fault.Memory = true

-- a fault of syntax is no want of memory
pub names_syntax : (f : ParseFault) (token : ℕ) → f ≡ fault.Syntax token → f ≢ fault.Memory
names_syntax f token e = λ m. false≢true (sym (ap wants_memory e) ∙ ap wants_memory m)

pub names_deep : (f : ParseFault) → f ≡ fault.TooDeep → f ≢ fault.Memory
names_deep f e = λ m. false≢true (sym (ap wants_memory e) ∙ ap wants_memory m)

pub names_many : (f : ParseFault) → f ≡ fault.TooMany → f ≢ fault.Memory
names_many f e = λ m. false≢true (sym (ap wants_memory e) ∙ ap wants_memory m)

pub place_within : (f : ParseFault) (token count count' : ℕ) → f ≡ fault.Syntax token → IsPlaceWithin count f →
    count' ≡ count → token ≤ count'
place_within f token count count' e inside same =
    subst (λ n. token ≤ n) (sym same) (subst (IsPlaceWithin count) e inside)
