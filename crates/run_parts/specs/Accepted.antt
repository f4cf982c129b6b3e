-- When bytes are a pickle whose types are well formed, and how they are refused.
use Rattle.std.specs.Prelude.{◌≡◌, ◌≢◌, ℕ, ◌-◌, ◌≤◌, List, Option, Some, None, Ok, Err, length, slice_get, codes}
use Rattle.pickle_syntax.specs.Tokens.{Token}
use Rattle.pickle_tree.specs.Tree.{DeclarationTree}
use Rattle.pickle_syntax.specs.Lexing.{lexed}
use Rattle.pickle_tree.specs.Limits.{standard}
use Rattle.pickle_syntax.specs.Pickles.{IsPickle, IsPickleOf}
use Rattle.pickle_syntax.specs.ReadForms.{pickle_at}
use Rattle.pickle_syntax.specs.Reading.{Fault, Wrong, Deep, Many}
use Rattle.pickle_syntax.specs.declared.lexer.fault.LexFaultKind.{LexFaultKind}
use Rattle.pickle_syntax.specs.FaultNames.{lex_kind}
use Rattle.pickle_types.specs.Meaning.{declared}
use Rattle.pickle_types.specs.Names.{Names, predeclared}
use Rattle.pickle_types.specs.WellTyped.{Declares}
use Rattle.pickle_types.specs.TypeTable.{types_of, count_of, IsWellTyped}
use Rattle.pickle_types.specs.declared.table.Table.{Table}
use Rattle.pickle_types.specs.Wrong.{first_wrong}
use Rattle.pickle_types.specs.FaultNames.{type_kind}
use Rattle.pickle_types.specs.declared.fault.FaultKind.{FaultKind}
use Rattle.pickle_types.specs.declared.fault.FaultKind.TheVariants as types
use Rattle.run_parts.specs.declared.accept.Refusal.{Refusal}
use Rattle.run_parts.specs.declared.accept.Refusal.TheVariants as refusal
use Rattle.run_parts.specs.declared.status.Status.TheVariants.{Refused, Outside}
use Rattle.run_parts.specs.Lines.{refused_line, refused_at_line, refused_in_line, fault_line}
use Rattle.run_parts.specs.Told.{Saying, Line}

-- the bytes are the tokens of these declarations
pub record HasSyntax (pickle : List ℕ) (declarations : List DeclarationTree) : Type 0 where
  pub tokens : List Token
  pub spans : List (ℕ × ℕ)
  pub cut : lexed pickle ≡ Ok (tokens, spans)
  pub parsed : IsPickleOf tokens declarations

-- the place of the first byte of a token, or the pickle's length after the last token
abbrev pub start_in : Option (ℕ × ℕ) → ℕ → ℕ
start_in None count = count
start_in (Some span) count = span.0

abbrev pub place_of : List (ℕ × ℕ) → (token count : ℕ) → ℕ
place_of spans token count = start_in (slice_get spans token) count

-- the tokens of the bytes aren't a pickle, with the fault at which their reading stops
pub record IsNoPickle (pickle : List ℕ) (spans : List (ℕ × ℕ)) (count : ℕ) (why : Fault) : Type 0 where
  pub tokens : List Token
  pub cut : lexed pickle ≡ Ok (tokens, spans)
  pub counted : length tokens ≡ count
  pub none : IsPickle tokens → ⊥
  pub stops : pickle_at standard tokens ≡ Err why

-- the declarations are not well typed: the first fault of their types, and the declaration that has it, counted from 1
pub record IsIllTyped (declarations : List DeclarationTree) (kind : FaultKind) (declaration : ℕ) : Type 0 where
  pub none : IsWellTyped declarations → ⊥
  pub fails : declared predeclared declarations ≡ Err kind
  pub first : first_wrong 1 predeclared declarations ≡ Some declaration

-- the bytes are a pickle that declares types
pub record IsAccepted (pickle : List ℕ) (declarations : List DeclarationTree) (types : Names) : Type 0 where
  pub syntax : HasSyntax pickle declarations
  pub declares : Declares predeclared declarations types

-- a table has the types of such a pickle, and knows how many it declares
abbrev pub IsTableOf : (pickle : List ℕ) → Table → Type 0
IsTableOf pickle table = (declarations : List DeclarationTree) × IsAccepted pickle declarations (types_of table)
    × (count_of table ≡ length declarations)

-- why the bytes aren't a pickle, or its types not well formed; an allocation failure says nothing about them
pub data Refuses (pickle : List ℕ) : Refusal → Type 0 where
  no_tokens : {kind : LexFaultKind} {at : ℕ} → lexed pickle ≡ Err (kind, at) → Refuses pickle (refusal.Tokens kind at)
  no_syntax : {spans : List (ℕ × ℕ)} {count token at : ℕ} → IsNoPickle pickle spans count (Wrong (count - token)) →
      token ≤ count → at ≡ place_of spans token (length pickle) → Refuses pickle (refusal.Syntax at)
  too_deep : {spans : List (ℕ × ℕ)} {count : ℕ} → IsNoPickle pickle spans count Deep → Refuses pickle refusal.TooDeep
  too_many : {spans : List (ℕ × ℕ)} {count : ℕ} → IsNoPickle pickle spans count Many → Refuses pickle refusal.TooMany
  ill_typed : {declarations : List DeclarationTree} {kind : FaultKind} {declaration : ℕ} →
      HasSyntax pickle declarations → IsIllTyped declarations kind declaration → kind ≢ types.Memory →
      Refuses pickle (refusal.Types kind declaration)
  no_memory : Refuses pickle refusal.Memory

-- the name of a refusal: that of the fault from which it comes
abbrev pub refusal_kind : Refusal → List ℕ
refusal_kind (refusal.Tokens kind at) = lex_kind kind
refusal_kind (refusal.Syntax at) = codes "Syntax"
refusal_kind refusal.TooDeep = codes "TooDeep"
refusal_kind refusal.TooMany = codes "TooMany"
refusal_kind (refusal.Types kind declaration) = type_kind kind
refusal_kind refusal.Memory = codes "Memory"

-- the line of a refusal, with its exit status
abbrev pub refusal_saying : Refusal → Saying
refusal_saying (refusal.Tokens kind at) = Line Refused (refused_at_line (lex_kind kind) at)
refusal_saying (refusal.Syntax at) = Line Refused (refused_at_line (codes "Syntax") at)
refusal_saying refusal.TooDeep = Line Refused (refused_line (codes "TooDeep"))
refusal_saying refusal.TooMany = Line Refused (refused_line (codes "TooMany"))
refusal_saying (refusal.Types kind declaration) = Line Refused (refused_in_line (type_kind kind) declaration)
refusal_saying refusal.Memory = Line Outside (fault_line (codes "Memory"))
