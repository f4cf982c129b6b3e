-- One step of the definitions for each declaration that is added.
use Rattle.std.proofs.Common.{◌≡◌, ℕ, List, [], ◌∷◌, ◌++◌, map, Option, Some, None, Result, Ok, Err, true, false, refl, ◌∙◌, arith}
use denote.Bor.{Bor}
use Rattle.std.specs.Prelude.{is_some, OnOk, OnErr}
use Rattle.std.proofs.lemmas.List.{map_push}
use Rattle.std.proofs.lemmas.List.Elements.{All-append}
use Rattle.pickle_tree.specs.Tree.{DeclarationTree}
use Rattle.pickle_types.specs.declared.fault.FaultKind.{FaultKind}
use Rattle.pickle_types.specs.declared.fault.FaultKind.TheVariants.{DuplicateType}
use Rattle.pickle_types.specs.declared.names.Declared.{Declared}
use Rattle.pickle_types.specs.declared.names.Named.{Named}
use Rattle.pickle_types.specs.declared.node.Node.{Node}
use Rattle.pickle_types.specs.declared.integer.IntegerType.{IntegerType}
use Rattle.pickle_types.specs.Types.{PokeType, IntegerOf}
use Rattle.pickle_types.specs.Table.{type_of, IsWidth}
use Rattle.pickle_types.specs.Names.{Names, find_type}
use Rattle.pickle_types.specs.Meaning.{unless_declared, meaning, declared_type, declared}
use Rattle.pickle_types.specs.Built.{Fails, named_of, listed_of, IsNamed, AreListed, IsFound, AddsName}
use Rattle.pickle_types.specs.Building.{is_unknown, may_add}
use Rattle.pickle_types.proofs.Steps.{fails_bind}

-- one more name
module _ (nodes : List Node) (old new : List Named) (word : List ℕ) (d : Declared)
    (adds : AddsName old new word d) where
  pub added_known : listed_of nodes new ≡ listed_of nodes old ++ (word, type_of nodes d.node) ∷ []
  added_known =
      rw adds.names (map_push (named_of nodes) old (record { word = adds.name; declared = d }) ∙ rw adds.bytes refl)

  pub added_named : AreListed nodes old → IsNamed nodes d → AreListed nodes new
  added_named listed named =
      rw (adds.names, map_push (λ (x : Named). x.declared) old (record { word = adds.name; declared = d }))
      (All-append (IsNamed nodes) (map (λ (x : Named). x.declared) old) (d ∷ []) listed
      (λ k e lt. let z : k ≡ 0 = omega arith in rw z named))

-- the name was added, or nothing has changed
pub named_since : (nodes : List Node) (old new : List Named) (word : List ℕ) (d : Declared)
    (r : Result (Unit {0}) FaultKind) → OnOk r (AddsName old new word d) → OnErr r (new ≡ old) → AreListed nodes old →
    IsNamed nodes d → AreListed nodes new
named_since nodes old new word d (Ok u) adds same listed named = added_named nodes old new word d adds listed named
named_since nodes old new word d (Err e) adds same listed named = rw same listed

pub declared_twice : (nodes : List Node) (o : Option Declared) (found : Option PokeType) → IsFound nodes o found →
    is_some o ≡ true → unless_declared found ≡ Err DuplicateType
declared_twice nodes None found is some = cc
declared_twice nodes (Some d) found is some = rw is refl

pub declared_once : (nodes : List Node) (o : Option Declared) (found : Option PokeType) → IsFound nodes o found →
    is_some o ≡ false → found ≡ None
declared_once nodes None found is none = is
declared_once nodes (Some d) found is none = cc

pub is_absent : {A : Type 0} (o : Option A) → is_some o ≡ false → o ≡ None
is_absent None none = refl
is_absent (Some x) none = cc

pub duplicate : (names : Names) (d : DeclarationTree) → unless_declared (find_type d.name names) ≡ Err DuplicateType →
    declared_type names d ≡ Err DuplicateType
unfolding declared_type
duplicate names d e = rw e refl

pub new_type : (names : Names) (d : DeclarationTree) → find_type d.name names ≡ None →
    declared_type names d ≡ meaning names [] 0 (Some d.name) 64 d.form
unfolding declared_type
new_type names d e = rw e refl

pub declared_next : (names : Names) (d : DeclarationTree) (ds : List DeclarationTree) (t : PokeType) →
    declared_type names d ≡ Ok t → declared names (d ∷ ds) ≡ declared (names ++ (d.name, t) ∷ []) ds
unfolding declared
declared_next names d ds t e = rw e refl

pub declared_fails : (names : Names) (d : DeclarationTree) (ds : List DeclarationTree) (e : FaultKind) →
    Fails e (declared_type names d) → Fails e (declared names (d ∷ ds))
unfolding declared
declared_fails names d ds e h = fails_bind e _ _ h

pub declared_end : (names : Names) → declared names [] ≡ Ok names
unfolding declared
declared_end names = refl

pub fails_along : {A : Type 0} (e : FaultKind) (r s : Result A FaultKind) → r ≡ s → Fails e s → Fails e r
fails_along e r s eq h = rw eq h

pub record MayAdd (names : Names) (p : Bor (List ℕ) × IntegerType)
    (ps : List (Bor (List ℕ) × IntegerType)) : Type 0 where
  pub unknown : find_type p.0.now names ≡ None
  pub wide : IsWidth p.1
  pub rest : may_add (names ++ (p.0.now, IntegerOf p.1) ∷ []) ps ≡ true

unknown_is : (o : Option PokeType) → is_unknown o ≡ true → o ≡ None
unknown_is None h = refl
unknown_is (Some t) h = cc
