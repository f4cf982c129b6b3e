-- The types that a well typed pickle declares see nothing around them.
use Rattle.std.proofs.Common.{List, ◌∷◌}
use Rattle.std.proofs.lemmas.Option.{none-some}
use Rattle.pickle_tree.specs.Tree.{DeclarationTree}
use Rattle.pickle_types.specs.declared.integer.IntegerType.{IntegerType}
use Rattle.pickle_types.specs.Types.{PokeType, IntegerOf}
use Rattle.pickle_types.specs.Names.{Names, predeclared}
use Rattle.pickle_types.specs.WellTyped.{Declares}
use Rattle.scope_laws.specs.Arrays.{ArraysSeeNone}
use Rattle.scope_laws.specs.Laws.{TypesAreLocal, DeclaredTypesAreClosed, ElementsAreLocal, ArraysAreUnseen}
use Rattle.scope_laws.proofs.SameTypes.{SameType}
use Rattle.scope_laws.proofs.Meanings.{means_alike}
use Rattle.scope_laws.proofs.Scopes.{no_scope, deeper_agree}
use Rattle.scope_laws.proofs.Typed.{AllOf, found_in, one_more, IsClosed, type_same}
use Rattle.scope_laws.proofs.Arrays.{arrays_unseen}

-- what holds of all integers holds of each type that needs no declaration
of_integers : (P : PokeType → Type 0) → ((type : IntegerType) → P (IntegerOf type)) → AllOf P predeclared
of_integers P h = search h

predeclared_closed : AllOf IsClosed predeclared
unfolding SameType
predeclared_closed = of_integers IsClosed (λ type levels levels'. tt)

predeclared_unseen : AllOf ArraysSeeNone predeclared
unfolding ArraysSeeNone
predeclared_unseen = of_integers ArraysSeeNone (λ type. tt)

declares_closed : {names all : Names} {ds : List DeclarationTree} → Declares names ds all → AllOf IsClosed names →
    AllOf IsClosed all
declares_closed Declares.none h = h
declares_closed (Declares.more {names} {d} {t} new m low rest) h =
    declares_closed rest (one_more IsClosed names d.name t h
    (λ levels levels'. type_same m h levels levels' (λ word v found. absurd (none-some v found))))

declares_unseen : {names all : Names} {ds : List DeclarationTree} → Declares names ds all → AllOf IsClosed names →
    AllOf ArraysSeeNone names → AllOf ArraysSeeNone all
declares_unseen Declares.none closed h = h
declares_unseen (Declares.more {names} {d} {t} new m low rest) closed h =
    declares_unseen rest (one_more IsClosed names d.name t closed
    (λ levels levels'. type_same m closed levels levels' (λ word v found. absurd (none-some v found))))
    (one_more ArraysSeeNone names d.name t h (arrays_unseen m closed h (no_scope 0)))

all_closed : {declarations : List DeclarationTree} {names : Names} → Declares predeclared declarations names →
    AllOf IsClosed names
all_closed h = declares_closed h predeclared_closed

-- ---- the laws

pub types_local : TypesAreLocal
types_local declarations names seen count title form ty levels levels' h m agree bits order s r k j means =
    means_alike means levels' (type_same m (all_closed h) levels levels' agree)

pub declared_closed : DeclaredTypesAreClosed
declared_closed declarations names word ty levels levels' h found bits order s r k j means =
    means_alike means levels' (found_in IsClosed word names ty (all_closed h) found levels levels')

pub elements_local : ElementsAreLocal
elements_local declarations names seen count form ty levels levels' before before' h m agree bits order s r k j means =
    means_alike means (before' ∷ levels')
    (type_same m (all_closed h) (before ∷ levels) (before' ∷ levels')
    (deeper_agree seen count levels levels' before before' agree))

pub arrays_unseen_in : ArraysAreUnseen
arrays_unseen_in declarations names word ty h found = found_in ArraysSeeNone word names ty
    (declares_unseen h predeclared_closed predeclared_unseen) found
