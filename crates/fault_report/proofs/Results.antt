-- What calls returned, and what follows from their clauses.
use Rattle.std.specs.Prelude.{IfOk, Result, Ok, Err}

-- a fact of everything holds of what a call returned
pub of_all : {A E : Type 0} (P : A → Type 0) → ((a : A) → P a) → (result : Result A E) → IfOk result P
of_all P all (Ok a) = all a
of_all P all (Err e) = tt

-- and so does one that follows from a call's clause
pub of_each : {A E : Type 0} (P Q : A → Type 0) → ((a : A) → P a → Q a) → (result : Result A E) →
    IfOk result P → IfOk result Q
of_each P Q more (Ok a) holds = more a holds
of_each P Q more (Err e) holds = tt

-- or from two
pub of_both : {A E : Type 0} (P Q R : A → Type 0) → ((a : A) → P a → Q a → R a) → (result : Result A E) →
    IfOk result P → IfOk result Q → IfOk result R
of_both P Q R more (Ok a) p q = more a p q
of_both P Q R more (Err e) p q = tt
