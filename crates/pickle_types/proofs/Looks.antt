-- Looking up the name of a type.
use Rattle.std.proofs.Common.{◌≡◌, ℕ, suc, List, [], ◌∷◌, ◌++◌, map, Option, Some, None, Bool, true, false, refl, sym, ap, ◌∙◌, arith}
use Rattle.std.specs.Prelude.{option_map, if◌then◌else◌, All, IfSome}
use Rattle.std.specs.Str.{bytes_eq}
use Rattle.pickle_types.specs.declared.node.Node.{Node}
use Rattle.pickle_types.specs.declared.names.Declared.{Declared}
use Rattle.pickle_types.specs.declared.names.Named.{Named}
use Rattle.pickle_types.specs.Table.{type_of}
use Rattle.pickle_types.specs.Names.{find_type}
use Rattle.pickle_types.specs.Built.{named_of, declared_as, IsFound}

module _ (word : List ℕ) where
  cond_map : (nodes : List Node) (b : Bool) (d : Declared) (o : Option Declared) →
      (if b then Some (type_of nodes d.node) else option_map (λ (x : Declared). type_of nodes x.node) o)
      ≡ option_map (λ (x : Declared). type_of nodes x.node) (if b then Some d else o)
  cond_map nodes true d o = refl
  cond_map nodes false d o = refl

  find_maps : (nodes : List Node) (ds : List Named) → find_type word (map (named_of nodes) ds)
      ≡ option_map (λ (x : Declared). type_of nodes x.node) (declared_as word ds)
  find_maps nodes [] = refl
  find_maps nodes (d ∷ ds) =
      rw (find_maps nodes ds) (cond_map nodes (bytes_eq word d.word.items) d.declared (declared_as word ds))

  pub found_is : (nodes : List Node) (o : Option Declared) (ds : List Named) → o ≡ declared_as word ds →
      IsFound nodes o (find_type word (map (named_of nodes) ds))
  found_is nodes None ds e = find_maps nodes ds ∙ ap (option_map (λ (x : Declared). type_of nodes x.node)) (sym e)
  found_is nodes (Some d) ds e = find_maps nodes ds ∙ ap (option_map (λ (x : Declared). type_of nodes x.node)) (sym e)

  named_or : (P : Declared → Type 0) (b : Bool) (d : Declared) (o : Option Declared) → P d → IfSome o P →
      IfSome (if b then Some d else o) P
  named_or P true d o h rest = h
  named_or P false d o h rest = rest

  -- what holds of all that have names holds of what is found
  pub found_named : (P : Declared → Type 0) (ds : List Named) → All P (map (λ (d : Named). d.declared) ds) →
      IfSome (declared_as word ds) P
  found_named P [] h = tt
  found_named P (d ∷ ds) h = named_or P (bytes_eq word d.word.items) d.declared (declared_as word ds)
      (h 0 d.declared (omega arith)) (found_named P ds (λ k x lt. h (suc k) x (omega arith)))

  not_found : {A B : Type 0} (f : A → B) (o : Option A) → option_map f o ≡ None → o ≡ None
  not_found f None e = refl
  not_found f (Some x) e = cc

  -- a name that no type has belongs to nothing
  pub absent : (nodes : List Node) (ds : List Named) → find_type word (map (named_of nodes) ds) ≡ None →
      declared_as word ds ≡ None
  absent nodes ds e = not_found (λ (d : Declared). type_of nodes d.node) _ (sym (find_maps nodes ds) ∙ e)

  push_step : (p q : Bool) (d e : Declared) (o o' : Option Declared) → (q ≡ true → (if p then Some d else o) ≡ None) →
      ((q ≡ true → o ≡ None) → o' ≡ (if q then Some e else o)) →
      (if p then Some d else o') ≡ (if q then Some e else (if p then Some d else o))
  push_step true true d e o o' none rest = let clash : Some d ≡ None = none refl in cc
  push_step true false d e o o' none rest = refl
  push_step false q d e o o' none rest = rest none

  -- one more name, which belonged to nothing
  pub declared_push : (ds : List Named) (d : Named) → (bytes_eq word d.word.items ≡ true → declared_as word ds ≡ None) →
      declared_as word (ds ++ d ∷ []) ≡ (if bytes_eq word d.word.items then Some d.declared else declared_as word ds)
  declared_push [] d none = refl
  declared_push (e ∷ ds) d none =
      push_step (bytes_eq word e.word.items) (bytes_eq word d.word.items) e.declared d.declared (declared_as word ds)
      (declared_as word (ds ++ d ∷ [])) none (declared_push ds d)
