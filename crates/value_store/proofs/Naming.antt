-- Names that are looked up.
use Rattle.std.proofs.Common.{◌≡◌, ℕ, List, map, None, ap}
use Rattle.std.specs.Prelude.{slice_get, unwrap_or}
use Rattle.std.specs.Option.{option_map}
use Rattle.std.proofs.lemmas.Option.{slice_get-map}
use Rattle.pickle_meaning.specs.Values.{Naming}

pub names_mapped : {A : Type 0} (name : A → Naming) (xs : List A) (i : ℕ) →
    unwrap_or (slice_get (map name xs) i) None ≡ unwrap_or (option_map name (slice_get xs i)) None
names_mapped name xs i = ap (λ o. unwrap_or o None) (slice_get-map name xs i)
