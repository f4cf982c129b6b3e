-- The borrowed value.
use Rattle.std.specs.Prelude.{ℕ}
use Rattle.value_store.specs.declared.stored.StoredValue.{StoredValue}
use Rattle.value_store.specs.declared.value.ValueRef.{ValueRef}
use Rattle.value_store.specs.Lent.{place_value, place_rank}
use Rattle.value_store.specs.Names.{Names}
use Rattle.pickle_meaning.specs.Values.{Value}

abbrev pub value_of : Names → StoredValue → Value
value_of names r = place_value names r.store.now.slots r.place

-- the same with the names of its table
abbrev pub value_shown : ValueRef → Value
value_shown r = value_of r.nodes.now r.stored

-- a number that is smaller for each member of a value than for the value
abbrev pub stored_rank : StoredValue → ℕ
stored_rank r = place_rank r.place

abbrev pub rank_of : ValueRef → ℕ
rank_of r = stored_rank r.stored
