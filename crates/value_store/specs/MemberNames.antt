-- The borrowed names of a value's members.
use Rattle.std.specs.Prelude.{ℕ, zero, suc, None, slice_get, unwrap_or}
use Rattle.std.specs.Option.{option_map}
use Rattle.pickle_meaning.specs.Values.{Naming}
use Rattle.value_store.specs.declared.names.MemberNames.{MemberNames}
use Rattle.value_store.specs.declared.names.MemberNames.TheVariants.{Nameless, Fields, Parts, Only}
use Rattle.value_store.specs.Names.{field_name, part_name}

-- the name of the member at a place
abbrev pub name_among : MemberNames → (place : ℕ) → Naming
name_among Nameless place = None
name_among (Fields fields) place = unwrap_or (option_map field_name (slice_get fields.now place)) None
name_among (Parts parts) place = unwrap_or (option_map part_name (slice_get parts.now place)) None
name_among (Only name) zero = option_map (λ name. name.now) name
name_among (Only name) (suc place) = None
