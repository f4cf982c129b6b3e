-- The links from a value to its parts.
use Rattle.std.specs.Prelude.{◌≡◌, ℕ, List, [], Option, Some, None, slice_get, unwrap_or}
use Rattle.std.specs.Option.{option_map}
use Rattle.pickle_meaning.specs.Values.{value_at}
use Rattle.value_store.specs.declared.store.slots.Node.{Node}
use Rattle.value_store.specs.Names.{Names}
use Rattle.value_store.specs.Slots.{Slots, Held, levels, links_of, value_at as node_value}

abbrev pub node_links : Slots → Option Node → List (Option ℕ)
node_links s None = []
node_links s (Some n) = links_of s n.shape n.content

-- the links of the node at a place
abbrev pub links_from : Slots → ℕ → List (Option ℕ)
links_from s i = node_links s (slice_get s.nodes i)

-- the values of the links are the parts of an open value
abbrev pub AreLinksAt : Held → (level : ℕ) → List (Option ℕ) → Type 0
AreLinksAt h level links = (names : Names) (i : ℕ) →
    option_map (node_value names h.slots) (unwrap_or (slice_get links i) None) ≡ value_at (levels names h) level i
