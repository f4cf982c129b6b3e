-- The value that parts belong to.
use Rattle.value_store.specs.Owners.{owner_of}
use Rattle.value_text.specs.declared.typed.Typed.{Typed}
use Rattle.value_text.specs.declared.typed.parts.Parts.{Parts}

abbrev pub whole_of : Parts → Typed
whole_of parts = record { value = owner_of parts.members; types = parts.types; node = parts.node }
