-- The value that members belong to.
use Rattle.value_store.specs.declared.value.ValueRef.{ValueRef}
use Rattle.value_store.specs.declared.value.members.Members.{Members}

abbrev pub owner_of : Members → ValueRef
owner_of m = m.value
