-- The number of elements of an array.
use Rattle.std.proofs.Common.{◌≡◌, pos, Ok, refl}
use Rattle.pickle_tree.specs.declared.tree.Attribute.TheVariants.{Length}
use Rattle.pickle_meaning.specs.Arithmetic.{unsigned_type}
use Rattle.pickle_meaning.specs.Evaluation.{AtPath, attribute_of}
use Rattle.pickle_meaning.specs.Values.{Value, Mapped, IntegerLabel, OffsetLabel, TextLabel, ArrayLabel, StructLabel, UnionLabel, label_of, members_of, member_count}
use Rattle.value_store.specs.declared.value.Kind.TheVariants.{Array}
use Rattle.value_store.specs.Labels.{kind_of}

pub length_of : (v : Value) → kind_of (label_of v) ≡ Array →
    attribute_of Length (AtPath v) ≡ Ok (IntegerLabel (pos (member_count (members_of v))) (unsigned_type 64))
length_of (Mapped (IntegerLabel n t) s e ms) k = cc
length_of (Mapped (OffsetLabel n t u) s e ms) k = cc
length_of (Mapped (TextLabel bs) s e ms) k = cc
length_of (Mapped ArrayLabel s e ms) k = refl
length_of (Mapped (StructLabel name fields) s e ms) k = cc
length_of (Mapped (UnionLabel name index alternative) s e ms) k = cc
