-- The words for types, by the kinds of values.
use Rattle.std.proofs.Common.{◌≡◌, ◌≢◌, ℕ, zero, suc, ◌-◌, ◌<◌, List, ◌++◌, Some, None, true, false, codes, refl, arith, length, ◌∙◌, inl, inr}
use Rattle.std.proofs.Math.Dec.{ltb}
use Rattle.std.proofs.lemmas.Bool.{lt-ltb, cases_lt, false≢true}
use Rattle.std.proofs.lemmas.Option.{slice_get_past}
use Rattle.std.specs.Prelude.{slice_get}
use Rattle.value_store.specs.declared.value.Kind.TheVariants as kind
use Rattle.pickle_types.specs.NodeParts.{node_part}
use Rattle.pickle_meaning.specs.Values.{Label, IntegerLabel, OffsetLabel, TextLabel, ArrayLabel, StructLabel, UnionLabel}
use Rattle.value_store.specs.Labels.{kind_of, name_of}
use Rattle.text_output.specs.Brackets.{in_brackets}
use Rattle.value_text.specs.ValueText.{title_text}
use Rattle.value_text.specs.TypeWords.{Known, is_letter, found_word, inner_word, bare_word, known_word, some_word, node_word}

pub inner_array : (label : Label) (count : ℕ) → kind.Array ≡ kind_of label →
    inner_word label count ≡ Some (in_brackets count)
inner_array (IntegerLabel number type) count e = cc
inner_array (OffsetLabel magnitude type unit) count e = cc
inner_array (TextLabel bytes) count e = cc
inner_array ArrayLabel count e = refl
inner_array (StructLabel name fields) count e = cc
inner_array (UnionLabel name index alternative) count e = cc

pub inner_other : (label : Label) (count : ℕ) → kind_of label ≢ kind.Array → inner_word label count ≡ None
inner_other (IntegerLabel number type) count e = refl
inner_other (OffsetLabel magnitude type unit) count e = refl
inner_other (TextLabel bytes) count e = refl
inner_other ArrayLabel count e = absurd (e refl)
inner_other (StructLabel name fields) count e = refl
inner_other (UnionLabel name index alternative) count e = refl

pub ruleset by_inner = (inner_array, inner_other)

pub bare_integer : (label : Label) (count : ℕ) → kind.Integer ≡ kind_of label → bare_word label count ≡ None
bare_integer (IntegerLabel number type) count e = refl
bare_integer (OffsetLabel magnitude type unit) count e = cc
bare_integer (TextLabel bytes) count e = cc
bare_integer ArrayLabel count e = cc
bare_integer (StructLabel name fields) count e = cc
bare_integer (UnionLabel name index alternative) count e = cc

pub bare_offset : (label : Label) (count : ℕ) → kind.Offset ≡ kind_of label → bare_word label count ≡ None
bare_offset (IntegerLabel number type) count e = refl
bare_offset (OffsetLabel magnitude type unit) count e = refl
bare_offset (TextLabel bytes) count e = cc
bare_offset ArrayLabel count e = cc
bare_offset (StructLabel name fields) count e = cc
bare_offset (UnionLabel name index alternative) count e = cc

pub bare_string : (label : Label) (count : ℕ) → kind.Text ≡ kind_of label → bare_word label count ≡ None
bare_string (IntegerLabel number type) count e = refl
bare_string (OffsetLabel magnitude type unit) count e = refl
bare_string (TextLabel bytes) count e = refl
bare_string ArrayLabel count e = cc
bare_string (StructLabel name fields) count e = cc
bare_string (UnionLabel name index alternative) count e = cc

pub bare_array : (label : Label) (count : ℕ) → kind.Array ≡ kind_of label →
    bare_word label count ≡ Some (in_brackets count)
bare_array (IntegerLabel number type) count e = cc
bare_array (OffsetLabel magnitude type unit) count e = cc
bare_array (TextLabel bytes) count e = cc
bare_array ArrayLabel count e = refl
bare_array (StructLabel name fields) count e = cc
bare_array (UnionLabel name index alternative) count e = cc

pub bare_struct : (label : Label) (count : ℕ) → kind.Struct ≡ kind_of label →
    bare_word label count ≡ Some (title_text (codes "struct") (name_of label))
bare_struct (IntegerLabel number type) count e = cc
bare_struct (OffsetLabel magnitude type unit) count e = cc
bare_struct (TextLabel bytes) count e = cc
bare_struct ArrayLabel count e = cc
bare_struct (StructLabel name fields) count e = refl
bare_struct (UnionLabel name index alternative) count e = cc

pub bare_union : (label : Label) (count : ℕ) → kind.Union ≡ kind_of label →
    bare_word label count ≡ Some (title_text (codes "union") (name_of label))
bare_union (IntegerLabel number type) count e = cc
bare_union (OffsetLabel magnitude type unit) count e = cc
bare_union (TextLabel bytes) count e = cc
bare_union ArrayLabel count e = cc
bare_union (StructLabel name fields) count e = cc
bare_union (UnionLabel name index alternative) count e = refl

pub ruleset by_bare = (bare_integer, bare_offset, bare_string, bare_array, bare_struct, bare_union)

pub known_array : (types : Known) (of : ℕ) (label : Label) (count : ℕ) → kind.Array ≡ kind_of label
    → known_word types of label count ≡ some_word types (node_part types.nodes of 0) ++ in_brackets count
known_array types of (IntegerLabel number type) count e = cc
known_array types of (OffsetLabel magnitude type unit) count e = cc
known_array types of (TextLabel bytes) count e = cc
known_array types of ArrayLabel count e = refl
known_array types of (StructLabel name fields) count e = cc
known_array types of (UnionLabel name index alternative) count e = cc

pub known_other : (types : Known) (of : ℕ) (label : Label) (count : ℕ) → kind_of label ≢ kind.Array →
    known_word types of label count ≡ node_word 8 types of
known_other types of (IntegerLabel number type) count e = refl
known_other types of (OffsetLabel magnitude type unit) count e = refl
known_other types of (TextLabel bytes) count e = refl
known_other types of ArrayLabel count e = absurd (e refl)
known_other types of (StructLabel name fields) count e = refl
known_other types of (UnionLabel name index alternative) count e = refl

pub ruleset by_known = (known_array, known_other)

-- the word of a type that isn't `char`, one level further in
pub word_inside : (levels : ℕ) (types : Known) (of : ℕ) → 0 < levels → is_letter types.letters of ≡ false →
    node_word levels types of ≡ found_word (node_word (levels - 1) types) (slice_get types.nodes of)
unfolding node_word
word_inside zero types of h e = absurd (omega (arith, h))
word_inside (suc levels) types of h e = let same : suc levels - 1 ≡ levels = omega arith in rw (same, e) refl

pub word_letter : (levels : ℕ) (types : Known) (of : ℕ) → 0 < levels → is_letter types.letters of ≡ true →
    node_word levels types of ≡ codes "char"
unfolding node_word
word_letter zero types of h e = absurd (omega (arith, h))
word_letter (suc levels) types of h e = rw e refl

pub word_deep : (levels : ℕ) (types : Known) (of : ℕ) → levels ≡ 0 → node_word levels types of ≡ codes ".."
unfolding node_word
word_deep levels types of e = rw e refl

-- nothing is past the end of a list
pub none_at : {A : Type 0} (xs : List A) (i : ℕ) → false ≡ ltb i (length xs) → slice_get xs i ≡ None
none_at xs i e = elim (cases_lt i (length xs)) [
  | inl lt ↦ absurd (false≢true (e ∙ lt-ltb i (length xs) lt))
  | inr ge ↦ slice_get_past xs i (omega arith)
]
