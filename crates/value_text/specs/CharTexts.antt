-- Arrays of chars as texts.
use Rattle.std.specs.Prelude.{ℕ, suc, ◌%◌, Bool, false, List, [], ◌∷◌, Option, Some, None, ◌==◌, if◌then◌else◌, unsigned_abs}
use Rattle.pickle_types.specs.declared.node.Node.{Node}
use Rattle.pickle_meaning.specs.Values.{Label, IntegerLabel, OffsetLabel, TextLabel, ArrayLabel, StructLabel, UnionLabel, Value, Mapped, Members, NoMembers, MemberThen, AbsentThen, label_of}
use Rattle.value_store.specs.Labels.{number_of}
use Rattle.value_text.specs.PartTypes.{part_node}

-- both are known, and they are the same
abbrev pub is_node : Option ℕ → Option ℕ → Bool
is_node None other = false
is_node (Some node) None = false
is_node (Some node) (Some other) = node == other

-- whether a value is an array whose element has the node of `char`
abbrev pub has_chars : (chars element : Option ℕ) → Label → Bool
has_chars chars element (IntegerLabel number type) = false
has_chars chars element (OffsetLabel magnitude type unit) = false
has_chars chars element (TextLabel bytes) = false
has_chars chars element ArrayLabel = is_node chars element
has_chars chars element (StructLabel name fields) = false
has_chars chars element (UnionLabel name index alternative) = false

-- the byte that an element is
abbrev pub char_of : Value → ℕ
char_of value = unsigned_abs (number_of (label_of value)) % 256

abbrev pub char_if : Option Value → ℕ
char_if None = 0
char_if (Some value) = char_of value

-- the bytes of all elements; an absent one has 0
abbrev pub chars_in : Members → List ℕ
chars_in NoMembers = []
chars_in (AbsentThen rest) = 0 ∷ chars_in rest
chars_in (MemberThen value rest) = char_of value ∷ chars_in rest

-- a byte before others; a 0 only if there are others
abbrev pub kept_before : ℕ → List ℕ → List ℕ
kept_before byte [] = if byte == 0 then [] else byte ∷ []
kept_before byte (next ∷ rest) = byte ∷ next ∷ rest

-- bytes without the zero bytes at their end
abbrev pub trimmed : List ℕ → List ℕ
trimmed [] = []
trimmed (byte ∷ bytes) = kept_before byte (trimmed bytes)

module _ (nodes : List Node) (chars : Option ℕ) where
  abbrev mutual
    -- a value whose type has this node, with each array of chars in it as a text at the array's place
    pub with_texts : (of : Option ℕ) → Value → Value
    with_texts of (Mapped label start end members) =
        if has_chars chars (part_node nodes of label 0) label
        then Mapped (TextLabel (trimmed (chars_in members))) start end NoMembers
        else Mapped label start end (parts_with_texts of label 0 members)

    -- the same of the members from a place on
    pub parts_with_texts : (of : Option ℕ) → Label → (place : ℕ) → Members → Members
    parts_with_texts of label place NoMembers = NoMembers
    parts_with_texts of label place (AbsentThen rest) = AbsentThen (parts_with_texts of label (suc place) rest)
    parts_with_texts of label place (MemberThen value rest) =
        MemberThen (with_texts (part_node nodes of label place) value) (parts_with_texts of label (suc place) rest)
