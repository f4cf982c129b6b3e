-- The words of a value that is printed over lines.
use Rattle.std.specs.Prelude.{ℕ, ◌*◌, Bool, true, false, List, ◌++◌, replicate, codes}
use Rattle.value_store.specs.declared.value.Kind.{Kind}
use Rattle.value_store.specs.declared.value.Kind.TheVariants.{Integer, Offset, Text, Array, Struct, Union}
use Rattle.pickle_meaning.specs.Values.{Label, ArrayLabel}
use Rattle.value_store.specs.Labels.{member_name}
use Rattle.text_output.specs.Brackets.{in_brackets}
use Rattle.value_text.specs.ValueText.{name_text}

-- two blanks for each level
abbrev pub indent_text : (level : ℕ) → List ℕ
indent_text level = replicate (2 * level) 32

-- what is before a part: the place of an element, the name of a field or an alternative if it has one
abbrev pub prefix_text : Label → (place : ℕ) → List ℕ
prefix_text ArrayLabel place = in_brackets place ++ codes "="
prefix_text label place = name_text (member_name label place)

abbrev pub line_text : (level : ℕ) (prefix head : List ℕ) → List ℕ
line_text level prefix head = indent_text level ++ (prefix ++ (head ++ codes "\n"))

-- whether the members of a value have lines of their own
abbrev pub has_parts : Kind → Bool
has_parts Integer = false
has_parts Offset = false
has_parts Text = false
has_parts Array = true
has_parts Struct = true
has_parts Union = true
