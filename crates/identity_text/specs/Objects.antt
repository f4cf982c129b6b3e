-- The JSON object of a format that fits a file.
use Rattle.std.specs.Prelude.{ℕ, List, ◌++◌, codes, decimal}
use Rattle.bit_space.specs.declared.order.Order.{Order}
use Rattle.bit_space.specs.declared.order.Order.TheVariants.{Little, Big}
use Rattle.value_text.specs.JsonText.{json_string}
use Rattle.identity_text.specs.Columns.{Shown}

-- the member of a byte order
abbrev pub endian_member : Order → List ℕ
endian_member Little = codes ",\"endian\":\"little\""
endian_member Big = codes ",\"endian\":\"big\""

-- the members of the columns
abbrev pub object_start : Shown → List ℕ
object_start fit =
    codes "{\"format\":"
    ++ (json_string fit.name ++ (codes ",\"type\":" ++ (json_string fit.type_name ++ endian_member fit.order)))

-- the size and the sentence
abbrev pub object_end : Shown → List ℕ
object_end fit =
    codes ",\"size\":"
    ++ (decimal fit.size ++ (codes ",\"description\":" ++ (json_string fit.sentence ++ codes "}")))

abbrev pub object : Shown → List ℕ
object fit = object_start fit ++ object_end fit
