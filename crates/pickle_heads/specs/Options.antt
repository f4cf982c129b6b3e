-- The options of a head.
use Rattle.std.specs.Prelude.{ℕ, Bool, true, false, if◌then◌else◌, List, [], Option, Some, None, unwrap_or, codes}
use Rattle.std.specs.Str.{bytes_eq}
use Rattle.bit_space.specs.declared.order.Order.{Order}
use Rattle.bit_space.specs.declared.order.Order.TheVariants.{Big, Little}
use Rattle.pickle_heads.specs.declared.options.Given.{Given}
use Rattle.pickle_heads.specs.Texts.{after, before}

-- the order that an option names
abbrev pub order_named : List ℕ → Option Order
order_named text =
    if bytes_eq text (codes "--endian little") then Some Little
    else if bytes_eq text (codes "--endian big") then Some Big
    else None

abbrev pub given_with : (whole : Bool) → Option Order → Option Given
given_with whole None = None
given_with whole (Some order) = Some (record { order = Some order; whole = whole })

-- an order, with the text beside `--whole`, if that is there
abbrev pub given_before : (text : List ℕ) → Option (List ℕ) → Option Given
given_before text (Some rest) = given_with true (order_named rest)
given_before text None = given_with false (order_named text)

abbrev pub given_beside : (text : List ℕ) → Option (List ℕ) → Option Given
given_beside text (Some rest) = given_with true (order_named rest)
given_beside text None = given_before text (before (codes " --whole") text)

-- what options give: an order, `--whole`, both with a blank between, or nothing; no other text is in the form of
-- options
abbrev pub given_in : List ℕ → Option Given
given_in text =
    if bytes_eq text [] then Some (record { order = None; whole = false })
    else if bytes_eq text (codes "--whole") then Some (record { order = None; whole = true })
    else given_beside text (after (codes "--whole ") text)

-- a text that isn't in the form of options gives nothing
abbrev pub given_or_none : List ℕ → Given
given_or_none text = unwrap_or (given_in text) (record { order = None; whole = false })
