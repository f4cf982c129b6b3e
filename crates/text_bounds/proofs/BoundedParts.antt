-- The bounds on printed parts.
use Rattle.std.proofs.Common.{◌≤◌, [], None, length, arith, subst}
use Rattle.text_output.specs.Styles.{plain}
use Rattle.value_text.specs.Styled.{with_chars}
use Rattle.value_text.proofs.PlainTexts.{prints_plain}
use Rattle.text_bounds.specs.TextLaws.{StyledTextsAreBounded, PartTextsAreBounded}
use Rattle.text_bounds.specs.TextRoom.{size_of, most_text}
use Rattle.text_bounds.proofs.ModeRooms.{printed_short}
use Rattle.text_bounds.proofs.PartSizes.{all_of, asked_within}
use Rattle.text_bounds.proofs.Sizes.{form_of}
use Rattle.text_bounds.proofs.SizesFit.{value_bounded}
use Rattle.text_bounds.proofs.TextSizes.{chars_within}

pub styled_bounded : StyledTextsAreBounded
unfolding most_text
styled_bounded nodes chars of style mode m ty levels s value path part fits is =
    let form = form_of style mode in
    let whole = value_bounded form m ty levels s value fits in
    let inside = asked_within form (size_of form ty m).text path value part (all_of form value whole) is in
    omega (
      arith,
      printed_short style mode (with_chars style.chars nodes chars of part),
      (chars_within form nodes chars of part).text,
      inside,
    )

pub part_text_bounded : PartTextsAreBounded
part_text_bounded mode m ty levels s value path part fits is =
    subst (λ text. length text ≤ most_text plain mode ty m) (prints_plain [] None None mode part)
    (styled_bounded [] None None plain mode m ty levels s value path part fits is)
