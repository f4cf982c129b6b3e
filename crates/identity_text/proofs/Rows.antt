-- The lines of the formats of a file, worked out by hand, against the definitions.
use Rattle.std.proofs.Common.{◌≡◌, true, false, [], ◌∷◌, codes, refl}
use Rattle.std.specs.Fmt.{digits}
use Rattle.bit_space.specs.declared.order.Order.TheVariants.{Little, Big}
use Rattle.command_line.specs.declared.answer_form.AnswerForm.TheVariants.{Text, Json}
use Rattle.identification.specs.declared.prepare.Unfit.TheVariants as unfit
use Rattle.pickle_heads.specs.declared.fault.HeadFault.TheVariants as head
use Rattle.run_parts.specs.declared.accept.Refusal.TheVariants as refusal
use Rattle.value_text.specs.JsonText.{json_string}
use Rattle.identity_text.specs.Columns.{Shown}
use Rattle.identity_text.specs.Texts.{answer}
use Rattle.identity_text.specs.Unprepared.{unprepared_line}

abbrev png : Shown
png = record {
  name = codes "png";
  type_name = codes "Png";
  sentence = codes "An image.";
  order = Big;
  size = 64;
}

-- one with a tab in its name, and a quote in its sentence
abbrev odd : Shown
odd = record {
  name = codes "a\tb";
  type_name = codes "Odd";
  sentence = codes "So \"called\".";
  order = Little;
  size = 0;
}

first_line : answer false Text (png ∷ odd ∷ []) ≡ codes "png\tPng\tbig\n"
first_line = refl

all_line : answer true Text (png ∷ odd ∷ []) ≡ codes "png\tPng\tbig\ta\\tb\tOdd\tlittle\n"
all_line = refl

first_object : answer false Json (png ∷ odd ∷ [])
    ≡ codes "{\"format\":\"png\",\"type\":\"Png\",\"endian\":\"big\",\"size\":64,\"description\":\"An image.\"}\n"
unfolding json_string digits
first_object = refl

all_objects : answer true Json (odd ∷ png ∷ [])
    ≡ codes
    "[{\"format\":\"a\\tb\",\"type\":\"Odd\",\"endian\":\"little\",\"size\":0,\"description\":\"So \\\"called\\\".\"},{\"format\":\"png\",\"type\":\"Png\",\"endian\":\"big\",\"size\":64,\"description\":\"An image.\"}]\n"
unfolding json_string digits
all_objects = refl

-- a list also of one
one_object : answer true Json (png ∷ [])
    ≡ codes "[{\"format\":\"png\",\"type\":\"Png\",\"endian\":\"big\",\"size\":64,\"description\":\"An image.\"}]\n"
unfolding json_string digits
one_object = refl

refused_line : unprepared_line (codes "png") (unfit.Refused (refusal.Syntax 17))
    ≡ codes "error: the pickle png is no format: refused Syntax at byte 17\n"
unfolding digits
refused_line = refl

head_line : unprepared_line (codes "png") (unfit.Head head.Identified)
    ≡ codes "error: the pickle png is no format: its line Identified by isn't in its form\n"
head_line = refl

cycle_line : unprepared_line (codes "a\nb") unfit.Cycle
    ≡ codes "error: the pickle a\\nb is no format: it is a form of itself\n"
cycle_line = refl
