-- What `map` requests to print or to write as bytes.
use Rattle.std.proofs.Common.{◌≡◌, Bool, true, false, None, String, codes, refl, string_bytes, sym}
use Rattle.std.specs.declared.alloc.Global.{Global}
use Rattle.clap.specs.declared.parser.matches.Found.{Found}
use Rattle.command_line.specs.Found.{AsksSubject, AsksValues, HasTerms, IsInMode, ReportsIn, file_in, is_raw, over_file, type_in}
use Rattle.command_line.specs.declared.fault_form.FaultForm.{FaultForm}
use Rattle.command_line.specs.declared.request.Form.TheVariants.{Printed}
use Rattle.command_line.specs.declared.selection.Choice.TheVariants.{Parts}
use Rattle.command_line.specs.declared.subject.Subject.{Subject}
use Rattle.command_line.specs.declared.terms.Terms.{Terms}
use Rattle.text_output.specs.Styles.{plain}
use Rattle.text_output.specs.declared.mode.Mode.{Mode}

pub printed_values : (found : Found) (terms : Terms) (subject : Subject) (mode : Mode) (faults : FaultForm) (raw : Bool)
    (file : String Global) → AsksSubject found (type_in found (codes "FILE")) subject
    → HasTerms found Parts plain terms → raw ≡ is_raw found → (raw ≡ true → terms.selection ≡ None)
    → IsInMode found mode → ReportsIn found faults → string_bytes file ≡ file_in found
    → AsksValues found terms (Printed mode faults) subject (over_file file raw)
printed_values found terms subject mode faults true file asked has is one in_mode in_form named = record {
  subject_is = asked;
  terms_are = has;
  selects = one refl;
  form_is = (in_mode, in_form, sym is);
  over_is = named;
}
printed_values found terms subject mode faults false file asked has is one in_mode in_form named = record {
  subject_is = asked;
  terms_are = has;
  selects = tt;
  form_is = (in_mode, in_form, sym is);
  over_is = named;
}
