-- What a request says.
use Rattle.command_line.specs.declared.fault_form.FaultForm.{FaultForm}
use Rattle.command_line.specs.declared.fault_form.FaultForm.TheVariants.{Text}
use Rattle.command_line.specs.declared.request.Form.{Form}
use Rattle.command_line.specs.declared.request.Form.TheVariants.{Printed, Shown}

-- how a refusal or a fault is written; to the eye that is in words
abbrev pub faults_in : Form → FaultForm
faults_in (Printed mode faults) = faults
faults_in (Shown color depth numbers beside) = Text
