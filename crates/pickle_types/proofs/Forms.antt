-- Forms that have no parts, as trees.
use Rattle.std.proofs.Common.{◌≡◌, rules, ap, sym, ◌∙◌, Box, Global}
use Rattle.pickle_tree.specs.declared.tree.Unit.{Unit as PokeUnit}
use Rattle.pickle_tree.specs.declared.tree.Reference.{Reference}
use Rattle.pickle_tree.specs.declared.tree.Form.{the_lemmas}
use Rattle.pickle_tree.specs.declared.tree.Form.TheVariants as form
use Rattle.pickle_tree.specs.Tree.{Plain, StringForm, OffsetForm, reference_tree, form_tree}

pub reference_form : (r : Reference) → form_tree (form.Reference r) ≡ Plain (reference_tree r)
reference_form r = ap form_tree (sym (form.rolls-Reference r)) ∙ search (rules, the_lemmas)

pub string_form : form_tree form.String ≡ StringForm
string_form = ap form_tree (sym form.rolls-String) ∙ search (rules, the_lemmas)

pub offset_form : (r : Box Reference Global) (u : PokeUnit) →
    form_tree (form.Offset r u) ≡ OffsetForm (reference_tree r.value) u
offset_form r u = ap form_tree (sym (form.rolls-Offset r u)) ∙ search (rules, the_lemmas)
