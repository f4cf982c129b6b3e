-- A pickle has no more types than tokens.
use Rattle.std.proofs.Common.{◌≤◌, List, [], ◌∷◌, length, arith, length-append}
use Rattle.pickle_tree.specs.Tree.{Int, Uint, Called, FormTree, Plain, StringForm, OffsetForm, ArrayForm, StructForm, IntegralForm, UnionForm, FieldTrees, NoFields, FieldThen, DeclarationTree}
use Rattle.pickle_tree.specs.Limits.{form_count, fields_form_count, pickle_form_count}
use Rattle.pickle_syntax.specs.Show.{show_form, show_fields, show_pickle}

mutual
  form_count_shown : (f : FormTree) → form_count f ≤ length (show_form f)
  form_count_shown (Plain (Int n)) = omega arith
  form_count_shown (Plain (Uint n)) = omega arith
  form_count_shown (Plain (Called n)) = omega arith
  form_count_shown StringForm = omega arith
  form_count_shown (OffsetForm r u) = omega arith
  form_count_shown (ArrayForm e b) = simp length-append (omega (arith, form_count_shown e))
  form_count_shown (StructForm p fs) = simp length-append (omega (arith, fields_count_shown fs))
  form_count_shown (IntegralForm r fs) = simp length-append (omega (arith, fields_count_shown fs))
  form_count_shown (UnionForm fs) = simp length-append (omega (arith, fields_count_shown fs))

  fields_count_shown : (fs : FieldTrees) → fields_form_count fs ≤ length (show_fields fs)
  fields_count_shown NoFields = omega arith
  fields_count_shown (FieldThen f p fs) = simp length-append (omega (arith, form_count_shown f, fields_count_shown fs))

pub pickle_count_shown : (ds : List DeclarationTree) → pickle_form_count ds ≤ length (show_pickle ds)
pickle_count_shown [] = omega arith
pickle_count_shown (d ∷ ds) = simp length-append (omega (arith, form_count_shown d.form, pickle_count_shown ds))
