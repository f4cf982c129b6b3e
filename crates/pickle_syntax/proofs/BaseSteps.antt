-- Types that begin with a word, and what is no type.
use Rattle.std.proofs.Common.{◌≡◌, ◌-◌, ◌<◌, ◌≤◌, List, [], ◌∷◌, length, take, drop, refl, sym, ap, ◌∙◌, arith, Err}
use Rattle.std.specs.Prelude.{slice_index_or, Vec}
use Rattle.std.specs.declared.alloc.Global.{Global}
use Rattle.std.proofs.Math.Seq.{take-length}
use Rattle.pickle_syntax.specs.declared.token.Word.{Word}
use Rattle.pickle_syntax.specs.declared.token.Kind.{Kind}
use Rattle.pickle_syntax.specs.declared.token.Kind.TheVariants as kind
use Rattle.pickle_tree.specs.declared.tree.Field.{Field}
use Rattle.pickle_tree.specs.declared.tree.Form.TheVariants as form
use Rattle.pickle_tree.specs.declared.tree.Form.TheOpen.{Form-F}
use Rattle.pickle_tree.specs.declared.tree.Form.TheFolds.{fold-roll-Form}
use Rattle.pickle_syntax.specs.Tokens.{tokens_of}
use Rattle.pickle_tree.specs.Tree.{FormTree, FieldTree, StringForm, UnionForm, form_step, field_step, form_tree, fields_tree}
use Rattle.pickle_tree.specs.Limits.{Limits}
use Rattle.pickle_syntax.specs.Reading.{Wrong, reference_at, target_at}
use Rattle.pickle_syntax.specs.ReadForms.{FormReader, word_form, base_at}

module _ (limits : Limits) (sub : FormReader) where
  pub base_none : (kinds : List Kind) → length kinds < 1 → base_at limits sub (tokens_of kinds) ≡ Err (Wrong 0)
  unfolding base_at target_at reference_at
  base_none [] h = refl
  base_none (k ∷ ks) h = absurd (omega arith)

  pub base_word : (kinds : List Kind) (first : Kind) (word : Word) → 1 ≤ length kinds →
      first ≡ slice_index_or kinds 0 first → first ≡ kind.Word word → base_at limits sub (tokens_of kinds)
      ≡ word_form limits sub (tokens_of (take (length kinds - 1) (drop 1 kinds))) word
  unfolding base_at
  base_word [] first word some at is = absurd (omega arith)
  base_word (k ∷ ks) first word some at is =
      let n : length (k ∷ ks) - 1 ≡ length ks = omega arith in
      let same : k ≡ kind.Word word = sym at ∙ is in
      rw (n, take-length ks, same) refl

pub form_string : form_tree form.String ≡ StringForm
form_string = ap form_tree (sym form.rolls-String)
    ∙ fold-roll-Form FormTree FieldTree form_step field_step Form-F.String

pub form_union : (fields : Vec Field Global) → form_tree (form.Union fields) ≡ UnionForm (fields_tree fields.items)
form_union fields = ap form_tree (sym (form.rolls-Union fields))
    ∙ fold-roll-Form FormTree FieldTree form_step field_step (Form-F.Union fields)
