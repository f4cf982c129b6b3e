use Rattle.std.proofs.Common.{◌≡◌, ◌-◌, ◌<◌, ◌∙◌, arith, vec_len, refl}
use Rattle.pickle_syntax.specs.Tokens.{tokens_of}
use Rattle.pickle_tree.specs.Tree.{field_tree, fields_tree}
use Rattle.pickle_tree.specs.Limits.{standard}
use Rattle.pickle_syntax.specs.ReadForms.{form_at}
use Rattle.pickle_syntax.proofs.BaseSteps.{base_none, base_word, form_string, form_union}
use Rattle.pickle_syntax.proofs.FieldSteps.{fields_step, fields_tree_push, depth_push}
use Rattle.pickle_syntax.proofs.parser.+types.Goals as goal

pub fields::fields_at-fields-preserved : goal.fields::fields_at-fields-preserved
fields::fields_at-fields-preserved t c =
    let len = c.len.ensures in
    let pushed = c.in_ok-push.ensures.len in
    let most = c.max-depth.ensures in
    let before = c.fields.invariant.measured in
    let here = c.in_ok-found.found.measured in
    let low = c.fields.invariant.low in
    let low_here = c.in_ok-found.ensures.low in
    let items = c.in_ok-push.ensures.items in
    let few : vec_len c.fields.fields < 1024 = omega arith in
    let num : 1024 - vec_len c.push.new.self ≡ 1024 - vec_len c.fields.fields - 1 = omega arith in
    let step = fields_step standard (form_at standard c.args.room) (fields_tree c.fields.fields.items)
    (1024 - vec_len c.fields.fields) (tokens_of c.fields.rest.now) (field_tree c.in_ok-found.found.field)
    (tokens_of c.in_ok-found.after.now) (omega arith) c.in_default.ensures c.in_ok-found.ensures.read in
    record {
      same = rw (items, fields_tree_push c.fields.fields.items c.in_ok-found.found.field, num, c.onward-rest.ensures)
          (step ∙ c.fields.invariant.same);
      few = omega arith;
      measured =
          rw (items, depth_push c.fields.fields.items c.in_ok-found.found.field) (omega (arith, most, before, here));
      low = omega (arith, most);
    }

pub types::base_at-returns-in-empty-clause-read : goal.types::base_at-returns-in-empty-clause-read
types::base_at-returns-in-empty-clause-read t c =
    base_none standard (form_at standard c.args.room) c.args.tokens.now c.in-empty.len_below

pub types::base_at-returns-in-String-clause-read : goal.types::base_at-returns-in-String-clause-read
types::base_at-returns-in-String-clause-read t c =
    let word = base_word standard (form_at standard c.args.room) c.args.tokens.now c.first-item.result c.in-Word.word
    c.in-len1-up.len_at_least c.first-item.is c.in-Word.is in
    word ∙ rw (c.in-String.is, form_string) refl

pub types::base_at-returns-in_ok-found-in-Union-clause-read :
    goal.types::base_at-returns-in_ok-found-in-Union-clause-read
types::base_at-returns-in_ok-found-in-Union-clause-read t c =
    let word = base_word standard (form_at standard c.args.room) c.args.tokens.now c.first-item.result c.in-Word.word
    c.in-len1-up.len_at_least c.first-item.is c.in-Word.is in
    word ∙ rw (c.in-Union.is, c.in_ok-found-in-Union.ensures.read, form_union c.in_ok-found-in-Union.found.fields) refl
