use Rattle.std.proofs.Common.{◌≡◌, Some, None, ◌++◌, length, sym, ◌∙◌, ap, subst, arith}
use Rattle.value_store.specs.Layouts.{row_of, row_length, IsFixed}
use Rattle.value_store.specs.Slots.{value_at}
use Rattle.value_store.proofs.store.Store.append_part.Goals as goal

pub append_node-requires : goal.append_node-requires
append_node-requires c =
    let q = c.requires.part in
    let found : Some (value_at q.names c.args.self.now.slots c.in-Some.node) ≡ Some q.value =
    c.in-Some.ensures.part q.names ∙ q.is in
    let is : value_at q.names c.args.self.now.slots c.in-Some.node ≡ q.value = cc in
    record {
      there = c.in-Some.ensures.below;
      names = q.names;
      fixed = subst IsFixed (sym is) q.fixed;
      few = omega (arith, q.few, ap row_length is, ap length c.requires.empty);
    }

pub returns-in-Some : goal.returns-in-Some
returns-in-Some c = λ names value is.
    let found : Some (value_at names c.args.self.now.slots c.in-Some.node) ≡ Some value =
    c.in-Some.ensures.part names ∙ is in
    let same : value_at names c.args.self.now.slots c.in-Some.node ≡ value = cc in
    c.append_node.ensures names
    ∙ ap (λ bs. bs ++ row_of (value_at names c.args.self.now.slots c.in-Some.node)) c.requires.empty ∙ ap row_of same

pub returns-in-None : goal.returns-in-None
returns-in-None c = λ names value is.
    let found : None ≡ Some value = c.in-None.ensures.part names ∙ is in absurd (cc)
