use Rattle.std.proofs.Common.{◌≡◌, ℕ, List, [], ◌∷◌, ◌++◌, Some, None, map, ap, ◌∙◌}
use denote.Bor.{Bor}
use Rattle.indexmap.specs.IndexMap.{values}
use Rattle.pickle_types.specs.declared.names.Named.{Named}
use Rattle.pickle_types.specs.Built.{types_in, declared_as}
use Rattle.pickle_types.specs.Numbers.{number_in}
use Rattle.pickle_types.proofs.Named.{type_more, values_more}
use Rattle.pickle_types.proofs.names.Names.insert.Goals as goal

pub invariant_of-self-2 : goal.invariant_of-self-2
invariant_of-self-2 c =
    let types = c.self.inside.types in
    let words = map (λ (w : Bor (List ℕ)). w.now) c.self.inside.words.items in
    let word = c.args.word.now in
    let number = c.in_ok-number.number in
    let is : number_in words word ≡ Some number = rw (← c.self.view_is) at c.in_ok-number.ensures.numbered in
    let none : declared_as word (values types) ≡ None =
    rw (← c.self.view_is) at (ap (declared_as word) c.in_ok-number.ensures.types ∙ c.requires.new) in
    let d : Named = record { word = c.in_ok-name.name; declared = c.args.declared } in
    let all = values_more words c.self.inside.numbers types c.self.invariant word number is none c.insert.new.self d
    c.in_ok-insert.ensures.entries in
    type_more words c.self.inside.numbers types c.self.invariant word number is none c.insert.new.self d
    c.in_ok-name.ensures.items all c.in_ok-insert.ensures.updates.0

pub returns-clause-ok : goal.returns-clause-ok
returns-clause-ok c =
    let types = c.self.inside.types in
    let words = map (λ (w : Bor (List ℕ)). w.now) c.self.inside.words.items in
    let word = c.args.word.now in
    let number = c.in_ok-number.number in
    let is : number_in words word ≡ Some number = rw (← c.self.view_is) at c.in_ok-number.ensures.numbered in
    let same : values types ≡ types_in c.args.self.now = rw (← c.self.view_is) at c.in_ok-number.ensures.types in
    let none : declared_as word (values types) ≡ None = ap (declared_as word) same ∙ c.requires.new in
    let d : Named = record { word = c.in_ok-name.name; declared = c.args.declared } in
    let all = values_more words c.self.inside.numbers types c.self.invariant word number is none c.insert.new.self d
    c.in_ok-insert.ensures.entries in
    record { name = c.in_ok-name.name; bytes = c.in_ok-name.ensures.items; names = all ∙ ap (λ ds. ds ++ d ∷ []) same }
