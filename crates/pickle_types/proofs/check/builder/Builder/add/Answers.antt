use Rattle.std.proofs.Common.{refl}
use Rattle.pickle_types.specs.declared.names.Declared.{Declared}
use Rattle.pickle_types.specs.Built.{types_in}
use Rattle.pickle_types.proofs.Looks.{absent}
use Rattle.pickle_types.proofs.Declarations.{added_known, named_since}
use Rattle.pickle_types.proofs.check.builder.Builder.add.Goals as goal

pub insert-requires : goal.insert-requires
insert-requires c =
    record { new = absent c.args.word.now c.args.self.now.nodes (types_in c.args.self.now.names) c.requires.new }

pub returns-clause-known : goal.returns-clause-known
returns-clause-known c =
    let d : Declared = record { node = c.args.found.node; depth = c.args.found.depth } in
    added_known c.args.self.now.nodes (types_in c.args.self.now.names) (types_in c.insert.new.self) c.args.word.now d
    c.in_ok-insert.ensures.ok

pub invariant_of-self-clause-named : goal.invariant_of-self-clause-named
invariant_of-self-clause-named c =
    let b = c.args.self.now in
    let d : Declared = record { node = c.args.found.node; depth = c.args.found.depth } in
    named_since b.nodes (types_in b.names) (types_in c.insert.new.self) c.args.word.now d c.insert.result
    c.insert.ensures.ok c.insert.ensures.same b.named (record { inside = c.requires.inside; deep = c.requires.deep })

pub returns-clause-named : goal.returns-clause-named
returns-clause-named c =
    let d : Declared = record { node = c.args.found.node; depth = c.args.found.depth } in
    (d, refl, c.in_ok-insert.ensures.ok)
