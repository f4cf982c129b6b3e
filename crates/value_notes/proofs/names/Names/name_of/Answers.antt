use Rattle.std.proofs.Common.{◌≡◌, ◌+◌, ◌-◌, arith, map, FitsSigned}
use Rattle.std.specs.Int.{w128}
use Rattle.std.proofs.lemmas.Int.{to_z-of_z}
use Rattle.value_notes.specs.Entries.{entry}
use Rattle.value_notes.proofs.Stairs.{found_name}
use Rattle.value_notes.proofs.names.Names.name_of.Goals as goal

pub returns : goal.returns
returns c =
    let fits : FitsSigned w128 c.args.number = c.ranges.number in
    let next : c.place_after-place.result ≡ c.place_after-place.result - 1 + 1 = omega arith in
    found_name c.deref.result.now c.args.self.now.steps.items (map entry c.args.self.now.named.items) c.args.number
    c.place_after-place.result (c.place_after-place.result - 1) c.index.result.now c.args.self.now.same fits
    c.deref.ensures.value next c.place_after-place.ensures.within c.index.ensures
    (simp to_z-of_z at c.place_after-place.ensures.before) (simp to_z-of_z at c.place_after-place.ensures.after)
