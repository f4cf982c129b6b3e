use Rattle.poke_batch.proofs.each.Kept.new.Goals as goal

-- src/each.rt
pub returns : goal.returns
returns c = λ nodes. record { store = c.in_ok-store_of.ensures; found = c.new.ensures nodes }
