use Rattle.run_parts.proofs.accept.accept.Goals as goal

pub returns : goal.returns
returns c = record {
  ok = tt;
  err = c.ill_typed.ensures c.args.pickle.now _ c.in_ok-tree.ensures.ok c.in-Err.ensures.wrong c.in-Err.ensures.kind
      c.in-Err.ensures.place;
}
