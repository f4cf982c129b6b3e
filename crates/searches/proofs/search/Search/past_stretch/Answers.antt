-- `past_stretch`: the starts that are passed over are in the file, and were paid.
use Rattle.std.proofs.Common.{◌-◌, arith}
use Rattle.first_numbers.proofs.Screened.{below_ceil}
use Rattle.searches.proofs.search.Search.past_stretch.Goals as goal

pub returns : goal.returns
returns c = record {
  count = c.most_paid-passed.result;
  few = omega (arith, c.most_paid-passed.ensures.few, c.min-count.ensures);
  paid = c.most_paid-passed.ensures.paid;
  inside = λ k lt.
      let below = below_ceil (c.args.bits - c.args.at.place) c.args.self.now.step k c.requires.step
      (omega (arith, lt, c.most_paid-passed.ensures.few, c.min-count.ensures, c.div_ceil-places.ensures)) in
      omega (arith, below, c.requires.inside);
  is = c.after_starts.ensures;
}
