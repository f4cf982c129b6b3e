use Rattle.std.proofs.Common.{◌∙◌, ap}
use Rattle.jobs.specs.Reasons.{said}
use Rattle.jobs.specs.Spaces.{is_within}
use Rattle.jobs.proofs.FileReasons.{same_cause}
use Rattle.jobs.proofs.one_file.say_found.Goals as goal

pub returns : goal.returns
returns c = record {
  own = c.made.result;
  met = c.args.found.met.items;
  says = said (ap (λ text. text.items) c.made.ensures.0) c.made.ensures.1;
  unshown = c.requires.met;
  adds = same_cause _ _ _ _ _
      (c.is_within-shown.ensures ∙ ap (is_within c.args.terms.now.most_output) c.as_slice.ensures.value)
      c.add_hint.ensures;
}
