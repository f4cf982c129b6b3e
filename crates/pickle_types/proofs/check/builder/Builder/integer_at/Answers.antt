use Rattle.std.proofs.Common.{[], sym, refl, ◌∙◌, arith}
use Rattle.std.proofs.lemmas.List.{append-nil}
use Rattle.pickle_types.specs.Built.{words_in}
use Rattle.pickle_types.proofs.Numbered.{extends_none}
use Rattle.pickle_types.specs.Types.{depth, IntegerOf}
use Rattle.pickle_types.proofs.BuiltNodes.{written_last}
use Rattle.pickle_types.proofs.check.builder.Builder.integer_at.Goals as goal

pub push-requires-clause-depth : goal.push-requires-clause-depth
unfolding depth
push-requires-clause-depth c = refl

pub returns-in-Some-clause-builds : goal.returns-in-Some-clause-builds
unfolding depth
returns-in-Some-clause-builds c = (
  IntegerOf c.in_ok-t.t,
  rw (sym c.in_ok-t.ensures.is) refl,
  record {
    keeps = record {
      grows = record { more = []; is = sym (append-nil c.args.self.now.nodes) };
      known = refl;
      types = refl;
      numbers = extends_none (words_in c.args.self.now.names);
    };
    seen = refl;
    inside = c.in-Some.ensures.is.0;
    type = c.in-Some.ensures.is.1;
    deep = refl;
  },
)

pub returns-in-Some-clause-node : goal.returns-in-Some-clause-node
returns-in-Some-clause-node c = record {
  inside = c.in-Some.ensures.is.0;
  first = λ j lt few same.
      let inside = c.in-Some.ensures.is.0 in
      c.in-Some.ensures.first j (omega arith) (omega arith) lt (same ∙ c.in-Some.ensures.is.1);
}

pub returns-clause-node : goal.returns-clause-node
returns-clause-node c =
    written_last c.args.self.now _ c.in_ok-t.t c.push.result c.push.ensures.builds c.push.ensures.node
    (λ j few inside. c.in_default.ensures.first j few inside tt)
