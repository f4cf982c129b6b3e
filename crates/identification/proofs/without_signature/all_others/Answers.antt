use Rattle.std.proofs.Common.{◌≡◌, Some, ◌∙◌}
use Rattle.std.proofs.lemmas.Result.{err_from_is_err_and}
use Rattle.std.specs.Prelude.{slice_get}
use Rattle.bit_space.specs.Bits.{bits_of}
use Rattle.bit_space.proofs.Failures.{keeps_all}
use Rattle.identification.proofs.Bare.{all_others, breaks_later, no_others}
use Rattle.identification.proofs.Tries.{at_place, same_view}
use Rattle.identification.proofs.without_signature.all_others.Goals as goal

pub loop-place-init : goal.loop-place-init
loop-place-init g c = record {
  keeps = same_view _;
  so_far = λ bytes known. no_others c.args.formats.now c.args.start (bits_of bytes) _ c.new-fits.ensures.items
      c.new-unfinished.ensures.items;
}

pub loop-place-preserved : goal.loop-place-preserved
loop-place-preserved g c =
    let there : slice_get c.args.formats.now c.loop-place.place ≡ Some c.index-formats-place.result =
    at_place c.args.formats.now c.loop-place.place c.index-formats-place.result c.loop-place-test.true
    c.index-formats-place.is in
    record {
      keeps = keeps_all c.loop-place.invariant.keeps c.try_bare.ensures.keeps;
      so_far = λ bytes known. c.in_ok-try_bare.ensures.ok c.args.formats.now bytes
          (c.loop-place.invariant.keeps.bytes ∙ known) there (c.loop-place.invariant.so_far bytes known);
    }

pub returns-in_err-try_bare-clause-err : goal.returns-in_err-try_bare-clause-err
returns-in_err-try_bare-clause-err g c =
    let p = err_from_is_err_and c.from_residual.result c.from_residual.ensures.1 in
    rw (p.1, p.2) (breaks_later _ _ _ _ c.loop-place.invariant.keeps c.try_bare.ensures.keeps
    c.in_err-try_bare.ensures.err)

pub returns-in_err-try_bare-clause-keeps : goal.returns-in_err-try_bare-clause-keeps
returns-in_err-try_bare-clause-keeps g c = keeps_all c.loop-place.invariant.keeps c.try_bare.ensures.keeps

pub returns-clause-ok : goal.returns-clause-ok
returns-clause-ok g c bytes known =
    all_others c.args.formats.now c.args.start (bits_of bytes) c.loop-place.place _ c.loop-place-test.false
    (c.loop-place.invariant.so_far bytes known)
