use Rattle.std.proofs.Common.{◌≡◌, Some, ◌∙◌}
use Rattle.std.proofs.lemmas.Result.{err_from_is_err_and}
use Rattle.std.specs.Prelude.{slice_get}
use Rattle.bit_space.specs.Bits.{bits_of}
use Rattle.bit_space.proofs.Failures.{keeps_all}
use Rattle.identification.proofs.Tries.{at_place, all_tried, none_before, same_view, stops_later}
use Rattle.identification.proofs.fits.all_fits.Goals as goal

pub loop-place-init : goal.loop-place-init
loop-place-init g c = record {
  keeps = same_view _;
  so_far = λ bytes known. none_before c.args.formats.now c.args.start (bits_of bytes) c.new-fits.result.items
      c.new-fits.ensures.items;
}

pub loop-place-preserved : goal.loop-place-preserved
loop-place-preserved g c =
    let there : slice_get c.args.formats.now c.loop-place.place ≡ Some c.index-formats-place.result =
    at_place c.args.formats.now c.loop-place.place c.index-formats-place.result c.loop-place-test.true
    c.index-formats-place.is in
    record {
      keeps = keeps_all c.loop-place.invariant.keeps c.try_format.ensures.keeps;
      so_far = λ bytes known. c.in_ok-try_format.ensures.ok c.args.formats.now bytes
          (c.loop-place.invariant.keeps.bytes ∙ known) there (c.loop-place.invariant.so_far bytes known);
    }

pub returns-in_err-try_format-clause-err : goal.returns-in_err-try_format-clause-err
returns-in_err-try_format-clause-err g c =
    let p = err_from_is_err_and c.from_residual.result c.from_residual.ensures.1 in
    let there : slice_get c.args.formats.now c.loop-place.place ≡ Some c.index-formats-place.result =
    at_place c.args.formats.now c.loop-place.place c.index-formats-place.result c.loop-place-test.true
    c.index-formats-place.is in
    rw (p.1, p.2) (stops_later c.args.formats.now _ _ _ _ c.loop-place.invariant.keeps c.try_format.ensures.keeps
    (c.in_err-try_format.ensures.err c.args.formats.now there))

pub returns-in_err-try_format-clause-keeps : goal.returns-in_err-try_format-clause-keeps
returns-in_err-try_format-clause-keeps g c = keeps_all c.loop-place.invariant.keeps c.try_format.ensures.keeps

pub returns-clause-ok : goal.returns-clause-ok
returns-clause-ok g c bytes known =
    all_tried c.args.formats.now c.args.start (bits_of bytes) c.loop-place.place c.loop-place.fits.items
    c.loop-place-test.false (c.loop-place.invariant.so_far bytes known)
