use Rattle.std.proofs.Common.{◌≡◌, ◌∙◌, [], ◌∷◌, ◌++◌, ◌+◌, None, string_bytes, take, drop, take-append-drop, refl, sym, ap, subst, arith}
use Rattle.std.proofs.KnownBytes.{Keeps-refl}
use Rattle.std.proofs.lemmas.List.{take_all, take_more}
use Rattle.std.proofs.lemmas.Result.{err_from_is_err_and}
use Rattle.jobs.specs.Asides.{Tells, TellsEach, TellsWord, no_file_told, one_file_told}
use Rattle.jobs.specs.Every.{every_of}
use Rattle.jobs.specs.Lines.{StopsWords, WritesWords, first_words, word_line}
use Rattle.jobs.proofs.EachWritten.{all_hold, cut_hold, none_written, one_written}
use Rattle.jobs.proofs.many_files.run_words.Goals as goal

pub loop-word-init : goal.loop-word-init
loop-word-init g c = record {
  ready = c.store_for-kept.ensures;
  written = none_written (word_line (g.P.Opener.gives c.args.opener.now) (every_of c.args.task)) _ _ refl;
  told = no_file_told (Keeps-refl _);
}

pub loop-word-preserved : goal.loop-word-preserved
loop-word-preserved g c =
    let gives = g.P.Opener.gives c.args.opener.now in
    let every = every_of c.args.task in
    let one_more : take c.loop-word.word-index c.args.words.now ++ c.word-item.result ∷ []
    ≡ take (c.loop-word.word-index + 1) c.args.words.now =
    ap (λ word. take c.loop-word.word-index c.args.words.now ++ word ∷ []) c.word-item.is
    ∙ sym (take_more c.args.words.now c.loop-word.word-index c.word-item.result (omega arith)) in
    let told : Tells (TellsWord gives every (string_bytes c.word-item.result)) (g.A.Aside.told c.loop-word.aside)
    (g.A.Aside.told c.run_word.new.aside) =
    rw (sym c.deref.ensures) c.run_word.ensures.told in
    record {
      ready = c.run_word.ensures.ready;
      written = rw c.greater-greatest.ensures
          (one_written (word_line gives every) _ _ c.word-item.result _ _ _ c.loop-word.greatest
          c.in_ok-status.status
          (λ first are. ap (λ words. words ++ c.word-item.result ∷ []) are ∙ one_more)
          c.loop-word.invariant.written
          (rw (sym c.deref.ensures) c.in_ok-status.ensures.ok));
      told = subst
          (λ first.
          TellsEach (λ word. TellsWord gives every (string_bytes word)) (g.A.Aside.told c.args.aside.now) first
          (g.A.Aside.told c.run_word.new.aside)) one_more
          (one_file_told {file = c.word-item.result} c.loop-word.invariant.told told);
    }

pub returns-in_err-status-clause-holds : goal.returns-in_err-status-clause-holds
returns-in_err-status-clause-holds g c =
    let gives = g.P.Opener.gives c.args.opener.now in
    let every = every_of c.args.task in
    let index = c.loop-word.word-index in
    let words = c.args.words.now in
    let one_more : take index words ++ c.word-item.result ∷ [] ≡ take (index + 1) words =
    ap (λ word. take index words ++ word ∷ []) c.word-item.is
    ∙ sym (take_more words index c.word-item.result (omega arith)) in
    let p = err_from_is_err_and c.from_residual.result c.from_residual.ensures.1 in
    rw p.1
    (cut_hold (word_line gives every) (λ first. first ≡ take index words) (WritesWords gives every words)
    (StopsWords gives every words) _ c.loop-word.greatest c.word-item.result
    (g.O.Write.contents c.loop-word.out) _ None
    (λ first lines last are written. first_words (drop (index + 1) words)
    (ap (λ front. front ++ drop (index + 1) words)
    (ap (λ before. before ++ c.word-item.result ∷ []) are ∙ one_more)
    ∙ take-append-drop (index + 1) words) written)
    c.loop-word.invariant.written (rw (sym c.deref.ensures) c.in_err-status.ensures.err))

pub returns-clause-holds : goal.returns-clause-holds
returns-clause-holds g c =
    let gives = g.P.Opener.gives c.args.opener.now in
    let every = every_of c.args.task in
    let words = c.args.words.now in
    let all : take c.loop-word.word-index words ≡ words = take_all c.loop-word.word-index words (omega arith) in
    all_hold (word_line gives every) (λ first. first ≡ take c.loop-word.word-index words)
    (WritesWords gives every words) (StopsWords gives every words) _ c.loop-word.greatest _
    (λ first lines are written. subst (λ files. WritesWords gives every files c.loop-word.greatest lines)
    (are ∙ all) written)
    c.loop-word.invariant.written

pub returns-in_err-status-clause-told : goal.returns-in_err-status-clause-told
returns-in_err-status-clause-told g c =
    let gives = g.P.Opener.gives c.args.opener.now in
    let every = every_of c.args.task in
    let index = c.loop-word.word-index in
    let words = c.args.words.now in
    let one_more : take index words ++ c.word-item.result ∷ [] ≡ take (index + 1) words =
    ap (λ word. take index words ++ word ∷ []) c.word-item.is
    ∙ sym (take_more words index c.word-item.result (omega arith)) in
    let told : Tells (TellsWord gives every (string_bytes c.word-item.result)) (g.A.Aside.told c.loop-word.aside)
    (g.A.Aside.told c.run_word.new.aside) =
    rw (sym c.deref.ensures) c.run_word.ensures.told in
    record {
      first = take (index + 1) words;
      rest = drop (index + 1) words;
      are = take-append-drop (index + 1) words;
      tells = subst
          (λ first.
          TellsEach (λ word. TellsWord gives every (string_bytes word)) (g.A.Aside.told c.args.aside.now) first
          (g.A.Aside.told c.run_word.new.aside)) one_more
          (one_file_told {file = c.word-item.result} c.loop-word.invariant.told told);
    }

pub returns-clause-told : goal.returns-clause-told
returns-clause-told g c = record {
  first = take c.loop-word.word-index c.args.words.now;
  rest = drop c.loop-word.word-index c.args.words.now;
  are = take-append-drop c.loop-word.word-index c.args.words.now;
  tells = c.loop-word.invariant.told;
}
