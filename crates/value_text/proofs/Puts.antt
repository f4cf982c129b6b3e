-- Laws of what a printer did with a text.
use Rattle.std.proofs.Common.{◌≡◌, ℕ, Bool, true, false, List, [], ◌++◌, Option, Result, Ok, Err, OnOk, OnErr, sym, ◌∙◌, ap, subst, refl}
use Rattle.std.specs.Result.{is_err}
use Rattle.std.specs.Io.KnownBytes.{Appends}
use Rattle.std.proofs.KnownBytes.{Appends-trans, Appends-nil}
use Rattle.std.proofs.lemmas.List.{append_assoc, append-nil}
use Rattle.text_output.specs.Written.{AppendsPart}
use Rattle.text_output.proofs.Parts.{part_first, part_next}
use Rattle.value_text.specs.declared.print.printer.Printer.{Printer}
use Rattle.value_text.specs.Puts.{AppendsBut, Stands, HasPut, Puts, Ends}

-- a text that fits
stands_more : (failed : Bool) (start now : Option (List ℕ)) (line before text : List ℕ) →
    Stands failed start now line before → Stands failed start now (line ++ text) (before ++ text)
stands_more false start now line before text h = record {
  taken = h.taken;
  appends = h.appends;
  whole = sym (append_assoc h.taken line text) ∙ ap (λ s. s ++ text) h.whole;
}
stands_more true start now line before text h = part_first start now before text h

-- a line and a text that are written
stands_written : {A E : Type 0} (result : Result A E) (start old new : Option (List ℕ)) (line before text : List ℕ)
    → OnOk result (Appends old new (line ++ text)) → OnErr result (AppendsPart old new (line ++ text))
    → AppendsBut start old line before → Stands (is_err result) start new [] (before ++ text)
stands_written (Ok _) start old new line before text ok err h = record {
  taken = before ++ text;
  appends = subst (Appends start new) (sym (append_assoc h.taken line text) ∙ ap (λ s. s ++ text) h.whole)
      (Appends-trans start old new h.taken (line ++ text) h.appends ok);
  whole = append-nil (before ++ text);
}
stands_written (Err _) start old new line before text ok err h =
    subst (AppendsPart start new) (sym (append_assoc h.taken line text) ∙ ap (λ s. s ++ text) h.whole)
    (part_next start old new h.taken (line ++ text) h.appends err)

module _ {W : Type 0} {contents : W → Option (List ℕ)} where
  pub puts_none : {a : Printer W} → Puts contents a a []
  puts_none {a} =
      record { lent = refl; behind = λ start before h. subst (HasPut contents start a) (sym (append-nil before)) h }

  -- a text that fits into the line
  pub puts_more : {a b c : Printer W} {x : List ℕ} → Puts contents a b [] → c.writer ≡ b.writer → c.failed ≡ b.failed →
      c.line ≡ b.line ++ x → Puts contents a c x
  puts_more {a} {b} {c} {x} h w failed line = record {
    lent = ap (λ r. r.ghost_name) w ∙ h.lent;
    behind = λ start before s. rw (w, failed, line)
        (subst (λ t. Stands b.failed start (contents b.writer.now) (b.line ++ x) (t ++ x)) (append-nil before)
        (stands_more b.failed start (contents b.writer.now) b.line (before ++ []) x (h.behind start before s)));
  }

  -- the line is written, and a text after it
  pub puts_written : {A E : Type 0} {a b : Printer W} (result : Result A E) {x : List ℕ} → a.failed ≡ false
      → b.failed ≡ is_err result → b.line ≡ [] → b.writer.ghost_name ≡ a.writer.ghost_name
      → OnOk result (Appends (contents a.writer.now) (contents b.writer.now) (a.line ++ x))
      → OnErr result (AppendsPart (contents a.writer.now) (contents b.writer.now) (a.line ++ x)) → Puts contents a b x
  puts_written {A} {E} {a} {b} result {x} going failed line lent ok err = record {
    lent = lent;
    behind = λ start before s. rw (failed, line) (stands_written result start (contents a.writer.now)
        (contents b.writer.now) a.line before x ok err (rw going at s));
  }

  -- a printer that has failed writes no more
  pub puts_nothing : {a b : Printer W} {x : List ℕ} → a.failed ≡ true → b.failed ≡ true →
      b.writer ≡ a.writer → Puts contents a b x
  puts_nothing {a} {b} {x} was is w = record {
    lent = ap (λ r. r.ghost_name) w;
    behind = λ start before s. rw (is, w) (part_first start (contents a.writer.now) before x (rw was at s));
  }

  pub puts_next : {a b c : Printer W} {x y : List ℕ} → Puts contents a b x → Puts contents b c y →
      Puts contents a c (x ++ y)
  puts_next {a} {b} {c} {x} {y} h g = record {
    lent = g.lent ∙ h.lent;
    behind = λ start before s. subst (HasPut contents start c) (append_assoc before x y)
        (g.behind start (before ++ x) (h.behind start before s));
  }

-- a text is put but for a remainder
pub record Told {W : Type 0} (contents : W → Option (List ℕ)) (old new : Printer W) (rest text : List ℕ) : Type 0 where
  pub told : List ℕ
  pub puts : Puts contents old new told
  pub whole : told ++ rest ≡ text

module _ {W : Type 0} {contents : W → Option (List ℕ)} where
  pub told_none : {a : Printer W} {text : List ℕ} → Told contents a a text text
  told_none = record { told = []; puts = puts_none; whole = refl }

  pub told_next : {a b c : Printer W} {rest x left text : List ℕ} → rest ≡ x ++ left → Told contents a b rest text →
      Puts contents b c x → Told contents a c left text
  told_next {a} {b} {c} {rest} {x} {left} {text} e h g = record {
    told = h.told ++ x;
    puts = puts_next h.puts g;
    whole = append_assoc h.told x left ∙ ap (λ s. h.told ++ s) (sym e) ∙ h.whole;
  }

  -- the same remainder
  pub told_same : {a b : Printer W} {rest left text : List ℕ} → rest ≡ left → Told contents a b rest text →
      Told contents a b left text
  told_same {a} {b} {rest} {left} {text} e h = subst (λ s. Told contents a b s text) e h

  pub told_last : {a b c : Printer W} {rest text : List ℕ} → Told contents a b rest text → Puts contents b c rest →
      Puts contents a c text
  told_last {a} {b} {c} {rest} {text} h g = subst (Puts contents a c) h.whole (puts_next h.puts g)

  pub told_all : {a b : Printer W} {rest text : List ℕ} → rest ≡ [] → Told contents a b rest text →
      Puts contents a b text
  told_all {a} {b} {rest} {text} e h =
      subst (Puts contents a b) (sym (append-nil h.told) ∙ ap (λ s. h.told ++ s) (sym e) ∙ h.whole) h.puts

  -- a printer that has failed writes no remainder
  pub told_failed : {a b : Printer W} {rest text : List ℕ} → b.failed ≡ true → Told contents a b rest text →
      Puts contents a b text
  told_failed {a} {b} {rest} {text} is h = told_last h (puts_nothing is is refl)

-- a printer that was just made
begun : {W : Type 0} (contents : W → Option (List ℕ)) (a : Printer W) → a.failed ≡ false → a.line ≡ [] →
    HasPut contents (contents a.writer.now) a []
begun contents a going line =
    rw (going, line) (record { taken = []; appends = Appends-nil (contents a.writer.now); whole = refl })

-- all that was put, about the writer when its borrow ends
pub printed_all : {W A E : Type 0} (contents : W → Option (List ℕ)) (a b c : Printer W) (result : Result A E)
    (text : List ℕ) (back : W) → a.failed ≡ false → a.line ≡ []
    → Puts contents a b text → Ends contents b c result → c.writer.now ≡ back
    → OnOk result (Appends (contents a.writer.now) (contents back) text)
printed_all contents a b c result text back going line h e given =
    subst (λ w. OnOk result (Appends (contents a.writer.now) (contents w) text)) given
    (e.ok (contents a.writer.now) text (h.behind (contents a.writer.now) [] (begun contents a going line)))

pub printed_part : {W A E : Type 0} (contents : W → Option (List ℕ)) (a b c : Printer W) (result : Result A E)
    (text : List ℕ) (back : W) → a.failed ≡ false → a.line ≡ []
    → Puts contents a b text → Ends contents b c result → c.writer.now ≡ back
    → OnErr result (AppendsPart (contents a.writer.now) (contents back) text)
printed_part contents a b c result text back going line h e given =
    subst (λ w. OnErr result (AppendsPart (contents a.writer.now) (contents w) text)) given
    (e.err (contents a.writer.now) text (h.behind (contents a.writer.now) [] (begun contents a going line)))

pub ruleset puts = (puts_none, puts_next, puts_more)
