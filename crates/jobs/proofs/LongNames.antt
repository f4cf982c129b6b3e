-- The line of a long name, which is written in parts.
use Rattle.std.proofs.Common.{◌≡◌, ◌≢◌, ◌∙◌, ℕ, List, [], ◌∷◌, ◌++◌, All, Option, false, append_assoc, codes, refl, sym, ap, subst}
use Rattle.std.proofs.KnownBytes.{Appends-nil, Appends-trans, Consumes-nil, Consumes-trans}
use Rattle.std.proofs.lemmas.List.{append-nil}
use Rattle.std.proofs.lemmas.List.Elements.{All-nil, All-push}
use Rattle.std.specs.Io.KnownBytes.{Appends, Consumes, IsAtEnd, Keeps}
use Rattle.jobs.specs.Every.{run_text}
use Rattle.jobs.specs.Files.{AppendsRun, CutsRun, EndsBy, Every, WritesRun}
use Rattle.jobs.specs.LongNames.{CopiesRest, CutsLong, CutsRest, before_name, end_of_name, name_part}
use Rattle.jobs.specs.Names.{BeginsName}
use Rattle.jobs.specs.declared.file_run.FileForm.{FileForm}
use Rattle.jobs.specs.declared.file_run.FileForm.TheVariants.{Line, Object}
use Rattle.jobs.specs.declared.long_name.Rest.TheVariants.{Ended, Unread}
use Rattle.jobs.proofs.FilesWritten.{text_formed}
use Rattle.jobs.proofs.Holding.{upto_next, upto_part, upto_whole}
use Rattle.jobs.proofs.NamesRead.{begins_name, begins_nothing, has_rest, rest_at_end, rest_ended}
use Rattle.poke_batch.specs.FileLine.{after_name, name_byte, shown_name}
use Rattle.poke_batch.specs.FileObject.{later_members}
use Rattle.run_parts.specs.Told.{AppendsUpTo}
use Rattle.run_parts.specs.declared.outcome.Failure.{Failure}
use Rattle.run_parts.specs.declared.outcome.Failure.TheVariants as failure
use Rattle.run_parts.specs.declared.outcome.Outcome.TheVariants.{Failed}
use Rattle.run_parts.specs.declared.status.Status.TheVariants.{Outside}
use Rattle.text_output.proofs.Parts.{Appends-keeps}
use Rattle.text_output.specs.Written.{AppendsPart}
use Rattle.value_text.proofs.StringTexts.{bytes_append}
use Rattle.value_text.specs.JsonText.{json_escape, json_string}
use Rattle.value_text.specs.ValueText.{spelled}

shown_append : (xs ys : List ℕ) → shown_name (xs ++ ys) ≡ shown_name xs ++ shown_name ys
shown_append [] ys = refl
shown_append (x ∷ xs) ys = ap (λ rest. name_byte x ++ rest) (shown_append xs ys)
    ∙ sym (append_assoc (name_byte x) (shown_name xs) (shown_name ys))

pub part_append : (form : FileForm) (xs ys : List ℕ) →
    name_part form (xs ++ ys) ≡ name_part form xs ++ name_part form ys
part_append (Line faults) xs ys = shown_append xs ys
part_append Object xs ys =
    ap (spelled json_escape) (shown_append xs ys) ∙ bytes_append json_escape (shown_name xs) (shown_name ys)

joined : (x y z : List ℕ) → (x ++ y) ++ z ≡ x ++ (y ++ z)
joined x y z = append_assoc x y z

spelled_name : (name later : List ℕ)
    → codes "{\"name\":" ++ (json_string name ++ later)
    ≡ codes "{\"name\":\"" ++ ((spelled json_escape name ++ codes "\"") ++ later)
unfolding json_string
spelled_name name later = refl

-- the line is its start, the rest of its name and its end
pub long_text : (form : FileForm) (start more lines : List ℕ) (why : Failure)
    → run_text form (start ++ more) (Failed why) [] lines
    ≡ (before_name form ++ name_part form start) ++ (name_part form more ++ end_of_name form (Failed why) lines)
long_text (Line faults) start more lines why =
    ap (λ name. name ++ after_name faults (Failed why) []) (shown_append start more)
    ∙ joined (shown_name start) (shown_name more) (after_name faults (Failed why) [])
long_text Object start more lines why =
    let later = later_members (Failed why) [] lines in
    let a = spelled json_escape (shown_name start) in
    let b = spelled json_escape (shown_name more) in
    let e : (spelled json_escape (shown_name (start ++ more)) ++ codes "\"") ++ later
    ≡ a ++ (b ++ (codes "\"" ++ later)) =
    ap (λ name. (name ++ codes "\"") ++ later) (part_append Object start more)
    ∙ joined (a ++ b) (codes "\"") later ∙ joined a b (codes "\"" ++ later) in
    spelled_name (shown_name (start ++ more)) later ∙ ap (λ name. codes "{\"name\":\"" ++ name) e

-- a run that a failure ended has this line
pub fails_writing : (every : Every) (name lines : List ℕ) (why : Failure) → (every.why ≡ false → lines ≡ [])
    → WritesRun (EndsBy why) every name Outside (run_text every.form name (Failed why) [] lines)
fails_writing every name lines why quiet = record {
  ended = Failed why;
  text = [];
  run = record { ended_is = refl; text_is = refl };
  status_is = refl;
  formed = text_formed every.form every.why name (Failed why) [] lines quiet;
}

-- a text of which the first bytes are written is longer
pub upto_longer : (a b : Option (List ℕ)) (x y : List ℕ) → AppendsUpTo a b x → AppendsUpTo a b (x ++ y)
upto_longer a b x y h = record {
  taken = h.taken;
  rest = h.rest ++ y;
  appends = h.appends;
  whole = sym (append_assoc h.taken h.rest y) ∙ ap (λ text. text ++ y) h.whole;
}

module _ (every : Every) (start : List ℕ) where
  -- the line of a long name, once all of it is written
  pub long_written : (more lines : List ℕ) (why : Failure) (a b c d e : Option (List ℕ))
      → (every.why ≡ false → lines ≡ []) → Appends a b (before_name every.form ++ name_part every.form start)
      → Appends b c (name_part every.form more) → Appends c d (end_of_name every.form (Failed why) lines)
      → Keeps d e → AppendsRun (EndsBy why) every (start ++ more) a e Outside
  long_written more lines why a b c d e quiet first rest end keeps = record {
    line = run_text every.form (start ++ more) (Failed why) [] lines;
    written = fails_writing every (start ++ more) lines why quiet;
    appends = Appends-keeps a d e _ (subst (Appends a d) (sym (long_text every.form start more lines why))
        (Appends-trans a b d _ _ first (Appends-trans b c d _ _ rest end))) keeps;
  }

  -- the output failed after it, at its end, in its name, or at its start
  pub long_unflushed : (more lines : List ℕ) (why : Failure) (a b c d e : Option (List ℕ))
      → (every.why ≡ false → lines ≡ []) → Appends a b (before_name every.form ++ name_part every.form start)
      → Appends b c (name_part every.form more) → Appends c d (end_of_name every.form (Failed why) lines)
      → Keeps d e → CutsRun (EndsBy why) every (start ++ more) a e
  long_unflushed more lines why a b c d e quiet first rest end keeps =
      let h = long_written more lines why a b c d e quiet first rest end keeps in
      record { status = Outside; line = h.line; written = h.written; appends = upto_whole a e h.line h.appends }

  pub end_cut : (more lines : List ℕ) (why : Failure) (a b c d : Option (List ℕ))
      → (every.why ≡ false → lines ≡ []) → Appends a b (before_name every.form ++ name_part every.form start)
      → Appends b c (name_part every.form more) → AppendsPart c d (end_of_name every.form (Failed why) lines)
      → CutsRun (EndsBy why) every (start ++ more) a d
  end_cut more lines why a b c d quiet first rest end = record {
    status = Outside;
    line = run_text every.form (start ++ more) (Failed why) [] lines;
    written = fails_writing every (start ++ more) lines why quiet;
    appends = subst (AppendsUpTo a d) (sym (long_text every.form start more lines why))
        (upto_next a b d _ _ first (upto_next b c d _ _ rest (upto_part c d _ end)));
  }

  -- the name from its start on, if all of it or a part is written
  name_upto : (more : List ℕ) (a d : Option (List ℕ)) → AppendsUpTo a d
      ((before_name every.form ++ name_part every.form start)
      ++ (name_part every.form more ++ end_of_name every.form (Failed failure.Open) []))
      → CutsRun (EndsBy failure.Open) every (start ++ more) a d
  name_upto more a d upto = record {
    status = Outside;
    line = run_text every.form (start ++ more) (Failed failure.Open) [] [];
    written = fails_writing every (start ++ more) [] failure.Open (λ e. refl);
    appends = subst (AppendsUpTo a d) (sym (long_text every.form start more [] failure.Open)) upto;
  }

  pub rest_cut : (list : Option (List ℕ)) (part : List ℕ) (a b c : Option (List ℕ)) → BeginsName list part
      → Appends a b (before_name every.form ++ name_part every.form start)
      → AppendsUpTo b c (name_part every.form part) → CutsLong every start list a c
  rest_cut list part a b c begins first rest =
      let has = has_rest list part begins in
      let end = end_of_name every.form (Failed failure.Open) [] in
      let split : name_part every.form (part ++ has.more) ++ end
      ≡ name_part every.form part ++ (name_part every.form has.more ++ end) =
      ap (λ name. name ++ end) (part_append every.form part has.more)
      ∙ append_assoc (name_part every.form part) (name_part every.form has.more) end in
      record {
        rest = Ended;
        list' = has.list';
        more = part ++ has.more;
        read = has.is;
        written = name_upto (part ++ has.more) a c (upto_next a b c _ _ first
            (subst (AppendsUpTo b c) (sym split)
            (upto_longer b c (name_part every.form part) (name_part every.form has.more ++ end) rest)));
      }

  pub start_cut : (list a b : Option (List ℕ))
      → AppendsPart a b (before_name every.form ++ name_part every.form start) → CutsLong every start list a b
  start_cut list a b first =
      let has = has_rest list [] (begins_nothing list) in
      record {
        rest = Ended;
        list' = has.list';
        more = has.more;
        read = has.is;
        written = name_upto has.more a b (upto_longer a b _ _ (upto_part a b _ first));
      }

-- the first bytes of the rest of a name are read and written
pub record CopiesSome (form : FileForm) (list list' out out' : Option (List ℕ)) : Type 0 where
  pub more : List ℕ
  pub read : Consumes list list' more
  pub within : All (λ byte. byte ≢ 0) more
  pub appends : Appends out out' (name_part form more)

no_part : (form : FileForm) (out : Option (List ℕ)) → Appends out out (name_part form [])
no_part (Line faults) out = Appends-nil out
no_part Object out = Appends-nil out

pub copies_none : (form : FileForm) (list out : Option (List ℕ)) → CopiesSome form list list out out
copies_none form list out =
    record { more = []; read = Consumes-nil list; within = All-nil (λ byte. byte ≢ 0); appends = no_part form out }

module _ (form : FileForm) (list mid list' out out' : Option (List ℕ)) (h : CopiesSome form list mid out out') where
  -- one more byte
  pub copies_more : (out'' : Option (List ℕ)) (byte : ℕ) → Consumes mid list' (byte ∷ []) → byte ≢ 0
      → Appends out' out'' (name_part form (byte ∷ [])) → CopiesSome form list list' out out''
  copies_more out'' byte read other appends = record {
    more = h.more ++ byte ∷ [];
    read = Consumes-trans list mid list' h.more (byte ∷ []) h.read read;
    within = All-push (λ byte. byte ≢ 0) h.more byte h.within other;
    appends = subst (Appends out out'') (sym (part_append form h.more (byte ∷ [])))
        (Appends-trans out out' out'' _ _ h.appends appends);
  }

  pub copies_cut : (out'' : Option (List ℕ)) (byte : ℕ) → Consumes mid list' (byte ∷ []) → byte ≢ 0
      → AppendsPart out' out'' (name_part form (byte ∷ [])) → CutsRest form list out out''
  copies_cut out'' byte read other part = record {
    more = h.more ++ byte ∷ [];
    begins = begins_name list list' (h.more ++ byte ∷ [])
        (All-push (λ byte. byte ≢ 0) h.more byte h.within other)
        (Consumes-trans list mid list' h.more (byte ∷ []) h.read read);
    appends = subst (AppendsUpTo out out'') (sym (part_append form h.more (byte ∷ [])))
        (upto_next out out' out'' _ _ h.appends (upto_part out' out'' _ part));
  }

  -- the byte 0 after them, the end of the list, or a failure to read on
  pub copies_whole : Consumes mid list' (0 ∷ []) → CopiesRest form list list' out out' Ended
  copies_whole zero = record {
    more = h.more;
    read = rest_ended list list' h.more h.within (Consumes-trans list mid list' h.more (0 ∷ []) h.read zero);
    appends = h.appends;
  }

  pub copies_end : Consumes mid list' [] → IsAtEnd list' → CopiesRest form list list' out out' Ended
  copies_end none end = record {
    more = h.more;
    read = rest_at_end list list' h.more h.within
        (subst (Consumes list list') (append-nil h.more) (Consumes-trans list mid list' h.more [] h.read none)) end;
    appends = h.appends;
  }

  pub copies_unread : CopiesRest form list list' out out' Unread
  copies_unread =
      record { more = h.more; read = begins_name list mid h.more h.within h.read; appends = h.appends }
