-- Laws of the JSON objects of files.
use Rattle.std.proofs.Common.{◌≡◌, ℕ, suc, ◌+◌, ◌<◌, ◌≤◌, Bool, true, false, Option, List, [], ◌∷◌, ◌++◌, take, drop, length, refl, sym, ◌∙◌, ap, subst, inl, inr, arith}
use Rattle.std.specs.Prelude.{◌==◌, nat_eq, nat_lt}
use Rattle.std.specs.Io.KnownBytes.{Appends}
use Rattle.std.proofs.KnownBytes.{Appends-trans, Appends-nil}
use Rattle.std.proofs.lemmas.Bool.{cases_Bool}
use Rattle.std.proofs.lemmas.List.{append_assoc, append-nil, drop-drop, drop_all, length-drop}
use Rattle.text_output.specs.Written.{AppendsPart}
use Rattle.text_output.proofs.Parts.{part_first, part_next}
use Rattle.text_output.specs.HexDigits.{hex_digit}
use Rattle.value_text.specs.ValueText.{is_plain, spelled}
use Rattle.value_text.specs.JsonText.{json_escape}
use Rattle.value_text.proofs.StringTexts.{bytes_append}
use Rattle.poke_batch.specs.FileLine.{name_byte, shown_name}
use Rattle.poke_batch.specs.FileObject.{before_lines, text_lines, line_length, first_line_json, lines_json}

-- ---- names

-- a name in a JSON string
abbrev pub name_bytes : List ℕ → List ℕ
name_bytes name = spelled json_escape (shown_name name)

-- a byte of it
abbrev pub one_byte : ℕ → List ℕ
one_byte byte = spelled json_escape (name_byte byte)

pub bytes_more : (byte : ℕ) (name : List ℕ) → name_bytes (byte ∷ name) ≡ one_byte byte ++ name_bytes name
bytes_more byte name = bytes_append json_escape (name_byte byte) (shown_name name)

-- a hexadecimal digit is itself in a string
plain_digit : (n : ℕ) → n < 16 → is_plain (hex_digit n) ≡ true
plain_digit n small = elim (cases_Bool (nat_lt n 10)) [
  | inl hit ↦ rw hit (grind (arith, hit, small))
  | inr miss ↦ rw miss (grind (arith, miss, small))
]

-- an escape of a name by two digits, in a JSON string
pub digits_spelled : (high low : ℕ) → high < 16 → low < 16
    → spelled json_escape (92 ∷ 120 ∷ hex_digit high ∷ hex_digit low ∷ [])
    ≡ 92 ∷ 92 ∷ 120 ∷ hex_digit high ∷ hex_digit low ∷ []
digits_spelled high low h l =
    let a = plain_digit high h in
    let b = plain_digit low l in
    rw (a, b) refl

-- ---- lines

one_plus : (n : ℕ) → 1 + n ≡ suc n
one_plus n = omega arith

-- the first line of a text, and those after it
pub first_line : (byte : ℕ) (bytes : List ℕ)
    → text_lines (byte ∷ bytes) ≡ take (line_length (byte ∷ bytes)) (byte ∷ bytes)
    ∷ text_lines (drop (suc (line_length (byte ∷ bytes))) (byte ∷ bytes))
first_line byte [] = elim (cases_Bool (byte == 10)) [
  | inl end ↦ rw end refl
  | inr other ↦ rw other refl
]
first_line byte (next ∷ rest) = elim (cases_Bool (byte == 10)) [
  | inl end ↦ rw end refl
  | inr other ↦ rw (other, one_plus (line_length (next ∷ rest))) (ap (before_lines byte) (first_line next rest))
]

-- the strings of the lines of a text, the first one first
pub lines_split : (first : Bool) (text : List ℕ) → 0 < length text
    → lines_json first (text_lines text)
    ≡ first_line_json first text ++ lines_json false (text_lines (drop (suc (line_length text)) text))
lines_split first [] some = absurd (omega (arith, some))
lines_split first (byte ∷ bytes) some = ap (lines_json first) (first_line byte bytes)

-- a writer has the strings of the lines before a place of a text; those from there on are left
pub record HasLines (old new : Option (List ℕ)) (done : ℕ) (text : List ℕ) : Type 0 where
  pub taken : List ℕ
  pub appends : Appends old new taken
  pub whole : taken ++ lines_json (nat_eq done 0) (text_lines (drop done text)) ≡ lines_json true (text_lines text)

pub no_lines : (a : Option (List ℕ)) (text : List ℕ) → HasLines a a 0 text
no_lines a text = record { taken = []; appends = Appends-nil a; whole = refl }

-- the strings from a place on
split_at : (done : ℕ) (text : List ℕ) → done < length text
    → lines_json (nat_eq done 0) (text_lines (drop done text)) ≡ first_line_json (nat_eq done 0) (drop done text)
    ++ lines_json false (text_lines (drop (done + suc (line_length (drop done text))) text))
split_at done text lt =
    lines_split (nat_eq done 0) (drop done text) (omega (arith, length-drop done text, lt))
    ∙ ap (λ s. first_line_json (nat_eq done 0) (drop done text) ++ lines_json false (text_lines s))
    (drop-drop (suc (line_length (drop done text))) done text)

pub more_lines : (a b c : Option (List ℕ)) (done : ℕ) (text rest : List ℕ) (length_here : ℕ) → HasLines a b done text
    → done < length text → rest ≡ drop done text → length_here ≡ line_length rest
    → Appends b c (first_line_json (nat_eq done 0) rest) → HasLines a c (done + (length_here + 1)) text
more_lines a b c done text rest n h lt same length_is g =
    let here : List ℕ = first_line_json (nat_eq done 0) (drop done text) in
    let next : done + suc (line_length (drop done text)) ≡ done + (n + 1) =
    omega (arith, length_is, ap line_length same) in
    let later : nat_eq (done + (n + 1)) 0 ≡ false = grind arith in
    record {
      taken = h.taken ++ here;
      appends = Appends-trans a b c h.taken here h.appends
          (subst (λ s. Appends b c (first_line_json (nat_eq done 0) s)) same g);
      whole = rw later (append_assoc h.taken here _
          ∙ ap (λ k. h.taken ++ (here ++ lines_json false (text_lines (drop k text)))) (sym next)
          ∙ ap (λ s. h.taken ++ s) (sym (split_at done text lt)) ∙ h.whole);
    }

pub all_lines : (a b : Option (List ℕ)) (done : ℕ) (text : List ℕ) → HasLines a b done text → length text ≤ done →
    Appends a b (lines_json true (text_lines text))
all_lines a b done text h le = subst (Appends a b) (sym (append-nil h.taken)
    ∙ ap (λ s. h.taken ++ lines_json (nat_eq done 0) (text_lines s)) (sym (drop_all done text le)) ∙ h.whole) h.appends

pub part_lines : (a b c : Option (List ℕ)) (done : ℕ) (text rest : List ℕ) → HasLines a b done text → done < length text
    → rest ≡ drop done text
    → AppendsPart b c (first_line_json (nat_eq done 0) rest) → AppendsPart a c (lines_json true (text_lines text))
part_lines a b c done text rest h lt same g =
    let here : List ℕ = first_line_json (nat_eq done 0) (drop done text) in
    let after : List ℕ = lines_json false (text_lines (drop (done + suc (line_length (drop done text))) text)) in
    subst (AppendsPart a c) (ap (λ s. h.taken ++ s) (sym (split_at done text lt)) ∙ h.whole)
    (part_next a b c h.taken (here ++ after) h.appends
    (part_first b c here after (subst (λ s. AppendsPart b c (first_line_json (nat_eq done 0) s)) same g)))
