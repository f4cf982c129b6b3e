-- Laws of the lines of files, and of texts that are put together byte by byte.
use Rattle.std.proofs.Common.{◌≡◌, ℕ, ◌+◌, ◌<◌, Option, List, [], ◌∷◌, ◌++◌, take, drop, length, refl, sym, ◌∙◌, ap, subst, suc, arith}
use Rattle.std.specs.Prelude.{slice_index}
use Rattle.std.specs.Io.KnownBytes.{Appends}
use Rattle.std.proofs.KnownBytes.{Appends-trans}
use Rattle.std.proofs.lemmas.List.{append_assoc, append-nil, take-append-drop, drop_more}
use Rattle.std.proofs.Math.Seq.{take-suc}
use Rattle.text_output.specs.Written.{AppendsPart}
use Rattle.poke_batch.specs.FileLine.{name_byte, shown_name}
use Rattle.text_output.proofs.Parts.{part_first, part_next}

one_more : (n : ℕ) → n + 1 ≡ suc n
one_more n = omega arith

-- a text that is put together from a text for each byte
module _ (text : List ℕ → List ℕ) (one : ℕ → List ℕ) (nil : text [] ≡ [])
    (more : (byte : ℕ) (bytes : List ℕ) → text (byte ∷ bytes) ≡ one byte ++ text bytes) where
  text_append : (xs ys : List ℕ) → text (xs ++ ys) ≡ text xs ++ text ys
  text_append [] ys = ap (λ s. s ++ text ys) (sym nil)
  text_append (x ∷ xs) ys = more x (xs ++ ys) ∙ ap (λ s. one x ++ s) (text_append xs ys)
      ∙ sym (append_assoc (one x) (text xs) (text ys)) ∙ ap (λ s. s ++ text ys) (sym (more x xs))

  text_one : (x : ℕ) → text (x ∷ []) ≡ one x
  text_one x = more x [] ∙ ap (λ s. one x ++ s) nil ∙ append-nil (one x)

  take_one : (bytes : List ℕ) (k : ℕ) → k < length bytes → take (k + 1) bytes ≡ take k bytes ++ slice_index bytes k ∷ []
  take_one bytes k lt = ap (λ n. take n bytes) (one_more k) ∙ take-suc bytes k 0 lt

  -- the bytes before a place, the byte there, and those after it
  text_split : (bytes : List ℕ) (k : ℕ) → k < length bytes →
      text bytes ≡ text (take k bytes) ++ (one (slice_index bytes k) ++ text (drop (k + 1) bytes))
  text_split bytes k lt =
      ap text (sym (take-append-drop k bytes)) ∙ text_append (take k bytes) (drop k bytes)
      ∙ ap (λ s. text (take k bytes) ++ s)
      (ap text (drop_more bytes k 0 lt) ∙ more (slice_index bytes k) (drop (k + 1) bytes))

  text_more : (bytes : List ℕ) (k : ℕ) → k < length bytes →
      text (take (k + 1) bytes) ≡ text (take k bytes) ++ one (slice_index bytes k)
  text_more bytes k lt = ap text (take_one bytes k lt) ∙ text_append (take k bytes) (slice_index bytes k ∷ [])
      ∙ ap (λ s. text (take k bytes) ++ s) (text_one (slice_index bytes k))

  -- one turn of writing it
  pub text_step : (a b c : Option (List ℕ)) (bytes : List ℕ) (k : ℕ) → k < length bytes →
      Appends a b (text (take k bytes)) → Appends b c (one (slice_index bytes k)) →
      Appends a c (text (take (k + 1) bytes))
  text_step a b c bytes k lt h g =
      subst (λ s. Appends a c s) (sym (text_more bytes k lt))
      (Appends-trans a b c (text (take k bytes)) (one (slice_index bytes k)) h g)

  pub text_cut : (a b c : Option (List ℕ)) (bytes : List ℕ) (k : ℕ) → k < length bytes →
      Appends a b (text (take k bytes)) → AppendsPart b c (one (slice_index bytes k)) → AppendsPart a c (text bytes)
  text_cut a b c bytes k lt h g =
      subst (λ s. AppendsPart a c s) (sym (text_split bytes k lt)) (part_next a b c (text (take k bytes)) _ h
      (part_first b c (one (slice_index bytes k)) (text (drop (k + 1) bytes)) g))

-- one turn of writing a name
pub name_step : (a b c : Option (List ℕ)) (name : List ℕ) (k : ℕ) → k < length name →
    Appends a b (shown_name (take k name)) → Appends b c (name_byte (slice_index name k)) →
    Appends a c (shown_name (take (k + 1) name))
name_step = text_step shown_name name_byte refl (λ byte name. refl)

pub name_cut : (a b c : Option (List ℕ)) (name : List ℕ) (k : ℕ) → k < length name →
    Appends a b (shown_name (take k name)) → AppendsPart b c (name_byte (slice_index name k)) →
    AppendsPart a c (shown_name name)
name_cut = text_cut shown_name name_byte refl (λ byte name. refl)
