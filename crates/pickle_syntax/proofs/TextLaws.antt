-- Texts, characters and attributes are cut by the rules.
use Rattle.std.proofs.Common.{◌≡◌, ◌≢◌, ℕ, zero, suc, ◌+◌, ◌-◌, Bool, true, false, cond, eqb, List, [], ◌∷◌, ◌++◌, length, drop, get_or, refl, sym, ap, ◌∙◌, subst, arith, inl, inr, Option, Some, None, Result, Ok, Err, append_assoc, length-append}
use Rattle.std.specs.Prelude.{codes, slice_index}
use Rattle.std.proofs.lemmas.List.{get_or-drop}
use Rattle.std.proofs.Math.Seq.{drop-append_seam}
use Rattle.std.proofs.lemmas.Bool.{eqb-true}
use Rattle.pickle_syntax.specs.declared.lexer.texts.Part.{Part}
use Rattle.pickle_syntax.specs.declared.lexer.texts.Part.TheVariants.{Closes, Byte, Bad, Breaks}
use Rattle.pickle_syntax.specs.declared.lexer.fault.LexFaultKind.TheVariants.{BadByte, Unclosed}
use Rattle.pickle_tree.specs.declared.tree.Attribute.{Attribute}
use Rattle.pickle_tree.specs.declared.tree.Attribute.TheVariants as attribute
use Rattle.pickle_syntax.specs.Tokens.{Token, AttributeOf}
use Rattle.pickle_syntax.specs.Tokens as token
use Rattle.pickle_syntax.specs.Bytes.{Fault, ◌>>=◌}
use Rattle.pickle_syntax.specs.Words.{Cut, attribute_at}
use Rattle.pickle_syntax.specs.Texts.{Read, part_at, with_byte, text_part, text_from, character_of, apostrophe_cut, apostrophe_piece}
use Rattle.pickle_syntax.specs.Lexing.{piece_at}
use Rattle.pickle_syntax.specs.Pieces.{IsPart, AreParts, IsCharacter, IsText, EndsBadly, IsFaultAt, InText, Elsewhere, attribute_spelling}
use Rattle.pickle_syntax.proofs.Chains.{Begins, begun}
use Rattle.pickle_syntax.proofs.Classes.{other_front}
use Rattle.pickle_syntax.proofs.Cuts.{Cuts, Reaches}
use Rattle.pickle_syntax.proofs.Texts.{text_skips}
use Rattle.pickle_syntax.proofs.PartLaws.{PartFront, part_is, part_closes, part_breaks, part_bad, part_reads, part_some}

-- what comes after the last part of a text
Ends : ℕ → ℕ → List ℕ → List ℕ → Result Read Fault → Type 0
Ends quote at values rest (Ok x) = (more : List ℕ) × (rest ≡ 34 ∷ more) × (x ≡ (values, at + 1))
Ends quote at values rest (Err f) = EndsBadly quote at rest f

-- the parts of a text, from its first byte on
record Walked (quote at : ℕ) (bytes : List ℕ) (r : Result Read Fault) : Type 0 where
  values : List ℕ
  parts : List ℕ
  rest : List ℕ
  whole : bytes ≡ parts ++ rest
  are : AreParts values parts
  ends : Ends quote (at + length parts) values rest r

-- nothing more
stops : (quote at : ℕ) (bytes : List ℕ) (r : Result Read Fault) → Ends quote at [] bytes r → Walked quote at bytes r
stops quote at bytes r e =
    let same : at + 0 ≡ at = omega arith in
    record { values = []; parts = []; rest = bytes; whole = refl; are = refl; ends = rw same e }

-- no part begins there
no_part : (b : ℕ) (rest : List ℕ) → part_at 34 (b ∷ rest) ≡ Bad → (value : ℕ) (front after : List ℕ) →
    front ++ after ≡ b ∷ rest → IsPart 34 value front → ⊥
no_part b rest bad value front after e is =
    let f : part_at 34 (front ++ after) ≡ Byte value (length front) = part_reads 34 value front after refl is in
    let g : part_at 34 (front ++ after) ≡ Bad = ap (part_at 34) e ∙ bad in
    cc

-- one more part
more_ends : (quote at v : ℕ) (values rest : List ℕ) (r : Result Read Fault) → Ends quote at values rest r →
    Ends quote at (v ∷ values) rest (with_byte v r)
unfolding Ends
more_ends quote at v values rest (Ok x) e = (e.0, e.1, rw e.2 refl)
more_ends quote at v values rest (Err f) e = e

one_more : (quote at v n : ℕ) (bytes : List ℕ) (r : Result Read Fault) → PartFront 34 v n bytes →
    Walked quote (at + n) (drop n bytes) r → Walked quote at bytes (with_byte v r)
one_more quote at v n bytes r k w =
    let front : drop n bytes ≡ k.rest = ap (drop n) k.whole ∙ rw (← k.size) (drop-append_seam k.part k.rest) in
    let joined : bytes ≡ k.part ++ (w.parts ++ w.rest) = k.whole
    ∙ ap (λ (l : List ℕ). k.part ++ l) (sym front ∙ w.whole) in
    let place : at + n + length w.parts ≡ at + length (k.part ++ w.parts) =
    omega (arith, k.size, length-append k.part w.parts) in
    record {
      values = v ∷ w.values;
      parts = k.part ++ w.parts;
      rest = w.rest;
      whole = joined ∙ sym (append_assoc k.part w.parts w.rest);
      are = (k.part, w.parts, refl, k.is, w.are);
      ends = subst (λ (m : ℕ). Ends quote m (v ∷ w.values) w.rest (with_byte v r)) place
          (more_ends quote (at + n + length w.parts) v w.values w.rest r w.ends);
    }

part_walked : (quote at b : ℕ) (rest : List ℕ) (p : Part) → part_at 34 (b ∷ rest) ≡ p →
    ((left : ℕ) → Walked quote (at + 1 + left) (drop left rest) (text_from quote left (at + 1) rest)) →
    Walked quote at (b ∷ rest) (text_part quote at p (λ left. text_from quote left (at + 1) rest))
unfolding Ends
part_walked quote at b rest Closes e more = stops quote at (b ∷ rest) _ (rest, rw (part_closes 34 b rest e) refl, refl)
part_walked quote at b rest Bad e more =
    (let k = part_bad 34 b rest e in stops quote at (b ∷ rest) _ (inr (k.0, k.1, refl, no_part b rest e)))
part_walked quote at b rest Breaks e more = stops quote at (b ∷ rest) _ (inl (part_breaks 34 b rest e, refl))
part_walked quote at b rest (Byte v zero) e more =
    absurd (let k = part_is 34 (b ∷ rest) v 0 e in omega (arith, k.size, part_some 34 v k.part k.is))
part_walked quote at b rest (Byte v (suc n)) e more =
    let k = part_is 34 (b ∷ rest) v (suc n) e in
    let f : suc n - 1 ≡ n = omega arith in
    let g : at + 1 + n ≡ at + suc n = omega arith in
    one_more quote at v (suc n) (b ∷ rest) (text_from quote (suc n - 1) (at + 1) rest) k (rw (f, ← g) (more n))

text_walked : (quote left at : ℕ) (bytes : List ℕ) →
    Walked quote (at + left) (drop left bytes) (text_from quote left at bytes)
unfolding Ends text_from
text_walked quote zero at [] = (let same : at + 0 ≡ at = omega arith in rw same (stops quote at [] _ refl))
text_walked quote (suc left) at [] = stops quote (at + suc left) [] _ refl
text_walked quote (suc left) at (b ∷ rest) =
    (let e : at + suc left ≡ at + 1 + left = omega arith in rw e (text_walked quote left (at + 1) rest))
text_walked quote zero at (b ∷ rest) =
    let same : at + 0 ≡ at = omega arith in
    rw same (part_walked quote at b rest (part_at 34 (b ∷ rest)) refl (λ left. text_walked quote left (at + 1) rest))

-- a text is read
text_step : (quote at v n b : ℕ) (bytes : List ℕ) → part_at 34 (b ∷ bytes) ≡ Byte v (suc n) →
    text_from quote 0 at (b ∷ bytes) ≡ with_byte v (text_from quote 0 (at + suc n) (drop n bytes))
unfolding text_from
text_step quote at v n b bytes e =
    let f : suc n - 1 ≡ n = omega arith in
    let g : at + 1 + n ≡ at + suc n = omega arith in
    rw (e, f, text_skips quote n (at + 1) bytes, g) refl

part_step : (quote at v : ℕ) (part rest : List ℕ) → IsPart 34 v part →
    text_from quote 0 at (part ++ rest) ≡ with_byte v (text_from quote 0 (at + length part) rest)
part_step quote at v [] rest is = absurd (omega (arith, part_some 34 v [] is))
part_step quote at v (b ∷ part) rest is =
    text_step quote at v (length part) b (part ++ rest) (part_reads 34 v (b ∷ part) rest refl is)
    ∙ rw (drop-append_seam part rest) refl

text_reads : (quote at : ℕ) (values parts rest : List ℕ) → AreParts values parts →
    text_from quote 0 at (parts ++ 34 ∷ rest) ≡ Ok (values, at + length parts + 1)
unfolding text_from part_at
text_reads quote at [] parts rest are = (let e : at + 0 + 1 ≡ at + 1 = omega arith in rw (are, e) refl)
text_reads quote at (v ∷ values) parts rest are =
    let part = are.0 in
    let more = are.1 in
    let regroup : parts ++ 34 ∷ rest ≡ part ++ (more ++ 34 ∷ rest) = ap (λ (l : List ℕ). l ++ 34 ∷ rest) are.2
    ∙ append_assoc part more (34 ∷ rest) in
    let place : at + length part + length more + 1 ≡ at + length parts + 1 =
    omega (arith, ap length are.2, length-append part more) in
    let tail : text_from quote 0 (at + length part) (more ++ 34 ∷ rest)
    ≡ Ok (values, at + length part + length more + 1) = text_reads quote (at + length part) values more rest are.4 in
    rw regroup (part_step quote at v part (more ++ 34 ∷ rest) are.3 ∙ rw (tail, place) refl)

text_at : (at : ℕ) (rest : List ℕ) →
    piece_at at (34 ∷ rest) ≡ (text_from at 0 (at + 1) rest >>= λ t. Ok (Some (token.Text t.0), t.1 - at))
unfolding piece_at
text_at at rest = refl

abbrev text_cut : ℕ → Read → Cut
text_cut at t = (Some (token.Text t.0), t.1 - at)

pub text_reaches : (at : ℕ) (values front after : List ℕ) → IsText values front →
    Reaches (Some (token.Text values)) front (piece_at at (front ++ after))
text_reaches at values front after is =
    let parts = is.0 in
    let regroup : parts ++ 34 ∷ [] ++ after ≡ parts ++ 34 ∷ after = append_assoc parts (34 ∷ []) after in
    let size : length (parts ++ 34 ∷ []) ≡ length parts + 1 = length-append parts (34 ∷ []) in
    let reads : text_from at 0 (at + 1) (parts ++ 34 ∷ after) ≡ Ok (values, at + 1 + length parts + 1) =
    text_reads at (at + 1) values parts after is.2 in
    rw is.1 (record {
      cut = text_cut at (values, at + 1 + length parts + 1);
      reads = text_at at (parts ++ 34 ∷ [] ++ after) ∙ rw (regroup, reads) refl;
      far = omega (arith, size);
      same = λ _. refl;
    })

walked_cuts : (at : ℕ) (rest : List ℕ) (r : Result Read Fault) (cut : Cut) → Walked at (at + 1) rest r →
    (r >>= λ t. Ok (text_cut at t)) ≡ Ok cut → Cuts cut (34 ∷ rest)
unfolding Ends
walked_cuts at rest (Err f) cut w e = absurd cc
walked_cuts at rest (Ok x) cut w e =
    let more = w.ends.0 in
    let size : length (w.parts ++ 34 ∷ []) ≡ length w.parts + 1 = length-append w.parts (34 ∷ []) in
    let joined : rest ≡ w.parts ++ 34 ∷ [] ++ more = w.whole ∙ ap (λ (l : List ℕ). w.parts ++ l) w.ends.1
    ∙ sym (append_assoc w.parts (34 ∷ []) more) in
    let f : text_cut at (w.values, at + 1 + length w.parts + 1) ≡ cut = ap (text_cut at) (sym w.ends.2)
    ∙ (let g : text_cut at x ≡ cut = cc in g) in
    subst (λ (k : Cut). Cuts k (34 ∷ rest)) f (record {
      front = 34 ∷ w.parts ++ 34 ∷ [];
      after = more;
      whole = ap (λ (l : List ℕ). 34 ∷ l) joined;
      size = omega (arith, size);
      some = omega arith;
      is = ((w.parts, refl, w.are), tt);
    })

pub text_cuts : (at : ℕ) (rest : List ℕ) (cut : Cut) →
    (text_from at 0 (at + 1) rest >>= λ t. Ok (text_cut at t)) ≡ Ok cut → Cuts cut (34 ∷ rest)
text_cuts at rest cut e =
    let same : at + 1 + 0 ≡ at + 1 = omega arith in
    let w : Walked at (at + 1) rest (text_from at 0 (at + 1) rest) =
    subst (λ (m : ℕ). Walked at m rest (text_from at 0 (at + 1) rest)) same (text_walked at 0 (at + 1) rest) in
    walked_cuts at rest (text_from at 0 (at + 1) rest) cut w e

walked_fails : (at : ℕ) (rest : List ℕ) (r : Result Read Fault) (f : Fault) → Walked at (at + 1) rest r →
    (r >>= λ t. Ok (text_cut at t)) ≡ Err f → IsFaultAt at (34 ∷ rest) f
unfolding Ends
walked_fails at rest (Ok x) f w e = absurd cc
walked_fails at rest (Err g) f w e =
    let same : g ≡ f = cc in
    InText w.values w.parts w.rest (ap (λ (l : List ℕ). 34 ∷ l) w.whole) w.are
    (subst (EndsBadly at (at + 1 + length w.parts) w.rest) same w.ends)

pub text_fails : (at : ℕ) (rest : List ℕ) (f : Fault) →
    (text_from at 0 (at + 1) rest >>= λ t. Ok (text_cut at t)) ≡ Err f → IsFaultAt at (34 ∷ rest) f
text_fails at rest f e =
    let same : at + 1 + 0 ≡ at + 1 = omega arith in
    let w : Walked at (at + 1) rest (text_from at 0 (at + 1) rest) =
    subst (λ (m : ℕ). Walked at m rest (text_from at 0 (at + 1) rest)) same (text_walked at 0 (at + 1) rest) in
    walked_fails at rest (text_from at 0 (at + 1) rest) f w e

-- a text that ends badly is told so
bad_part : (b : ℕ) (rest : List ℕ) (p : Part) → part_at 34 (b ∷ rest) ≡ p → b ≢ 10 → b ≢ 34 →
    ((value : ℕ) (front after : List ℕ) → front ++ after ≡ b ∷ rest → IsPart 34 value front → ⊥) →
    part_at 34 (b ∷ rest) ≡ Bad
bad_part b rest Closes e line quote none = absurd (quote (part_closes 34 b rest e))
bad_part b rest Breaks e line quote none = absurd (line (part_breaks 34 b rest e))
bad_part b rest Bad e line quote none = e
bad_part b rest (Byte v n) e line quote none =
    absurd (let k = part_is 34 (b ∷ rest) v n e in none v k.part k.rest (sym k.whole) k.is)

line : (quote at : ℕ) (rest : List ℕ) →
    text_part quote at (part_at 34 (10 ∷ rest)) (λ left. text_from quote left (at + 1) rest) ≡ Err (Unclosed, quote)
unfolding part_at
line quote at rest = refl

ends_reads : (quote at : ℕ) (rest : List ℕ) (f : Fault) → EndsBadly quote at rest f → text_from quote 0 at rest ≡ Err f
unfolding text_from
ends_reads quote at [] f e = rw e refl
ends_reads quote at (b ∷ rest) f (inl e) = rw (e.0, e.1) (line quote at rest)
ends_reads quote at (b ∷ rest) f (inr e) = rw (e.2, bad_part b rest (part_at 34 (b ∷ rest)) refl e.0 e.1 e.3) refl

walk_reads : (quote at : ℕ) (values parts rest : List ℕ) (f : Fault) → AreParts values parts →
    EndsBadly quote (at + length parts) rest f → text_from quote 0 at (parts ++ rest) ≡ Err f
walk_reads quote at [] parts rest f are ends =
    let e : at + length parts ≡ at = omega (arith, ap length are) in
    rw are (ends_reads quote at rest f (subst (λ (m : ℕ). EndsBadly quote m rest f) e ends))
walk_reads quote at (v ∷ values) parts rest f are ends =
    let part = are.0 in
    let more = are.1 in
    let regroup : parts ++ rest ≡ part ++ (more ++ rest) = ap (λ (l : List ℕ). l ++ rest) are.2
    ∙ append_assoc part more rest in
    let place : at + length parts ≡ at + length part + length more =
    omega (arith, ap length are.2, length-append part more) in
    let tail : text_from quote 0 (at + length part) (more ++ rest) ≡ Err f = walk_reads quote (at + length part) values
    more rest f are.4 (subst (λ (m : ℕ). EndsBadly quote m rest f) place ends) in
    rw regroup (part_step quote at v part (more ++ rest) are.3 ∙ rw tail refl)

pub bad_text_reads : (at : ℕ) (values parts rest : List ℕ) (f : Fault) → AreParts values parts →
    EndsBadly at (at + 1 + length parts) rest f → piece_at at (34 ∷ parts ++ rest) ≡ Err f
bad_text_reads at values parts rest f are ends = text_at at (parts ++ rest)
    ∙ rw (walk_reads at (at + 1) values parts rest f are ends) refl

-- attributes
attribute_name : Attribute → List ℕ
attribute_name attribute.Length = codes "length"
attribute_name attribute.Size = codes "size"

attribute_is : (bytes : List ℕ) (a : Attribute × ℕ) → attribute_at bytes ≡ Some a → Begins attribute_name bytes a
unfolding attribute_at attribute_name
attribute_is bytes a is =
    begun attribute_name bytes (attribute.Length, 6) a _ refl is (λ is.
    begun attribute_name bytes (attribute.Size, 4) a None refl is (λ is. absurd cc))

spelled : (a : Attribute) → 39 ∷ attribute_name a ≡ attribute_spelling a
unfolding attribute_name
spelled attribute.Length = refl
spelled attribute.Size = refl

attribute_reads : (at : ℕ) (a : Attribute) (after : List ℕ) →
    piece_at at (attribute_spelling a ++ after) ≡ Ok (Some (AttributeOf a), length (attribute_spelling a))
unfolding piece_at apostrophe_piece attribute_at part_at
attribute_reads at attribute.Length after = refl
attribute_reads at attribute.Size after = refl

pub attribute_reaches : (at : ℕ) (a : Attribute) (front after : List ℕ) → front ≡ attribute_spelling a →
    Reaches (Some (AttributeOf a)) front (piece_at at (front ++ after))
attribute_reaches at a front after is = rw is (record {
  cut = (Some (AttributeOf a), length (attribute_spelling a));
  reads = attribute_reads at a after;
  far = omega arith;
  same = λ _. refl;
})

-- characters
byte_behind : (part rest : List ℕ) → slice_index (part ++ rest) (length part) ≡ slice_index rest 0
byte_behind part rest =
    let e : length part + 0 ≡ length part = omega arith in
    let f : get_or (drop (length part) (part ++ rest)) 0 0 ≡ get_or (part ++ rest) (length part + 0) 0 =
    get_or-drop (length part) (part ++ rest) 0 0 in
    sym (ap (λ (l : List ℕ). get_or l 0 0) (sym (drop-append_seam part rest)) ∙ f
    ∙ ap (λ (k : ℕ). get_or (part ++ rest) k 0) e)

character_reads : (v : ℕ) (part after : List ℕ) → IsPart 39 v part →
    character_of (part_at 39 (part ++ 39 ∷ after)) (part ++ 39 ∷ after) ≡ Some (v, length part + 1)
character_reads v part after is = rw (part_reads 39 v part (39 ∷ after) refl is, byte_behind part (39 ∷ after)) refl

apostrophe_at : (at : ℕ) (rest : List ℕ) →
    piece_at at (39 ∷ rest) ≡ apostrophe_cut at (character_of (part_at 39 rest) rest) (attribute_at rest)
unfolding piece_at apostrophe_piece
apostrophe_at at rest = refl

pub character_reaches : (at v : ℕ) (front after : List ℕ) → IsCharacter v front →
    Reaches (Some (token.Character v)) front (piece_at at (front ++ after))
character_reaches at v front after is =
    let part = is.0 in
    let regroup : part ++ 39 ∷ [] ++ after ≡ part ++ 39 ∷ after = append_assoc part (39 ∷ []) after in
    let size : length (part ++ 39 ∷ []) ≡ length part + 1 = length-append part (39 ∷ []) in
    rw is.1 (record {
      cut = (Some (token.Character v), 1 + (length part + 1));
      reads = apostrophe_at at (part ++ 39 ∷ [] ++ after) ∙ rw (regroup, character_reads v part after is.2) refl;
      far = omega (arith, size);
      same = λ _. refl;
    })

-- a character at the front of what follows an apostrophe
record CharacterFront (v len : ℕ) (bytes : List ℕ) : Type 0 where
  part : List ℕ
  after : List ℕ
  whole : bytes ≡ part ++ 39 ∷ after
  size : length part + 1 ≡ len
  is : IsPart 39 v part

first_is : (part rest : List ℕ) (c : ℕ) → slice_index rest 0 ≡ suc c → (after : List ℕ) × (rest ≡ suc c ∷ after)
first_is part [] c e = absurd (omega (arith, e))
first_is part (b ∷ rest) c e = (rest, ap (λ (n : ℕ). n ∷ rest) e)

some_same : (x y : ℕ × ℕ) → Some x ≡ Some y → x ≡ y
some_same x y e = cc

behind : (bytes part rest : List ℕ) (n : ℕ) → bytes ≡ part ++ rest → length part ≡ n →
    slice_index bytes n ≡ slice_index rest 0
behind bytes part rest n e size = rw (e, ← size) (byte_behind part rest)

character_is : (bytes : List ℕ) (p : Part) (v len : ℕ) → part_at 39 bytes ≡ p → character_of p bytes ≡ Some (v, len) →
    CharacterFront v len bytes
character_is bytes Closes v len e is = absurd cc
character_is bytes Bad v len e is = absurd cc
character_is bytes Breaks v len e is = absurd cc
character_is bytes (Byte w n) v len e is = by (eqb (slice_index bytes n) 39) refl is
  where
    k : PartFront 39 w n bytes
    k = part_is 39 bytes w n e

    by : (t : Bool) → eqb (slice_index bytes n) 39 ≡ t →
        cond {A = Option (ℕ × ℕ)} t (Some (w, n + 1)) None ≡ Some (v, len) → CharacterFront v len bytes
    by true et f =
        let both = some_same (w, n + 1) (v, len) f in
        let a : w ≡ v = ap (λ (p : ℕ × ℕ). p.0) both in
        let b : n + 1 ≡ len = ap (λ (p : ℕ × ℕ). p.1) both in
        let there : slice_index bytes n ≡ slice_index k.rest 0 = behind bytes k.part k.rest n k.whole k.size in
        let last = first_is k.part k.rest 38 (sym there ∙ eqb-true (slice_index bytes n) 39 et) in
        record {
          part = k.part;
          after = last.0;
          whole = k.whole ∙ ap (λ (l : List ℕ). k.part ++ l) last.1;
          size = omega (arith, k.size, b);
          is = rw (← a) k.is;
        }
    by false et f = absurd cc

apostrophe_cuts_at : (at : ℕ) (rest : List ℕ) (c : Option (ℕ × ℕ)) (a : Option (Attribute × ℕ)) (cut : Cut) →
    character_of (part_at 39 rest) rest ≡ c → attribute_at rest ≡ a → apostrophe_cut at c a ≡ Ok cut →
    Cuts cut (39 ∷ rest)
apostrophe_cuts_at at rest (Some (v, len)) a cut ec ea is =
    let k = character_is rest (part_at 39 rest) v len refl ec in
    let e : (Some (token.Character v), 1 + len) ≡ cut = cc in
    let size : length (k.part ++ 39 ∷ []) ≡ length k.part + 1 = length-append k.part (39 ∷ []) in
    subst (λ (k : Cut). Cuts k (39 ∷ rest)) e (record {
      front = 39 ∷ k.part ++ 39 ∷ [];
      after = k.after;
      whole = ap (λ (l : List ℕ). 39 ∷ l) (k.whole ∙ sym (append_assoc k.part (39 ∷ []) k.after));
      size = omega (arith, size, k.size);
      some = omega arith;
      is = ((k.part, refl, k.is), tt);
    })
apostrophe_cuts_at at rest None (Some (a, len)) cut ec ea is =
    let k = attribute_is rest (a, len) ea in
    let e : (Some (AttributeOf a), 1 + len) ≡ cut = cc in
    subst (λ (k : Cut). Cuts k (39 ∷ rest)) e (record {
      front = 39 ∷ attribute_name a;
      after = drop len rest;
      whole = ap (λ (l : List ℕ). 39 ∷ l) k.front;
      size = omega (arith, k.size);
      some = omega arith;
      is = (spelled a, tt);
    })
apostrophe_cuts_at at rest None None cut ec ea is = absurd cc

pub apostrophe_cuts : (at : ℕ) (rest : List ℕ) (cut : Cut) → apostrophe_piece at rest ≡ Ok cut → Cuts cut (39 ∷ rest)
unfolding apostrophe_piece
apostrophe_cuts at rest cut is =
    apostrophe_cuts_at at rest (character_of (part_at 39 rest) rest) (attribute_at rest) cut refl refl is

apostrophe_none : (at : ℕ) (c : Option (ℕ × ℕ)) (a : Option (Attribute × ℕ)) (f : Fault) →
    apostrophe_cut at c a ≡ Err f → f ≡ (BadByte, at)
apostrophe_none at (Some c) a f is = absurd cc
apostrophe_none at None (Some a) f is = absurd cc
apostrophe_none at None None f is = cc

pub apostrophe_bad : (at : ℕ) (rest : List ℕ) (f : Fault) → apostrophe_piece at rest ≡ Err f → f ≡ (BadByte, at)
unfolding apostrophe_piece
apostrophe_bad at rest f is = apostrophe_none at (character_of (part_at 39 rest) rest) (attribute_at rest) f is

pub apostrophe_fails : (at : ℕ) (rest : List ℕ) (f : Fault) → apostrophe_piece at rest ≡ Err f →
    IsFaultAt at (39 ∷ rest) f
apostrophe_fails at rest f is =
    Elsewhere 39 rest refl (omega arith) (λ e. omega (arith, e)) (other_front 39 rest (λ e. omega (arith, e)))
    (apostrophe_bad at rest f is)
