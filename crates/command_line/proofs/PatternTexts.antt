-- Laws of the texts of patterns.
use Rattle.std.proofs.Common.{◌≡◌, ◌≢◌, ◌∙◌, ℕ, zero, suc, ◌+◌, ◌-◌, ◌<◌, ◌≤◌, ◌^◌, ◌⊎◌, inl, inr, true, false, List, [], ◌∷◌, ◌++◌, Option, Some, None, length, take, drop, codes, decimal, refl, sym, ap, subst, arith, append_assoc, append-nil, take-add, take-append-drop}
use Rattle.std.specs.Prelude.{slice_range, slice_index, EachIndex}
use Rattle.std.specs.Str.Parse.{AllDigits}
use Rattle.std.specs.Int.{IsInRange}
use Rattle.std.proofs.lemmas.Fmt.{decimal_is_IsNumeral}
use Rattle.std.proofs.lemmas.Str.Parse.{digit_from_value}
use Rattle.std.proofs.lemmas.List.{append_cancel_right, map-append, drop_more}
use Rattle.std.proofs.lemmas.Bool.Decides.{nat_tests}
use Rattle.std.specs.List.{list_all}
use Rattle.command_line.specs.declared.path.Step.{Step}
use Rattle.command_line.specs.declared.pattern.PatternStep.{PatternStep}
use Rattle.command_line.specs.declared.pattern.PatternStep.TheVariants.{Exact, Elements, Fields}
use Rattle.command_line.specs.Paths.{PathStep, ToField, ToNameless, ToElement, step_of, steps_of, is_name_byte, IsName, IsStep, AreSteps, step_text, steps_text, IsPath, HasOnePath}
use Rattle.command_line.specs.Patterns.{PatternPart, ToOne, ToElements, ToFields, part_of, parts_of, is_exact, IsPlaceIfAny, place_text, span_text, IsPart, AreParts, part_text, parts_text, IsPartText, ArePartsText, IsPlaceText, IsSpanText, IsPattern, HasOnePattern, exact_parts, IsPathOf}
use Rattle.command_line.specs.StepCuts.{is_mark, MayFollow}
use Rattle.command_line.proofs.PathTexts as path
use Rattle.command_line.proofs.PathTexts.{tail_same, head_same, HasNoMark, cut_same, no_mark_append, digits_no_mark, decimal_same}

-- ---- spans

digits_of : (place : ℕ) → place < 2 ^ 64 → AllDigits 10 (decimal place)
digits_of place h = (decimal_is_IsNumeral place h).0.1

some_digits : (place : ℕ) → place < 2 ^ 64 → decimal place ≢ []
some_digits place h e =
    let some : 0 < length (decimal place) = (decimal_is_IsNumeral place h).0.0 in omega (arith, ap length e)

place_digits : (place : Option ℕ) → IsPlaceIfAny place → AllDigits 10 (place_text place)
place_digits None h = tt
place_digits (Some place) h = digits_of place h

place_same : (p q : Option ℕ) → IsPlaceIfAny p → IsPlaceIfAny q → place_text p ≡ place_text q → p ≡ q
place_same None None h k e = refl
place_same None (Some q) h k e = absurd (some_digits q k (sym e))
place_same (Some p) None h k e = absurd (some_digits p h e)
place_same (Some p) (Some q) h k e = ap Some (decimal_same p q h k e)

-- a star or a colon is no digit
no_star : (byte : ℕ) → IsInRange 48 57 byte → byte ≡ 42 → ⊥
no_star byte h e = omega (arith, h, e)

no_colon : (byte : ℕ) → IsInRange 48 57 byte → byte ≡ 58 → ⊥
no_colon byte h e = omega (arith, h, e)

-- what is before a colon, and after it
colon_cut : (a b t u : List ℕ) → AllDigits 10 a → AllDigits 10 b → a ++ 58 ∷ t ≡ b ++ 58 ∷ u → (a ≡ b) × (t ≡ u)
colon_cut [] [] t u da db e = (refl, tail_same e)
colon_cut [] (y ∷ b) t u da db e = absurd (no_colon y (digit_from_value y db.0) (sym (head_same e)))
colon_cut (x ∷ a) [] t u da db e = absurd (no_colon x (digit_from_value x da.0) (head_same e))
colon_cut (x ∷ a) (y ∷ b) t u da db e =
    let r = colon_cut a b t u da.1 db.1 (tail_same e) in
    (ap (λ z. z ∷ a) (head_same e) ∙ ap (λ z. y ∷ z) r.0, r.1)

digits_have_no_colon : (a t : List ℕ) → AllDigits 10 (a ++ 58 ∷ t) → ⊥
digits_have_no_colon [] t h = no_colon 58 (digit_from_value 58 h.0) refl
digits_have_no_colon (x ∷ a) t h = digits_have_no_colon a t h.1

-- the same, where the second text is what digits with a colon among them are
colon_split : (a b t u : List ℕ) → AllDigits 10 a → AllDigits 10 t → a ++ 58 ∷ t ≡ b ++ 58 ∷ u → (a ≡ b) × (t ≡ u)
colon_split [] [] t u da dt e = (refl, tail_same e)
colon_split [] (y ∷ b) t u da dt e = absurd (digits_have_no_colon b u (subst (AllDigits 10) (tail_same e) dt))
colon_split (x ∷ a) [] t u da dt e = absurd (no_colon x (digit_from_value x da.0) (head_same e))
colon_split (x ∷ a) (y ∷ b) t u da dt e =
    let r = colon_split a b t u da.1 dt (tail_same e) in
    (ap (λ z. z ∷ a) (head_same e) ∙ ap (λ z. y ∷ z) r.0, r.1)

star_no_colon : (a t : List ℕ) → AllDigits 10 a → codes "*" ≡ a ++ 58 ∷ t → ⊥
star_no_colon [] t h e = let f : ◌≡◌ {A = ℕ} 42 58 = head_same e in omega arith
star_no_colon (x ∷ a) t h e = no_star x (digit_from_value x h.0) (sym (head_same e))

-- a span that isn't all elements has a colon between its places
span_is : (from end : Option ℕ) →
    ((from ≡ None) × (end ≡ None)) ⊎ (span_text from end ≡ place_text from ++ 58 ∷ place_text end)
span_is None None = inl (refl, refl)
span_is None (Some end) = inr refl
span_is (Some from) end = inr refl

pub span_no_digits : (from end : Option ℕ) → AllDigits 10 (span_text from end) → ⊥
span_no_digits None None h = no_star 42 (digit_from_value 42 h.0) refl
span_no_digits None (Some end) h = digits_have_no_colon [] (decimal end) h
span_no_digits (Some from) end h = digits_have_no_colon (decimal from) (place_text end) h

-- a span with a colon
colon_same : (from end from' end' : Option ℕ) → IsPlaceIfAny from → IsPlaceIfAny end
    → IsPlaceIfAny from' → IsPlaceIfAny end'
    → place_text from ++ 58 ∷ place_text end ≡ place_text from' ++ 58 ∷ place_text end' → (from ≡ from') × (end ≡ end')
colon_same from end from' end' f e f' e' is =
    let r = colon_cut (place_text from) (place_text from') (place_text end) (place_text end') (place_digits from f)
    (place_digits from' f') is in
    (place_same from from' f f' r.0, place_same end end' e e' r.1)

pub span_same : (from end from' end' : Option ℕ) → IsPlaceIfAny from → IsPlaceIfAny end
    → IsPlaceIfAny from' → IsPlaceIfAny end'
    → span_text from end ≡ span_text from' end' → (from ≡ from') × (end ≡ end')
span_same None None None None f e f' e' is = (refl, refl)
span_same None None None (Some end') f e f' e' is = absurd (star_no_colon [] (decimal end') tt is)
span_same None None (Some from') end' f e f' e' is =
    absurd (star_no_colon (decimal from') (place_text end') (digits_of from' f') is)
span_same None (Some end) None None f e f' e' is = absurd (star_no_colon [] (decimal end) tt (sym is))
span_same (Some from) end None None f e f' e' is =
    absurd (star_no_colon (decimal from) (place_text end) (digits_of from f) (sym is))
span_same None (Some end) None (Some end') f e f' e' is = colon_same None (Some end) None (Some end') f e f' e' is
span_same None (Some end) (Some from') end' f e f' e' is = colon_same None (Some end) (Some from') end' f e f' e' is
span_same (Some from) end None (Some end') f e f' e' is = colon_same (Some from) end None (Some end') f e f' e' is
span_same (Some from) end (Some from') end' f e f' e' is = colon_same (Some from) end (Some from') end' f e f' e' is

star_is_not : (a t : List ℕ) → codes "*" ≡ a ++ 58 ∷ t → ⊥
star_is_not [] t e = let f : ◌≡◌ {A = ℕ} 42 58 = head_same e in omega arith
star_is_not (x ∷ []) t e = let f : ◌≡◌ {A = List ℕ} [] (58 ∷ t) = tail_same e in cc
star_is_not (x ∷ y ∷ a) t e = let f : ◌≡◌ {A = List ℕ} [] (y ∷ (a ++ 58 ∷ t)) = tail_same e in cc

-- the places of a span are what is before and after its colon
abbrev ArePlaces : (from end : List ℕ) → (first last : Option ℕ) → Type 0
ArePlaces from end first last = IsPlaceText from first × IsPlaceText end last

pub span_places : (from end : List ℕ) (first last : Option ℕ) → IsSpanText (from ++ 58 ∷ end) first last →
    ArePlaces from end first last
span_places from end None None h = absurd (star_is_not from end h.2)
span_places from end None (Some last) h =
    let r = colon_split [] from (decimal last) end tt (digits_of last h.1) h.2 in
    ((tt, r.0), (h.1, r.1))
span_places from end (Some first) last h =
    let r = colon_split (decimal first) from (place_text last) end (digits_of first h.0) (place_digits last h.1) h.2 in
    ((h.0, r.0), (h.1, r.1))

pub places_span : (from end : List ℕ) (first last : Option ℕ) → ¬ ((from ≡ []) × (end ≡ [])) → IsPlaceText from first →
    IsPlaceText end last → IsSpanText (from ++ 58 ∷ end) first last
places_span from end None None some h k = absurd (some (sym h.1, sym k.1))
places_span from end None (Some last) some h k =
    (tt, k.0, ap (λ f. f ++ 58 ∷ decimal last) h.1 ∙ ap (λ e. from ++ 58 ∷ e) k.1)
places_span from end (Some first) last some h k =
    (h.0, k.0, ap (λ f. f ++ 58 ∷ place_text last) h.1 ∙ ap (λ e. from ++ 58 ∷ e) k.1)

-- two empty places are no span
pub no_places : (first last : Option ℕ) → ¬ (IsSpanText (58 ∷ []) first last)
no_places None None h = star_is_not [] [] h.2
no_places None (Some last) h = some_digits last h.1 (tail_same h.2)
no_places (Some first) last h =
    let r = colon_split (decimal first) [] (place_text last) [] (digits_of first h.0) (place_digits last h.1) h.2 in
    some_digits first h.0 r.0

-- a text without a colon is no span but the star
has_colon : (a t : List ℕ) → ((k : ℕ) → k < length (a ++ 58 ∷ t) → slice_index (a ++ 58 ∷ t) k ≢ 58) → ⊥
has_colon [] t h = h 0 (omega arith) refl
has_colon (x ∷ a) t h = has_colon a t (λ k lt. h (suc k) (omega (arith, lt)))

pub no_colon_no_span : (text : List ℕ) → EachIndex text (λ k. slice_index text k ≢ 58) → text ≢ codes "*" →
    (first last : Option ℕ) → ¬ (IsSpanText text first last)
no_colon_no_span text none other None None h = other (sym h.2)
no_colon_no_span text none other None (Some last) h =
    has_colon [] (decimal last) (subst (λ t. EachIndex t (λ k. slice_index t k ≢ 58)) (sym h.2) none)
no_colon_no_span text none other (Some first) last h =
    has_colon (decimal first) (place_text last) (subst (λ t. EachIndex t (λ k. slice_index t k ≢ 58)) (sym h.2) none)

-- a text is cut at a colon
pub cut_at_colon : (text : List ℕ) (place : ℕ) → place < length text → slice_index text place ≡ 58 →
    take place text ++ 58 ∷ drop (place + 1) text ≡ text
cut_at_colon text place lt is =
    let at : drop place text ≡ slice_index text place ∷ drop (place + 1) text = drop_more text place 0 lt in
    ap (λ byte. take place text ++ byte ∷ drop (place + 1) text) (sym is)
    ∙ ap (λ rest. take place text ++ rest) (sym at) ∙ take-append-drop place text

-- ---- a step

abbrev first_of : PatternPart → ℕ
first_of (ToOne step) = path.first_of step
first_of (ToElements from end) = 91
first_of ToFields = 46

abbrev body_of : PatternPart → List ℕ
body_of (ToOne step) = path.body_of step
body_of (ToElements from end) = span_text from end ++ codes "]"
body_of ToFields = codes "*"

text_is : (part : PatternPart) → part_text part ≡ first_of part ∷ body_of part
text_is (ToOne step) = path.text_is step
text_is (ToElements from end) = refl
text_is ToFields = refl

first_is_mark : (part : PatternPart) → is_mark (first_of part) ≡ true
first_is_mark (ToOne step) = path.first_is_mark step
first_is_mark (ToElements from end) = refl
first_is_mark ToFields = refl

span_no_mark : (from end : Option ℕ) → IsPlaceIfAny from → IsPlaceIfAny end → HasNoMark (span_text from end)
span_no_mark None None f e = (refl, tt)
span_no_mark None (Some end) f e = (refl, digits_no_mark (decimal end) (digits_of end e))
span_no_mark (Some from) end f e =
    no_mark_append (decimal from) (58 ∷ place_text end) (digits_no_mark (decimal from) (digits_of from f))
    (refl, digits_no_mark (place_text end) (place_digits end e))

body_no_mark : (part : PatternPart) → IsPart part → HasNoMark (body_of part)
body_no_mark (ToOne step) h = path.body_no_mark step h
body_no_mark (ToElements from end) h =
    no_mark_append (span_text from end) (codes "]") (span_no_mark from end h.0 h.1) (refl, tt)
body_no_mark ToFields h = (refl, tt)

ends_some : (a : List ℕ) (x : ℕ) → a ++ x ∷ [] ≢ []
ends_some [] x e = cc
ends_some (y ∷ a) x e = cc

body_some : (part : PatternPart) → IsPart part → body_of part ≢ []
body_some (ToOne step) h e = path.body_some step h e
body_some (ToElements from end) h e = ends_some (span_text from end) 93 e
body_some ToFields h e = cc

-- a name isn't a star
name_no_star : (name : List ℕ) → IsName name → name ≡ codes "*" → ⊥
name_no_star [] h e = h
name_no_star (byte ∷ bytes) h e =
    let is : is_name_byte byte ≡ true = h.1.0 in let at : byte ≡ 42 = head_same e in grind (arith, nat_tests)

digits_no_star : (digits : List ℕ) → AllDigits 10 digits → digits ≡ codes "*" → ⊥
digits_no_star [] h e = cc
digits_no_star (byte ∷ bytes) h e = no_star byte (digit_from_value byte h.0) (head_same e)

-- a step of a path isn't elements or fields
step_no_span : (step : PathStep) (from end : Option ℕ) → IsStep step →
    step_text step ≡ part_text (ToElements from end) → ⊥
step_no_span (ToField name) from end h e = let f : ◌≡◌ {A = ℕ} 46 91 = head_same e in omega arith
step_no_span (ToNameless place) from end h e = let f : ◌≡◌ {A = ℕ} 46 91 = head_same e in omega arith
step_no_span (ToElement place) from end h e =
    span_no_digits from end (subst (AllDigits 10)
    (append_cancel_right (decimal place) (span_text from end) (codes "]") (tail_same e)) (digits_of place h))

step_no_fields : (step : PathStep) → IsStep step → step_text step ≡ codes ".*" → ⊥
step_no_fields (ToField name) h e = name_no_star name h (tail_same e)
step_no_fields (ToNameless place) h e = digits_no_star (decimal place) (digits_of place h) (tail_same e)
step_no_fields (ToElement place) h e = let f : ◌≡◌ {A = ℕ} 91 46 = head_same e in omega arith

part_same : (a b : PatternPart) → IsPart a → IsPart b → part_text a ≡ part_text b → a ≡ b
part_same (ToOne s) (ToOne t) h k e = ap ToOne (path.step_same s t h k e)
part_same (ToOne s) (ToElements from end) h k e = absurd (step_no_span s from end h e)
part_same (ToOne s) ToFields h k e = absurd (step_no_fields s h e)
part_same (ToElements from end) (ToOne t) h k e = absurd (step_no_span t from end k (sym e))
part_same (ToElements from end) (ToElements from' end') h k e =
    let r = span_same from end from' end' h.0 h.1 k.0 k.1
    (append_cancel_right (span_text from end) (span_text from' end') (codes "]") (tail_same e)) in
    ap (λ f. ToElements f end) r.0 ∙ ap (ToElements from') r.1
part_same (ToElements from end) ToFields h k e = absurd (let f : ◌≡◌ {A = ℕ} 91 46 = head_same e in omega arith)
part_same ToFields (ToOne t) h k e = absurd (step_no_fields t k (sym e))
part_same ToFields (ToElements from end) h k e = absurd (let f : ◌≡◌ {A = ℕ} 46 91 = head_same e in omega arith)
part_same ToFields ToFields h k e = refl

-- ---- steps

split_is : (step : PatternPart) (rest : List ℕ) → part_text step ++ rest ≡ first_of step ∷ (body_of step ++ rest)
split_is step rest = ap (λ t. t ++ rest) (text_is step)

parts_follow : (steps : List PatternPart) → MayFollow (parts_text steps)
parts_follow [] = tt
parts_follow (step ∷ steps) = subst MayFollow (sym (split_is step (parts_text steps))) (first_is_mark step)

-- two texts that begin with a step are cut after the same step
part_cut : (a b : PatternPart) (t u : List ℕ) → IsPart a → IsPart b → MayFollow t → MayFollow u →
    part_text a ++ t ≡ part_text b ++ u → (a ≡ b) × (t ≡ u)
part_cut a b t u h k ft fu e =
    let whole : first_of a ∷ (body_of a ++ t) ≡ first_of b ∷ (body_of b ++ u) = sym (split_is a t) ∙ e ∙ split_is b u in
    let r = cut_same (body_of a) (body_of b) t u (body_no_mark a h) (body_no_mark b k) ft fu (tail_same whole) in
    let same : part_text a ≡ part_text b =
    text_is a ∙ ap (λ z. z ∷ body_of a) (head_same whole) ∙ ap (λ z. first_of b ∷ z) r.0 ∙ sym (text_is b) in
    (part_same a b h k same, r.1)

nothing_begins : (step : PatternPart) (rest : List ℕ) → part_text step ++ rest ≢ []
nothing_begins step rest e = let f : first_of step ∷ (body_of step ++ rest) ≡ [] = sym (split_is step rest) ∙ e in cc

parts_same : (a b : List PatternPart) → AreParts a → AreParts b → parts_text a ≡ parts_text b → a ≡ b
parts_same [] [] h k e = refl
parts_same [] (t ∷ b) h k e = absurd (nothing_begins t (parts_text b) (sym e))
parts_same (s ∷ a) [] h k e = absurd (nothing_begins s (parts_text a) e)
parts_same (s ∷ a) (t ∷ b) h k e =
    let r = part_cut s t (parts_text a) (parts_text b) h.0 k.0 (parts_follow a) (parts_follow b) e in
    ap (λ z. z ∷ a) r.0 ∙ ap (λ z. t ∷ z) (parts_same a b h.1 k.1 r.1)

-- a dot alone is no step
dot_no_steps : (step : PatternPart) (steps : List PatternPart) → IsPart step → parts_text (step ∷ steps) ≢ codes "."
dot_no_steps step steps h e =
    let whole : first_of step ∷ (body_of step ++ parts_text steps) ≡ 46 ∷ [] =
    sym (split_is step (parts_text steps)) ∙ e in
    none (body_of step) (body_some step h) (tail_same whole)
  where
    none : (a : List ℕ) → a ≢ [] → a ++ parts_text steps ≢ []
    none [] h e = h refl
    none (x ∷ a) h e = cc

pub one_pattern : HasOnePattern
one_pattern text [] [] h k = refl
one_pattern text [] (t ∷ b) h k = absurd (dot_no_steps t b k.0.0 (k.1 ∙ sym h.1))
one_pattern text (s ∷ a) [] h k = absurd (dot_no_steps s a h.0.0 (h.1 ∙ sym k.1))
one_pattern text (s ∷ a) (t ∷ b) h k = parts_same (s ∷ a) (t ∷ b) h.0 k.0 (h.1 ∙ sym k.1)

-- ---- reading steps one after the other

parts_more : (steps : List PatternPart) (step : PatternPart) →
    parts_text (steps ++ step ∷ []) ≡ parts_text steps ++ part_text step
parts_more [] step = append-nil (part_text step)
parts_more (first ∷ steps) step =
    ap (λ s. part_text first ++ s) (parts_more steps step)
    ∙ sym (append_assoc (part_text first) (parts_text steps) (part_text step))

are_more : (steps : List PatternPart) (step : PatternPart) → AreParts steps → IsPart step →
    AreParts (steps ++ step ∷ [])
are_more [] step h g = (g, tt)
are_more (first ∷ steps) step h g = (h.0, are_more steps step h.1 g)

-- the steps so far, and one more
pub text_more : (text : List ℕ) (done end : ℕ) (steps more : List PatternStep) (step : PatternStep) → done ≤ end
    → ArePartsText (take done text) (parts_of steps) → IsPartText (slice_range text done end) (part_of step)
    → more ≡ steps ++ step ∷ []
    → ArePartsText (take end text) (parts_of more)
text_more text done end steps more step le first next all =
    let e : done + (end - done) ≡ end = omega (arith, le) in
    let is : parts_of more ≡ parts_of steps ++ part_of step ∷ [] =
    ap parts_of all ∙ map-append part_of steps (step ∷ []) in
    let text_is : parts_text (parts_of steps ++ part_of step ∷ []) ≡ take end text =
    parts_more (parts_of steps) (part_of step) ∙ ap (λ s. s ++ part_text (part_of step)) first.1
    ∙ ap (λ s. take done text ++ s) next.1
    ∙ sym (take-add done (end - done) text) ∙ ap (λ n. take n text) e in
    subst (ArePartsText (take end text)) (sym is) (are_more (parts_of steps) (part_of step) first.0 next.0, text_is)

-- after the steps so far the other steps of the text are those of the rest
rest_steps : (so_far all : List PatternPart) (rest : List ℕ) → AreParts so_far → AreParts all
    → (so_far ≡ []) ⊎ MayFollow rest
    → parts_text all ≡ parts_text so_far ++ rest → (tail : List PatternPart) × ArePartsText rest tail
rest_steps [] all rest h k f e = (all, (k, e))
rest_steps (s ∷ so_far) [] rest h k f e =
    absurd
    (nothing_begins s (parts_text so_far ++ rest) (sym (append_assoc (part_text s) (parts_text so_far) rest) ∙ sym e))
rest_steps (s ∷ so_far) (t ∷ all) rest h k f e =
    let ends : MayFollow rest = elim f [ inl x ↦ cc | inr x ↦ x ] in
    let r = part_cut t s (parts_text all) (parts_text so_far ++ rest) k.0 h.0 (parts_follow all) (follow so_far ends)
    (e ∙ append_assoc (part_text s) (parts_text so_far) rest) in
    rest_steps so_far all rest h.1 k.1 (inr ends) r.1
  where
    follow : (steps : List PatternPart) → MayFollow rest → MayFollow (parts_text steps ++ rest)
    follow [] g = g
    follow (step ∷ steps) g =
        subst MayFollow
        (sym (append_assoc (part_text step) (parts_text steps) rest ∙ split_is step (parts_text steps ++ rest)))
        (first_is_mark step)

no_mark_within : (bytes : List ℕ) (n : ℕ) → n ≤ length bytes →
    ((k : ℕ) → k < n → is_mark (slice_index bytes k) ≡ false) → HasNoMark (take n bytes)
no_mark_within bytes zero most none = tt
no_mark_within [] (suc n) most none = absurd (omega (arith, most))
no_mark_within (x ∷ bytes) (suc n) most none =
    (none 0 (omega arith), no_mark_within bytes n (omega (arith, most)) (λ k lt. none (suc k) (omega (arith, lt))))

-- the first of the steps of a text is its front, up to the next mark
first_step : (rest : List ℕ) (n : ℕ) (steps : List PatternPart) → 0 < n → n ≤ length rest
    → ((k : ℕ) → 0 < k → k < n → is_mark (slice_index rest k) ≡ false) → MayFollow (drop n rest)
    → ArePartsText rest steps → (step : PatternPart) × IsPartText (take n rest) step
first_step [] n steps some most none next h = absurd (omega (arith, some, most))
first_step (x ∷ rest) zero steps some most none next h = absurd (omega (arith, some))
first_step (x ∷ rest) (suc n) [] some most none next h = absurd (let e : [] ≡ x ∷ rest = h.1 in cc)
first_step (x ∷ rest) (suc n) (step ∷ steps) some most none next h =
    let whole : first_of step ∷ (body_of step ++ parts_text steps) ≡ x ∷ (take n rest ++ drop n rest) =
    sym (split_is step (parts_text steps)) ∙ h.1 ∙ ap (λ z. x ∷ z) (sym (take-append-drop n rest)) in
    let r = cut_same (body_of step) (take n rest) (parts_text steps) (drop n rest) (body_no_mark step h.0.0)
    (no_mark_within rest n (omega (arith, most)) (λ k lt. none (suc k) (omega arith) (omega (arith, lt))))
    (parts_follow steps) next (tail_same whole) in
    (step, (h.0.0, text_is step ∙ ap (λ z. z ∷ body_of step) (head_same whole) ∙ ap (λ z. x ∷ z) r.0))

nothing_so_far : (steps : List PatternPart) → parts_text steps ≡ [] → steps ≡ []
nothing_so_far [] e = refl
nothing_so_far (step ∷ steps) e = absurd (nothing_begins step (parts_text steps) e)

-- if the next step isn't one, the text is that of no steps
pub no_steps : (text rest : List ℕ) (done n : ℕ) (so_far : List PatternStep) → done < length text
    → rest ≡ drop done text → ArePartsText (take done text) (parts_of so_far)
    → (done ≡ 0) ⊎ MayFollow (drop done text) → 0 < n → n ≤ length rest
    → ((k : ℕ) → 0 < k → k < n → is_mark (slice_index rest k) ≡ false) → MayFollow (drop n rest)
    → ((step : PatternPart) → ¬ (IsPartText (take n rest) step)) → (all : List PatternPart) → ¬ (ArePartsText text all)
no_steps text rest done n so_far lt is first begins some most none next wrong all h =
    let e : parts_text all ≡ parts_text (parts_of so_far) ++ rest =
    h.1 ∙ sym (take-append-drop done text) ∙ ap (λ s. take done text ++ s) (sym is)
    ∙ ap (λ s. s ++ rest) (sym first.1) in
    let before : (parts_of so_far ≡ []) ⊎ MayFollow rest = elim begins [
      | inl z ↦ inl (nothing_so_far (parts_of so_far) (first.1 ∙ ap (λ k. take k text) z))
      | inr x ↦ inr (subst MayFollow (sym is) x)
    ] in
    let tail = rest_steps (parts_of so_far) all rest first.0 h.0 before e in
    let step = first_step rest n tail.0 some most none next tail.1 in
    wrong step.0 step.1

-- ---- paths among patterns

one_same : {a b : PathStep} → ToOne a ≡ ToOne b → a ≡ b
one_same e = cc

first_same : {a b : PatternPart} {xs ys : List PatternPart} → a ∷ xs ≡ b ∷ ys → a ≡ b
first_same e = cc

later_same : {a b : PatternPart} {xs ys : List PatternPart} → a ∷ xs ≡ b ∷ ys → xs ≡ ys
later_same e = cc

exact_only : (a b : List PatternPart) (step : PatternStep) → is_exact step ≡ false → (steps : List PathStep) →
    exact_parts steps ≡ a ++ part_of step ∷ b → ⊥
exact_only [] b (Exact step) other steps e = cc
exact_only [] b (Elements span) other [] e = cc
exact_only [] b (Elements span) other (s ∷ steps) e =
    let f : ToOne s ≡ ToElements span.from span.end = first_same e in cc
exact_only [] b Fields other [] e = cc
exact_only [] b Fields other (s ∷ steps) e = let f : ToOne s ≡ ToFields = first_same e in cc
exact_only (p ∷ a) b step other [] e = cc
exact_only (p ∷ a) b step other (s ∷ steps) e = exact_only a b step other steps (later_same e)

-- steps among which is one that may lead to many parts are no path
pub no_exact_path : (before after all : List PatternStep) (step : PatternStep) → before ++ step ∷ after ≡ all →
    is_exact step ≡ false → IsPathOf (parts_of all) None
no_exact_path before after all step is other steps e =
    exact_only (parts_of before) (parts_of after) step other steps
    (e ∙ ap parts_of (sym is) ∙ map-append part_of before (step ∷ after))

-- one more step of a path
pub exact_more : (steps more : List Step) (step : Step) (before : List PatternStep)
    → exact_parts (steps_of steps) ≡ parts_of before → more ≡ steps ++ step ∷ []
    → exact_parts (steps_of more) ≡ parts_of (before ++ Exact step ∷ [])
exact_more steps more step before so_far all =
    ap (λ s. exact_parts (steps_of s)) all ∙ ap exact_parts (map-append step_of steps (step ∷ []))
    ∙ map-append ToOne (steps_of steps) (step_of step ∷ [])
    ∙ ap (λ parts. parts ++ ToOne (step_of step) ∷ []) so_far ∙ sym (map-append part_of before (Exact step ∷ []))

pub nothing_left : {X : Type 0} (left : List X) → length left ≡ 0 → left ≡ []
nothing_left [] h = refl
nothing_left (x ∷ left) h = absurd (omega (arith, h))

exact_are : (steps : List PathStep) → AreSteps steps → AreParts (exact_parts steps)
exact_are [] h = tt
exact_are (step ∷ steps) h = (h.0, exact_are steps h.1)

are_exact : (steps : List PathStep) → AreParts (exact_parts steps) → AreSteps steps
are_exact [] h = tt
are_exact (step ∷ steps) h = (h.0, are_exact steps h.1)

exact_text : (steps : List PathStep) → parts_text (exact_parts steps) ≡ steps_text steps
exact_text [] = refl
exact_text (step ∷ steps) = ap (λ text. step_text step ++ text) (exact_text steps)

pub pattern_from_path : (text : List ℕ) (steps : List PathStep) → IsPath text steps → IsPattern text (exact_parts steps)
pattern_from_path text [] h = (tt, h.1)
pattern_from_path text (step ∷ steps) h = (exact_are (step ∷ steps) h.0, exact_text (step ∷ steps) ∙ h.1)

pub path_from_pattern : (text : List ℕ) (steps : List PathStep) (parts : List PatternPart) → exact_parts steps ≡ parts →
    IsPattern text parts → IsPath text steps
path_from_pattern text [] parts e h = let g : IsPattern text [] = subst (IsPattern text) (sym e) h in (tt, g.1)
path_from_pattern text (step ∷ steps) parts e h =
    let g : IsPattern text (exact_parts (step ∷ steps)) = subst (IsPattern text) (sym e) h in
    (are_exact (step ∷ steps) g.0, sym (exact_text (step ∷ steps)) ∙ g.1)

-- a pattern that is no path is not the text of one
pub no_path : (text : List ℕ) (parts : List PatternPart) → IsPattern text parts → IsPathOf parts None →
    (steps : List PathStep) → ¬ (IsPath text steps)
no_path text parts h other steps g =
    other steps (one_pattern text (exact_parts steps) parts (pattern_from_path text steps g) h)

exact_same : (a b : List PathStep) → exact_parts a ≡ exact_parts b → a ≡ b
exact_same [] [] e = refl
exact_same [] (t ∷ b) e = cc
exact_same (s ∷ a) [] e = cc
exact_same (s ∷ a) (t ∷ b) e =
    ap (λ z. z ∷ a) (one_same (first_same e)) ∙ ap (λ z. t ∷ z) (exact_same a b (later_same e))

pub one_path : HasOnePath
one_path text a b h k = exact_same a b
    (one_pattern text (exact_parts a) (exact_parts b) (pattern_from_path text a h) (pattern_from_path text b k))

-- the steps that those of a pattern are that leads to one part
abbrev steps_in : List PatternStep → List PathStep
steps_in [] = []
steps_in (Exact step ∷ steps) = step_of step ∷ steps_in steps
steps_in (Elements span ∷ steps) = steps_in steps
steps_in (Fields ∷ steps) = steps_in steps

steps_same : (steps : List PatternStep) → list_all is_exact steps ≡ true → exact_parts (steps_in steps) ≡ parts_of steps
steps_same [] h = refl
steps_same (Exact step ∷ steps) h = ap (λ parts. ToOne (step_of step) ∷ parts) (steps_same steps h)
steps_same (Elements span ∷ steps) h = cc
steps_same (Fields ∷ steps) h = cc

-- the text of such a pattern is a path
pub path_of_exact : (text : List ℕ) (steps : List PatternStep) → list_all is_exact steps ≡ true
    → IsPattern text (parts_of steps) → (path : List PathStep) × IsPath text path
path_of_exact text steps exact h =
    (steps_in steps, path_from_pattern text (steps_in steps) (parts_of steps) (steps_same steps exact) h)
