-- What the definitions of arguments, writers and runs refuse.
use Rattle.std.proofs.Common.{◌≡◌, ◌<◌, ◌++◌, ℕ, List, [], ◌∷◌, length, Some, refl, sym, ap, subst, inl, inr, arith}
use Rattle.std.specs.Prelude.{codes}
use Rattle.bit_space.specs.SpaceView.{SpaceView, HasRisen, honest}
use Rattle.command_line.specs.declared.ask.Ask.{Ask}
use Rattle.run_parts.specs.declared.accept.Refusal.{Refusal}
use Rattle.run_parts.specs.declared.accept.Refusal.TheVariants as refusal
use Rattle.run_parts.specs.declared.status.Status.{Status}
use Rattle.run_parts.specs.declared.status.Status.TheVariants.{Done, Fault, Refused, Outside}
use Rattle.run_parts.specs.Accepted.{refusal_saying}
use Rattle.run_parts.specs.Lines.{fault_line}
use Rattle.command_line.specs.OffsetWord.{IsOffsetWord}
use Rattle.poke_batch.specs.Runs.{MapsAs, value, stops, device, unknown, refused_map, no_memory}
use Rattle.run_parts.specs.Told.{Saying, Text, Line, IsWritten, IsSaid, Says}

abbrev IsCons : List ℕ → Type 0
IsCons [] = ⊥
IsCons (x ∷ xs) = Unit {0}

no_more : {x : ℕ} {xs : List ℕ} → [] ≡ x ∷ xs → ⊥
no_more e = absurd (subst IsCons (sym e) tt)

abbrev IsDone : Status → Type 0
IsDone Done = Unit {0}
IsDone Fault = ⊥
IsDone Refused = ⊥
IsDone Outside = ⊥

done_is_not_outside : Done ≡ Outside → ⊥
done_is_not_outside e = absurd (subst IsDone e tt)

-- no failure, and the count says none
not_risen : (before after : ℕ) → before ≡ 0 → after ≡ 0 → HasRisen before after → ⊥
not_risen before after b a risen = absurd (omega (arith, a, risen (omega (arith, b))))

-- a number without a unit is no offset
abbrev tail : List ℕ → List ℕ
tail [] = []
tail (x ∷ xs) = xs

abbrev head : List ℕ → ℕ
head [] = 0
head (x ∷ xs) = x

apart : (m n : ℕ) → m < n → m ≡ n → ⊥
apart m n less e = absurd (omega (arith, less, e))

no_sign : (front behind : List ℕ) → codes "8" ≡ front ++ 35 ∷ behind → ⊥
no_sign [] behind e = apart 35 56 (omega arith) (sym (ap head e))
no_sign (x ∷ []) behind e = no_more (ap tail e)
no_sign (x ∷ y ∷ front) behind e = no_more (ap tail e)

no_unit : (bits : ℕ) → IsOffsetWord (codes "8") bits → ⊥
no_unit bits w = no_sign w.magnitude w.unit w.parts

-- a text without its last byte is not done, nor is one that is written twice
a_byte_less : IsWritten (codes "ab") Done (Some []) (Some (codes "a")) (Some []) (Some []) → ⊥
a_byte_less (inl (done, appends, keeps)) = apart 1 2 (omega arith) (ap length appends)
a_byte_less (inr (failed, part, told)) = done_is_not_outside failed

twice : IsWritten (codes "a") Done (Some []) (Some (codes "aa")) (Some []) (Some []) → ⊥
twice (inl (done, appends, keeps)) = apart 1 2 (omega arith) (sym (ap length appends))
twice (inr (failed, part, told)) = done_is_not_outside failed

-- nor does a run end well that wrote nothing of its text
nothing_written : IsWritten (codes "a") Done (Some []) (Some []) (Some []) (Some []) → ⊥
nothing_written (inl (done, appends, keeps)) = apart 0 1 (omega arith) (ap length appends)
nothing_written (inr (failed, part, told)) = done_is_not_outside failed

silent : Says (λ saying. saying ≡ Text (codes "a")) Done (Some []) (Some []) (Some []) (Some []) → ⊥
silent s = nothing_written (subst (λ saying. IsSaid saying Done (Some []) (Some []) (Some []) (Some [])) s.right s.said)

-- a mapping prints no line with the exit status of one that is done
abbrev LineHas : (Status → Type 0) → Saying → Type 0
LineHas P (Text text) = Unit {0}
LineHas P (Line status line) = P status

abbrev IsNotDone : Status → Type 0
IsNotDone Done = ⊥
IsNotDone Fault = Unit {0}
IsNotDone Refused = Unit {0}
IsNotDone Outside = Unit {0}

refusal_not_done : (refusal : Refusal) → LineHas IsNotDone (refusal_saying refusal)
refusal_not_done (refusal.Tokens kind at) = tt
refusal_not_done (refusal.Syntax at) = tt
refusal_not_done refusal.TooDeep = tt
refusal_not_done refusal.TooMany = tt
refusal_not_done (refusal.Types kind declaration) = tt
refusal_not_done refusal.Memory = tt

map_not_done : {pickle : List ℕ} {ask : Ask} {before after : SpaceView} {saying : Saying} →
    MapsAs pickle ask before after saying → LineHas IsNotDone saying
map_not_done (value asked means fits) = tt
map_not_done (stops asked no_device not_memory means run limit) = tt
map_not_done (device asked risen) = tt
map_not_done (unknown accepted none) = tt
map_not_done (refused_map {refusal} refuses) = refusal_not_done refusal
map_not_done no_memory = tt

a_fault_is_done : (pickle : List ℕ) (ask : Ask) (before after : SpaceView) (line : List ℕ) →
    MapsAs pickle ask before after (Line Done line) → ⊥
a_fault_is_done pickle ask before after line m = map_not_done m

-- nor of a device where none failed: the seventh byte of that line is a D
abbrev seventh : List ℕ → ℕ
seventh line = head (tail (tail (tail (tail (tail (tail line))))))

abbrev TellsDevice : Saying → Type 0
TellsDevice (Text text) = ⊥
TellsDevice (Line Done line) = ⊥
TellsDevice (Line Fault line) = ⊥
TellsDevice (Line Refused line) = ⊥
TellsDevice (Line Outside line) = seventh line ≡ 68

refusal_no_device : (refusal : Refusal) → TellsDevice (refusal_saying refusal) → ⊥
refusal_no_device (refusal.Tokens kind at) h = h
refusal_no_device (refusal.Syntax at) h = h
refusal_no_device refusal.TooDeep h = h
refusal_no_device refusal.TooMany h = h
refusal_no_device (refusal.Types kind declaration) h = h
refusal_no_device refusal.Memory h = apart 68 77 (omega arith) (sym h)

map_no_device : {pickle : List ℕ} {ask : Ask} {before after : SpaceView} {saying : Saying} → before.failures ≡ 0 →
    after.failures ≡ 0 → MapsAs pickle ask before after saying → TellsDevice saying → ⊥
map_no_device b a (value asked means fits) h = h
map_no_device b a (stops asked no_device not_memory means run limit) h = h
map_no_device b a (device asked risen) h = not_risen _ _ b a risen
map_no_device b a (unknown accepted none) h = h
map_no_device b a (refused_map {refusal} refuses) h = refusal_no_device refusal h
map_no_device b a no_memory h = apart 68 77 (omega arith) (sym h)

no_device_failed : (pickle bytes : List ℕ) (ask : Ask) →
    MapsAs pickle ask (honest bytes) (honest bytes) (Line Outside (fault_line (codes "Device"))) → ⊥
no_device_failed pickle bytes ask m = map_no_device refl refl m refl
