-- Plans that are alike but for the frames that are stored beside what they do.
use Rattle.std.proofs.Common.{◌≡◌, ℕ, zero, suc, Bool, true, false, Result, Ok, Err}
use Rattle.std.specs.Prelude.{if◌then◌else◌}
use Rattle.bit_space.specs.declared.order.Order.{Order}
use Rattle.pickle_meaning.specs.Values.{Levels}
use Rattle.value_store.specs.Moves.{Move, Opens, Drops}
use Rattle.mapping_plans.specs.Plan.{Plan, Ended, Tick, Made, Read, and_then, after, on_value, then_ok, leave_frame, framed}

-- the same steps, moves and reads; each pair of frames at a move is one of these, and each pair of results one of those
pub data Alike {A : Type 0} (Pair : Move → Levels → Levels → Type 0) (Ends : A → A → Type 0) : Plan A →
    Plan A → Type 0 where
  ended_alike : {a b : A} → Ends a b → Alike Pair Ends (Ended a) (Ended b)
  tick_alike : {p q : Plan A} → Alike Pair Ends p q → Alike Pair Ends (Tick p) (Tick q)
  made_alike : {count : ℕ} {move : Move} {levels levels' : Levels} {p q : Plan A} → Pair move levels levels' →
      Alike Pair Ends p q → Alike Pair Ends (Made count move levels p) (Made count move levels' q)
  read_alike : {place width : ℕ} {order : Order} {ps qs : ℕ → Plan A} → ((n : ℕ) → Alike Pair Ends (ps n) (qs n)) →
      Alike Pair Ends (Read place width order ps) (Read place width order qs)

-- values that make such a pair, or the same fault
abbrev pub Both : {A F : Type 0} → (Ends : A → A → Type 0) → Result A F → Result A F → Type 0
Both Ends (Ok a) (Ok b) = Ends a b
Both Ends (Ok a) (Err f) = ⊥
Both Ends (Err e) (Ok b) = ⊥
Both Ends (Err e) (Err f) = e ≡ f

-- the same result
abbrev pub Same : {A : Type 0} → A → A → Type 0
Same a b = a ≡ b

module _ {Pair : Move → Levels → Levels → Type 0} where
  pub then_alike : {A B : Type 0} {Mid : A → A → Type 0} {Ends : B → B → Type 0} {p q : Plan A} (f g : A → Plan B) →
      Alike Pair Mid p q → ((a b : A) → Mid a b → Alike Pair Ends (f a) (g b)) →
      Alike Pair Ends (and_then p f) (and_then q g)
  then_alike f g (ended_alike {a} {b} e) h = h a b e
  then_alike f g (tick_alike s) h = tick_alike (then_alike f g s h)
  then_alike f g (made_alike pair s) h = made_alike pair (then_alike f g s h)
  then_alike f g (read_alike s) h = read_alike (λ n. then_alike f g (s n) h)

  value_alike : {A B F : Type 0} {Mid : A → A → Type 0} {Ends : B → B → Type 0} (f g : A → Plan (Result B F)) →
      ((a b : A) → Mid a b → Alike Pair (Both Ends) (f a) (g b)) → (r t : Result A F) → Both Mid r t →
      Alike Pair (Both Ends) (on_value f r) (on_value g t)
  value_alike f g h (Ok a) (Ok b) e = h a b e
  value_alike f g h (Ok a) (Err t) e = absurd e
  value_alike f g h (Err r) (Ok b) e = absurd e
  value_alike f g h (Err r) (Err t) e = ended_alike e

  pub ok_alike : {A B F : Type 0} {Mid : A → A → Type 0} {Ends : B → B → Type 0} {p q : Plan (Result A F)}
      (f g : A → Plan (Result B F)) → Alike Pair (Both Mid) p q →
      ((a b : A) → Mid a b → Alike Pair (Both Ends) (f a) (g b)) → Alike Pair (Both Ends) (then_ok p f) (then_ok q g)
  unfolding then_ok
  ok_alike {F} {Mid} {Ends} f g s h = then_alike {Mid = Both {F = F} Mid} {Ends = Both {F = F} Ends} (on_value f)
      (on_value g) s (value_alike {Mid = Mid} {Ends = Ends} f g h)

  pub after_alike : {A : Type 0} {Ends : A → A → Type 0} (n : ℕ) (a b : A) → Ends a b →
      Alike Pair Ends (after n a) (after n b)
  after_alike zero a b e = ended_alike e
  after_alike (suc n) a b e = tick_alike (after_alike n a b e)

  pub either_alike : {A : Type 0} {Ends : A → A → Type 0} {p p' q q' : Plan A} (t : Bool) → Alike Pair Ends p q →
      Alike Pair Ends p' q' → Alike Pair Ends (if t then p else p') (if t then q else q')
  either_alike true h g = h
  either_alike false h g = g

  -- a frame of its own, inside such frames
  pub framed_alike : {A F : Type 0} {Ends : A → A → Type 0} (outer outer' : Levels) {p q : Plan (Result A F)} →
      ((levels levels' : Levels) → Pair Opens levels levels') →
      ((levels levels' : Levels) → Pair Drops levels levels') → Alike Pair (Both Ends) p q →
      Alike Pair (Both Ends) (framed outer p) (framed outer' q)
  unfolding framed
  framed_alike {A} {F} {Ends} outer outer' opens drops s =
      made_alike (opens _ _) (then_alike {Mid = Both {F = F} Ends} {Ends = Both {F = F} Ends} (leave_frame outer)
      (leave_frame outer') s left)
    where
      left : (r t : Result A F) → Both Ends r t →
          Alike Pair (Both Ends) (leave_frame outer r) (leave_frame outer' t)
      left (Ok a) (Ok b) e = ended_alike e
      left (Ok a) (Err t) e = absurd e
      left (Err r) (Ok b) e = absurd e
      left (Err r) (Err t) e = made_alike (drops outer outer') (ended_alike e)
