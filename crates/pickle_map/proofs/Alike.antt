-- Plans that are alike but for the frames that are stored beside what they do.
use Rattle.std.proofs.Common.{◌≡◌, ℕ, zero, suc, Bool, true, false, List, Result, Ok, Err, ap}
use Rattle.std.specs.Prelude.{if◌then◌else◌}
use Rattle.pickle_meaning.specs.Values.{Levels}
use Rattle.pickle_meaning.specs.Clauses.{FaultAt}
use Rattle.mapping_plans.specs.Plan.{Plan, Ended, Tick, Made, Read, and_then, after, on_value, then_ok, leave_frame, framed, as_row}
use Rattle.mapping_plans.specs.Rows.{Row, Records}
use Rattle.mapping_plans.proofs.Alike.{Alike, ended_alike, tick_alike, made_alike, read_alike, Both, Same}
use Rattle.value_store.specs.Exceeding.{Exceeds}
use Rattle.value_store.specs.Moves.{Move, Opens, Drops, State}
use Rattle.pickle_map.specs.Follows.{World, TakesMore, Walk, arrived, stepped, kept, read, Done, NoSteps, Broken, NoRoom, NeedsStep, NeedsRead, NeedsRoom, Follows}
use Rattle.pickle_map.specs.declared.mapper.stop.Stop.{Stop}
use Rattle.pickle_map.specs.declared.mapper.stop.Stop.TheVariants.{Fault, Limit, Device, Memory}
use Rattle.pickle_map.specs.Stops.{stop_finish}

-- the second is the plan of an array's element
module _ (widths : List ℕ) where
  abbrev row : Row
  row = Records widths

  module _ {Pair : Move → Levels → Levels → Type 0} where
    rowed_then : {A B : Type 0} {Mid : A → A → Type 0} {Ends : B → B → Type 0} (q : Plan A) {p : Plan A}
        (f g : A → Plan B) →
        Alike Pair Mid p (as_row row q) → ((a b : A) → Mid a b → Alike Pair Ends (f a) (as_row row (g b))) →
        Alike Pair Ends (and_then p f) (as_row row (and_then q g))
    rowed_then (Ended b) f g (ended_alike {a} e) h = h a b e
    rowed_then (Tick q) f g (tick_alike s) h = tick_alike (rowed_then q f g s h)
    rowed_then (Made count move levels q) f g (made_alike pair s) h = made_alike pair (rowed_then q f g s h)
    rowed_then (Read place width order qs) f g (read_alike s) h = read_alike (λ n. rowed_then (qs n) f g (s n) h)

    value_rowed : {A B F : Type 0} {Mid : A → A → Type 0} {Ends : B → B → Type 0} (f g : A → Plan (Result B F)) →
        ((a b : A) → Mid a b → Alike Pair (Both Ends) (f a) (as_row row (g b))) → (r t : Result A F) → Both Mid r t →
        Alike Pair (Both Ends) (on_value f r) (as_row row (on_value g t))
    value_rowed f g h (Ok a) (Ok b) e = h a b e
    value_rowed f g h (Ok a) (Err t) e = absurd e
    value_rowed f g h (Err r) (Ok b) e = absurd e
    value_rowed f g h (Err r) (Err t) e = ended_alike e

    pub rowed_ok : {A B F : Type 0} {Mid : A → A → Type 0} {Ends : B → B → Type 0} {p : Plan (Result A F)}
        (q : Plan (Result A F)) (f g : A → Plan (Result B F)) → Alike Pair (Both Mid) p (as_row row q) →
        ((a b : A) → Mid a b → Alike Pair (Both Ends) (f a) (as_row row (g b))) →
        Alike Pair (Both Ends) (then_ok p f) (as_row row (then_ok q g))
    unfolding then_ok
    rowed_ok {F} {Mid} {Ends} q f g s h = rowed_then {Mid = Both {F = F} Mid} {Ends = Both {F = F} Ends} q (on_value f)
        (on_value g) s (value_rowed {Mid = Mid} {Ends = Ends} f g h)

    pub rowed_after : {A : Type 0} {Ends : A → A → Type 0} (n : ℕ) (a b : A) → Ends a b →
        Alike Pair Ends (after n a) (as_row row (after n b))
    rowed_after zero a b e = ended_alike e
    rowed_after (suc n) a b e = tick_alike (rowed_after n a b e)

    pub rowed_either : {A : Type 0} {Ends : A → A → Type 0} {p p' : Plan A} (q q' : Plan A) (t : Bool) →
        Alike Pair Ends p (as_row row q) → Alike Pair Ends p' (as_row row q') →
        Alike Pair Ends (if t then p else p') (as_row row (if t then q else q'))
    rowed_either q q' true h g = h
    rowed_either q q' false h g = g

    -- a frame of its own, inside such frames
    pub rowed_framed : {A F : Type 0} {Ends : A → A → Type 0} (outer outer' : Levels) {p : Plan (Result A F)}
        (q : Plan (Result A F)) →
        ((move : Move) (levels levels' : Levels) → (TakesMore move → ⊥) → Pair move levels levels') →
        Alike Pair (Both Ends) p (as_row row q) →
        Alike Pair (Both Ends) (framed outer p) (as_row row (framed outer' q))
    unfolding framed
    rowed_framed {A} {F} {Ends} outer outer' q any s =
        made_alike (any Opens _ _ (λ h. h)) (rowed_then {Mid = Both {F = F} Ends} {Ends = Both {F = F} Ends} q
        (leave_frame outer) (leave_frame outer') s left)
      where
        left : (r t : Result A F) → Both Ends r t →
            Alike Pair (Both Ends) (leave_frame outer r) (as_row row (leave_frame outer' t))
        left (Ok a) (Ok b) e = ended_alike e
        left (Ok a) (Err t) e = absurd e
        left (Err r) (Ok b) e = absurd e
        left (Err r) (Err t) e = made_alike (any Drops outer outer' (λ h. h)) (ended_alike e)

-- ---- a call that followed the one followed the other

-- of two frames at a move, the second doesn't fit where the first doesn't
abbrev pub FitsToo : World → Move → Levels → Levels → Type 0
FitsToo world move levels levels' = TakesMore move → Exceeds world.room levels → Exceeds world.room levels'

-- where a walk along the other plan ends
record WalksToo {A : Type 0} (world : World) (Ends : A → A → Type 0) (rest : Plan A) (k' j' : ℕ) (last : State)
    (q : Plan A) (k j : ℕ) (state : State) : Type 0 where
  other : Plan A
  walk : Walk world other k' j' last q k j state
  alike : Alike (FitsToo world) Ends rest other

step_too : {A : Type 0} {Ends : A → A → Type 0} (world : World) (p q : Plan A) → Alike (FitsToo world) Ends p q →
    NeedsStep p → NeedsStep q
step_too world _ _ (ended_alike e) h = h
step_too world _ _ (tick_alike s) h = h
step_too world _ _ (made_alike pair s) h = h
step_too world _ _ (read_alike s) h = h

read_too : {A : Type 0} {Ends : A → A → Type 0} (world : World) (p q : Plan A) → Alike (FitsToo world) Ends p q →
    NeedsRead p → NeedsRead q
read_too world _ _ (ended_alike e) h = h
read_too world _ _ (tick_alike s) h = h
read_too world _ _ (made_alike pair s) h = h
read_too world _ _ (read_alike s) h = h

room_too : {A : Type 0} {Ends : A → A → Type 0} (world : World) (state : State) (p q : Plan A) →
    Alike (FitsToo world) Ends p q → NeedsRoom world state p → NeedsRoom world state q
room_too world state _ _ (ended_alike e) h = h
room_too world state _ _ (tick_alike s) h = h
room_too world state _ _ (made_alike pair s) h =
    record { takes = h.takes; least = pair h.takes h.least; before = h.before }
room_too world state _ _ (read_alike s) h = h

module _ {world : World} {A : Type 0} {Ends : A → A → Type 0} where
  walk_too : {rest : Plan A} {k' j' : ℕ} {last : State} {p q : Plan A} {k j : ℕ} {state : State} →
      Walk world rest k' j' last p k j state → Alike (FitsToo world) Ends p q →
      WalksToo world Ends rest k' j' last q k j state
  walk_too arrived s = record { other = _; walk = arrived; alike = s }
  walk_too (stepped w) (tick_alike s) =
      let r = walk_too w s in record { other = r.other; walk = stepped r.walk; alike = r.alike }
  walk_too (kept has w) (made_alike pair s) =
      let r = walk_too w s in record { other = r.other; walk = kept has r.walk; alike = r.alike }
  walk_too (read n m w) (read_alike s) =
      let r = walk_too w (s n) in record { other = r.other; walk = read n m r.walk; alike = r.alike }

  pub steps_too : {limit : ℕ} {p q : Plan A} {k j k' j' : ℕ} {state state' : State} → Alike (FitsToo world) Ends p q →
      Follows world limit p k j state k' j' state' NoSteps → Follows world limit q k j state k' j' state' NoSteps
  steps_too s h =
      let r = walk_too h.walk s in
      record {
        rest = r.other;
        at = h.at;
        walk = r.walk;
        ends = (step_too world h.rest r.other r.alike h.ends.0, h.ends.1);
      }

  pub broken_too : {limit : ℕ} {p q : Plan A} {k j k' j' : ℕ} {state state' : State} → Alike (FitsToo world) Ends p q →
      Follows world limit p k j state k' j' state' Broken → Follows world limit q k j state k' j' state' Broken
  broken_too s h =
      let r = walk_too h.walk s in
      record { rest = r.other; at = h.at; walk = r.walk; ends = read_too world h.rest r.other r.alike h.ends }

  pub no_room_too : {limit : ℕ} {p q : Plan A} {k j k' j' : ℕ} {state state' : State} → Alike (FitsToo world) Ends p q →
      Follows world limit p k j state k' j' state' NoRoom → Follows world limit q k j state k' j' state' NoRoom
  no_room_too s h =
      let r = walk_too h.walk s in
      record { rest = r.other; at = h.at; walk = r.walk; ends = room_too world h.at h.rest r.other r.alike h.ends }

ended_too : (world : World) {A : Type 0} (p q : Plan A) (a : A) → Alike (FitsToo world) Same p q →
    p ≡ Ended a → q ≡ Ended a
ended_too world _ _ a (ended_alike {a = x} {b = y} e) is = rw (← e) is
ended_too world _ _ a (tick_alike s) is = cc
ended_too world _ _ a (made_alike pair s) is = cc
ended_too world _ _ a (read_alike s) is = cc

pub done_too : {world : World} {A : Type 0} {limit : ℕ} {p q : Plan A} {k j k' j' : ℕ} {state state' : State} {a : A} →
    Alike (FitsToo world) Same p q → Follows world limit p k j state k' j' state' (Done a) →
    Follows world limit q k j state k' j' state' (Done a)
done_too {world} {a} s h =
    let r = walk_too h.walk s in
    record {
      rest = r.other;
      at = h.at;
      walk = r.walk;
      ends = (ended_too world h.rest r.other a r.alike h.ends.0, h.ends.1);
    }

pub stop_too : {world : World} {A : Type 0} {limit : ℕ} {p q : Plan (Result A FaultAt)} {k j k' j' : ℕ}
    {state state' : State} →
    Alike (FitsToo world) Same p q → (stop : Stop) → Follows world limit p k j state k' j' state' (stop_finish stop) →
    Follows world limit q k j state k' j' state' (stop_finish stop)
stop_too s (Fault kind place) h = done_too s h
stop_too s Limit h = steps_too s h
stop_too s Device h = broken_too s h
stop_too s Memory h = no_room_too s h

-- results that are the same are alike
both_are_same : {A F : Type 0} (r t : Result A F) → Both Same r t → Same r t
both_are_same (Ok a) (Ok b) e = ap Ok e
both_are_same (Ok a) (Err t) e = absurd e
both_are_same (Err r) (Ok b) e = absurd e
both_are_same (Err r) (Err t) e = ap Err e

pub same_alike : {Pair : Move → Levels → Levels → Type 0} {A F : Type 0} {p q : Plan (Result A F)} →
    Alike Pair (Both Same) p q → Alike Pair Same p q
same_alike (ended_alike {a} {b} e) = ended_alike (both_are_same a b e)
same_alike (tick_alike s) = tick_alike (same_alike s)
same_alike (made_alike pair s) = made_alike pair (same_alike s)
same_alike (read_alike s) = read_alike (λ n. same_alike (s n))
