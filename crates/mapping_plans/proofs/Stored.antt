-- What holds of all that a plan stores on the way, and of what is stored at its end.
use Rattle.std.proofs.Common.{◌≡◌, ℕ, zero, suc, Bool, true, false, ◌∷◌, Option, Result, Ok, Err, refl, sym, ap, subst, ◌∙◌}
use Rattle.std.specs.Prelude.{if◌then◌else◌, nat_le}
use Rattle.bit_space.specs.declared.order.Order.{Order}
use Rattle.pickle_types.specs.Types.{Term}
use Rattle.pickle_meaning.specs.Values.{Value, Levels}
use Rattle.pickle_meaning.specs.Clauses.{FaultAt}
use Rattle.value_store.specs.Moves.{Move, Opens, Drops, Places, Closes, State, moved, needed}
use Rattle.value_store.specs.Slots.{innermost, around}
use Rattle.mapping_plans.specs.Plan.{Plan, Ended, Tick, Made, Read, and_then, after, on_value, then_ok, leave_frame, framed, packed, as_row, in_row}
use Rattle.mapping_plans.specs.Mapping.{from_inside, constrained}
use Rattle.mapping_plans.specs.Rows.{Row, Apart, Numbers, Records, Values}

-- Whatever the plan of an element reads that is kept in such a way, M holds of the most that each move needs on its
-- way, and Q of each result with what is stored then. A plan that isn't an element's is as one that is kept apart.
pub data Stores {A : Type 0} (packing : Bool) (row : Row) (M : State → Type 0) (Q : A → State → Type 0) : Plan A →
    State → Type 0 where
  at_end : {a : A} {state : State} → Q a state → Stores packing row M Q (Ended a) state
  at_tick : {p : Plan A} {state : State} → Stores packing row M Q p state → Stores packing row M Q (Tick p) state
  at_made : {count : ℕ} {move : Move} {levels : Levels} {p : Plan A} {state : State} →
      M (needed packing (packed row move) state) →
      Stores packing row M Q p (moved packing (packed row move) state) →
      Stores packing row M Q (Made count move levels p) state
  at_read : {place width : ℕ} {order : Order} {ps : ℕ → Plan A} {state : State} →
      ((n : ℕ) → Stores packing row M Q (ps n) state) → Stores packing row M Q (Read place width order ps) state

-- a fact about a value, and one about what a fault leaves
abbrev pub Leaves : {A F : Type 0} → (Q : A → State → Type 0) → (E : State → Type 0) → Result A F → State → Type 0
Leaves Q E (Ok a) state = Q a state
Leaves Q E (Err e) state = E state

module _ {A : Type 0} {packing : Bool} {row : Row} {M : State → Type 0} {Q : A → State → Type 0} where
  pub past_end : {a : A} {state : State} → Stores packing row M Q (Ended a) state → Q a state
  past_end (at_end h) = h

  pub past_tick : {p : Plan A} {state : State} → Stores packing row M Q (Tick p) state → Stores packing row M Q p state
  past_tick (at_tick h) = h

  pub past_made : {count : ℕ} {move : Move} {levels : Levels} {p : Plan A} {state : State} →
      Stores packing row M Q (Made count move levels p) state →
      Stores packing row M Q p (moved packing (packed row move) state)
  past_made (at_made l h) = h

  pub now_made : {count : ℕ} {move : Move} {levels : Levels} {p : Plan A} {state : State} →
      Stores packing row M Q (Made count move levels p) state → M (needed packing (packed row move) state)
  now_made (at_made l h) = l

  pub past_read : {place width : ℕ} {order : Order} {ps : ℕ → Plan A} {state : State} →
      Stores packing row M Q (Read place width order ps) state → (n : ℕ) → Stores packing row M Q (ps n) state
  past_read (at_read h) = h

-- the innermost frame is given up
abbrev given_up : State → State
given_up state = record { now = innermost state.frames; frames = around state.frames }

gives_up : (packing : Bool) (row : Row) (state : State) → moved packing (packed row Drops) state ≡ given_up state
gives_up packing Apart state = refl
gives_up packing (Numbers width) state = refl
gives_up packing (Records widths) state = refl
gives_up packing (Values stride) state = refl

gives_back : (packing : Bool) (row : Row) (state : State) → needed packing (packed row Drops) state ≡ given_up state
gives_back packing Apart state = refl
gives_back packing (Numbers width) state = refl
gives_back packing (Records widths) state = refl
gives_back packing (Values stride) state = refl

module _ {packing : Bool} {row : Row} {M : State → Type 0} where
  pub weaker_stores : {A : Type 0} {P Q : A → State → Type 0} → ((a : A) (last : State) → P a last → Q a last) →
      {p : Plan A} {state : State} → Stores packing row M P p state → Stores packing row M Q p state
  weaker_stores g (at_end {a} {state} h) = at_end (g a state h)
  weaker_stores g (at_tick h) = at_tick (weaker_stores g h)
  weaker_stores g (at_made l h) = at_made l (weaker_stores g h)
  weaker_stores g (at_read h) = at_read (λ n. weaker_stores g (h n))

  -- two facts about the same results
  pub both_stores : {A : Type 0} {N : State → Type 0} {P Q : A → State → Type 0} {p : Plan A} {state : State} →
      Stores packing row M P p state → Stores packing row N Q p state →
      Stores packing row M (λ a last. P a last × Q a last) p state
  both_stores (at_end h) g = at_end (h, past_end g)
  both_stores (at_tick h) g = at_tick (both_stores h (past_tick g))
  both_stores (at_made l h) g = at_made l (both_stores h (past_made g))
  both_stores (at_read h) g = at_read (λ n. both_stores (h n) (past_read g n))

  pub then_stores : {A B : Type 0} {P : A → State → Type 0} {Q : B → State → Type 0} (f : A → Plan B) →
      ((a : A) (last : State) → P a last → Stores packing row M Q (f a) last) → {p : Plan A} {state : State} →
      Stores packing row M P p state → Stores packing row M Q (and_then p f) state
  then_stores f g (at_end {a} {state} h) = g a state h
  then_stores f g (at_tick h) = at_tick (then_stores f g h)
  then_stores f g (at_made l h) = at_made l (then_stores f g h)
  then_stores f g (at_read h) = at_read (λ n. then_stores f g (h n))

  value_stores : {A B F : Type 0} {P : A → State → Type 0} {Q : B → State → Type 0} {E : State → Type 0}
      (f : A → Plan (Result B F)) → ((a : A) (last : State) → P a last → Stores packing row M (Leaves Q E) (f a) last) →
      (r : Result A F) (last : State) → Leaves P E r last → Stores packing row M (Leaves Q E) (on_value f r) last
  value_stores f g (Ok a) last h = g a last h
  value_stores f g (Err e) last h = at_end h

  pub ok_stores : {A B F : Type 0} {P : A → State → Type 0} {Q : B → State → Type 0} {E : State → Type 0}
      (f : A → Plan (Result B F)) → ((a : A) (last : State) → P a last → Stores packing row M (Leaves Q E) (f a) last) →
      {p : Plan (Result A F)} {state : State} →
      Stores packing row M (Leaves P E) p state → Stores packing row M (Leaves Q E) (then_ok p f) state
  unfolding then_ok
  ok_stores {F} {P} {Q} {E} f g h = then_stores {P = Leaves {F = F} P E} {Q = Leaves {F = F} Q E} (on_value f)
      (value_stores {P = P} {Q = Q} {E = E} f g) h

  after_stores : {A : Type 0} {Q : A → State → Type 0} (n : ℕ) (a : A) {state : State} → Q a state →
      Stores packing row M Q (after n a) state
  after_stores zero a h = at_end h
  after_stores (suc n) a h = at_tick (after_stores n a h)

  -- a value that a function gives, after so many steps
  pub told_stores : {A B F : Type 0} {Q : B → State → Type 0} {E : State → Type 0} (n : ℕ) (r : Result A F)
      (f : A → Plan (Result B F)) {state : State} → E state →
      ((a : A) → Stores packing row M (Leaves Q E) (f a) state) →
      Stores packing row M (Leaves Q E) (then_ok (after n r) f) state
  told_stores {A} {B} {F} {Q} {E} n r f {state} e g = ok_stores {P = λ a last. last ≡ state} {Q = Q} {E = E} f
      (λ a last same. subst (λ now. Stores packing row M (Leaves Q E) (f a) now) (sym same) (g a))
      (after_stores n r (told r))
    where
      told : (t : Result A F) → Leaves (λ a last. last ≡ state) E t state
      told (Ok a) = refl
      told (Err f) = e

  -- a value that is known
  pub known_stores : {A B F : Type 0} {Q : B → State → Type 0} {E : State → Type 0} (n : ℕ) (a : A)
      (f : A → Plan (Result B F)) {state : State} →
      Stores packing row M (Leaves Q E) (f a) state →
      Stores packing row M (Leaves Q E) (then_ok (after n (Ok a)) f) state
  unfolding then_ok
  known_stores zero a f h = h
  known_stores {Q} {E} (suc n) a f h = at_tick (known_stores {Q = Q} {E = E} n a f h)

  pub one_stores : {A : Type 0} {Q : A → State → Type 0} {p q : Plan A} {state : State} (t : Bool) →
      Stores packing row M Q p state → Stores packing row M Q q state →
      Stores packing row M Q (if t then p else q) state
  one_stores true h g = h
  one_stores false h g = g

  pub inside_stores : {A : Type 0} {Q : A → State → Type 0} {E : State → Type 0} (m s : ℕ) {p : Plan (Result A FaultAt)}
      {state : State} → E state → Stores packing row M (Leaves Q E) p state →
      Stores packing row M (Leaves Q E) (from_inside m s p) state
  unfolding from_inside
  inside_stores m s e h = one_stores (nat_le s m) h (at_end e)

  -- a value and its constraint
  constrained_stores : {Q : Value → State → Type 0} {E : State → Type 0} →
      ((v : Value) (last : State) → Q v last → E last) →
      (c : Option Term) (levels : Levels) (at : ℕ) (v : Value) {state : State} → Q v state →
      Stores packing row M (Leaves Q E) (constrained c levels at v) state
  unfolding constrained
  constrained_stores {Q} {E} weaker c levels at v {state} h =
      told_stores {Q = Q} {E = E} _ _ _ (weaker v state h) (λ u. at_end h)

  pub checked_stores : {Q : Value → State → Type 0} {E : State → Type 0} →
      ((v : Value) (last : State) → Q v last → E last) →
      (c : Option Term) (levels : Levels) (at : ℕ) {state : State} → E state → {p : Plan (Result Value FaultAt)} →
      Stores packing row M (Leaves Q (λ last. last ≡ state)) p state →
      Stores packing row M (Leaves Q E) (then_ok p (constrained c levels at)) state
  checked_stores {Q} {E} weaker c levels at {state} e h =
      ok_stores {P = Q} {Q = Q} {E = E} _ (λ v last q. constrained_stores weaker c levels at v q)
      (weaker_stores left h)
    where
      left : (r : Result Value FaultAt) (last : State) → Leaves Q (λ last. last ≡ state) r last → Leaves Q E r last
      left (Ok v) last q = q
      left (Err f) last same = subst E (sym same) e

  -- what is built in a frame of its own: after a fault all is as before
  pub framed_stores : {A F : Type 0} {Q : A → State → Type 0} (outer : Levels) {p : Plan (Result A F)} {state : State} →
      M state → M (needed packing (packed row Opens) state) →
      Stores packing row M (Leaves Q (λ last. last.frames ≡ state.now ∷ state.frames)) p
      (moved packing (packed row Opens) state) →
      Stores packing row M (Leaves Q (λ last. last ≡ state)) (framed outer p) state
  unfolding framed
  framed_stores {A} {F} {Q} outer {p} {state} before opened h = at_made opened
      (then_stores {P = Leaves {F = F} Q (λ last. last.frames ≡ state.now ∷ state.frames)} (leave_frame outer) left h)
    where
      back : (last : State) → last.frames ≡ state.now ∷ state.frames → given_up last ≡ state
      back last h = ap (λ frames. given_up (record { now = last.now; frames = frames })) h

      left : (r : Result A F) (last : State) → Leaves Q (λ last. last.frames ≡ state.now ∷ state.frames) r last →
          Stores packing row M (Leaves Q (λ last. last ≡ state)) (leave_frame outer r) last
      left (Ok a) last h = at_end h
      left (Err e) last h =
          at_made (subst M (sym (gives_back packing row last ∙ back last h)) before)
          (at_end (gives_up packing row last ∙ back last h))

-- ---- elements of an array

-- where nothing is packed, a move of an element changes what any value's does, and needs as much
unpacked : (row : Row) (move : Move) (state : State) → moved false (packed row move) state ≡ moved false move state
unpacked Apart move state = refl
unpacked (Numbers width) Places state = refl
unpacked (Numbers width) move state = refl
unpacked (Records widths) Closes state = refl
unpacked (Records widths) move state = refl
unpacked (Values stride) move state = refl

unpacked_needs : (row : Row) (move : Move) (state : State) →
    needed false (packed row move) state ≡ needed false move state
unpacked_needs Apart move state = refl
unpacked_needs (Numbers width) Places state = refl
unpacked_needs (Numbers width) move state = refl
unpacked_needs (Records widths) Closes state = refl
unpacked_needs (Records widths) move state = refl
unpacked_needs (Values stride) move state = refl

module _ {A : Type 0} {M : State → Type 0} {Q : A → State → Type 0} where
  as_row_stores : (packing : Bool) (row : Row) {p : Plan A} {state : State} →
      Stores packing row M Q p state → Stores packing Apart M Q (as_row row p) state
  as_row_stores packing row (at_end h) = at_end h
  as_row_stores packing row (at_tick h) = at_tick (as_row_stores packing row h)
  as_row_stores packing row (at_made l h) = at_made l (as_row_stores packing row h)
  as_row_stores packing row (at_read h) = at_read (λ n. as_row_stores packing row (h n))

  values_stores : (packing : Bool) (stride : ℕ) {p : Plan A} {state : State} →
      Stores packing (Values stride) M Q p state → Stores packing Apart M Q p state
  values_stores packing stride (at_end h) = at_end h
  values_stores packing stride (at_tick h) = at_tick (values_stores packing stride h)
  values_stores packing stride (at_made l h) = at_made l (values_stores packing stride h)
  values_stores packing stride (at_read h) = at_read (λ n. values_stores packing stride (h n))

  -- the plan of an element
  pub row_stores : (packing : Bool) (row : Row) {p : Plan A} {state : State} →
      Stores packing row M Q p state → Stores packing Apart M Q (in_row row p) state
  row_stores packing Apart h = h
  row_stores packing (Numbers width) h = as_row_stores packing (Numbers width) h
  row_stores packing (Records widths) h = as_row_stores packing (Records widths) h
  row_stores packing (Values stride) h = values_stores packing stride h

  -- where nothing is packed, an element is stored as any value is
  pub apart_stores : (row : Row) {p : Plan A} {state : State} → Stores false Apart M Q p state →
      Stores false row M Q p state
  apart_stores row (at_end h) = at_end h
  apart_stores row (at_tick h) = at_tick (apart_stores row h)
  apart_stores row (at_made {move} {p} {state} l h) =
      let same = unpacked row move state in
      at_made (subst M (sym (unpacked_needs row move state)) l)
      (subst (λ now. Stores false row M Q p now) (sym same) (apart_stores row h))
  apart_stores row (at_read h) = at_read (λ n. apart_stores row (h n))
