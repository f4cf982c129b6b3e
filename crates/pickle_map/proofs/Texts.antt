-- Calls that follow the plan of a string.
use Rattle.std.proofs.Common.{◌≡◌, ℕ, zero, suc, inl, inr, ◌+◌, ◌-◌, ◌*◌, ◌^◌, ◌<◌, ◌≤◌, List, [], ◌∷◌, ◌++◌, Option, Some, Ok, option_map, refl, subst, arith}
use Rattle.std.proofs.lemmas.Bool.{cases_lt}
use Rattle.bit_space.specs.declared.order.Order.TheVariants.{Big}
use Rattle.bit_space.specs.Bits.{bits_of}
use Rattle.bit_space.specs.SpaceView.{SpaceView, HasRisen}
use Rattle.bit_space.specs.Reading.{MayRead}
use Rattle.pickle_map.specs.declared.mapper.stop.Stop.{Stop}
use Rattle.pickle_meaning.specs.Values.{Levels, pushed, text_value, text_level}
use Rattle.pickle_map.specs.Framed.{ReadStops}
use Rattle.pickle_map.specs.Follows.{World, MovesTo, LacksRoom, Done, NoRoom, Partly, Follows}
use Rattle.value_store.specs.Moves.{Writes, Ends, State}
use Rattle.mapping_plans.specs.Mapping.{text_plan, after_byte}
use Rattle.pickle_map.specs.Stops.{stop_finish}
use Rattle.pickle_map.proofs.Placing.{read_stops, read_goes}
use Rattle.pickle_map.proofs.Walks.{follow_done, follow_here, follow_made, follow_no_room}

module _ {world : World} {limit : ℕ} (m n : ℕ) (bytes : List ℕ) (outer : Levels) (s place : ℕ) {k j k1 j1 : ℕ}
    {state : State} (left : m < place + 8 * n) (inside : place ≤ m) where
  pub text_stops : (before after : SpaceView) {limit' : ℕ} (stop : Stop) → limit' ≡ limit → m ≡ 8 * before.len →
      ReadStops stop s (place + 8) before after limit' k k1 → j1 ≡ j →
      Follows world limit (text_plan m n bytes outer s place) k j state k1 j1 state (stop_finish stop)
  unfolding text_plan
  text_stops before after stop el em h ej = elim n as (λ x. m < place + 8 * x →
      Follows world limit (text_plan m x bytes outer s place) k j state k1 j1 state (stop_finish stop)) [
        | zero ↦ λ none. absurd (omega arith)
        | suc x ↦ λ some. read_stops m s place 8 Big _ before after stop el em h ej
      ] left

  module _ {limit1 : ℕ} (b : ℕ) (el : limit1 ≡ limit) (ek : k1 ≡ k + 1) (ej : j1 ≡ j) (fits : place + 8 ≤ m)
      (may : MayRead world.known Big place 8 b) where
    -- the text that ends here doesn't fit
    pub text_not_closed : {state' : State} → b ≡ 0 →
        LacksRoom world state Ends (pushed outer (Some (text_value bytes s (place + 8)))) →
        Follows world limit (text_plan m n bytes outer s place) k j state k1 j1 state' NoRoom
    unfolding text_plan after_byte
    text_not_closed {state'} e full =
        elim n as (λ x. m < place + 8 * x →
        Follows world limit (text_plan m x bytes outer s place) k j state k1 j1 state' NoRoom) [
          | zero ↦ λ none. absurd (omega arith)
          | suc x ↦ λ some. read_goes m s place 8 Big _ b el ek ej fits may (rw e (follow_no_room full))
        ] left

    pub text_closed : {k2 j2 : ℕ} {state' : State} → MovesTo world Ends state state' → b ≡ 0 → k2 ≡ k1 → j2 ≡ j1 + 1 →
        Follows world limit (text_plan m n bytes outer s place) k j state k2 j2 state'
        (Done (Ok (text_value bytes s (place + 8))))
    unfolding text_plan after_byte
    text_closed {k2} {j2} {state'} moves e ek2 ej2 = elim n as (λ x. m < place + 8 * x → Follows world limit
        (text_plan m x bytes outer s place) k j state k2 j2 state' (Done (Ok (text_value bytes s (place + 8))))) [
          | zero ↦ λ none. absurd (omega arith)
          | suc x ↦ λ some. read_goes m s place 8 Big _ b el ek ej fits may
              (rw e (follow_made {limit' = limit1} moves refl ek2 ej2 follow_done))
        ] left

  -- one more byte
  module _ {limit1 : ℕ} (b : ℕ) (el : limit1 ≡ limit) (ek : k1 ≡ k + 1) (ej : j1 ≡ j) (fits : place + 8 ≤ m)
      (may : MayRead world.known Big place 8 b) (some : b ≡ 0 → ⊥) where
    pub text_no_room : {state' : State} → LacksRoom world state Writes (text_level (bytes ++ b ∷ []) s outer) →
        Follows world limit (text_plan m n bytes outer s place) k j state k1 j1 state' NoRoom
    unfolding text_plan after_byte
    text_no_room {state'} full = by_byte b may some full n left
      where
        by_byte : (b : ℕ) → MayRead world.known Big place 8 b → (b ≡ 0 → ⊥) →
            LacksRoom world state Writes (text_level (bytes ++ b ∷ []) s outer) → (n : ℕ) → m < place + 8 * n →
            Follows world limit (text_plan m n bytes outer s place) k j state k1 j1 state' NoRoom
        by_byte b may some full zero left = absurd (omega arith)
        by_byte zero may some full (suc n) left = absurd (some refl)
        by_byte (suc b) may some full (suc n) left =
            read_goes m s place 8 Big _ (suc b) el ek ej fits may (follow_no_room full)

    pub text_goes : {k2 j2 : ℕ} {state' : State} → MovesTo world Writes state state' → k2 ≡ k1 → j2 ≡ j1 + 1 →
        (n' : ℕ) × (m < place + 8 + 8 * n') × Follows world limit (text_plan m n bytes outer s place) k j state k2 j2
        state' (Partly (text_plan m n' (bytes ++ b ∷ []) outer s (place + 8)))
    unfolding text_plan after_byte
    text_goes {k2} {j2} {state'} moves ek2 ej2 = by_byte b may some n left
      where
        by_byte : (b : ℕ) → MayRead world.known Big place 8 b → (b ≡ 0 → ⊥) → (n : ℕ) → m < place + 8 * n →
            (n' : ℕ) × (m < place + 8 + 8 * n') × Follows world limit (text_plan m n bytes outer s place) k j state k2
            j2 state' (Partly (text_plan m n' (bytes ++ b ∷ []) outer s (place + 8)))
        by_byte b may some zero left = absurd (omega arith)
        by_byte zero may some (suc n) left = absurd (some refl)
        by_byte (suc b) may some (suc n) left = (
          n,
          omega arith,
          read_goes m s place 8 Big _ (suc b) el ek ej fits may
              (follow_made {limit' = limit1} moves refl ek2 ej2 follow_here),
        )

-- a read that gives what the same bytes give
pub may_same : (bytes bytes' : Option (List ℕ)) (place n : ℕ) → bytes' ≡ bytes →
    MayRead (option_map bits_of bytes') Big place 8 n → MayRead (option_map bits_of bytes) Big place 8 n
may_same bytes bytes' place n e h = subst (λ b. MayRead (option_map bits_of b) Big place 8 n) e h

-- a count that rose, after it had not fallen
pub risen_before : (f g h : ℕ) → f ≤ g → g ≤ h → HasRisen g h → HasRisen f h
risen_before f g h le up risen lt = elim (cases_lt g
    (2 ^ 64 - 1)) [ inl low ↦ let r = risen low in omega (arith, le, r) | inr high ↦ omega (arith, lt, high, up) ]
