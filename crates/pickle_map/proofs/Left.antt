-- What a call leaves that opened a frame for its value, by how the call in that frame ended.
use Rattle.std.proofs.Common.{◌≡◌, ℕ, ◌+◌, ◌<◌, List, Option, Result, Ok, Err, OnErr, sym, ap, subst, ◌∙◌, arith}
use Rattle.pickle_types.specs.declared.node.Node.{Node}
use Rattle.pickle_map.specs.declared.mapper.stop.Stop.{Stop}
use Rattle.pickle_meaning.specs.Values.{Value, opened, outer_of}
use Rattle.pickle_meaning.specs.Clauses.{FaultAt}
use Rattle.mapping_plans.specs.Plan.{Plan, framed}
use Rattle.pickle_map.specs.Follows.{Finish, Done, MovesTo, Follows}
use Rattle.pickle_map.specs.Framed.{AddsToLevel, LeavesLevel, DropsStopped, world_between, KeepsOrStops}
use Rattle.value_store.specs.Moves.{Opens, Moves, State, state_of}
use Rattle.value_store.specs.Slots.{Held, HoldsInRoom, KeepsRoom, levels, level_count, around as outside, cut_to, innermost, marks_of}
use Rattle.value_store.proofs.Below.{extends-same, extends-back}
use Rattle.pickle_map.proofs.Walks.{framed_ok, framed_stop}
use Rattle.pickle_map.proofs.Worlds.{same_room, room_then, in_store, moves_by}

begins : {known : Option (List ℕ)} (first : Held) {begun done last : Held} → KeepsRoom begun done →
    KeepsRoom done last → Moves first begun Opens → HoldsInRoom begun →
    MovesTo (world_between known first last) Opens (state_of first) (state_of begun)
begins first call leaving opens holds =
    moves_by (same_room first) (room_then call leaving) holds opens tt (λ adds. absurd adds.0)

-- the frame has the marks of the store before
marked : (first begun : Held) → Moves first begun Opens → innermost begun.frames ≡ marks_of first.slots
marked first begun moves = ap (λ (s : State). innermost s.frames) moves

module _ (nodes : List Node) {A : Type 0} {first begun done : Held} (opening : KeepsRoom first begun)
    (call : KeepsRoom begun done) where
  -- the frame in which it stopped is there
  pub left_open : level_count begun ≡ level_count first + 1 → (result : Result A Stop) →
      LeavesLevel nodes begun done result → OnErr result (1 < level_count done)
  left_open deeper (Ok x) leaves = tt
  left_open deeper (Err stop) stays = omega (arith, deeper, stays.depth)

  module _ {last : Held} (leaving : KeepsRoom done last) where
    -- it added the value, or stopped with the frames as they were
    module _ (deeper : level_count begun ≡ level_count first + 1)
        (opens : levels nodes begun ≡ opened (levels nodes first)) (slots : begun.slots ≡ first.slots)
        (moves : Moves first begun Opens) where
      pub left_adds : (result : Result A Stop) → LeavesLevel nodes begun done result → DropsStopped done last result →
          AddsToLevel nodes first last result
      left_adds (Ok x) leaves same = record {
        same = tt;
        depth = let there = ap level_count same in omega (arith, there, deeper, leaves.depth);
        frames = ap (λ (h : Held). h.frames) same ∙ leaves.frames ∙ ap (λ (s : State). outside s.frames) moves;
        extends = ap (λ (h : Held). cut_to (marks_of first.slots) h.slots) same
            ∙ leaves.opened first (marked first begun moves) (extends-same first begun slots);
        back = tt;
        within = subst HoldsInRoom (sym same) leaves.within;
      }
      left_adds (Err stop) stays drops =
          let back = extends-back first done last (ap innermost stays.frames ∙ marked first begun moves)
          (stays.opened first (marked first begun moves) (extends-same first begun slots)) drops.slots in
          record {
            same = drops.levels nodes ∙ stays.outer ∙ ap outer_of opens;
            depth = omega (arith, deeper, stays.depth, drops.depth);
            frames = ap (λ (s : State). s.frames) drops.moves ∙ ap outside stays.frames
                ∙ ap (λ (s : State). outside s.frames) moves;
            extends = extends-same first last back;
            back = back;
            within = tt;
          }

    -- it stored the value, or stopped, by a plan around that of the frame
    module _ {known : Option (List ℕ)} {limit limit' k j k1 j1 k' j' : ℕ} (p : Plan (Result Value FaultAt))
        {q : Plan (Result Value FaultAt)} (opens : Moves first begun Opens) (holds : HoldsInRoom begun)
        (around : (finish : Finish (Result Value FaultAt)) →
        Follows (world_between known first last) limit (framed (levels nodes first) p) k j (state_of first) k' j'
        (state_of last) finish →
        Follows (world_between known first last) limit' q k1 j1 (state_of first) k' j' (state_of last) finish)
        (ends : A → ℕ) where
      pub left_keeps : (result : Result A Stop) → DropsStopped done last result →
          KeepsOrStops (world_between known begun done) limit p k j (state_of begun) k' j' (state_of done)
          (levels nodes first) (levels nodes done) ends result →
          KeepsOrStops (world_between known first last) limit' q k1 j1 (state_of first) k' j' (state_of last)
          (levels nodes first) (levels nodes last) ends result
      left_keeps (Ok x) same h =
          let closed = framed_ok (levels nodes first) p (begins first call leaving opens holds)
          (in_store opening call leaving h.follows) in
          let closed = subst (λ state. Follows (world_between known first last) limit (framed (levels nodes first) p) k
          j (state_of first) k' j' state (Done (Ok h.value))) (ap state_of (sym same)) closed in
          record { value = h.value; kept = ap (levels nodes) same ∙ h.kept; ends = h.ends; follows = around _ closed }
      left_keeps (Err stop) drops h =
          around _ (framed_stop (levels nodes first) p (begins first call leaving opens holds)
          (moves_by (room_then opening call) (same_room last) drops.within drops.moves tt (λ adds. absurd adds.0)) stop
          (in_store opening call leaving h))
