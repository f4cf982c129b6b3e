use Rattle.std.proofs.Common.{◌≡◌, ℕ, ◌+◌, ◌-◌, ◌*◌, ◌≤◌, ◌<◌, List, length}
use Rattle.pickle_map.specs.Calls.{as_text_level}
use Rattle.pickle_map.specs.Framed.{Frame, Runs, LevelStays, under_way}
use Rattle.pickle_map.specs.Follows.{Partly}
use Rattle.mapping_plans.specs.Mapping.{text_plan}
use Rattle.value_store.specs.Slots.{levels, IsWriting}
use Rattle.pickle_meaning.specs.Values.{outer_of}
use Rattle.pickle_map.proofs.mapper.state.Mapper.text_body.Given as goal

abbrev pub invariant-loop-byte : goal.invariant-loop-byte
invariant-loop-byte g l = record {
  frame : Frame (g.S.Space.view l.initial.space) (g.S.Space.view l.space) l.initial.meter l.meter l.initial.store
      l.store 0 under_way;
  after : l.start ≤ l.place;
  inside : l.place ≤ 8 * (g.S.Space.view l.initial.space).len;
  level : LevelStays l.fn.self.nodes.now l.initial.store l.store;
  so_far : (bytes : List ℕ) × (n : ℕ) × (8 * (g.S.Space.view l.initial.space).len < l.place + 8 * n)
      × (l.place ≡ l.start + 8 * length bytes)
      × IsWriting l.fn.self.nodes.now l.store bytes l.start (outer_of (levels l.fn.self.nodes.now l.initial.store)) ×
      Runs (g.S.Space.view l.initial.space) l.initial.meter l.meter l.initial.store l.store
      (as_text_level l.start l.fn.self.nodes.now (8 * (g.S.Space.view l.initial.space).len)
      (levels l.fn.self.nodes.now l.initial.store))
      (Partly (text_plan (8 * (g.S.Space.view l.initial.space).len) n bytes
      (outer_of (levels l.fn.self.nodes.now l.initial.store)) l.start l.place));
}

abbrev pub decreases-loop-byte : goal.decreases-loop-byte
decreases-loop-byte g l = 8 * (g.S.Space.view l.initial.space).len - l.place
