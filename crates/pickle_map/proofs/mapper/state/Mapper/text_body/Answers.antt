use Rattle.std.proofs.Common.{rules, ◌≡◌, ◌+◌, ◌*◌, [], ◌∷◌, ◌++◌, length, refl, sym, ap, ◌∙◌, arith}
use Rattle.std.proofs.lemmas.Result.{err_from_is_err_and}
use Rattle.value_store.specs.Slots.{levels}
use Rattle.pickle_meaning.specs.Values.{outer_of, text_value}
use Rattle.value_store.proofs.Writing.{writing-outer}
use Rattle.value_store.specs.Moves.{State}
use Rattle.pickle_map.proofs.Keeping.{below_keeps, closes_level, keeps_then, regrown_stays, same_stays}
use Rattle.mapping_plans.proofs.Fitting.{longer}
use Rattle.pickle_map.proofs.Walks.{follow_here, follow_on}
use Rattle.pickle_map.proofs.Worlds.{same_room, in_later, moves_to, lacks_these}
use Rattle.pickle_map.proofs.Placing.{refusal_stops}
use Rattle.pickle_map.proofs.Texts.{text_stops, text_not_closed, text_closed, text_no_room, text_goes, may_same}
use Rattle.pickle_map.proofs.mapper.state.Mapper.text_body.Goals as goal

pub loop-byte-init : goal.loop-byte-init
loop-byte-init g c = record {
  frame = search rules;
  after = search rules;
  inside = search rules;
  level = same_stays c.args.self.now.nodes.now c.args.self.now.store.now;
  so_far = ([], _, omega arith, omega arith, c.requires.writing, follow_here);
}

pub returns-in-Err-clause-is : goal.returns-in-Err-clause-is
returns-in-Err-clause-is g c =
    let i = c.loop-byte.invariant in
    let e = c.in-Err.ensures in
    let stops = refusal_stops c.in-Err.fault c.args.start (c.loop-byte.place + 8) _ _ _ _ _ e.err in
    rw c.refusal_at.ensures (follow_on i.so_far.5
    (text_stops _ _ _ _ _ _ i.so_far.2 i.inside _ _ _ i.frame.limit (ap (λ l. 8 * l) (sym i.frame.len)) stops e.made))

pub returns-in-Err-clause-level : goal.returns-in-Err-clause-level
returns-in-Err-clause-level g c = c.loop-byte.invariant.level

pub returns-in_err-close_text-in-Ok-clause-is : goal.returns-in_err-close_text-in-Ok-clause-is
returns-in_err-close_text-in-Ok-clause-is g c =
    let p = err_from_is_err_and c.from_residual.result c.from_residual.ensures.1 in
    let i = c.loop-byte.invariant in
    let r = c.in-Ok.ensures in
    let fits = rw i.frame.len at r.inside in
    let may = may_same _ _ _ _ i.frame.bytes r.ok in
    let full = c.in_err-close_text-in-Ok.ensures.full c.args.self.now.nodes.now i.so_far.0
    (outer_of (levels c.args.self.now.nodes.now c.args.self.now.store.now)) i.so_far.4 in
    let end : c.args.start + 8 * (length i.so_far.0 + 1) ≡ c.loop-byte.place + 8 = omega (arith, i.so_far.3) in
    let full = rw end at full in
    rw (p.1, p.2) (follow_on (in_later i.frame.room c.in_err-close_text-in-Ok.ensures.room i.so_far.5)
    (text_not_closed _ _ _ _ _ _ i.so_far.2 i.inside _ (r.limit ∙ i.frame.limit) r.steps r.made fits may
    c.if-byte-eq0.true (lacks_these i.frame.room tt full c.in_err-close_text-in-Ok.ensures.lacks)))

pub returns-in_err-close_text-in-Ok-clause-level : goal.returns-in_err-close_text-in-Ok-clause-level
returns-in_err-close_text-in-Ok-clause-level g c =
    let p = err_from_is_err_and c.from_residual.result c.from_residual.ensures.1 in
    rw p.1
    (regrown_stays c.args.self.now.nodes.now _ _ _ c.loop-byte.invariant.level c.in_err-close_text-in-Ok.ensures.err)

pub returns-then-byte-eq0-clause-is : goal.returns-then-byte-eq0-clause-is
returns-then-byte-eq0-clause-is g c =
    let n = c.note_made.ensures in
    let i = c.loop-byte.invariant in
    let r = c.in-Ok.ensures in
    let fits = rw i.frame.len at r.inside in
    let may = may_same _ _ _ _ i.frame.bytes r.ok in
    let keeps = c.in_ok-close_text-in-Ok.ensures.ok c.args.self.now.nodes.now i.so_far.0
    (outer_of (levels c.args.self.now.nodes.now c.args.self.now.store.now)) i.so_far.4 in
    let end : c.args.start + 8 * (length i.so_far.0 + 1) ≡ c.loop-byte.place + 8 = omega (arith, i.so_far.3) in
    let keeps = rw end at keeps in
    let room = c.in_ok-close_text-in-Ok.ensures.room in
    let moves = moves_to i.frame.room c.close_text.ensures.room (same_room c.close_text.new.self)
    c.in_ok-close_text-in-Ok.ensures.within c.in_ok-close_text-in-Ok.ensures.light
    c.in_ok-close_text-in-Ok.ensures.moves tt in
    record {
      value = text_value i.so_far.0 c.args.start (c.loop-byte.place + 8);
      kept = keeps;
      ends = refl;
      follows = follow_on (in_later i.frame.room room i.so_far.5) (text_closed _ _ _ _ _ _ i.so_far.2 i.inside _
          (r.limit ∙ i.frame.limit) r.steps r.made fits may moves c.if-byte-eq0.true n.steps n.made);
    }

pub returns-then-byte-eq0-clause-level : goal.returns-then-byte-eq0-clause-level
returns-then-byte-eq0-clause-level g c =
    let e = c.in_ok-close_text-in-Ok.ensures in
    closes_level c.args.self.now.nodes.now _ _ _ c.requires.open c.loop-byte.invariant.level e.depth
    (ap (λ (s : State). s.frames) e.moves) e.below e.within

pub returns-in_err-push_byte-in-Ok-clause-is : goal.returns-in_err-push_byte-in-Ok-clause-is
returns-in_err-push_byte-in-Ok-clause-is g c =
    let p = err_from_is_err_and c.from_residual-in_err-push_byte-in-Ok.result
    c.from_residual-in_err-push_byte-in-Ok.ensures.1 in
    let i = c.loop-byte.invariant in
    let r = c.in-Ok.ensures in
    let fits = rw i.frame.len at r.inside in
    let may = may_same _ _ _ _ i.frame.bytes r.ok in
    let full = c.in_err-push_byte-in-Ok.ensures.full c.args.self.now.nodes.now i.so_far.0
    (outer_of (levels c.args.self.now.nodes.now c.args.self.now.store.now)) i.so_far.4 in
    rw (p.1, p.2) (follow_on (in_later i.frame.room c.in_err-push_byte-in-Ok.ensures.room i.so_far.5)
    (text_no_room _ _ _ _ _ _ i.so_far.2 i.inside _ (r.limit ∙ i.frame.limit) r.steps r.made fits may
    c.if-byte-eq0.false (lacks_these i.frame.room tt full c.in_err-push_byte-in-Ok.ensures.lacks)))

pub returns-in_err-push_byte-in-Ok-clause-level : goal.returns-in_err-push_byte-in-Ok-clause-level
returns-in_err-push_byte-in-Ok-clause-level g c =
    let p = err_from_is_err_and c.from_residual-in_err-push_byte-in-Ok.result
    c.from_residual-in_err-push_byte-in-Ok.ensures.1 in
    rw p.1
    (regrown_stays c.args.self.now.nodes.now _ _ _ c.loop-byte.invariant.level c.in_err-push_byte-in-Ok.ensures.err)

pub loop-byte-preserved : goal.loop-byte-preserved
loop-byte-preserved g c =
    let n = c.note_made-in-Ok.ensures in
    let i = c.loop-byte.invariant in
    let r = c.in-Ok.ensures in
    let fits = rw i.frame.len at r.inside in
    let may = may_same _ _ _ _ i.frame.bytes r.ok in
    let short = g.met.S.Space.short c.args.space.now in
    let more = longer i.so_far.0 c.in-Ok.byte in
    let room = c.in_ok-push_byte-in-Ok.ensures.room in
    let outer = outer_of (levels c.args.self.now.nodes.now c.args.self.now.store.now) in
    let writes = c.in_ok-push_byte-in-Ok.ensures.writes c.args.self.now.nodes.now i.so_far.0 outer i.so_far.4
    (omega (arith, i.so_far.3, fits, short)) in
    let shows = c.in_ok-push_byte-in-Ok.ensures.levels c.args.self.now.nodes.now i.so_far.0 outer i.so_far.4
    (omega (arith, i.so_far.3, fits, short)) in
    let moves = moves_to i.frame.room c.push_byte.ensures.room (same_room c.push_byte.new.self)
    c.in_ok-push_byte-in-Ok.ensures.within c.in_ok-push_byte-in-Ok.ensures.light
    c.in_ok-push_byte-in-Ok.ensures.moves tt in
    let next = text_goes _ _ _ _ _ _ i.so_far.2 i.inside _ (r.limit ∙ i.frame.limit) r.steps r.made fits may
    c.if-byte-eq0.false moves n.steps n.made in
    record {
      frame = search rules;
      after = search rules;
      inside = search rules;
      level = record {
        outer = writing-outer c.args.self.now.nodes.now c.push_byte.new.self _ c.args.start outer writes;
        depth = c.in_ok-push_byte-in-Ok.ensures.depth ∙ i.level.depth;
        frames = ap (λ (s : State). s.frames) c.in_ok-push_byte-in-Ok.ensures.moves ∙ i.level.frames;
        opened =
            keeps_then c.args.self.now.store.now c.loop-byte.store c.push_byte.new.self i.level.frames i.level.opened
            (below_keeps c.loop-byte.store c.push_byte.new.self c.in_ok-push_byte-in-Ok.ensures.below);
      };
      so_far = (
        i.so_far.0 ++ c.in-Ok.byte ∷ [],
        next.0,
        next.1,
        omega (arith, i.so_far.3, more),
        writes,
        follow_on (in_later i.frame.room room i.so_far.5) next.2,
      );
    }
