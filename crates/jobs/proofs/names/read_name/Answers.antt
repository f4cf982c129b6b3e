use Rattle.std.proofs.Common.{◌<◌, ◌≤◌, length, subst, sym, arith}
use Rattle.jobs.proofs.NamesRead.{all_within, piece_ended, piece_last, piece_more, piece_short, same_last}
use Rattle.jobs.proofs.names.read_name.Goals as goal

pub returns-in-Zero-clause-whole : goal.returns-in-Zero-clause-whole
returns-in-Zero-clause-whole g c same =
    let next = c.in_ok-read_piece.ensures.ok in
    record {
      next = piece_ended _ _ _ _ _ _ _ c.loop.invariant.within c.loop.invariant.read next c.in-Zero.is;
      within = piece_short _ _ _ _ _ _ _ c.loop.invariant.within c.loop.invariant.read next c.in-Zero.is
          (grind (arith, c.len.ensures, c.loop.name.ok, c.loop.invariant.most));
    }

pub returns-in-List-2-clause-whole : goal.returns-in-List-2-clause-whole
returns-in-List-2-clause-whole g c same =
    let next = c.in_ok-read_piece.ensures.ok in
    let some : 0 < length c.read_piece.new.name.items = grind (arith, c.is_empty.ensures, c.if-is_empty.false) in
    record {
      next = piece_last _ _ _ _ _ _ _ c.loop.invariant.within c.loop.invariant.read next c.in-List-2.is some;
      within = subst (λ bytes. length bytes ≤ 4096)
          (sym (same_last _ _ _ _ _ _ _ c.loop.invariant.within c.loop.invariant.read next c.in-List-2.is))
          c.loop.invariant.most;
    }

pub returns-in-More-clause-long : goal.returns-in-More-clause-long
returns-in-More-clause-long g c same =
    let next = c.in_ok-read_piece.ensures.ok in
    record {
      read = piece_more _ _ _ _ _ _ _ c.loop.invariant.within c.loop.invariant.read next c.in-More.is;
      within = all_within _ _ _ _ _ _ _ c.loop.invariant.within c.loop.invariant.read next;
      long = omega (arith, c.if-len-gt-MOST_NAME.true);
    }
