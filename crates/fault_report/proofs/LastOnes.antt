-- The last of the arrays that ended early, after some are forgotten.
use Rattle.std.proofs.Common.{◌≡◌, ℕ, ◌+◌, ◌-◌, ◌≤◌, ◌<◌, min, List, length, take, drop, inl, inr, arith, sym, ap, ◌∙◌}
use Rattle.std.proofs.lemmas.List.{drop-take, length-take, length-drop}
use Rattle.std.proofs.Math.ListN.{drop_of_length-le}
use Rattle.std.proofs.lemmas.Bool.{cases_lt}
use Rattle.fault_report.specs.declared.ended.Endings.{Endings}
use Rattle.fault_report.specs.Watched.{Forgets}

-- the last of a list, cut as the list is cut: some of them are left
cut_some : {X : Type 0} (all last : List X) (m : ℕ) → last ≡ drop (length all - length last) all →
    length last ≤ length all →
    take m last ≡
    drop (length (take (length all - length last + m) all) - length (take m last))
    (take (length all - length last + m) all)
cut_some all last m e few =
    let k = length all - length last in
    let same : length (take (k + m) all) - length (take m last) ≡ k =
    omega (arith, length-take (k + m) all, length-take m last, few) in
    rw same (ap (take m) e ∙ sym (drop-take k m all))

-- none are left
cut_all : {X : Type 0} (all last : List X) (n : ℕ) → n - (length all - length last) ≡ 0 →
    take (n - (length all - length last)) last ≡
    drop (length (take n all) - length (take (n - (length all - length last)) last)) (take n all)
cut_all all last n none = rw none (sym (drop_of_length-le (take n all) (omega arith)))

cut_last : {X : Type 0} (all last : List X) (n : ℕ) → last ≡ drop (length all - length last) all →
    length last ≤ length all →
    take (n - (length all - length last)) last ≡
    drop (length (take n all) - length (take (n - (length all - length last)) last)) (take n all)
cut_last all last n e few = elim (cases_lt n (length all - length last)) [
  | inl less ↦ cut_all all last n (omega (arith, less))
  | inr more ↦
      let whole : length all - length last + (n - (length all - length last)) ≡ n = omega (arith, more) in
      rw whole at (cut_some all last (n - (length all - length last)) e few)
]

pub forgets_last : (count : ℕ) (old new : Endings)
    → new.last.items ≡ take (count - (old.count - length old.last.items)) old.last.items
    → new.count ≡ min old.count count
    → Forgets count old new
forgets_last count old new stored counts = record {
  stored = stored;
  sums = λ all sums.
      let few : length old.last.items ≤ length all = omega (arith, sums.count, old.counted) in
      let kept = rw sums.count at stored in
      record {
        last = rw kept (cut_last all old.last.items count sums.last few);
        count = omega (arith, counts, sums.count, length-take count all);
      };
}
