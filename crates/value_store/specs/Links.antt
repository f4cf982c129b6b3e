-- The node that a link refers to.
use Rattle.std.specs.Prelude.{◌≡◌, ℕ, Bool, true, false, Option, Some, None, ◌==◌, refl, if◌then◌else◌}
use Rattle.std.proofs.Common.{sym, eqb-true}

-- the node of a link; the greatest number marks an absent child
abbrev pub target : ℕ → Option ℕ
target n = if n == 18446744073709551615 then None else Some n

abbrev pub link_to : Option ℕ → ℕ
link_to None = 18446744073709551615
link_to (Some n) = n

by_test : (is : Bool) (n : ℕ) → (is ≡ true → n ≡ 18446744073709551615) → link_to (if is then None else Some n) ≡ n
by_test true n h = sym (h refl)
by_test false n h = refl

pub link_to-target : (n : ℕ) → link_to (target n) ≡ n
link_to-target n = by_test (n == 18446744073709551615) n (λ is. eqb-true n 18446744073709551615 is)
