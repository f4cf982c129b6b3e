-- Reads of what is seen of a file.
use Rattle.std.proofs.Common.{◌≡◌, ◌∙◌, ℕ, Option, ap, sym, subst}
use Rattle.bit_space.specs.SpaceView.{HasRisen, IsWhole, Keeps, SpaceView}
use Rattle.spool.proofs.Windows.{cut_seen}
use Rattle.spool.specs.Window.{cut_at, end_of_window, seen}

-- as many reads of what is seen failed as of the file
pub sight_failures : (window : Option ℕ) (start : ℕ) (file sight : SpaceView) → IsWhole file
    → sight ≡ seen window start file → sight.failures ≡ file.failures
sight_failures window start file sight whole same =
    ap (λ (view : SpaceView). view.failures) (same ∙ sym (cut_seen window start file whole))

-- one that fails is one of the file, of which something was seen before and after it
pub fails_seen : (window : Option ℕ) (start : ℕ) (file sight after : SpaceView) (end' : ℕ) (Fails : Type 0)
    → IsWhole file → sight ≡ seen window start file
    → ((end end' : ℕ) → Keeps (cut_at end file) (cut_at end' after) → HasRisen file.failures after.failures → Fails)
    → Keeps sight (cut_at end' after) → HasRisen file.failures after.failures → Fails
fails_seen window start file sight after end' Fails whole same fails keeps risen =
    let end = end_of_window start window file.len in
    let is : sight ≡ cut_at end file = same ∙ sym (cut_seen window start file whole) in
    fails end end' (subst (λ view. Keeps view (cut_at end' after)) is keeps) risen
