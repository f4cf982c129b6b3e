-- The pages of a space that a cache stores.
use Rattle.std.specs.Prelude.{◌≡◌, ℕ, ◌+◌, ◌-◌, ◌*◌, List, Some, length, min, slice_range, Contains}
use Rattle.std.specs.declared.alloc.Global.{Global}
use Rattle.std.specs.declared.vec.Vec.{Vec}
use Rattle.bit_space.specs.SpaceView.{SpaceView}

-- the content of a page of a space: 4,096 bytes, or those up to the end; where the bytes of the space are known, it is
-- those bytes
pub record IsPage (view : SpaceView) (page : ℕ) (content : List ℕ) : Type 0 where
  pub size : length content ≡ min 4096 (view.len - 4096 * page)
  pub same : (bytes : List ℕ) → view.bytes ≡ Some bytes →
      content ≡ slice_range bytes (4096 * page) (4096 * page + length content)

-- each entry of a cache is a page of a space, by its number
pub record ArePages (view : SpaceView) (entries : List (ℕ × Vec ℕ Global)) : Type 0 where
  pub each : (page : ℕ) (content : Vec ℕ Global) → Contains entries (page, content) → IsPage view page content.items
