-- What callers see of a source.
use Rattle.std.specs.Prelude.{◌^◌, ◌<◌}
use Rattle.bit_space.specs.SpaceView.{SpaceView, IsWhole}
use Rattle.bit_space.specs.declared.file.FileSpace.{FileSpace}
use Rattle.bit_space.specs.declared.mem.MemSpace.{MemSpace}
use Rattle.spool.specs.declared.source.Source.{Source}
use Rattle.spool.specs.declared.source.Source.TheVariants.{File, Memory}

-- what is seen of the space that a source is
abbrev pub view_of : (FileSpace → SpaceView) → (MemSpace → SpaceView) → Source → SpaceView
view_of of_file of_memory (File space) = of_file space
view_of of_file of_memory (Memory space) = of_memory space

-- what holds of both kinds of spaces holds of a source
pub short_of : (f : FileSpace → SpaceView) (m : MemSpace → SpaceView)
    → ((s : FileSpace) → (f s).len < 2 ^ 60) → ((s : MemSpace) → (m s).len < 2 ^ 60)
    → (s : Source) → (view_of f m s).len < 2 ^ 60
short_of f m of_file of_memory (File space) = of_file space
short_of f m of_file of_memory (Memory space) = of_memory space

pub whole_of : (f : FileSpace → SpaceView) (m : MemSpace → SpaceView)
    → ((s : FileSpace) → IsWhole (f s)) → ((s : MemSpace) → IsWhole (m s))
    → (s : Source) → IsWhole (view_of f m s)
whole_of f m of_file of_memory (File space) = of_file space
whole_of f m of_file of_memory (Memory space) = of_memory space
