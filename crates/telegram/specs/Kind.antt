-- The kinds of a number. Assumes nothing.
use Rattle.std.specs.Prelude.{ℕ}
use Rattle.telegram.specs.declared.kind.Kind.{Kind}
use Rattle.telegram.specs.declared.kind.Kind.TheVariants.{Bool, Uint8, Uint16, Uint32, Int8, Int32}

-- the width in binary
abbrev pub bytes : Kind → ℕ
bytes Bool = 1
bytes Uint8 = 1
bytes Uint16 = 2
bytes Uint32 = 4
bytes Int8 = 1
bytes Int32 = 4

-- a number is kept as the pattern of its full width, which is below this; of the signed kinds too
abbrev pub patterns : Kind → ℕ
patterns Bool = 2
patterns Uint8 = 256
patterns Uint16 = 65536
patterns Uint32 = 4294967296
patterns Int8 = 256
patterns Int32 = 4294967296
