-- How an item is written in binary. Assumes nothing.
use Rattle.std.specs.Prelude.{ℕ, true, false, List, ◌∷◌}
use Rattle.telegram.specs.Kind.{bytes}
use Rattle.telegram.specs.Value.{Value, num, real, text}
use Rattle.spelling.specs.Canon.{Canon, fixed}

-- a number in the width of its kind and a Real in four bytes, the highest first; a text as it stands
abbrev pub octets : Value → List ℕ
octets (num k v) = fixed 256 (bytes k) v
octets (real v) = fixed 256 4 v
octets (text s) = s

-- a blank stands before the first item, and before no other
abbrev pub canon_binary : Canon
canon_binary true v = 32 ∷ octets v
canon_binary false v = octets v
