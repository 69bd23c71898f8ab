-- What the writer asks of the records of the optional parts. Assumes nothing.
use Rattle.std.specs.Prelude.{ℕ, ◌<◌, List, length, Some, None, Option}
use Rattle.std.specs.Borrow.{Bor}
use Rattle.layout.specs.declared.records.Parts.{Parts}

-- a text's length can be written as a Uint_8
abbrev pub Sized : Option (Bor (List ℕ)) → Type 0
Sized None = Unit {0}
Sized (Some s) = length s.now < 256

abbrev pub Labelled : Parts → Type 0
Labelled p = Sized p.name × Sized p.comment
