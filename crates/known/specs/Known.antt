-- The framings that programs know. Assumes nothing.
use Rattle.std.specs.Prelude.{ℕ, cond, List, length, Some, None, Option, ◌==◌, slice_index}
use Rattle.layout.specs.Source.{Telegram}
use Rattle.spelling.specs.Write.{spelled}
use Rattle.framing.specs.Read.{Outcome}
use Rattle.cola_a.specs.Canon.{canon_text}
use Rattle.cola_a.specs.Envelope.{wrap_text}
use Rattle.cola_a.specs.Read.{reads_text}
use Rattle.cola_b.specs.Canon.{canon_binary}
use Rattle.cola_b.specs.Envelope.{wrap_binary}
use Rattle.cola_b.specs.Read.{reads_binary}
use Rattle.framed.specs.declared.framed.Framed.{Framed}
use Rattle.framing.specs.declared.choice.Choice.{Choice}
use Rattle.framing.specs.declared.choice.Choice.TheVariants.{First, Second}
use Rattle.cola_a.specs.declared.letters.Letters.{Letters}
use Rattle.cola_b.specs.declared.octets.Octets.{Octets}

abbrev pub Known : Type 0
Known = Choice (Framed Letters) (Framed Octets)

abbrev pub in_text : Known
in_text = First (record { spelling = record {} })

abbrev pub in_binary : Known
in_binary = Second (record { spelling = record {} })

-- bytes are binary if the second of them is 02, else text
abbrev pub told : List ℕ → Known
told bs = cond (slice_index bs 1 == 2) in_binary in_text

-- by the letters A and B
abbrev pub lettered : List ℕ → Option Known
lettered w = cond (length w == 1) (cond (slice_index w 0 == 65) (Some in_text) (cond (slice_index w 0 == 66) (Some in_binary) None)) None

-- by the numbers 0 and 1
abbrev pub numbered : ℕ → Option Known
numbered n = cond (n == 0) (Some in_text) (cond (n == 1) (Some in_binary) None)

-- what bytes come to in a framing
abbrev pub reads_in : Known → List ℕ → Outcome
reads_in (First f) = reads_text
reads_in (Second f) = reads_binary

-- the canonical spelling of a telegram in a framing
abbrev pub spells_in : Known → Telegram → List ℕ
spells_in (First f) = spelled canon_text wrap_text
spells_in (Second f) = spelled canon_binary wrap_binary
