-- What bytes come to as text. Assumes nothing.
use Rattle.std.specs.Prelude.{ℕ, false, List}
use Rattle.framing.specs.Read.{Outcome, reads}
use Rattle.cola_a.specs.Items.{find_text}
use Rattle.cola_a.specs.Envelope.{open_text}

abbrev pub reads_text : List ℕ → Outcome
reads_text = reads open_text false find_text
