-- What bytes come to in binary, and what no single byte can do to them. Assumes nothing.
use Rattle.std.specs.Prelude.{◌≡◌, ℕ, ◌<◌, true, List, length, ◌≢◌, slice_index, slice_set}
use Rattle.framing.specs.Read.{Reading, Outcome, accepted, refused, reads}
use Rattle.cola_b.specs.Items.{find_binary}
use Rattle.cola_b.specs.Envelope.{open_binary}

abbrev pub reads_binary : List ℕ → Outcome
reads_binary = reads open_binary true find_binary

-- where these bytes are accepted, they are refused with any one of them changed to another
abbrev pub Guarded : List ℕ → Type 0
Guarded bs =
    (g : Reading) (i v : ℕ) → reads_binary bs ≡ accepted g → i < length bs → v < 256 → (v ≢ slice_index bs i)
    → (n : ℕ) × ((p : ℕ) × (reads_binary (slice_set bs i v) ≡ refused n p))
