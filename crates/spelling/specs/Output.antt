-- An output while it is written. Assumes nothing.
use Rattle.std.specs.Prelude.{◌≡◌, ℕ, ◌+◌, ◌≤◌, List, length}
use Rattle.spelling.specs.declared.put.Output.{Output}
use Rattle.spelling.specs.Write.{Put}

-- so many bytes more fit into an output
abbrev pub HasRoom : Output → ℕ → Type 0
HasRoom out n = out.at + n ≤ length out.bytes.now

-- w was written on an output, which is still over the same slice
pub record Puts (old : Output) (w : List ℕ) (new : Output) : Type 0 where
  pub same : new.bytes.ghost_name ≡ old.bytes.ghost_name
  pub put : Put old.bytes.now old.at w new.bytes.now new.at
