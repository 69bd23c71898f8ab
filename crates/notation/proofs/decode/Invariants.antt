use Rattle.std.proofs.Common.{◌≡◌, ◌++◌, drop}
use Rattle.notation.specs.Notation.{reads, decoded}
use Rattle.notation.proofs.decode.Given as goal

-- what was written, and what the rest of the text stands for
abbrev pub invariant-loop-character : goal.invariant-loop-character
invariant-loop-character l = l.bytes.items ++ reads l.inside l.high (drop l.character-index l.text) ≡ decoded l.text
