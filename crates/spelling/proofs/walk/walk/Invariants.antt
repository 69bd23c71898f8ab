use Rattle.std.proofs.Common.{◌+◌}
use Rattle.layout.specs.Layout.{weight}
use Rattle.layout.specs.Follow.{todo}
use Rattle.spelling.proofs.Turns.{Passing}
use Rattle.spelling.proofs.walk.walk.Given as goal

abbrev pub invariant-loop-want : goal.invariant-loop-want
invariant-loop-want g l =
    Passing g.S.Spelling.finds l.text l.initial.at l.at (record { position = l.parts.0; name = l.parts.1.0; comment = l.parts.1.1.0; time = l.parts.1.1.1.0 })

abbrev pub decreases-loop-want : goal.decreases-loop-want
decreases-loop-want g l = weight (todo l.at.progress.stage) + l.at.progress.room
