use Rattle.std.proofs.Common.{length}
use Rattle.dt_runs.proofs.BoxLemmas.{HasSlices}
use Rattle.dt_runs.proofs.boxes.+push_box.Given as goal

abbrev pub decreases-push_box : goal.decreases-push_box
decreases-push_box l = length l.extents.now

abbrev pub invariant-loop-x : goal.invariant-loop-x
invariant-loop-x l = HasSlices l.outer l.extents l.los l.his l.initial.runs l.x l.runs
