use Rattle.std.proofs.Common.{◌≡◌}
use Rattle.std.specs.Prelude.{◌&&◌, filter}
use Rattle.dt_base.specs.Ranges.{below}
use Rattle.dt_nest.specs.CommunicateLoops.{communicate_loop}
use Rattle.dt_nest.specs.NestTexts.{is_same_place}
use Rattle.dt_nest.specs.Questions.{accesses_tensor}
use Rattle.dt_nest.proofs.nest_text.communicated_at.Given as goal

abbrev pub invariant-loop-t : goal.invariant-loop-t
invariant-loop-t l = l.here.items ≡ filter (λ t. accesses_tensor l.sched.nest t && is_same_place (communicate_loop l.sched t) l.at) (below l.t)
