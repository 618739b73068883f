use Rattle.std.proofs.Common.{◌≡◌, ◌++◌, map, take}
use Rattle.std.specs.List.{flat_map}
use Rattle.dt_run.specs.Outcome.{show_text}
use Rattle.dt_run.specs.TensorText.{dense_of}
use Rattle.dt_run.proofs.answering.put_shows.Given as goal

abbrev pub invariant-loop-show : goal.invariant-loop-show
invariant-loop-show l = l.out ≡ l.initial.out ++ flat_map (show_text l.names (map dense_of l.tensors)) (take l.show-index l.shows)
