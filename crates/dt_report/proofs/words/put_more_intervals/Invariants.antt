use Rattle.std.proofs.Common.{◌≡◌, ◌-◌, ◌++◌, codes, map, take}
use Rattle.std.specs.List.{flat_map}
use Rattle.dt_report.specs.PlanText.{interval_text}
use Rattle.dt_report.proofs.words.put_more_intervals.Given as goal

abbrev pub invariant-loop-interval : goal.invariant-loop-interval
invariant-loop-interval l = l.out ≡ l.fn.out ++ flat_map (λ s. codes "," ++ interval_text s) (map (λ i. (i.first, i.end - 1)) (take l.interval-index l.intervals))
