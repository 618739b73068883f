use Rattle.std.proofs.Common.{◌≡◌, ◌++◌, map, take}
use Rattle.dt_plan.specs.declared.touches.Touch.{Touch}
use Rattle.dt_events.specs.Candidates.{bucket_of}
use Rattle.dt_events.proofs.candidates.push_buckets.Given as goal

abbrev pub invariant-loop-touch : goal.invariant-loop-touch
invariant-loop-touch l = l.pairs.items ≡ l.fn.pairs.items ++ map (λ (f : Touch). (bucket_of f, l.op)) (take l.touch-index l.touches)
