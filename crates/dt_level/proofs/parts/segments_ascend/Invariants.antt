use Rattle.std.proofs.Common.{◌≡◌, ◌-◌, length, get_or, true}
use Rattle.std.specs.List.{list_all}
use Rattle.dt_level.specs.Segments.{ascends, never_falls, segments}
use Rattle.dt_level.proofs.parts.segments_ascend.Given as goal

abbrev pub invariant-loop-rest : goal.invariant-loop-rest
invariant-loop-rest l = record {
  same : list_all ascends (segments l.rest l.crd) ≡ list_all ascends (segments l.pos l.crd);
  up : never_falls l.rest ≡ true;
  last : get_or l.rest (length l.rest - 1) 0 ≡ length l.crd;
}

abbrev pub decreases-loop-rest : goal.decreases-loop-rest
decreases-loop-rest l = length l.rest
