use Rattle.std.proofs.Common.{◌≡◌, ◌*◌, ◌≤◌, take}
use Rattle.std.specs.Prelude.{◌&&◌, not}
use Rattle.dt_plan.specs.Bounds.{is_local, shares_group, positions_moved}
use Rattle.dt_plan.proofs.traffic.moves_of.Given as goal

abbrev pub invariant-loop-op : goal.invariant-loop-op
invariant-loop-op l = record {
  local : l.moves.local ≡ positions_moved is_local (take l.op-index l.ops);
  group : l.moves.group ≡ positions_moved (λ o. not (is_local o) && shares_group l.machine o) (take l.op-index l.ops);
  across : l.moves.across ≡ positions_moved (λ o. not (is_local o) && not (shares_group l.machine o)) (take l.op-index l.ops);
  local_few : l.moves.local ≤ 4294967296 * l.op-index;
  group_few : l.moves.group ≤ 4294967296 * l.op-index;
  across_few : l.moves.across ≤ 4294967296 * l.op-index;
}
