use Rattle.dt_sim.proofs.ChangeLaws.{beginnings_open, ends_close, folds_add, writes_overwrite}
use Rattle.dt_sim.proofs.laws.node_changes_are_state_changes.Goals as goal

pub returns : goal.returns
returns c = record { begins = beginnings_open; ends = ends_close; writes = writes_overwrite; folds = folds_add }
