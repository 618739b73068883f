use Rattle.std.proofs.Common.{List, ℕ, ap, ◌∙◌}
use Rattle.dt_base.specs.Rows.{row_major}
use Rattle.dt_place.proofs.MachineFacts.{number_below}
use Rattle.dt_place.specs.Machines.{dims_of}
use Rattle.dt_place.proofs.machines.Machine.number.Goals as goal

pub returns-clause-within : goal.returns-clause-within
returns-clause-within c = number_below (dims_of c.args.self.now) c.args.c.now c.number_in.result (c.number_in.ensures ∙ ap (λ (l : List ℕ). row_major l c.args.c.now) c.dims.ensures.dims)
