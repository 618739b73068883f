use Rattle.std.proofs.Common.{ℕ, Option, length, ap, ◌∙◌}
use Rattle.std.proofs.lemmas.Result.{on_ok_weaker}
use Rattle.dt_model.specs.Positions.{StoredTensor, tensor_at}
use Rattle.dt_nest.specs.Point.{env_at}
use Rattle.dt_bounds.specs.Points.{accesses_in, is_reached, last_touches}
use Rattle.dt_bounds.proofs.Additions.{adds_same}
use Rattle.dt_bounds.proofs.Lanes.{plain_touched}
use Rattle.dt_bounds.proofs.accesses.push_accesses.Goals as goal

pub returns-in-None-clause-adds : goal.returns-in-None-clause-adds
returns-in-None-clause-adds g c =
    let t : StoredTensor = tensor_at (g.L.Locator.tensors c.args.target.now.loc.now) c.args.target.now.tensor in
    let r = c.args.visits.now in
    let accesses = accesses_in c.args.accesses.now.lhs.now c.args.accesses.now.terms.now in
    on_ok_weaker c.push_point.result
    (adds_same (length t.coords) (is_reached t c.args.target.now.tensor (env_at r c.point.result.lane) accesses) (last_touches r t c.args.target.now.tensor) c.args.found.now.positions.items c.push_point.new.found.positions.items
    (λ p. ap (λ (o : Option ℕ). is_reached t c.args.target.now.tensor (env_at r o) accesses p) c.point.ensures.lane ∙ plain_touched r t c.args.target.now.tensor c.args.accesses.now.lhs.now c.args.accesses.now.terms.now c.requires.leaf c.in-None.ensures.extent p))
    c.push_point.ensures
