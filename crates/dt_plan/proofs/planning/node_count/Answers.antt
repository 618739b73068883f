use Rattle.std.proofs.Common.{ℕ, ◌≤◌, List, sym, subst, arith}
use Rattle.dt_base.specs.Rows.{product}
use Rattle.dt_place.proofs.MachineFacts.{machine_facts}
use Rattle.dt_plan.proofs.planning.node_count.Goals as goal

pub product_of-requires : goal.product_of-requires
product_of-requires c =
    let few = (machine_facts c.args.machine.now c.dims.ensures.lawful).nodes in
    subst (λ (ns : List ℕ). product ns ≤ 1048576) (sym c.dims.ensures.dims) (omega (arith, few))
