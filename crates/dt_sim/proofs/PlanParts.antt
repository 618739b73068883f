-- The parts of a layout's plan.
use Rattle.std.proofs.Common.{◌≡◌, refl, ap, ◌∙◌}
use Rattle.dt_place.specs.Machines.{nodes_of}
use Rattle.dt_plan.specs.Layouts.{Layout}
use Rattle.dt_plan.specs.Operations.{ops_of}
use Rattle.dt_plan.specs.Bounds.{buffers_of}
use Rattle.dt_plan.specs.Limits.{PlanView, plan_view}
use Rattle.dt_sim.specs.Planned.{IsPlanned}

view_ops : (l : Layout) → (plan_view l).ops ≡ ops_of l
unfolding plan_view
view_ops l = refl

view_buffers : (l : Layout) → (plan_view l).buffers ≡ buffers_of l
unfolding plan_view
view_buffers l = refl

view_nodes : (l : Layout) → (plan_view l).nodes ≡ nodes_of l.machine
unfolding plan_view
view_nodes l = refl

-- the operations, the buffers and the nodes of a plan are those of its layout
pub planned_ops : (l : Layout) (p : PlanView) → IsPlanned l p → p.ops ≡ ops_of l
planned_ops l p e = ap (λ (v : PlanView). v.ops) e ∙ view_ops l

pub planned_buffers : (l : Layout) (p : PlanView) → IsPlanned l p → p.buffers ≡ buffers_of l
planned_buffers l p e = ap (λ (v : PlanView). v.buffers) e ∙ view_buffers l

pub planned_nodes : (l : Layout) (p : PlanView) → IsPlanned l p → p.nodes ≡ nodes_of l.machine
planned_nodes l p e = ap (λ (v : PlanView). v.nodes) e ∙ view_nodes l
