use Rattle.std.proofs.Common.{ℕ, List, subst, sym, ◌∙◌, arith}
use Rattle.dt_nest.specs.Visits.{IsPath}
use Rattle.dt_nest.proofs.PathUnions.{longer_path}
use Rattle.dt_plan.proofs.visited_paths.visited_values.Goals as goal

pub is_visited-requires-clause-path : goal.is_visited-requires-clause-path
is_visited-requires-clause-path g c =
    subst (λ (p : List ℕ). IsPath c.args.sched.now p) (sym (c.as_slice.ensures.value ∙ c.in_ok-longer.ensures))
    (longer_path c.args.sched.now.nest c.args.path.now c.loop-value.value c.requires.path c.requires.loops (omega (arith, c.inner_extent-extent.ensures, c.loop-value-test.true, c.loop-value.auto.value-end)))
