use Rattle.std.proofs.Common.{ℕ, List, ◌++◌, ◌∷◌, [], length, map, suc, ap, sym, ◌∙◌, subst, arith}
use Rattle.std.specs.List.{AllByRecursion, flat_map}
use Rattle.dt_nest.specs.Paths.{HasLoops}
use Rattle.dt_nest.specs.PathSteps.{visited_values}
use Rattle.dt_nest.specs.Visits.{IsPath}
use Rattle.dt_plan.proofs.PathFacts.{paths_more, paths_deep}
use Rattle.dt_plan.proofs.visited_paths.first_paths.Goals as goal

pub grown-requires-clause-each : goal.grown-requires-clause-each
grown-requires-clause-each g c =
    subst (λ (ps : List (List ℕ)). AllByRecursion (λ p. IsPath c.args.sched.now p × HasLoops (suc (length p)) c.args.sched.now.nest) ps) (sym (c.as_slice.ensures ∙ c.loop-loops.invariant))
    (paths_deep (g.L.Locator.tensors c.args.loc.now) c.args.sched.now c.args.k c.loop-loops.loops c.requires.loops (omega (arith, c.loop-loops-test.true, c.loop-loops.auto.loops-end)))

pub loop-loops-preserved : goal.loop-loops-preserved
loop-loops-preserved g c =
    let stored = g.L.Locator.tensors c.args.loc.now in
    let s = c.args.sched.now in
    c.in_ok-paths-2.ensures ∙ ap (λ (ps : List (List ℕ)). flat_map (λ p. map (λ i. p ++ i ∷ []) (visited_values stored s p)) ps) (c.as_slice.ensures ∙ c.loop-loops.invariant)
    ∙ sym (paths_more stored s c.args.k c.loop-loops.loops c.requires.loops (omega (arith, c.loop-loops-test.true, c.loop-loops.auto.loops-end)))
