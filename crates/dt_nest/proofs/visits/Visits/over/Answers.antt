use Rattle.std.proofs.Common.{◌≡◌, ℕ, List, length, replicate, sym, ap, ◌∙◌, subst}
use Rattle.dt_nest.specs.declared.progress.Progress.TheVariants.{Before}
use Rattle.dt_nest.specs.Schedule.{Schedule, seen}
use Rattle.dt_nest.specs.InnerLoops.{AreInnerLoops}
use Rattle.dt_nest.specs.Lawful.{IsLawful}
use Rattle.dt_nest.proofs.OwnSlots.{few_in}
use Rattle.dt_nest.specs.Run.{run_of, IsSound}
use Rattle.dt_nest.specs.Visited.{IsKept, IsVisited}
use Rattle.dt_nest.proofs.RunFacts.{kept_before, sound_before, starts}
use Rattle.dt_nest.proofs.visits.Visits.over.Goals as goal

pub invariant_of-result : goal.invariant_of-result
invariant_of-result g c =
    let p = c.in_ok-path.ensures.items in
    let e : c.in_ok-cursor.cursor.slots.items ≡ replicate (length c.args.sched.now.names) 0 = c.in_ok-cursor.ensures.slots ∙ ap (λ (n : ℕ). replicate n 0) (ap length c.as_slice-names.ensures ∙ ap (λ (r : Schedule). length r.names) c.parts-parts.ensures.parts) in
    subst (λ (l : List ℕ). IsSound (g.L.Locator.tensors c.args.loc.now) c.args.sched.now l c.in_ok-cursor.cursor.slots.items Before × IsKept (g.L.Locator.tensors c.args.loc.now) c.args.sched.now l c.in_ok-cursor.cursor.slots.items Before c.in_ok-inner_loops.inner_loops c.in_ok-cursor.cursor.values.items × IsVisited c.args.sched.now.nest 0 c.of-leaf.result) (sym p) (
      sound_before (g.L.Locator.tensors c.args.loc.now) c.args.sched.now c.args.path.now c.in_ok-cursor.cursor.slots.items c.parts-parts.ensures.lawful c.requires.fits c.requires.path e,
      kept_before (g.L.Locator.tensors c.args.loc.now) c.args.sched.now c.args.path.now c.in_ok-cursor.cursor.slots.items c.in_ok-inner_loops.inner_loops c.in_ok-cursor.cursor.values.items
          (subst (λ (r : Schedule). AreInnerLoops r c.args.path.now c.in_ok-inner_loops.inner_loops) c.parts-parts.ensures.parts c.in_ok-inner_loops.ensures)
          (c.in_ok-cursor.ensures.values ∙ ap length c.as_slice-names.ensures ∙ ap (λ (r : Schedule). length r.names) c.parts-parts.ensures.parts),
      subst (λ (r : Schedule). IsVisited r.nest 0 c.of-leaf.result) c.parts-parts.ensures.parts c.of-leaf.ensures,
    )

pub returns : goal.returns
returns g c =
    let p = c.in_ok-path.ensures.items in
    let e : c.in_ok-cursor.cursor.slots.items ≡ replicate (length c.args.sched.now.names) 0 = c.in_ok-cursor.ensures.slots ∙ ap (λ (n : ℕ). replicate n 0) (ap length c.as_slice-names.ensures ∙ ap (λ (r : Schedule). length r.names) c.parts-parts.ensures.parts) in
    ap (λ (l : List ℕ). run_of (g.L.Locator.tensors c.args.loc.now) c.args.sched.now l c.in_ok-cursor.cursor.slots.items Before) p
    ∙ starts (g.L.Locator.tensors c.args.loc.now) c.args.sched.now c.args.path.now c.in_ok-cursor.cursor.slots.items c.parts-parts.ensures.lawful c.requires.fits e

pub of-leaf-requires : goal.of-leaf-requires
of-leaf-requires g c = few_in (seen c.parts-parts.result.now) c.args.sched.now c.parts-parts.ensures.parts c.parts-parts.ensures.lawful

pub of-requires : goal.of-requires
of-requires g c = subst IsLawful (sym c.parts-parts.ensures.parts) c.parts-parts.ensures.lawful
