use Rattle.std.proofs.Common.{ℕ, ◌+◌, ◌<◌, List, ap, ◌∙◌, sym, subst, arith, slice_index, sum, take}
use Rattle.dt_flags.specs.Sums.{halved_times, lowest}
use Rattle.dt_flags.proofs.Halves.{length_times}
use Rattle.dt_flags.proofs.Spots.{top_within, level_is, halved_is, level_few, within_list}
use Rattle.dt_flags.proofs.sums.Sums.find.Goals as goal

pub loop-level-init : goal.loop-level-init
loop-level-init c =
    record {
      levels = omega (arith, c.len-level.ensures);
      within = top_within c.self.inside.levels.items c.len-level.result c.args.amount c.self.invariant (c.len-level.ensures ∙ c.self.inside.levels.ok.0) (rw c.self.view_is c.requires);
      kept = omega arith;
    }

pub step_down-spot-requires-clause-few : goal.step_down-spot-requires-clause-few
step_down-spot-requires-clause-few c =
    level_few c.self.inside.levels.items c.loop-level.level c.index.result.now c.self.invariant c.loop-level-test.true c.loop-level.invariant.levels c.index.ensures

pub step_down-spot-requires-clause-within : goal.step_down-spot-requires-clause-within
step_down-spot-requires-clause-within c =
    rw (halved_is c.self.inside.levels.items c.loop-level.level c.index.result.now c.self.invariant c.loop-level-test.true c.loop-level.invariant.levels c.index.ensures) c.loop-level.invariant.within

pub loop-level-preserved : goal.loop-level-preserved
loop-level-preserved c =
    let level = level_is c.self.inside.levels.items c.loop-level.level c.index.result.now c.self.invariant c.loop-level-test.true c.loop-level.invariant.levels c.index.ensures in
    let halves = halved_is c.self.inside.levels.items c.loop-level.level c.index.result.now c.self.invariant c.loop-level-test.true c.loop-level.invariant.levels c.index.ensures in
    record {
      levels = omega (arith, c.loop-level.invariant.levels);
      within = subst (λ (ys : List ℕ). c.step_down-spot.result.behind < slice_index ys c.step_down-spot.result.place) level c.step_down-spot.ensures.within;
      kept =
          ap (λ (ys : List ℕ). sum (take c.step_down-spot.result.place ys) + c.step_down-spot.result.behind) (sym level) ∙ c.step_down-spot.ensures.kept
          ∙ ap (λ (ys : List ℕ). sum (take c.loop-level.spot.place ys) + c.loop-level.spot.behind) halves ∙ c.loop-level.invariant.kept;
    }

pub overflow_cast-result : goal.overflow_cast-result
overflow_cast-result c =
    let near = within_list (halved_times c.loop-level.level (lowest c.self.inside.levels.items)) c.loop-level.spot.place c.loop-level.spot.behind c.loop-level.invariant.within in
    let few = length_times c.loop-level.level (lowest c.self.inside.levels.items) in
    omega (arith, near, few, c.self.invariant.small)
