use Rattle.std.proofs.Common.{◌≡◌, ℕ, ◌<◌, ◌^◌, [], length, get_or, arith, ap, sym, ◌∙◌, subst}
use Rattle.std.specs.Prelude.{slice_index}
use Rattle.dt_model.specs.WholeTensor.{WholeTensor, IsWhole}
use Rattle.dt_nest.specs.Schedule.{Schedule}
use Rattle.dt_nest.proofs.Inside.{fits_stored}
use Rattle.dt_nest.specs.Outputs.{output_of}
use Rattle.dt_nest.specs.Run.{Run, run_over}
use Rattle.dt_nest.specs.World.{entries_of}
use Rattle.dt_run.proofs.VisitLeaves.{left_within}
use Rattle.dt_run.proofs.VisitSteps.{as_many, starts, goes_on, sum_added}
use Rattle.dt_run.proofs.visiting.add_visits.Goals as goal

pub over-requires-clause-fits : goal.over-requires-clause-fits
over-requires-clause-fits g c = fits_stored (g.L.Locator.tensors c.args.loc.now) c.args.tensors.now.items c.args.sched.now c.requires.fits

pub visits-init : goal.visits-init
visits-init g c = record {
  gone = starts (g.L.Locator.tensors c.args.loc.now) c.args.sched.now c.args.tensors.now.items c.in_ok-visits.visits c.requires c.parts.ensures.lawful c.extents_of-extents.ensures.below c.in_ok-visits.ensures;
  room = ap length c.as_mut_slice-values.ensures.value ∙ c.in_ok-room.ensures ∙ ap (λ (r : Run). length r.sched.names) c.in_ok-visits.ensures;
}

pub run_next-requires-clause-ready : goal.run_next-requires-clause-ready
run_next-requires-clause-ready g c = c.visits.invariant.gone.ready

pub run_next-requires-clause-room : goal.run_next-requires-clause-room
run_next-requires-clause-room g c = c.visits.invariant.room ∙ ap (λ (s : Schedule). length s.names) (sym c.visits.invariant.gone.same.0)

pub visits-preserved : goal.visits-preserved
visits-preserved g c = record {
  gone =
      goes_on (run_over (g.L.Locator.tensors c.args.loc.now) c.args.sched.now []) c.visits.visits c.run_next.new.visits c.args.tensors.now.items c.visits.tensors.items c.run_next.new.tensors.items c.visits.invariant.gone c.run_next.ensures.gone;
  room = c.run_next.ensures.room ∙ c.visits.invariant.room;
}

pub index-requires : goal.index-requires
index-requires g c =
    let inside = left_within (g.L.Locator.tensors c.args.loc.now) c.args.tensors.now.items c.args.sched.now c.requires c.parts.ensures.lawful in
    let many : length c.run_next.new.tensors.items ≡ length c.args.tensors.now.items = as_many c.run_next.new.tensors.items c.args.tensors.now.items (c.run_next.ensures.gone.shapes ∙ c.visits.invariant.gone.shapes) in
    let at : c.left_of-left.result ≡ output_of c.args.sched.now.nest = c.left_of-left.ensures ∙ ap (λ (s : Schedule). output_of s.nest) c.parts.ensures.parts in
    omega (arith, inside, many, at, c.run_next.new.tensors.ok.0)

pub returns-clause-ok : goal.returns-clause-ok
returns-clause-ok g c =
    let at : c.left_of-left.result ≡ output_of c.args.sched.now.nest = c.left_of-left.ensures ∙ ap (λ (s : Schedule). output_of s.nest) c.parts.ensures.parts in
    let item : c.index.result.now ≡ get_or c.run_next.new.tensors.items (output_of c.args.sched.now.nest) c.index.result.now = c.index.ensures ∙ ap (λ (t : ℕ). get_or c.run_next.new.tensors.items t c.index.result.now) at in
    sum_added (g.L.Locator.tensors c.args.loc.now) c.args.sched.now c.args.tensors.now.items c.run_next.new.tensors.items
    (c.visits_add_the_sum.ensures c.args.sched.now (g.L.Locator.tensors c.args.loc.now) (entries_of c.args.tensors.now.items) c.parts.ensures.lawful c.requires.unread)
    c.index.result.now c.run_next.new.visits
    (goes_on (run_over (g.L.Locator.tensors c.args.loc.now) c.args.sched.now []) c.visits.visits c.run_next.new.visits c.args.tensors.now.items c.visits.tensors.items c.run_next.new.tensors.items c.visits.invariant.gone c.run_next.ensures.gone)
    c.visits-test.ensures.fewer
    (left_within (g.L.Locator.tensors c.args.loc.now) c.args.tensors.now.items c.args.sched.now c.requires c.parts.ensures.lawful)
    (subst IsWhole item c.words-words.ensures.whole) (subst (λ (t : WholeTensor). (k : ℕ) → slice_index t.values k < 2 ^ 64) item c.words-words.ensures.below)
