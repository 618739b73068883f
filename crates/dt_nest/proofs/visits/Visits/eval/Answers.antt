use Rattle.std.proofs.Common.{◌≡◌, ◌<◌, ℕ, List, Option, unwrap_or, sym, ap, ◌∙◌, subst}
use Rattle.std.specs.Prelude.{slice_index}
use Rattle.dt_nest.specs.World.{world_of}
use Rattle.dt_nest.specs.Values.{inside_in}
use Rattle.dt_nest.specs.ValueTables.{tabled}
use Rattle.dt_nest.specs.Search.{pairs_at}
use Rattle.dt_nest.specs.Run.{Run, HasValue, IsValue, standing}
use Rattle.dt_nest.proofs.RunFacts.{value_answer, value_below, value_kept}
use Rattle.dt_nest.proofs.visits.Visits.eval.Goals as goal

pub returns-clause-value : goal.returns-clause-value
returns-clause-value g c =
    let has = subst (λ (r : Run). HasValue r c.args.var) (sym c.self.view_is) c.requires in
    let e : c.tabled.result ≡ inside_in (world_of (g.L.Locator.tensors c.self.inside.loc.now) c.self.inside.sched.now) c.self.inside.sched.now.derived (pairs_at c.self.inside.sched.now.nest (standing c.self.inside.progress)) c.self.inside.cursor.slots.items c.args.var =
    c.tabled.ensures
    ∙ ap (λ (l : List (Option ℕ)). tabled l c.args.var) c.as_slice.ensures.value
    ∙ value_kept (g.L.Locator.tensors c.self.inside.loc.now) c.self.inside.sched.now c.self.inside.path.items c.self.inside.cursor.slots.items c.self.inside.progress c.self.invariant.0 c.self.inside.inner_loops c.self.inside.cursor.values.items c.args.var has c.self.invariant.1 in
    subst (λ (n : ℕ). IsValue c.args.self.now c.args.var n) (sym c.number_of.ensures)
    (subst (λ (r : Run). IsValue r c.args.var (unwrap_or c.tabled.result 0)) c.self.view_is
    (value_answer (g.L.Locator.tensors c.self.inside.loc.now) c.self.inside.sched.now c.self.inside.path.items c.self.inside.cursor.slots.items c.self.inside.progress c.self.invariant.0 c.args.var c.tabled.result has e))

pub returns-clause-below : goal.returns-clause-below
returns-clause-below g c =
    let v : IsValue c.args.self.now c.args.var c.number_of.result = returns-clause-value g c in
    subst (λ (r : Run). c.number_of.result < slice_index r.sched.extents c.args.var) c.self.view_is
    (value_below (g.L.Locator.tensors c.self.inside.loc.now) c.self.inside.sched.now c.self.inside.path.items c.self.inside.cursor.slots.items c.self.inside.progress c.self.invariant.0 c.args.var c.number_of.result (subst (λ (r : Run). HasValue r c.args.var) (sym c.self.view_is) c.requires)
    (subst (λ (r : Run). IsValue r c.args.var c.number_of.result) (sym c.self.view_is) v))
