use Rattle.std.proofs.Common.{◌≡◌, ℕ, Option, option_map, sym, ap, ◌∙◌, subst}
use Rattle.dt_nest.specs.declared.branches.Substituted.{Substituted}
use Rattle.dt_nest.specs.Branch.{substituted_at}
use Rattle.dt_nest.specs.Run.{Run, IsAtLeaf, IsExtent, AreAscending, OnVisit, standing}
use Rattle.dt_nest.proofs.RunFacts.{lanes_answer, lanes_ascending}
use Rattle.dt_nest.proofs.visits.Visits.lanes.Goals as goal

pub returns-clause-extent : goal.returns-clause-extent
returns-clause-extent g c =
    let e : c.extent_of.result ≡ option_map (λ (x : Substituted). x.extent) (substituted_at c.self.inside.sched.now.nest (standing c.self.inside.progress)) =
    c.extent_of.ensures ∙ ap (option_map (λ (x : Substituted). x.extent)) c.self.invariant.2.substituted in
    subst (λ (n : Option ℕ). IsExtent c.args.self.now n) (sym e)
    (subst (λ (r : Run). IsExtent r (option_map (λ (x : Substituted). x.extent) (substituted_at c.self.inside.sched.now.nest (standing c.self.inside.progress)))) c.self.view_is
    (lanes_answer (g.L.Locator.tensors c.self.inside.loc.now) c.self.inside.sched.now c.self.inside.path.items c.self.inside.cursor.slots.items c.self.inside.progress c.self.invariant.0 (subst IsAtLeaf (sym c.self.view_is) c.requires)))

pub returns-clause-ascending : goal.returns-clause-ascending
returns-clause-ascending g c =
    subst (λ (r : Run). OnVisit r.last (λ visit. AreAscending visit.lanes)) c.self.view_is (lanes_ascending (g.L.Locator.tensors c.self.inside.loc.now) c.self.inside.sched.now c.self.inside.path.items c.self.inside.cursor.slots.items c.self.inside.progress c.self.invariant.0 (subst IsAtLeaf (sym c.self.view_is) c.requires))
