use Rattle.std.proofs.Common.{sym, subst}
use Rattle.dt_nest.specs.Tree.{Tree}
use Rattle.dt_nest.specs.Branch.{leaf_at}
use Rattle.dt_nest.specs.Run.{Run, IsAtLeaf, IsLeafOf, AreValued, HaveLoopValues, HaveTestValues, standing}
use Rattle.dt_nest.proofs.RunFacts.{leaf_answer, leaf_valued, loops_valued, tests_valued}
use Rattle.dt_nest.proofs.visits.Visits.leaf.Goals as goal

pub returns-clause-leaf : goal.returns-clause-leaf
returns-clause-leaf g c =
    subst (λ (t : Tree). IsLeafOf c.args.self.now t) (sym c.self.invariant.2.nest)
    (subst (λ (r : Run). IsLeafOf r (leaf_at c.self.inside.sched.now.nest (standing c.self.inside.progress))) c.self.view_is
    (leaf_answer (g.L.Locator.tensors c.self.inside.loc.now) c.self.inside.sched.now c.self.inside.path.items c.self.inside.cursor.slots.items c.self.inside.progress c.self.invariant.0 (subst IsAtLeaf (sym c.self.view_is) c.requires)))

pub returns-clause-valued : goal.returns-clause-valued
returns-clause-valued g c = subst AreValued c.self.view_is (leaf_valued (g.L.Locator.tensors c.self.inside.loc.now) c.self.inside.sched.now c.self.inside.path.items c.self.inside.cursor.slots.items c.self.inside.progress c.self.invariant.0 (subst IsAtLeaf (sym c.self.view_is) c.requires))

pub returns-clause-loops : goal.returns-clause-loops
returns-clause-loops g c = subst HaveLoopValues c.self.view_is (loops_valued (g.L.Locator.tensors c.self.inside.loc.now) c.self.inside.sched.now c.self.inside.path.items c.self.inside.cursor.slots.items c.self.inside.progress c.self.invariant.0 (subst IsAtLeaf (sym c.self.view_is) c.requires))

pub returns-clause-tests : goal.returns-clause-tests
returns-clause-tests g c = subst HaveTestValues c.self.view_is (tests_valued (g.L.Locator.tensors c.self.inside.loc.now) c.self.inside.sched.now c.self.inside.path.items c.self.inside.cursor.slots.items c.self.inside.progress c.self.invariant.0 (subst IsAtLeaf (sym c.self.view_is) c.requires))
