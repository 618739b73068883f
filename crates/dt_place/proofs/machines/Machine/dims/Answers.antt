use Rattle.std.proofs.Common.{List, ℕ, ◌≤◌, length, sym, ◌∙◌, subst}
use Rattle.std.specs.List.{AllByRecursion}
use Rattle.dt_place.proofs.MachineFacts.{level_facts}
use Rattle.dt_place.proofs.machines.Machine.dims.Goals as goal

pub returns-clause-few : goal.returns-clause-few
returns-clause-few c = subst (λ (l : List ℕ). length l ≤ 6) (sym (c.as_slice.ensures ∙ c.self.invariant.1)) (level_facts c.self.inside.levels.items c.self.invariant.0).dims.few

pub returns-clause-each : goal.returns-clause-each
returns-clause-each c = subst (λ (l : List ℕ). AllByRecursion (λ n. 1 ≤ n) l) (sym (c.as_slice.ensures ∙ c.self.invariant.1)) (level_facts c.self.inside.levels.items c.self.invariant.0).dims.each
