use Rattle.std.proofs.Common.{List, ℕ, ◌≤◌, sym, ◌∙◌, subst, ap}
use Rattle.dt_base.specs.Rows.{product}
use Rattle.dt_place.proofs.MachineFacts.{level_facts}
use Rattle.dt_place.proofs.machines.Machine.nodes.Goals as goal

pub returns-clause-some : goal.returns-clause-some
returns-clause-some c = subst (λ (n : ℕ). 1 ≤ n) (sym (c.self.invariant.2 ∙ ap (λ (l : List ℕ). product l) c.self.invariant.1)) (level_facts c.self.inside.levels.items c.self.invariant.0).dims.positive

pub returns-clause-few : goal.returns-clause-few
returns-clause-few c = subst (λ (n : ℕ). n ≤ 64) (sym (c.self.invariant.2 ∙ ap (λ (l : List ℕ). product l) c.self.invariant.1)) (level_facts c.self.inside.levels.items c.self.invariant.0).dims.nodes
