use Rattle.std.proofs.Common.{◌<◌, ℕ, Option, unwrap_or, sym, ap, ◌∙◌, subst}
use Rattle.std.specs.Prelude.{slice_index}
use Rattle.dt_nest.proofs.visits.Visits.value_in.Goals as goal

pub returns-clause-value : goal.returns-clause-value
returns-clause-value g c = c.number_of.ensures ∙ ap (λ (o : Option ℕ). unwrap_or o 0) c.tabled.ensures ∙ c.requires.point.has c.args.var c.requires.valued

pub returns-clause-below : goal.returns-clause-below
returns-clause-below g c = subst (λ (n : ℕ). n < slice_index c.args.self.now.sched.extents c.args.var) (sym (returns-clause-value g c)) (c.requires.point.below c.args.var c.requires.valued)
