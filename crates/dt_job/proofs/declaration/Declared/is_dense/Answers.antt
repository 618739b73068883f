use Rattle.std.proofs.Common.{ℕ, nat_eq, ap, ◌∙◌}
use Rattle.dt_model.specs.Positions.{StoredTensor, cost_of}
use Rattle.dt_job.specs.Contents.{Content, has_dense_levels}
use Rattle.dt_job.proofs.JobTensorFacts.{cost_tells}
use Rattle.dt_job.proofs.declaration.Declared.is_dense.Goals as goal

pub returns : goal.returns
returns c =
    ap (λ (n : ℕ). nat_eq n 1) (c.cost.ensures ∙ ap (λ (t : StoredTensor). cost_of t) c.levels.ensures) ∙ cost_tells c.self.inside.tensor.compressed
    ∙ ap (λ (x : Content). has_dense_levels x.packed) c.self.view_is
