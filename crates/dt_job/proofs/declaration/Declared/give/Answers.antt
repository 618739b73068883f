use Rattle.std.proofs.Common.{◌≡◌, ◌≤◌, ℕ, List, true, length, ap, sym, subst, ◌∙◌}
use Rattle.dt_base.specs.Rows.{product}
use Rattle.dt_tensor.specs.Packed.{Packed, dense_tensor, packed_with, stored_of}
use Rattle.dt_job.specs.Contents.{Content}
use Rattle.dt_job.specs.JobTensors.{IsJobTensor}
use Rattle.dt_job.proofs.JobTensorFacts.{dense_job, job_positions, renumbered}
use Rattle.dt_job.proofs.declaration.Declared.give.Goals as goal

pub dense-requires-clause-few : goal.dense-requires-clause-few
dense-requires-clause-few c = subst (λ (ns : List ℕ). product ns ≤ 1048576) (sym c.shape.ensures.dims) c.self.invariant.few

pub dense-requires-clause-full : goal.dense-requires-clause-full
dense-requires-clause-full c =
    c.requires ∙ ap (λ (x : Content). length x.packed.coords) (sym c.self.view_is) ∙ job_positions c.self.inside.tensor c.self.invariant ∙ ap product (sym c.shape.ensures.dims)

pub invariant_of-self : goal.invariant_of-self
invariant_of-self c =
    let full : length c.args.values.items ≡ product c.self.inside.tensor.extents =
    c.requires ∙ ap (λ (x : Content). length x.packed.coords) (sym c.self.view_is) ∙ job_positions c.self.inside.tensor c.self.invariant in
    subst IsJobTensor (sym (c.dense.ensures ∙ ap (λ (ns : List ℕ). dense_tensor ns c.args.values.items) c.shape.ensures.dims))
    (dense_job c.self.inside.tensor.extents c.args.values.items c.self.invariant.shape full c.self.invariant.few)

pub returns : goal.returns
returns c =
    ap (λ (p : Packed). record { packed = p; given = true; placement = c.self.inside.placement })
    (c.dense.ensures ∙ ap (λ (ns : List ℕ). dense_tensor ns c.args.values.items) c.shape.ensures.dims ∙ sym (renumbered c.self.inside.tensor c.args.values.items c.self.invariant))
    ∙ ap (λ (x : Content). record x { packed = packed_with (stored_of x.packed) c.args.values.items; given = true }) c.self.view_is
