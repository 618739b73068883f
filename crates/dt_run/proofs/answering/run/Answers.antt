use Rattle.std.proofs.Common.{◌≡◌, ℕ, ◌++◌, ◌∙◌, List, map, ap, sym, subst}
use Rattle.std.specs.Prelude.{codes}
use Rattle.std.specs.List.{zip}
use Rattle.dt_model.specs.Positions.{StoredTensor}
use Rattle.dt_model.specs.WholeTensor.{WholeTensor}
use Rattle.dt_model.specs.Value.{final_of}
use Rattle.dt_place.specs.Machines.{dims_of}
use Rattle.dt_tensor.specs.Packed.{stored_of}
use Rattle.dt_job.specs.PartsOf.{ArePartsOf}
use Rattle.dt_refusal.specs.Refusals.{line_end}
use Rattle.dt_run.specs.Outcome.{ends_of, given_of, packed_with}
use Rattle.dt_run.specs.Running.{AreOver, AreWorkless}
use Rattle.dt_run.specs.TensorText.{dense_of}
use Rattle.dt_run.proofs.EndTensors.{ends_dense}
use Rattle.dt_run.proofs.GivenTensors.{given_over}
use Rattle.dt_run.proofs.Runs.{same_run}
use Rattle.dt_run.proofs.answering.run.Goals as goal

pub run_parts-requires-clause-over : goal.run_parts-requires-clause-over
run_parts-requires-clause-over c =
    subst (λ (s : List StoredTensor). AreOver s c.in_ok-levels.wholes.items) (sym c.in_ok-levels.ensures.levels)
    (subst (AreOver (map stored_of c.args.job.tensors)) (sym c.in_ok-levels.ensures.wholes) (given_over c.args.job.tensors))

pub run_parts-requires-clause-workless : goal.run_parts-requires-clause-workless
run_parts-requires-clause-workless c = subst AreWorkless (sym c.as_slice.ensures) c.requires.workless

pub run_parts-requires-clause-parts : goal.run_parts-requires-clause-parts
run_parts-requires-clause-parts c = (
  dims_of c.args.job.machine,
  c.args.job.names,
  c.requires.job.0,
  subst (λ (s : List StoredTensor). ArePartsOf (dims_of c.args.job.machine) s c.args.job.names c.requires.job.0 c.as_slice.result.now) (sym c.in_ok-levels.ensures.levels)
      (subst (ArePartsOf (dims_of c.args.job.machine) (map stored_of c.args.job.tensors) c.args.job.names c.requires.job.0) (sym c.as_slice.ensures) c.requires.job.1.parts),
)

pub returns : goal.returns
returns c = λ stmts h.
    let ws : List WholeTensor = c.run_parts.new.tensors.items in
    let final : ws ≡ final_of stmts (given_of c.args.job) =
    c.in_ok-run_parts.ensures.ok (dims_of c.args.job.machine) c.args.job.names stmts
    (subst (λ (s : List StoredTensor). ArePartsOf (dims_of c.args.job.machine) s c.args.job.names stmts c.as_slice.result.now) (sym c.in_ok-levels.ensures.levels)
    (subst (ArePartsOf (dims_of c.args.job.machine) (map stored_of c.args.job.tensors) c.args.job.names stmts) (sym c.as_slice.ensures) h.parts))
    ∙ ap (λ (ts : List WholeTensor). final_of stmts ts) c.in_ok-levels.ensures.wholes in
    let over : AreOver (map stored_of c.args.job.tensors) ws = subst (λ (s : List StoredTensor). AreOver s ws) c.in_ok-levels.ensures.levels c.in_ok-run_parts.ensures.over in
    let ends : map dense_of ws ≡ ends_of (record { job = c.args.job; stmts = stmts }) =
    sym (ends_dense c.args.job.tensors ws h.tensors over.shapes over.whole)
    ∙ ap (λ (ts : List WholeTensor). map (λ p. packed_with p.0 p.1) (zip (map stored_of c.args.job.tensors) ts)) final in
    c.in_ok-put_shows.ensures
    ∙ same_run c.append.new.self (codes "distal run" ++ line_end) c.as_slice-2.result.now c.args.job.names (map dense_of c.as_slice-3.result.now) (ends_of (record { job = c.args.job; stmts = stmts })) c.as_slice-4.result.now c.args.job.shows
    (c.in_ok-append.ensures.ok ∙ ap (λ (f : List ℕ). f ++ (codes "distal run" ++ line_end)) c.new-out.ensures)
    c.as_slice-2.ensures
    (ap (λ (ts : List WholeTensor). map dense_of ts) c.as_slice-3.ensures.value ∙ ends)
    c.as_slice-4.ensures
