use Rattle.std.proofs.Common.{◌≡◌, All, List, ℕ, map, Some, subst, sym, ap, ◌∙◌}
use Rattle.dt_tensor.specs.Packed.{Packed}
use Rattle.dt_job.specs.Contents.{Content, names_of, placement_of}
use Rattle.dt_job.specs.contracts.draft.Draft.{the_view}
use Rattle.dt_job.specs.Drafts.{DraftView, IsDraft, part_of}
use Rattle.dt_job.specs.JobTensors.{IsJobTensor}
use Rattle.dt_job.specs.Read.{job_on}
use Rattle.dt_job.specs.declared.job.Job.{Job}
use Rattle.dt_job.specs.Scheduled.{ScheduledView}
use Rattle.dt_job.proofs.ContentFacts.{job_of_draft, lawful_job, lawful_more, machine_known, made_job}
use Rattle.dt_job.proofs.PhaseFacts.{whole_phase}
use Rattle.dt_job.proofs.Separating.{mapped_more}
use Rattle.dt_job.proofs.draft.Draft.into_job.Goals as goal

pub unwrap-machine-requires : goal.unwrap-machine-requires
unwrap-machine-requires c =
    machine_known (the_view c.self.inside) c.args.self c.self.invariant c.self.view_is (whole_phase c.args.self.phase c.requires)

pub loop-name-preserved : goal.loop-name-preserved
loop-name-preserved c = record {
  places = mapped_more (λ (t : List ℕ × Content). placement_of t.1) c.loop-name.places.items c.push-in-loop-name.new.self.items _ (c.in-Some._name, c.in-Some.declared) c.into_parts-tensor.result.1 c.loop-name._name-iterator c.next.new.self c.in_ok-push-2.ensures.items c.into_parts-tensor.ensures.placement c.in-Some.ensures.steps c.loop-name.invariant.places;
  tensors = mapped_more (λ (t : List ℕ × Content). t.1.packed) c.loop-name.tensors.items c.push.new.self.items _ (c.in-Some._name, c.in-Some.declared) c.into_parts-tensor.result.0 c.loop-name._name-iterator c.next.new.self c.in_ok-push.ensures.items c.into_parts-tensor.ensures.tensor c.in-Some.ensures.steps c.loop-name.invariant.tensors;
  lawful = lawful_more c.loop-name.tensors.items c.push.new.self.items c.into_parts-tensor.result.0 c.in_ok-push.ensures.items c.loop-name.invariant.lawful c.into_parts-tensor.ensures.lawful;
}

known : (c : goal.After-from_vec) → c.args.self.machine ≡ Some c.unwrap-machine.result
known c = ap (λ (d : DraftView). d.machine) (sym c.self.view_is) ∙ c.unwrap-machine.ensures

job : goal.After-from_vec → Job
job c = record { machine = c.unwrap-machine.result; names = c.into_parts-names.result.0; tensors = c.from_list.result; places = c.from_vec.result; heads = c.in_ok-heads.heads; parts = c.in_ok-heads.parts; shows = c.self.inside.shows }

made : (c : goal.After-from_vec) → job c ≡ job_on c.args.self c.unwrap-machine.result
unfolding job
made c =
    made_job c.args.self c.unwrap-machine.result (job c) c.loop-name.tensors.items c.loop-name.places.items c.loop-name._name-iterator
    (λ i. c.unwrap-machine.result) (c.into_parts-names.ensures.names ∙ ap (λ (d : DraftView). names_of d.tensors) c.self.view_is) c.from_list.ensures c.from_vec.ensures
    (c.in_ok-heads.ensures.heads ∙ ap (λ (d : DraftView). map (λ (s : ScheduledView). s.head) d.closed) c.self.view_is)
    (c.in_ok-heads.ensures.parts ∙ ap (λ (d : DraftView). map part_of d.closed) c.self.view_is)
    (ap (λ (d : DraftView). d.shows) c.self.view_is) c.in-None.ensures.steps.0 c.loop-name.invariant.tensors c.loop-name.invariant.places

pub returns-clause-job : goal.returns-clause-job
unfolding job
returns-clause-job c = job_of_draft c.args.self c.unwrap-machine.result (job c) (known c) (made c)

pub returns-clause-lawful : goal.returns-clause-lawful
unfolding job
returns-clause-lawful c =
    let A : List Packed → Type 0 = λ ts. All IsJobTensor ts in
    lawful_job c.args.self c.unwrap-machine.result (job c) (made c) (known c) (subst IsDraft c.self.view_is c.self.invariant) (subst A (sym c.from_list.ensures) c.loop-name.invariant.lawful)
