use Rattle.std.proofs.Common.{◌≡◌, ◌++◌, All}
use Rattle.dt_job.specs.Contents.{places_of, tensors_of}
use Rattle.dt_job.specs.JobTensors.{IsJobTensor}
use Rattle.dt_job.proofs.draft.Draft.into_job.Given as goal

abbrev pub invariant-loop-name : goal.invariant-loop-name
invariant-loop-name l = record {
  places : l.places.items ++ places_of l._name-iterator ≡ places_of l.fn.self.tensors;
  tensors : l.tensors.items ++ tensors_of l._name-iterator ≡ tensors_of l.fn.self.tensors;
  lawful : All IsJobTensor l.tensors.items;
}
