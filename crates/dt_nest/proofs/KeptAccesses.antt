-- A nest with the same accesses keeps them.
use Rattle.std.proofs.Common.{◌≡◌, ℕ, false, List, length, sym, subst}
use Rattle.std.specs.Prelude.{nat_eq}
use Rattle.dt_model.specs.declared.stmt.Access.{Access}
use Rattle.std.specs.List.{Contains, list_any}
use Rattle.dt_nest.specs.Tree.{accesses_of}
use Rattle.dt_nest.specs.Outputs.{output_of, reads_of}
use Rattle.dt_nest.specs.Schedule.{Schedule}
use Rattle.dt_nest.specs.Commands.{KeepsEach, KeepsAccesses}

-- the same accesses
pub each_stays : (n : ℕ) (old new : List Access) → new ≡ old → KeepsEach n old new
each_stays n old new e a l = (λ h. subst (λ (xs : List Access). Contains xs a) e h, λ h. subst (λ (xs : List Access). Contains xs a) (sym e) h)

-- the same tensors, accesses, reads and left tensor
pub accesses_stay : (old new : Schedule) → new.tensors ≡ old.tensors → accesses_of new.nest ≡ accesses_of old.nest → reads_of new.nest ≡ reads_of old.nest → output_of new.nest ≡ output_of old.nest → KeepsAccesses old new
accesses_stay old new tensors accesses reads output = record {
  tensors = tensors;
  accesses = each_stays (length old.tensors) (accesses_of old.nest) (accesses_of new.nest) accesses;
  reads = each_stays (length old.tensors) (reads_of old.nest) (reads_of new.nest) reads;
  output = output;
  unread = λ u. subst (λ (t : ℕ). is_unread t (reads_of new.nest)) (sym output) (subst (λ (xs : List Access). is_unread (output_of old.nest) xs) (sym reads) u);
}
  where
    is_unread : ℕ → List Access → Type 0
    is_unread t xs = list_any (λ (a : Access). nat_eq a.tensor t) xs ≡ false
