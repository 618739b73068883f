-- The named operations of a job, sorted by their keys, are the brackets of its statements.
use Rattle.std.proofs.Common.{◌≡◌, ℕ, List, []}
use Rattle.std.specs.List.{AllByRecursion, flat_map}
use Rattle.dt_nest.proofs.Each.{all_map}
use Rattle.dt_plan.specs.Listed.{IsIn, Ascends, listed}
use Rattle.dt_plan.specs.Brackets.{Outline, named_ops, brackets}
use Rattle.dt_plan.proofs.Ascending.{all_in, in_flat, flat_in}
use Rattle.dt_plan.proofs.Sorting.{listed_is}
use Rattle.dt_plan.proofs.Stretches.{Rises, Stretch, row_by}
use Rattle.dt_plan.proofs.Outlines.{IsOutline}
use Rattle.dt_plan.proofs.BracketsAscend.{brackets_stretch}
use Rattle.dt_plan.proofs.BracketsMembers.{named_in_brackets, brackets_in_named}

module _ {A I : Type 0} (key : A → List ℕ) (at : I → ℕ) (ms : List (Outline A I)) (ks : AllByRecursion (IsOutline key at) ms) (r : Rises (λ (m : Outline A I). m.stmt) ms) where
  -- the brackets of all statements ascend strictly
  pub job_ascends : Ascends key (flat_map brackets ms)
  job_ascends = row_by key (λ (m : Outline A I). m.stmt) brackets ms r (all_map (IsOutline key at) (λ m. Stretch key [] m.stmt m.stmt (brackets m)) (λ m k. brackets_stretch key at m k) ms ks)

  -- each named operation of a job is in its brackets
  pub job_in_brackets : (o : A) → IsIn o (flat_map named_ops ms) → IsIn o (flat_map brackets ms)
  job_in_brackets o h =
      let s = in_flat named_ops o ms h in
      flat_in brackets o s.0 ms s.1 (named_in_brackets key at s.0 (all_in (IsOutline key at) s.0 ms ks s.1) o s.2)

  -- each operation in the brackets of a job is named
  pub job_in_named : (o : A) → IsIn o (flat_map brackets ms) → IsIn o (flat_map named_ops ms)
  job_in_named o h =
      let s = in_flat brackets o ms h in
      flat_in named_ops o s.0 ms s.1 (brackets_in_named key at s.0 (all_in (IsOutline key at) s.0 ms ks s.1) o s.2)

  -- The sorted operations of a job are the brackets of its statements, one after the other.
  pub job_is_brackets : listed key (flat_map named_ops ms) ≡ flat_map brackets ms
  job_is_brackets = listed_is key (flat_map named_ops ms) (flat_map brackets ms) job_ascends job_in_brackets job_in_named
