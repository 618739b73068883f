-- The product's plan meets what the laws ask.
use Rattle.std.proofs.Common.{◌≡◌, ℕ, false, List, [], ◌∷◌, refl, arith}
use Rattle.std.specs.List.{IsDistinct}
use Rattle.std.specs.Str.{bytes_eq}
use Rattle.dt_model.specs.declared.stmt.Factor.TheVariants.{Read}
use Rattle.dt_model.specs.declared.stmt.Stmt.{Stmt}
use Rattle.dt_nest.specs.Chain.{IsSchedulable, stmt_schedule}
use Rattle.dt_nest.specs.Lawful.{IsLawful}
use Rattle.dt_nest.specs.Meaning.{known}
use Rattle.dt_nest.specs.Visits.{visits_of, needed_of}
use Rattle.dt_nest.proofs.ChainLawful.{stmt_lawful}
use Rattle.dt_plan.specs.Bounds.{bound_of}
use Rattle.dt_plan.specs.Operations.{ops_of}
use Rattle.dt_plan.specs.Footprints.{footprints_of}
use Rattle.dt_events.specs.Conflicts.{some_meet}
use Rattle.dt_events.specs.Jobs.{op_at}
use Rattle.dt_events.specs.StateLaws.{AreRunnable, HasWords}
use Rattle.dt_events.specs.Worked.{product_schedule, product_layout}

-- A(i,j) = B(i,k) * C(k,j), where each variable has two values
product : Stmt
product = record {
  lhs = record { tensor = 0; vars = 0 ∷ 1 ∷ [] };
  adds = false;
  terms = record { minus = false; factors = Read (record { tensor = 1; vars = 0 ∷ 2 ∷ [] }) ∷ Read (record { tensor = 2; vars = 2 ∷ 1 ∷ [] }) ∷ [] } ∷ [];
  extents = 2 ∷ 2 ∷ 2 ∷ [];
}

-- the names of its tensors and of its variables
tensor_names : List (List ℕ)
tensor_names = (65 ∷ []) ∷ (66 ∷ []) ∷ (67 ∷ []) ∷ []

variable_names : List (List ℕ)
variable_names = (105 ∷ []) ∷ (106 ∷ []) ∷ (107 ∷ []) ∷ []

names_differ : (IsDistinct bytes_eq variable_names) × (IsDistinct bytes_eq tensor_names)
unfolding IsDistinct variable_names tensor_names
names_differ = (((refl, (refl, tt)), ((refl, tt), (tt, tt))), ((refl, (refl, tt)), ((refl, tt), (tt, tt))))

product_schedulable : IsSchedulable product variable_names tensor_names
unfolding product variable_names tensor_names
product_schedulable = record {
  few = omega arith;
  left = refl;
  accesses = ((omega arith, omega arith, (omega arith, (omega arith, tt))), ((omega arith, omega arith, (omega arith, (omega arith, tt))), ((omega arith, omega arith, (omega arith, (omega arith, tt))), tt)));
  named = refl;
  differ = names_differ.0;
  tensors_differ = names_differ.1;
  few_tensors = omega arith;
}

-- the schedule of the plan's part is lawful
pub product_lawful : IsLawful product_schedule
unfolding stmt_schedule product variable_names tensor_names
product_lawful = stmt_lawful product variable_names tensor_names product_schedulable

-- what is asked of each part
pub product_runnable : AreRunnable product_layout
product_runnable = (record { lawful = product_lawful; unread = refl; tensors = refl }, tt)

-- the copies of B and of C don't meet
pub copies_unmet : some_meet (footprints_of product_layout (op_at (ops_of product_layout) 4)) (footprints_of product_layout (op_at (ops_of product_layout) 5)) ≡ false
unfolding ops_of visits_of needed_of known
copies_unmet = refl

-- its homes have 12 words, and so have their scratches
pub product_bound : bound_of product_layout 0 ≡ 24
unfolding visits_of needed_of known
product_bound = refl

-- the task is no zero
pub task_words : HasWords (op_at (ops_of product_layout) 6)
unfolding ops_of visits_of needed_of known
task_words e = absurd (cc)
