-- Laws of the list of operations.
use Rattle.std.specs.Prelude.{◌≡◌, ◌≤◌, Bool, true, List, [], ◌∷◌}
use Rattle.std.specs.List.{AllByRecursion, flat_map}
use Rattle.dt_nest.specs.Lawful.{IsLawful}
use Rattle.dt_place.specs.Machines.{IsMachine}
use Rattle.dt_plan.specs.declared.ops.Op.{Op}
use Rattle.dt_plan.specs.declared.parts.Part.{Part}
use Rattle.dt_plan.specs.Layouts.{Layout}
use Rattle.dt_plan.specs.Listed.{IsIn, Ascends}
use Rattle.dt_plan.specs.Brackets.{named_ops, brackets}
use Rattle.dt_plan.specs.Limits.{visit_count, visit_limit}
use Rattle.dt_plan.specs.Operations.{outlines_of, ops_of, key_of, comes_before, units_of}

-- what holds of a layout within the limit of visits
pub record IsLayout (l : Layout) : Type 0 where
  pub machine : IsMachine l.machine
  pub lawful : AllByRecursion (λ (p : Part). IsLawful p.sched) l.parts
  pub visits : visit_count l.parts ≤ visit_limit

-- The operations, ascending by their keys, are the brackets of the statements, one after the other.
abbrev pub ListIsBrackets : Type 0
ListIsBrackets = (l : Layout) → IsLayout l → ops_of l ≡ flat_map brackets (outlines_of l)

-- Each named operation is among them, and no other is.
abbrev pub ListHasNamed : Type 0
ListHasNamed =
    (l : Layout) → IsLayout l → (o : Op) → (IsIn o (flat_map named_ops (outlines_of l)) → IsIn o (ops_of l)) × (IsIn o (ops_of l) → IsIn o (flat_map named_ops (outlines_of l)))

-- They ascend strictly by their keys.
abbrev pub ListAscends : Type 0
ListAscends = (l : Layout) → Ascends key_of (ops_of l)

-- each element comes before all later ones
abbrev pub IsOrderedBy : {A : Type 0} → (A → A → Bool) → List A → Type 0
IsOrderedBy r [] = Unit {0}
IsOrderedBy r (x ∷ xs) = AllByRecursion (λ y. r x y ≡ true) xs × IsOrderedBy r xs

-- They ascend by what their keys are made of, one after the other: what comes before the path, the path with its end, and what
-- comes after it.
abbrev pub ListIsOrdered : Type 0
ListIsOrdered = (l : Layout) → IsLayout l → IsOrderedBy comes_before (ops_of l)

-- Each operation has as many units as its kind, words and visits ask for.
abbrev pub OpsHaveUnits : Type 0
OpsHaveUnits = (l : Layout) → AllByRecursion (λ o. units_of l o ≡ o.units) (ops_of l)
