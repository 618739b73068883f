-- Placements that fit a machine.
use Rattle.std.specs.Prelude.{ℕ, ◌<◌}
use Rattle.std.specs.List.{AllZip}
use Rattle.dt_place.specs.Machines.{MachineView, dims_of}
use Rattle.dt_place.specs.declared.placements.Placement.{Placement}
use Rattle.dt_place.specs.declared.placements.Placement.TheVariants.{FirstNode, ByNames, ByPositions}
use Rattle.dt_place.specs.declared.placements.Symbol.{Symbol}
use Rattle.dt_place.specs.declared.placements.Symbol.TheVariants.{Along, At, Every}

-- a constant is one of the dimension's coordinates
abbrev pub IsWithin : Symbol → ℕ → Type 0
IsWithin (Along d) n = Unit {0}
IsWithin (At k) n = k < n
IsWithin Every n = Unit {0}

-- a placement by names has one symbol for each dimension of the machine, and each constant is within its dimension
abbrev pub IsPlacement : Placement → MachineView → Type 0
IsPlacement FirstNode m = Unit {0}
IsPlacement (ByNames symbols) m = AllZip IsWithin symbols (dims_of m)
IsPlacement ByPositions m = Unit {0}
