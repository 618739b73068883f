-- The renamings in force in a branch of a nest.
use Rattle.std.specs.Prelude.{List, [], ◌++◌}
use Rattle.dt_nest.specs.declared.loops.Pair.{Pair}
use Rattle.dt_nest.specs.declared.naming.Naming.{Naming}
use Rattle.dt_nest.specs.declared.naming.Naming.TheVariants.{Root, Under'}

-- the renamings, the outermost first
abbrev pub pairs_in : Naming → List Pair
pairs_in Root = []
pairs_in (Under' pairs p outer) = pairs_in outer ++ pairs.now
