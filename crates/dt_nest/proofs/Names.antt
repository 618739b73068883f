-- Renamings, one list after another.
use Rattle.std.proofs.Common.{◌≡◌, ℕ, List, [], ◌∷◌, ◌++◌, refl}
use Rattle.std.specs.Prelude.{if◌then◌else◌, nat_eq}
use Rattle.dt_nest.specs.declared.loops.Pair.{Pair}
use Rattle.dt_nest.specs.Meaning.{renamed}

pub renamed-append : (ps qs : List Pair) (u : ℕ) → renamed (ps ++ qs) u ≡ renamed qs (renamed ps u)
renamed-append [] qs u = refl
renamed-append (p ∷ ps) qs u = renamed-append ps qs (if nat_eq u p.from then p.to else u)

pub ruleset names = (renamed-append)
