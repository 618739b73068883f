-- The values of all variables at a place, in one list.
use Rattle.std.specs.Prelude.{◌≡◌, ℕ, Bool, true, false, List, [], ◌∷◌, ◌++◌, Option, Some, MatchBool, if◌then◌else◌, nat_eq, slice_index, slice_index_or, slice_set}
use Rattle.std.specs.List.{list_any}
use Rattle.dt_nest.specs.declared.loops.Pair.{Pair}
use Rattle.dt_nest.specs.declared.derivations.Derived.{Derived}
use Rattle.dt_nest.specs.Lawful.{is_split, sources}
use Rattle.dt_nest.specs.Meaning.{World, Env, renamed}
use Rattle.dt_nest.specs.Values.{derived_inside, inside}

-- the value of a variable, and 0 past the last
abbrev pub tabled : List (Option ℕ) → ℕ → Option ℕ
tabled values u = slice_index_or values u (Some 0)

-- the value of each variable by its name at a place, where the list has the values under names
abbrev pub named : List (Option ℕ) → Env → ℕ → Option ℕ
named values name = λ u. tabled values (name u)

-- v is a variable of a split
abbrev pub IsSplitVar : List Derived → ℕ → Type 0
IsSplitVar [] v = ⊥
IsSplitVar (d ∷ ds) v = MatchBool (nat_eq v d.var) (is_split d.how ≡ true) (IsSplitVar ds v)

-- the list has the value under each name, where name gives the new names of renamed loops, and the loops have the
-- values in the slots
abbrev pub IsTable : World → List Derived → Env → List ℕ → List (Option ℕ) → Type 0
IsTable w ds name slots values = (u : ℕ) → tabled values u ≡ inside w ds name (slice_index slots) u

-- The list has the value of each variable at a leaf, under the name that the variable has outside: `outer` are the
-- renamings in force around a nest, and `inner` those of its producers around the leaf.
pub record IsLeafTable (w : World) (ds : List Derived) (outer inner : List Pair) (slots : List ℕ) (values : List (Option ℕ)) : Type 0 where
  pub has : (u : ℕ) → tabled values u ≡ inside w ds (renamed (outer ++ inner)) (slice_index slots) (renamed inner u)

-- whether a variable is marked; none past the last is
abbrev pub marked : List Bool → ℕ → Bool
marked marks u = slice_index_or marks u false

-- whether the value of a variable follows from one of some loops
abbrev pub depends : List Derived → (ℕ → Bool) → ℕ → Bool
depends [] loops u = loops u
depends (d ∷ ds) loops u = if nat_eq u d.var then list_any (depends ds loops) (sources d.how) else depends ds loops u

-- the derivations whose values follow from one of some loops, in the order in which the values are made
abbrev pub dependents : List Derived → (ℕ → Bool) → List Derived
dependents [] loops = []
dependents (d ∷ ds) loops = dependents ds loops ++ (if list_any (depends ds loops) (sources d.how) then d ∷ [] else [])

-- the list once the values of some derived variables were made, one after another
abbrev pub refilled : World → List Derived → List (Option ℕ) → List (Option ℕ)
refilled w [] values = values
refilled w (d ∷ ds) values = refilled w ds (slice_set values d.var (derived_inside w d.var d.how (tabled values)))
