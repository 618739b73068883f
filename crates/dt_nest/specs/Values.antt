-- The value of a variable where each variable of a split on the way to it is below its extent, and none where one is not.
-- Such a value fits its type, however deep the splits are nested.
use Rattle.std.specs.Prelude.{ℕ, ◌+◌, ◌*◌, ◌/◌, ◌%◌, Bool, true, false, ◌&&◌, List, [], ◌∷◌, Option, Some, None, fold, option_map, if◌then◌else◌, max, nat_eq, nat_lt, nat_le, length, slice_index}
use Rattle.std.specs.List.{list_all}
use Rattle.dt_nest.specs.declared.loops.Walk.{Walk}
use Rattle.dt_nest.specs.declared.loops.Pair.{Pair}
use Rattle.dt_nest.specs.declared.derivations.Derive.{Derive}
use Rattle.dt_nest.specs.declared.derivations.Derive.TheVariants.{Split, Quotient, Rest, Rotate, Pos}
use Rattle.dt_nest.specs.declared.derivations.Derived.{Derived}
use Rattle.dt_nest.specs.Meaning.{World, Env, renamed, prefix_of}
use Rattle.dt_nest.specs.Visits.{Tests}

-- a number that is below a bound
abbrev pub bounded : ℕ → Option ℕ → Option ℕ
bounded n None = None
bounded n (Some x) = if nat_lt x n then Some x else None

-- a number made of two, where there are both
abbrev pub joined : (ℕ → ℕ → ℕ) → Option ℕ → Option ℕ → Option ℕ
joined f None y = None
joined f (Some x) None = None
joined f (Some x) (Some y) = Some (f x y)

-- the sum of a number and those of some variables
abbrev pub sum_inside : (ℕ → Option ℕ) → Option ℕ → List ℕ → Option ℕ
sum_inside val start us = fold (λ sum u. joined (λ x y. x + y) sum (val u)) start us

-- the value that a derivation gives v, from the values of what it names
abbrev pub derived_inside : World → ℕ → Derive → (ℕ → Option ℕ) → Option ℕ
derived_inside w v (Split outer inner factor) val = bounded (w.extent v) (joined (λ x y. x * factor + y) (val outer) (val inner))
derived_inside w v (Quotient fused by) val = option_map (λ x. x / by) (val fused)
derived_inside w v (Rest fused by) val = option_map (λ x. x % by) (val fused)
derived_inside w v (Rotate base by extent) val = option_map (λ x. x % max extent 1) (sum_inside val (val base) by)
derived_inside w v (Pos tensor level base) val = option_map (λ x. w.coord tensor level x) (val base)

-- the value of a loop or variable, as it is known, and none outside
unfoldable pub inside : World → List Derived → Env → Env → ℕ → Option ℕ
inside w [] name env v = Some (env v)
inside w (d ∷ ds) name env v =
    if nat_eq v d.var then derived_inside w d.var d.how (λ u. inside w ds name env (name u)) else inside w ds name env v

-- the value of a variable where these renamings are in force and the loops have the values in the slots
abbrev pub inside_in : World → List Derived → List Pair → List ℕ → ℕ → Option ℕ
inside_in w ds pairs slots u = inside w ds (renamed pairs) (slice_index slots) (renamed pairs u)

-- a list with one more number, where there are both
abbrev pub with_first : Option ℕ → Option (List ℕ) → Option (List ℕ)
with_first None xs = None
with_first (Some x) None = None
with_first (Some x) (Some xs) = Some (x ∷ xs)

-- the numbers, where there are all
abbrev pub all_inside : (ℕ → Option ℕ) → List ℕ → Option (List ℕ)
all_inside val [] = Some []
all_inside val (u ∷ us) = with_first (val u) (all_inside val us)

-- whether the prefix is stored, where there is one
abbrev pub stored_inside : World → ℕ → Option (List ℕ) → Bool
stored_inside w tensor None = false
stored_inside w tensor (Some c) = w.stored tensor c

-- whether a loop takes its value: it doesn't where a variable is outside
abbrev pub takes_inside : World → Option Walk → ℕ → Env → (ℕ → Option ℕ) → Bool
takes_inside w None v name val = true
takes_inside w (Some k) v name val = nat_lt k.tensor w.tensors && nat_le (length k.vars) 4 && stored_inside w k.tensor (all_inside val (prefix_of k v name))

-- whether there is a number below a bound
abbrev pub is_below : ℕ → Option ℕ → Bool
is_below n None = false
is_below n (Some x) = nat_lt x n

-- whether a guard is below its extent
abbrev pub guard_inside : World → (ℕ → Option ℕ) → ℕ → Bool
guard_inside w val g = is_below (w.extent g) (val g)

-- the tests of a schedule's visits, which fail as soon as a variable is outside
abbrev pub inside_tests : World → List Derived → Tests
inside_tests w ds = record {
  takes = λ walk v pairs slots. takes_inside w walk v (renamed pairs) (inside_in w ds pairs slots);
  holds = λ leaf pairs slots. list_all (guard_inside w (inside_in w ds pairs slots)) leaf.guards;
}
