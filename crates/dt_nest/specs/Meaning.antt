-- What a nest adds at an index.
use Rattle.std.specs.Prelude.{ℕ, ◌+◌, ◌*◌, ◌/◌, ◌%◌, Bool, true, ◌&&◌, List, [], ◌∷◌, Option, Some, None, map, sum_by, if◌then◌else◌, max, nat_eq, nat_lt}
use Rattle.std.specs.List.{list_all}
use Rattle.std.specs.Str.{bytes_eq}
use Rattle.dt_base.specs.Rows.{product}
use Rattle.dt_model.specs.Value.{sign}
use Rattle.dt_model.specs.declared.stmt.Access.{Access}
use Rattle.dt_model.specs.declared.stmt.Factor.{Factor}
use Rattle.dt_model.specs.declared.stmt.Factor.TheVariants.{Read, Literal}
use Rattle.dt_model.specs.declared.stmt.Term.{Term}
use Rattle.dt_nest.specs.declared.loops.Walk.{Walk}
use Rattle.dt_nest.specs.declared.loops.Pair.{Pair}
use Rattle.dt_nest.specs.declared.derivations.Derive.{Derive}
use Rattle.dt_nest.specs.declared.derivations.Derive.TheVariants.{Split, Quotient, Rest, Rotate, Pos}
use Rattle.dt_nest.specs.declared.derivations.Derived.{Derived}
use Rattle.dt_nest.specs.Tree.{Tree, Loop, Pre, Leaf}
use Rattle.dt_nest.specs.Sums.{sum_below}

-- what a nest is read against: the coordinate at a level of a tensor's position, whether a prefix of a tensor is
-- stored, the extent of each loop and variable, and the number of tensors
pub record World : Type 0 where
  pub coord : ℕ → ℕ → ℕ → ℕ
  pub stored : ℕ → List ℕ → Bool
  pub extent : ℕ → ℕ
  pub tensors : ℕ

-- a number for each loop, or for each loop the name that it has now
abbrev pub Env : Type 0
Env = ℕ → ℕ

-- the environment with loop v at x
abbrev pub bind : Env → ℕ → ℕ → Env
bind env v x u = if nat_eq u v then x else env u

-- the value that a derivation gives, from the values of what it names; a rotated loop without values counts as 0
abbrev pub derive_of : World → Derive → Env → ℕ
derive_of w (Split outer inner factor) val = val outer * factor + val inner
derive_of w (Quotient fused by) val = val fused / by
derive_of w (Rest fused by) val = val fused % by
derive_of w (Rotate base by extent) val = (val base + sum_by val by) % max extent 1
derive_of w (Pos tensor level base) val = w.coord tensor level (val base)

-- the value of a loop or of a replaced variable, where name gives the new names of renamed loops:
-- what a derivation names is replaced by a later one, so the rest of the list has its value
unfoldable pub known : World → List Derived → Env → Env → Env
known w [] name env v = env v
known w (d ∷ ds) name env v =
    if nat_eq v d.var then derive_of w d.how (λ u. known w ds name env (name u)) else known w ds name env v

-- the value of a variable
abbrev pub val_of : World → List Derived → Env → Env → Env
val_of w ds name env u = known w ds name env (name u)

-- the name of a loop after renamings, one after another
abbrev pub renamed : List Pair → ℕ → ℕ
renamed [] u = u
renamed (p ∷ ps) u = renamed ps (if nat_eq u p.from then p.to else u)

-- the names inside a producer with these renamings
abbrev pub under : List Pair → Env → Env
under pairs name u = renamed pairs (name u)

-- the numbers of tensors and workspaces, by their number in accesses and coordinates
abbrev pub Entries : Type 0
Entries = ℕ → List ℕ → ℕ

-- the entries with other numbers for the tensor or workspace n
abbrev pub with_work : Entries → ℕ → (List ℕ → ℕ) → Entries
with_work x n f t c = if nat_eq t n then f c else x t c

-- a literal, or the number at the coordinates that the variables have
abbrev pub factor_of : Entries → Env → Factor → ℕ
factor_of x val (Read a) = x a.tensor (map val a.vars)
factor_of x val (Literal n) = n

-- the signed product of the factors
abbrev pub term_of : Entries → Env → Term → ℕ
term_of x val t = sign t.minus * product (map (factor_of x val) t.factors)

-- the sum of the terms
abbrev pub terms_of : Entries → Env → List Term → ℕ
terms_of x val terms = sum_by (term_of x val) terms

-- whether each guard is below its extent
abbrev pub guards_hold : World → Env → List ℕ → Bool
guards_hold w val guards = list_all (λ g. nat_lt (val g) (w.extent g)) guards

-- what a leaf adds at c
abbrev pub leaf_of : World → Entries → Env → Access → List Term → List ℕ → List ℕ → ℕ
leaf_of w x val lhs terms guards c =
    if guards_hold w val guards && bytes_eq (map val lhs.vars) c then terms_of x val terms else 0

-- the list up to the first element that passes the test, with it
abbrev pub take_through : (ℕ → Bool) → List ℕ → List ℕ
take_through p [] = []
take_through p (x ∷ xs) = x ∷ (if p x then [] else take_through p xs)

-- the variables of a walked access up to loop v
abbrev pub prefix_of : Walk → ℕ → Env → List ℕ
prefix_of k v name = take_through (λ u. nat_eq (name u) v) k.vars

-- whether loop v takes its value: a walked loop does where its prefix is stored
abbrev pub takes : World → Option Walk → ℕ → Env → Env → Bool
takes w None v name val = true
takes w (Some k) v name val = w.stored k.tensor (map val (prefix_of k v name))

-- what a nest adds at c, as a number that counts modulo 2 ^ 64
unfoldable pub nest_sum : World → List Derived → Tree → Entries → Env → Env → List ℕ → ℕ
nest_sum w ds (Loop v n walk body) x name env c =
    sum_below n (λ i. if takes w walk v name (val_of w ds name (bind env v i)) then nest_sum w ds body x name (bind env v i) c else 0)
nest_sum w ds (Pre work pairs producer consumer) x name env c =
    nest_sum w ds consumer (with_work x (w.tensors + work) (λ j. nest_sum w ds producer x (under pairs name) env j)) name env c
nest_sum w ds (Leaf lhs terms guards kernel) x name env c =
    leaf_of w x (val_of w ds name env) lhs terms guards c
