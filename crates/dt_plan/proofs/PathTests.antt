-- The test of paths is the fact.
use Rattle.std.proofs.Common.{◌≡◌, ℕ, Bool, true, false, List, [], ◌∷◌, refl}
use Rattle.std.specs.Prelude.{not, ◌&&◌, nat_lt}
use Rattle.std.proofs.lemmas.Bool.{ltb-true, lt-ltb, and_parts}
use Rattle.dt_nest.specs.Tree.{Tree, Loop, Pre, Leaf, is_kernel_leaf}
use Rattle.dt_nest.specs.Visits.{IsPathIn}
use Rattle.dt_plan.specs.Statements.{is_path_in}

is_false : (b : Bool) → not b ≡ true → b ≡ false
is_false true e = absurd (cc)
is_false false e = refl

all_pass : (a b c : Bool) → a ≡ true → b ≡ false → c ≡ true → (a && (not b && c)) ≡ true
all_pass a b c p q r = rw (p, q, r) refl

-- values that pass are a path
pub path_is : (tree : Tree) (path : List ℕ) → is_path_in tree path ≡ true → IsPathIn tree path
path_is (Loop v n walk body) [] e = tt
path_is (Loop v n walk body) (x ∷ path) e =
    let first = and_parts (nat_lt x n) (not (is_kernel_leaf body) && is_path_in body path) e in
    let rest = and_parts (not (is_kernel_leaf body)) (is_path_in body path) first.1 in
    (ltb-true x n first.0, is_false (is_kernel_leaf body) rest.0, path_is body path rest.1)
path_is (Pre work pairs producer consumer) [] e = tt
path_is (Pre work pairs producer consumer) (x ∷ path) e = absurd (cc)
path_is (Leaf lhs terms guards kernel) [] e = tt
path_is (Leaf lhs terms guards kernel) (x ∷ path) e = absurd (cc)

-- and a path passes
pub path_passes : (tree : Tree) (path : List ℕ) → IsPathIn tree path → is_path_in tree path ≡ true
path_passes (Loop v n walk body) [] h = refl
path_passes (Loop v n walk body) (x ∷ path) h = all_pass (nat_lt x n) (is_kernel_leaf body) (is_path_in body path) (lt-ltb x n h.0) h.1 (path_passes body path h.2)
path_passes (Pre work pairs producer consumer) [] h = refl
path_passes (Pre work pairs producer consumer) (x ∷ path) h = absurd h
path_passes (Leaf lhs terms guards kernel) [] h = refl
path_passes (Leaf lhs terms guards kernel) (x ∷ path) h = absurd h
