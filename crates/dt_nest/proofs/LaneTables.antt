-- Lists with the values of all variables at a value of a substituted loop.
use Rattle.std.proofs.Common.{◌≡◌, ℕ, ◌-◌, ◌<◌, Bool, true, false, ◌&&◌, List, [], ◌++◌, Option, Some, None, refl, sym, ap, ◌∙◌, subst, arith}
use Rattle.std.specs.Prelude.{if◌then◌else◌, slice_set}
use Rattle.std.proofs.lemmas.Bool.{lt-ltb}
use Rattle.dt_nest.specs.declared.branches.Substituted.{Substituted}
use Rattle.dt_nest.specs.declared.derivations.Derived.{Derived}
use Rattle.dt_nest.specs.declared.loops.Pair.{Pair}
use Rattle.dt_nest.specs.declared.loops.Walk.{Walk}
use Rattle.dt_nest.specs.Tree.{Tree, Loop, Pre, Leaf, leaf_count, is_kernel_leaf}
use Rattle.dt_nest.specs.Meaning.{World, renamed}
use Rattle.dt_nest.specs.Visits.{Tests, is_valid}
use Rattle.dt_nest.specs.Search.{node_of, pairs_at}
use Rattle.dt_nest.specs.Branch.{substituted_at, valid_at}
use Rattle.dt_nest.specs.ValueTables.{tabled, IsLeafTable, IsTable}
use Rattle.dt_nest.specs.Visited.{HasLaneTable}
use Rattle.dt_nest.proofs.LeafTables.{leaf_plain, leaf_inside}

-- there are no renamings inside a leaf
kernel_pairs : (body : Tree) (leaf : ℕ) → is_kernel_leaf body ≡ true → pairs_at body leaf ≡ []
kernel_pairs (Loop v n walk body) leaf k = absurd (cc)
kernel_pairs (Pre work more p q) leaf k = absurd (cc)
kernel_pairs (Leaf lhs terms guards kernel) leaf k = refl

-- a producer's substituted loop
pub producer_substituted : (work : ℕ) (more : List Pair) (p q : Tree) (leaf n : ℕ) → leaf < n → n ≡ leaf_count p → substituted_at (Pre work more p q) leaf ≡ substituted_at p leaf
producer_substituted work more p q leaf n l e =
    ap (λ (b : Bool). if b then substituted_at p leaf else substituted_at q (leaf - leaf_count p)) (lt-ltb leaf (leaf_count p) (omega (arith, l, e)))

module _ (t : Tests) (pairs : List Pair) (slots : List ℕ) (leaf x : ℕ) (tree : Tree) (walk : Option Walk) (v n : ℕ) (body given : Tree) (e : tree ≡ Loop v n walk body) (same : given ≡ body) (k : is_kernel_leaf given ≡ true) where
  -- the tests at the substituted loop
  valid_here : valid_at t tree pairs slots leaf x ≡ (t.takes walk v pairs (slice_set slots v x) && t.holds (node_of given) pairs (slice_set slots v x))
  valid_here =
      ap (λ (y : Tree). valid_at t y pairs slots leaf x) e
      ∙ ap (λ (b : Bool). if b then is_valid t walk v (node_of body) pairs slots x else valid_at t body pairs slots leaf x) (ap is_kernel_leaf (sym same) ∙ k)
      ∙ ap (λ (y : Tree). t.takes walk v pairs (slice_set slots v x) && t.holds (node_of y) pairs (slice_set slots v x)) (sym same)

  -- a value that the loop takes is valid where the guards hold
  pub valid_taken : (again : Tree) → again ≡ body → (a b : Bool) → a ≡ t.takes walk v pairs (slice_set slots v x) → a ≡ true → b ≡ t.holds (node_of again) pairs (slice_set slots v x) → b ≡ valid_at t tree pairs slots leaf x
  valid_taken again r a b f y h =
      h ∙ ap (λ (y : Tree). t.holds (node_of y) pairs (slice_set slots v x)) (r ∙ sym same)
      ∙ sym (valid_here ∙ ap (λ (c : Bool). c && t.holds (node_of given) pairs (slice_set slots v x)) (sym f ∙ y))

  -- any other is not
  pub valid_refused : (a : Bool) → a ≡ t.takes walk v pairs (slice_set slots v x) → a ≡ false → a ≡ valid_at t tree pairs slots leaf x
  valid_refused a f y = y ∙ sym (valid_here ∙ ap (λ (c : Bool). c && t.holds (node_of given) pairs (slice_set slots v x)) (sym f ∙ y))

module _ (w : World) (ds : List Derived) (slots : List ℕ) (x : ℕ) where
  -- at the substituted loop
  pub lane_plain : (outer : List Pair) (values : List (Option ℕ)) (tree : Tree) (walk : Option Walk) (v n : ℕ) (body given : Tree) (leaf : ℕ) → tree ≡ Loop v n walk body → given ≡ body → is_kernel_leaf given ≡ true
      → IsTable w ds (renamed outer) (slice_set slots v x) values → HasLaneTable w ds outer (pairs_at tree leaf) slots (substituted_at tree leaf) x values
  lane_plain outer values tree walk v n body given leaf e same k t =
      let kernel : is_kernel_leaf body ≡ true = ap is_kernel_leaf (sym same) ∙ k in
      subst (λ (y : Tree). HasLaneTable w ds outer (pairs_at y leaf) slots (substituted_at y leaf) x values) (sym e)
      (subst (λ (o : Option Substituted). HasLaneTable w ds outer (pairs_at body leaf) slots o x values) (sym (ap (λ b. if b then Some (record { var = v; extent = n }) else substituted_at body leaf) kernel))
      (subst (λ (l : List Pair). IsLeafTable w ds outer l (slice_set slots v x) values) (sym (kernel_pairs body leaf kernel)) (leaf_plain w ds (slice_set slots v x) outer values t)))

  -- in a producer, once the new names of its loops have their values
  pub lane_inside : (outer both more mine inner all : List Pair) (mid new : List (Option ℕ)) (found whole : Option Substituted) → both ≡ outer ++ more → mine ≡ more → all ≡ more ++ inner → whole ≡ found
      → HasLaneTable w ds both inner slots found x mid → ((u : ℕ) → tabled new u ≡ tabled mid (renamed mine u)) → HasLaneTable w ds outer all slots whole x new
  lane_inside outer both more mine inner all mid new None whole b m a e t h = subst (λ (o : Option Substituted). HasLaneTable w ds outer all slots o x new) (sym e) tt
  lane_inside outer both more mine inner all mid new (Some loop) whole b m a e t h =
      subst (λ (o : Option Substituted). HasLaneTable w ds outer all slots o x new) (sym e) (leaf_inside w ds (slice_set slots loop.var x) outer both more mine inner all mid new b m a t h)
