-- Blocks of several nodes and paths, one after another.
use Rattle.std.proofs.Common.{◌≡◌, ℕ, List, Option, Some, None, refl, ap, ◌∙◌, subst}
use Rattle.std.specs.Prelude.{nat_lt, sum_by}
use Rattle.std.specs.List.{AllByRecursion, flat_map}
use Rattle.std.proofs.lemmas.Bool.{le-ltb}
use Rattle.dt_argument.proofs.Shapes.{if_false}
use Rattle.dt_argument.specs.Frames.{grown}
use Rattle.dt_events.specs.State.{Cell, State}
use Rattle.dt_events.proofs.BlockLists.{sum_zero}
use Rattle.dt_events.proofs.BlockMoves.{run_op, run_ops}
use Rattle.dt_events.proofs.BlockPlans.{Blocks, block, scratch_target, home_target, target, amount_at, grow_all, grown_by, AreSmall, IsReady, AreBlocks}
use Rattle.dt_events.proofs.BlockRuns.{all_turned, grows_all, grown_small}
use Rattle.dt_events.proofs.BlockSums.{block_adds, ready_grown}
use Rattle.dt_events.proofs.ListRuns.{run_flat}

module _ {X : Type 0} (at : X → Blocks) (path : X → List ℕ) (first : Blocks) (d j : ℕ) (In : X → Type 0) (facts : AreBlocks at path first d j In) where
  -- each is ready
  abbrev pub AllReady : State → Type 0
  AllReady s = AreSmall s × ((x : X) → In x → IsReady (at x) j (path x) s)

  -- where the left tensor's scratch is not open, its homes grow
  homes_grow : (x : X) → In x → (c : Cell) → target (at x) j c ≡ home_target first c
  homes_grow x h c =
      if_false (nat_lt ((at x).depth (at x).out) j) (scratch_target (at x) c) (home_target (at x) c) (le-ltb ((at x).depth (at x).out) j (facts.deep x h))
      ∙ facts.same x h c

  as_grown : (x : X) → In x → (a : ℕ → ℕ) (s : State) → grown_by (at x) j a s ≡ grow_all (λ c. amount_at a (home_target first c)) s
  as_grown x h a s = λ i c. ap (λ o. grown (amount_at a o) (s c)) (homes_grow x h c) i

  stays : (y : X) → In y → (a : ℕ → ℕ) (u : State) → IsReady (at y) j (path y) u → IsReady (at y) j (path y) (grow_all (λ c. amount_at a (home_target first c)) u)
  stays y i a u h = subst (IsReady (at y) j (path y)) (as_grown y i a u) (ready_grown (at y) j (path y) a u h)

  grown_is_small : (g : Cell → ℕ) (u : State) → AreSmall (grow_all g u)
  grown_is_small g u c v e = grown_small (g c) (u c) v e

  sum_out : (xs : List X) (o : Option ℕ) → sum_by (λ x. amount_at ((at x).amount (path x)) o) xs ≡ amount_at (λ w. sum_by (λ x. (at x).amount (path x) w) xs) o
  sum_out xs None = sum_zero (λ x. amount_at ((at x).amount (path x)) None) xs (λ x. refl)
  sum_out xs (Some w) = refl

  -- blocks one after another let the left tensor's homes grow by the sum of their amounts
  pub row_adds : (xs : List X) → AllByRecursion In xs → (s : State) → AllReady s
      → run_ops (flat_map (λ x. block (at x) d j (path x)) xs) s ≡ Some (grow_all (λ c. amount_at (λ w. sum_by (λ x. (at x).amount (path x) w) xs) (home_target first c)) s)
  row_adds xs all s r =
      run_flat run_op (λ x. block (at x) d j (path x)) xs s
      ∙ grows_all (λ x. run_ops (block (at x) d j (path x))) (λ x c. amount_at ((at x).amount (path x)) (home_target first c)) AllReady xs
      (λ u h. h.0)
      (λ x u h. (grown_is_small (λ c. amount_at ((at x).amount (path x)) (home_target first c)) u, λ y i. stays y i ((at x).amount (path x)) u (h.1 y i)))
      (all_turned In (λ x. (u : State) → AllReady u → run_ops (block (at x) d j (path x)) u ≡ Some (grow_all (λ c. amount_at ((at x).amount (path x)) (home_target first c)) u)) xs
      (λ x i u h. block_adds (at x) (facts.planned x i) d j (path x) (facts.served x i) u (h.1 x i) ∙ ap Some (as_grown x i ((at x).amount (path x)) u))
      all)
      s r
      ∙ ap Some (λ i c. ap (λ n. grown n (s c)) (sum_out xs (home_target first c)) i)
