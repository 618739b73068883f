-- Blocks of any depth.
use Rattle.std.proofs.Common.{◌≡◌, ◌≢◌, ℕ, zero, suc, ◌%◌, ◌^◌, Bool, true, false, ◌&&◌, List, [], ◌∷◌, ◌++◌, Option, Some, None, refl, sym, ap, ◌∙◌, eqb-true, if◌then◌else◌}
use Rattle.std.specs.Prelude.{nat_eq, nat_lt, sum_by}
use Rattle.std.specs.List.{flat_map}
use Rattle.std.proofs.lemmas.Bool.{and_parts}
use Rattle.dt_runs.specs.Sets.{contains}
use Rattle.dt_argument.proofs.Shapes.{if_false}
use Rattle.dt_argument.specs.Frames.{grown}
use Rattle.dt_plan.specs.declared.touches.Buffer.TheVariants.{Home}
use Rattle.dt_events.specs.Conflicts.{is_same_buffer}
use Rattle.dt_events.specs.State.{Cell, Word, State, is_of}
use Rattle.dt_events.proofs.BlockLevels.{level_adds}
use Rattle.dt_events.proofs.BlockLists.{not_true, sum_zero}
use Rattle.dt_events.proofs.BlockMoves.{Task, run_op, run_ops}
use Rattle.dt_events.proofs.BlockPlans.{Blocks, scratch, block, scratch_target, home_target, target, amount_at, grow_all, grown_by, IsReady, IsPlanned, NeedsLess, AddsUp, AreServed}
use Rattle.dt_events.proofs.BlockRuns.{all_turned, grows_all, grown_like, grown_none, grown_there, grown_small}
use Rattle.dt_events.proofs.BlockSteps.{same_scratch}
use Rattle.dt_events.proofs.Cells.{word_is_of}
use Rattle.dt_events.proofs.ListRuns.{run_flat}
use Rattle.dt_argument.proofs.OperationRuns.{and_then}

target_none : (b : Blocks) (k : ℕ) (c : Cell) → scratch_target b c ≡ None → home_target b c ≡ None → target b k c ≡ None
target_none b k c h g = go (nat_lt (b.depth b.out) k)
  where
    go : (x : Bool) → (if x then scratch_target b c else home_target b c) ≡ None
    go true = h
    go false = g

-- a scratch or a home of a right-side tensor doesn't grow
right_still : (b : Blocks) (k t w : ℕ) → t ≢ b.out → target b k (Word b.node (scratch b t) w) ≡ None
right_still b k t w d =
    target_none b k (Word b.node (scratch b t) w)
    (if_false (is_of b.node (scratch b b.out) (Word b.node (scratch b t) w)) (Some w) None
    (not_true (is_of b.node (scratch b b.out) (Word b.node (scratch b t) w)) (λ e. d (sym (same_scratch b [] b.out t (Word b.node (scratch b t) w) e (word_is_of b.node (scratch b t) w))))))
    refl

home_still : (b : Blocks) (k t m w : ℕ) → t ≢ b.out → target b k (Word m (Home t) w) ≡ None
home_still b k t m w d =
    target_none b k (Word m (Home t) w)
    (if_false (is_of b.node (scratch b b.out) (Word m (Home t) w)) (Some w) None
    (not_true (is_of b.node (scratch b b.out) (Word m (Home t) w)) (λ e. let p = and_parts (nat_eq b.node m) false e in cc)))
    (if_false (is_same_buffer (Home b.out) (Home t) && contains (b.home b.out m) w) (Some w) None
    (not_true (is_same_buffer (Home b.out) (Home t) && contains (b.home b.out m) w) (λ e. d (sym (eqb-true b.out t (and_parts (nat_eq b.out t) (contains (b.home b.out m) w) e).0)))))

-- a state that is ready stays so while the left tensor grows
pub ready_grown : (b : Blocks) (k : ℕ) (path : List ℕ) (a : ℕ → ℕ) (s : State) → IsReady b k path s → IsReady b k path (grown_by b k a s)
ready_grown b k path a s r = record {
  right = λ t w at d l n.
      let c : Cell = Word b.node (scratch b t) w in
      grown_none (amount_at a (target b k c)) (s c) (r.small c) (ap (λ x. amount_at a x % 2 ^ 64) (right_still b k t w d)) ∙ r.right t w at d l n;
  left = λ w l n. let c : Cell = Word b.node (scratch b b.out) w in grown_there (amount_at a (target b k c)) (s c) ∙ r.left w l n;
  absent = λ t c at l h. ap (grown (amount_at a (target b k c))) (r.absent t c at l h);
  homes = λ t m w at d n.
      let c : Cell = Word m (Home t) w in
      grown_none (amount_at a (target b k c)) (s c) (r.small c) (ap (λ x. amount_at a x % 2 ^ 64) (home_still b k t m w d)) ∙ r.homes t m w at d n;
  left_homes = λ m w n. let c : Cell = Word m (Home b.out) w in grown_there (amount_at a (target b k c)) (s c) ∙ r.left_homes m w n;
  small = λ c v e. grown_small (amount_at a (target b k c)) (s c) v e;
}

-- and for each longer path
pub ready_longer : (b : Blocks) (k : ℕ) (long path : List ℕ) (s : State) → NeedsLess b long path → IsReady b k path s → IsReady b k long s
ready_longer b k long path s less r = record {
  right = λ t w at d l n. r.right t w at d l (less t w n);
  left = λ w l n. r.left w l (less b.out w n);
  absent = r.absent;
  homes = r.homes;
  left_homes = r.left_homes;
  small = r.small;
}

-- amounts that add up
pub sum_at : (b : Blocks) (path : List ℕ) → AddsUp b path → (o : Option ℕ) → sum_by (λ i. amount_at (b.amount (path ++ i ∷ [])) o) (b.children path) % 2 ^ 64 ≡ amount_at (b.amount path) o % 2 ^ 64
sum_at b path h None = ap (λ (n : ℕ). n % 2 ^ 64) (sum_zero (λ i. amount_at (b.amount (path ++ i ∷ [])) None) (b.children path) (λ i. refl))
sum_at b path h (Some w) = sym (h w)

-- the block equation: a block changes nothing but that the left tensor has grown by the path's amounts
pub block_adds : (b : Blocks) → IsPlanned b → (d j : ℕ) (path : List ℕ) → AreServed b d j path → (s : State) → IsReady b j path s → run_ops (block b d j path) s ≡ Some (grown_by b j (b.amount path) s)
block_adds b plan zero j path served s r =
    level_adds b j path plan served.0 (Task (b.task path) ∷ []) (λ u g. ap (λ o. and_then o (λ x. Some x)) (served.1 u g)) s r
block_adds b plan (suc d) j path served s r =
    level_adds b j path plan served.0 (flat_map (λ i. block b d (suc j) (path ++ i ∷ [])) (b.children path))
    (λ u g.
    run_flat run_op (λ i. block b d (suc j) (path ++ i ∷ [])) (b.children path) u
    ∙ grows_all (λ i. run_ops (block b d (suc j) (path ++ i ∷ []))) (λ i c. amount_at (b.amount (path ++ i ∷ [])) (target b (suc j) c)) (IsReady b (suc j) path) (b.children path)
    (λ x h. h.small)
    (λ i x h. ready_grown b (suc j) path (b.amount (path ++ i ∷ [])) x h)
    (all_turned (λ i. NeedsLess b (path ++ i ∷ []) path × AreServed b d (suc j) (path ++ i ∷ []))
    (λ i. (x : State) → IsReady b (suc j) path x → run_ops (block b d (suc j) (path ++ i ∷ [])) x ≡ Some (grow_all (λ c. amount_at (b.amount (path ++ i ∷ [])) (target b (suc j) c)) x))
    (b.children path)
    (λ i h x q. block_adds b plan d (suc j) (path ++ i ∷ []) h.1 x (ready_longer b (suc j) (path ++ i ∷ []) path x h.0 q))
    served.2)
    u g
    ∙ ap Some (λ k c. grown_like (sum_by (λ i. amount_at (b.amount (path ++ i ∷ [])) (target b (suc j) c)) (b.children path)) (amount_at (b.amount path) (target b (suc j) c)) (u c) (sum_at b path served.1 (target b (suc j) c)) k))
    s r
