-- What the visits under a path add.
use Rattle.std.proofs.Common.{◌≡◌, ℕ, suc, ◌+◌, ◌%◌, ◌^◌, ◌<◌, Bool, true, false, ◌&&◌, List, [], ◌∷◌, ◌++◌, length, sum_by, Option, refl, sym, ◌∙◌, subst, arith}
use Rattle.std.specs.Prelude.{if◌then◌else◌, nat_eq, slice_index, slice_set}
use Rattle.std.specs.Str.{bytes_eq}
use Rattle.std.proofs.Math.Path.{fun_ext}
use Rattle.std.proofs.Math.ListN.{length-set}
use Rattle.std.proofs.Math.Nat.{mod-lt, mod-eq_of_lt}
use Rattle.std.proofs.lemmas.List.{length-replicate}
use Rattle.std.proofs.lemmas.List.Sums.{sum_by-cons}
use Rattle.dt_base.specs.Ranges.{below}
use Rattle.dt_model.specs.Positions.{StoredTensor}
use Rattle.dt_nest.specs.declared.loops.Walk.{Walk}
use Rattle.dt_nest.specs.declared.derivations.Derived.{Derived}
use Rattle.dt_nest.specs.Tree.{Tree, Loop, Pre, Leaf}
use Rattle.dt_nest.specs.Schedule.{Schedule}
use Rattle.dt_nest.specs.Meaning.{World, Env, Entries, bind, val_of, takes, renamed, nest_sum}
use Rattle.dt_nest.specs.World.{world_of}
use Rattle.dt_nest.specs.Lawful.{Loops, also, AllFollow, HaveKernels, IsLawful}
use Rattle.dt_nest.specs.Search.{HaveSlots}
use Rattle.dt_nest.specs.Visits.{Scope, at_root, entered, Item, IsReset, IsVisit, no_slots, value_in, tests_of, tree_visits, visits_of, IsPath, IsPathIn}
use Rattle.dt_nest.specs.Effects.{effect_of, entries_after, left_at, visit_sum}
use Rattle.dt_nest.specs.Outputs.{output_of, IsUnread}
use Rattle.dt_nest.proofs.OwnSlots.{have_slots, zero_at}
use Rattle.dt_nest.proofs.Congruence.{Like, like_same, like_if, Alike, nest_sum-like}
use Rattle.dt_nest.proofs.ChainSums.{sum_by-below}
use Rattle.dt_nest.proofs.Additions.{Adds, IsApart, set_env, tree_adds}
use Rattle.dt_nest.specs.Paths.{HasLoops, extent_inside, path_sum, sum_on}
use Rattle.dt_nest.specs.PathLaws.{PathsAddTheSum, PathSumsFollow, RootSum, PathSumsReadTensors}
use Rattle.dt_nest.proofs.RootApart.{free_below, root_apart}
use Rattle.dt_nest.proofs.PathVisits.{value_visits}

module _ (w : World) (ds : List Derived) where
  loop_apart : (v n : ℕ) (walk : Option Walk) (body : Tree) → IsApart w ds (Loop v n walk body) → IsApart w ds body
  loop_apart v n walk body a = record { writes = a.writes; once = a.once; free = a.free; output = a.output }

  -- the visits of a tree under a path add the path's sum to its output
  pub path_adds : (tree : Tree) (around : Loops) (scope : Scope) (slots path : List ℕ) (x : Entries) → IsPathIn tree path → IsApart w ds tree → HaveSlots tree (length slots) → AllFollow ds tree around (renamed scope.pairs) → HaveKernels ds tree around (renamed scope.pairs)
      → Adds w ds tree (path_sum w ds tree path x (renamed scope.pairs) (slice_index slots)) x (entries_after w ds (tree_visits (tests_of w ds) tree scope slots path) x)
  unfolding path_sum
  path_adds tree around scope slots [] x h apart room a k = tree_adds w ds tree around scope slots x apart room a k
  path_adds (Loop v n walk body) around scope slots (i ∷ path) x h apart room a k =
      subst (λ (l : List Item). Adds w ds (Loop v n walk body) (path_sum w ds (Loop v n walk body) (i ∷ path) x (renamed scope.pairs) (slice_index slots)) x (entries_after w ds l x)) (sym (value_visits (tests_of w ds) v n walk body scope slots i path h.1))
      (subst (λ (e : Env). Adds w ds (Loop v n walk body) (λ c. if takes w walk v (renamed scope.pairs) (val_of w ds (renamed scope.pairs) e) then path_sum w ds body path x (renamed scope.pairs) e c else 0) x
      (entries_after w ds (if takes w walk v (renamed scope.pairs) (value_in w ds scope.pairs (slice_set slots v i)) then tree_visits (tests_of w ds) body (entered scope v) (slice_set slots v i) path else []) x)) (set_env slots v i room.0)
      (go (takes w walk v (renamed scope.pairs) (value_in w ds scope.pairs (slice_set slots v i)))
      (path_adds body (also around v) (entered scope v) (slice_set slots v i) path x h.2 (loop_apart v n walk body apart) (subst (HaveSlots body) (sym (length-set slots v i)) room.2) a.3 k.1)))
    where
      go : (b : Bool) → Adds w ds body (path_sum w ds body path x (renamed scope.pairs) (slice_index (slice_set slots v i))) x (entries_after w ds (tree_visits (tests_of w ds) body (entered scope v) (slice_set slots v i) path) x)
          → Adds w ds (Loop v n walk body) (λ c. if b then path_sum w ds body path x (renamed scope.pairs) (slice_index (slice_set slots v i)) c else 0) x
          (entries_after w ds (if b then tree_visits (tests_of w ds) body (entered scope v) (slice_set slots v i) path else []) x)
      go true r = record { sums = r.sums; others = r.others }
      go false r = record {
        sums = λ c. like_same (x (output_of body) c) (x (output_of body) c + 0) (omega arith);
        others = λ u t c. refl;
      }
  path_adds (Pre work more p q) around scope slots (i ∷ path) x h apart room a k = absurd h
  path_adds (Leaf lhs terms guards kernel) around scope slots (i ∷ path) x h apart room a k = absurd h

  -- an item leaves numbers of 64 bits
  item_small : (item : Item) (x : Entries) (t : ℕ) (c : List ℕ) → x t c < 2 ^ 64 → effect_of w ds item x t c < 2 ^ 64
  item_small (IsReset work) x t c l = go (nat_eq t (w.tensors + work))
    where
      go : (b : Bool) → (if b then 0 else x t c) < 2 ^ 64
      go true = omega arith
      go false = l
  item_small (IsVisit visit) x t c l = go (nat_eq t visit.leaf.lhs.tensor && bytes_eq (left_at w ds visit) c)
    where
      go : (b : Bool) → (if b then (x t c + visit_sum w ds x visit) % 2 ^ 64 else x t c) < 2 ^ 64
      go true = mod-lt (x t c + visit_sum w ds x visit) (omega arith)
      go false = l

  -- and so do items
  pub after_small : (items : List Item) (x : Entries) (t : ℕ) (c : List ℕ) → x t c < 2 ^ 64 → entries_after w ds items x t c < 2 ^ 64
  after_small [] x t c l = l
  after_small (item ∷ items) x t c l = after_small items (effect_of w ds item x) t c (item_small item x t c l)

  -- the sum of a path is the sum over the next loop's values
  pub tree_sums : (tree : Tree) (path : List ℕ) (x : Entries) (name env : Env) (c : List ℕ) → HasLoops (suc (length path)) tree
      → path_sum w ds tree path x name env c ≡ sum_by (λ i. path_sum w ds tree (path ++ i ∷ []) x name env c) (below (extent_inside (length path) tree))
  unfolding path_sum nest_sum
  tree_sums (Loop v n walk body) [] x name env c h =
      sym (sum_by-below n (λ i. if takes w walk v name (val_of w ds name (bind env v i)) then nest_sum w ds body x name (bind env v i) c else 0))
  tree_sums (Loop v n walk body) (i ∷ path) x name env c h = go (takes w walk v name (val_of w ds name (bind env v i))) (tree_sums body path x name (bind env v i) c h.1)
    where
      zeros : (ns : List ℕ) → sum_by (λ j. 0) ns ≡ 0
      zeros [] = refl
      zeros (j ∷ ns) = omega (arith, sum_by-cons (λ (k : ℕ). 0) j ns, zeros ns)

      go : (b : Bool) → path_sum w ds body path x name (bind env v i) c ≡ sum_by (λ j. path_sum w ds body (path ++ j ∷ []) x name (bind env v i) c) (below (extent_inside (length path) body))
          → (if b then path_sum w ds body path x name (bind env v i) c else 0) ≡ sum_by (λ j. if b then path_sum w ds body (path ++ j ∷ []) x name (bind env v i) c else 0) (below (extent_inside (length path) body))
      go true e = e
      go false e = sym (zeros (below (extent_inside (length path) body)))
  tree_sums (Pre work more p q) path x name env c h = absurd h
  tree_sums (Leaf lhs terms guards kernel) path x name env c h = absurd h

-- alike entries have alike sums
path_sum-like : (w : World) (ds : List Derived) (tree : Tree) (path : List ℕ) (x y : Entries) (name env : Env) → Alike w.tensors tree x y → (c : List ℕ) → Like (path_sum w ds tree path x name env c) (path_sum w ds tree path y name env c)
unfolding path_sum
path_sum-like w ds tree [] x y name env h c = nest_sum-like w ds tree x y name env h c
path_sum-like w ds (Loop v n walk body) (i ∷ path) x y name env h c =
    like_if (takes w walk v name (val_of w ds name (bind env v i))) (path_sum w ds body path x name (bind env v i) c) (path_sum w ds body path y name (bind env v i) c)
    (path_sum-like w ds body path x y name (bind env v i) (record { alike = h.alike }) c)
path_sum-like w ds (Pre work more p q) (i ∷ path) x y name env h c = like_same 0 0 refl
path_sum-like w ds (Leaf lhs terms guards kernel) (i ∷ path) x y name env h c = like_same 0 0 refl

-- the sum of a path depends on the numbers of tensors alone, without the left one
pub sums_read : PathSumsReadTensors
sums_read s stored p x y lawful unread same c =
    (path_sum-like (world_of stored s) s.derived s.nest p x y (λ u. u) (λ u. 0)
    (record { alike = λ u e d. record { like = same u d (free_below (length s.tensors) u s.nest [] [] lawful.works.stand e refl) ((root_apart stored s lawful unread).free u e).0 } }) c).like

-- the sum of a path is the sum over the next loop's values
pub sums_follow : PathSumsFollow
sums_follow stored s p x c h = tree_sums (world_of stored s) s.derived s.nest p x (λ u. u) (λ u. 0) c h

-- the sum of the empty path is the schedule's
pub root_sum : RootSum
unfolding path_sum
root_sum stored s x c = refl

-- the visits of a lawful schedule under a path add the path's sum
pub root_path_adds : (stored : List StoredTensor) (s : Schedule) (p : List ℕ) (x : Entries) → IsLawful s → IsUnread (output_of s.nest) s.nest → IsPath s p
    → Adds (world_of stored s) s.derived s.nest (sum_on stored s p x) x (entries_after (world_of stored s) s.derived (visits_of stored s p) x)
unfolding visits_of
root_path_adds stored s p x lawful unread h =
    subst (λ (env : Env). Adds (world_of stored s) s.derived s.nest (path_sum (world_of stored s) s.derived s.nest p x (λ u. u) env) x (entries_after (world_of stored s) s.derived (tree_visits (tests_of (world_of stored s) s.derived) s.nest at_root (no_slots s) p) x)) (fun_ext (λ u. zero_at (length s.names) u))
    (path_adds (world_of stored s) s.derived s.nest (λ u. false) at_root (no_slots s) p x h (root_apart stored s lawful unread) (subst (HaveSlots s.nest) (sym (length-replicate {A = ℕ} (length s.names) 0)) (have_slots s lawful)) lawful.follows lawful.kernels.1)

-- running the visits under a path adds its sum
pub paths_add : PathsAddTheSum
paths_add s stored p x lawful unread h =
    let a = root_path_adds stored s p x lawful unread h in
    record {
      sums = λ c. (a.sums c).like;
      exact = λ c l. sym (mod-eq_of_lt (after_small (world_of stored s) s.derived (visits_of stored s p) x (output_of s.nest) c l)) ∙ (a.sums c).like;
      small = λ t c l. after_small (world_of stored s) s.derived (visits_of stored s p) x t c l;
      others = λ t c l n. a.others t (n, (λ k e. absurd (omega (arith, l, e)))) c;
    }
