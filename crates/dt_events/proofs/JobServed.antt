-- The blocks of a statement are served: pieces bring what is needed from homes that have it, shares take it to each home once, and
-- what a path adds is what the longer ones add.
use Rattle.std.proofs.Common.{◌≡◌, ℕ, zero, suc, ◌+◌, ◌%◌, ◌^◌, ◌<◌, Bool, true, false, cond, ◌&&◌, ◌||◌, List, [], ◌∷◌, ◌++◌, length, refl, sym, ap, ◌∙◌, subst, eqb-true, eq-eqb, arith, if◌then◌else◌, length-append}
use Rattle.std.specs.Prelude.{filter, nat_eq, nat_lt, sum_by, count_by}
use Rattle.std.specs.List.{AllByRecursion, list_any}
use Rattle.std.proofs.lemmas.Bool.{and_parts, and_from, or_parts, or_left, or_right, ltb-true, lt-ltb}
use Rattle.std.proofs.lemmas.List.Sums.{sum_by-cons}
use Rattle.std.proofs.lemmas.List.Recursion.{is_count_by}
use Rattle.dt_base.specs.Ranges.{below}
use Rattle.dt_runs.specs.Sets.{contains}
use Rattle.dt_runs.proofs.SetLemmas.{Ascends, contains-filter, contains-before}
use Rattle.dt_runs.proofs.BelowSets.{Ascends-below, contains-below}
use Rattle.dt_model.specs.Positions.{StoredTensor, coords_at, tensor_at}
use Rattle.dt_nest.specs.Tree.{Tree, Loop, Pre, Leaf, accesses_of, read_accesses}
use Rattle.dt_nest.specs.Schedule.{Schedule}
use Rattle.dt_nest.specs.Meaning.{Entries}
use Rattle.dt_nest.specs.World.{world_of}
use Rattle.dt_nest.specs.Outputs.{output_of}
use Rattle.dt_nest.specs.Paths.{HasLoops, extent_inside, tensors_in, sum_on}
use Rattle.dt_nest.specs.PathSteps.{visited_values}
use Rattle.dt_nest.specs.Questions.{accesses_tensor}
use Rattle.dt_nest.specs.Visits.{visits_of, needed_of, touches, IsPath}
use Rattle.dt_nest.proofs.Accesses.{any_append}
use Rattle.dt_nest.proofs.Each.{all_map, all_filter, below_all}
use Rattle.dt_nest.proofs.RootApart.{output_below}
use Rattle.dt_nest.proofs.PathDepths.{fewer_loops}
use Rattle.dt_nest.proofs.PathUnions.{longer_path, sums_follow_visited}
use Rattle.dt_bounds.proofs.PathNeeds.{contains-needed, needed_follows_visited, needed_shrinks}
use Rattle.dt_bounds.proofs.PathSilent.{not_needed_adds_nothing}
use Rattle.dt_copy.specs.declared.piece_list.Piece.{Piece}
use Rattle.dt_copy.specs.Sources.{home_at, piece_of, shares_of}
use Rattle.dt_copy.proofs.Serving.{each_flat, each_piece, pieces_serve}
use Rattle.dt_copy.proofs.Reaching.{shares_reach_homes}
use Rattle.dt_argument.proofs.Shapes.{if_false}
use Rattle.dt_place.specs.Machines.{nodes_of}
use Rattle.dt_plan.specs.declared.parts.Part.{Part}
use Rattle.dt_plan.specs.Layouts.{Layout, homes_at}
use Rattle.dt_events.specs.StateLaws.{IsRunnable}
use Rattle.dt_events.specs.Placed.{IsPlaced, AreNumbers}
use Rattle.dt_events.proofs.BlockLists.{apart_filter, sum_zero}
use Rattle.dt_events.proofs.BlockPlans.{Blocks, AreApart, count, times, IsPlanned, IsServed, NeedsLess, AddsUp, TaskAdds, AreServed}
use Rattle.dt_events.proofs.JobBlocks.{path_amount, blocks_at}

-- Lists without repetition ---------------------------------------------------------------------------------------------------

ascending_apart : (low : ℕ) (xs : List ℕ) → Ascends low xs → AreApart xs
ascending_apart low [] h = tt
ascending_apart low (x ∷ xs) h = (contains-before (suc x) xs x h.1 (omega arith), ascending_apart (suc x) xs h.1)

-- the numbers below another
below_apart : (n : ℕ) → AreApart (below n)
below_apart n = ascending_apart 0 (below n) (Ascends-below n)

-- the needed words of a path
needed_apart : (stored : List StoredTensor) (s : Schedule) (t : ℕ) (path : List ℕ) → AreApart (needed_of stored s t path)
unfolding needed_of
needed_apart stored s t path =
    apart_filter (λ p. list_any (touches (world_of stored s) s.derived t (coords_at (tensor_at stored t) p)) (visits_of stored s path)) (below (length (tensor_at stored t).coords)) (below_apart (length (tensor_at stored t).coords))

-- a number is in such a list once or not at all
count_apart : (w : ℕ) (vs : List ℕ) → AreApart vs → count w vs ≡ (if contains vs w then 1 else 0)
count_apart w [] h = refl
count_apart w (v ∷ vs) h = go (nat_eq v w) (eqb-true v w) (count_apart w vs h.1)
  where
    go : (b : Bool) → (b ≡ true → v ≡ w) → count w vs ≡ (if contains vs w then 1 else 0) → (if b then 1 else 0) + count w vs ≡ (if b || contains vs w then 1 else 0)
    go true e again =
        let none : contains vs w ≡ false = subst (λ (u : ℕ). contains vs u ≡ false) (e refl) h.0 in
        let zeros : count w vs ≡ 0 = again ∙ if_false (contains vs w) 1 0 none in
        omega (arith, zeros)
    go false e again = let z : 0 + count w vs ≡ count w vs = omega arith in z ∙ again

-- how many of some pieces are of a node and have a word
pieces_with : List Piece → ℕ → ℕ → ℕ
pieces_with [] m w = 0
pieces_with (p ∷ ps) m w = cond (nat_eq p.node m && contains p.words w) (1 + pieces_with ps m w) (pieces_with ps m w)

times_counts : (ps : List Piece) → AllByRecursion (λ (p : Piece). AreApart p.words) ps → (m w : ℕ) → times ps m w ≡ pieces_with ps m w
unfolding pieces_with
times_counts [] h m w = refl
times_counts (p ∷ ps) h m w = go (nat_eq p.node m) (contains p.words w) (count_apart w p.words h.0) (times_counts ps h.1 m w)
  where
    go : (a b : Bool) → count w p.words ≡ (if b then 1 else 0) → times ps m w ≡ pieces_with ps m w → (if a then count w p.words else 0) + times ps m w ≡ cond (a && b) (1 + pieces_with ps m w) (pieces_with ps m w)
    go true true e again = omega (arith, e, again)
    go true false e again = omega (arith, e, again)
    go false b e again = let z : 0 + times ps m w ≡ times ps m w = omega arith in z ∙ again

pieces_counted : (ps : List Piece) (m w : ℕ) → pieces_with ps m w ≡ count_by (λ (p : Piece). nat_eq p.node m && contains p.words w) ps
unfolding pieces_with
pieces_counted ps m w = is_count_by (λ qs. pieces_with qs m w) (λ (p : Piece). nat_eq p.node m && contains p.words w) refl (λ p qs. refl) ps

-- the shares of a need have no word twice
shares_apart : (need : List ℕ) (homes : List (List ℕ)) → AreApart need → AllByRecursion (λ (p : Piece). AreApart p.words) (shares_of need homes)
shares_apart need homes h =
    each_flat (λ (p : Piece). AreApart p.words) (λ m. piece_of m (filter (contains (home_at homes m)) need)) (below (length homes))
    (λ m. each_piece (λ (p : Piece). AreApart p.words) m (filter (contains (home_at homes m)) need) (apart_filter (contains (home_at homes m)) need h))

-- The left tensor ------------------------------------------------------------------------------------------------------------

-- the left tensor is accessed
output_accessed : (tree : Tree) → accesses_tensor tree (output_of tree) ≡ true
output_accessed (Loop v n walk body) = output_accessed body
output_accessed (Pre work pairs p q) =
    any_append (λ a. nat_eq a.tensor (output_of q)) (accesses_of p) (accesses_of q)
    ∙ or_right (list_any (λ a. nat_eq a.tensor (output_of q)) (accesses_of p)) (list_any (λ a. nat_eq a.tensor (output_of q)) (accesses_of q)) (output_accessed q)
output_accessed (Leaf lhs terms guards kernel) = or_left (nat_eq lhs.tensor lhs.tensor) (list_any (λ a. nat_eq a.tensor lhs.tensor) (read_accesses terms)) (eq-eqb lhs.tensor lhs.tensor refl)

-- numbers that are equal modulo 2 ^ 64 have equal sums
pub sums_alike : {X : Type 0} (f g : X → ℕ) (is : List X) → AllByRecursion (λ i. f i % 2 ^ 64 ≡ g i % 2 ^ 64) is → sum_by f is % 2 ^ 64 ≡ sum_by g is % 2 ^ 64
sums_alike f g [] h = refl
sums_alike f g (i ∷ is) h =
    let a = sum_by-cons f i is in
    let b = sum_by-cons g i is in
    let e = h.0 in
    let again = sums_alike f g is h.1 in
    omega (arith, a, b, e, again)

-- where one of some fails, it is not all
none_of : (f : ℕ → Bool) (is : List ℕ) → list_any f is ≡ false → AllByRecursion (λ i. f i ≡ false) is
none_of f [] h = tt
none_of f (i ∷ is) h = let q = or_parts (f i) (list_any f is) h in (q.0, none_of f is q.1)

module _ (l : Layout) (k : ℕ) (p : Part) (x : Entries) (fit : IsRunnable l p) (placed : IsPlaced l) (numbers : AreNumbers l x) (n : ℕ) (exists : n < nodes_of l.machine) where
  -- the statement's blocks on the node
  abbrev B : Blocks
  B = blocks_at l k p x n

  -- the left tensor is one of the schedule's
  pub left_exists : output_of p.sched.nest < length p.sched.tensors
  left_exists = output_below (length p.sched.tensors) p.sched.nest [] fit.lawful.works.stand

  -- a tensor that is moved is one of the layout's
  pub moved_exists : (t : ℕ) → contains (tensors_in p.sched) t ≡ true → t < length l.stored
  moved_exists t h =
      let a = and_parts (contains (below (length p.sched.tensors)) t) (accesses_tensor p.sched.nest t) (sym (contains-filter (accesses_tensor p.sched.nest) (below (length p.sched.tensors)) t) ∙ h) in
      subst (λ (m : ℕ). t < m) fit.tensors (ltb-true t (length p.sched.tensors) (sym (contains-below (length p.sched.tensors) t) ∙ a.0))

  -- a needed word is a position
  pub needed_exists : (t w : ℕ) (path : List ℕ) → contains (needed_of l.stored p.sched t path) w ≡ true → w < length (tensor_at l.stored t).coords
  needed_exists t w path h =
      let a = and_parts (nat_lt w (length (tensor_at l.stored t).coords)) (list_any (touches (world_of l.stored p.sched) p.sched.derived t (coords_at (tensor_at l.stored t) w)) (visits_of l.stored p.sched path))
      (sym (contains-needed l.stored p.sched t path w) ∙ h) in
      ltb-true w (length (tensor_at l.stored t).coords) a.0

  -- what holds of the blocks at any path
  pub blocks_planned : IsPlanned B
  blocks_planned = record {
    apart = apart_filter (accesses_tensor p.sched.nest) (below (length p.sched.tensors)) (below_apart (length p.sched.tensors));
    written = contains-filter (accesses_tensor p.sched.nest) (below (length p.sched.tensors)) (output_of p.sched.nest)
        ∙ and_from (contains (below (length p.sched.tensors)) (output_of p.sched.nest)) (accesses_tensor p.sched.nest (output_of p.sched.nest))
        (contains-below (length p.sched.tensors) (output_of p.sched.nest) ∙ lt-ltb (output_of p.sched.nest) (length p.sched.tensors) left_exists) (output_accessed p.sched.nest);
    numbers = λ t w. numbers.small t (coords_at (tensor_at l.stored t) w);
  }

  -- and at this one
  path_served : (path : List ℕ) → IsServed B path
  path_served path = record {
    copied = λ t h d. (pieces_serve (needed_of l.stored p.sched t path) (homes_at l t) n (room t h)).held;
    covered = λ t w h d need. (pieces_serve (needed_of l.stored p.sched t path) (homes_at l t) n (room t h)).whole w need (placed.covered t w (moved_exists t h) (needed_exists t w path need));
    folded = (shares_reach_homes (needed_of l.stored p.sched (output_of p.sched.nest) path) (homes_at l (output_of p.sched.nest))).held;
    once = λ m w.
        times_counts (shares_of (needed_of l.stored p.sched (output_of p.sched.nest) path) (homes_at l (output_of p.sched.nest)))
        (shares_apart (needed_of l.stored p.sched (output_of p.sched.nest) path) (homes_at l (output_of p.sched.nest)) (needed_apart l.stored p.sched (output_of p.sched.nest) path)) m w
        ∙ pieces_counted (shares_of (needed_of l.stored p.sched (output_of p.sched.nest) path) (homes_at l (output_of p.sched.nest))) m w
        ∙ (shares_reach_homes (needed_of l.stored p.sched (output_of p.sched.nest) path) (homes_at l (output_of p.sched.nest))).once m w;
    unneeded = λ w h. ap (λ (v : ℕ). v % 2 ^ 64) (if_false (contains (needed_of l.stored p.sched (output_of p.sched.nest) path) w) (sum_on l.stored p.sched path x (coords_at (tensor_at l.stored (output_of p.sched.nest)) w)) 0 h);
  }
    where
      room : (t : ℕ) → contains (tensors_in p.sched) t ≡ true → n < length (homes_at l t)
      room t h = subst (λ (m : ℕ). n < m) (sym (placed.nodes t (moved_exists t h))) exists

  -- what a path adds to a word that is a position is its sum there
  pub amount_is : (path : List ℕ) (w : ℕ) → IsPath p.sched path → w < length (tensor_at l.stored (output_of p.sched.nest)).coords
      → sum_on l.stored p.sched path x (coords_at (tensor_at l.stored (output_of p.sched.nest)) w) % 2 ^ 64 ≡ path_amount l k p x path w % 2 ^ 64
  amount_is path w h small = go (contains (needed_of l.stored p.sched (output_of p.sched.nest) path) w) refl
    where
      go : (b : Bool) → contains (needed_of l.stored p.sched (output_of p.sched.nest) path) w ≡ b
          → sum_on l.stored p.sched path x (coords_at (tensor_at l.stored (output_of p.sched.nest)) w) % 2 ^ 64 ≡ (if b then sum_on l.stored p.sched path x (coords_at (tensor_at l.stored (output_of p.sched.nest)) w) else 0) % 2 ^ 64
      go true e = refl
      go false e = not_needed_adds_nothing p.sched l.stored path x w fit.lawful fit.unread h small e

  -- the longer paths that some visit extends are paths
  values_are_paths : (path : List ℕ) → IsPath p.sched path → HasLoops (suc (length path)) p.sched.nest → AllByRecursion (λ i. IsPath p.sched (path ++ i ∷ [])) (visited_values l.stored p.sched path)
  values_are_paths path h loops =
      all_map (λ i. i < extent_inside (length path) p.sched.nest) (λ i. IsPath p.sched (path ++ i ∷ [])) (λ i small. longer_path p.sched.nest path i h loops small) (visited_values l.stored p.sched path)
      (all_filter (λ i. i < extent_inside (length path) p.sched.nest) (λ i. nat_lt 0 (length (visits_of l.stored p.sched (path ++ i ∷ [])))) (below (extent_inside (length path) p.sched.nest)) (below_all (extent_inside (length path) p.sched.nest)))

  -- a path adds what the longer ones add
  adds_up : (path : List ℕ) → IsPath p.sched path → HasLoops (suc (length path)) p.sched.nest → AddsUp B path
  adds_up path h loops w = go (contains (needed_of l.stored p.sched (output_of p.sched.nest) path) w) refl
    where
      go : (b : Bool) → contains (needed_of l.stored p.sched (output_of p.sched.nest) path) w ≡ b
          → (if b then sum_on l.stored p.sched path x (coords_at (tensor_at l.stored (output_of p.sched.nest)) w) else 0) % 2 ^ 64
          ≡ sum_by (λ i. path_amount l k p x (path ++ i ∷ []) w) (visited_values l.stored p.sched path) % 2 ^ 64
      go true e =
          sums_follow_visited p.sched l.stored path x (coords_at (tensor_at l.stored (output_of p.sched.nest)) w) fit.lawful fit.unread h loops
          ∙ sums_alike (λ i. sum_on l.stored p.sched (path ++ i ∷ []) x (coords_at (tensor_at l.stored (output_of p.sched.nest)) w)) (λ i. path_amount l k p x (path ++ i ∷ []) w) (visited_values l.stored p.sched path)
          (all_map (λ i. IsPath p.sched (path ++ i ∷ [])) (λ i. sum_on l.stored p.sched (path ++ i ∷ []) x (coords_at (tensor_at l.stored (output_of p.sched.nest)) w) % 2 ^ 64 ≡ path_amount l k p x (path ++ i ∷ []) w % 2 ^ 64)
          (λ i q. amount_is (path ++ i ∷ []) w q (needed_exists (output_of p.sched.nest) w path e)) (visited_values l.stored p.sched path) (values_are_paths path h loops))
      go false e =
          sym (sums_alike (λ i. path_amount l k p x (path ++ i ∷ []) w) (λ i. 0) (visited_values l.stored p.sched path)
          (all_map (λ i. contains (needed_of l.stored p.sched (output_of p.sched.nest) (path ++ i ∷ [])) w ≡ false) (λ i. path_amount l k p x (path ++ i ∷ []) w % 2 ^ 64 ≡ 0 % 2 ^ 64)
          (λ i q. ap (λ (v : ℕ). v % 2 ^ 64) (if_false (contains (needed_of l.stored p.sched (output_of p.sched.nest) (path ++ i ∷ [])) w) (sum_on l.stored p.sched (path ++ i ∷ []) x (coords_at (tensor_at l.stored (output_of p.sched.nest)) w)) 0 q))
          (visited_values l.stored p.sched path)
          (none_of (λ i. contains (needed_of l.stored p.sched (output_of p.sched.nest) (path ++ i ∷ [])) w) (visited_values l.stored p.sched path) (sym (needed_follows_visited l.stored p.sched (output_of p.sched.nest) path loops w) ∙ e)))
          ∙ ap (λ (v : ℕ). v % 2 ^ 64) (sum_zero (λ i. 0) (visited_values l.stored p.sched path) (λ i. refl)))

  -- a block whose tasks add is served at each path
  pub blocks_served : (d : ℕ) (path : List ℕ) → IsPath p.sched path → HasLoops (length path + d) p.sched.nest
      → ((q : List ℕ) → IsPath p.sched q → length q ≡ length path + d → TaskAdds B (length q) q) → AreServed B d (length path) path
  blocks_served zero path h loops task = (path_served path, task path h (omega arith))
  blocks_served (suc d) path h loops task =
      let inside : HasLoops (suc (length path)) p.sched.nest = fewer_loops (suc (length path)) (length path + suc d) p.sched.nest (omega arith) loops in (
        path_served path,
        adds_up path h inside,
        all_map (λ i. IsPath p.sched (path ++ i ∷ [])) (λ i. NeedsLess B (path ++ i ∷ []) path × AreServed B d (suc (length path)) (path ++ i ∷ []))
            (λ i q. (
              (λ t w need. needed_shrinks l.stored p.sched t path (i ∷ []) w q need),
              subst (λ (j : ℕ). AreServed B d j (path ++ i ∷ [])) (longer i)
                  (blocks_served d (path ++ i ∷ []) q (subst (λ (j : ℕ). HasLoops j p.sched.nest) (let f = longer i in omega (arith, f)) loops) (λ r g e. task r g (let f = longer i in omega (arith, e, f)))),
            ))
            (visited_values l.stored p.sched path) (values_are_paths path h inside),
      )
    where
      longer : (i : ℕ) → length (path ++ i ∷ []) ≡ suc (length path)
      longer i = let f = length-append path (i ∷ []) in omega (arith, f)
