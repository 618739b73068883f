-- What is needed under a path.
use Rattle.std.proofs.Common.{◌≡◌, ℕ, zero, suc, ◌<◌, Bool, true, false, ◌||◌, ◌&&◌, List, [], ◌∷◌, ◌++◌, length, refl, ap, sym, ◌∙◌, subst, arith, append-nil, filter}
use Rattle.std.specs.Prelude.{if◌then◌else◌, nat_eq, nat_lt, drop, take}
use Rattle.std.specs.List.{flat_map, list_any}
use Rattle.std.proofs.lemmas.Bool.{eqb-true}
use Rattle.std.proofs.lemmas.List.Folds.{list_any-append}
use Rattle.dt_base.specs.Ranges.{below}
use Rattle.dt_model.specs.Positions.{StoredTensor, coords_at, tensor_at}
use Rattle.dt_runs.specs.Sets.{contains}
use Rattle.dt_nest.specs.Tree.{Tree, Loop, Pre, Leaf}
use Rattle.dt_nest.specs.Schedule.{Schedule}
use Rattle.dt_nest.specs.World.{world_of}
use Rattle.dt_nest.specs.Visits.{visits_of, touches, needed_of, IsPath, IsPathIn}
use Rattle.dt_runs.proofs.SetLemmas.{contains-filter}
use Rattle.dt_nest.specs.Paths.{HasLoops, extent_inside, paths_of}
use Rattle.dt_bounds.specs.NeededPaths.{NeededFollowsPaths, NeededShrinks, NeededFollowsVisited, FrontsNeedMore, NeededOverPaths}
use Rattle.std.proofs.lemmas.List.{take-append-drop}
use Rattle.dt_nest.proofs.PathFans.{visits_over}
use Rattle.dt_nest.proofs.PathVisits.{visits_follow}
use Rattle.dt_nest.proofs.PathUnions.{empty_of}
use Rattle.dt_runs.proofs.BelowSets.{contains-below}

-- some element of lists that are joined passes
pub any_flat : {X Y : Type 0} (test : Y → Bool) (f : X → List Y) (xs : List X) → list_any test (flat_map f xs) ≡ list_any (λ i. list_any test (f i)) xs
any_flat test f [] = refl
any_flat test f (x ∷ xs) = list_any-append test (f x) (flat_map f xs) ∙ ap (λ b. list_any test (f x) || b) (any_flat test f xs)

-- equal tests pass alike
pub any_same : {X : Type 0} (f g : X → Bool) → ((i : X) → f i ≡ g i) → (xs : List X) → list_any f xs ≡ list_any g xs
any_same f g h [] = refl
any_same f g h (x ∷ xs) = ap (λ b. b || list_any f xs) (h x) ∙ ap (λ b. g x || b) (any_same f g h xs)

-- a fact beside a test of some element
pub any_and : {X : Type 0} (a : Bool) (f : X → Bool) (xs : List X) → (a && list_any f xs) ≡ list_any (λ i. a && f i) xs
any_and true f xs = refl
any_and false f [] = refl
any_and false f (x ∷ xs) = any_and false f xs

-- whether a position is needed
pub contains-needed : (stored : List StoredTensor) (s : Schedule) (t : ℕ) (p : List ℕ) (w : ℕ)
    → contains (needed_of stored s t p) w ≡ (nat_lt w (length (tensor_at stored t).coords) && list_any (touches (world_of stored s) s.derived t (coords_at (tensor_at stored t) w)) (visits_of stored s p))
unfolding needed_of
contains-needed stored s t p w =
    contains-filter (λ k. list_any (touches (world_of stored s) s.derived t (coords_at (tensor_at stored t) k)) (visits_of stored s p)) (below (length (tensor_at stored t).coords)) w
    ∙ ap (λ b. b && list_any (touches (world_of stored s) s.derived t (coords_at (tensor_at stored t) w)) (visits_of stored s p)) (contains-below (length (tensor_at stored t).coords) w)

-- a position is needed under a path where it is needed under one of the longer paths
pub needed_follows : NeededFollowsPaths
needed_follows stored s t p h w =
    contains-needed stored s t p w
    ∙ ap (λ l. nat_lt w (length (tensor_at stored t).coords) && list_any (touches (world_of stored s) s.derived t (coords_at (tensor_at stored t) w)) l) (visits_follow stored s p h)
    ∙ ap (λ b. nat_lt w (length (tensor_at stored t).coords) && b) (any_flat (touches (world_of stored s) s.derived t (coords_at (tensor_at stored t) w)) (λ i. visits_of stored s (p ++ i ∷ [])) (below (extent_inside (length p) s.nest)))
    ∙ any_and (nat_lt w (length (tensor_at stored t).coords)) (λ i. list_any (touches (world_of stored s) s.derived t (coords_at (tensor_at stored t) w)) (visits_of stored s (p ++ i ∷ []))) (below (extent_inside (length p) s.nest))
    ∙ any_same _ _ (λ i. sym (contains-needed stored s t (p ++ i ∷ []) w)) (below (extent_inside (length p) s.nest))

-- a value that passes is one of those below n
any_below : (f : ℕ → Bool) (n i : ℕ) → i < n → f i ≡ true → list_any f (below n) ≡ true
any_below f zero i l e = absurd (omega (arith, l))
any_below f (suc n) i l e = list_any-append f (below n) (n ∷ []) ∙ go (nat_eq i n) (eqb-true i n) (λ k. any_below f n i (omega (arith, l, k)) e)
  where
    go : (b : Bool) → (b ≡ true → i ≡ n) → ((i ≡ n → ⊥) → list_any f (below n) ≡ true) → (list_any f (below n) || (f n || false)) ≡ true
    go b same less = grind arith

-- the loop and the value at which a path goes on
pub path_step : (tree : Tree) (p : List ℕ) (i : ℕ) (q : List ℕ) → IsPathIn tree (p ++ i ∷ q) → HasLoops (suc (length p)) tree × (i < extent_inside (length p) tree)
path_step (Loop v n walk body) [] i q h = ((h.1, tt), h.0)
path_step (Loop v n walk body) (x ∷ p) i q h = let r = path_step body p i q h.2 in ((h.1, r.0), r.1)
path_step (Pre work more a b) [] i q h = absurd h
path_step (Pre work more a b) (x ∷ p) i q h = absurd h
path_step (Leaf lhs terms guards kernel) [] i q h = absurd h
path_step (Leaf lhs terms guards kernel) (x ∷ p) i q h = absurd h

append_step : (p : List ℕ) (i : ℕ) (q : List ℕ) → (p ++ i ∷ []) ++ q ≡ p ++ i ∷ q
append_step [] i q = refl
append_step (x ∷ p) i q = ap (λ l. x ∷ l) (append_step p i q)

-- what is needed under a longer path is needed under the shorter one
pub needed_shrinks : NeededShrinks
needed_shrinks stored s t p [] w h e = subst (λ (l : List ℕ). contains (needed_of stored s t l) w ≡ true) (append-nil p) e
needed_shrinks stored s t p (i ∷ q) w h e =
    let r = path_step s.nest p i q h in
    let longer : contains (needed_of stored s t (p ++ i ∷ [])) w ≡ true =
    needed_shrinks stored s t (p ++ i ∷ []) q w (subst (IsPath s) (sym (append_step p i q)) h) (subst (λ (l : List ℕ). contains (needed_of stored s t l) w ≡ true) (sym (append_step p i q)) e) in
    needed_follows stored s t p r.0 w ∙ any_below (λ j. contains (needed_of stored s t (p ++ j ∷ [])) w) (extent_inside (length p) s.nest) i r.1 longer

any_filter : (f test : ℕ → Bool) → ((x : ℕ) → test x ≡ false → f x ≡ false) → (xs : List ℕ) → list_any f xs ≡ list_any f (filter test xs)
any_filter f test h [] = refl
any_filter f test h (x ∷ xs) = go (test x) (h x) (any_filter f test h xs)
  where
    go : (b : Bool) → (b ≡ false → f x ≡ false) → list_any f xs ≡ list_any f (filter test xs) → (f x || list_any f xs) ≡ list_any f (if b then x ∷ filter test xs else filter test xs)
    go true n e = ap (λ b. f x || b) e
    go false n e = ap (λ b. b || list_any f xs) (n refl) ∙ e

-- nothing is needed under a path that no visit extends
pub unvisited_needs : (stored : List StoredTensor) (s : Schedule) (t : ℕ) (p : List ℕ) (w : ℕ) → visits_of stored s p ≡ [] → contains (needed_of stored s t p) w ≡ false
unvisited_needs stored s t p w e =
    contains-needed stored s t p w
    ∙ ap (λ l. nat_lt w (length (tensor_at stored t).coords) && list_any (touches (world_of stored s) s.derived t (coords_at (tensor_at stored t) w)) l) e
    ∙ none (nat_lt w (length (tensor_at stored t).coords))
  where
    none : (b : Bool) → (b && false) ≡ false
    none true = refl
    none false = refl

-- a position is needed under a path where it is needed under a longer path that some visit extends
pub needed_follows_visited : NeededFollowsVisited
needed_follows_visited stored s t p h w =
    needed_follows stored s t p h w
    ∙ any_filter (λ i. contains (needed_of stored s t (p ++ i ∷ [])) w) (λ i. nat_lt 0 (length (visits_of stored s (p ++ i ∷ []))))
    (λ i e. unvisited_needs stored s t (p ++ i ∷ []) w (empty_of (visits_of stored s (p ++ i ∷ [])) e)) (below (extent_inside (length p) s.nest))

front_path : (tree : Tree) (p q : List ℕ) → IsPathIn tree (p ++ q) → IsPathIn tree p
front_path tree [] q h = tt
front_path (Loop v n walk body) (x ∷ p) q h = (h.0, h.1, front_path body p q h.2)
front_path (Pre work more a b) (x ∷ p) q h = absurd h
front_path (Leaf lhs terms guards kernel) (x ∷ p) q h = absurd h

-- the first values of a path are a path, and need what it needs
pub fronts_need : FrontsNeedMore
fronts_need stored s t k p h =
    let e : take k p ++ drop k p ≡ p = take-append-drop k p in (
      front_path s.nest (take k p) (drop k p) (subst (IsPath s) (sym e) h),
      λ w c. needed_shrinks stored s t (take k p) (drop k p) w (subst (IsPath s) (sym e) h) (subst (λ (l : List ℕ). contains (needed_of stored s t l) w ≡ true) (sym e) c),
    )

-- a position is needed where it is needed under one of these paths
pub needed_over_paths : NeededOverPaths
needed_over_paths stored s t k h w =
    contains-needed stored s t [] w
    ∙ ap (λ l. nat_lt w (length (tensor_at stored t).coords) && list_any (touches (world_of stored s) s.derived t (coords_at (tensor_at stored t) w)) l) (visits_over stored s k h)
    ∙ ap (λ b. nat_lt w (length (tensor_at stored t).coords) && b) (any_flat (touches (world_of stored s) s.derived t (coords_at (tensor_at stored t) w)) (visits_of stored s) (paths_of stored s k))
    ∙ any_and (nat_lt w (length (tensor_at stored t).coords)) (λ p. list_any (touches (world_of stored s) s.derived t (coords_at (tensor_at stored t) w)) (visits_of stored s p)) (paths_of stored s k)
    ∙ any_same _ _ (λ p. sym (contains-needed stored s t p w)) (paths_of stored s k)
