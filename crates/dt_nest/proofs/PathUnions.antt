-- The paths that some visit extends.
use Rattle.std.proofs.Common.{◌≡◌, ℕ, suc, ◌+◌, ◌%◌, ◌^◌, ◌<◌, Bool, true, false, List, [], ◌∷◌, ◌++◌, length, filter, sum_by, refl, ap, sym, ◌∙◌, subst, arith}
use Rattle.std.specs.Prelude.{if◌then◌else◌, nat_lt}
use Rattle.std.specs.List.{AllByRecursion, flat_map}
use Rattle.std.proofs.lemmas.Bool.{ltb-false}
use Rattle.std.proofs.lemmas.List.Sums.{sum_by-cons}
use Rattle.dt_base.specs.Ranges.{below}
use Rattle.dt_nest.proofs.Each.{below_all}
use Rattle.dt_nest.specs.Tree.{Tree, Loop, Pre, Leaf}
use Rattle.dt_nest.specs.World.{world_of}
use Rattle.dt_nest.specs.Outputs.{output_of}
use Rattle.dt_nest.specs.Visits.{Item, visits_of, IsPathIn}
use Rattle.dt_nest.specs.Effects.{entries_after}
use Rattle.dt_nest.proofs.Congruence.{Like, like_same, like_trans, like_add}
use Rattle.dt_nest.specs.Paths.{HasLoops, extent_inside, sum_on}
use Rattle.dt_nest.specs.PathSteps.{VisitsFollowVisited, SumsFollowVisited, UnvisitedAddsNothing}
use Rattle.dt_nest.proofs.PathVisits.{visits_follow}
use Rattle.dt_nest.proofs.PathSums.{paths_add, sums_follow}

-- a list whose length isn't above 0
pub empty_of : {X : Type 0} (xs : List X) → nat_lt 0 (length xs) ≡ false → xs ≡ []
empty_of [] e = refl
empty_of (x ∷ xs) e = let l = ltb-false 0 (length (x ∷ xs)) e in absurd (omega (arith, l))

-- elements without a list of their own may be left out
pub flat_filter : {X Y : Type 0} (f : X → List Y) (test : X → Bool) → ((x : X) → test x ≡ false → f x ≡ []) → (xs : List X) → flat_map f xs ≡ flat_map f (filter test xs)
flat_filter f test h [] = refl
flat_filter f test h (x ∷ xs) = go (test x) (h x) (flat_filter f test h xs)
  where
    go : (b : Bool) → (b ≡ false → f x ≡ []) → flat_map f xs ≡ flat_map f (filter test xs) → f x ++ flat_map f xs ≡ flat_map f (if b then x ∷ filter test xs else filter test xs)
    go true n e = ap (λ l. f x ++ l) e
    go false n e = ap (λ l. l ++ flat_map f xs) (n refl) ∙ e

-- terms that are 0 modulo 2 ^ 64 may be left out
pub sum_filter : {X : Type 0} (P : X → Type 0) (f : X → ℕ) (test : X → Bool) → ((x : X) → P x → test x ≡ false → Like (f x) 0) → (xs : List X) → AllByRecursion P xs → Like (sum_by f xs) (sum_by f (filter test xs))
sum_filter P f test h [] k = like_same (sum_by f []) (sum_by f []) refl
sum_filter {X} P f test h (x ∷ xs) k = go (test x) (h x k.0) (sum_filter P f test h xs k.1)
  where
    go : (b : Bool) → (b ≡ false → Like (f x) 0) → Like (sum_by f xs) (sum_by f (filter test xs)) → Like (sum_by f (x ∷ xs)) (sum_by f (if b then x ∷ filter test xs else filter test xs))
    go true n e =
        like_trans (sum_by f (x ∷ xs)) (f x + sum_by f xs) (sum_by f (x ∷ filter test xs)) (like_same (sum_by f (x ∷ xs)) (f x + sum_by f xs) (sum_by-cons f x xs))
        (like_trans (f x + sum_by f xs) (f x + sum_by f (filter test xs)) (sum_by f (x ∷ filter test xs)) (like_add (f x) (f x) (sum_by f xs) (sum_by f (filter test xs)) (like_same (f x) (f x) refl) e)
        (like_same (f x + sum_by f (filter test xs)) (sum_by f (x ∷ filter test xs)) (sym (sum_by-cons f x (filter test xs)))))
    go false n e =
        like_trans (sum_by f (x ∷ xs)) (f x + sum_by f xs) (sum_by f (filter test xs)) (like_same (sum_by f (x ∷ xs)) (f x + sum_by f xs) (sum_by-cons f x xs))
        (like_trans (f x + sum_by f xs) (0 + sum_by f (filter test xs)) (sum_by f (filter test xs)) (like_add (f x) 0 (sum_by f xs) (sum_by f (filter test xs)) (n refl) e)
        (like_same (0 + sum_by f (filter test xs)) (sum_by f (filter test xs)) (omega arith)))

-- the visits under a path are those under the longer paths that some visit extends, one after another
pub visits_follow_visited : VisitsFollowVisited
visits_follow_visited stored s p h =
    visits_follow stored s p h
    ∙ flat_filter (λ i. visits_of stored s (p ++ i ∷ [])) (λ i. nat_lt 0 (length (visits_of stored s (p ++ i ∷ [])))) (λ i e. empty_of (visits_of stored s (p ++ i ∷ [])) e) (below (extent_inside (length p) s.nest))

-- a path that no visit extends adds nothing
pub unvisited_adds : UnvisitedAddsNothing
unvisited_adds s stored p x c lawful unread h e =
    nothing (x (output_of s.nest) c) (sum_on stored s p x c)
    (subst (λ (l : List Item). entries_after (world_of stored s) s.derived l x (output_of s.nest) c % 2 ^ 64 ≡ (x (output_of s.nest) c + sum_on stored s p x c) % 2 ^ 64) e ((paths_add s stored p x lawful unread h).sums c))
  where
    nothing : (a b : ℕ) → a % 2 ^ 64 ≡ (a + b) % 2 ^ 64 → b % 2 ^ 64 ≡ 0
    nothing a b e = omega (arith, e)

-- one value more
pub longer_path : (tree : Tree) (p : List ℕ) (i : ℕ) → IsPathIn tree p → HasLoops (suc (length p)) tree → i < extent_inside (length p) tree → IsPathIn tree (p ++ i ∷ [])
longer_path (Loop v n walk body) [] i h l k = (k, l.0, tt)
longer_path (Loop v n walk body) (x ∷ p) i h l k = (h.0, h.1, longer_path body p i h.2 l.1 k)
longer_path (Pre work more a b) p i h l k = absurd l
longer_path (Leaf lhs terms guards kernel) p i h l k = absurd l

-- the sum of a path is the sum over the longer paths that some visit extends
pub sums_follow_visited : SumsFollowVisited
sums_follow_visited s stored p x c lawful unread h l =
    ap (λ (k : ℕ). k % 2 ^ 64) (sums_follow stored s p x c l)
    ∙ (sum_filter (λ i. i < extent_inside (length p) s.nest) (λ i. sum_on stored s (p ++ i ∷ []) x c) (λ i. nat_lt 0 (length (visits_of stored s (p ++ i ∷ []))))
    (λ i k e. record { like = unvisited_adds s stored (p ++ i ∷ []) x c lawful unread (longer_path s.nest p i h l k) (empty_of (visits_of stored s (p ++ i ∷ [])) e) }) (below (extent_inside (length p) s.nest)) (below_all (extent_inside (length p) s.nest))).like
