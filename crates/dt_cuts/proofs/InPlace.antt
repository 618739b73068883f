-- What is put in and taken out of a tree where it is.
use Rattle.std.proofs.Common.{◌≡◌, ℕ, zero, suc, ◌-◌, Bool, true, false, ◌||◌, List, [], ◌∷◌, ◌++◌, length, take, Option, None, refl, ap, ◌∙◌, if◌then◌else◌, nat_eq, arith}
use Rattle.std.proofs.lemmas.List.{length-append}
use Rattle.std.proofs.Math.Seq.{take-append_seam}
use Rattle.dt_nest.specs.declared.loops.Walk.{Walk}
use Rattle.dt_nest.specs.Tree.{Tree, Loop, Pre, Leaf, has_loop}
use Rattle.dt_cuts.specs.declared.cuts.Head.{Head}
use Rattle.dt_cuts.specs.Place.{at_loop, bared, filled, guarded, loops_around, without_loops}

-- guards that come and go again leave a tree as it was
pub bared_guarded : (vs : List ℕ) (t : Tree) → bared (length vs) (guarded vs t) ≡ t
bared_guarded vs (Loop v n walk body) = ap (Loop v n walk) (bared_guarded vs body)
bared_guarded vs (Pre work pairs p q) = ap (λ (t : Tree). Pre work pairs t (bared (length vs) (guarded vs q))) (bared_guarded vs p) ∙ ap (Pre work pairs p) (bared_guarded vs q)
bared_guarded vs (Leaf lhs terms guards kernel) = ap (λ (gs : List ℕ). Leaf lhs terms gs kernel) (ap (λ (k : ℕ). take k (guards ++ vs)) kept ∙ take-append_seam guards vs)
  where
    kept : length (guards ++ vs) - length vs ≡ length guards
    kept = let e = length-append guards vs in omega (arith, e)

-- loops come off a guarded tree as off the tree
pub without_guarded : (k : ℕ) (vs : List ℕ) (t : Tree) → without_loops k (guarded vs t) ≡ guarded vs (without_loops k t)
without_guarded zero vs t = refl
without_guarded (suc k) vs (Loop v n walk body) = without_guarded k vs body
without_guarded (suc k) vs (Pre work pairs p q) = refl
without_guarded (suc k) vs (Leaf lhs terms guards kernel) = refl

-- what is put inside loops has them around it
pub filled_around : (hs : List Head) (inner t : Tree) → filled (length hs) inner (loops_around hs t) ≡ loops_around hs inner
filled_around [] inner t = refl
filled_around (h ∷ hs) inner t = ap (Loop h.var h.extent None) (filled_around hs inner t)

-- where v is no loop, a change at v changes nothing
pub at_absent : (v : ℕ) (change : ℕ → Option Walk → Tree → Tree) (t : Tree) → has_loop v t ≡ false → at_loop v change t ≡ t
at_absent v change (Loop u n walk body) h = go (nat_eq u v) h (at_absent v change body)
  where
    go : (b : Bool) → (b || has_loop v body) ≡ false → (has_loop v body ≡ false → at_loop v change body ≡ body) → (if b then change n walk body else Loop u n walk (at_loop v change body)) ≡ Loop u n walk body
    go true h deeper = absurd (cc)
    go false h deeper = ap (Loop u n walk) (deeper h)
at_absent v change (Pre work pairs p q) h = go (has_loop v p) h (at_absent v change p) (at_absent v change q)
  where
    go : (b : Bool) → (b || has_loop v q) ≡ false → (b ≡ false → at_loop v change p ≡ p) → (has_loop v q ≡ false → at_loop v change q ≡ q)
        → Pre work pairs (at_loop v change p) (at_loop v change q) ≡ Pre work pairs p q
    go true h first second = absurd (cc)
    go false h first second = ap (λ (t : Tree). Pre work pairs t (at_loop v change q)) (first refl) ∙ ap (Pre work pairs p) (second h)
at_absent v change (Leaf lhs terms guards kernel) h = refl

-- the first elements of two lists, one after the other
pub take_front : {A : Type 0} (xs ys : List A) → take (length xs) (xs ++ ys) ≡ xs
take_front xs ys = take-append_seam xs ys
