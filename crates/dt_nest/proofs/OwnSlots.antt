-- In a lawful schedule each loop has a slot of its own.
use Rattle.std.proofs.Common.{◌≡◌, ℕ, ◌+◌, ◌<◌, ◌≤◌, ◌^◌, Bool, true, false, ◌||◌, List, [], ◌∷◌, length, replicate, refl, sym, ap, ◌∙◌, subst, arith}
use Rattle.std.specs.Prelude.{if◌then◌else◌, nat_eq, nat_lt, slice_index}
use Rattle.std.proofs.lemmas.Bool.{eq-eqb, ltb-true, ltb-false}
use Rattle.std.proofs.lemmas.List.{get_or-replicate, get_or_past, length-replicate}
use Rattle.dt_nest.specs.Tree.{Tree, Loop, Pre, Leaf, leaf_count, times}
use Rattle.dt_nest.specs.Schedule.{Schedule}
use Rattle.dt_nest.specs.Lawful.{IsNamed, WorksStand, IsLawful}
use Rattle.dt_nest.specs.Search.{AreZero, Lacks, AreApart, HaveSlots}

abbrev once : Bool → ℕ
once b = if b then 1 else 0

times_here : (v : ℕ) → once (nat_eq v v) ≡ 1
times_here v = ap once (eq-eqb v v refl)

-- a loop that stands nowhere
lacks_of : (v : ℕ) (tree : Tree) → times v tree ≡ 0 → Lacks v tree
lacks_of v (Loop u n walk body) h =
    (λ e. let k : once (nat_eq u v) ≡ 1 = ap (λ (x : ℕ). once (nat_eq u x)) e ∙ times_here u in absurd (omega arith), lacks_of v body (omega arith))
lacks_of v (Pre work more p q) h = (lacks_of v p (omega arith), lacks_of v q (omega arith))
lacks_of v (Leaf lhs terms guards kernel) h = tt

-- the loops of two trees in which no loop stands twice
apart_of : (p q : Tree) → ((u : ℕ) → times u p + times u q ≤ 1) → AreApart p q
apart_of (Loop v n walk body) q h =
    (lacks_of v q (let k = times_here v in let l = h v in omega (arith, k, l)), apart_of body q (λ u. let l = h u in omega (arith, l)))
apart_of (Pre work more a b) q h = (apart_of a q (λ u. let l = h u in omega (arith, l)), apart_of b q (λ u. let l = h u in omega (arith, l)))
apart_of (Leaf lhs terms guards kernel) q h = tt

own_slots : (s : Schedule) (tree : Tree) → IsNamed s tree → ((u : ℕ) → times u tree ≤ 1) → HaveSlots tree (length s.names)
own_slots s (Loop v n walk body) named h =
    (named.0, lacks_of v body (let k = times_here v in let l = h v in omega (arith, k, l)), own_slots s body named.3 (λ u. let l = h u in omega (arith, l)))
own_slots s (Pre work more p q) named h = (
  own_slots s p named.2 (λ u. let l = h u in omega (arith, l)),
  own_slots s q named.3 (λ u. let l = h u in omega (arith, l)),
  apart_of p q h,
  apart_of q p (λ u. let l = h u in omega (arith, l)),
)
own_slots s (Leaf lhs terms guards kernel) named h = tt

-- each loop of a lawful schedule has a slot of its own
pub have_slots : (s : Schedule) → IsLawful s → HaveSlots s.nest (length s.names)
have_slots s l = own_slots s s.nest l.named l.differ

some_tensor : (n : ℕ) (tree : Tree) (read : List ℕ) → WorksStand n tree [] read → 0 < n
some_tensor n (Loop v m walk body) read h = some_tensor n body read h
some_tensor n (Pre work more p q) read h = some_tensor n q (work ∷ read) h.1
some_tensor n (Leaf lhs terms guards kernel) read h = go (nat_lt lhs.tensor n) (ltb-true lhs.tensor n) h.0
  where
    go : (b : Bool) → (b ≡ true → lhs.tensor < n) → (b || false) ≡ true → 0 < n
    go true e h = let k = e refl in omega (arith, k)
    go false e h = absurd (cc)

-- the leaves of a lawful schedule can be counted
pub few_leaves : (s : Schedule) → IsLawful s → leaf_count s.nest < 2 ^ 32
few_leaves s l = let some = some_tensor (length s.tensors) s.nest [] l.works.stand in omega (arith, some, l.works.leaves, l.names.few_tensors)

-- a slot that no loop has entered
pub zero_at : (n v : ℕ) → slice_index (replicate n 0) v ≡ 0
zero_at n v = go (nat_lt v n) (ltb-true v n) (ltb-false v n)
  where
    go : (b : Bool) → (b ≡ true → v < n) → (b ≡ false → n ≤ v) → slice_index (replicate n 0) v ≡ 0
    go true e k = get_or-replicate n v 0 0 (e refl)
    go false e k = let p : length (replicate n 0) ≤ v = omega (arith, length-replicate {A = ℕ} n 0, k refl) in get_or_past (replicate n 0) v 0 p

-- slots before any loop is entered
pub none_entered : (tree : Tree) (n : ℕ) → AreZero tree (replicate n 0)
none_entered (Loop v m walk body) n = (zero_at n v, none_entered body n)
none_entered (Pre work more p q) n = (none_entered p n, none_entered q n)
none_entered (Leaf lhs terms guards kernel) n = tt

-- so can those of the parts of a lawful schedule
pub few_in : (r s : Schedule) → r ≡ s → IsLawful s → leaf_count r.nest < 2 ^ 32
few_in r s e l = few_leaves r (subst IsLawful (sym e) l)
