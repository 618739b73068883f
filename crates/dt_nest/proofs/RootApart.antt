-- The visits of a lawful schedule add its sum to the left tensor.
use Rattle.std.proofs.Common.{◌≡◌, ℕ, ◌+◌, ◌^◌, ◌<◌, ◌≤◌, Bool, true, false, ◌&&◌, ◌||◌, not, List, [], ◌∷◌, ◌++◌, length, refl, sym, ◌∙◌, subst, arith}
use Rattle.std.specs.Prelude.{if◌then◌else◌, nat_eq, nat_lt}
use Rattle.std.specs.List.{AllByRecursion, list_any}
use Rattle.std.proofs.Math.Path.{fun_ext}
use Rattle.std.proofs.Math.Nat.{add-mod-mod}
use Rattle.std.proofs.lemmas.Bool.{eqb-true, ltb-true, ltb-false, ne_eqb, or_from}
use Rattle.std.proofs.lemmas.List.{length-replicate}
use Rattle.dt_model.specs.Positions.{StoredTensor}
use Rattle.dt_model.specs.declared.stmt.Access.{Access}
use Rattle.dt_nest.specs.Tree.{Tree, Loop, Pre, Leaf, read_accesses}
use Rattle.dt_nest.specs.Schedule.{Schedule}
use Rattle.dt_nest.specs.Meaning.{Env, Entries, nest_sum}
use Rattle.dt_nest.specs.World.{world_of, entries_of}
use Rattle.dt_nest.specs.Lawful.{IsNamed, nodes_with, IsOneOf, WorksStand, IsLawful}
use Rattle.dt_nest.specs.Search.{HaveSlots}
use Rattle.dt_nest.specs.Visits.{at_root, no_slots, tests_of, tree_visits, visits_of}
use Rattle.dt_nest.specs.Effects.{entries_after, VisitsAddTheSum, SumReadsTensors}
use Rattle.dt_nest.specs.Outputs.{output_of, reads_of, IsUnread}
use Rattle.dt_nest.proofs.OwnSlots.{have_slots, zero_at}
use Rattle.dt_nest.proofs.Congruence.{like_same, is_read, reads_free, nest_sum-like, read_first, read_second}
use Rattle.dt_nest.proofs.Additions.{Adds, IsApart, tree_adds}
use Rattle.dt_nest.proofs.Truth.{or_either}

-- a workspace that isn't the schedule's has no node
nodes_named : (s : Schedule) (tree : Tree) (k : ℕ) → IsNamed s tree → length s.works ≤ k → nodes_with k tree ≡ 0
nodes_named s (Loop v n walk body) k h l = nodes_named s body k h.3 l
nodes_named s (Pre work pairs p q) k h l = go (nat_eq work k) (ne_eqb work k (λ e. omega (arith, h.0, e, l))) (nodes_named s p k h.2 l) (nodes_named s q k h.3 l)
  where
    go : (b : Bool) → b ≡ false → nodes_with k p ≡ 0 → nodes_with k q ≡ 0 → (if b then 1 else 0) + nodes_with k p + nodes_with k q ≡ 0
    go true e i j = absurd (cc)
    go false e i j = omega (arith, i, j)
nodes_named s (Leaf lhs terms guards kernel) k h l = refl

read_below : (n u : ℕ) (works : List ℕ) (accesses : List Access) → AllByRecursion (IsOneOf n works) accesses → is_read u accesses ≡ true → list_any (λ w. nat_eq u (n + w)) works ≡ false → u < n
read_below n u works [] h e f = absurd (cc)
read_below n u works (a ∷ accesses) h e f = or_either (u < n) (nat_eq a.tensor u) (is_read u accesses) e (λ t. here (eqb-true a.tensor u t)) (λ t. read_below n u works accesses h.1 t f)
  where
    here : a.tensor ≡ u → u < n
    here i = or_either (u < n) (nat_lt u n) (list_any (λ w. nat_eq u (n + w)) works) (subst (λ (t : ℕ). (nat_lt t n || list_any (λ w. nat_eq t (n + w)) works) ≡ true) i h.0) (λ t. ltb-true u n t) (λ t. absurd (cc))

-- what a tree reads and doesn't make is a tensor
pub free_below : (n u : ℕ) (tree : Tree) (written read : List ℕ) → WorksStand n tree written read → reads_free n u tree ≡ true → list_any (λ w. nat_eq u (n + w)) read ≡ false → u < n
free_below n u (Loop v m walk body) written read h e f = free_below n u body written read h e f
free_below n u (Pre work pairs p q) written read h e f =
    or_either (u < n) (reads_free n u p) (not (nat_eq u (n + work)) && reads_free n u q) e (λ t. free_below n u p (work ∷ written) read h.0 t f)
    (λ t. let k = both (nat_eq u (n + work)) (reads_free n u q) t in free_below n u q written (work ∷ read) h.1 k.1 (or_from (nat_eq u (n + work)) (list_any (λ w. nat_eq u (n + w)) read) k.0 f))
  where
    both : (a b : Bool) → (not a && b) ≡ true → (a ≡ false) × (b ≡ true)
    both true b e = absurd (cc)
    both false b e = (refl, e)
free_below n u (Leaf lhs terms guards kernel) written read h e f = read_below n u read (read_accesses terms) h.1 e f

-- and some leaf reads it
free_read : (n u : ℕ) (tree : Tree) → reads_free n u tree ≡ true → is_read u (reads_of tree) ≡ true
free_read n u (Loop v m walk body) e = free_read n u body e
free_read n u (Pre work pairs p q) e =
    or_either (is_read u (reads_of p ++ reads_of q) ≡ true) (reads_free n u p) (not (nat_eq u (n + work)) && reads_free n u q) e (λ t. read_first u (reads_of p) (reads_of q) (free_read n u p t))
    (λ t. read_second u (reads_of p) (reads_of q) (free_read n u q (and_right (not (nat_eq u (n + work))) (reads_free n u q) t)))
  where
    and_right : (a b : Bool) → (a && b) ≡ true → b ≡ true
    and_right true b e = e
    and_right false b e = absurd (cc)
free_read n u (Leaf lhs terms guards kernel) e = e

-- the last leaf writes a tensor
pub output_below : (n : ℕ) (tree : Tree) (read : List ℕ) → WorksStand n tree [] read → output_of tree < n
output_below n (Loop v m walk body) read h = output_below n body read h
output_below n (Pre work pairs p q) read h = output_below n q (work ∷ read) h.1
output_below n (Leaf lhs terms guards kernel) read h = or_either (lhs.tensor < n) (nat_lt lhs.tensor n) false h.0 (λ t. ltb-true lhs.tensor n t) (λ t. absurd (cc))

module _ (stored : List StoredTensor) (s : Schedule) (lawful : IsLawful s) (unread : IsUnread (output_of s.nest) s.nest) where
  -- in a lawful schedule what is written stands apart from what is read
  pub root_apart : IsApart (world_of stored s) s.derived s.nest
  root_apart = record {
    writes = lawful.works.written;
    once = λ k. once k (nat_lt k (length s.works)) (ltb-true k (length s.works)) (ltb-false k (length s.works));
    free = λ u e. let l = free_below (length s.tensors) u s.nest [] [] lawful.works.stand e refl in (apart u (free_read (length s.tensors) u s.nest e), (λ k i. absurd (omega (arith, l, i))));
    output = λ k e. let l = output_below (length s.tensors) s.nest [] lawful.works.stand in absurd (omega (arith, l, e));
  }
    where
      once : (k : ℕ) (b : Bool) → (b ≡ true → k < length s.works) → (b ≡ false → length s.works ≤ k) → nodes_with k s.nest ≤ 1
      once k true l m = let e = lawful.works.once k (l refl) in omega (arith, e)
      once k false l m = let e = nodes_named s s.nest k lawful.named (m refl) in omega (arith, e)

      apart : (u : ℕ) → is_read u (reads_of s.nest) ≡ true → u ≡ output_of s.nest → ⊥
      apart u t e = let r : is_read (output_of s.nest) (reads_of s.nest) ≡ true = subst (λ (v : ℕ). is_read v (reads_of s.nest) ≡ true) e t in cc

  root_adds : (x : Entries) → Adds (world_of stored s) s.derived s.nest (nest_sum (world_of stored s) s.derived s.nest x (λ u. u) (λ u. 0)) x (entries_after (world_of stored s) s.derived (visits_of stored s []) x)
  unfolding visits_of
  root_adds x =
      subst (λ (env : Env). Adds (world_of stored s) s.derived s.nest (nest_sum (world_of stored s) s.derived s.nest x (λ u. u) env) x (entries_after (world_of stored s) s.derived (tree_visits (tests_of (world_of stored s) s.derived) s.nest at_root (no_slots s) []) x)) (fun_ext (λ u. zero_at (length s.names) u))
      (tree_adds (world_of stored s) s.derived s.nest (λ u. false) at_root (no_slots s) x root_apart (subst (HaveSlots s.nest) (sym (length-replicate {A = ℕ} (length s.names) 0)) (have_slots s lawful)) lawful.follows lawful.kernels.1)

-- the visits of a lawful schedule add its sum
pub visits_add : VisitsAddTheSum
visits_add s stored x lawful unread =
    let a = root_adds stored s lawful unread x in
    record {
      sums = λ c.
          (a.sums c).like
          ∙ sym (add-mod-mod (x (output_of s.nest) c) (nest_sum (world_of stored s) s.derived s.nest x (λ u. u) (λ u. 0) c) (2 ^ 64));
      others = λ t c l n. a.others t (n, (λ k e. absurd (omega (arith, l, e)))) c;
    }

-- a schedule's sum reads tensors alone
pub reads_tensors : SumReadsTensors
reads_tensors s stored tensors x lawful same c =
    (nest_sum-like (world_of stored s) s.derived s.nest x (entries_of tensors) (λ u. u) (λ u. 0)
    (record { alike = λ u e d. like_same (x u d) (entries_of tensors u d) (same u d (free_below (length s.tensors) u s.nest [] [] lawful.works.stand e refl)) }) c).like
