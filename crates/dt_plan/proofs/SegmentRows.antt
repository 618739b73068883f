-- What barrier segments cost, by node, part by part.
use Rattle.std.proofs.Common.{◌≡◌, ℕ, ◌+◌, ◌<◌, ◌≤◌, Bool, true, false, List, [], ◌∷◌, ◌++◌, length, map, take, get_or, ap, sym, ◌∙◌, subst, arith}
use Rattle.std.specs.Prelude.{if◌then◌else◌, max, nat_eq, nat_lt, slice_index}
use Rattle.std.specs.List.{AllByRecursion}
use Rattle.std.specs.List.Sorted.{IsSortedBy}
use Rattle.std.proofs.lemmas.List.{get_or-map, take_more, length-map}
use Rattle.dt_base.specs.Ranges.{below}
use Rattle.dt_nest.proofs.Each.{all_map}
use Rattle.dt_place.specs.Machines.{nodes_of}
use Rattle.dt_plan.specs.declared.parts.Part.{Part}
use Rattle.dt_plan.specs.Bounds.{part_words}
use Rattle.dt_plan.specs.Layouts.{Layout}
use Rattle.dt_plan.specs.NodeWords.{capped, most_of_segments, row_of, segment_sum}
use Rattle.dt_plan.proofs.NodeRows.{at_place, row_same, rows_greater, rows_summed, same_rows, so_many}
use Rattle.dt_plan.proofs.SegmentSums.{most_more, never_falls, segment_goes}
use Rattle.dt_plan.proofs.Taken.{all_more}

-- the sums of two rows, or of the second alone
rows_partly : (nodes : ℕ) (a b : ℕ → ℕ) (left right : List ℕ) (c : Bool) → left ≡ row_of nodes a → right ≡ row_of nodes b
    → map (λ n. capped (capped (if c then slice_index left n else 0) + capped (slice_index right n))) (below (length left)) ≡ row_of nodes (λ n. (if c then a n else 0) + b n)
rows_partly nodes a b left right true e f = rows_summed nodes a b left right e f
rows_partly nodes a b left right false e f =
    ap (λ (k : ℕ). map (λ n. capped (capped 0 + capped (slice_index right n))) (below k)) (ap length e ∙ so_many (λ n. capped (a n)) nodes)
    ∙ same_rows (λ n. capped (capped 0 + capped (slice_index right n))) (λ n. capped (0 + b n)) nodes
    (λ n l. (let y = ap (λ (row : List ℕ). slice_index row n) f ∙ at_place (λ n. capped (b n)) nodes n l in omega (arith, y)))

-- as many numbers as nodes
pub row_many : (nodes : ℕ) (a : ℕ → ℕ) (row : List ℕ) → row ≡ row_of nodes a → length row ≡ nodes
row_many nodes a row e = ap (λ (r : List ℕ). length r) e ∙ so_many (λ n. capped (a n)) nodes

module _ (l : Layout) (k : ℕ) (p : Part) (b : k < length l.parts) (is : p ≡ get_or l.parts k p) where
  -- the first parts, with one more
  with_part : take (k + 1) l.parts ≡ take k l.parts ++ p ∷ []
  with_part = take_more l.parts k p b ∙ ap (λ (q : Part). take k l.parts ++ q ∷ []) (sym is)

  -- its segment, in order
  segment_at : slice_index (map (λ (q : Part). q.segment) l.parts) k ≡ p.segment
  segment_at = get_or-map (λ (q : Part). q.segment) l.parts k p 0 b ∙ ap (λ (q : Part). q.segment) (sym is)

  pub sum_goes : (s : ℕ) (sum part new : List ℕ) (c : Bool) → AllByRecursion (λ (q : Part). q.segment ≤ s) (take k l.parts) → s ≤ p.segment → sum ≡ row_of (nodes_of l.machine) (segment_sum l (take k l.parts) s)
      → part ≡ row_of (nodes_of l.machine) (λ n. part_words l n p) → c ≡ nat_eq p.segment s → new ≡ map (λ n. capped (capped (if c then slice_index sum n else 0) + capped (slice_index part n))) (below (length sum))
      → new ≡ row_of (nodes_of l.machine) (segment_sum l (take (k + 1) l.parts) p.segment)
  sum_goes s sum part new c before up e f q h =
      h ∙ rows_partly (nodes_of l.machine) (segment_sum l (take k l.parts) s) (λ n. part_words l n p) sum part c e f
      ∙ row_same (nodes_of l.machine) (λ n. (if c then segment_sum l (take k l.parts) s n else 0) + part_words l n p) (segment_sum l (take (k + 1) l.parts) p.segment)
      (λ n m.
      ap (λ (d : Bool). (if d then segment_sum l (take k l.parts) s n else 0) + part_words l n p) q
      ∙ sym (ap (λ (ps : List Part). segment_sum l ps p.segment n) with_part ∙ segment_goes l n (take k l.parts) p s before up))

  pub most_goes : (most sum new : List ℕ) → most ≡ row_of (nodes_of l.machine) (most_of_segments l (take k l.parts)) → sum ≡ row_of (nodes_of l.machine) (segment_sum l (take (k + 1) l.parts) p.segment)
      → new ≡ map (λ n. max (slice_index most n) (slice_index sum n)) (below (length most)) → new ≡ row_of (nodes_of l.machine) (most_of_segments l (take (k + 1) l.parts))
  most_goes most sum new e f h =
      h ∙ rows_greater (nodes_of l.machine) (most_of_segments l (take k l.parts)) (segment_sum l (take (k + 1) l.parts) p.segment) most sum e f
      ∙ row_same (nodes_of l.machine) (λ n. max (most_of_segments l (take k l.parts) n) (segment_sum l (take (k + 1) l.parts) p.segment n)) (most_of_segments l (take (k + 1) l.parts))
      (λ n m.
      ap (λ (ps : List Part). max (most_of_segments l (take k l.parts) n) (segment_sum l ps p.segment n)) with_part
      ∙ sym (ap (λ (ps : List Part). most_of_segments l ps n) with_part ∙ most_more l n (take k l.parts) p))

  module _ (s : ℕ) (after : (j : ℕ) → k ≤ j → j < length l.parts → s ≤ slice_index (map (λ (q : Part). q.segment) l.parts) j) where
    -- it is not before the last one
    pub segment_up : s ≤ p.segment
    segment_up = subst (λ (i : ℕ). s ≤ i) segment_at (after k (omega arith) b)

    pub before_more : AllByRecursion (λ (q : Part). q.segment ≤ s) (take k l.parts) → AllByRecursion (λ (q : Part). q.segment ≤ p.segment) (take (k + 1) l.parts)
    before_more h =
        let up = segment_up in
        all_more (λ (q : Part). q.segment ≤ p.segment) l.parts k p b is (all_map (λ (q : Part). q.segment ≤ s) (λ (q : Part). q.segment ≤ p.segment) (λ q a. omega (arith, a, up)) (take k l.parts) h) (omega arith)

  pub after_more : IsSortedBy nat_lt (map (λ (q : Part). q.segment) l.parts) → (j : ℕ) → k + 1 ≤ j → j < length l.parts → p.segment ≤ slice_index (map (λ (q : Part). q.segment) l.parts) j
  after_more sorted j a c =
      subst (λ (i : ℕ). i ≤ slice_index (map (λ (q : Part). q.segment) l.parts) j) segment_at
      (never_falls (map (λ (q : Part). q.segment) l.parts) sorted k j (omega (arith, a)) (let m = length-map l.parts (λ (q : Part). q.segment) in omega (arith, m, c)))
