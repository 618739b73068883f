-- A box from corner to corner has every number below the product of the extents.
use Rattle.std.proofs.Common.{◌≡◌, ℕ, zero, suc, ◌+◌, ◌-◌, ◌*◌, ◌≤◌, List, [], ◌∷◌, ◌++◌, map, refl, ap, ◌∙◌, sym, arith}
use Rattle.std.specs.List.{flat_map}
use Rattle.dt_base.specs.Ranges.{below}
use Rattle.dt_base.specs.Rows.{product}
use Rattle.dt_runs.specs.Boxes.{box_numbers}
use Rattle.dt_runs.specs.Intervals.{ascending, range}
use Rattle.dt_runs.proofs.RangeLemmas.{range-append, range-one}
use Rattle.dt_runs.proofs.BoxLemmas.{inner_box, inner_box-ascending, inner_box-zero, range-none}

-- as many zeros as there are extents
abbrev pub zeros : List ℕ → List ℕ
zeros ns = map (λ n. 0) ns

same_range : (a b c d : ℕ) → a ≡ c → b ≡ d → range a b ≡ range c d
same_range a b c d h k = ap (λ x. range x b) h ∙ ap (λ x. range c x) k

-- slices that are ranges join to one range
slices_join : (start a m size : ℕ) (slice : ℕ → List ℕ) → ((outer : ℕ) → slice outer ≡ range (outer * size) ((outer + 1) * size))
    → flat_map (λ x. slice (start + x)) (ascending a m) ≡ range ((start + a) * size) ((start + a + m) * size)
slices_join start a zero size slice whole =
    sym (same_range ((start + a) * size) ((start + a + 0) * size) ((start + a) * size) ((start + a) * size) refl (omega arith) ∙ range-none ((start + a) * size))
slices_join start a (suc m) size slice whole =
    let begin = (start + a) * size in
    let middle = (start + a + 1) * size in
    let end = (start + suc a + m) * size in
    let up : begin ≤ middle = omega arith in
    let on : middle ≤ end = omega arith in
    ap (λ ks. ks ++ flat_map (λ x. slice (start + x)) (ascending (suc a) m)) (whole (start + a))
    ∙ ap (λ ks. range begin middle ++ ks) (slices_join start (suc a) m size slice whole ∙ same_range ((start + suc a) * size) end middle end (omega arith) refl)
    ∙ range-append begin middle end up on
    ∙ same_range begin end begin ((start + a + suc m) * size) refl (omega arith)

inner_box-whole : (ns : List ℕ) (outer : ℕ) → inner_box outer ns (zeros ns) ns ≡ range (outer * product ns) ((outer + 1) * product ns)
inner_box-whole [] outer =
    let first : outer * 1 + 0 ≡ outer = omega arith in
    ap (λ k. k ∷ []) first ∙ sym (range-one outer) ∙ same_range outer (outer + 1) (outer * 1) ((outer + 1) * 1) (omega arith) (omega arith)
inner_box-whole (n ∷ ns) outer =
    let size = product ns in
    inner_box-ascending outer n 0 (n - 0) ns (zeros ns) ns (omega arith)
    ∙ slices_join (outer * n) 0 (n - 0) size (λ x. inner_box x ns (zeros ns) ns) (inner_box-whole ns)
    ∙ same_range ((outer * n + 0) * size) ((outer * n + 0 + (n - 0)) * size) (outer * (n * size)) ((outer + 1) * (n * size)) (omega arith) (last n outer size)
  where
    last : (n outer size : ℕ) → (outer * n + 0 + (n - 0)) * size ≡ (outer + 1) * (n * size)
    last n outer size = let whole : n - 0 ≡ n = omega arith in rw whole (omega arith)

pub range-below : (n : ℕ) → range 0 n ≡ below n
range-below zero = refl
range-below (suc n) =
    let up : 0 ≤ n = omega arith in
    let on : n ≤ n + 1 = omega arith in
    let end : suc n ≡ n + 1 = omega arith in
    same_range 0 (suc n) 0 (n + 1) refl end ∙ sym (range-append 0 n (n + 1) up on)
    ∙ ap (λ ks. ks ++ range n (n + 1)) (range-below n) ∙ ap (λ ks. below n ++ ks) (range-one n)

pub box_numbers-whole : (ns : List ℕ) → box_numbers ns (zeros ns) ns ≡ below (product ns)
box_numbers-whole ns =
    sym (inner_box-zero ns (zeros ns) ns) ∙ inner_box-whole ns 0
    ∙ same_range (0 * product ns) ((0 + 1) * product ns) 0 (product ns) (omega arith) (omega arith) ∙ range-below (product ns)
