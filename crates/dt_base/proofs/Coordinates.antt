-- The coordinates at a row-major number, by division.
use Rattle.std.proofs.Common.{◌≡◌, ℕ, zero, suc, ◌+◌, ◌-◌, replicate, ◌*◌, ◌/◌, ◌%◌, ◌<◌, ◌≤◌, List, [], ◌∷◌, ◌++◌, length, get_or, take, drop, ap, sym, ◌∙◌, subst, arith, append_assoc, append-nil}
use Rattle.std.proofs.Math.ListN.{set}
use Rattle.std.proofs.lemmas.List.{drop-drop, drop-replicate, drop-set-lt, drop_more, drop_all, take_more_set}
use Rattle.std.proofs.lemmas.Nat.{div-mul-add}
use Rattle.dt_base.specs.Ranges.{assignments}
use Rattle.dt_base.specs.Rows.{product}
use Rattle.dt_base.proofs.Assignments.{assignments-split}

positive_left : (n p k : ℕ) → k < n * p → 0 < n
positive_left zero p k h = absurd (omega arith)
positive_left (suc n) p k h = omega arith

positive_right : (n p k : ℕ) → k < n * p → 0 < p
positive_right n zero k h = absurd (omega arith)
positive_right n (suc p) k h = omega arith

divided : (n p : ℕ) → 0 < n → n * p / n ≡ p
divided n p h = ap (λ (k : ℕ). k / n) (let e : n * p ≡ p * n + 0 = omega arith in e) ∙ div-mul-add p n 0 h

-- the size of the later extents, by a loop's step
pub record Sizes (ns : List ℕ) (i size : ℕ) : Type 0 where
  pub some : 0 < get_or ns i 0
  pub next : size / get_or ns i 0 ≡ product (drop (i + 1) ns)
  pub left : 0 < size / get_or ns i 0

pub sizes : (ns : List ℕ) (i size rest : ℕ) → i < length ns → size ≡ product (drop i ns) → rest < size → Sizes ns i size
sizes ns i size rest h e lt =
    let whole : size ≡ get_or ns i 0 * product (drop (i + 1) ns) = e ∙ ap product (drop_more ns i 0 h) in
    let room : rest < get_or ns i 0 * product (drop (i + 1) ns) = omega arith in
    let some : 0 < get_or ns i 0 = positive_left (get_or ns i 0) (product (drop (i + 1) ns)) rest room in
    let next : size / get_or ns i 0 ≡ product (drop (i + 1) ns) = ap (λ (s : ℕ). s / get_or ns i 0) whole ∙ divided (get_or ns i 0) (product (drop (i + 1) ns)) some in
    record { some = some; next = next; left = omega (arith, positive_right (get_or ns i 0) (product (drop (i + 1) ns)) rest room) }

-- one more coordinate
pub coordinate_more : (ns all whole : List ℕ) (i size rest : ℕ) → i < length ns → i < length all → size ≡ product (drop (i + 1) ns) → rest < product (drop i ns)
    → take i all ++ get_or (assignments (drop i ns)) rest [] ≡ whole
    → (rest % size < size) × (take (i + 1) (set all i (rest / size)) ++ get_or (assignments (drop (i + 1) ns)) (rest % size) [] ≡ whole)
coordinate_more ns all whole i size rest h room e lt same =
    let opened : drop i ns ≡ get_or ns i 0 ∷ drop (i + 1) ns = drop_more ns i 0 h in
    let within : rest < get_or ns i 0 * product (drop (i + 1) ns) = subst (λ (l : List ℕ). rest < product l) opened lt in
    let parts : (rest / product (drop (i + 1) ns) < get_or ns i 0) × (rest % product (drop (i + 1) ns) < product (drop (i + 1) ns))
    × (get_or (assignments (get_or ns i 0 ∷ drop (i + 1) ns)) rest [] ≡ (rest / product (drop (i + 1) ns)) ∷ get_or (assignments (drop (i + 1) ns)) (rest % product (drop (i + 1) ns)) [])
    = assignments-split (get_or ns i 0) (drop (i + 1) ns) rest within in
    let split : get_or (assignments (drop i ns)) rest [] ≡ (rest / size) ∷ get_or (assignments (drop (i + 1) ns)) (rest % size) []
    = ap (λ (l : List ℕ). get_or (assignments l) rest []) opened ∙ parts.2
    ∙ ap (λ (s : ℕ). (rest / s) ∷ get_or (assignments (drop (i + 1) ns)) (rest % s) []) (sym e) in (
      subst (λ (s : ℕ). rest % s < s) (sym e) parts.1,
      ap (λ (l : List ℕ). l ++ get_or (assignments (drop (i + 1) ns)) (rest % size) []) (take_more_set all i (rest / size) room)
          ∙ append_assoc (take i all) ((rest / size) ∷ []) (get_or (assignments (drop (i + 1) ns)) (rest % size) [])
          ∙ ap (λ (l : List ℕ). take i all ++ l) (sym split)
          ∙ same,
    )

-- all coordinates
pub coordinates_all : (ns all whole : List ℕ) (i rest : ℕ) → length ns ≤ i → rest < product (drop i ns) → take i all ++ get_or (assignments (drop i ns)) rest [] ≡ whole → take i all ≡ whole
coordinates_all ns all whole i rest h lt same =
    let none : drop i ns ≡ [] = drop_all i ns h in
    let few : rest < 1 = subst (λ (l : List ℕ). rest < product l) none lt in
    let first : rest ≡ 0 = omega arith in
    sym (append-nil (take i all))
    ∙ ap (λ (l : List ℕ). take i all ++ l) (sym (ap (λ (l : List ℕ). get_or (assignments l) rest []) none ∙ ap (λ (k : ℕ). get_or (assignments []) k []) first))
    ∙ same

-- the zeros behind one more coordinate
pub zeros_more : (all : List ℕ) (i x : ℕ) → i < 6 → length all ≡ 6 → drop i all ≡ replicate (6 - i) 0 → drop (i + 1) (set all i x) ≡ replicate (6 - (i + 1)) 0
zeros_more all i x h room same =
    drop-set-lt (i + 1) all i x (omega arith) ∙ sym (drop-drop 1 i all) ∙ ap (λ (l : List ℕ). drop 1 l) same ∙ drop-replicate 1 (6 - i) 0
    ∙ ap (λ (n : ℕ). replicate n 0) (omega arith)
