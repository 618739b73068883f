-- The sum of a term over the variables, one after another, and signed terms, modulo 2 ^ 64.
use Rattle.std.proofs.Common.{◌≡◌, ℕ, zero, suc, ◌+◌, ◌*◌, ◌-◌, ◌^◌, ◌%◌, ◌<◌, ◌≤◌, List, [], ◌∷◌, ◌++◌, length, take, drop, get_or, ap, sym, ◌∙◌, arith, sum_by, append_assoc, append-nil, zero-add, mul-zero, add-one}
use Rattle.std.proofs.lemmas.List.Sums.{sum_by_push}
use Rattle.std.proofs.Math.Seq.{drop-cons}
use Rattle.std.proofs.Math.ListN.{set}
use Rattle.std.proofs.lemmas.List.{take_more, take_more_set, take_all, drop_all, take_at, length-take, take-take}
use Rattle.std.proofs.lemmas.Nat.{mul-mod_second}
use Rattle.std.proofs.Math.Nat.{mod-add-mod, add-mod-mod, add-mul-mod_self_right}
use Rattle.dt_base.specs.Ranges.{below, assignments}
use Rattle.dt_base.proofs.Sums.{sum_by-assignments, sum_by-same, sum_more}
use Rattle.dt_model.specs.WholeTensor.{WholeTensor}
use Rattle.dt_model.specs.Value.{term_sum, term_value, sign}
use Rattle.dt_model.specs.declared.stmt.Factor.{Factor}
use Rattle.dt_model.specs.declared.stmt.Term.{Term}

-- a sum over assignments is a sum over the first variable's numbers of sums over the others
pub term_sum-first : (ts : List WholeTensor) (n : ℕ) (ns c : List ℕ) (fs : List Factor)
    → term_sum ts (n ∷ ns) c fs ≡ sum_by (λ i. term_sum ts ns (c ++ i ∷ []) fs) (below n)
term_sum-first ts n ns c fs =
    sum_by-assignments (λ a. term_value ts (c ++ a) fs) n ns
    ∙ sum_by-same (λ i. sum_by (λ a. term_value ts (c ++ i ∷ a) fs) (assignments ns)) (λ i. term_sum ts ns (c ++ i ∷ []) fs) (below n)
    (λ i. sum_by-same (λ a. term_value ts (c ++ i ∷ a) fs) (λ a. term_value ts ((c ++ i ∷ []) ++ a) fs) (assignments ns)
    (λ a. ap (λ (e : List ℕ). term_value ts e fs) (sym (append_assoc c (i ∷ []) a))))

-- without a reduction variable left there is one assignment
pub term_sum-none : (ts : List WholeTensor) (c : List ℕ) (fs : List Factor) → term_sum ts [] c fs ≡ term_value ts c fs
term_sum-none ts c fs = zero-add (term_value ts (c ++ []) fs) ∙ ap (λ (e : List ℕ). term_value ts e fs) (append-nil c)

-- the recursion over the variables: its end, one number of a variable, and all of them
pub sum_end : (ts : List WholeTensor) (extents env : List ℕ) (fs : List Factor) (at r : ℕ) → length extents ≤ at → length env ≡ length extents
    → r ≡ term_value ts env fs % 2 ^ 64 → r ≡ term_sum ts (drop at extents) (take at env) fs % 2 ^ 64
sum_end ts extents env fs at r h k e =
    let rest : drop at extents ≡ [] = drop_all at extents h in
    let whole : take at env ≡ env = take_all at env (omega arith) in
    rw (rest, whole, term_sum-none ts env fs) e

pub sum_step : (ts : List WholeTensor) (extents env start : List ℕ) (fs : List Factor) (at i s r : ℕ) → at < length env → take at env ≡ take at start
    → s ≡ sum_by (λ i. term_sum ts (drop (at + 1) extents) (take at start ++ i ∷ []) fs) (below i) % 2 ^ 64
    → r ≡ term_sum ts (drop (at + 1) extents) (take (at + 1) (set env at i)) fs % 2 ^ 64
    → (s + r) % 2 ^ 64 ≡ sum_by (λ i. term_sum ts (drop (at + 1) extents) (take at start ++ i ∷ []) fs) (below (i + 1)) % 2 ^ 64
sum_step ts extents env start fs at i s r h k e q =
    let front : take (at + 1) (set env at i) ≡ take at start ++ i ∷ [] = take_more_set env at i h ∙ ap (λ (f : List ℕ). f ++ i ∷ []) k in
    let part : r ≡ term_sum ts (drop (at + 1) extents) (take at start ++ i ∷ []) fs % 2 ^ 64 = q ∙ ap (λ (f : List ℕ). term_sum ts (drop (at + 1) extents) f fs % 2 ^ 64) front in
    sum_more (λ i. term_sum ts (drop (at + 1) extents) (take at start ++ i ∷ []) fs) i s r e part

pub kept_step : (env after start : List ℕ) (at i : ℕ) → at < length env → take (at + 1) after ≡ take (at + 1) (set env at i) → take at env ≡ take at start → take at after ≡ take at start
kept_step env after start at i h e k =
    sym (take-take at (at + 1) after (omega arith)) ∙ ap (λ (f : List ℕ). take at f) (e ∙ take_more_set env at i h)
    ∙ take_at (take at env) (i ∷ []) at (omega (arith, length-take {A = ℕ})) ∙ k

pub sum_all : (ts : List WholeTensor) (extents start : List ℕ) (fs : List Factor) (at i s : ℕ) → at < length extents → i ≡ get_or extents at 0
    → s ≡ sum_by (λ i. term_sum ts (drop (at + 1) extents) (take at start ++ i ∷ []) fs) (below i) % 2 ^ 64
    → s ≡ term_sum ts (drop at extents) (take at start) fs % 2 ^ 64
sum_all ts extents start fs at i s h e q =
    let opened : drop at extents ≡ i ∷ drop (at + 1) extents = rw (add-one, e) (drop-cons extents at 0 h) in
    rw (opened, term_sum-first ts i (drop (at + 1) extents) (take at start) fs) q

-- one more signed term
pub signed_more : (f : Term → ℕ) (terms : List Term) (i : ℕ) (t : Term) (s x y : ℕ) → i < length terms → t ≡ get_or terms i t
    → s ≡ sum_by (λ t. sign t.minus * f t) (take i terms) % 2 ^ 64 → x ≡ f t % 2 ^ 64 → y ≡ sign t.minus * x → (s + y) % 2 ^ 64 ≡ sum_by (λ t. sign t.minus * f t) (take (i + 1) terms) % 2 ^ 64
signed_more f terms i t s x y h item e q r =
    let whole : take (i + 1) terms ≡ take i terms ++ t ∷ [] = take_more terms i t h ∙ ap (λ z. take i terms ++ z ∷ []) (sym item) in
    rw (whole, sum_by_push (λ t. sign t.minus * f t) (take i terms) t, r, q, e)
    (mod-add-mod (sum_by (λ t. sign t.minus * f t) (take i terms)) (2 ^ 64) (sign t.minus * (f t % 2 ^ 64))
    ∙ sym (add-mod-mod (sum_by (λ t. sign t.minus * f t) (take i terms)) (sign t.minus * (f t % 2 ^ 64)) (2 ^ 64))
    ∙ ap (λ (n : ℕ). (sum_by (λ t. sign t.minus * f t) (take i terms) + n) % 2 ^ 64) (mul-mod_second (sign t.minus) (f t) (2 ^ 64))
    ∙ add-mod-mod (sum_by (λ t. sign t.minus * f t) (take i terms)) (sign t.minus * f t) (2 ^ 64))

-- less x is more by the number that stands for -x
pub minus_is : (s x : ℕ) → x < 2 ^ 64 → (s + (2 ^ 64 - x)) % 2 ^ 64 ≡ (s + (2 ^ 64 - 1) * x) % 2 ^ 64
minus_is s zero h = rw mul-zero (omega arith)
minus_is s (suc y) h =
    let e : s + (2 ^ 64 - 1) * suc y ≡ (s + (2 ^ 64 - suc y)) + y * 2 ^ 64 = omega arith in
    rw e (sym (add-mul-mod_self_right (s + (2 ^ 64 - suc y)) y (2 ^ 64)))
