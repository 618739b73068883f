-- Row-major numbers modulo 2 ^ 64, and the words of workspaces.
use Rattle.std.proofs.Common.{◌≡◌, ℕ, zero, suc, ◌+◌, ◌*◌, ◌-◌, ◌%◌, ◌^◌, ◌<◌, ◌≤◌, Bool, true, false, List, [], ◌∷◌, length, get_or, Option, Some, None, option_map, slice_get, refl, sym, ap, ◌∙◌, subst, arith, if◌then◌else◌, nat_lt}
use Rattle.std.specs.Option.{option_and_then}
use Rattle.std.proofs.Math.Nat.{add-mod, mod-eq_of_lt}
use Rattle.std.proofs.lemmas.Nat.{mul-mod_first}
use Rattle.std.proofs.lemmas.Bool.{ltb-true}
use Rattle.std.proofs.lemmas.Option.{slice_get-get_or}
use Rattle.dt_base.specs.Rows.{product, row_major}
use Rattle.dt_base.proofs.Rows.{row_major-below}
use Rattle.dt_model.specs.Positions.{StoredTensor, place_in, tensor_at}
use Rattle.dt_nest.specs.declared.parts.Work.{Work}
use Rattle.dt_nest.specs.Schedule.{Schedule}
use Rattle.dt_nest.specs.Unit.{word_of}

-- a factor counts modulo 2 ^ 64
mul_second : (a b m : ℕ) → (a * (b % m)) % m ≡ (a * b) % m
mul_second a b m =
    let turned : (q : ℕ) → a * q ≡ q * a = λ q. omega arith in
    ap (λ (z : ℕ). z % m) (turned (b % m)) ∙ mul-mod_first b a m ∙ ap (λ (z : ℕ). z % m) (sym (turned b))

-- the product with one extent more
pub size_more : (n s : ℕ) (ns whole : List ℕ) → whole ≡ n ∷ ns → s ≡ product ns % 2 ^ 64 → (n * s) % 2 ^ 64 ≡ product whole % 2 ^ 64
size_more n s ns whole e q = ap (λ (z : ℕ). (n * z) % 2 ^ 64) q ∙ mul_second n (product ns) (2 ^ 64) ∙ ap (λ (l : List ℕ). product l % 2 ^ 64) (sym e)

-- the number with one coordinate more
pub number_more : (n x s : ℕ) (o : Option ℕ) (ns xs whole cs : List ℕ) → whole ≡ n ∷ ns → cs ≡ x ∷ xs → o ≡ option_map (λ k. k % 2 ^ 64) (row_major ns xs) → s ≡ product ns % 2 ^ 64
    → option_map (λ k. ((x * s) % 2 ^ 64 + k) % 2 ^ 64) (if nat_lt x n then o else None) ≡ option_map (λ k. k % 2 ^ 64) (row_major whole cs)
number_more n x s o ns xs whole cs e f g q = rw (e, f, g, q) (go (nat_lt x n) (row_major ns xs))
  where
    sum : (k : ℕ) → ((x * (product ns % 2 ^ 64)) % 2 ^ 64 + k % 2 ^ 64) % 2 ^ 64 ≡ (x * product ns + k) % 2 ^ 64
    sum k = ap (λ (z : ℕ). (z + k % 2 ^ 64) % 2 ^ 64) (mul_second x (product ns) (2 ^ 64)) ∙ sym (add-mod (x * product ns) k (2 ^ 64))

    go : (b : Bool) (r : Option ℕ) → option_map (λ k. ((x * (product ns % 2 ^ 64)) % 2 ^ 64 + k) % 2 ^ 64) (if b then option_map (λ k. k % 2 ^ 64) r else None)
        ≡ option_map (λ k. k % 2 ^ 64) (if b then option_map (λ k. x * product ns + k) r else None)
    go true None = refl
    go true (Some k) = ap (λ (z : ℕ). Some z) (sum k)
    go false r = refl

-- the number of a small workspace
pub number_fits : (ns xs : List ℕ) (n : ℕ) → product ns ≤ 1048576 → Some n ≡ option_map (λ k. k % 2 ^ 64) (row_major ns xs) → (n < 1048576) × (Some n ≡ row_major ns xs)
number_fits ns xs n small e = go (row_major ns xs) refl e
  where
    go : (r : Option ℕ) → row_major ns xs ≡ r → Some n ≡ option_map (λ k. k % 2 ^ 64) r → (n < 1048576) × (Some n ≡ r)
    go None f e = absurd (cc)
    go (Some k) f e =
        let l : k < product ns = row_major-below ns xs k f in
        let same : k % 2 ^ 64 ≡ k = mod-eq_of_lt (omega (arith, l, small)) in
        let it : n ≡ k % 2 ^ 64 = cc in
        (omega (arith, l, small, same, it), ap (λ (z : ℕ). Some z) (it ∙ same))

-- the word of a workspace
pub in_work : (stored : List StoredTensor) (s : Schedule) (t : ℕ) (c : List ℕ) (o : Option Work) → length s.tensors ≤ t → slice_get s.works (t - length s.tensors) ≡ o → word_of stored s t c ≡ option_and_then (λ (w : Work). row_major w.extents c) o
in_work stored s t c o l e = go (nat_lt t (length s.tensors)) (ltb-true t (length s.tensors)) ∙ ap (option_and_then (λ (w : Work). row_major w.extents c)) e
  where
    go : (b : Bool) → (b ≡ true → t < length s.tensors) → (if b then place_in (tensor_at stored t) c else option_and_then (λ (w : Work). row_major w.extents c) (slice_get s.works (t - length s.tensors)))
        ≡ option_and_then (λ (w : Work). row_major w.extents c) (slice_get s.works (t - length s.tensors))
    go true h = (let i = h refl in absurd (omega (arith, i, l)))
    go false h = refl

get_past : {X : Type 0} (xs : List X) (i : ℕ) → length xs ≤ i → slice_get xs i ≡ None
get_past [] i h = refl
get_past (x ∷ xs) zero h = absurd (omega (arith, h))
get_past (x ∷ xs) (suc i) h = get_past xs i (omega (arith, h))

-- past the last workspace there is no word
pub none_word : (stored : List StoredTensor) (s : Schedule) (t n : ℕ) (c : List ℕ) (works : List Work) → n ≡ length s.tensors → works ≡ s.works → n ≤ t → length works ≤ t - n → None ≡ word_of stored s t c
none_word stored s t n c works e f l k =
    let there : slice_get s.works (t - length s.tensors) ≡ None = subst (λ (m : ℕ). slice_get s.works (t - m) ≡ None) e (subst (λ (ws : List Work). slice_get ws (t - n) ≡ None) f (get_past works (t - n) k)) in
    sym (in_work stored s t c None (omega (arith, e, l)) there)

-- in a workspace it is the row-major number
pub some_word : (stored : List StoredTensor) (s : Schedule) (t n : ℕ) (c : List ℕ) (works : List Work) (w : Work) (r : Option ℕ) → n ≡ length s.tensors → works ≡ s.works → n ≤ t → t - n < length works → w ≡ get_or works (t - n) w
    → r ≡ row_major w.extents c → r ≡ word_of stored s t c
some_word stored s t n c works w r e f l k q h =
    let item : slice_get works (t - n) ≡ Some w = slice_get-get_or works (t - n) w k ∙ ap (λ (z : Work). Some z) (sym q) in
    let there : slice_get s.works (t - length s.tensors) ≡ Some w = subst (λ (m : ℕ). slice_get s.works (t - m) ≡ Some w) e (subst (λ (ws : List Work). slice_get ws (t - n) ≡ Some w) f item) in
    h ∙ sym (in_work stored s t c (Some w) (omega (arith, e, l)) there)
