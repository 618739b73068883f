-- The schedule that a statement starts with adds what the statement means.
use Rattle.std.proofs.Common.{◌≡◌, ℕ, zero, suc, ◌+◌, ◌*◌, ◌<◌, ◌≤◌, ◌^◌, ◌%◌, Bool, true, false, ◌&&◌, List, [], ◌∷◌, ◌++◌, length, map, take, drop, Option, Some, None, refl, sym, ap, ◌∙◌, subst, arith, append_assoc, append-nil, length-append, zero-add, sum_by}
use Rattle.std.specs.Prelude.{if◌then◌else◌, nat_eq, nat_lt, slice_index, slice_get, unwrap_or, option_map, IsSome}
use Rattle.std.specs.List.{AllByRecursion}
use Rattle.std.specs.Str.{bytes_eq}
use Rattle.std.proofs.Math.Path.{fun_ext}
use Rattle.std.proofs.lemmas.Bool.{eqb-true, eqb-false, ne_eqb, ltb-true}
use Rattle.std.proofs.lemmas.List.{map-append, take_more}
use Rattle.std.proofs.lemmas.List.Sums.{sum_by-cons, sum_by_push}
use Rattle.dt_base.specs.Ranges.{below, assignments}
use Rattle.dt_base.specs.Rows.{product, row_major}
use Rattle.dt_base.proofs.Sums.{sum_by-assignments, sum_by-same}
use Rattle.dt_model.specs.WholeTensor.{WholeTensor}
use Rattle.dt_model.specs.Positions.{StoredTensor, tensor_at}
use Rattle.dt_model.specs.Stmts.{shapes_of}
use Rattle.dt_model.specs.Value.{factor_value, term_value, sign}
use Rattle.dt_model.specs.declared.stmt.Access.{Access}
use Rattle.dt_model.specs.declared.stmt.Factor.{Factor}
use Rattle.dt_model.specs.declared.stmt.Factor.TheVariants.{Read, Literal}
use Rattle.dt_model.specs.declared.stmt.Term.{Term}
use Rattle.dt_model.specs.declared.stmt.Stmt.{Stmt}
use Rattle.dt_nest.specs.declared.loops.Kernel.TheVariants.{Plain}
use Rattle.dt_nest.specs.Tree.{Tree, Leaf, read_accesses, accesses_of}
use Rattle.dt_nest.specs.Sums.{sum_below}
use Rattle.dt_nest.proofs.SumLaws.{sum_below_same, sum_below_zero}
use Rattle.dt_nest.specs.Meaning.{World, Env, Entries, bind, known, factor_of, term_of, terms_of, leaf_of, nest_sum}
use Rattle.dt_nest.specs.World.{world_of, entries_of, FitsAccess}
use Rattle.dt_nest.proofs.Inside.{length_shapes}
use Rattle.dt_nest.specs.Chain.{chain, stmt_schedule, IsSchedulable, MeansStmt}
use Rattle.dt_nest.proofs.ChainLawful.{accesses-chain}

-- a sum over a range, in both forms
pub sum_by-below : (n : ℕ) (f : ℕ → ℕ) → sum_by f (below n) ≡ sum_below n f
unfolding sum_below
sum_by-below zero f = refl
sum_by-below (suc n) f = sum_by_push f (below n) n ∙ ap (λ (a : ℕ). a + f n) (sum_by-below n f)

-- a test on the number picks it
pub sum_below-pick : (n y : ℕ) (f : ℕ → ℕ) → y < n → sum_below n (λ i. if nat_eq i y then f i else 0) ≡ f y
unfolding sum_below
sum_below-pick zero y f h = absurd (omega arith)
sum_below-pick (suc n) y f h = ends (nat_eq n y) (eqb-true n y) (eqb-false n y) (λ l. sum_below-pick n y f l)
  where
    ends : (b : Bool) → (b ≡ true → n ≡ y) → (b ≡ false → n ≡ y → ⊥) → ((y < n) → sum_below n (λ i. if nat_eq i y then f i else 0) ≡ f y) → sum_below n (λ i. if nat_eq i y then f i else 0) + (if b then f n else 0) ≡ f y
    ends true e ne r =
        let q = e refl in
        let z : sum_below n (λ i. if nat_eq i y then f i else 0) ≡ 0 = sum_below_zero n (λ i. if nat_eq i y then f i else 0) (λ i l. ap (λ t. if t then f i else 0) (ne_eqb i y (λ p. omega (arith, p, q, l)))) in
        let s = ap f q in omega (arith, z, s)
    ends false e ne r =
        let apart = ne refl in
        let l : y < n = omega (arith, apart) in
        let s = r l in omega (arith, s)

sum_by_zero : {A : Type 0} (xs : List A) → sum_by (λ (x : A). 0) xs ≡ 0
sum_by_zero [] = refl
sum_by_zero {A} (x ∷ xs) = omega (arith, sum_by-cons (λ (x : A). 0) x xs, sum_by_zero xs)

sum_by-plus : {A : Type 0} (f g : A → ℕ) (xs : List A) → sum_by (λ x. f x + g x) xs ≡ sum_by f xs + sum_by g xs
sum_by-plus f g [] = refl
sum_by-plus f g (x ∷ xs) = omega (arith, sum_by-cons (λ x. f x + g x) x xs, sum_by-cons f x xs, sum_by-cons g x xs, sum_by-plus f g xs)

sum_by-times : {A : Type 0} (k : ℕ) (f : A → ℕ) (xs : List A) → sum_by (λ x. k * f x) xs ≡ k * sum_by f xs
sum_by-times k f [] = omega arith
sum_by-times k f (x ∷ xs) =
    sum_by-cons (λ x. k * f x) x xs ∙ ap (λ (n : ℕ). k * f x + n) (sum_by-times k f xs) ∙ omega (arith, ap (λ (n : ℕ). k * n) (sum_by-cons f x xs))

-- sums over two lists, in either order, with a factor for each element of the second
pub sum_by-swap : {A B : Type 0} (k : B → ℕ) (f : A → B → ℕ) (xs : List A) (ys : List B) → sum_by (λ x. sum_by (λ y. k y * f x y) ys) xs ≡ sum_by (λ y. k y * sum_by (λ x. f x y) xs) ys
sum_by-swap k f xs [] = sum_by_zero xs
sum_by-swap k f xs (y ∷ ys) =
    sum_by-same (λ x. sum_by (λ y. k y * f x y) (y ∷ ys)) (λ x. k y * f x y + sum_by (λ y. k y * f x y) ys) xs (λ x. sum_by-cons (λ y. k y * f x y) y ys)
    ∙ sum_by-plus (λ x. k y * f x y) (λ x. sum_by (λ y. k y * f x y) ys) xs
    ∙ ap (λ (n : ℕ). n + sum_by (λ x. sum_by (λ y. k y * f x y) ys) xs) (sum_by-times (k y) (λ x. f x y) xs)
    ∙ ap (λ (n : ℕ). k y * sum_by (λ x. f x y) xs + n) (sum_by-swap k f xs ys)
    ∙ sym (sum_by-cons (λ y. k y * sum_by (λ x. f x y) xs) y ys)

index_last : (front : List ℕ) (i : ℕ) → slice_index (front ++ i ∷ []) (length front) ≡ i
index_last [] i = refl
index_last (x ∷ front) i = index_last front i

index_other : (front : List ℕ) (i u : ℕ) → (u ≡ length front → ⊥) → slice_index front u ≡ slice_index (front ++ i ∷ []) u
index_other [] i zero h = absurd (h refl)
index_other [] i (suc u) h = refl
index_other (x ∷ front) i zero h = refl
index_other (x ∷ front) i (suc u) h = index_other front i u (λ e. h (ap suc e))

-- one more loop is one more slot
bind_index : (front : List ℕ) (i u : ℕ) → bind (slice_index front) (length front) i u ≡ slice_index (front ++ i ∷ []) u
bind_index front i u = go (nat_eq u (length front)) (eqb-true u (length front)) (eqb-false u (length front))
  where
    go : (b : Bool) → (b ≡ true → u ≡ length front) → (b ≡ false → u ≡ length front → ⊥) → (if b then i else slice_index front u) ≡ slice_index (front ++ i ∷ []) u
    go true e ne = sym (ap (slice_index (front ++ i ∷ [])) (e refl) ∙ index_last front i)
    go false e ne = index_other front i u (ne refl)

-- the rest of a chain, at one value of its first loop
chain_step : (w : World) (x : Entries) (lhs : Access) (terms : List Term) (c : List ℕ) (h : List ℕ → ℕ) (front ns : List ℕ) (i : ℕ)
    → nest_sum w [] (chain (length (front ++ i ∷ [])) ns (Leaf lhs terms [] Plain)) x (λ u. u) (slice_index (front ++ i ∷ [])) c ≡ sum_by (λ a. h ((front ++ i ∷ []) ++ a)) (assignments ns)
    → nest_sum w [] (chain (suc (length front)) ns (Leaf lhs terms [] Plain)) x (λ u. u) (bind (slice_index front) (length front) i) c ≡ sum_by (λ a. h (front ++ i ∷ a)) (assignments ns)
chain_step w x lhs terms c h front ns i r =
    let more : length (front ++ i ∷ []) ≡ suc (length front) = length-append front (i ∷ []) ∙ omega arith in
    ap (λ (m : ℕ). nest_sum w [] (chain m ns (Leaf lhs terms [] Plain)) x (λ u. u) (bind (slice_index front) (length front) i) c) (sym more)
    ∙ ap (λ (env : Env). nest_sum w [] (chain (length (front ++ i ∷ [])) ns (Leaf lhs terms [] Plain)) x (λ u. u) env c) (fun_ext (bind_index front i))
    ∙ r
    ∙ sum_by-same (λ a. h ((front ++ i ∷ []) ++ a)) (λ a. h (front ++ i ∷ a)) (assignments ns) (λ a. ap h (append_assoc front (i ∷ []) a))

-- a chain around a leaf adds a sum over the assignments of its variables
pub chain_sum : (w : World) (x : Entries) (lhs : Access) (terms : List Term) (c : List ℕ) (h : List ℕ → ℕ) (total : ℕ) → ((a : List ℕ) → length a ≡ total → leaf_of w x (slice_index a) lhs terms [] c ≡ h a)
    → (front ns : List ℕ) → length front + length ns ≡ total
    → nest_sum w [] (chain (length front) ns (Leaf lhs terms [] Plain)) x (λ u. u) (slice_index front) c ≡ sum_by (λ a. h (front ++ a)) (assignments ns)
unfolding nest_sum known
chain_sum w x lhs terms c h total same front [] e =
    same front (omega arith) ∙ ap h (sym (append-nil front)) ∙ sym (zero-add (h (front ++ [])))
chain_sum w x lhs terms c h total same front (n ∷ ns) e =
    sum_below_same n _ (λ i. sum_by (λ a. h (front ++ i ∷ a)) (assignments ns))
    (λ i l. chain_step w x lhs terms c h front ns i (chain_sum w x lhs terms c h total same (front ++ i ∷ []) ns (omega (arith, length-append front (i ∷ [])))))
    ∙ sym (sum_by-below n (λ i. sum_by (λ a. h (front ++ i ∷ a)) (assignments ns)))
    ∙ sym (sum_by-assignments (λ a. h (front ++ a)) n ns)

-- the first variables have the first slots
map_below : (k : ℕ) (a : List ℕ) → k ≤ length a → map (slice_index a) (below k) ≡ take k a
map_below zero a h = refl
map_below (suc k) a h =
    let e : k + 1 ≡ suc k = omega arith in
    map-append (slice_index a) (below k) (k ∷ []) ∙ ap (λ (l : List ℕ). l ++ slice_index a k ∷ []) (map_below k a (omega arith)) ∙ sym (take_more a k 0 (omega arith)) ∙ ap (λ (m : ℕ). take m a) e

-- what is added at c where the first k variables have the numbers c
abbrev pub at_front : ℕ → List ℕ → (List ℕ → ℕ) → List ℕ → ℕ
at_front k c f a = if bytes_eq (take k a) c then f a else 0

test_and : (s : Bool) (t : List ℕ → Bool) (f : List ℕ → ℕ) (rows : List (List ℕ)) → sum_by (λ a. if s && t a then f a else 0) rows ≡ (if s then sum_by (λ a. if t a then f a else 0) rows else 0)
test_and true t f rows = refl
test_and false t f rows = sum_by_zero rows

row_rest : (n x : ℕ) (b : Bool) (r : Option ℕ) (k : ℕ → ℕ) → nat_lt x n ≡ b → IsSome (if b then option_map k r else None) → (x < n) × IsSome r
row_rest n x true None k e h = absurd (cc)
row_rest n x true (Some y) k e h = (ltb-true x n e, refl)
row_rest n x false r k e h = absurd (cc)

-- a test on the first variables picks the sum over the others
pub sum_by-front : (k : ℕ) (ns c : List ℕ) (f : List ℕ → ℕ) → k ≤ length ns → IsSome (row_major (take k ns) c) → sum_by (at_front k c f) (assignments ns) ≡ sum_by (λ a. f (c ++ a)) (assignments (drop (length c) ns))
sum_by-front zero ns [] f le h = refl
sum_by-front zero ns (x ∷ c) f le h = absurd (cc)
sum_by-front (suc k) [] c f le h = absurd (omega arith)
sum_by-front (suc k) (n ∷ ns) [] f le h = absurd (cc)
sum_by-front (suc k) (n ∷ ns) (x ∷ c) f le h =
    let r = row_rest n x (nat_lt x n) (row_major (take k ns) c) (λ j. x * product (take k ns) + j) refl h in
    sum_by-assignments (at_front (suc k) (x ∷ c) f) n ns
    ∙ sum_by-same (λ i. sum_by (λ a. at_front (suc k) (x ∷ c) f (i ∷ a)) (assignments ns)) (λ i. if nat_eq i x then sum_by (at_front k c (λ a. f (i ∷ a))) (assignments ns) else 0) (below n)
    (λ i. test_and (nat_eq i x) (λ a. bytes_eq (take k a) c) (λ a. f (i ∷ a)) (assignments ns))
    ∙ sum_by-below n (λ i. if nat_eq i x then sum_by (at_front k c (λ a. f (i ∷ a))) (assignments ns) else 0)
    ∙ sum_below-pick n x (λ i. sum_by (at_front k c (λ a. f (i ∷ a))) (assignments ns)) r.0
    ∙ sum_by-front k ns c (λ a. f (x ∷ a)) (omega arith) r.1

factor_same : (tensors : List WholeTensor) (e : List ℕ) (f : Factor) → factor_of (entries_of tensors) (slice_index e) f ≡ factor_value tensors e f
factor_same tensors e (Read a) = refl
factor_same tensors e (Literal n) = refl

-- the terms at an assignment are those of the statement
pub terms_same : (tensors : List WholeTensor) (e : List ℕ) (terms : List Term) → terms_of (entries_of tensors) (slice_index e) terms ≡ sum_by (λ t. sign t.minus * term_value tensors e t.factors) terms
terms_same tensors e terms = sum_by-same (term_of (entries_of tensors) (slice_index e)) (λ t. sign t.minus * term_value tensors e t.factors) terms
    (λ t. ap (λ (g : Factor → ℕ). sign t.minus * product (map g t.factors)) (fun_ext (factor_same tensors e)))

-- what a chain adds at an index is the signed sum of the terms' sums
pub chain_means : (w : World) (tensors : List WholeTensor) (lhs : Access) (terms : List Term) (extents c : List ℕ) → lhs.vars ≡ below (length lhs.vars) → length lhs.vars ≤ length extents → IsSome (row_major (take (length lhs.vars) extents) c)
    → nest_sum w [] (chain 0 extents (Leaf lhs terms [] Plain)) (entries_of tensors) (λ u. u) (λ u. 0) c ≡ sum_by (λ t. sign t.minus * sum_by (λ a. term_value tensors (c ++ a) t.factors) (assignments (drop (length c) extents))) terms
chain_means w tensors lhs terms extents c left le inside =
    let x = entries_of tensors in
    let k = length lhs.vars in
    let f : List ℕ → ℕ = λ a. terms_of x (slice_index a) terms in
    ap (λ (env : Env). nest_sum w [] (chain 0 extents (Leaf lhs terms [] Plain)) x (λ u. u) env c) (fun_ext (λ u. refl))
    ∙ chain_sum w x lhs terms c (at_front k c f) (length extents)
    (λ a e. ap (λ (l : List ℕ). if bytes_eq l c then f a else 0) (ap (map (slice_index a)) left ∙ map_below k a (omega (arith, e))))
    [] extents (omega arith)
    ∙ sum_by-front k extents c f le inside
    ∙ sum_by-same (λ a. f (c ++ a)) (λ a. sum_by (λ t. sign t.minus * term_value tensors (c ++ a) t.factors) terms) (assignments (drop (length c) extents)) (λ a. terms_same tensors (c ++ a) terms)
    ∙ sum_by-swap (λ (t : Term). sign t.minus) (λ a t. term_value tensors (c ++ a) t.factors) (assignments (drop (length c) extents)) terms

all_last : (P : ℕ → Type 0) (xs : List ℕ) (y : ℕ) → AllByRecursion P (xs ++ y ∷ []) → P y
all_last P [] y h = h.0
all_last P (x ∷ xs) y h = all_last P xs y h.1

-- where the numbers below k are below n, k is at most n
all_below : (k n : ℕ) → AllByRecursion (λ u. u < n) (below k) → k ≤ n
all_below zero n h = omega arith
all_below (suc k) n h = let l : k < n = all_last (λ u. u < n) (below k) k h in omega arith

extents_get : (stored : List StoredTensor) (t : ℕ) → t < length stored → slice_get (map (λ (x : StoredTensor). x.extents) stored) t ≡ Some (tensor_at stored t).extents
extents_get [] t h = absurd (omega arith)
extents_get (x ∷ stored) zero h = refl
extents_get (x ∷ stored) (suc t) h = extents_get stored t (omega arith)

pub stmt_means : (s : Stmt) (vars names : List (List ℕ)) → IsSchedulable s vars names → MeansStmt s (stmt_schedule s vars names)
unfolding stmt_schedule
stmt_means s vars names h stored tensors c fits index =
    let k = length s.lhs.vars in
    let le : k ≤ length s.extents = all_below k (length s.extents) (subst (λ (l : List ℕ). AllByRecursion (λ u. u < length s.extents) l) h.left h.accesses.0.2) in
    let all : AllByRecursion (λ a. FitsAccess stored (stmt_schedule s vars names) a.tensor a.vars) (s.lhs ∷ read_accesses s.terms) =
    subst (λ (l : List Access). AllByRecursion (λ a. FitsAccess stored (stmt_schedule s vars names) a.tensor a.vars) l) (accesses-chain 0 s.extents (Leaf s.lhs s.terms [] Plain)) fits.accesses in
    let dims : (tensor_at stored s.lhs.tensor).extents ≡ take k s.extents = all.0 h.accesses.0.0 ∙ ap (map (slice_index s.extents)) h.left ∙ map_below k s.extents le in
    let exists : s.lhs.tensor < length stored = omega (arith, h.accesses.0.0, length_shapes stored tensors fits.shapes, fits.count) in
    let shape : slice_get (shapes_of tensors) s.lhs.tensor ≡ Some (take k s.extents) = ap (λ (l : List (List ℕ)). slice_get l s.lhs.tensor) (sym fits.shapes) ∙ extents_get stored s.lhs.tensor exists ∙ ap Some dims in
    let inside : IsSome (row_major (take k s.extents) c) = subst (λ (o : Option (List ℕ)). IsSome (row_major (unwrap_or o []) c)) shape index in
    ap (λ (n : ℕ). n % 2 ^ 64) (chain_means (world_of stored (stmt_schedule s vars names)) tensors s.lhs s.terms s.extents c h.left le inside)
