-- Lists of names: which names they have, without repeats, and at which places.
use Rattle.std.proofs.Common.{◌≡◌, ℕ, zero, suc, ◌+◌, ◌<◌, ◌≤◌, take, List, [], ◌∷◌, ◌++◌, length, get_or, map, refl, ap, sym, ◌∙◌, subst, arith, Bool, true, false, cond, not, ◌||◌, All, Option, Some, None, nat_eq, nat_le, inl, inr, length-append, slice_index}
use Rattle.std.specs.Prelude.{filter, find, count_by}
use Rattle.std.specs.List.{AllByRecursion, IsDistinct, list_any, position_or_len}
use Rattle.std.specs.Str.{bytes_eq}
use Rattle.std.proofs.lemmas.Bool.{or_parts, lt-ltb, leb-false, cases_lt}
use Rattle.std.proofs.Math.Bool.{or-true}
use Rattle.std.proofs.lemmas.Bool.Decides.{nat_tests}
use Rattle.std.proofs.lemmas.List.{append-nil, append_assoc, take_more, length-map, get_or-map, same_lists, get_or_append_left, get_or_at}
use Rattle.std.proofs.lemmas.List.Elements.{filter-append, All-head, All-tail}
use Rattle.std.proofs.lemmas.List.Folds.{list_any_at, list_any-append}
use Rattle.std.proofs.lemmas.List.Sums.{sum_by-cons}
use Rattle.std.proofs.lemmas.Map.Keys.{IsDistinct-cons}
use Rattle.dt_base.specs.Ranges.{below}
use Rattle.dt_base.proofs.Firsts.{bytes_eq-is, bytes_eq-same, bytes_eq-swap}
use Rattle.dt_base.proofs.Ranges.{length-below, get_or-below}
use Rattle.dt_index.specs.NameSets.{with_name}
use Rattle.dt_index.specs.Resolve.{distinct, number_in}

-- whether the list has the name
abbrev pub has : List (List ℕ) → List ℕ → Bool
has names v = list_any (λ w. bytes_eq w v) names

-- the place of a name
abbrev pub place : List (List ℕ) → List ℕ → ℕ
place names v = position_or_len (λ w. bytes_eq w v) names

-- the list without a name
abbrev pub without : List ℕ → List (List ℕ) → List (List ℕ)
without x names = filter (λ w. not (bytes_eq w x)) names

-- no name stands twice
abbrev pub Differ : List (List ℕ) → Type 0
Differ [] = Unit {0}
Differ (x ∷ xs) = (has xs x ≡ false) × Differ xs

kept_step : (x v y : List ℕ) (ys kept : List (List ℕ)) (b : Bool) → bytes_eq y x ≡ b → bytes_eq x v ≡ false
    → has kept v ≡ has ys v → has (cond (not b) (y ∷ kept) kept) v ≡ (bytes_eq y v || has ys v)
kept_step x v y ys kept true t d ih =
    let gone : bytes_eq y v ≡ false = ap (λ (z : List ℕ). bytes_eq z v) (bytes_eq-is y x t) ∙ d in
    rw gone ih
kept_step x v y ys kept false t d ih = ap (λ (z : Bool). bytes_eq y v || z) ih

-- a list without one name has the other names as before
pub has-without : (x v : List ℕ) (ys : List (List ℕ)) → bytes_eq x v ≡ false → has (without x ys) v ≡ has ys v
has-without x v [] d = refl
has-without x v (y ∷ ys) d = kept_step x v y ys (without x ys) (bytes_eq y x) refl d (has-without x v ys d)

distinct_step : (x v : List ℕ) (xs : List (List ℕ)) (b : Bool) → bytes_eq x v ≡ b → has (distinct xs) v ≡ has xs v → (b || has (without x (distinct xs)) v) ≡ (b || has xs v)
distinct_step x v xs true t ih = refl
distinct_step x v xs false t ih = has-without x v (distinct xs) t ∙ ih

-- without repeats a list has the same names
pub has-distinct : (xs : List (List ℕ)) (v : List ℕ) → has (distinct xs) v ≡ has xs v
has-distinct [] v = refl
has-distinct (x ∷ xs) v = distinct_step x v xs (bytes_eq x v) refl (has-distinct xs v)

pushed_step : (x v : List ℕ) (d : List (List ℕ)) (e b : Bool) → bytes_eq v x ≡ e
    → x ∷ without x (cond b d (d ++ v ∷ [])) ≡ cond (e || b) (x ∷ without x d) ((x ∷ without x d) ++ v ∷ [])
pushed_step x v d true true t = refl
pushed_step x v d true false t = rw (filter-append, t) (ap (λ (z : List (List ℕ)). x ∷ z) (append-nil (without x d)))
pushed_step x v d false true t = refl
pushed_step x v d false false t = rw (filter-append, t) refl

-- one more name, which counts only where it is new
pub distinct-push : (xs : List (List ℕ)) (v : List ℕ) → distinct (xs ++ v ∷ []) ≡ cond (has xs v) (distinct xs) (distinct xs ++ v ∷ [])
distinct-push [] v = refl
distinct-push (x ∷ xs) v =
    ap (λ (z : List (List ℕ)). x ∷ without x z) (distinct-push xs v) ∙ pushed_step x v (distinct xs) (bytes_eq x v) (has xs v) (bytes_eq-swap v x)

place_step : (x v : List ℕ) (xs : List (List ℕ)) (b : Bool) → (has xs v ≡ true → place xs v < length xs) → (b || has xs v) ≡ true → cond (not b) (1 + place xs v) 0 < length (x ∷ xs)
place_step x v xs true ih h = omega arith
place_step x v xs false ih h = omega (arith, ih h)

-- a name of the list has a place in it
pub place-inside : (xs : List (List ℕ)) (v : List ℕ) → has xs v ≡ true → place xs v < length xs
place-inside [] v h = cc
place-inside (x ∷ xs) v h = place_step x v xs (bytes_eq x v) (place-inside xs v) h

-- the number of a name of the list is its place
pub number_in-place : (xs : List (List ℕ)) (v : List ℕ) → has xs v ≡ true → number_in xs v ≡ place xs v
number_in-place xs v h = rw (lt-ltb (place xs v) (length xs) (place-inside xs v h)) refl

value_step : (g : List ℕ → ℕ) (x v : List ℕ) (xs : List (List ℕ)) (b : Bool) → bytes_eq x v ≡ b → (has xs v ≡ true → get_or (map g xs) (place xs v) 0 ≡ g v) → (b || has xs v) ≡ true
    → get_or (g x ∷ map g xs) (cond (not b) (1 + place xs v) 0) 0 ≡ g v
value_step g x v xs true t ih h = ap g (bytes_eq-is x v t)
value_step g x v xs false t ih h = (let next : 1 + place xs v ≡ suc (place xs v) = omega arith in rw next (ih h))

-- what belongs to a name stands at its place
pub value-place : (g : List ℕ → ℕ) (xs : List (List ℕ)) (v : List ℕ) → has xs v ≡ true → get_or (map g xs) (place xs v) 0 ≡ g v
value-place g [] v h = cc
value-place g (x ∷ xs) v h = value_step g x v xs (bytes_eq x v) refl (value-place g xs v) h

-- numbers of names lead back to what belongs to the names
pub numbers_back : (g : List ℕ → ℕ) (xs us : List (List ℕ)) → All (λ v. has xs v ≡ true) us → map (λ n. slice_index (map g xs) n) (map (number_in xs) us) ≡ map g us
numbers_back g xs [] h = refl
numbers_back g xs (u ∷ us) h =
    let here : has xs u ≡ true = All-head (λ v. has xs v ≡ true) u us h in
    let first : get_or (map g xs) (number_in xs u) 0 ≡ g u = ap (λ (k : ℕ). get_or (map g xs) k 0) (number_in-place xs u here) ∙ value-place g xs u here in
    ap (λ (n : ℕ). n ∷ map (λ n. slice_index (map g xs) n) (map (number_in xs) us)) first ∙ ap (λ (ns : List ℕ). g u ∷ ns) (numbers_back g xs us (All-tail (λ v. has xs v ≡ true) u us h))

-- a name that the list lacks stands at none of its places
pub lacks : (xs : List (List ℕ)) (x : List ℕ) (k : ℕ) (d : List ℕ) → has xs x ≡ false → k < length xs → bytes_eq (get_or xs k d) x ≡ false
lacks [] x k d h l = absurd (omega arith)
lacks (y ∷ ys) x zero d h l = (or_parts (bytes_eq y x) (has ys x) h).0
lacks (y ∷ ys) x (suc k) d h l = lacks ys x k d (or_parts (bytes_eq y x) (has ys x) h).1 (omega arith)

-- the names of a front without repeats have their indices as places
pub place-front : (xs zs : List (List ℕ)) (k : ℕ) (d : List ℕ) → Differ xs → k < length xs → place (xs ++ zs) (get_or xs k d) ≡ k
place-front [] zs k d h l = absurd (omega arith)
place-front (x ∷ xs) zs zero d h l = rw (bytes_eq-same x) refl
place-front (x ∷ xs) zs (suc k) d h l =
    let other : bytes_eq x (get_or xs k d) ≡ false = bytes_eq-swap x (get_or xs k d) ∙ lacks xs x k d h.0 (omega arith) in
    rw other (omega (arith, place-front xs zs k d h.1 (omega arith)))

-- a list has the name at each of its places
pub has-at : (xs : List (List ℕ)) (k : ℕ) (d : List ℕ) → k < length xs → has xs (get_or xs k d) ≡ true
has-at xs k d l = list_any_at (λ w. bytes_eq w (get_or xs k d)) xs k d l (bytes_eq-same (get_or xs k d))

-- a name of the front is one of the whole
pub has-front : (xs zs : List (List ℕ)) (v : List ℕ) → has xs v ≡ true → has (xs ++ zs) v ≡ true
has-front xs zs v h = list_any-append (λ w. bytes_eq w v) xs zs ∙ ap (λ (b : Bool). b || has zs v) h

-- the names of a front without repeats are numbered 0, 1, ..
pub numbers-front : (xs zs : List (List ℕ)) → Differ xs → map (number_in (xs ++ zs)) xs ≡ below (length xs)
numbers-front xs zs h =
    same_lists (map (number_in (xs ++ zs)) xs) (below (length xs)) (length-map xs (number_in (xs ++ zs)) ∙ sym (length-below (length xs)))
    (λ k d l. let inside : k < length xs = omega (arith, length-map xs (number_in (xs ++ zs))) in
    get_or-map (number_in (xs ++ zs)) xs k [] d inside ∙ number_in-place (xs ++ zs) (get_or xs k []) (has-front xs zs (get_or xs k []) (has-at xs k [] inside))
    ∙ place-front xs zs k [] h inside ∙ sym (get_or-below (length xs) k d inside))

without_lacking : (x : List ℕ) (xs : List (List ℕ)) → has xs x ≡ false → without x xs ≡ xs
without_lacking x [] h = refl
without_lacking x (y ∷ ys) h =
    let parts : (bytes_eq y x ≡ false) × (has ys x ≡ false) = or_parts (bytes_eq y x) (has ys x) h in
    rw parts.0 (ap (λ (z : List (List ℕ)). y ∷ z) (without_lacking x ys parts.1))

-- a front without repeats stays as it is
pub distinct-front : (xs ys : List (List ℕ)) → Differ xs → (zs : List (List ℕ)) × (distinct (xs ++ ys) ≡ xs ++ zs)
distinct-front [] ys h = (distinct ys, refl)
distinct-front (x ∷ xs) ys h =
    let rest : (zs : List (List ℕ)) × (distinct (xs ++ ys) ≡ xs ++ zs) = distinct-front xs ys h.1 in
    (without x rest.0, ap (λ (z : List (List ℕ)). x ∷ without x z) rest.1 ∙ ap (λ (z : List (List ℕ)). x ∷ z) (filter-append (λ w. not (bytes_eq w x)) xs rest.0 ∙ ap (λ (z : List (List ℕ)). z ++ without x rest.0) (without_lacking x xs h.0)))

-- how often a name stands in the list
abbrev pub times : List (List ℕ) → List ℕ → ℕ
times names v = count_by (λ w. bytes_eq w v) names

lacks_step : (x v : List ℕ) (xs : List (List ℕ)) (b : Bool) → cond b 1 0 + times xs v ≡ 0 → (times xs v ≡ 0 → has xs v ≡ false) → (b || has xs v) ≡ false
lacks_step x v xs true h ih = absurd (omega arith)
lacks_step x v xs false h ih = ih (omega arith)

lacks_uncounted : (xs : List (List ℕ)) (v : List ℕ) → times xs v ≡ 0 → has xs v ≡ false
lacks_uncounted [] v h = refl
lacks_uncounted (x ∷ xs) v h =
    lacks_step x v xs (bytes_eq x v) (sym (sum_by-cons (λ w. cond (bytes_eq w v) 1 0) x xs) ∙ h) (lacks_uncounted xs v)

times-rest : (x v : List ℕ) (xs : List (List ℕ)) → times xs v ≤ times (x ∷ xs) v
times-rest x v xs = rw (sum_by-cons (λ w. cond (bytes_eq w v) 1 0) x xs) (omega arith)

once_step : (x : List ℕ) (xs : List (List ℕ)) (n : ℕ) (b : Bool) (rest : Option (List ℕ)) → nat_le 2 n ≡ b → times (x ∷ xs) x ≤ n → cond b (Some x) rest ≡ None → (has xs x ≡ false) × (rest ≡ None)
once_step x xs n true rest t l h = cc
once_step x xs n false rest t l h =
    let few : n < 2 = leb-false 2 n t in
    let more : times (x ∷ xs) x ≡ 1 + times xs x = sum_by-cons (λ w. cond (bytes_eq w x) 1 0) x xs ∙ ap (λ (b : Bool). cond {A = ℕ} b 1 0 + times xs x) (bytes_eq-same x) in
    (lacks_uncounted xs x (omega arith), h)

once : (all xs : List (List ℕ)) → ((v : List ℕ) → times xs v ≤ times all v) → find (λ v. nat_le 2 (times all v)) xs ≡ None → Differ xs
once all [] l h = tt
once all (x ∷ xs) l h =
    let here : (has xs x ≡ false) × (find (λ v. nat_le 2 (times all v)) xs ≡ None) = once_step x xs (times all x) (nat_le 2 (times all x)) (find (λ v. nat_le 2 (times all v)) xs) refl (l x) h in
    (here.0, once all xs (λ v. omega (arith, times-rest x v xs, l v)) here.1)

-- a list where no name counts twice has no repeats
pub none_twice : (xs : List (List ℕ)) → find (λ v. nat_le 2 (count_by (λ w. bytes_eq w v) xs)) xs ≡ None → Differ xs
none_twice xs h = once xs xs (λ v. omega arith) h

joined_more : (vs more : List (List ℕ)) (i : ℕ) (v : List ℕ) → i < length more → v ≡ get_or more i v
    → distinct (vs ++ take (i + 1) more) ≡ cond (has (distinct (vs ++ take i more)) v) (distinct (vs ++ take i more)) (distinct (vs ++ take i more) ++ v ∷ [])
joined_more vs more i v l item =
    let one : take (i + 1) more ≡ take i more ++ v ∷ [] = take_more more i v l ∙ ap (λ (w : List ℕ). take i more ++ w ∷ []) (sym item) in
    let whole : vs ++ take (i + 1) more ≡ (vs ++ take i more) ++ v ∷ [] = ap (λ (z : List (List ℕ)). vs ++ z) one ∙ sym (append_assoc vs (take i more) (v ∷ [])) in
    rw (has-distinct (vs ++ take i more) v) (ap (λ (z : List (List ℕ)). distinct z) whole ∙ distinct-push (vs ++ take i more) v)

-- a loop's step at a name, which counts only where it is new
pub joined_name : (vs more : List (List ℕ)) (i : ℕ) (v : List ℕ) (old new : List (List ℕ)) → i < length more → v ≡ get_or more i v → old ≡ distinct (vs ++ take i more)
    → new ≡ with_name old v → new ≡ distinct (vs ++ take (i + 1) more)
joined_name vs more i v old new l item e n = n ∙ ap (λ (z : List (List ℕ)). with_name z v) e ∙ sym (joined_more vs more i v l item)

-- without a name a list has not that name
without-lacks : (x : List ℕ) (ys : List (List ℕ)) → has (without x ys) x ≡ false
without-lacks x [] = refl
without-lacks x (y ∷ ys) = without_step x y ys (bytes_eq y x) refl (without-lacks x ys)
  where
    without_step : (x y : List ℕ) (ys : List (List ℕ)) (b : Bool) → bytes_eq y x ≡ b → has (without x ys) x ≡ false → has (cond (not b) (y ∷ without x ys) (without x ys)) x ≡ false
    without_step x y ys true t ih = ih
    without_step x y ys false t ih = rw t ih

differ_step : (x y : List ℕ) (ys : List (List ℕ)) (b : Bool) → bytes_eq y x ≡ b → has ys y ≡ false → Differ (without x ys) → Differ (cond (not b) (y ∷ without x ys) (without x ys))
differ_step x y ys true t h d = d
differ_step x y ys false t h d = (has-without x y ys (bytes_eq-swap x y ∙ t) ∙ h, d)

without-differ : (x : List ℕ) (ys : List (List ℕ)) → Differ ys → Differ (without x ys)
without-differ x [] h = tt
without-differ x (y ∷ ys) h = differ_step x y ys (bytes_eq y x) refl h.0 (without-differ x ys h.1)

-- a list without repeats has none
pub distinct-differ : (xs : List (List ℕ)) → Differ (distinct xs)
distinct-differ [] = tt
distinct-differ (x ∷ xs) = (without-lacks x (distinct xs), without-differ x (distinct xs) (distinct-differ xs))

all_other : (x : List ℕ) (ys : List (List ℕ)) → has ys x ≡ false → AllByRecursion (λ y. bytes_eq x y ≡ false) ys
all_other x [] h = tt
all_other x (y ∷ ys) h =
    let parts : (bytes_eq y x ≡ false) × (has ys x ≡ false) = or_parts (bytes_eq y x) (has ys x) h in
    (bytes_eq-swap x y ∙ parts.0, all_other x ys parts.1)

differ-IsDistinct : (xs : List (List ℕ)) → Differ xs → IsDistinct bytes_eq xs
unfolding IsDistinct
differ-IsDistinct [] h = tt
differ-IsDistinct (x ∷ xs) h = IsDistinct-cons bytes_eq x xs (all_other x xs h.0) (differ-IsDistinct xs h.1)

-- names without those that stood before differ
pub distinct-IsDistinct : (xs names : List (List ℕ)) → names ≡ distinct xs → IsDistinct bytes_eq names
distinct-IsDistinct xs names e = subst (λ (ys : List (List ℕ)). IsDistinct bytes_eq ys) (sym e) (differ-IsDistinct (distinct xs) (distinct-differ xs))

place_same_step : (x u v : List ℕ) (xs : List (List ℕ)) → u ≡ v → place (x ∷ xs) u ≡ place (x ∷ xs) v
place_same_step x u v xs e = ap (λ (w : List ℕ). place (x ∷ xs) w) e

-- the k-th name of a list without repeats has the number k
pub number-at : (xs : List (List ℕ)) (k : ℕ) (d : List ℕ) → Differ xs → k < length xs → number_in xs (get_or xs k d) ≡ k
number-at xs k d h l =
    let whole : place (xs ++ []) (get_or xs k d) ≡ k = place-front xs [] k d h l in
    number_in-place xs (get_or xs k d) (has-at xs k d l) ∙ ap (λ (ys : List (List ℕ)). place ys (get_or xs k d)) (sym (append-nil xs)) ∙ whole

-- a name of the front has a place in it
pub place-in-front : (xs zs : List (List ℕ)) (v : List ℕ) → has xs v ≡ true → place (xs ++ zs) v < length xs
place-in-front [] zs v h = cc
place-in-front (x ∷ xs) zs v h = front_step (bytes_eq x v) (place-in-front xs zs v) h
  where
    front_step : (b : Bool) → (has xs v ≡ true → place (xs ++ zs) v < length xs) → (b || has xs v) ≡ true → cond (not b) (1 + place (xs ++ zs) v) 0 < length (x ∷ xs)
    front_step true ih h = omega arith
    front_step false ih h = omega (arith, ih h)

name_step : (p : List ℕ → Bool) (x v : List ℕ) (xs : List (List ℕ)) (b q : Bool) → bytes_eq x v ≡ b → p x ≡ q → (find p xs ≡ None → has xs v ≡ true → p v ≡ false) → cond q (Some x) (find p xs) ≡ None → (b || has xs v) ≡ true → p v ≡ false
name_step p x v xs b true e q ih h t = cc
name_step p x v xs true false e q ih h t = ap (λ (w : List ℕ). p w) (sym (bytes_eq-is x v e)) ∙ q
name_step p x v xs false false e q ih h t = ih h t

-- a search over names that finds none passed each name that the list has
pub passed_name : (p : List ℕ → Bool) (xs : List (List ℕ)) (v : List ℕ) → find p xs ≡ None → has xs v ≡ true → p v ≡ false
passed_name p [] v h t = cc
passed_name p (x ∷ xs) v h t = name_step p x v xs (bytes_eq x v) (p x) refl refl (passed_name p xs v) h t

-- equal names have one number
pub same-number : (xs : List (List ℕ)) (u v : List ℕ) → bytes_eq u v ≡ true → number_in xs u ≡ number_in xs v
same-number xs u v t = ap (λ (w : List ℕ). number_in xs w) (bytes_eq-is u v t)

-- a number equals itself
pub equal-number : (n : ℕ) → nat_eq n n ≡ true
equal-number n = grind (arith, nat_tests)

number_step : (xs us : List (List ℕ)) (u v : List ℕ) (b : Bool) → bytes_eq u v ≡ b → (has us v ≡ true → list_any (nat_eq (number_in xs v)) (map (number_in xs) us) ≡ true) → (b || has us v) ≡ true
    → (nat_eq (number_in xs v) (number_in xs u) || list_any (nat_eq (number_in xs v)) (map (number_in xs) us)) ≡ true
number_step xs us u v true e ih h = rw (same-number xs u v e, equal-number (number_in xs v)) refl
number_step xs us u v false e ih h = rw (ih h) (or-true (nat_eq (number_in xs v) (number_in xs u)))

-- where a list has a name, the numbers of the list have its number
pub numbers-have : (xs us : List (List ℕ)) (v : List ℕ) → has us v ≡ true → list_any (nat_eq (number_in xs v)) (map (number_in xs) us) ≡ true
numbers-have xs [] v h = cc
numbers-have xs (u ∷ us) v h = number_step xs us u v (bytes_eq u v) refl (numbers-have xs us v) h
