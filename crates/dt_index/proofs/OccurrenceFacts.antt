-- Where no variable clashes, each occurrence has the extent of the first.
use Rattle.std.proofs.Common.{◌≡◌, ℕ, zero, suc, ◌+◌, ◌<◌, List, [], ◌∷◌, ◌++◌, length, get_or, map, refl, ap, sym, ◌∙◌, subst, arith, take, min, Bool, true, false, cond, not, ◌&&◌, All, Option, Some, None, length-append}
use Rattle.std.specs.Prelude.{find, option_map, ◌==◌}
use Rattle.std.specs.List.{list_any, flat_map, zip}
use Rattle.std.specs.Str.{bytes_eq}
use Rattle.std.proofs.lemmas.Bool.{eqb-true, or_parts}
use Rattle.std.proofs.lemmas.List.{get_or_append_left, get_or-append-add, map_more, append_assoc, take_all}
use Rattle.std.proofs.lemmas.Slice.Zip.{length-zip, get_or-zip}
use Rattle.std.proofs.lemmas.List.Elements.{All-head, All-tail, All-cons, All-nil, All-append}
use Rattle.dt_index.specs.declared.occurrence_list.Occurrence.{Occurrence}
use Rattle.dt_index.specs.Known.{Known}
use Rattle.dt_index.specs.Resolve.{clashes, extent_of, extent_clash, named_extents, access_occurrences}
use Rattle.dt_index.specs.declared.form.NamedAccess.{NamedAccess}
use Rattle.dt_base.proofs.Firsts.{bytes_eq-same}
use Rattle.dt_index.proofs.NameFacts.{has, passed_name}

-- a search that finds nothing passed its first element, and finds nothing behind it
pub found_step : {X : Type 0} (x : X) (b : Bool) (rest : Option X) → cond b (Some x) rest ≡ None → (b ≡ false) × (rest ≡ None)
found_step x true rest h = cc
found_step x false rest h = (refl, h)

-- a search that finds nothing passed each place
pub find_none : {X : Type 0} (p : X → Bool) (xs : List X) (k : ℕ) (d : X) → find p xs ≡ None → k < length xs → p (get_or xs k d) ≡ false
find_none p [] k d h l = absurd (omega arith)
find_none p (x ∷ xs) zero d h l = (found_step x (p x) (find p xs) h).0
find_none p (x ∷ xs) (suc k) d h l = find_none p xs k d (found_step x (p x) (find p xs) h).1 (omega arith)

-- a test that fails the other way round passes
pub not_not : (b : Bool) → not b ≡ false → b ≡ true
not_not true h = refl
not_not false h = cc

-- what is made of nothing alone is nothing
pub option_map-none : {X Y : Type 0} (f : X → Y) (o : Option X) → option_map f o ≡ None → o ≡ None
option_map-none f None h = refl
option_map-none f (Some x) h = cc

-- a test that no element passes fails at each place
pub any_at : {X : Type 0} (p : X → Bool) (xs : List X) (k : ℕ) (d : X) → list_any p xs ≡ false → k < length xs → p (get_or xs k d) ≡ false
any_at p [] k d h l = absurd (omega arith)
any_at p (x ∷ xs) zero d h l = (or_parts (p x) (list_any p xs) h).0
any_at p (x ∷ xs) (suc k) d h l = any_at p xs k d (or_parts (p x) (list_any p xs) h).1 (omega arith)

same_from : (n m : ℕ) (b : Bool) → b ≡ true → (b && not (n == m)) ≡ false → m ≡ n
same_from n m true t h = sym (eqb-true n m (not_not (n == m) h))
same_from n m false t h = cc

-- where no variable clashes, the first occurrence of each has the extent of all
pub first_extents : (os : List Occurrence) (variables : List (List ℕ)) → All (λ o. has variables o.name ≡ true) os → extent_clash os variables ≡ None → All (λ o. extent_of os o.name ≡ o.extent) os
first_extents os variables members h k d l =
    let o : Occurrence = get_or os k d in
    let nothing : find (clashes os) variables ≡ None = option_map-none _ (find (clashes os) variables) h in
    let clear : clashes os o.name ≡ false = passed_name (clashes os) variables o.name nothing (members k d l) in
    same_from o.extent (extent_of os o.name) (bytes_eq o.name o.name) (bytes_eq-same o.name) (any_at (λ p. bytes_eq p.name o.name && not (p.extent == extent_of os o.name)) os k d clear l)

zipped_members : (names vars : List (List ℕ)) (extents : List ℕ) → All (λ v. has names v ≡ true) vars → All {X = Occurrence} (λ o. has names o.name ≡ true) (map (λ p. record { name = p.0; extent = p.1 }) (zip vars extents))
zipped_members names [] extents h = All-nil {X = Occurrence} (λ o. has names o.name ≡ true)
zipped_members names (v ∷ vars) [] h = All-nil {X = Occurrence} (λ o. has names o.name ≡ true)
zipped_members names (v ∷ vars) (n ∷ extents) h =
    All-cons {X = Occurrence} (λ o. has names o.name ≡ true) (record { name = v; extent = n }) _ (All-head (λ v. has names v ≡ true) v vars h) (zipped_members names vars extents (All-tail (λ v. has names v ≡ true) v vars h))

-- the occurrences of accesses are occurrences of their variables
pub occurrence_members : (tensors : List Known) (names : List (List ℕ)) (accesses : List NamedAccess) → All (λ a. All (λ v. has names v ≡ true) a.vars) accesses → All {X = Occurrence} (λ o. has names o.name ≡ true) (flat_map (access_occurrences tensors) accesses)
occurrence_members tensors names [] h = All-nil {X = Occurrence} (λ o. has names o.name ≡ true)
occurrence_members tensors names (a ∷ accesses) h =
    All-append {X = Occurrence} (λ o. has names o.name ≡ true) (access_occurrences tensors a) (flat_map (access_occurrences tensors) accesses)
    (zipped_members names a.vars (named_extents tensors a.tensor) (All-head (λ a. All (λ v. has names v ≡ true) a.vars) a accesses h))
    (occurrence_members tensors names accesses (All-tail (λ a. All (λ v. has names v ≡ true) a.vars) a accesses h))

All-left : {X : Type 0} (P : X → Type 0) (xs ys : List X) → All P (xs ++ ys) → All P xs
All-left P xs ys h k d l = subst P (get_or_append_left xs ys d k l) (h k d (rw length-append (omega arith)))

All-right : {X : Type 0} (P : X → Type 0) (xs ys : List X) → All P (xs ++ ys) → All P ys
All-right P xs ys h k d l = subst P (get_or-append-add xs ys k d) (h (length xs + k) d (rw length-append (omega arith)))

-- what holds of each element of joined lists holds of each list's
pub All-flat_map : {X A : Type 0} (P : A → Type 0) (f : X → List A) (xs : List X) → All P (flat_map f xs) → All (λ x. All P (f x)) xs
All-flat_map P f [] h = All-nil (λ x. All P (f x))
All-flat_map P f (x ∷ xs) h = All-cons (λ x. All P (f x)) x xs (All-left P (f x) (flat_map f xs) h) (All-flat_map P f xs (All-right P (f x) (flat_map f xs) h))

-- the variables of an access have its tensor's extents, where each occurrence has the extent of the first
pub extents_match : (os : List Occurrence) (vars : List (List ℕ)) (extents : List ℕ) → length vars ≡ length extents
    → All (λ (o : Occurrence). extent_of os o.name ≡ o.extent) (map (λ p. record { name = p.0; extent = p.1 }) (zip vars extents)) → map (extent_of os) vars ≡ extents
extents_match os [] [] e h = refl
extents_match os [] (n ∷ ns) e h = absurd (omega arith)
extents_match os (v ∷ vs) [] e h = absurd (omega arith)
extents_match os (v ∷ vs) (n ∷ ns) e h =
    let P : Occurrence → Type 0 = λ o. extent_of os o.name ≡ o.extent in
    let first : Occurrence = record { name = v; extent = n } in
    let rest : List Occurrence = map (λ p. record { name = p.0; extent = p.1 }) (zip vs ns) in
    let here : extent_of os v ≡ n = All-head P first rest h in
    let there : map (extent_of os) vs ≡ ns = extents_match os vs ns (omega arith) (All-tail P first rest h) in
    ap (λ (k : ℕ). k ∷ map (extent_of os) vs) here ∙ ap (λ (ks : List ℕ). n ∷ ks) there

-- a loop's step over the places of an access
pub zipped_more : (old now new : List Occurrence) (vars : List (List ℕ)) (extents : List ℕ) (i m : ℕ) (v w : List ℕ) (n : ℕ) → i < length vars → i < length extents
    → v ≡ get_or vars i v → n ≡ get_or extents i n → now ≡ old ++ map (λ p. record { name = p.0; extent = p.1 }) (take i (zip vars extents))
    → new ≡ now ++ (record { name = w; extent = n }) ∷ [] → w ≡ v → m ≡ i + 1 → new ≡ old ++ map (λ p. record { name = p.0; extent = p.1 }) (take m (zip vars extents))
zipped_more old now new vars extents i m v w n h l item number e pushed same count =
    let inside : i < length (zip vars extents) = omega (arith, length-zip vars extents) in
    let there : get_or (zip vars extents) i (v, n) ≡ (v, n) = get_or-zip vars extents i (v, n) h l ∙ ap (λ (w : List ℕ). (w, get_or extents i n)) (sym item) ∙ ap (λ (m : ℕ). (v, m)) (sym number) in
    let mapped = map_more (λ (p : List ℕ × ℕ). (let o : Occurrence = record { name = p.0; extent = p.1 } in o)) (zip vars extents) i (v, n) inside in
    rw (pushed, same, count, e, mapped, there) (append_assoc old _ _)

-- the end of a loop over the places of an access
pub zipped_all : (old now : List Occurrence) (vars : List (List ℕ)) (extents : List ℕ) (i : ℕ) → i ≡ min (length vars) (length extents)
    → now ≡ old ++ map (λ p. record { name = p.0; extent = p.1 }) (take i (zip vars extents)) → now ≡ old ++ map (λ p. record { name = p.0; extent = p.1 }) (zip vars extents)
zipped_all old now vars extents i e h =
    let whole : take i (zip vars extents) ≡ zip vars extents = take_all i (zip vars extents) (omega (arith, length-zip vars extents)) in
    rw whole at h

nothing_zipped : {X Y : Type 0} (xs : List X) → zip {K = X} {X = Y} xs [] ≡ []
nothing_zipped [] = refl
nothing_zipped (x ∷ xs) = refl

-- an access of a tensor without dimensions has no occurrences
pub no_occurrences : (tensors : List Known) (a : NamedAccess) → named_extents tensors a.tensor ≡ [] → access_occurrences tensors a ≡ []
no_occurrences tensors a h = rw (h, nothing_zipped {X = List ℕ} {Y = ℕ} a.vars) refl
