-- Tables with one value for each assignment, in order.
use Rattle.std.proofs.Common.{◌≡◌, ℕ, ◌<◌, List, [], ◌∷◌, length, get_or, map, refl, ap, sym, ◌∙◌, arith, Some, None, replicate, take, drop, ◌++◌, append-nil, inl, inr, length-set, get_or-set_same, get_or-set_other}
use Rattle.std.proofs.Math.ListN.{set}
use Rattle.std.proofs.lemmas.Bool.{cases_eq}
use Rattle.std.proofs.lemmas.List.{length-map, get_or-map, same_lists, drop_all, take_all}
use Rattle.dt_base.specs.Ranges.{assignments}
use Rattle.dt_base.specs.Rows.{product, row_major}
use Rattle.dt_base.proofs.Rows.{row_major-below}
use Rattle.dt_base.proofs.Assignments.{length-assignments, row_major-assignment, assignment-row_major}

-- a table has a value for each number
pub length-table : {A : Type 0} (f : List ℕ → A) (ns : List ℕ) → length (map f (assignments ns)) ≡ product ns
length-table f ns = length-map (assignments ns) f ∙ length-assignments ns

-- the value at a number
table-at : {A : Type 0} (f : List ℕ → A) (ns : List ℕ) (k : ℕ) (d : A) → k < product ns → get_or (map f (assignments ns)) k d ≡ f (get_or (assignments ns) k [])
table-at f ns k d h = (let room : k < length (assignments ns) = omega (arith, length-assignments ns) in get_or-map f (assignments ns) k [] d room)

-- the value at the number of these coordinates
pub table-there : {A : Type 0} (f : List ℕ → A) (ns c : List ℕ) (k : ℕ) (d : A) → row_major ns c ≡ Some k → get_or (map f (assignments ns)) k d ≡ f c
table-there f ns c k d e = table-at f ns k d (row_major-below ns c k e) ∙ ap f (assignment-row_major ns c k e)

-- a table of one value
pub table-same : {A : Type 0} (f : List ℕ → A) (ns : List ℕ) (v : A) → ((c : List ℕ) → f c ≡ v) → replicate (product ns) v ≡ map f (assignments ns)
table-same f ns v h = ap (λ (n : ℕ). replicate n v) (sym (length-assignments ns)) ∙ each f (assignments ns) v h
  where
    each : {A : Type 0} (f : List ℕ → A) (cs : List (List ℕ)) (v : A) → ((c : List ℕ) → f c ≡ v) → replicate (length cs) v ≡ map f cs
    each f [] v h = refl
    each f (c ∷ cs) v h = ap (λ x. x ∷ replicate (length cs) v) (sym (h c)) ∙ ap (λ xs. f c ∷ xs) (each f cs v h)

-- a write at the number of these coordinates changes the table there
pub table-set : {A : Type 0} (f g : List ℕ → A) (ns c : List ℕ) (k : ℕ) (v : A) → row_major ns c ≡ Some k → g c ≡ v → ((d : List ℕ) → (c ≡ d → ⊥) → g d ≡ f d)
    → set (map f (assignments ns)) k v ≡ map g (assignments ns)
table-set f g ns c k v e here other =
    same_lists (set (map f (assignments ns)) k v) (map g (assignments ns)) (length-set (map f (assignments ns)) k v ∙ length-table f ns ∙ sym (length-table g ns))
    (λ j d h. let room : j < product ns = omega (arith, length-set (map f (assignments ns)) k v, length-table f ns) in
    elim (cases_eq j k) [ inl same ↦ there f g ns c k j v d e here room same | inr apart ↦ elsewhere f g ns c k j v d e other room apart ])
  where
    there : {A : Type 0} (f g : List ℕ → A) (ns c : List ℕ) (k j : ℕ) (v d : A) → row_major ns c ≡ Some k → g c ≡ v → j < product ns → j ≡ k
        → get_or (set (map f (assignments ns)) k v) j d ≡ get_or (map g (assignments ns)) j d
    there f g ns c k j v d e here room same =
        let within : k < length (map f (assignments ns)) = omega (arith, length-table f ns) in
        ap (λ (i : ℕ). get_or (set (map f (assignments ns)) k v) i d) same ∙ get_or-set_same (map f (assignments ns)) k v d within
        ∙ sym here ∙ sym (table-there g ns c k d e) ∙ ap (λ (i : ℕ). get_or (map g (assignments ns)) i d) (sym same)

    elsewhere : {A : Type 0} (f g : List ℕ → A) (ns c : List ℕ) (k j : ℕ) (v d : A) → row_major ns c ≡ Some k → ((d : List ℕ) → (c ≡ d → ⊥) → g d ≡ f d) → j < product ns → (j ≡ k → ⊥)
        → get_or (set (map f (assignments ns)) k v) j d ≡ get_or (map g (assignments ns)) j d
    elsewhere f g ns c k j v d e other room apart =
        get_or-set_other (map f (assignments ns)) k j v d apart ∙ table-at f ns j d room
        ∙ sym (other (get_or (assignments ns) j []) (λ q. apart (same_number ns c k j (e) (ap (λ (x : List ℕ). row_major ns x) q ∙ row_major-assignment ns j room))))
        ∙ sym (table-at g ns j d room)
      where
        same_number : (ns c : List ℕ) (k j : ℕ) → row_major ns c ≡ Some k → row_major ns c ≡ Some j → j ≡ k
        same_number ns c k j p q = cc

-- where the coordinates have no number, the table stays
pub table-kept : {A : Type 0} (f g : List ℕ → A) (ns c : List ℕ) → row_major ns c ≡ None → ((d : List ℕ) → (c ≡ d → ⊥) → g d ≡ f d) → map f (assignments ns) ≡ map g (assignments ns)
table-kept f g ns c e other =
    same_lists (map f (assignments ns)) (map g (assignments ns)) (length-table f ns ∙ sym (length-table g ns))
    (λ j d h. let room : j < product ns = omega (arith, length-table f ns) in
    table-at f ns j d room
    ∙ sym (other (get_or (assignments ns) j []) (λ q. none ns c j e (ap (λ (x : List ℕ). row_major ns x) q ∙ row_major-assignment ns j room)))
    ∙ sym (table-at g ns j d room))
  where
    none : (ns c : List ℕ) (j : ℕ) → row_major ns c ≡ None → row_major ns c ≡ Some j → ⊥
    none ns c j p q = cc

-- the number of coordinates is a place of the table
pub number_fits : {A : Type 0} (f : List ℕ → A) (ns c : List ℕ) (k : ℕ) (xs : List A) → row_major ns c ≡ Some k → xs ≡ map f (assignments ns) → k < length xs
number_fits f ns c k xs r e = omega (arith, row_major-below ns c k r, length-table f ns, ap length e)

-- what a write through the slice of a vector leaves
pub written : {A : Type 0} (xs ys : List A) (n k : ℕ) (v : A) → ys ≡ xs → n ≡ length xs → take n (set ys k v ++ drop (length (set ys k v)) xs) ≡ set xs k v
written xs ys n k v same whole =
    let count : length (set ys k v) ≡ length xs = length-set ys k v ∙ ap length same in
    ap (λ (m : ℕ). take n (set ys k v ++ drop m xs)) count
    ∙ ap (λ zs. take n (set ys k v ++ zs)) (drop_all (length xs) xs (omega arith))
    ∙ ap (λ zs. take n zs) (append-nil (set ys k v))
    ∙ take_all n (set ys k v) (omega arith)
    ∙ ap (λ zs. set zs k v) same
