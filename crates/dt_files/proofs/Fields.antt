-- The fields of a record, from the front.
use Rattle.std.proofs.Common.{◌≡◌, ℕ, zero, suc, ◌+◌, ◌<◌, ◌≤◌, List, [], ◌∷◌, ◌++◌, length, get_or, take, drop, refl, ap, sym, ◌∙◌, arith, add-one, append_assoc, append-nil, Option, Some, None, IsSome, option_map, Bool, true, false, cond, if◌then◌else◌, ◌==◌, inl, inr}
use Rattle.std.proofs.Math.ListN.{set}
use Rattle.std.proofs.Math.Seq.{drop-cons, take-suc-set}
use Rattle.std.proofs.lemmas.List.{drop_all}
use Rattle.dt_text.proofs.TokenLists.{behind_front, number_begin}
use Rattle.std.proofs.lemmas.Bool.{ne_eqb}
use Rattle.std.proofs.lemmas.Bool.Decides.{eqb_tells}
use Rattle.std.specs.Option.{option_and_then}
use Rattle.csv.specs.Records.{field_at}
use Rattle.csv.proofs.RecordFacts.{field-get, field-there}
use Rattle.dt_text.specs.Numbers.{number_of}
use Rattle.dt_files.specs.Rows.{coordinate_of, coordinates_of, entry_of, given_with}

-- the next field, and those behind it
opened : (fs : List (List ℕ)) (i : ℕ) → i < length fs → drop i fs ≡ get_or fs i [] ∷ drop (i + 1) fs
opened fs i h = rw add-one (drop-cons fs i [] h)

some_first : (f : List ℕ) (fs : List (List ℕ)) (x : ℕ) → coordinate_of f ≡ Some x → coordinates_of (f ∷ fs) ≡ option_map (λ xs. x ∷ xs) (coordinates_of fs)
unfolding coordinates_of
some_first f fs x e = rw e refl

none_first : (f : List ℕ) (fs : List (List ℕ)) → coordinate_of f ≡ None → coordinates_of (f ∷ fs) ≡ None
unfolding coordinates_of
none_first f fs e = rw e refl

pub none_at_end : coordinates_of [] ≡ Some []
unfolding coordinates_of
none_at_end = refl

pushed : (front : List ℕ) (x : ℕ) (o : Option (List ℕ)) → behind_front (front ++ x ∷ []) o ≡ behind_front front (option_map (λ xs. x ∷ xs) o)
pushed front x (Some xs) = ap (λ (l : List ℕ). Some l) (append_assoc front (x ∷ []) xs)
pushed front x None = refl

-- one more coordinate is read into the array
pub coordinate_more : (fs : List (List ℕ)) (at : List ℕ) (i x : ℕ) (whole : Option (List ℕ)) → i < length fs → i < length at → coordinate_of (get_or fs i []) ≡ Some x
    → behind_front (take i at) (coordinates_of (drop i fs)) ≡ whole → behind_front (take (i + 1) (set at i x)) (coordinates_of (drop (i + 1) fs)) ≡ whole
coordinate_more fs at i x whole h room e k =
    ap (λ (f : List ℕ). behind_front f (coordinates_of (drop (i + 1) fs))) (rw add-one (take-suc-set at i x room))
    ∙ pushed (take i at) x (coordinates_of (drop (i + 1) fs))
    ∙ ap (λ (o : Option (List ℕ)). behind_front (take i at) o) (sym (some_first (get_or fs i []) (drop (i + 1) fs) x e) ∙ ap (λ (l : List (List ℕ)). coordinates_of l) (sym (opened fs i h))) ∙ k

-- the next field has no coordinate
pub coordinate_stop : (fs : List (List ℕ)) (front : List ℕ) (i : ℕ) (whole : Option (List ℕ)) → i < length fs → coordinate_of (get_or fs i []) ≡ None
    → behind_front front (coordinates_of (drop i fs)) ≡ whole → None ≡ whole
coordinate_stop fs front i whole h e k =
    sym (ap (λ (l : List (List ℕ)). behind_front front (coordinates_of l)) (opened fs i h) ∙ ap (λ (o : Option (List ℕ)). behind_front front o) (none_first (get_or fs i []) (drop (i + 1) fs) e)) ∙ k

-- every coordinate is read
pub coordinate_end : (fs : List (List ℕ)) (front : List ℕ) (i : ℕ) (whole : Option (List ℕ)) → length fs ≤ i → behind_front front (coordinates_of (drop i fs)) ≡ whole → Some front ≡ whole
coordinate_end fs front i whole h k =
    sym (ap (λ (l : List (List ℕ)). behind_front front (coordinates_of l)) (drop_all i fs h) ∙ ap (λ (o : Option (List ℕ)). behind_front front o) none_at_end ∙ ap (λ (l : List ℕ). Some l) (append-nil front)) ∙ k

-- nothing is read yet
pub coordinate_begin : (o : Option (List ℕ)) → behind_front [] o ≡ o
coordinate_begin o = number_begin o

-- A field of a record that is there.
pub field_exists : {A : Type 0} (f : A → List ℕ) (r : Option A) (fields : List (List ℕ)) (i : ℕ) → i < length fields → option_map f r ≡ field_at fields i → IsSome r
field_exists f None fields i h e = absurd (field-there fields i h (sym e))
field_exists f (Some x) fields i h e = refl

pub field_is : {A : Type 0} (f : A → List ℕ) (r : Option A) (x : A) (fields : List (List ℕ)) (i : ℕ) → r ≡ Some x → option_map f r ≡ field_at fields i → f x ≡ get_or fields i []
field_is f r x fields i is e = sym (field-get fields i (f x) (sym e ∙ ap (λ (o : Option _). option_map f o) is))

-- An entry by its length, its coordinates and its number.
pub wrong_length : (order : ℕ) (fields : List (List ℕ)) → (length fields ≡ order + 1 → ⊥) → entry_of order fields ≡ None
unfolding entry_of
wrong_length order fields h = ap (λ (b : Bool). if b then option_and_then (λ at. option_map (given_with at) (number_of (get_or fields order []))) (coordinates_of (take order fields)) else None) (ne_eqb (length fields) (order + 1) h)

right_length : (order : ℕ) (fields : List (List ℕ)) → length fields ≡ order + 1 → entry_of order fields ≡ option_and_then (λ at. option_map (given_with at) (number_of (get_or fields order []))) (coordinates_of (take order fields))
unfolding entry_of
right_length order fields h = ap (λ (b : Bool). if b then option_and_then (λ at. option_map (given_with at) (number_of (get_or fields order []))) (coordinates_of (take order fields)) else None) (same (length fields) (order + 1) h)
  where
    same : (m n : ℕ) → m ≡ n → (m == n) ≡ true
    same m n e = elim (eqb_tells m n) [ inl t ↦ t.0 | inr f ↦ absurd (f.1 e) ]

pub no_coordinates : (order : ℕ) (fields : List (List ℕ)) → length fields ≡ order + 1 → None ≡ coordinates_of (take order fields) → entry_of order fields ≡ None
no_coordinates order fields h e =
    right_length order fields h ∙ ap (λ (o : Option (List ℕ)). option_and_then (λ at. option_map (given_with at) (number_of (get_or fields order []))) o) (sym e)

pub entry_is : (order : ℕ) (fields : List (List ℕ)) (at : List ℕ) (value : Option ℕ) → length fields ≡ order + 1 → Some at ≡ coordinates_of (take order fields) → number_of (get_or fields order []) ≡ value
    → entry_of order fields ≡ option_map (given_with at) value
entry_is order fields at value h e v =
    right_length order fields h ∙ ap (λ (o : Option (List ℕ)). option_and_then (λ at. option_map (given_with at) (number_of (get_or fields order []))) o) (sym e)
    ∙ ap (λ (o : Option ℕ). option_map (given_with at) o) v
