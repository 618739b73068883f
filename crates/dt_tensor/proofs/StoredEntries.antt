-- Entries and the coordinates of a list where they stand.
use Rattle.std.proofs.Common.{◌≡◌, ℕ, zero, suc, ◌+◌, ◌<◌, ◌≤◌, List, [], ◌∷◌, length, get_or, take, drop, map, replicate, refl, ap, sym, ◌∙◌, subst, arith, Option, Some, None, IsSome, is_some, is_none, option_map, unwrap_or, slice_get, slice_index, Bool, true, false, ◌||◌, cond, position, find, inl, inr}
use Rattle.std.proofs.Math.ListN.{set}
use Rattle.std.specs.List.{All, AllByRecursion, list_any}
use Rattle.std.specs.Str.{bytes_eq}
use Rattle.std.proofs.lemmas.List.{drop_more, drop_all}
use Rattle.std.proofs.lemmas.List.Folds.{list_any_more}
use Rattle.std.proofs.lemmas.Option.{slice_get_read}
use Rattle.dt_base.specs.Rows.{product, row_major}
use Rattle.dt_base.proofs.Firsts.{bytes_eq-same, bytes_eq-apart}
use Rattle.dt_tensor.specs.Packing.{given_at, offence}
use Rattle.dt_tensor.specs.declared.entry.Given.{Given}
use Rattle.dt_tensor.specs.declared.packing.PackEnd.{PackEnd}
use Rattle.dt_tensor.specs.declared.packing.PackEnd.TheVariants as ends
use Rattle.dt_tensor.proofs.EntryLemmas.{given_elsewhere, given_here, is_given, opened}
use Rattle.dt_tensor.proofs.StoredTables.{Distinct, stored-set, stored-kept, stored-same, value_there}

always : (a : Bool) → (a || true) ≡ true
always true = refl
always false = refl

never : (a : Bool) → (a || false) ≡ a
never true = refl
never false = refl

-- one more entry is seen
pub seen_none : (cs : List (List ℕ)) (n : ℕ) (entries : List Given) → n ≡ length cs → replicate n false ≡ map (is_given (take 0 entries)) cs
seen_none cs n entries e = ap (λ (k : ℕ). replicate k false) e ∙ stored-same (is_given (take 0 entries)) cs false (λ c. none entries c)
  where
    none : (entries : List Given) (c : List ℕ) → is_given (take 0 entries) c ≡ false
    none [] c = refl
    none (e ∷ es) c = refl

more : (entries : List Given) (i : ℕ) (e : Given) (c : List ℕ) → i < length entries → e ≡ get_or entries i e → is_given (take (i + 1) entries) c ≡ (is_given (take i entries) c || bytes_eq e.at c)
more entries i e c h item = list_any_more (λ f. bytes_eq f.at c) entries i e h ∙ ap (λ (f : Given). is_given (take i entries) c || bytes_eq f.at c) (sym item)

pub seen_more : (cs : List (List ℕ)) (entries : List Given) (i k : ℕ) (e : Given) (seen : List Bool) → Distinct cs → i < length entries → e ≡ get_or entries i e → position (λ d. bytes_eq d e.at) cs ≡ Some k
    → seen ≡ map (is_given (take i entries)) cs → set seen k true ≡ map (is_given (take (i + 1) entries)) cs
seen_more cs entries i k e seen one h item r s =
    ap (λ (l : List Bool). set l k true) s
    ∙ stored-set (is_given (take i entries)) (is_given (take (i + 1) entries)) cs e.at k true one r
    (more entries i e e.at h item ∙ ap (λ (b : Bool). is_given (take i entries) e.at || b) (bytes_eq-same e.at) ∙ always (is_given (take i entries) e.at))
    (λ d apart. more entries i e d h item ∙ ap (λ (b : Bool). is_given (take i entries) d || b) (bytes_eq-apart e.at d apart) ∙ never (is_given (take i entries) d))

-- the mark of an entry tells whether one before it has its coordinates
pub seen_tells : (cs : List (List ℕ)) (entries : List Given) (i k : ℕ) (e : Given) (seen : List Bool) → position (λ d. bytes_eq d e.at) cs ≡ Some k → seen ≡ map (is_given (take i entries)) cs
    → get_or seen k false ≡ is_given (take i entries) e.at
seen_tells cs entries i k e seen r s = ap (λ (l : List Bool). get_or l k false) s ∙ value_there (is_given (take i entries)) cs e.at k false r

-- no number is given
pub numbers_none : (cs : List (List ℕ)) (n i : ℕ) (entries : List Given) → n ≡ length cs → length entries ≤ i → replicate n 0 ≡ map (given_at (drop i entries)) cs
numbers_none cs n i entries e h = ap (λ (k : ℕ). replicate k 0) e ∙ stored-same (given_at (drop i entries)) cs 0 (λ c. ap (λ (es : List Given). given_at es c) (drop_all i entries h))

-- one more number is given, in front of the others
pub numbers_more : (cs : List (List ℕ)) (entries : List Given) (i m k : ℕ) (e : Given) (values : List ℕ) → Distinct cs → i < length entries → i + 1 ≡ m → e ≡ get_or entries i e → position (λ d. bytes_eq d e.at) cs ≡ Some k
    → values ≡ map (given_at (drop m entries)) cs → set values k e.value ≡ map (given_at (drop i entries)) cs
numbers_more cs entries i m k e values one h next item r s =
    ap (λ (l : List ℕ). set l k e.value) (s ∙ ap (λ (j : ℕ). map (given_at (drop j entries)) cs) (sym next))
    ∙ stored-set (given_at (drop (i + 1) entries)) (given_at (e ∷ drop (i + 1) entries)) cs e.at k e.value one r (given_here e (drop (i + 1) entries)) (λ d apart. given_elsewhere e (drop (i + 1) entries) d apart)
    ∙ ap (λ (es : List Given). map (given_at es) cs) (sym (opened entries i e h item))

-- a number that is given nowhere in the list changes nothing
pub numbers_kept : (cs : List (List ℕ)) (entries : List Given) (i m : ℕ) (e : Given) (values : List ℕ) → Distinct cs → i < length entries → i + 1 ≡ m → e ≡ get_or entries i e → position (λ d. bytes_eq d e.at) cs ≡ None
    → values ≡ map (given_at (drop m entries)) cs → values ≡ map (given_at (drop i entries)) cs
numbers_kept cs entries i m e values one h next item r s =
    s ∙ ap (λ (j : ℕ). map (given_at (drop j entries)) cs) (sym next) ∙ stored-kept (given_at (drop (i + 1) entries)) (given_at (e ∷ drop (i + 1) entries)) cs e.at one r (λ d apart. given_elsewhere e (drop (i + 1) entries) d apart)
    ∙ ap (λ (es : List Given). map (given_at es) cs) (sym (opened entries i e h item))

-- where no entry is wrong, each lies in the shape
pub entries_inside : (ns : List ℕ) (entries : List Given) → ((j : ℕ) → j < length entries → offence ns entries j ≡ None) → All (λ e. IsSome (row_major ns e.at)) entries
entries_inside ns entries none k d h = by_number (row_major ns (get_or entries k d).at) refl
  where
    by_number : (r : Option ℕ) → row_major ns (get_or entries k d).at ≡ r → IsSome (row_major ns (get_or entries k d).at)
    by_number (Some n) q = ap (λ (o : Option ℕ). is_some o) q
    by_number None q = absurd (wrong (slice_get_read entries (length entries) k (get_or entries k d) refl h (again entries k d h)))
      where
        again : (xs : List Given) (k : ℕ) (d : Given) → k < length xs → get_or xs k d ≡ get_or xs k (get_or xs k d)
        again [] k d h = absurd (omega arith)
        again (x ∷ xs) zero d h = refl
        again (x ∷ xs) (suc k) d h = again xs k d (omega arith)

        told : (o : Option Given) → o ≡ Some (get_or entries k d) → unwrap_or (option_map (λ e. cond (is_none (row_major ns e.at)) (Some (ends.OutOfShape (k + 1))) (cond (list_any (λ f. bytes_eq f.at e.at) (take k entries)) (Some (ends.Repeated (k + 1))) None)) o) None ≡ Some (ends.OutOfShape (k + 1))
        told o e = rw (e, q) refl

        wrong : slice_get entries k ≡ Some (get_or entries k d) → ⊥
        wrong e = let bad : ◌≡◌ {A = Option PackEnd} (Some (ends.OutOfShape (k + 1))) None = sym (told (slice_get entries k) e) ∙ none k h in cc
