-- Entries and the indices where they stand.
use Rattle.std.proofs.Common.{◌≡◌, ℕ, ◌+◌, ◌<◌, ◌≤◌, List, [], ◌∷◌, length, get_or, take, drop, map, refl, ap, sym, ◌∙◌, arith, Option, Some, None, is_some, is_none, option_map, unwrap_or, slice_get, Bool, true, false, ◌||◌, cond, replicate}
use Rattle.std.proofs.Math.ListN.{set}
use Rattle.std.specs.List.{find, list_any}
use Rattle.std.specs.Option.{option_and_then}
use Rattle.std.specs.Str.{bytes_eq}
use Rattle.std.proofs.lemmas.List.{drop_more, drop_all}
use Rattle.std.proofs.lemmas.List.Folds.{list_any_more}
use Rattle.std.proofs.lemmas.Option.{slice_get_read}
use Rattle.dt_base.specs.Ranges.{below, assignments}
use Rattle.dt_base.specs.Rows.{product, row_major}
use Rattle.dt_tensor.specs.Packing.{given_at, offence, first_offence}
use Rattle.dt_tensor.specs.declared.entry.Given.{Given}
use Rattle.dt_tensor.specs.declared.packing.PackEnd.{PackEnd}
use Rattle.dt_tensor.specs.declared.packing.PackEnd.TheVariants as ends
use Rattle.dt_base.proofs.Firsts.{bytes_eq-same, bytes_eq-apart, find-below-none, find-below-some}
use Rattle.dt_tensor.proofs.Tables.{table-there, table-same, table-set, table-kept}

-- whether one of these entries has these coordinates
abbrev pub is_given : List Given → List ℕ → Bool
is_given entries c = list_any (λ e. bytes_eq e.at c) entries

-- no entry has been seen
pub marks_none : (ns : List ℕ) (entries : List Given) → replicate (product ns) false ≡ map (is_given (take 0 entries)) (assignments ns)
marks_none ns entries = table-same (is_given (take 0 entries)) ns false (λ c. none entries c)
  where
    none : (entries : List Given) (c : List ℕ) → is_given (take 0 entries) c ≡ false
    none [] c = refl
    none (e ∷ es) c = refl

-- one more entry is seen
pub marks_more : (ns : List ℕ) (entries : List Given) (i k : ℕ) (e : Given) (seen : List Bool) → i < length entries → e ≡ get_or entries i e → row_major ns e.at ≡ Some k
    → seen ≡ map (is_given (take i entries)) (assignments ns) → set seen k true ≡ map (is_given (take (i + 1) entries)) (assignments ns)
marks_more ns entries i k e seen h item r s =
    ap (λ (l : List Bool). set l k true) s
    ∙ table-set (is_given (take i entries)) (is_given (take (i + 1) entries)) ns e.at k true r
    (more entries i e e.at h item ∙ ap (λ (b : Bool). is_given (take i entries) e.at || b) (bytes_eq-same e.at) ∙ always (is_given (take i entries) e.at))
    (λ d apart. more entries i e d h item ∙ ap (λ (b : Bool). is_given (take i entries) d || b) (bytes_eq-apart e.at d apart) ∙ never (is_given (take i entries) d))
  where
    more : (entries : List Given) (i : ℕ) (e : Given) (c : List ℕ) → i < length entries → e ≡ get_or entries i e → is_given (take (i + 1) entries) c ≡ (is_given (take i entries) c || bytes_eq e.at c)
    more entries i e c h item = list_any_more (λ f. bytes_eq f.at c) entries i e h ∙ ap (λ (f : Given). is_given (take i entries) c || bytes_eq f.at c) (sym item)

    always : (a : Bool) → (a || true) ≡ true
    always true = refl
    always false = refl

    never : (a : Bool) → (a || false) ≡ a
    never true = refl
    never false = refl

-- the mark at the number of an entry tells whether one before it has its coordinates
pub mark_tells : (ns : List ℕ) (entries : List Given) (i k : ℕ) (e : Given) (seen : List Bool) → row_major ns e.at ≡ Some k → seen ≡ map (is_given (take i entries)) (assignments ns)
    → get_or seen k false ≡ is_given (take i entries) e.at
mark_tells ns entries i k e seen r s = ap (λ (l : List Bool). get_or l k false) s ∙ table-there (is_given (take i entries)) ns e.at k false r

-- what is wrong with an entry, by its number and its mark
offence_by : ℕ → Option ℕ → Bool → Option PackEnd
offence_by i r b = cond (is_none r) (Some (ends.OutOfShape (i + 1))) (cond b (Some (ends.Repeated (i + 1))) None)

offence_is : (ns : List ℕ) (entries : List Given) (i : ℕ) (e : Given) (r : Option ℕ) (b : Bool) → i < length entries → e ≡ get_or entries i e → row_major ns e.at ≡ r
    → is_given (take i entries) e.at ≡ b → offence ns entries i ≡ offence_by i r b
unfolding offence_by
offence_is ns entries i e r b h item q s =
    let found : slice_get entries i ≡ Some e = slice_get_read entries (length entries) i e refl h item in
    rw (found, q, s) refl

-- an entry out of the shape, one that repeats, and one with nothing wrong
pub offence_outside : (ns : List ℕ) (entries : List Given) (i : ℕ) (e : Given) → i < length entries → e ≡ get_or entries i e → row_major ns e.at ≡ None
    → offence ns entries i ≡ Some (ends.OutOfShape (i + 1))
unfolding offence_by
offence_outside ns entries i e h item q = offence_is ns entries i e None (is_given (take i entries) e.at) h item q refl

pub offence_repeated : (ns : List ℕ) (entries : List Given) (i k : ℕ) (e : Given) → i < length entries → e ≡ get_or entries i e → row_major ns e.at ≡ Some k
    → is_given (take i entries) e.at ≡ true → offence ns entries i ≡ Some (ends.Repeated (i + 1))
unfolding offence_by
offence_repeated ns entries i k e h item q s = offence_is ns entries i e (Some k) true h item q s

pub offence_none : (ns : List ℕ) (entries : List Given) (i k : ℕ) (e : Given) → i < length entries → e ≡ get_or entries i e → row_major ns e.at ≡ Some k
    → is_given (take i entries) e.at ≡ false → offence ns entries i ≡ None
unfolding offence_by
offence_none ns entries i k e h item q s = offence_is ns entries i e (Some k) false h item q s

-- the first that passes of a mapped list
find-map : {A B : Type 0} (p : B → Bool) (f : A → B) (xs : List A) → find p (map f xs) ≡ option_map f (find (λ x. p (f x)) xs)
find-map p f [] = refl
find-map p f (x ∷ xs) = by_test p f x xs (p (f x)) (find-map p f xs)
  where
    by_test : {A B : Type 0} (p : B → Bool) (f : A → B) (x : A) (xs : List A) (b : Bool) → find p (map f xs) ≡ option_map f (find (λ x. p (f x)) xs)
        → cond b (Some (f x)) (find p (map f xs)) ≡ option_map f (cond b (Some x) (find (λ x. p (f x)) xs))
    by_test p f x xs true e = refl
    by_test p f x xs false e = e

-- the first offence, and none
pub first_offence-here : (ns : List ℕ) (entries : List Given) (i : ℕ) (end : PackEnd) → i < length entries → offence ns entries i ≡ Some end → ((j : ℕ) → j < i → offence ns entries j ≡ None)
    → Some end ≡ first_offence ns entries
first_offence-here ns entries i end h here before =
    sym (ap (λ (o : Option (Option PackEnd)). option_and_then (λ o. o) o)
    (find-map is_some (offence ns entries) (below (length entries))
    ∙ ap (λ (o : Option ℕ). option_map (offence ns entries) o)
    (find-below-some (λ j. is_some (offence ns entries j)) (length entries) i h (ap (λ (o : Option PackEnd). is_some o) here) (λ j lt. ap (λ (o : Option PackEnd). is_some o) (before j lt))))
    ∙ here)

pub first_offence-none : (ns : List ℕ) (entries : List Given) (i : ℕ) → length entries ≤ i → ((j : ℕ) → j < i → offence ns entries j ≡ None) → None ≡ first_offence ns entries
first_offence-none ns entries i h before =
    sym (ap (λ (o : Option (Option PackEnd)). option_and_then (λ o. o) o)
    (find-map is_some (offence ns entries) (below (length entries))
    ∙ ap (λ (o : Option ℕ). option_map (offence ns entries) o)
    (find-below-none (λ j. is_some (offence ns entries j)) (length entries) (λ j lt. ap (λ (o : Option PackEnd). is_some o) (before j (omega arith))))))

-- no number is given
pub values_none : (ns : List ℕ) (entries : List Given) (i : ℕ) → length entries ≤ i → replicate (product ns) 0 ≡ map (given_at (drop i entries)) (assignments ns)
values_none ns entries i h = table-same (given_at (drop i entries)) ns 0 (λ c. ap (λ (es : List Given). given_at es c) (drop_all i entries h))

-- one more number is given, in front of the others
pub given_here : (e : Given) (es : List Given) → given_at (e ∷ es) e.at ≡ e.value
given_here e es = ap (λ (b : Bool). unwrap_or (option_map (λ e. e.value) (cond b (Some e) (find (λ f. bytes_eq f.at e.at) es))) 0) (bytes_eq-same e.at)

-- numbers elsewhere are those of the others
pub given_elsewhere : (e : Given) (es : List Given) (d : List ℕ) → (e.at ≡ d → ⊥) → given_at (e ∷ es) d ≡ given_at es d
given_elsewhere e es d apart = ap (λ (b : Bool). unwrap_or (option_map (λ e. e.value) (cond b (Some e) (find (λ f. bytes_eq f.at d) es))) 0) (bytes_eq-apart e.at d apart)

-- the entries from one on begin with it
pub opened : (entries : List Given) (i : ℕ) (e : Given) → i < length entries → e ≡ get_or entries i e → drop i entries ≡ e ∷ drop (i + 1) entries
opened entries i e h item = drop_more entries i e h ∙ ap (λ (f : Given). f ∷ drop (i + 1) entries) (sym item)

pub values_more : (ns : List ℕ) (entries : List Given) (i m k : ℕ) (e : Given) (values : List ℕ) → i < length entries → i + 1 ≡ m → e ≡ get_or entries i e → row_major ns e.at ≡ Some k
    → values ≡ map (given_at (drop m entries)) (assignments ns) → set values k e.value ≡ map (given_at (drop i entries)) (assignments ns)
values_more ns entries i m k e values h next item r s =
    ap (λ (l : List ℕ). set l k e.value) (s ∙ ap (λ (j : ℕ). map (given_at (drop j entries)) (assignments ns)) (sym next))
    ∙ table-set (given_at (drop (i + 1) entries)) (given_at (e ∷ drop (i + 1) entries)) ns e.at k e.value r (given_here e (drop (i + 1) entries)) (λ d apart. given_elsewhere e (drop (i + 1) entries) d apart)
    ∙ ap (λ (es : List Given). map (given_at es) (assignments ns)) (sym (opened entries i e h item))

-- a number that is given nowhere in the shape changes nothing
pub values_kept : (ns : List ℕ) (entries : List Given) (i m : ℕ) (e : Given) (values : List ℕ) → i < length entries → i + 1 ≡ m → e ≡ get_or entries i e → row_major ns e.at ≡ None
    → values ≡ map (given_at (drop m entries)) (assignments ns) → values ≡ map (given_at (drop i entries)) (assignments ns)
values_kept ns entries i m e values h next item r s =
    s ∙ ap (λ (j : ℕ). map (given_at (drop j entries)) (assignments ns)) (sym next) ∙ table-kept (given_at (drop (i + 1) entries)) (given_at (e ∷ drop (i + 1) entries)) ns e.at r (λ d apart. given_elsewhere e (drop (i + 1) entries) d apart)
    ∙ ap (λ (es : List Given). map (given_at es) (assignments ns)) (sym (opened entries i e h item))

-- the number of an entry, as a look-up told it
pub found_number : (ns at c : List ℕ) (found r : Option ℕ) → found ≡ row_major ns at → at ≡ c → found ≡ r → row_major ns c ≡ r
found_number ns at c found r told same is = ap (λ (a : List ℕ). row_major ns a) (sym same) ∙ sym told ∙ is
