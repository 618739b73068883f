-- A statement that passes its tests writes a dense tensor that its right side doesn't read.
use Rattle.std.proofs.Common.{◌≡◌, ℕ, ◌<◌, List, [], ◌∷◌, ◌++◌, length, map, get_or, find, Bool, true, false, ◌||◌, nat_eq, nat_lt, Option, Some, None, unwrap_or, option_map, is_none, refl, sym, ap, ◌∙◌, subst, inl, inr, arith, true≢false}
use Rattle.std.specs.Prelude.{position}
use Rattle.std.specs.List.{filter_map, flat_map, list_any, position_or_len}
use Rattle.std.specs.Option.{option_or}
use Rattle.std.specs.Str.{bytes_eq}
use Rattle.std.proofs.lemmas.Bool.Decides.{nat_tests}
use Rattle.std.proofs.lemmas.List.Folds.{find-append}
use Rattle.std.proofs.lemmas.List.Sums.{passes_at_first}
use Rattle.dt_text.proofs.WordLemmas.{bool_cases}
use Rattle.dt_model.specs.declared.stmt.Stmt.{Stmt}
use Rattle.dt_index.specs.Known.{Known, place_of, is_dense_at}
use Rattle.dt_index.specs.Reads.{factor_reads, right_side_reads, term_reads}
use Rattle.dt_index.specs.Resolve.{access_in, has_dense_output, numbered_factor, numbered_term, output_read, right_accesses, stmt_by, term_accesses, unknown_tensor}
use Rattle.dt_index.specs.declared.form.Form.{Form}
use Rattle.dt_index.specs.declared.form.NamedAccess.{NamedAccess}
use Rattle.dt_index.specs.declared.form.NamedFactor.{NamedFactor}
use Rattle.dt_index.specs.declared.form.NamedFactor.TheVariants as named
use Rattle.dt_index.specs.declared.form.NamedTerm.{NamedTerm}
use Rattle.dt_index.specs.declared.occurrence_list.Occurrence.{Occurrence}
use Rattle.dt_base.proofs.Firsts.{bytes_eq-is, bytes_eq-same}
use Rattle.dt_index.proofs.OccurrenceFacts.{found_step, option_map-none}

dense_place : (tensors : List Known) (place : Option ℕ) → unwrap_or (option_map (is_dense_at tensors) place) false ≡ true → is_dense_at tensors (unwrap_or place 0) ≡ true
dense_place tensors None h = cc
dense_place tensors (Some k) h = h

-- the left tensor that passes its test is dense
pub dense_left : (tensors : List Known) (variables : List (List ℕ)) (os : List Occurrence) (f : Form) (s : Stmt) → s ≡ stmt_by tensors variables os f → has_dense_output tensors f ≡ true → is_dense_at tensors s.lhs.tensor ≡ true
dense_left tensors variables os f s e h =
    let P : Stmt → Type 0 = λ t. is_dense_at tensors t.lhs.tensor ≡ true in
    subst P (sym e) (dense_place tensors (place_of f.lhs.tensor tensors) h)

-- a place that is there is the first one that passes
placed : {A : Type 0} (p : A → Bool) (xs : List A) → is_none (position p xs) ≡ false → (position_or_len p xs < length xs) × (unwrap_or (position p xs) 0 ≡ position_or_len p xs)
placed p xs h = elim (bool_cases (nat_lt (position_or_len p xs) (length xs))) [
  | inl e ↦ (grind (arith, nat_tests), rw e refl)
  | inr e ↦ absurd (true≢false (sym (rw e refl) ∙ h))
]

same_name : (tensors : List Known) (a l : List ℕ) (i j : ℕ) (d : Known) → i ≡ j → bytes_eq (get_or tensors i d).name a ≡ true → bytes_eq (get_or tensors j d).name l ≡ true → bytes_eq a l ≡ true
same_name tensors a l i j d e p q =
    let same : a ≡ l = sym (bytes_eq-is (get_or tensors i d).name a p) ∙ ap (λ (k : ℕ). (get_or tensors k d).name) e ∙ bytes_eq-is (get_or tensors j d).name l q in
    ap (λ (n : List ℕ). bytes_eq n l) same ∙ bytes_eq-same l

-- tensors of other names have other places
places_differ : (tensors : List Known) (a l : List ℕ) → is_none (place_of a tensors) ≡ false → is_none (place_of l tensors) ≡ false → bytes_eq a l ≡ false
    → nat_eq (unwrap_or (place_of a tensors) 0) (unwrap_or (place_of l tensors) 0) ≡ false
places_differ tensors a l ha hl ne =
    let d : Known = record { name = []; extents = []; dense = true } in
    let pa = placed (λ (t : Known). bytes_eq t.name a) tensors ha in
    let pl = placed (λ (t : Known). bytes_eq t.name l) tensors hl in
    let i : ℕ = position_or_len (λ (t : Known). bytes_eq t.name a) tensors in
    let j : ℕ = position_or_len (λ (t : Known). bytes_eq t.name l) tensors in
    ap (λ (n : ℕ). nat_eq n (unwrap_or (place_of l tensors) 0)) pa.1 ∙ ap (λ (n : ℕ). nat_eq i n) pl.1
    ∙ elim (bool_cases (nat_eq i j)) [
      | inl e ↦ (let s : i ≡ j = grind (arith, nat_tests) in
          absurd (true≢false (sym (same_name tensors a l i j d s (passes_at_first (λ (t : Known). bytes_eq t.name a) tensors d pa.0) (passes_at_first (λ (t : Known). bytes_eq t.name l) tensors d pl.0)) ∙ ne)))
      | inr e ↦ e
    ]

none_both : {A : Type 0} (a b : Option A) → option_or a b ≡ None → (a ≡ None) × (b ≡ None)
none_both None b h = (refl, h)
none_both (Some x) b h = cc

-- whether no tensor has the name of an access
abbrev is_strange : List Known → NamedAccess → Bool
is_strange tensors a = is_none (place_of a.tensor tensors)

-- whether an access has this tensor's name
abbrev is_of : List ℕ → NamedAccess → Bool
is_of name a = bytes_eq a.tensor name

-- a search through a list and one behind it that finds nothing finds nothing in either
both_empty : (p : NamedAccess → Bool) (front rest : List NamedAccess) → find p (front ++ rest) ≡ None → (find p front ≡ None) × (find p rest ≡ None)
both_empty p front rest h = none_both (find p front) (find p rest) (sym (find-append p front rest) ∙ h)

module _ (tensors : List Known) (variables : List (List ℕ)) (left : List ℕ) (stands : is_none (place_of left tensors) ≡ false) where
  factors_unread : (fs : List NamedFactor) → find (is_strange tensors) (filter_map access_in fs) ≡ None → find (is_of left) (filter_map access_in fs) ≡ None
      → list_any (factor_reads (unwrap_or (place_of left tensors) 0)) (map (numbered_factor tensors variables) fs) ≡ false
  factors_unread [] u o = refl
  factors_unread (named.Literal n ∷ fs) u o = factors_unread fs u o
  factors_unread (named.Read a ∷ fs) u o =
      let x = found_step a (is_strange tensors a) (find (is_strange tensors) (filter_map access_in fs)) u in
      let y = found_step a (is_of left a) (find (is_of left) (filter_map access_in fs)) o in
      ap (λ (b : Bool). b || list_any (factor_reads (unwrap_or (place_of left tensors) 0)) (map (numbered_factor tensors variables) fs)) (places_differ tensors a.tensor left x.0 stands y.0)
      ∙ factors_unread fs x.1 y.1

  terms_unread : (ts : List NamedTerm) → find (is_strange tensors) (flat_map term_accesses ts) ≡ None → find (is_of left) (flat_map term_accesses ts) ≡ None
      → list_any (term_reads (unwrap_or (place_of left tensors) 0)) (map (numbered_term tensors variables) ts) ≡ false
  terms_unread [] u o = refl
  terms_unread (t ∷ ts) u o =
      let x = both_empty (is_strange tensors) (term_accesses t) (flat_map term_accesses ts) u in
      let y = both_empty (is_of left) (term_accesses t) (flat_map term_accesses ts) o in
      ap (λ (b : Bool). b || list_any (term_reads (unwrap_or (place_of left tensors) 0)) (map (numbered_term tensors variables) ts)) (factors_unread t.factors x.0 y.0)
      ∙ terms_unread ts x.1 y.1

-- a statement over known tensors whose left one stands nowhere on the right side doesn't read it
pub unread_left : (tensors : List Known) (variables : List (List ℕ)) (os : List Occurrence) (f : Form) (s : Stmt) → s ≡ stmt_by tensors variables os f → unknown_tensor tensors f ≡ None → output_read f ≡ None
    → right_side_reads s.lhs.tensor s ≡ false
unread_left tensors variables os f s e u o =
    let known = found_step f.lhs (is_strange tensors f.lhs) (find (is_strange tensors) (right_accesses f)) (option_map-none _ (find (is_strange tensors) (f.lhs ∷ right_accesses f)) u) in
    let P : Stmt → Type 0 = λ t. right_side_reads t.lhs.tensor t ≡ false in
    subst P (sym e) (terms_unread tensors variables f.lhs.tensor known.0 f.terms known.1 (option_map-none _ (find (is_of f.lhs.tensor) (right_accesses f)) o))
