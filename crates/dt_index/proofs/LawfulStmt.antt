-- A statement that passes all tests is one over the tensors that are known.
use Rattle.std.proofs.Common.{◌≡◌, ℕ, ◌<◌, ◌≤◌, List, [], ◌∷◌, ◌++◌, length, get_or, map, refl, ap, sym, ◌∙◌, arith, Bool, true, false, not, All, Option, Some, None, slice_index, slice_get, unwrap_or, option_map, is_none, nat_le}
use Rattle.std.specs.Prelude.{find, count_by, ◌==◌}
use Rattle.std.specs.List.{filter_map, flat_map}
use Rattle.std.specs.Str.{bytes_eq}
use Rattle.std.proofs.lemmas.Bool.{eqb-true}
use Rattle.std.proofs.lemmas.List.{length-map}
use Rattle.std.proofs.lemmas.List.Elements.{All-head, All-tail, All-cons, All-nil, All-map}
use Rattle.std.proofs.lemmas.List.Quantifiers.{position-Some}
use Rattle.std.proofs.lemmas.Option.{slice_get-map, slice_get-get_or}
use Rattle.dt_base.specs.Ranges.{below}
use Rattle.dt_model.specs.Stmts.{IsStmt, IsAccess, IsFactor, IsTerm}
use Rattle.dt_model.specs.declared.stmt.Factor.TheVariants as factor
use Rattle.dt_index.specs.Known.{Known, place_of, known_extents, shapes_of_known}
use Rattle.dt_index.specs.Resolve.{access_in, accesses_of, right_accesses, term_accesses, named_extents, access_occurrences, occurrences, distinct, variables_of, extent_of, unknown_tensor, wrong_order, lhs_repeats, extent_clash, number_in, numbered, numbered_factor, numbered_term, stmt_of}
use Rattle.dt_index.specs.declared.form.Form.{Form}
use Rattle.dt_index.specs.declared.form.NamedAccess.{NamedAccess}
use Rattle.dt_index.specs.declared.form.NamedFactor.{NamedFactor}
use Rattle.dt_index.specs.declared.form.NamedFactor.TheVariants as named
use Rattle.dt_index.specs.declared.occurrence_list.Occurrence.{Occurrence}
use Rattle.dt_index.proofs.NameFacts.{Differ, has, has-distinct, has-at, place-inside, number_in-place, numbers_back, numbers-front, distinct-front, none_twice}
use Rattle.dt_index.proofs.OccurrenceFacts.{find_none, not_not, option_map-none, first_extents, occurrence_members, All-flat_map, extents_match}

-- what the tests say of an access
pub record Passes (tensors : List Known) (names : List (List ℕ)) (os : List Occurrence) (a : NamedAccess) : Type 0 where
  pub known : is_none (place_of a.tensor tensors) ≡ false
  pub order : length a.vars ≡ length (named_extents tensors a.tensor)
  pub few : length (named_extents tensors a.tensor) ≤ 4
  pub members : All (λ v. has names v ≡ true) a.vars
  pub extents : map (extent_of os) a.vars ≡ named_extents tensors a.tensor

fitting : (tensors : List Known) (o : Option ℕ) → is_none o ≡ false → ((k : ℕ) → o ≡ Some k → k < length tensors)
    → slice_get (shapes_of_known tensors) (unwrap_or o 0) ≡ Some (unwrap_or (option_map (known_extents tensors) o) [])
fitting tensors None h l = cc
fitting tensors (Some k) h l =
    let dummy : Known = record { name = []; extents = []; dense = true } in
    let there : slice_get tensors k ≡ Some (get_or tensors k dummy) = slice_get-get_or tensors k dummy (l k refl) in
    slice_get-map (λ t. t.extents) tensors k ∙ rw there refl

-- a known tensor has the extents that its name gives
pub shape_there : (tensors : List Known) (name : List ℕ) → is_none (place_of name tensors) ≡ false
    → slice_get (shapes_of_known tensors) (unwrap_or (place_of name tensors) 0) ≡ Some (named_extents tensors name)
shape_there tensors name h =
    let dummy : Known = record { name = []; extents = []; dense = true } in
    fitting tensors (place_of name tensors) h (λ k e. (position-Some (λ t. bytes_eq t.name name) tensors k dummy e).0)

-- an access that passes is lawful by numbers
pub lawful_access : (tensors : List Known) (names : List (List ℕ)) (os : List Occurrence) (a : NamedAccess) → Passes tensors names os a
    → IsAccess (shapes_of_known tensors) (map (extent_of os) names) (numbered tensors names a)
lawful_access tensors names os a h =
    let back : map (λ v. slice_index (map (extent_of os) names) v) (map (number_in names) a.vars) ≡ named_extents tensors a.tensor = numbers_back (extent_of os) names a.vars h.members ∙ h.extents in
    record {
      variables = (
        omega (arith, length-map a.vars (number_in names), h.order, h.few),
        All-map (λ v. v < length (map (extent_of os) names)) (number_in names) a.vars
            (λ k d l. let inside : has names (get_or a.vars k d) ≡ true = h.members k d l in
            omega (arith, length-map names (extent_of os), place-inside names (get_or a.vars k d) inside, number_in-place names (get_or a.vars k d) inside)),
      );
      fits = shape_there tensors a.tensor h.known ∙ ap (λ (ns : List ℕ). Some ns) (sym back);
    }

-- all names of a statement's text
abbrev names_in : List NamedAccess → List (List ℕ)
names_in accesses = flat_map (λ a. a.vars) accesses

-- the variables of a statement have all names of its accesses
members : (accesses : List NamedAccess) → All (λ a. All (λ v. has (distinct (names_in accesses)) v ≡ true) a.vars) accesses
members accesses k d l = λ j e m.
    let names : List (List ℕ) = names_in accesses in
    let inside : All (λ v. has names v ≡ true) (get_or accesses k d).vars = All-flat_map (λ v. has names v ≡ true) (λ a. a.vars) accesses (λ i f n. has-at names i f n) k d l in
    has-distinct names (get_or (get_or accesses k d).vars j e) ∙ inside j e m

-- each access of a statement whose tests find nothing passes
pub all_pass : (tensors : List Known) (f : Form) → unknown_tensor tensors f ≡ None → wrong_order tensors f ≡ None → extent_clash (occurrences tensors f) (variables_of f) ≡ None
    → All (λ a. length (named_extents tensors a.tensor) ≤ 4) (accesses_of f) → All (λ a. Passes tensors (variables_of f) (occurrences tensors f) a) (accesses_of f)
all_pass tensors f u w e few k d l =
    let a : NamedAccess = get_or (accesses_of f) k d in
    let os : List Occurrence = occurrences tensors f in
    let unknown : find (λ a. is_none (place_of a.tensor tensors)) (accesses_of f) ≡ None = option_map-none _ (find (λ a. is_none (place_of a.tensor tensors)) (accesses_of f)) u in
    let wrong : find (λ a. not (length a.vars == length (named_extents tensors a.tensor))) (accesses_of f) ≡ None = option_map-none _ (find (λ a. not (length a.vars == length (named_extents tensors a.tensor))) (accesses_of f)) w in
    let order : length a.vars ≡ length (named_extents tensors a.tensor) =
    eqb-true (length a.vars) (length (named_extents tensors a.tensor)) (not_not (length a.vars == length (named_extents tensors a.tensor)) (find_none (λ a. not (length a.vars == length (named_extents tensors a.tensor))) (accesses_of f) k d wrong l)) in
    let firsts : All (λ o. extent_of os o.name ≡ o.extent) (access_occurrences tensors a) =
    All-flat_map (λ o. extent_of os o.name ≡ o.extent) (access_occurrences tensors) (accesses_of f) (first_extents os (variables_of f) (occurrence_members tensors (variables_of f) (accesses_of f) (members (accesses_of f))) e) k d l in
    record {
      known = find_none (λ a. is_none (place_of a.tensor tensors)) (accesses_of f) k d unknown l;
      order = order;
      few = few k d l;
      members = members (accesses_of f) k d l;
      extents = extents_match os a.vars (named_extents tensors a.tensor) order firsts;
    }

-- the left variables differ where none stands twice
pub left_differ : (f : Form) → lhs_repeats f ≡ None → Differ f.lhs.vars
left_differ f h = none_twice f.lhs.vars (option_map-none _ (find (λ v. nat_le 2 (count_by (λ w. bytes_eq w v) f.lhs.vars)) f.lhs.vars) h)

-- the left variables are the first ones of the statement
pub left_first : (f : Form) → lhs_repeats f ≡ None → (zs : List (List ℕ)) × (variables_of f ≡ f.lhs.vars ++ zs)
left_first f h = distinct-front f.lhs.vars (names_in (right_accesses f)) (left_differ f h)

-- so they are numbered 0, 1, ..
pub left_numbers : (f : Form) → lhs_repeats f ≡ None → map (number_in (variables_of f)) f.lhs.vars ≡ below (length (map (number_in (variables_of f)) f.lhs.vars))
left_numbers f h =
    let vars : List (List ℕ) = f.lhs.vars in
    let front : (zs : List (List ℕ)) × (variables_of f ≡ vars ++ zs) = left_first f h in
    rw (length-map vars (number_in (variables_of f))) (ap (λ (z : List (List ℕ)). map (number_in z) vars) front.1 ∙ numbers-front vars front.0 (left_differ f h))

factors_lawful : (tensors : List Known) (names : List (List ℕ)) (extents : List ℕ) (factors : List NamedFactor) → All (λ a. IsAccess (shapes_of_known tensors) extents (numbered tensors names a)) (filter_map access_in factors)
    → All (IsFactor (shapes_of_known tensors) extents) (map (numbered_factor tensors names) factors)
factors_lawful tensors names extents [] h = All-nil (IsFactor (shapes_of_known tensors) extents)
factors_lawful tensors names extents (named.Read a ∷ factors) h =
    All-cons (IsFactor (shapes_of_known tensors) extents) (factor.Read (numbered tensors names a)) (map (numbered_factor tensors names) factors) (All-head (λ a. IsAccess (shapes_of_known tensors) extents (numbered tensors names a)) a (filter_map access_in factors) h)
    (factors_lawful tensors names extents factors (All-tail (λ a. IsAccess (shapes_of_known tensors) extents (numbered tensors names a)) a (filter_map access_in factors) h))
factors_lawful tensors names extents (named.Literal n ∷ factors) h =
    All-cons (IsFactor (shapes_of_known tensors) extents) (factor.Literal (unwrap_or n 0)) (map (numbered_factor tensors names) factors) tt (factors_lawful tensors names extents factors h)

-- a statement whose tests find nothing is lawful
pub lawful_stmt : (tensors : List Known) (f : Form) → unknown_tensor tensors f ≡ None → wrong_order tensors f ≡ None → lhs_repeats f ≡ None → extent_clash (occurrences tensors f) (variables_of f) ≡ None
    → length (variables_of f) ≤ 8 → All (λ a. length (named_extents tensors a.tensor) ≤ 4) (accesses_of f) → IsStmt (shapes_of_known tensors) (stmt_of tensors f)
lawful_stmt tensors f u w r e n few =
    let names : List (List ℕ) = variables_of f in
    let os : List Occurrence = occurrences tensors f in
    let shapes : List (List ℕ) = shapes_of_known tensors in
    let extents : List ℕ = map (extent_of os) names in
    let each : All (λ a. Passes tensors names os a) (accesses_of f) = all_pass tensors f u w e few in
    let lawful : All (λ a. IsAccess shapes extents (numbered tensors names a)) (accesses_of f) = λ k d l. lawful_access tensors names os (get_or (accesses_of f) k d) (each k d l) in
    let right : All (λ t. All (λ a. IsAccess shapes extents (numbered tensors names a)) (term_accesses t)) f.terms =
    All-flat_map (λ a. IsAccess shapes extents (numbered tensors names a)) term_accesses f.terms (All-tail (λ a. IsAccess shapes extents (numbered tensors names a)) f.lhs (right_accesses f) lawful) in
    record {
      few = omega (arith, length-map names (extent_of os));
      left = left_numbers f r;
      target = All-head (λ a. IsAccess shapes extents (numbered tensors names a)) f.lhs (right_accesses f) lawful;
      terms = All-map (IsTerm shapes extents) (numbered_term tensors names) f.terms (λ k d l. factors_lawful tensors names extents (get_or f.terms k d).factors (right k d l));
    }

-- an answer that no case takes is none
pub none_left : {X : Type 0} (answer offender : Option X) → answer ≡ offender → ((x : X) → answer ≡ Some x → ⊥) → offender ≡ None
none_left None offender e h = sym e
none_left (Some x) offender e h = absurd (h x refl)
