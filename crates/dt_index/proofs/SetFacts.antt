-- What sets of names have after each step of a loop.
use Rattle.std.proofs.Common.{◌≡◌, ℕ, ◌+◌, ◌<◌, take, List, [], ◌∷◌, ◌++◌, length, get_or, refl, ap, sym, ◌∙◌, Bool, true, false, cond, not, ◌&&◌, ◌||◌, Option, Some, None, is_some, option_map}
use Rattle.std.specs.Prelude.{find, ◌==◌}
use Rattle.std.specs.List.{list_all, list_any}
use Rattle.std.specs.Map.{lookup}
use Rattle.std.specs.Option.{option_or}
use Rattle.std.specs.Str.{bytes_eq}
use Rattle.std.proofs.Math.Bool.{or-false, or-true}
use Rattle.std.proofs.lemmas.Bool.{cond-false, ne_eqb}
use Rattle.std.proofs.lemmas.List.{take_more}
use Rattle.std.proofs.lemmas.List.Folds.{find-append, list_all_more, list_any-append, list_any_more}
use Rattle.dt_model.specs.declared.cause.Cause.TheVariants as cause
use Rattle.dt_index.specs.NameSets.{among, among_common, noted, with_first, with_name}
use Rattle.dt_index.specs.Resolve.{is_uneven, term_has, uneven_reduction}
use Rattle.dt_index.specs.declared.form.Form.{Form}
use Rattle.dt_index.specs.declared.occurrence_list.Occurrence.{Occurrence}
use Rattle.dt_base.proofs.Firsts.{bytes_eq-is, bytes_eq-swap}

with_step : (names : List (List ℕ)) (x v : List ℕ) (b c : Bool) → among names x ≡ b → bytes_eq x v ≡ c → among (cond b names (names ++ x ∷ [])) v ≡ (among names v || c)
with_step names x v true true p t = ap (λ (w : List ℕ). among names w) (sym (bytes_eq-is x v t)) ∙ p ∙ sym (or-true (among names v))
with_step names x v true false p t = sym (or-false (among names v))
with_step names x v false c p t = list_any-append (λ w. bytes_eq w v) names (x ∷ []) ∙ ap (λ (z : Bool). among names v || z) (or-false (bytes_eq x v) ∙ t)

-- the names after one more
pub among-with_name : (names : List (List ℕ)) (x v : List ℕ) → among (with_name names x) v ≡ (among names v || bytes_eq x v)
among-with_name names x v = with_step names x v (among names x) (bytes_eq x v) refl refl

chosen_step : (test : List ℕ → Bool) (names : List (List ℕ)) (x v : List ℕ) (b c : Bool) → test x ≡ b → bytes_eq x v ≡ c → (among names v || (c && b)) ≡ (among names v || (c && test v))
chosen_step test names x v b true p t = ap (λ (z : Bool). among names v || z) (sym p ∙ ap (λ (w : List ℕ). test w) (bytes_eq-is x v t))
chosen_step test names x v b false p t = refl

and_true : (b : Bool) → b ≡ (b && true)
and_true true = refl
and_true false = refl

and_false : (b : Bool) → false ≡ (b && false)
and_false true = refl
and_false false = refl

-- the names after one more that passes a test
pub chosen_name : (test : List ℕ → Bool) (names new : List (List ℕ)) (x v : List ℕ) → test x ≡ true → new ≡ with_name names x → among new v ≡ (among names v || (bytes_eq x v && test v))
chosen_name test names new x v p n =
    ap (λ (z : List (List ℕ)). among z v) n ∙ among-with_name names x v ∙ ap (λ (z : Bool). among names v || z) (and_true (bytes_eq x v)) ∙ chosen_step test names x v true (bytes_eq x v) p refl

-- the names that stay where one fails the test
pub passed_over : (test : List ℕ → Bool) (names new : List (List ℕ)) (x v : List ℕ) → test x ≡ false → new ≡ names → among new v ≡ (among names v || (bytes_eq x v && test v))
passed_over test names new x v p n =
    ap (λ (z : List (List ℕ)). among z v) n ∙ sym (or-false (among names v)) ∙ ap (λ (z : Bool). among names v || z) (and_false (bytes_eq x v)) ∙ chosen_step test names x v false (bytes_eq x v) p refl

-- a test of some element, one element further
pub any_next : {X : Type 0} (p : X → Bool) (xs : List X) (i : ℕ) (x : X) (old new : Bool) → i < length xs → x ≡ get_or xs i x → old ≡ list_any p (take i xs) → new ≡ (old || p x) → new ≡ list_any p (take (i + 1) xs)
any_next {X} p xs i x old new l e o n =
    n ∙ ap (λ (z : Bool). z || p x) o ∙ ap (λ (y : X). list_any p (take i xs) || p y) e ∙ sym (list_any_more p xs i x l)

gathered : (a b c d : Bool) → ((a || (b && c)) || (d && c)) ≡ (a || ((b || d) && c))
gathered true b c d = refl
gathered false true true d = refl
gathered false true false d = sym (and_false d)
gathered false false c d = refl

-- the same of those that pass, beside what was there
pub kept_next : {X : Type 0} (p : X → Bool) (xs : List X) (i : ℕ) (x : X) (a c old new : Bool) → i < length xs → x ≡ get_or xs i x → old ≡ (a || (list_any p (take i xs) && c)) → new ≡ (old || (p x && c))
    → new ≡ (a || (list_any p (take (i + 1) xs) && c))
kept_next {X} p xs i x a c old new l e o n =
    n ∙ ap (λ (z : Bool). z || (p x && c)) o ∙ gathered a (list_any p (take i xs)) c (p x) ∙ ap (λ (z : Bool). a || (z && c)) (any_next p xs i x (list_any p (take i xs)) (list_any p (take i xs) || p x) l e refl refl)

and_swap : (a b : Bool) → (a && b) ≡ (b && a)
and_swap true b = and_true b
and_swap false b = and_false b

-- a test of all elements, one element further
pub all_further : {X : Type 0} (p : X → Bool) (xs : List X) (i : ℕ) (x : X) (old new : Bool) → i < length xs → x ≡ get_or xs i x → old ≡ list_all p (take i xs) → new ≡ (p x && old) → new ≡ list_all p (take (i + 1) xs)
all_further {X} p xs i x old new l e o n =
    n ∙ and_swap (p x) old ∙ ap (λ (z : Bool). z && p x) o ∙ ap (λ (y : X). list_all p (take i xs) && p y) e ∙ sym (list_all_more p xs i x l)

not_step : (b c d : Bool) → not c ≡ d → not (b && c) ≡ (not b || d)
not_step true c d h = h
not_step false c d h = refl

-- not all pass where some fails
pub not_all : {X : Type 0} (p : X → Bool) (xs : List X) → not (list_all p xs) ≡ list_any (λ x. not (p x)) xs
not_all p [] = refl
not_all p (x ∷ xs) = not_step (p x) (list_all p xs) (list_any (λ x. not (p x)) xs) (not_all p xs)

noted_step : (b : Bool) (n : ℕ) (rest old more : Option ℕ) → rest ≡ option_or old more → cond b (Some n) rest ≡ option_or (cond b (Some n) old) more
noted_step true n rest old more h = refl
noted_step false n rest old more h = h

noted-append : (es : List (List ℕ × ℕ)) (x : List ℕ) (n : ℕ) (v : List ℕ) → noted (es ++ (x, n) ∷ []) v ≡ option_or (noted es v) (cond (bytes_eq x v) (Some n) None)
noted-append [] x n v = refl
noted-append (e ∷ es) x n v = noted_step (bytes_eq e.0 v) e.1 (noted (es ++ (x, n) ∷ []) v) (noted es v) (cond (bytes_eq x v) (Some n) None) (noted-append es x n v)

some_stays : (o p : Option ℕ) → is_some o ≡ true → o ≡ option_or o p
some_stays None p h = cc
some_stays (Some n) p h = refl

or_none : (o : Option ℕ) → o ≡ option_or o None
or_none None = refl
or_none (Some n) = refl

first_step : (es : List (List ℕ × ℕ)) (x : List ℕ) (n : ℕ) (v : List ℕ) (b c : Bool) → is_some (noted es x) ≡ b → bytes_eq x v ≡ c → noted (cond b es (es ++ (x, n) ∷ [])) v ≡ option_or (noted es v) (cond c (Some n) None)
first_step es x n v true true p t = some_stays (noted es v) (Some n) (ap (λ (w : List ℕ). is_some (noted es w)) (sym (bytes_eq-is x v t)) ∙ p)
first_step es x n v true false p t = or_none (noted es v)
first_step es x n v false c p t = noted-append es x n v ∙ ap (λ (z : Bool). option_or (noted es v) (cond z (Some n) None)) t

map_or : (a b : Option Occurrence) → option_or (option_map (λ o. o.extent) a) (option_map (λ o. o.extent) b) ≡ option_map (λ o. o.extent) (option_or a b)
map_or None b = refl
map_or (Some o) b = refl

map_cond : (o : Occurrence) (b : Bool) → cond b (Some o.extent) None ≡ option_map (λ o. o.extent) (cond b (Some o) None)
map_cond o true = refl
map_cond o false = refl

-- the extents where variables first stand, one occurrence further
pub noted_next : (os : List Occurrence) (i : ℕ) (o : Occurrence) (old new : List (List ℕ × ℕ)) (v : List ℕ) → i < length os → o ≡ get_or os i o
    → noted old v ≡ option_map (λ o. o.extent) (find (λ o. bytes_eq o.name v) (take i os)) → new ≡ with_first old o.name o.extent
    → noted new v ≡ option_map (λ o. o.extent) (find (λ o. bytes_eq o.name v) (take (i + 1) os))
noted_next os i o old new v l e h n =
    let p : Occurrence → Bool = λ o. bytes_eq o.name v in
    let here : Option Occurrence = cond (bytes_eq o.name v) (Some o) None in
    let further : take (i + 1) os ≡ take i os ++ o ∷ [] = take_more os i o l ∙ ap (λ (y : Occurrence). take i os ++ y ∷ []) (sym e) in
    ap (λ (es : List (List ℕ × ℕ)). noted es v) n ∙ first_step old o.name o.extent v (is_some (noted old o.name)) (bytes_eq o.name v) refl refl
    ∙ ap (λ (m : Option ℕ). option_or m (cond (bytes_eq o.name v) (Some o.extent) None)) h
    ∙ ap (λ (m : Option ℕ). option_or (option_map (λ o. o.extent) (find p (take i os))) m) (map_cond o (bytes_eq o.name v))
    ∙ map_or (find p (take i os)) here ∙ ap (λ (m : Option Occurrence). option_map (λ o. o.extent) m) (sym (find-append p (take i os) (o ∷ [])))
    ∙ ap (λ (ys : List Occurrence). option_map (λ o. o.extent) (find p ys)) (sym further)

-- two numbers that differ
pub differ_test : (n m : ℕ) → (n ≡ m → ⊥) → not (n == m) ≡ true
differ_test n m h = ap (λ (b : Bool). not b) (ne_eqb n m h)

none_from : (o : Option ℕ) → is_some o ≡ false → o ≡ None
none_from None h = refl
none_from (Some n) h = cc

-- a variable that gets its extent
pub noted_new : (es old new : List (List ℕ × ℕ)) (x v : List ℕ) (n : ℕ) → es ≡ old → x ≡ v → is_some (noted old v) ≡ false → (lookup (bytes_eq x) es ≡ None → new ≡ es ++ (x, n) ∷ []) → new ≡ with_first old v n
noted_new es old new x v n s e h add =
    let swapped : lookup (bytes_eq x) es ≡ noted es x = λ i. lookup (λ w. bytes_eq-swap x w i) es in
    let gone : lookup (bytes_eq x) es ≡ None = swapped ∙ ap (λ (z : List (List ℕ × ℕ)). noted z x) s ∙ ap (λ (w : List ℕ). noted old w) e ∙ none_from (noted old v) h in
    add gone ∙ ap (λ (z : List (List ℕ × ℕ)). z ++ (x, n) ∷ []) s ∙ ap (λ (w : List ℕ). old ++ (w, n) ∷ []) e ∙ sym (cond-false (is_some (noted old v)) old (old ++ (v, n) ∷ []) h)

-- the first variable that the left side and some term lack
pub uneven_found : (f : Form) (vs left : List (List ℕ)) (common : Option (List (List ℕ))) (found : Option (List ℕ)) → left ≡ f.lhs.vars → ((v : List ℕ) → among_common common v ≡ list_all (term_has v) f.terms)
    → found ≡ find (λ v. not (among left v) && not (among_common common v)) vs → option_map cause.UnevenReduction found ≡ uneven_reduction f vs
uneven_found f vs left common found e h r =
    let same : (v : List ℕ) → (not (among left v) && not (among_common common v)) ≡ is_uneven f v =
    λ v. ap (λ (z : List (List ℕ)). not (among z v) && not (among_common common v)) e ∙ ap (λ (b : Bool). not (among f.lhs.vars v) && not b) (h v) ∙ ap (λ (b : Bool). not (among f.lhs.vars v) && b) (not_all (term_has v) f.terms) in
    let searches : find (λ v. not (among left v) && not (among_common common v)) vs ≡ find (is_uneven f) vs = λ i. find (λ v. same v i) vs in
    ap (λ (o : Option (List ℕ)). option_map cause.UnevenReduction o) (r ∙ searches)
