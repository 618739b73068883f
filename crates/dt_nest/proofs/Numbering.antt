-- First numbers in lists, and tables that note them.
use Rattle.std.proofs.Common.{◌≡◌, ℕ, zero, suc, ◌+◌, ◌<◌, Bool, true, false, cond, not, ◌||◌, nat_lt, List, [], ◌∷◌, ◌++◌, length, take, drop, Option, Some, None, refl, sym, ap, ◌∙◌, subst, arith}
use Rattle.std.specs.Prelude.{position, slice_get, option_map}
use Rattle.std.specs.List.{position_or_len}
use Rattle.std.specs.Map.{lookup}
use Rattle.std.specs.Str.{bytes_eq}
use Rattle.std.proofs.lemmas.Grind.{common_steps}
use Rattle.std.specs.Prelude.{is_some}
use Rattle.std.specs.List.{list_any}
use Rattle.std.proofs.lemmas.List.{take-append-drop}
use Rattle.std.proofs.lemmas.List.Quantifiers.{position-Some}
use Rattle.std.specs.Prelude.{Result, Ok, Err, OnOk, OnErr, IfSome}
use Rattle.std.proofs.lemmas.Slice.Eq.{bytes_eq-Decides}
use Rattle.dt_base.proofs.Firsts.{bytes_eq-is, bytes_eq-swap}
use Rattle.dt_nest.specs.NameTables.{AreNumbered, number_at, there}

-- one further
abbrev next : Option ℕ → Option ℕ
next None = None
next (Some k) = Some (1 + k)

-- the first number at which the test passes
abbrev number : {X : Type 0} → (X → Bool) → List X → Option ℕ
number t [] = None
number t (x ∷ xs) = cond (t x) (Some 0) (next (number t xs))

some_same : {X : Type 0} {a b : X} → Some a ≡ Some b → a ≡ b
some_same h = cc

shifted : (k n : ℕ) (b : Bool) → nat_lt k n ≡ b → nat_lt (1 + k) (1 + n) ≡ b
shifted k n true h = grind (arith, common_steps)
shifted k n false h = grind (arith, common_steps)

-- it is what `position` says
number-position : {X : Type 0} (t : X → Bool) (xs : List X) → number t xs ≡ position t xs
number-position t [] = refl
number-position {X} t (x ∷ xs) = go (t x) (nat_lt (position_or_len t xs) (length xs)) refl (number-position t xs)
  where
    step : (less : Bool) → nat_lt (position_or_len t xs) (length xs) ≡ less → next (cond less (Some (position_or_len t xs)) None) ≡ cond (nat_lt (1 + position_or_len t xs) (1 + length xs)) (Some (1 + position_or_len t xs)) None
    step true e = sym (ap (λ (b : Bool). cond b (Some (1 + position_or_len t xs)) None) (shifted (position_or_len t xs) (length xs) true e))
    step false e = sym (ap (λ (b : Bool). cond b (Some (1 + position_or_len t xs)) None) (shifted (position_or_len t xs) (length xs) false e))

    long : length (x ∷ xs) ≡ 1 + length xs
    long = grind arith

    begins : nat_lt 0 (length (x ∷ xs)) ≡ true
    begins = grind (arith, common_steps)

    go : (b less : Bool) → nat_lt (position_or_len t xs) (length xs) ≡ less → number t xs ≡ cond less (Some (position_or_len t xs)) None
        → cond b (Some 0) (next (number t xs)) ≡ cond (nat_lt (cond (not b) (1 + position_or_len t xs) 0) (length (x ∷ xs))) (Some (cond (not b) (1 + position_or_len t xs) 0)) None
    go true less e deeper = sym (ap (λ (b : Bool). cond b (Some 0) None) begins)
    go false less e deeper = ap next deeper ∙ step less e ∙ sym (ap (λ (n : ℕ). cond (nat_lt (1 + position_or_len t xs) n) (Some (1 + position_or_len t xs)) None) long)

-- a first number stays with more elements behind
number-grows : {X : Type 0} (t : X → Bool) (xs ys : List X) (i : ℕ) → number t xs ≡ Some i → number t (xs ++ ys) ≡ Some i
number-grows t [] ys i h = absurd (cc)
number-grows {X} t (x ∷ xs) ys i h = go (t x) (number t xs) (λ j. number-grows t xs ys j) h
  where
    go : (b : Bool) (r : Option ℕ) → ((j : ℕ) → r ≡ Some j → number t (xs ++ ys) ≡ Some j) → cond b (Some 0) (next r) ≡ Some i → cond b (Some 0) (next (number t (xs ++ ys))) ≡ Some i
    go true r deeper h = h
    go false None deeper h = absurd (cc)
    go false (Some j) deeper h = ap next (deeper j refl) ∙ h

-- a first number with one more element behind is one without, or that of the new element
number-push : {X : Type 0} (A : Type 0) (t : X → Bool) (xs : List X) (x : X) (i : ℕ) → number t (xs ++ x ∷ []) ≡ Some i
    → (number t xs ≡ Some i → A) → (t x ≡ true → length xs ≡ i → A) → A
number-push {X} A t [] x i h old new = go (t x) refl h
  where
    go : (b : Bool) → t x ≡ b → cond b (Some 0) None ≡ Some i → A
    go true e h = new e (some_same h)
    go false e h = absurd (cc)
number-push {X} A t (y ∷ ys) x i h old new = go (t y) refl (number t (ys ++ x ∷ [])) (λ B j. number-push B t ys x j) h
  where
    long : (j : ℕ) → length ys ≡ j → length (y ∷ ys) ≡ 1 + j
    long j e = grind arith

    go : (b : Bool) → t y ≡ b → (r : Option ℕ) → ((B : Type 0) (j : ℕ) → r ≡ Some j → (number t ys ≡ Some j → B) → (t x ≡ true → length ys ≡ j → B) → B) → cond b (Some 0) (next r) ≡ Some i → A
    go true b r deeper h = old (ap (λ (c : Bool). cond c (Some 0) (next (number t ys))) b ∙ h)
    go false b None deeper h = absurd (cc)
    go false b (Some j) deeper h = deeper A j refl
        (λ o. old (ap (λ (c : Bool). cond c (Some 0) (next (number t ys))) b ∙ ap next o ∙ h))
        (λ p l. new p (long j l ∙ some_same h))

-- what is at a first number passes the test
number-at : {X : Type 0} (A : Type 0) (t : X → Bool) (xs : List X) (i : ℕ) → number t xs ≡ Some i → ((x : X) → slice_get xs i ≡ Some x → t x ≡ true → A) → A
number-at A t [] i h k = absurd (cc)
number-at {X} A t (y ∷ ys) i h k = go (t y) refl (number t ys) (λ j. number-at A t ys j) h
  where
    go : (b : Bool) → t y ≡ b → (r : Option ℕ) → ((j : ℕ) → r ≡ Some j → ((x : X) → slice_get ys j ≡ Some x → t x ≡ true → A) → A) → cond b (Some 0) (next r) ≡ Some i → A
    go true b r deeper h = k y (subst (λ (n : ℕ). slice_get (y ∷ ys) n ≡ Some y) (some_same h) refl) b
    go false b None deeper h = absurd (cc)
    go false b (Some j) deeper h = deeper j refl (λ x s p. k x (subst (λ (n : ℕ). slice_get (y ∷ ys) n ≡ Some x) (later j ∙ some_same h) s) p)
      where
        later : (j : ℕ) → suc j ≡ 1 + j
        later j = omega arith

-- where some element passes the test there is a first number
number-some : {X : Type 0} (A : Type 0) (t : X → Bool) (xs : List X) (i : ℕ) (x : X) → slice_get xs i ≡ Some x → t x ≡ true → ((k : ℕ) → number t xs ≡ Some k → A) → A
number-some A t [] i x s p k = absurd (cc)
number-some {X} A t (y ∷ ys) zero x s p k = k 0 (ap (λ (c : Bool). cond c (Some 0) (next (number t ys))) (ap t (some_same s) ∙ p))
number-some {X} A t (y ∷ ys) (suc i) x s p k = number-some A t ys i x s p (λ j e. go (t y) refl j e)
  where
    go : (b : Bool) → t y ≡ b → (j : ℕ) → number t ys ≡ Some j → A
    go true b j e = k 0 (ap (λ (c : Bool). cond c (Some 0) (next (number t ys))) b)
    go false b j e = k (1 + j) (ap (λ (c : Bool). cond c (Some 0) (next (number t ys))) b ∙ ap next e)

-- Names ---------------------------------------------------------------------------------------------------------------

abbrev is : List ℕ → List ℕ → Bool
is name = λ n. bytes_eq n name

-- a name that is told apart isn't the one at a number
pub at_same : (names : List (List ℕ)) (k : ℕ) (n name : List ℕ) → slice_get names k ≡ Some n → n ≡ name → number_at names (Some k) name ≡ Some k
at_same names k n name s e = ap (there name k) s ∙ ap (λ (b : Bool). cond b (Some k) None) ((bytes_eq-Decides n name).1 e)

-- a name is among names where it has a first number
pub any-position : (names : List (List ℕ)) (name : List ℕ) → is_some (position (is name) names) ≡ list_any (bytes_eq name) names
any-position names name = ap is_some (sym (number-position (is name) names)) ∙ any names
  where
    step : (x : List ℕ) (xs : List (List ℕ)) (a b : Bool) → a ≡ b → is_some (number (is name) xs) ≡ list_any (bytes_eq name) xs → is_some (cond a (Some 0) (next (number (is name) xs))) ≡ (b || list_any (bytes_eq name) xs)
    step x xs true true e h = refl
    step x xs true false e h = absurd (cc)
    step x xs false true e h = absurd (cc)
    step x xs false false e h = further (number (is name) xs) ∙ h
      where
        further : (r : Option ℕ) → is_some (next r) ≡ is_some r
        further None = refl
        further (Some k) = refl

    any : (xs : List (List ℕ)) → is_some (number (is name) xs) ≡ list_any (bytes_eq name) xs
    any [] = refl
    any (x ∷ xs) = step x xs (bytes_eq x name) (bytes_eq name x) (bytes_eq-swap x name) (any xs)

-- what is noted is the first number
pub numbered_find : (names : List (List ℕ)) (numbers : List (List ℕ × ℕ)) → AreNumbered names numbers → (name : List ℕ) → number_at names (lookup (bytes_eq name) numbers) name ≡ position (is name) names
numbered_find names numbers notes name = go (lookup (bytes_eq name) numbers) (number (is name) names) refl refl ∙ number-position (is name) names
  where
    noted : (k : ℕ) → number (is name) names ≡ Some k → lookup (bytes_eq name) numbers ≡ Some k
    noted k e = notes name k (sym (number-position (is name) names) ∙ e)

    clash : (b : Bool) → b ≡ true → b ≡ false → ⊥
    clash b t f = absurd (cc)

    nowhere : (k j : ℕ) → lookup (bytes_eq name) numbers ≡ Some k → number (is name) names ≡ Some j → slice_get names k ≡ None → ⊥
    nowhere k j l e s = number-at ⊥ (is name) names j e (λ x at t. absurd (let same : k ≡ j = some_same (sym l ∙ noted j e) in cc))

    other : (k j : ℕ) (n : List ℕ) → lookup (bytes_eq name) numbers ≡ Some k → number (is name) names ≡ Some j → slice_get names k ≡ Some n → bytes_eq n name ≡ false → ⊥
    other k j n l e s f = number-at ⊥ (is name) names j e (λ x at t. let same : k ≡ j = some_same (sym l ∙ noted j e) in let found : x ≡ n = some_same (sym at ∙ ap (slice_get names) (sym same) ∙ s) in clash (bytes_eq n name) (ap (is name) (sym found) ∙ t) f)

    at : (k : ℕ) (r : Option ℕ) (o : Option (List ℕ)) → lookup (bytes_eq name) numbers ≡ Some k → number (is name) names ≡ r → slice_get names k ≡ o → there name k o ≡ r
    at k None None l e s = refl
    at k (Some j) None l e s = absurd (nowhere k j l e s)
    at k r (Some n) l e s = told (bytes_eq n name) r refl e
      where
        told : (b : Bool) (r : Option ℕ) → bytes_eq n name ≡ b → number (is name) names ≡ r → cond b (Some k) None ≡ r
        told true r t e = number-some (Some k ≡ r) (is name) names k n s t (λ j p. sym l ∙ noted j p ∙ sym p ∙ e)
        told false None t e = refl
        told false (Some j) t e = absurd (other k j n l e s t)

    go : (o r : Option ℕ) → lookup (bytes_eq name) numbers ≡ o → number (is name) names ≡ r → number_at names o name ≡ r
    go None None l e = refl
    go None (Some k) l e = absurd (let n = noted k e in cc)
    go (Some k) r l e = at k r (slice_get names k) l e refl

-- the first names have their numbers still
pub numbered_take : (names : List (List ℕ)) (numbers : List (List ℕ × ℕ)) (n : ℕ) → AreNumbered names numbers → AreNumbered (take n names) numbers
numbered_take names numbers n notes name k h =
    notes name k (sym (number-position (is name) names) ∙ ap (number (is name)) (sym (take-append-drop n names)) ∙ number-grows (is name) (take n names) (drop n names) k (number-position (is name) (take n names) ∙ h))

-- a name behind others that has a number has it still
pub numbered_known : (names : List (List ℕ)) (numbers : List (List ℕ × ℕ)) (n : List ℕ) (j : ℕ) → AreNumbered names numbers → position (is n) names ≡ Some j → AreNumbered (names ++ n ∷ []) numbers
numbered_known names numbers n j notes first name k h =
    number-push (lookup (bytes_eq name) numbers ≡ Some k) (is name) names n k (number-position (is name) (names ++ n ∷ []) ∙ h)
    (λ old. notes name k (sym (number-position (is name) names) ∙ old))
    (λ t l. let had : position (is name) names ≡ Some j = ap (λ (m : List ℕ). position (is m) names) (sym (bytes_eq-is n name t)) ∙ first in
    notes name j had ∙ sym (number-grows (is name) names (n ∷ []) j (number-position (is name) names ∙ had)) ∙ number-position (is name) (names ++ n ∷ []) ∙ h)

-- one more number is noted
abbrev pub Adds : List (List ℕ) → List (List ℕ × ℕ) → List (List ℕ × ℕ) → List ℕ → Type 0
Adds names numbers new n = (name : List ℕ) → lookup (bytes_eq name) new ≡ cond (bytes_eq n name) (Some (length names)) (lookup (bytes_eq name) numbers)

-- the same by a copy of the name and the names as they are read
pub adds_as : (names shown : List (List ℕ)) (numbers new : List (List ℕ × ℕ)) (key n : List ℕ) → key ≡ n → shown ≡ names
    → ((name : List ℕ) → lookup (bytes_eq name) new ≡ cond (bytes_eq key name) (Some (length shown)) (lookup (bytes_eq name) numbers)) → Adds names numbers new n
adds_as names shown numbers new key n k s a name = a name ∙ ap (λ (m : List ℕ). cond (bytes_eq m name) (Some (length shown)) (lookup (bytes_eq name) numbers)) k ∙ ap (λ (ns : List (List ℕ)). cond (bytes_eq n name) (Some (length ns)) (lookup (bytes_eq name) numbers)) s

module _ (names : List (List ℕ)) (numbers new : List (List ℕ × ℕ)) (n : List ℕ) (notes : AreNumbered names numbers) (none : position (is n) names ≡ None) (adds : Adds names numbers new n) where
  missing : (name : List ℕ) (k : ℕ) → bytes_eq n name ≡ true → position (is name) names ≡ Some k → ⊥
  missing name k t h = absurd (let e : position (is name) names ≡ None = ap (λ (m : List ℕ). position (is m) names) (sym (bytes_eq-is n name t)) ∙ none in cc)

  other_name : (name : List ℕ) (k : ℕ) → bytes_eq n name ≡ false → position (is name) names ≡ Some k → lookup (bytes_eq name) new ≡ Some k
  other_name name k f h = adds name ∙ ap (λ (b : Bool). cond b (Some (length names)) (lookup (bytes_eq name) numbers)) f ∙ notes name k h

  -- the names have their numbers still
  pub numbered_before : AreNumbered names new
  numbered_before name k h = go (bytes_eq n name) refl
    where
      go : (b : Bool) → bytes_eq n name ≡ b → lookup (bytes_eq name) new ≡ Some k
      go true t = absurd (missing name k t h)
      go false f = other_name name k f h

  -- and the new name has its number
  pub numbered_new : AreNumbered (names ++ n ∷ []) new
  numbered_new name k h = go (bytes_eq n name) refl
    where
      go : (b : Bool) → bytes_eq n name ≡ b → lookup (bytes_eq name) new ≡ Some k
      go true t = number-push (lookup (bytes_eq name) new ≡ Some k) (is name) names n k (number-position (is name) (names ++ n ∷ []) ∙ h)
          (λ old. absurd (missing name k t (sym (number-position (is name) names) ∙ old)))
          (λ u l. adds name ∙ ap (λ (b : Bool). cond b (Some (length names)) (lookup (bytes_eq name) numbers)) t ∙ ap (λ (m : ℕ). Some m) l)
      go false f = number-push (lookup (bytes_eq name) new ≡ Some k) (is name) names n k (number-position (is name) (names ++ n ∷ []) ∙ h)
          (λ old. other_name name k f (sym (number-position (is name) names) ∙ old))
          (λ u l. absurd (cc))

-- after a push that may have failed
pub numbered_pushed : {A E : Type 0} (r : Result A E) (names more new : List (List ℕ)) (numbers : List (List ℕ × ℕ)) → OnOk r (new ≡ more) → OnErr r (new ≡ names)
    → AreNumbered names numbers → AreNumbered more numbers → AreNumbered new numbers
numbered_pushed (Ok x) names more new numbers ok err old all = subst (λ (ns : List (List ℕ)). AreNumbered ns numbers) (sym ok) all
numbered_pushed (Err e) names more new numbers ok err old all = subst (λ (ns : List (List ℕ)). AreNumbered ns numbers) (sym err) old

-- a first number is within the list
pub position-within : (t : List ℕ → Bool) (xs : List (List ℕ)) (r : Option ℕ) → r ≡ position t xs → IfSome r (λ k. k < length xs)
position-within t xs None e = tt
position-within t xs (Some k) e = (position-Some t xs k [] (sym e)).0
