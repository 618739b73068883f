-- What tests say where they give no cause.
use Rattle.std.proofs.Common.{◌≡◌, ℕ, ◌+◌, ◌≤◌, Bool, true, false, not, ◌&&◌, List, [], ◌∷◌, ◌++◌, map, Option, Some, None, refl, sym, ap, ◌∙◌, subst, append_assoc}
use Rattle.std.specs.Prelude.{option_map, find, if◌then◌else◌, nat_eq, nat_le}
use Rattle.std.specs.List.{AllByRecursion, IsDistinct, list_any}
use Rattle.std.specs.Str.{bytes_eq}
use Rattle.std.proofs.lemmas.Bool.{and_parts, leb-true, not-false, or_parts}
use Rattle.std.proofs.lemmas.Cmp.{nat_list_eq_equiv}
use Rattle.dt_model.specs.declared.cause.Cause.{Cause}
use Rattle.dt_model.specs.declared.cause.Cause.TheVariants as cause
use Rattle.dt_cuts.specs.declared.cuts.Head.{Head}
use Rattle.dt_nest.specs.Tree.{has_loop, loop_count}
use Rattle.dt_nest.specs.Questions.{is_among, is_fixed}
use Rattle.dt_nest.specs.Schedule.{Schedule}
use Rattle.dt_cuts.specs.Cutting.{AreFree}
use Rattle.dt_nest.specs.PartNames.{name_of}
use Rattle.dt_cuts.specs.Causes.{bad_number, too_many_loops, first_cause, unless, first_with, unknown_loop, taken_name, free_tests, not_free}

-- where there is no cause, no test gives one
pub all_pass : (tests : List (Option Cause)) → first_cause tests ≡ None → AllByRecursion (λ test. test ≡ None) tests
all_pass [] h = tt
all_pass (None ∷ tests) h = (refl, all_pass tests h)
all_pass (Some c ∷ tests) h = absurd (cc)

-- what has to hold does
pub test_holds : (b : Bool) (c : Cause) → unless b c ≡ None → b ≡ true
test_holds true c h = refl
test_holds false c h = absurd (cc)

-- where no cause is made, there was nothing to make it of
pub nothing_made : {X : Type 0} (f : X → Cause) (o : Option X) → option_map f o ≡ None → o ≡ None
nothing_made f None h = refl
nothing_made f (Some x) h = absurd (cc)

-- where no loop is found, the test fails at each
pub none_with : (test : ℕ → Bool) (c : ℕ → Cause) (vs : List ℕ) → first_with test c vs ≡ None → AllByRecursion (λ v. test v ≡ false) vs
none_with test c [] h = tt
none_with test c (v ∷ vs) h = go (test v) refl h (λ h. none_with test c vs h)
  where
    go : (b : Bool) → test v ≡ b → option_map c (if b then Some v else find test vs) ≡ None → (first_with test c vs ≡ None → AllByRecursion (λ v. test v ≡ false) vs) → (test v ≡ false) × AllByRecursion (λ v. test v ≡ false) vs
    go true e h r = let t : Some (c v) ≡ None = h in absurd (cc)
    go false e h r = (e, r h)

-- known loops are loops of the nest
pub loops_known : (s : Schedule) (vs : List ℕ) → unknown_loop s vs ≡ None → AllByRecursion (λ v. has_loop v s.nest ≡ true) vs
loops_known s vs h = walk vs (none_with (λ v. not (has_loop v s.nest)) (λ v. cause.UnknownLoop (name_of s v)) vs h)
  where
    walk : (vs : List ℕ) → AllByRecursion (λ v. not (has_loop v s.nest) ≡ false) vs → AllByRecursion (λ v. has_loop v s.nest ≡ true) vs
    walk [] h = tt
    walk (v ∷ vs) h = (not-false (has_loop v s.nest) h.0, walk vs h.1)

-- a name that stands nowhere among others, behind them
differ_push : (names : List (List ℕ)) (n : List ℕ) → IsDistinct bytes_eq names → list_any (bytes_eq n) names ≡ false → IsDistinct bytes_eq (names ++ n ∷ [])
unfolding IsDistinct
differ_push [] n d h = (tt, tt)
differ_push (x ∷ xs) n d h =
    let p : (bytes_eq n x ≡ false) × (list_any (bytes_eq n) xs ≡ false) = or_parts (bytes_eq n x) (list_any (bytes_eq n) xs) h in
    (more xs d.0 (nat_list_eq_equiv.symm x n ∙ p.0), differ_push xs n d.1 p.1)
  where
    more : (ys : List (List ℕ)) → AllByRecursion (λ y. bytes_eq x y ≡ false) ys → bytes_eq x n ≡ false → AllByRecursion (λ y. bytes_eq x y ≡ false) (ys ++ n ∷ [])
    more [] h e = (e, tt)
    more (y ∷ ys) h e = (h.0, more ys h.1 e)

-- new names that aren't taken differ from all
pub names_differ : (names new : List (List ℕ)) → IsDistinct bytes_eq names → taken_name names new ≡ None → IsDistinct bytes_eq (names ++ new)
names_differ names [] d h = subst (λ (xs : List (List ℕ)). IsDistinct bytes_eq xs) (sym (nil names)) d
  where
    nil : (xs : List (List ℕ)) → xs ++ [] ≡ xs
    nil [] = refl
    nil (x ∷ xs) = ap (λ ys. x ∷ ys) (nil xs)
names_differ names (n ∷ ns) d h = go (list_any (bytes_eq n) names) refl h (λ d h. names_differ (names ++ n ∷ []) ns d h)
  where
    go : (b : Bool) → list_any (bytes_eq n) names ≡ b → (if b then Some (cause.NameTaken n) else taken_name (names ++ n ∷ []) ns) ≡ None
        → (IsDistinct bytes_eq (names ++ n ∷ []) → taken_name (names ++ n ∷ []) ns ≡ None → IsDistinct bytes_eq ((names ++ n ∷ []) ++ ns)) → IsDistinct bytes_eq (names ++ n ∷ ns)
    go true e h r = let t : Some (cause.NameTaken n) ≡ None = h in absurd (cc)
    go false e h r = subst (λ (xs : List (List ℕ)). IsDistinct bytes_eq xs) (append_assoc names (n ∷ []) ns) (r (differ_push names n d e) h)

-- a number that is not bad is from 1 to 65,536
pub number_fits : (n : ℕ) → bad_number n ≡ None → (1 ≤ n) × (n ≤ 65536)
number_fits n h =
    let p = and_parts (nat_le 1 n) (nat_le n 65536) (test_holds (nat_le 1 n && nat_le n 65536) cause.BadNumber h) in
    (leb-true 1 n p.0, leb-true n 65536 p.1)

-- where one loop more is not too many, there is room for it
pub room_left : (s : Schedule) → too_many_loops s ≡ None → loop_count s.nest + 1 ≤ 16
room_left s h = leb-true (loop_count s.nest + 1) 16 (test_holds (nat_le (loop_count s.nest + 1) 16) cause.TooManyLoops h)

-- What holds of free loops.
pub record FreeLoops (s : Schedule) (vs : List ℕ) : Type 0 where
  pub undistributed : AllByRecursion (λ v. is_among s.distributed v s.nest ≡ false) vs
  pub unmoved : AllByRecursion (λ v. list_any (λ m. nat_eq m.at v) s.moved ≡ false) vs
  pub plain : AllByRecursion (λ v. is_fixed v s.nest ≡ false) vs

-- that is what it says that loops are free
pub loops_free : (s : Schedule) (vs : List ℕ) → not_free s vs ≡ None → FreeLoops s vs
loops_free s vs h =
    let a = all_pass (free_tests s vs) h in
    record {
      undistributed = none_with (λ v. is_among s.distributed v s.nest) (λ v. cause.Distributed (name_of s v)) vs a.0;
      unmoved = none_with (λ v. list_any (λ m. nat_eq m.at v) s.moved) (λ v. cause.Communicated (name_of s v)) vs a.1.0;
      plain = none_with (λ v. is_fixed v s.nest) (λ v. cause.Fixed (name_of s v)) vs a.1.1.0;
    }

-- so loops that go are free
pub heads_free : (s : Schedule) (hs : List Head) → FreeLoops s (map (λ (h : Head). h.var) hs) → AreFree hs s
heads_free s hs f = walk hs f.undistributed f.unmoved
  where
    walk : (hs : List Head) → AllByRecursion (λ v. is_among s.distributed v s.nest ≡ false) (map (λ (h : Head). h.var) hs) → AllByRecursion (λ v. list_any (λ m. nat_eq m.at v) s.moved ≡ false) (map (λ (h : Head). h.var) hs) → AreFree hs s
    walk [] a b = tt
    walk (h ∷ hs) a b = ((a.0, b.0), walk hs a.1 b.1)
