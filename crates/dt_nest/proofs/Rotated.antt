-- Sums of values of variables, of which one may be outside.
use Rattle.std.proofs.Common.{◌≡◌, ℕ, zero, suc, ◌+◌, ◌%◌, ◌<◌, List, [], ◌∷◌, take, get_or, length, Option, Some, None, option_map, refl, sym, ap, ◌∙◌}
use Rattle.std.specs.Prelude.{max}
use Rattle.std.proofs.lemmas.List.Sums.{fold_more}
use Rattle.std.proofs.Math.Nat.{mod-add-mod}
use Rattle.dt_nest.specs.declared.derivations.Derive.{Derive}
use Rattle.dt_nest.specs.declared.derivations.Derive.TheVariants.{Rotate}
use Rattle.dt_nest.specs.Meaning.{World}
use Rattle.dt_nest.specs.Values.{joined, sum_inside, derived_inside}

-- a sum with a number that isn't there
pub sum_none : (val : ℕ → Option ℕ) (us : List ℕ) → sum_inside val None us ≡ None
sum_none val [] = refl
sum_none val (u ∷ us) = sum_none val us

pub ruleset sums = (sum_none)

first_more : (extent sum : ℕ) (s x : Option ℕ) (y : ℕ) → Some sum ≡ option_map (λ n. n % extent) s → x ≡ Some y → Some ((sum + y) % extent) ≡ option_map (λ n. n % extent) (joined (λ a b. a + b) s x)
first_more extent sum None x y e f = absurd (cc)
first_more extent sum (Some a) None y e f = absurd (cc)
first_more extent sum (Some a) (Some b) y e f =
    let p : sum ≡ a % extent = cc in let q : b ≡ y = cc in
    ap (λ (n : ℕ). Some ((n + y) % extent)) p ∙ ap (λ (n : ℕ). Some ((a % extent + n) % extent)) (sym q) ∙ ap Some (mod-add-mod a extent b)

first_none : (s x : Option ℕ) → x ≡ None → joined (λ a b. a + b) s x ≡ None
first_none None x e = refl
first_none (Some a) None e = refl
first_none (Some a) (Some b) e = absurd (cc)

-- one more number of a sum modulo an extent
pub sum_step : (val : ℕ → Option ℕ) (extent start sum i y : ℕ) (us : List ℕ) → i < length us → Some sum ≡ option_map (λ n. n % extent) (sum_inside val (Some start) (take i us)) → val (get_or us i 0) ≡ Some y
    → Some ((sum + y) % extent) ≡ option_map (λ n. n % extent) (sum_inside val (Some start) (take (i + 1) us))
sum_step val extent start sum i y us l e f =
    first_more extent sum (sum_inside val (Some start) (take i us)) (val (get_or us i 0)) y e f
    ∙ ap (option_map (λ n. n % extent)) (sym (fold_more (λ s u. joined (λ a b. a + b) s (val u)) (Some start) us i 0 l))

drops : (val : ℕ → Option ℕ) (start : Option ℕ) (us : List ℕ) (i : ℕ) → sum_inside val start (take i us) ≡ None → sum_inside val start us ≡ None
drops val start us zero e = ap (λ (s : Option ℕ). sum_inside val s us) e ∙ sum_none val us
drops val start [] (suc i) e = e
drops val start (u ∷ us) (suc i) e = drops val (joined (λ a b. a + b) start (val u)) us i e

-- a number that isn't there leaves no sum
pub sum_stops : (val : ℕ → Option ℕ) (extent start i : ℕ) (us : List ℕ) → i < length us → val (get_or us i 0) ≡ None → None ≡ option_map (λ n. n % extent) (sum_inside val (Some start) us)
sum_stops val extent start i us l f =
    sym (ap (option_map (λ n. n % extent)) (drops val (Some start) us (i + 1) (fold_more (λ s u. joined (λ a b. a + b) s (val u)) (Some start) us i 0 l ∙ first_none (sum_inside val (Some start) (take i us)) (val (get_or us i 0)) f)))

-- the value of a rotated variable, where the loop itself has the value x
pub rotate_ok : (w : World) (v base extent m x : ℕ) (by list : List ℕ) (how : Derive) (val : ℕ → Option ℕ) (r : Option ℕ) → how ≡ Rotate base by extent → val base ≡ Some x → list ≡ by → m ≡ max extent 1
    → r ≡ option_map (λ n. n % m) (sum_inside val (Some x) list) → r ≡ derived_inside w v how val
rotate_ok w v base extent m x by list how val r e f l k h =
    h ∙ ap (λ (k : ℕ). option_map (λ n. n % k) (sum_inside val (Some x) list)) k
    ∙ ap (λ (l : List ℕ). option_map (λ n. n % max extent 1) (sum_inside val (Some x) l)) l ∙ ap (λ (o : Option ℕ). option_map (λ n. n % max extent 1) (sum_inside val o by)) (sym f) ∙ ap (λ (d : Derive). derived_inside w v d val) (sym e)
