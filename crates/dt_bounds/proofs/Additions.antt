-- What is added to the numbers of a list, one addition after another.
use Rattle.std.proofs.Common.{◌≡◌, ℕ, zero, suc, ◌<◌, Bool, true, false, ◌||◌, ◌&&◌, List, [], ◌∷◌, length, get_or, refl, ap, sym, ◌∙◌, arith}
use Rattle.std.specs.Prelude.{nat_lt}
use Rattle.std.specs.List.{AllByRecursion, flat_map}
use Rattle.std.proofs.Math.Bool.{or_assoc}
use Rattle.dt_nest.proofs.Agree.{all_parts}
use Rattle.dt_runs.specs.Sets.{contains}
use Rattle.dt_bounds.specs.Found.{Adds}

and_or : (a b c : Bool) → ((a && b) || (a && c)) ≡ (a && (b || c))
and_or true b c = refl
and_or false b c = refl

-- the same test may be written otherwise
pub adds_same : (n : ℕ) (p q : ℕ → Bool) (old new : List ℕ) → ((x : ℕ) → p x ≡ q x) → Adds n p old new → Adds n q old new
adds_same n p q old new h a = record { members = λ x. a.members x ∙ ap (λ (b : Bool). contains old x || (nat_lt x n && b)) (h x) }

-- one addition after another
pub adds_then : (n : ℕ) (p q r : ℕ → Bool) (old mid new : List ℕ) → Adds n p old mid → Adds n q mid new → ((x : ℕ) → r x ≡ (p x || q x)) → Adds n r old new
adds_then n p q r old mid new a b h = record {
  members = λ x.
      b.members x ∙ ap (λ (c : Bool). c || (nat_lt x n && q x)) (a.members x) ∙ or_assoc (contains old x) (nat_lt x n && p x) (nat_lt x n && q x)
      ∙ ap (λ (c : Bool). contains old x || c) (and_or (nat_lt x n) (p x) (q x) ∙ ap (λ (c : Bool). nat_lt x n && c) (sym (h x)));
}

-- a fact of each element of the lists that a function makes is one of each element of one of them
pub all_part : {A B : Type 0} (P : B → Type 0) (f : A → List B) (xs : List A) (i : ℕ) (d : A) → AllByRecursion P (flat_map f xs) → i < length xs → AllByRecursion P (f (get_or xs i d))
all_part P f [] i d h l = absurd (omega arith)
all_part P f (x ∷ xs) zero d h l = (all_parts P (f x) (flat_map f xs) h).0
all_part P f (x ∷ xs) (suc i) d h l = all_part P f xs i d (all_parts P (f x) (flat_map f xs) h).1 (omega arith)
