-- The key as one list of numbers orders operations as what it is made of does.
use Rattle.std.proofs.Common.{◌≡◌, ℕ, suc, ◌<◌, ◌≤◌, Bool, true, false, ◌&&◌, ◌||◌, List, [], ◌∷◌, ◌++◌, refl, sym, ap, ◌∙◌, arith, map, length, append_assoc}
use Rattle.std.specs.Prelude.{nat_lt, nat_eq}
use Rattle.std.specs.List.{AllByRecursion}
use Rattle.std.specs.Str.{bytes_eq}
use Rattle.std.proofs.lemmas.Bool.{eqb-true, and_parts}
use Rattle.dt_model.specs.PositionLaws.{is_before}
use Rattle.dt_plan.specs.declared.kind.Kind.{Kind}
use Rattle.dt_plan.specs.declared.kind.Kind.TheVariants.{Zero, Alloc, Copy, Task, Fold, Free}
use Rattle.dt_plan.specs.declared.ops.Op.{Op}
use Rattle.dt_plan.specs.Operations.{path_end, key_of, lengthened, before_path, after_path, comes_before}

-- neither of two lists begins the other, unless they are the same
abbrev pub Fork : List ℕ → List ℕ → Type 0
Fork [] [] = Unit {0}
Fork [] (y ∷ ys) = ⊥
Fork (x ∷ xs) [] = ⊥
Fork (x ∷ xs) (y ∷ ys) = x ≡ y → Fork xs ys

-- lists behind fronts that fork are ordered by the fronts first
pub fork_order : (a b xs ys : List ℕ) → Fork a b → is_before (a ++ xs) (b ++ ys) ≡ (is_before a b || (bytes_eq a b && is_before xs ys))
fork_order [] [] xs ys h = refl
fork_order [] (y ∷ b) xs ys h = absurd h
fork_order (x ∷ a) [] xs ys h = absurd h
fork_order (x ∷ a) (y ∷ b) xs ys h = go (nat_lt x y) (nat_eq x y) (λ e. fork_order a b xs ys (h (eqb-true x y e)))
  where
    go : (l e : Bool) → (e ≡ true → is_before (a ++ xs) (b ++ ys) ≡ (is_before a b || (bytes_eq a b && is_before xs ys)))
        → (l || (e && is_before (a ++ xs) (b ++ ys))) ≡ ((l || (e && is_before a b)) || ((e && bytes_eq a b) && is_before xs ys))
    go true e f = refl
    go false true f = f refl
    go false false f = refl

-- no value of a path is an end that is there
no_value : (k : Kind) (j n : ℕ) → j < 4294967296 → (path_end k ≡ 1 → suc n ≤ 0) → path_end k ≡ suc j → ⊥
no_value Task j n b f e = let l = f refl in omega (arith, l)
no_value Fold j n b f e = omega (arith, b, e)
no_value Free j n b f e = omega (arith, b, e)
no_value Zero j n b f e = omega (arith, e)
no_value Alloc j n b f e = omega (arith, e)
no_value Copy j n b f e = omega (arith, e)

-- Lengthened paths fork: their values are below 2^32, and no path is longer than a task's.
pub paths_fork : (k l : Kind) (p q : List ℕ) → AllByRecursion (λ i. i < 4294967296) p → AllByRecursion (λ i. i < 4294967296) q
    → (path_end k ≡ 1 → length q ≤ length p) → (path_end l ≡ 1 → length p ≤ length q) → Fork (map suc p ++ (path_end k ∷ [])) (map suc q ++ (path_end l ∷ []))
paths_fork k l [] [] a b f g = λ e. tt
paths_fork k l [] (j ∷ q) a b f g = λ e. absurd (no_value k j (length q) b.0 f e)
paths_fork k l (i ∷ p) [] a b f g = λ e. absurd (no_value l i (length p) a.0 g (sym e))
paths_fork k l (i ∷ p) (j ∷ q) a b f g = λ e. paths_fork k l p q a.1 b.1 (λ h. (let n = f h in omega (arith, n))) (λ h. (let n = g h in omega (arith, n)))

-- The key orders operations of one statement as what it is made of does, and those of different statements too.
pub key_orders : (o p : Op) → (o.stmt ≡ p.stmt → Fork (lengthened o) (lengthened p)) → is_before (key_of o) (key_of p) ≡ comes_before o p
key_orders o p h =
    ap (λ (l : List ℕ). is_before (key_of o) (before_path p ++ l)) (sym (append_assoc (map suc p.path) (path_end p.kind ∷ []) (after_path p)))
    ∙ ap (λ (l : List ℕ). is_before (before_path o ++ l) (before_path p ++ (lengthened p ++ after_path p))) (sym (append_assoc (map suc o.path) (path_end o.kind ∷ []) (after_path o)))
    ∙ fork_order (before_path o) (before_path p) (lengthened o ++ after_path o) (lengthened p ++ after_path p) (λ a b c. tt)
    ∙ go (bytes_eq (before_path o) (before_path p)) (λ e. fork_order (lengthened o) (lengthened p) (after_path o) (after_path p) (h (eqb-true o.stmt p.stmt (and_parts (nat_eq o.stmt p.stmt) _ e).0)))
  where
    go : (b : Bool)
        → (b ≡ true → is_before (lengthened o ++ after_path o) (lengthened p ++ after_path p) ≡ (is_before (lengthened o) (lengthened p) || (bytes_eq (lengthened o) (lengthened p) && is_before (after_path o) (after_path p))))
        → (is_before (before_path o) (before_path p) || (b && is_before (lengthened o ++ after_path o) (lengthened p ++ after_path p)))
        ≡ (is_before (before_path o) (before_path p) || (b && (is_before (lengthened o) (lengthened p) || (bytes_eq (lengthened o) (lengthened p) && is_before (after_path o) (after_path p)))))
    go true f = ap (λ c. is_before (before_path o) (before_path p) || c) (f refl)
    go false f = refl
