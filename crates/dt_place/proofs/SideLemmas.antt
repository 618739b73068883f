-- What the machine's dimensions leave of a side, one after another.
use Rattle.std.proofs.Common.{◌≡◌, ℕ, ◌+◌, ◌<◌, ◌≤◌, List, ◌∷◌, length, drop, get_or, ap, sym, ◌∙◌}
use Rattle.std.specs.List.{AllByRecursion}
use Rattle.std.proofs.lemmas.List.{drop_more, drop_all}
use Rattle.std.proofs.lemmas.List.Elements.{All-from_recursion, All-get_or}
use Rattle.dt_place.specs.Homes.{cut_of, side_of}
use Rattle.dt_place.specs.declared.placements.Symbol.{Symbol}
use Rattle.dt_place.specs.declared.sides.Side.{Side}

-- one more dimension of the machine
pub side_more : (d : ℕ) (ys : List Symbol) (ps qs : List ℕ) (i : ℕ) (y : Symbol) (s whole : Side) → i < length ys → i < length ps → i < length qs
    → side_of d (drop i ys) (drop i ps) (drop i qs) s ≡ whole → side_of d (drop (i + 1) ys) (drop (i + 1) ps) (drop (i + 1) qs) (cut_of (get_or ys i y) d (get_or ps i 0) (get_or qs i 0) s) ≡ whole
side_more d ys ps qs i y s whole h k l e =
    sym (ap (λ (zs : List Symbol). side_of d zs (drop i ps) (drop i qs) s) (drop_more ys i y h)
    ∙ ap (λ (zs : List ℕ). side_of d (get_or ys i y ∷ drop (i + 1) ys) zs (drop i qs) s) (drop_more ps i 0 k)
    ∙ ap (λ (zs : List ℕ). side_of d (get_or ys i y ∷ drop (i + 1) ys) (get_or ps i 0 ∷ drop (i + 1) ps) zs s) (drop_more qs i 0 l)) ∙ e

-- all dimensions
pub side_end : (d : ℕ) (ys : List Symbol) (ps qs : List ℕ) (i : ℕ) (s whole : Side) → length ys ≤ i → side_of d (drop i ys) (drop i ps) (drop i qs) s ≡ whole → s ≡ whole
side_end d ys ps qs i s whole h e = sym (ap (λ (zs : List Symbol). side_of d zs (drop i ps) (drop i qs) s) (drop_all i ys h)) ∙ e

-- a dimension of the machine is not 0
pub dim_some : (ps : List ℕ) (i : ℕ) → AllByRecursion (λ n. 1 ≤ n) ps → i < length ps → 1 ≤ get_or ps i 0
dim_some ps i each h = All-get_or (λ n. 1 ≤ n) ps i 0 h (All-from_recursion (λ n. 1 ≤ n) ps each)
