-- The placement that a line gives fits the machine.
use Rattle.std.proofs.Common.{◌≡◌, ℕ, ◌+◌, List, [], ◌∷◌, ◌++◌, length, refl, ap, sym, ◌∙◌, subst, arith, Bool, true, ◌&&◌, not, nat_eq, position, Result, Ok, Err}
use Rattle.std.specs.List.{AllZip, concat, list_all, zip}
use Rattle.std.proofs.lemmas.Bool.{and_parts, eqb-true}
use Rattle.dt_runs.specs.Sets.{contains}
use Rattle.dt_model.specs.declared.cause.Cause.{Cause}
use Rattle.dt_model.specs.declared.cause.Cause.TheVariants as cause
use Rattle.dt_model.specs.Steps.{◌>>=◌, need, found}
use Rattle.dt_model.proofs.StepFacts.{first_ok, same_ok}
use Rattle.dt_place.specs.PlaceLine.{have_dims, level_symbols, symbol_of, symbols_of}
use Rattle.dt_place.specs.Placements.{IsWithin}
use Rattle.dt_place.specs.declared.placements.Symbol.{Symbol}
use Rattle.dt_place.specs.declared.placements.Symbol.TheVariants.{Along}

-- a letter is within each dimension
symbol-within : (letters seen : List ℕ) (x : ℕ) (s : Symbol) (n : ℕ) → symbol_of letters seen x ≡ Ok s → IsWithin s n
unfolding symbol_of
symbol-within letters seen x s n e =
    let first = first_ok (found (position (λ y. nat_eq y x) letters) (cause.UnknownName (x ∷ []))) (λ d. need (not (contains seen x)) (cause.NameTwiceInLevel (x ∷ [])) >>= λ _. Ok (Along d)) s e in
    let second = first_ok (need (not (contains seen x)) (cause.NameTwiceInLevel (x ∷ []))) (λ _. Ok (Along first.0)) s first.2 in
    subst (λ (z : Symbol). IsWithin z n) (same_ok (Along first.0) s second.2) tt

level-parts : (letters seen : List ℕ) (x : ℕ) (xs : List ℕ) (ss : List Symbol) → level_symbols letters seen (x ∷ xs) ≡ Ok ss
    → (s : Symbol) × (symbol_of letters seen x ≡ Ok s) × ((level_symbols letters (seen ++ x ∷ []) xs >>= λ more. Ok (s ∷ more)) ≡ Ok ss)
unfolding level_symbols
level-parts letters seen x xs ss e = first_ok (symbol_of letters seen x) (λ s. level_symbols letters (seen ++ x ∷ []) xs >>= λ more. Ok (s ∷ more)) ss e

level-nil : (letters seen : List ℕ) (ss : List Symbol) → level_symbols letters seen [] ≡ Ok ss → [] ≡ ss
unfolding level_symbols
level-nil letters seen ss e = same_ok [] ss e

-- the symbols of a level fit its dimensions
level-fits : (letters seen level ns : List ℕ) (ss : List Symbol) → length level ≡ length ns → level_symbols letters seen level ≡ Ok ss → AllZip IsWithin ss ns
level-fits letters seen [] [] ss h e = subst (λ (z : List Symbol). AllZip IsWithin z []) (level-nil letters seen ss e) tt
level-fits letters seen [] (n ∷ ns) ss h e = absurd (omega arith)
level-fits letters seen (x ∷ xs) [] ss h e = absurd (omega arith)
level-fits letters seen (x ∷ xs) (n ∷ ns) ss h e =
    let first = level-parts letters seen x xs ss e in
    let second = first_ok (level_symbols letters (seen ++ x ∷ []) xs) (λ more. Ok (first.0 ∷ more)) ss first.2 in
    subst (λ (z : List Symbol). AllZip IsWithin z (n ∷ ns)) (same_ok (first.0 ∷ second.0) ss second.2)
    (symbol-within letters seen x first.0 n first.1, level-fits letters (seen ++ x ∷ []) xs ns second.0 (omega arith) second.1)

AllZip-append : {A B : Type 0} (R : A → B → Type 0) (xs : List A) (ys : List B) (xs' : List A) (ys' : List B) → AllZip R xs ys → AllZip R xs' ys' → AllZip R (xs ++ xs') (ys ++ ys')
AllZip-append R [] [] xs' ys' h k = k
AllZip-append R [] (y ∷ ys) xs' ys' h k = absurd h
AllZip-append R (x ∷ xs) [] xs' ys' h k = absurd h
AllZip-append R (x ∷ xs) (y ∷ ys) xs' ys' h k = (h.0, AllZip-append R xs ys xs' ys' h.1 k)

symbols-parts : (letters level : List ℕ) (levels : List (List ℕ)) (ss : List Symbol) → symbols_of letters (level ∷ levels) ≡ Ok ss
    → (front : List Symbol) × (level_symbols letters [] level ≡ Ok front) × ((symbols_of letters levels >>= λ more. Ok (front ++ more)) ≡ Ok ss)
unfolding symbols_of
symbols-parts letters level levels ss e = first_ok (level_symbols letters [] level) (λ front. symbols_of letters levels >>= λ more. Ok (front ++ more)) ss e

symbols-nil : (letters : List ℕ) (ss : List Symbol) → symbols_of letters [] ≡ Ok ss → [] ≡ ss
unfolding symbols_of
symbols-nil letters ss e = same_ok [] ss e

levels-fit : (letters : List ℕ) (texts levels : List (List ℕ)) (ss : List Symbol) → length texts ≡ length levels → list_all (λ p. nat_eq (length p.0) (length p.1)) (zip texts levels) ≡ true
    → symbols_of letters texts ≡ Ok ss → AllZip IsWithin ss (concat levels)
levels-fit letters [] [] ss h t e = subst (λ (z : List Symbol). AllZip IsWithin z []) (symbols-nil letters ss e) tt
levels-fit letters [] (l ∷ ls) ss h t e = absurd (omega arith)
levels-fit letters (x ∷ xs) [] ss h t e = absurd (omega arith)
levels-fit letters (x ∷ xs) (l ∷ ls) ss h t e =
    let first = symbols-parts letters x xs ss e in
    let second = first_ok (symbols_of letters xs) (λ more. Ok (first.0 ++ more)) ss first.2 in
    let tests : (nat_eq (length x) (length l) ≡ true) × (list_all (λ p. nat_eq (length p.0) (length p.1)) (zip xs ls) ≡ true) = and_parts (nat_eq (length x) (length l)) (list_all (λ p. nat_eq (length p.0) (length p.1)) (zip xs ls)) t in
    subst (λ (z : List Symbol). AllZip IsWithin z (l ++ concat ls)) (same_ok (first.0 ++ second.0) ss second.2)
    (AllZip-append IsWithin first.0 l second.0 (concat ls) (level-fits letters [] x l first.0 (eqb-true (length x) (length l) tests.0) first.1) (levels-fit letters xs ls second.0 (omega arith) tests.1 second.1))

-- the symbols of a line fit the machine's dimensions
pub symbols-fit : (letters : List ℕ) (texts levels : List (List ℕ)) (ss : List Symbol) → have_dims texts levels ≡ true → symbols_of letters texts ≡ Ok ss → AllZip IsWithin ss (concat levels)
symbols-fit letters texts levels ss t e =
    let tests : (nat_eq (length texts) (length levels) ≡ true) × (list_all (λ p. nat_eq (length p.0) (length p.1)) (zip texts levels) ≡ true) = and_parts (nat_eq (length texts) (length levels)) (list_all (λ p. nat_eq (length p.0) (length p.1)) (zip texts levels)) t in
    levels-fit letters texts levels ss (eqb-true (length texts) (length levels) tests.0) tests.1 e
