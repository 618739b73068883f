-- Fronts of bytes that were copied, read or written.
use Rattle.std.proofs.Common.{◌≡◌, ℕ, ◌+◌, ◌≤◌, ◌<◌, min, List, [], ◌++◌, length, take, drop, sym, ◌∙◌, ap, subst, arith, Option, length-append, length-drop}
use Rattle.std.proofs.Math.Seq.{take-append_seam, take-add}
use Rattle.std.proofs.lemmas.List.{length-take-le, take-append-drop, drop-drop, drop_all}
use Rattle.std.proofs.KnownBytes.{Consumes-trans, Appends-trans}
use Rattle.std.specs.Io.KnownBytes.{Appends, Consumes}

-- a front of the rest was copied to a buffer: the rest is what the buffer's front has and what comes behind it,
-- and nothing is left where there was room and none was copied
pub rest-copied : (bytes rest buf new : List ℕ) (at n piece : ℕ) → rest ≡ drop at bytes → 1 ≤ piece
    → n ≡ min piece (min (length buf) (length rest)) → new ≡ take n rest ++ drop n buf
    → (rest ≡ take n new ++ drop (at + n) bytes) × (n ≡ 0 → 0 < length new → drop (at + n) bytes ≡ [])
rest-copied bytes rest buf new at n piece is_rest some count copied =
    let in_rest : n ≤ length rest = omega arith in
    let taken : length (take n rest) ≡ n = length-take-le n rest in_rest in
    let front : take n new ≡ take n rest =
    ap (take n) copied ∙ ap (λ (k : ℕ). take k (take n rest ++ drop n buf)) (sym taken) ∙ take-append_seam (take n rest) (drop n buf) in
    let behind : drop (at + n) bytes ≡ drop n rest = sym (drop-drop n at bytes) ∙ ap (drop n) (sym is_rest) in
    let long : length new ≡ length (take n rest) + length (drop n buf) =
    ap length copied ∙ length-append (take n rest) (drop n buf) in (
      sym (take-append-drop n rest) ∙ ap (λ (f : List ℕ). f ++ drop n rest) (sym front) ∙ ap (λ (r : List ℕ). take n new ++ r) (sym behind),
      λ none room. behind ∙ drop_all n rest (omega (arith, length-drop n buf)),
    )

-- a source that lost `all` and then a front of n bytes lost all of these
pub lost-more : (a b c : Option (List ℕ)) (all front : List ℕ) (n : ℕ) → Consumes a b all → Consumes b c front → n ≡ length front
    → (lost : List ℕ) × Consumes a c lost × (length lost ≡ length all + n)
lost-more a b c all front n before now count =
    (all ++ front, Consumes-trans a b c all front before now, length-append all front ∙ ap (λ (k : ℕ). length all + k) (sym count))

-- a sink that took the text up to a place, and then a front of the rest, took it up to the end of that
pub appends-more : (a b c : Option (List ℕ)) (text rest : List ℕ) (at n : ℕ) → Appends a b (take at text) → rest ≡ drop at text
    → Appends b c (take n rest) → Appends a c (take (at + n) text)
appends-more a b c text rest at n before is_rest now =
    let joined : take (at + n) text ≡ take at text ++ take n rest = take-add at n text ∙ ap (λ (r : List ℕ). take at text ++ take n r) (sym is_rest) in
    let P : List ℕ → Type 0 = Appends a c in
    subst P (sym joined) (Appends-trans a b c (take at text) (take n rest) before now)
