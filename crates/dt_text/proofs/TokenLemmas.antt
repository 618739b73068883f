-- The first token of a piece of a text, by its place.
use Rattle.std.proofs.Common.{◌≡◌, ℕ, ◌+◌, ◌-◌, ◌<◌, ◌≤◌, List, ◌∷◌, length, take, drop, arith, refl, sym, ap, ◌∙◌, subst, min, inl, inr}
use Rattle.std.specs.List.{prefix_len}
use Rattle.std.specs.Prelude.{slice_range}
use Rattle.std.proofs.lemmas.List.{drop-drop, length-drop, length-take}
use Rattle.std.proofs.lemmas.Bool.{cases_lt}
use Rattle.dt_text.specs.Tokens.{tokens_of, is_blank, behind_blanks}
use Rattle.dt_text.proofs.Pieces.{rest_of, span_of}
use Rattle.dt_text.proofs.WordLemmas.{in_word, word_first, word_long}

-- a piece has as many bytes as it spans
pub length-slice_range : (text : List ℕ) (at to : ℕ) → to ≤ length text → length (slice_range text at to) ≡ to - at
length-slice_range text at to h = omega (arith, length-take (to - at) (drop at text), length-drop at text)

-- where something stands behind the blanks, the word there is not empty
pub word_there : (line rest : List ℕ) (len : ℕ) → rest ≡ behind_blanks line → len ≡ prefix_len in_word rest → min 1 (length rest) ≤ len
word_there line rest len r q =
    let n : length rest ≡ length (behind_blanks line) = ap (λ (x : List ℕ). length x) r in
    let m : len ≡ prefix_len in_word (behind_blanks line) = q ∙ ap (λ (x : List ℕ). prefix_len in_word x) r in
    elim (cases_lt 0 (length (behind_blanks line))) [
      | inl h ↦ omega (arith, word_long line h)
      | inr h ↦ omega arith
    ]

-- what stands behind the blanks of a piece begins so far from its end
pub behind_place : (text rest : List ℕ) (at to : ℕ) → at ≤ to → to ≤ length text → rest ≡ behind_blanks (slice_range text at to) → (length rest ≤ to - at) × (0 < length rest → to - length rest ≡ at + prefix_len is_blank (slice_range text at to))
behind_place text rest at to h w r =
    let n : length rest ≡ length (slice_range text at to) - prefix_len is_blank (slice_range text at to) = ap (λ (x : List ℕ). length x) r ∙ length-drop (prefix_len is_blank (slice_range text at to)) (slice_range text at to) in
    let m : length (slice_range text at to) ≡ to - at = length-slice_range text at to w in
    (omega arith, λ p. omega arith)

-- the first token of a piece, k blanks behind its front
found_at : (text : List ℕ) (at to k len : ℕ) → k ≡ prefix_len is_blank (slice_range text at to) → len ≡ prefix_len in_word (drop k (slice_range text at to)) → 0 < length (behind_blanks (slice_range text at to)) → at + k + len ≤ to
    → tokens_of (slice_range text at to) ≡ slice_range text (at + k) (at + k + len) ∷ tokens_of (slice_range text (at + k + len) to)
found_at text at to k len p q h w =
    word_first (slice_range text at to) h
    ∙ ap (λ (j : ℕ). take (prefix_len in_word (drop j (slice_range text at to))) (drop j (slice_range text at to)) ∷ tokens_of (drop (prefix_len in_word (drop j (slice_range text at to))) (drop j (slice_range text at to)))) (sym p)
    ∙ ap (λ (j : ℕ). take j (drop k (slice_range text at to)) ∷ tokens_of (drop j (drop k (slice_range text at to)))) (sym q)
    ∙ ap (λ (x : List ℕ). x ∷ tokens_of (drop len (drop k (slice_range text at to)))) (span_of text at to k len w)
    ∙ ap (λ (x : List ℕ). slice_range text (at + k) (at + k + len) ∷ tokens_of x) (drop-drop len k (slice_range text at to) ∙ rest_of text at to (k + len) (omega arith) ∙ ap (λ (m : ℕ). slice_range text m to) (omega arith))

-- the first token of a piece, by what stands behind the blanks
pub token_found : (text rest : List ℕ) (at to len : ℕ) → at ≤ to → to ≤ length text → rest ≡ behind_blanks (slice_range text at to) → len ≡ prefix_len in_word rest → len ≤ length rest → 0 < len
    → tokens_of (slice_range text at to) ≡ slice_range text (to - length rest) (to - length rest + len) ∷ tokens_of (slice_range text (to - length rest + len) to)
token_found text rest at to len h w r q m f =
    let place = behind_place text rest at to h w r in
    let e : to - length rest ≡ at + prefix_len is_blank (slice_range text at to) = place.1 (omega arith) in
    let n : length rest ≡ length (behind_blanks (slice_range text at to)) = ap (λ (x : List ℕ). length x) r in
    let P : ℕ → Type 0 = λ x. tokens_of (slice_range text at to) ≡ slice_range text x (x + len) ∷ tokens_of (slice_range text (x + len) to) in
    subst P (sym e) (found_at text at to (prefix_len is_blank (slice_range text at to)) len refl (q ∙ ap (λ (x : List ℕ). prefix_len in_word x) r) (omega arith) (omega (arith, place.0)))
