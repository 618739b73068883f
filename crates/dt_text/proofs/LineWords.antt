-- What a line says, case by case.
use Rattle.std.proofs.Common.{◌≡◌, ℕ, ◌+◌, ◌-◌, ◌<◌, ◌≤◌, List, [], ◌∷◌, length, take, drop, true, false, arith, refl, sym, ap, ◌∙◌, subst, Option, Some, None, Ok, Err, inl, inr, ◌⊎◌}
use Rattle.std.specs.Prelude.{slice_range}
use Rattle.std.proofs.lemmas.Bool.{lt-ltb, le-ltb, cases_lt}
use Rattle.std.proofs.lemmas.List.{take_all, take-take, length-take}
use Rattle.dt_text.specs.Lines.{plain_line, ends_with_cr}
use Rattle.dt_text.specs.Tokens.{tokens_of, first_word, after_word}
use Rattle.dt_text.specs.Words.{line_words, is_skipped, bad_place}
use Rattle.dt_text.specs.declared.text_end.TextEnd.TheVariants.{LineTooLong, BadByte}
use Rattle.dt_text.proofs.WordLemmas.{bool_cases, tokens_of-rest}
use Rattle.dt_text.proofs.TokenLemmas.{length-slice_range}

-- a line that is too long
pub line_words-long : (bytes : List ℕ) → 1048576 < length bytes → line_words bytes ≡ Err LineTooLong
unfolding line_words
line_words-long bytes h = rw (lt-ltb 1048576 (length bytes) h) refl

-- a line that is skipped
pub line_words-skipped : (bytes : List ℕ) → length bytes ≤ 1048576 → is_skipped (plain_line bytes) ≡ true → line_words bytes ≡ Ok []
unfolding line_words
line_words-skipped bytes h s = rw (le-ltb 1048576 (length bytes) h, s) refl

-- a line with a bad byte
pub line_words-bad : (bytes : List ℕ) (place : ℕ) → length bytes ≤ 1048576 → is_skipped (plain_line bytes) ≡ false → bad_place (plain_line bytes) ≡ Some place → line_words bytes ≡ Err (BadByte place)
unfolding line_words
line_words-bad bytes place h s b = rw (le-ltb 1048576 (length bytes) h, s, b) refl

-- a line with its tokens
pub line_words-plain : (bytes : List ℕ) → length bytes ≤ 1048576 → is_skipped (plain_line bytes) ≡ false → bad_place (plain_line bytes) ≡ None → line_words bytes ≡ Ok (tokens_of (plain_line bytes))
unfolding line_words
line_words-plain bytes h s b = rw (le-ltb 1048576 (length bytes) h, s, b) refl

-- a front of a line, as long as it is
front_of : (n : ℕ) (bytes : List ℕ) → n ≤ length bytes → (length (take n bytes) ≤ length bytes) × (take n bytes ≡ take (length (take n bytes)) bytes)
front_of n bytes h =
    let e : length (take n bytes) ≡ n = omega (arith, length-take n bytes) in
    (omega arith, ap (λ (k : ℕ). take k bytes) (sym e))

-- the bytes without a CR stand at the front of the line
pub plain_line-front : (bytes : List ℕ) → (length (plain_line bytes) ≤ length bytes) × (plain_line bytes ≡ take (length (plain_line bytes)) bytes)
plain_line-front bytes =
    let P : List ℕ → Type 0 = λ x. (length x ≤ length bytes) × (x ≡ take (length x) bytes) in
    elim (bool_cases (ends_with_cr bytes)) [
      | inl e ↦ (let yes : plain_line bytes ≡ take (length bytes - 1) bytes = rw e refl in subst P (sym yes) (front_of (length bytes - 1) bytes (omega arith)))
      | inr e ↦ (let no : plain_line bytes ≡ bytes = rw e refl in subst P (sym no) (omega arith, sym (take_all (length bytes) bytes (omega arith))))
    ]

-- and so they are a piece of the text that the line stands in
pub plain_line-span : (text plain : List ℕ) (from to : ℕ) → from ≤ to → to ≤ length text → plain ≡ plain_line (slice_range text from to) → (length plain ≤ to - from) × (slice_range text from (from + length plain) ≡ plain)
plain_line-span text plain from to h w e =
    let P : List ℕ → Type 0 = λ x. (length x ≤ length (slice_range text from to)) × (x ≡ take (length x) (slice_range text from to)) in
    let front : P plain = subst P (sym e) (plain_line-front (slice_range text from to)) in
    let short : length plain ≤ to - from = omega (arith, front.0, length-slice_range text from to w) in
    (short, ap (λ (n : ℕ). take n (drop from text)) (omega arith) ∙ sym (take-take (length plain) (to - from) (drop from text) short) ∙ sym front.1)

-- a place or none
place_cases : (o : Option ℕ) → ((p : ℕ) × (o ≡ Some p)) ⊎ (o ≡ None)
place_cases (Some p) = inl (p, refl)
place_cases None = inr refl

-- where a line has words, they are its tokens
pub line_words-ok : (bytes w : List ℕ) (ws : List (List ℕ)) → line_words bytes ≡ Ok (w ∷ ws) → tokens_of (plain_line bytes) ≡ w ∷ ws
line_words-ok bytes w ws e = elim (cases_lt 1048576 (length bytes)) [
  | inl h ↦ (let l : line_words bytes ≡ Err LineTooLong = line_words-long bytes h in cc)
  | inr h ↦ elim (bool_cases (is_skipped (plain_line bytes))) [
    | inl s ↦ (let l : line_words bytes ≡ Ok [] = line_words-skipped bytes h s in cc)
    | inr s ↦ elim (place_cases (bad_place (plain_line bytes))) [
      | inl b ↦ (let l : line_words bytes ≡ Err (BadByte b.0) = line_words-bad bytes b.0 h s b.1 in cc)
      | inr b ↦ (let l : line_words bytes ≡ Ok (tokens_of (plain_line bytes)) = line_words-plain bytes h s b in cc)
    ]
  ]
]

-- where a line has words, the first stands at its front, and the others are the tokens behind it
pub line_words-rest : (bytes w : List ℕ) (ws : List (List ℕ)) → line_words bytes ≡ Ok (w ∷ ws) → (first_word (plain_line bytes) ≡ w) × (tokens_of (after_word (plain_line bytes)) ≡ ws)
line_words-rest bytes w ws e = tokens_of-rest (plain_line bytes) w ws (line_words-ok bytes w ws e)
