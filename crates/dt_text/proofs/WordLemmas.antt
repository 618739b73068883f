-- The first token of a text, and what stands behind it.
use Rattle.std.proofs.Common.{◌≡◌, ℕ, suc, ◌+◌, ◌<◌, List, [], ◌∷◌, length, take, drop, get_or, Bool, true, false, not, arith, refl, sym, ap, ◌∙◌, subst, ◌⊎◌, inl, inr}
use Rattle.std.specs.List.{prefix_len}
use Rattle.std.proofs.Math.Seq.{drop-cons}
use Rattle.std.proofs.lemmas.List.{drop_all, length-drop}
use Rattle.std.proofs.lemmas.List.Sums.{prefix_len_stops}
use Rattle.std.proofs.lemmas.Bool.Decides.{nat_tests}
use Rattle.dt_text.specs.Lines.{onto_first}
use Rattle.dt_text.specs.Tokens.{tokens_of, is_blank, starts_blank, behind_blanks, has_word, first_word, after_word}
use Rattle.dt_text.proofs.Pieces.{onto_more, drop_more, prefix_len-more, prefix_len-stop}

-- a byte of a token
abbrev pub in_word : ℕ → Bool
in_word b = not (is_blank b)

-- a blank at the front begins no token
blank_first : (b : ℕ) (bs : List ℕ) → is_blank b ≡ true → tokens_of (b ∷ bs) ≡ tokens_of bs
blank_first b bs e = rw e refl

-- a byte in front of a token is one more of it
word_goes_on : (b : ℕ) (bs : List ℕ) → is_blank b ≡ false → starts_blank bs ≡ false → tokens_of (b ∷ bs) ≡ onto_first b (tokens_of bs)
word_goes_on b bs e s = rw (e, s) refl

-- a byte in front of a blank is a token
word_ends : (b : ℕ) (bs : List ℕ) → is_blank b ≡ false → starts_blank bs ≡ true → tokens_of (b ∷ bs) ≡ (b ∷ []) ∷ tokens_of bs
word_ends b bs e s = rw (e, s) refl

-- true or false
pub bool_cases : (b : Bool) → (b ≡ true) ⊎ (b ≡ false)
bool_cases true = inl refl
bool_cases false = inr refl

-- tokens behind blanks
pub tokens_of-blanks : (bs : List ℕ) → tokens_of bs ≡ tokens_of (behind_blanks bs)
tokens_of-blanks [] = refl
tokens_of-blanks (b ∷ bs) = elim (bool_cases (is_blank b)) [
  | inl e ↦ blank_first b bs e ∙ tokens_of-blanks bs ∙ ap (λ (r : List ℕ). tokens_of r) (sym (drop_more b bs (prefix_len is_blank bs))) ∙ ap (λ (k : ℕ). tokens_of (drop k (b ∷ bs))) (sym (prefix_len-more is_blank b bs e))
  | inr e ↦ ap (λ (k : ℕ). tokens_of (drop k (b ∷ bs))) (sym (prefix_len-stop is_blank b bs e))
]

-- the first token is the longest front without a blank
abbrev pub FirstWord : List ℕ → Type 0
FirstWord bs = tokens_of bs ≡ take (prefix_len in_word bs) bs ∷ tokens_of (drop (prefix_len in_word bs) bs)

-- a byte is blank or of a token
blank_is_no_word : (b : ℕ) (t : Bool) → is_blank b ≡ t → in_word b ≡ not t
blank_is_no_word b t e = rw e refl

-- a token and those behind it
pub tokens_of-word : (b : ℕ) (bs : List ℕ) → is_blank b ≡ false → FirstWord (b ∷ bs)
tokens_of-word b [] e = rw e refl
tokens_of-word b (c ∷ cs) e = elim (bool_cases (is_blank c)) [
  | inl s ↦ let n : prefix_len in_word (b ∷ c ∷ cs) ≡ 1 = prefix_len-more in_word b (c ∷ cs) (blank_is_no_word b false e) ∙ ap (λ (k : ℕ). 1 + k) (prefix_len-stop in_word c cs (blank_is_no_word c true s)) in
      word_ends b (c ∷ cs) e s ∙ (let P : ℕ → Type 0 = λ k. (b ∷ []) ∷ tokens_of (c ∷ cs) ≡ take k (b ∷ c ∷ cs) ∷ tokens_of (drop k (b ∷ c ∷ cs)) in subst P (sym n) refl)
  | inr s ↦ let k : ℕ = prefix_len in_word (c ∷ cs) in
      let n : prefix_len in_word (b ∷ c ∷ cs) ≡ 1 + prefix_len in_word (c ∷ cs) = prefix_len-more in_word b (c ∷ cs) (blank_is_no_word b false e) in
      word_goes_on b (c ∷ cs) e s
      ∙ onto_more b (tokens_of (c ∷ cs)) (c ∷ cs) (prefix_len in_word (c ∷ cs)) (tokens_of (drop (prefix_len in_word (c ∷ cs)) (c ∷ cs))) (tokens_of-word c cs s)
      ∙ ap (λ (r : List ℕ). take (1 + prefix_len in_word (c ∷ cs)) (b ∷ c ∷ cs) ∷ tokens_of r) (sym (drop_more b (c ∷ cs) (prefix_len in_word (c ∷ cs))))
      ∙ ap (λ (j : ℕ). take j (b ∷ c ∷ cs) ∷ tokens_of (drop j (b ∷ c ∷ cs))) (sym n)
]

-- behind the blanks of a text, a word begins or nothing stands
pub starts_word : (bs : List ℕ) → 0 < length (behind_blanks bs) → (b : ℕ) × (r : List ℕ) × (behind_blanks bs ≡ b ∷ r) × (is_blank b ≡ false)
starts_word bs h =
    let short : prefix_len is_blank bs < length bs = omega (arith, length-drop (prefix_len is_blank bs) bs) in
    (get_or bs (prefix_len is_blank bs) 0, drop (suc (prefix_len is_blank bs)) bs, drop-cons bs (prefix_len is_blank bs) 0 short, prefix_len_stops is_blank bs 0 short)

-- a text with a token: that token and those behind it
pub word_first : (bs : List ℕ) → 0 < length (behind_blanks bs) → tokens_of bs ≡ first_word bs ∷ tokens_of (after_word bs)
word_first bs h =
    let s = starts_word bs h in
    tokens_of-blanks bs ∙ subst FirstWord (sym s.2) (tokens_of-word s.0 s.1 s.3)

-- a text with no token
pub word_none : (bs : List ℕ) → length (behind_blanks bs) ≡ 0 → tokens_of bs ≡ []
word_none bs h = tokens_of-blanks bs ∙ ap (λ (r : List ℕ). tokens_of r) (drop_all (prefix_len is_blank bs) bs (omega (arith, length-drop (prefix_len is_blank bs) bs)))

-- a word that begins has a byte
pub word_long : (bs : List ℕ) → 0 < length (behind_blanks bs) → 0 < prefix_len in_word (behind_blanks bs)
word_long bs h =
    let s = starts_word bs h in
    let n : prefix_len in_word (behind_blanks bs) ≡ 1 + prefix_len in_word s.1 = ap (λ (x : List ℕ). prefix_len in_word x) s.2 ∙ prefix_len-more in_word s.0 s.1 (blank_is_no_word s.0 false s.3) in
    omega arith

-- the tokens of a text that has one
pub tokens_of-first : (bs : List ℕ) → has_word bs ≡ true → tokens_of bs ≡ first_word bs ∷ tokens_of (after_word bs)
tokens_of-first bs h = word_first bs (grind (arith, nat_tests))

-- the tokens of a text that has none
pub tokens_of-none : (bs : List ℕ) → has_word bs ≡ false → tokens_of bs ≡ []
tokens_of-none bs h = word_none bs (grind (arith, nat_tests))

-- where a text has tokens, they are its first word and the tokens behind it
pub tokens_of-rest : (bs w : List ℕ) (ws : List (List ℕ)) → tokens_of bs ≡ w ∷ ws → (first_word bs ≡ w) × (tokens_of (after_word bs) ≡ ws)
tokens_of-rest bs w ws e = elim (bool_cases (has_word bs)) [
  | inl h ↦ (let f : tokens_of bs ≡ first_word bs ∷ tokens_of (after_word bs) = tokens_of-first bs h in (cc, cc))
  | inr h ↦ (let f : tokens_of bs ≡ [] = tokens_of-none bs h in (cc, cc))
]
