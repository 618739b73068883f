-- The pieces of a text, from its front.
use Rattle.std.proofs.Common.{◌≡◌, ℕ, ◌+◌, ◌<◌, List, [], ◌∷◌, length, take, drop, true, false, arith, refl, sym, ap, ◌∙◌, subst, inl, inr, max}
use Rattle.std.specs.List.{prefix_len}
use Rattle.std.specs.Prelude.{◌==◌}
use Rattle.std.proofs.lemmas.Bool.{and_parts}
use Rattle.std.proofs.lemmas.Bool.Decides.{nat_tests}
use Rattle.dt_text.specs.Lines.{onto_first}
use Rattle.dt_text.specs.Names.{is_name_byte}
use Rattle.dt_text.specs.Tokens.{is_blank, behind_blanks}
use Rattle.dt_text.proofs.Pieces.{onto_more, drop_more, prefix_len-more, prefix_len-stop}
use Rattle.dt_text.proofs.WordLemmas.{bool_cases, starts_word as word_begins}
use Rattle.dt_index.specs.Symbols.{first_len, goes_on, pieces_of, starts_with_plus_equals, starts_word}

-- a byte of a name is no blank
pub name_is_no_blank : (b : ℕ) → is_name_byte b ≡ true → is_blank b ≡ false
name_is_no_blank b h = grind (arith, nat_tests)

blank_first : (b : ℕ) (bs : List ℕ) → is_blank b ≡ true → pieces_of (b ∷ bs) ≡ pieces_of bs
blank_first b bs e = rw e refl

-- pieces behind blanks
pub pieces_of-blanks : (bs : List ℕ) → pieces_of bs ≡ pieces_of (behind_blanks bs)
pieces_of-blanks [] = refl
pieces_of-blanks (b ∷ bs) = elim (bool_cases (is_blank b)) [
  | inl e ↦ blank_first b bs e ∙ pieces_of-blanks bs ∙ ap (λ (r : List ℕ). pieces_of r) (sym (drop_more b bs (prefix_len is_blank bs))) ∙ ap (λ (k : ℕ). pieces_of (drop k (b ∷ bs))) (sym (prefix_len-more is_blank b bs e))
  | inr e ↦ ap (λ (k : ℕ). pieces_of (drop k (b ∷ bs))) (sym (prefix_len-stop is_blank b bs e))
]

-- the first piece is the longest front of name bytes, or one byte
abbrev pub FirstPiece : List ℕ → ℕ → Type 0
FirstPiece bs n = pieces_of bs ≡ take n bs ∷ pieces_of (drop n bs)

alone : (b : ℕ) (bs : List ℕ) → is_blank b ≡ false → goes_on b bs ≡ false → FirstPiece (b ∷ bs) 1
alone b bs e s = rw (e, s) refl

goes_on-word : (b : ℕ) (bs : List ℕ) → is_name_byte b ≡ true → starts_word bs ≡ true → goes_on b bs ≡ true
goes_on-word b bs n s = rw (n, s) refl

-- a byte that goes on stands in front of the first piece
pub joined : (b : ℕ) (bs : List ℕ) → is_blank b ≡ false → goes_on b bs ≡ true → pieces_of (b ∷ bs) ≡ onto_first b (pieces_of bs)
joined b bs e g = rw (e, g) refl

-- a byte of a name is no plus
pub name_is_no_plus : (b : ℕ) → is_name_byte b ≡ true → (b == 43) ≡ false
name_is_no_plus b h = grind (arith, nat_tests)

-- no word goes on
pub no_word : (b : ℕ) (bs : List ℕ) → is_name_byte b ≡ true → starts_word bs ≡ false → goes_on b bs ≡ false
no_word b bs n s = rw (n, s, name_is_no_plus b n) refl

no_name : (b : ℕ) (bs : List ℕ) → is_name_byte b ≡ false → starts_with_plus_equals (b ∷ bs) ≡ false → goes_on b bs ≡ false
no_name b bs n p = rw n p

-- the first piece where a word begins
word_first : (b : ℕ) (bs : List ℕ) → is_name_byte b ≡ true → FirstPiece (b ∷ bs) (prefix_len is_name_byte (b ∷ bs))
word_first b [] h = subst (FirstPiece (b ∷ [])) (sym (prefix_len-more is_name_byte b [] h)) (alone b [] (name_is_no_blank b h) (no_word b [] h refl))
word_first b (c ∷ cs) h = elim (bool_cases (is_name_byte c)) [
  | inl s ↦ joined b (c ∷ cs) (name_is_no_blank b h) (goes_on-word b (c ∷ cs) h s)
      ∙ onto_more b (pieces_of (c ∷ cs)) (c ∷ cs) (prefix_len is_name_byte (c ∷ cs)) (pieces_of (drop (prefix_len is_name_byte (c ∷ cs)) (c ∷ cs))) (word_first c cs s)
      ∙ ap (λ (r : List ℕ). take (1 + prefix_len is_name_byte (c ∷ cs)) (b ∷ c ∷ cs) ∷ pieces_of r) (sym (drop_more b (c ∷ cs) (prefix_len is_name_byte (c ∷ cs))))
      ∙ ap (λ (j : ℕ). take j (b ∷ c ∷ cs) ∷ pieces_of (drop j (b ∷ c ∷ cs))) (sym (prefix_len-more is_name_byte b (c ∷ cs) h))
  | inr s ↦ subst (FirstPiece (b ∷ c ∷ cs)) (sym (prefix_len-more is_name_byte b (c ∷ cs) h ∙ ap (λ (k : ℕ). 1 + k) (prefix_len-stop is_name_byte c cs s))) (alone b (c ∷ cs) (name_is_no_blank b h) (no_word b (c ∷ cs) h s))
]

at_least_one : (n : ℕ) (P : ℕ → Type 0) → 0 < n → P n → P (max 1 n)
at_least_one n P h p = (let e : n ≡ max 1 n = omega arith in subst P e p)

-- the first piece of a text that begins neither with a blank nor with `+=`
other_first : (b : ℕ) (bs : List ℕ) → is_blank b ≡ false → starts_with_plus_equals (b ∷ bs) ≡ false → FirstPiece (b ∷ bs) (max 1 (prefix_len is_name_byte (b ∷ bs)))
other_first b bs e p = elim (bool_cases (is_name_byte b)) [
  | inl h ↦ at_least_one (prefix_len is_name_byte (b ∷ bs)) (FirstPiece (b ∷ bs)) (rw (prefix_len-more is_name_byte b bs h) (omega arith)) (word_first b bs h)
  | inr h ↦ subst (FirstPiece (b ∷ bs)) (ap (λ (k : ℕ). max 1 k) (sym (prefix_len-stop is_name_byte b bs h))) (alone b bs e (no_name b bs h p))
]

equal_from : (a b : ℕ) → (a == b) ≡ true → a ≡ b
equal_from a b h = grind (arith, nat_tests)

plus_equals_here : (b c : ℕ) (cs : List ℕ) → b ≡ 43 → c ≡ 61 → FirstPiece (b ∷ c ∷ cs) 2
plus_equals_here b c cs e f = rw (e, f) refl

-- the first piece of a text that begins with `+=`
plus_equals_first : (b : ℕ) (bs : List ℕ) → starts_with_plus_equals (b ∷ bs) ≡ true → FirstPiece (b ∷ bs) 2
plus_equals_first b [] h = (let t = and_parts (b == 43) false h in let f : false ≡ true = t.1 in absurd (cc))
plus_equals_first b (c ∷ cs) h = (let t = and_parts (b == 43) (c == 61) h in plus_equals_here b c cs (equal_from b 43 t.0) (equal_from c 61 t.1))

then_len : (text : List ℕ) → starts_with_plus_equals text ≡ true → first_len text ≡ 2
then_len text h = rw h refl

else_len : (text : List ℕ) → starts_with_plus_equals text ≡ false → first_len text ≡ max 1 (prefix_len is_name_byte text)
else_len text h = rw h refl

-- the first piece of a text that begins with no blank
pub pieces_of-first : (b : ℕ) (bs : List ℕ) → is_blank b ≡ false → FirstPiece (b ∷ bs) (first_len (b ∷ bs))
pieces_of-first b bs e = elim (bool_cases (starts_with_plus_equals (b ∷ bs))) [
  | inl h ↦ subst (FirstPiece (b ∷ bs)) (sym (then_len (b ∷ bs) h)) (plus_equals_first b bs h)
  | inr h ↦ subst (FirstPiece (b ∷ bs)) (sym (else_len (b ∷ bs) h)) (other_first b bs e h)
]

no_blank_first : (text rest : List ℕ) (b : ℕ) (bs : List ℕ) → rest ≡ behind_blanks text → rest ≡ b ∷ bs → is_blank b ≡ false
no_blank_first text rest b bs e f =
    let there : 0 < length (behind_blanks text) = (let P : List ℕ → Type 0 = λ r. 0 < length r in subst P (sym f ∙ e) (omega arith)) in
    let s = word_begins text there in
    let same : b ∷ bs ≡ s.0 ∷ s.1 = sym f ∙ e ∙ s.2 in
    let first : b ≡ s.0 = cc in
    ap (λ (x : ℕ). is_blank x) first ∙ s.3

-- a text with nothing behind its blanks has no piece
pub no_pieces : (text rest : List ℕ) → rest ≡ behind_blanks text → length rest ≡ 0 → pieces_of text ≡ []
no_pieces text [] e h = pieces_of-blanks text ∙ ap (λ (r : List ℕ). pieces_of r) (sym e)
no_pieces text (b ∷ bs) e h = absurd (omega arith)

-- the first piece behind the blanks of a text
pub piece_there : (text rest piece behind : List ℕ) (n : ℕ) → rest ≡ behind_blanks text → 0 < length rest → n ≡ first_len rest
    → piece ≡ take n rest → behind ≡ drop n rest → pieces_of text ≡ piece ∷ pieces_of behind
piece_there text [] piece behind n e h m p q = absurd (omega arith)
piece_there text (b ∷ bs) piece behind n e h m p q =
    pieces_of-blanks text ∙ ap (λ (r : List ℕ). pieces_of r) (sym e) ∙ pieces_of-first b bs (no_blank_first text (b ∷ bs) b bs e refl)
    ∙ ap (λ (k : ℕ). take k (b ∷ bs) ∷ pieces_of (drop k (b ∷ bs))) (sym m) ∙ ap (λ (x : List ℕ). x ∷ pieces_of (drop n (b ∷ bs))) (sym p) ∙ ap (λ (x : List ℕ). piece ∷ pieces_of x) (sym q)
