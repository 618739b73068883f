-- The parts of a token, from the first one on.
use Rattle.std.proofs.Common.{◌≡◌, ℕ, ◌+◌, ◌-◌, ◌<◌, ◌≤◌, List, [], ◌∷◌, ◌++◌, length, take, drop, map, true, false, arith, refl, sym, ap, ◌∙◌, subst, inl, inr}
use Rattle.std.specs.List.{position_or_len}
use Rattle.std.specs.Prelude.{slice_range}
use Rattle.std.proofs.lemmas.List.{append_assoc, drop-drop, length-drop, map-append, take_all}
use Rattle.dt_text.specs.Lines.{onto_first}
use Rattle.dt_text.specs.Spans.{token_in}
use Rattle.dt_text.specs.declared.token_list.Token.{Token}
use Rattle.dt_text.proofs.Pieces.{onto_more, drop_more_end}
use Rattle.dt_text.proofs.WordLemmas.{bool_cases}
use Rattle.dt_text.specs.Parts.{is_byte, parts_at}

position_here : (s b : ℕ) (bs : List ℕ) → is_byte s b ≡ true → position_or_len (is_byte s) (b ∷ bs) ≡ 0
position_here s b bs h = rw h refl

position_later : (s b : ℕ) (bs : List ℕ) → is_byte s b ≡ false → position_or_len (is_byte s) (b ∷ bs) ≡ 1 + position_or_len (is_byte s) bs
position_later s b bs h = rw h refl

parts_here : (s b : ℕ) (bs : List ℕ) → is_byte s b ≡ true → parts_at s (b ∷ bs) ≡ [] ∷ parts_at s bs
parts_here s b bs h = rw h refl

parts_later : (s b : ℕ) (bs : List ℕ) → is_byte s b ≡ false → parts_at s (b ∷ bs) ≡ onto_first b (parts_at s bs)
parts_later s b bs h = rw h refl

-- a token without the separator is its only part
only_part : (s : ℕ) (bs : List ℕ) → length bs ≤ position_or_len (is_byte s) bs → parts_at s bs ≡ bs ∷ []
only_part s [] h = refl
only_part s (b ∷ bs) h = elim (bool_cases (is_byte s b)) [
  | inl e ↦ absurd (omega (arith, h, position_here s b bs e))
  | inr e ↦ parts_later s b bs e ∙ ap (λ (ps : List (List ℕ)). onto_first b ps) (only_part s bs (omega (arith, h, position_later s b bs e)))
]

-- the first part of a token that has the separator, and those behind it
first_part : (s : ℕ) (bs : List ℕ) → position_or_len (is_byte s) bs < length bs
    → parts_at s bs ≡ take (position_or_len (is_byte s) bs) bs ∷ parts_at s (drop (position_or_len (is_byte s) bs + 1) bs)
first_part s [] h = absurd (omega (arith, h))
first_part s (b ∷ bs) h =
    let P : ℕ → Type 0 = λ k. parts_at s (b ∷ bs) ≡ take k (b ∷ bs) ∷ parts_at s (drop (k + 1) (b ∷ bs)) in
    elim (bool_cases (is_byte s b)) [
      | inl e ↦ subst P (sym (position_here s b bs e)) (parts_here s b bs e)
      | inr e ↦ let m : ℕ = position_or_len (is_byte s) bs in
          subst P (sym (position_later s b bs e)) (parts_later s b bs e
          ∙ onto_more b (parts_at s bs) bs m (parts_at s (drop (m + 1) bs)) (first_part s bs (omega (arith, h, position_later s b bs e)))
          ∙ ap (λ (r : List ℕ). take (1 + m) (b ∷ bs) ∷ parts_at s r) (sym (drop_more_end b bs m)))
    ]

-- the part that begins at a place, and those behind it
pub part_next : (token : List ℕ) (s from to : ℕ) → to ≡ from + position_or_len (is_byte s) (drop from token) → to < length token
    → parts_at s (drop from token) ≡ slice_range token from to ∷ parts_at s (drop (to + 1) token)
part_next token s from to e h =
    let n : ℕ = position_or_len (is_byte s) (drop from token) in
    let size : to - from ≡ n = omega (arith, e) in
    first_part s (drop from token) (omega (arith, e, h, length-drop from token))
    ∙ ap (λ (k : ℕ). take k (drop from token) ∷ parts_at s (drop (n + 1) (drop from token))) (sym size)
    ∙ ap (λ (r : List ℕ). slice_range token from to ∷ parts_at s r) (drop-drop (n + 1) from token ∙ ap (λ (k : ℕ). drop k token) (omega (arith, e)))

-- the last part
pub part_last : (token : List ℕ) (s from to : ℕ) → from ≤ length token → to ≡ from + position_or_len (is_byte s) (drop from token) → to ≡ length token
    → parts_at s (drop from token) ≡ slice_range token from to ∷ []
part_last token s from to w e h =
    only_part s (drop from token) (omega (arith, w, e, h, length-drop from token))
    ∙ ap (λ (r : List ℕ). r ∷ []) (sym (take_all (to - from) (drop from token) (omega (arith, w, h, length-drop from token))))

-- one more part is read
pub part_more : (token : List ℕ) (s : ℕ) (front after : List Token) (t : Token) (rest whole : List (List ℕ)) → after ≡ front ++ t ∷ []
    → parts_at s (drop t.from token) ≡ token_in token t ∷ rest → map (token_in token) front ++ parts_at s (drop t.from token) ≡ whole → map (token_in token) after ++ rest ≡ whole
part_more token s front after t rest whole a p w =
    ap (λ (ts : List Token). map (token_in token) ts ++ rest) a
    ∙ ap (λ (ws : List (List ℕ)). ws ++ rest) (map-append (token_in token) front (t ∷ []))
    ∙ append_assoc (map (token_in token) front) (token_in token t ∷ []) rest
    ∙ ap (λ (ws : List (List ℕ)). map (token_in token) front ++ ws) (sym p) ∙ w

-- where the part that begins at a place ends
pub part_end : (token : List ℕ) (s from n : ℕ) → from ≤ length token → n ≡ position_or_len (is_byte s) (slice_range token from (length token)) → from + n ≡ from + position_or_len (is_byte s) (drop from token)
part_end token s from n w e =
    let whole : slice_range token from (length token) ≡ drop from token = take_all (length token - from) (drop from token) (omega (arith, w, length-drop from token)) in
    ap (λ (k : ℕ). from + k) (e ∙ ap (λ (bs : List ℕ). position_or_len (is_byte s) bs) whole)
