-- The first line of a text.
use Rattle.std.proofs.Common.{◌≡◌, ℕ, suc, ◌+◌, ◌-◌, ◌<◌, ◌≤◌, List, [], ◌∷◌, length, take, drop, get_or, Bool, true, false, not, arith, refl, sym, ap, ◌∙◌, subst}
use Rattle.std.specs.List.{prefix_len}
use Rattle.std.specs.Prelude.{slice_range}
use Rattle.std.proofs.Math.Seq.{drop-cons}
use Rattle.std.proofs.lemmas.List.{drop-drop, drop_all}
use Rattle.dt_text.specs.Lines.{lines_of, is_line_end}
use Rattle.dt_text.proofs.Pieces.{onto_more, drop_more_end}

-- a byte of a line
abbrev pub in_line : ℕ → Bool
in_line b = not (is_line_end b)

-- the first line, by cases on whether its first byte is a line end, which `same` says
first_at : (b : ℕ) (bs : List ℕ) (end : Bool) → is_line_end b ≡ end
    → ((c : ℕ) (cs : List ℕ) → bs ≡ c ∷ cs → lines_of bs ≡ take (prefix_len in_line bs) bs ∷ lines_of (drop (prefix_len in_line bs + 1) bs))
    → lines_of (b ∷ bs) ≡ take (prefix_len in_line (b ∷ bs)) (b ∷ bs) ∷ lines_of (drop (prefix_len in_line (b ∷ bs) + 1) (b ∷ bs))
first_at b bs true same h = rw same refl
first_at b [] false same h = rw same refl
first_at b (c ∷ cs) false same h =
    rw same (onto_more b (lines_of (c ∷ cs)) (c ∷ cs) (prefix_len in_line (c ∷ cs)) (lines_of (drop (prefix_len in_line (c ∷ cs) + 1) (c ∷ cs))) (h c cs refl)
    ∙ ap (λ (r : List ℕ). take (1 + prefix_len in_line (c ∷ cs)) (b ∷ c ∷ cs) ∷ lines_of r) (sym (drop_more_end b (c ∷ cs) (prefix_len in_line (c ∷ cs)))))

-- a text that isn't empty is its first line and the lines after it
pub lines_of-first : (b : ℕ) (bs : List ℕ) → lines_of (b ∷ bs) ≡ take (prefix_len in_line (b ∷ bs)) (b ∷ bs) ∷ lines_of (drop (prefix_len in_line (b ∷ bs) + 1) (b ∷ bs))
lines_of-first b [] = first_at b [] (is_line_end b) refl (λ c cs e. cc)
lines_of-first b (c ∷ cs) = first_at b (c ∷ cs) (is_line_end b) refl (λ d ds e. lines_of-first c cs)

-- the line that begins at a place
pub line_at : (text : List ℕ) (at len : ℕ) → at < length text → len ≡ prefix_len in_line (drop at text)
    → lines_of (drop at text) ≡ slice_range text at (at + len) ∷ lines_of (drop (at + len + 1) text)
line_at text at len h e =
    let opened : drop at text ≡ get_or text at 0 ∷ drop (suc at) text = drop-cons text at 0 h in
    let first : lines_of (drop at text) ≡ take (prefix_len in_line (drop at text)) (drop at text) ∷ lines_of (drop (prefix_len in_line (drop at text) + 1) (drop at text)) =
    (let P : List ℕ → Type 0 = λ xs. lines_of xs ≡ take (prefix_len in_line xs) xs ∷ lines_of (drop (prefix_len in_line xs + 1) xs) in subst P (sym opened) (lines_of-first (get_or text at 0) (drop (suc at) text))) in
    let n : (at + len) - at ≡ len = omega arith in
    let m : drop (at + len + 1) text ≡ drop (len + 1) (drop at text) = ap (λ (k : ℕ). drop k text) (omega arith) ∙ sym (drop-drop (len + 1) at text) in
    rw (n, m, e) first

-- no line begins at the end
pub lines_of-end : (text : List ℕ) (at : ℕ) → length text ≤ at → lines_of (drop at text) ≡ []
lines_of-end text at h = rw (drop_all at text h) refl
