-- Texts with one more byte at the front, and pieces of pieces.
use Rattle.std.proofs.Common.{◌≡◌, ℕ, suc, ◌+◌, ◌-◌, ◌≤◌, List, ◌∷◌, take, drop, Bool, true, false, arith, refl, ap, ◌∙◌, sym}
use Rattle.std.specs.List.{prefix_len}
use Rattle.std.specs.Prelude.{slice_range}
use Rattle.std.proofs.lemmas.List.{drop-drop, drop-take, take-take}
use Rattle.dt_text.specs.Lines.{onto_first}

-- one more byte at the front of a first piece of k bytes
pub onto_more : (b : ℕ) (pieces : List (List ℕ)) (bs : List ℕ) (k : ℕ) (rest : List (List ℕ)) → pieces ≡ take k bs ∷ rest → onto_first b pieces ≡ take (1 + k) (b ∷ bs) ∷ rest
onto_more b pieces bs k rest e =
    let one : 1 + k ≡ suc k = omega arith in
    rw (e, one) refl

-- what stands behind k + 1 bytes of a longer text
pub drop_more : (b : ℕ) (bs : List ℕ) (k : ℕ) → drop (1 + k) (b ∷ bs) ≡ drop k bs
drop_more b bs k = let one : 1 + k ≡ suc k = omega arith in rw one refl

-- what stands behind k + 2 bytes of a longer text
pub drop_more_end : (b : ℕ) (bs : List ℕ) (k : ℕ) → drop (1 + k + 1) (b ∷ bs) ≡ drop (k + 1) bs
drop_more_end b bs k = let one : 1 + k + 1 ≡ suc (k + 1) = omega arith in rw one refl

-- a front that passes goes on
pub prefix_len-more : (p : ℕ → Bool) (b : ℕ) (bs : List ℕ) → p b ≡ true → prefix_len p (b ∷ bs) ≡ 1 + prefix_len p bs
prefix_len-more p b bs e = rw e refl

-- a front that passes stops
pub prefix_len-stop : (p : ℕ → Bool) (b : ℕ) (bs : List ℕ) → p b ≡ false → prefix_len p (b ∷ bs) ≡ 0
prefix_len-stop p b bs e = rw e refl

-- what stands behind k bytes of a piece
pub rest_of : (text : List ℕ) (at to k : ℕ) → at + k ≤ to → drop k (slice_range text at to) ≡ slice_range text (at + k) to
rest_of text at to k h =
    let n : to - at ≡ k + (to - (at + k)) = omega arith in
    ap (λ (m : ℕ). drop k (take m (drop at text))) n ∙ drop-take k (to - (at + k)) (drop at text) ∙ ap (λ (r : List ℕ). take (to - (at + k)) r) (drop-drop k at text)

-- a piece of a piece
pub span_of : (text : List ℕ) (at to k len : ℕ) → at + k + len ≤ to → take len (drop k (slice_range text at to)) ≡ slice_range text (at + k) (at + k + len)
span_of text at to k len h =
    let n : (at + k + len) - (at + k) ≡ len = omega arith in
    ap (λ (r : List ℕ). take len r) (rest_of text at to k (omega arith)) ∙ take-take len (to - (at + k)) (drop (at + k) text) (omega arith) ∙ ap (λ (m : ℕ). take m (drop (at + k) text)) (sym n)
