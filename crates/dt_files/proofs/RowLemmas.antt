-- Records as they are written, one more at a time.
use Rattle.std.proofs.Common.{◌≡◌, ℕ, zero, suc, ◌+◌, ◌<◌, ◌≤◌, List, [], ◌∷◌, ◌++◌, length, get_or, take, map, min, refl, ap, ap₂, sym, ◌∙◌, arith, append_assoc, append-nil}
use Rattle.std.specs.Fmt.{decimal}
use Rattle.std.specs.List.{flat_map, zip}
use Rattle.std.proofs.lemmas.Grind.{flat_map-append}
use Rattle.std.proofs.lemmas.List.{take_more, take_all, length-map, get_or-map}
use Rattle.std.proofs.lemmas.Slice.Zip.{length-zip}
use Rattle.dt_files.specs.Rows.{given_with}
use Rattle.dt_files.specs.Written.{row_text, rows_text, stored_entries}
use Rattle.dt_tensor.specs.Packed.{Packed}
use Rattle.dt_tensor.specs.declared.entry.Given.{Given}

-- one more coordinate
pub level_more : (start cs : List ℕ) (i x : ℕ) → i < length cs → x ≡ get_or cs i 0
    → ((start ++ flat_map (λ x. decimal x ++ 44 ∷ []) (take i cs)) ++ decimal x) ++ 44 ∷ [] ≡ start ++ flat_map (λ x. decimal x ++ 44 ∷ []) (take (i + 1) cs)
level_more start cs i x h is =
    append_assoc (start ++ flat_map (λ x. decimal x ++ 44 ∷ []) (take i cs)) (decimal x) (44 ∷ [])
    ∙ append_assoc start (flat_map (λ x. decimal x ++ 44 ∷ []) (take i cs)) (decimal x ++ 44 ∷ [])
    ∙ ap (λ (l : List ℕ). start ++ l)
    (ap (λ (y : ℕ). flat_map (λ x. decimal x ++ 44 ∷ []) (take i cs) ++ (decimal y ++ 44 ∷ [])) is
    ∙ ap (λ (l : List ℕ). flat_map (λ x. decimal x ++ 44 ∷ []) (take i cs) ++ l) (sym (append-nil (decimal (get_or cs i 0) ++ 44 ∷ [])))
    ∙ sym (ap (λ (l : List ℕ). flat_map (λ x. decimal x ++ 44 ∷ []) l) (take_more cs i 0 h) ∙ flat_map-append (λ x. decimal x ++ 44 ∷ []) (take i cs) (get_or cs i 0 ∷ [])))

-- the number behind all coordinates
pub row_end : (start cs : List ℕ) (i v : ℕ) → length cs ≤ i → ((start ++ flat_map (λ x. decimal x ++ 44 ∷ []) (take i cs)) ++ decimal v) ++ 10 ∷ [] ≡ start ++ row_text cs v
row_end start cs i v h =
    append_assoc (start ++ flat_map (λ x. decimal x ++ 44 ∷ []) (take i cs)) (decimal v) (10 ∷ [])
    ∙ append_assoc start (flat_map (λ x. decimal x ++ 44 ∷ []) (take i cs)) (decimal v ++ 10 ∷ [])
    ∙ ap (λ (l : List ℕ). start ++ (flat_map (λ x. decimal x ++ 44 ∷ []) l ++ (decimal v ++ 10 ∷ []))) (take_all i cs h)

zip_at : (cs : List (List ℕ)) (vs : List ℕ) (i : ℕ) → i < length cs → length vs ≡ length cs → get_or (zip cs vs) i ([], 0) ≡ (get_or cs i [], get_or vs i 0)
zip_at [] vs i h e = absurd (omega arith)
zip_at (c ∷ cs) [] i h e = absurd (omega arith)
zip_at (c ∷ cs) (v ∷ vs) zero h e = refl
zip_at (c ∷ cs) (v ∷ vs) (suc i) h e = zip_at cs vs i (omega arith) (omega arith)

pub entry_count : (t : Packed) → length t.values ≡ length t.coords → length (stored_entries t) ≡ length t.coords
entry_count t full = length-map (zip t.coords t.values) (λ p. given_with p.0 p.1) ∙ length-zip t.coords t.values ∙ ap (λ (n : ℕ). min (length t.coords) n) full ∙ (let e : min (length t.coords) (length t.coords) ≡ length t.coords = omega arith in e)

pub entry_at_place : (t : Packed) (i : ℕ) → length t.values ≡ length t.coords → i < length t.coords → get_or (stored_entries t) i (given_with [] 0) ≡ given_with (get_or t.coords i []) (get_or t.values i 0)
entry_at_place t i full h =
    let room : i < length (zip t.coords t.values) = omega (arith, entry_count t full, length-map (zip t.coords t.values) (λ (p : List ℕ × ℕ). given_with p.0 p.1)) in
    get_or-map (λ (p : List ℕ × ℕ). given_with p.0 p.1) (zip t.coords t.values) i ([], 0) (given_with [] 0) room
    ∙ ap (λ (p : List ℕ × ℕ). given_with p.0 p.1) (zip_at t.coords t.values i h full)

-- one more record
pub row_more : (t : Packed) (i : ℕ) → length t.values ≡ length t.coords → i < length t.coords
    → flat_map (λ (e : Given). row_text e.at e.value) (take i (stored_entries t)) ++ row_text (get_or t.coords i []) (get_or t.values i 0) ≡ flat_map (λ (e : Given). row_text e.at e.value) (take (i + 1) (stored_entries t))
row_more t i full h =
    let room : i < length (stored_entries t) = omega (arith, entry_count t full) in
    ap (λ (e : Given). flat_map (λ (e : Given). row_text e.at e.value) (take i (stored_entries t)) ++ row_text e.at e.value) (sym (entry_at_place t i full h))
    ∙ ap (λ (l : List ℕ). flat_map (λ (e : Given). row_text e.at e.value) (take i (stored_entries t)) ++ l) (sym (append-nil (row_text (get_or (stored_entries t) i (given_with [] 0)).at (get_or (stored_entries t) i (given_with [] 0)).value)))
    ∙ sym (ap (λ (l : List Given). flat_map (λ (e : Given). row_text e.at e.value) l) (take_more (stored_entries t) i (given_with [] 0) room) ∙ flat_map-append (λ (e : Given). row_text e.at e.value) (take i (stored_entries t)) (get_or (stored_entries t) i (given_with [] 0) ∷ []))

pub rows_end : (t : Packed) (i : ℕ) → length t.values ≡ length t.coords → length t.coords ≤ i → flat_map (λ (e : Given). row_text e.at e.value) (take i (stored_entries t)) ≡ rows_text t
unfolding rows_text
rows_end t i full h = ap (λ (l : List Given). flat_map (λ (e : Given). row_text e.at e.value) l) (take_all i (stored_entries t) (omega (arith, entry_count t full)))
