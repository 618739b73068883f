-- What a write into one of some tensors makes of their numbers.
use Rattle.std.proofs.Common.{◌≡◌, ℕ, zero, suc, ◌+◌, ◌%◌, ◌^◌, ◌<◌, ◌≤◌, ◌&&◌, List, [], ◌∷◌, length, get_or, refl, ap, sym, subst, ◌∙◌, arith, Option, Some, None, Bool, true, false, IsSome, is_some, slice_get, slice_set, unwrap_or, option_map}
use Rattle.std.specs.Prelude.{if◌then◌else◌, nat_eq}
use Rattle.std.specs.Option.{option_and_then}
use Rattle.std.specs.Str.{bytes_eq}
use Rattle.std.proofs.Math.Path.{fun_ext}
use Rattle.std.proofs.Math.Seq.{map-set_same}
use Rattle.std.proofs.lemmas.Bool.{eqb-true, eq-eqb}
use Rattle.std.proofs.lemmas.List.{length-set, get_or-set_same, get_or-set_other}
use Rattle.std.proofs.lemmas.Option.{slice_get-get_or, slice_get_past, slice_get_read, slice_get_within, slice_get-map, unwrap_or-slice_get, same_Some}
use Rattle.std.proofs.lemmas.Slice.Eq.{bytes_eq-Decides}
use Rattle.dt_base.specs.Ranges.{assignments}
use Rattle.dt_base.specs.Rows.{row_major}
use Rattle.dt_model.specs.WholeTensor.{WholeTensor, number_at, with_number}
use Rattle.dt_model.specs.Stmts.{shapes_of}
use Rattle.dt_nest.specs.Meaning.{with_work}
use Rattle.dt_nest.specs.World.{entries_of}
use Rattle.dt_nest.specs.Effects.{with_more}
use Rattle.dt_base.proofs.Assignments.{assignment-row_major}

-- an element after a write
pub slice_get-set_same : {A : Type 0} (xs : List A) (k : ℕ) (x : A) → k < length xs → slice_get (slice_set xs k x) k ≡ Some x
slice_get-set_same xs k x h =
    let room : k < length (slice_set xs k x) = omega (arith, length-set xs k x) in
    slice_get-get_or (slice_set xs k x) k x room ∙ ap Some (get_or-set_same xs k x x h)

pub slice_get-set_other : {A : Type 0} (xs : List A) (k j : ℕ) (x : A) → (j ≡ k → ⊥) → slice_get (slice_set xs k x) j ≡ slice_get xs j
slice_get-set_other [] k j x n = refl
slice_get-set_other (y ∷ ys) zero zero x n = absurd (n refl)
slice_get-set_other (y ∷ ys) zero (suc j) x n = refl
slice_get-set_other (y ∷ ys) (suc k) zero x n = refl
slice_get-set_other (y ∷ ys) (suc k) (suc j) x n = slice_get-set_other ys k j x (λ e. n (ap suc e))

-- the number at the coordinates of a tensor among others
pub entries_there : (ts : List WholeTensor) (u : ℕ) (x : WholeTensor) (e : List ℕ) (k : ℕ) → slice_get ts u ≡ Some x → row_major x.extents e ≡ Some k → entries_of ts u e ≡ get_or x.values k 0
entries_there ts u x e k h r = rw (h, r) (unwrap_or-slice_get x.values k 0)

entries_none : (ts : List WholeTensor) (u : ℕ) (x : WholeTensor) (e : List ℕ) → slice_get ts u ≡ Some x → row_major x.extents e ≡ None → entries_of ts u e ≡ 0
entries_none ts u x e h r = rw (h, r) refl

-- where there is no tensor the numbers are 0
pub entries_past : (ts : List WholeTensor) (u : ℕ) (e : List ℕ) → length ts ≤ u → entries_of ts u e ≡ 0
entries_past ts u e h = rw (slice_get_past ts u h) refl

-- a write at one number of one tensor
module _ (ts : List WholeTensor) (t : ℕ) (left new : WholeTensor) (c : List ℕ) (k old number : ℕ) (found : slice_get ts t ≡ Some left) (row : row_major left.extents c ≡ Some k) (room : k < length left.values)
    (was : old ≡ get_or left.values k 0) (is : new ≡ record { extents = left.extents; values = slice_set left.values k ((old + number) % 2 ^ 64) }) where
  after_here : slice_get (slice_set ts t new) t ≡ Some new
  after_here = slice_get-set_same ts t new (slice_get_within ts t left found)

  extents_stay : new.extents ≡ left.extents
  extents_stay = ap (λ (x : WholeTensor). x.extents) is

  written : entries_of (slice_set ts t new) t c ≡ (entries_of ts t c + number) % 2 ^ 64
  written =
      entries_there (slice_set ts t new) t new c k after_here (ap (λ (ns : List ℕ). row_major ns c) extents_stay ∙ row)
      ∙ ap (λ (x : WholeTensor). get_or x.values k 0) is ∙ get_or-set_same left.values k ((old + number) % 2 ^ 64) 0 room
      ∙ ap (λ (n : ℕ). (n + number) % 2 ^ 64) (was ∙ sym (entries_there ts t left c k found row))

  kept : (e : List ℕ) → (c ≡ e → ⊥) → entries_of (slice_set ts t new) t e ≡ entries_of ts t e
  kept e n = go (row_major left.extents e) refl
    where
      go : (r : Option ℕ) → row_major left.extents e ≡ r → entries_of (slice_set ts t new) t e ≡ entries_of ts t e
      go None q = entries_none (slice_set ts t new) t new e after_here (ap (λ (ns : List ℕ). row_major ns e) extents_stay ∙ q) ∙ sym (entries_none ts t left e found q)
      go (Some j) q =
          entries_there (slice_set ts t new) t new e j after_here (ap (λ (ns : List ℕ). row_major ns e) extents_stay ∙ q)
          ∙ ap (λ (x : WholeTensor). get_or x.values j 0) is
          ∙ get_or-set_other left.values k j ((old + number) % 2 ^ 64) 0 (λ (same : j ≡ k). n (sym (assignment-row_major left.extents c k row) ∙ ap (λ (i : ℕ). get_or (assignments left.extents) i []) (sym same) ∙ assignment-row_major left.extents e j q))
          ∙ sym (entries_there ts t left e j found q)

  -- the numbers have grown at one place
  grown : entries_of (slice_set ts t new) ≡ with_more (entries_of ts) t c number
  grown = fun_ext (λ u. fun_ext (λ e. go u e (nat_eq u t) (bytes_eq c e) (eqb-true u t) (λ p. eq-eqb u t p) (λ p. (bytes_eq-Decides c e).0 p) (λ p. (bytes_eq-Decides c e).1 p)))
    where
      go : (u : ℕ) (e : List ℕ) (b d : Bool) → (b ≡ true → u ≡ t) → (u ≡ t → b ≡ true) → (d ≡ true → c ≡ e) → (c ≡ e → d ≡ true)
          → entries_of (slice_set ts t new) u e ≡ (if b && d then (entries_of ts u e + number) % 2 ^ 64 else entries_of ts u e)
      go u e true true i j p q =
          let s : u ≡ t = i refl in let z : c ≡ e = p refl in
          subst (λ (v : ℕ). entries_of (slice_set ts t new) v e ≡ (entries_of ts v e + number) % 2 ^ 64) (sym s)
          (subst (λ (w : List ℕ). entries_of (slice_set ts t new) t w ≡ (entries_of ts t w + number) % 2 ^ 64) z written)
      go u e true false i j p q = subst (λ (v : ℕ). entries_of (slice_set ts t new) v e ≡ entries_of ts v e) (sym (i refl)) (kept e (λ z. let y = q z in absurd (cc)))
      go u e false d i j p q = ap (λ (o : Option WholeTensor). unwrap_or (option_and_then (λ x. number_at x e) o) 0) (slice_get-set_other ts t u new (λ z. let y = j z in absurd (cc)))

-- a number that was written at an index
with_number_is : (left : WholeTensor) (c : List ℕ) (k v : ℕ) → row_major left.extents c ≡ Some k → with_number left c v ≡ record { extents = left.extents; values = slice_set left.values k v }
with_number_is left c k v r = rw r refl

pub with_number_extents : (left : WholeTensor) (c : List ℕ) (v : ℕ) → (with_number left c v).extents ≡ left.extents
with_number_extents left c v = go (row_major left.extents c)
  where
    go : (r : Option ℕ) → (unwrap_or (option_map (λ k. record left { values = slice_set left.values k v }) r) left).extents ≡ left.extents
    go None = refl
    go (Some k) = refl

inside_values : (values : List ℕ) (k : ℕ) (o : Option ℕ) → slice_get values k ≡ o → is_some o ≡ true → k < length values
inside_values values k None e h = absurd (cc)
inside_values values k (Some x) e h = slice_get_within values k x e

-- a write of a grown number at an index
pub grows_at : (ts : List WholeTensor) (t : ℕ) (left new : WholeTensor) (cs c ns : List ℕ) (got : Option ℕ) (old number : ℕ) → t < length ts → left ≡ get_or ts t left → slice_get (shapes_of ts) t ≡ Some ns
    → IsSome (row_major ns c) → cs ≡ c → got ≡ number_at left cs → is_some got ≡ is_some (row_major left.extents cs) → old ≡ unwrap_or got 0 → new ≡ with_number left cs ((old + number) % 2 ^ 64)
    → entries_of (slice_set ts t new) ≡ with_more (entries_of ts) t c number
grows_at ts t left new cs c ns got old number h item shape inside same is some was writes = go (row_major left.extents c) refl (subst (λ (ms : List ℕ). IsSome (row_major ms c)) (sym extents) inside)
  where
    found : slice_get ts t ≡ Some left
    found = slice_get_read ts (length ts) t left refl h item

    extents : left.extents ≡ ns
    extents = same_Some left.extents ns (ap (λ (o : Option WholeTensor). option_map (λ x. x.extents) o) (sym found) ∙ sym (slice_get-map (λ (x : WholeTensor). x.extents) ts t) ∙ shape)

    go : (r : Option ℕ) → row_major left.extents c ≡ r → IsSome r → entries_of (slice_set ts t new) ≡ with_more (entries_of ts) t c number
    go None e s = absurd (cc)
    go (Some k) e s =
        let at : row_major left.extents cs ≡ Some k = ap (row_major left.extents) same ∙ e in
        let value : got ≡ slice_get left.values k = is ∙ ap (λ (r : Option ℕ). option_and_then (λ j. slice_get left.values j) r) at in
        let there : is_some got ≡ true = some ∙ ap (λ (r : Option ℕ). is_some r) at in
        grown ts t left new c k old number found e (inside_values left.values k got (sym value) there)
        (was ∙ ap (λ (o : Option ℕ). unwrap_or o 0) value ∙ unwrap_or-slice_get left.values k 0) (writes ∙ with_number_is left cs k ((old + number) % 2 ^ 64) at)

-- tensors keep their shapes under a write
pub shapes_kept : (ts : List WholeTensor) (t : ℕ) (left new : WholeTensor) (cs : List ℕ) (v : ℕ) → left ≡ get_or ts t left → new ≡ with_number left cs v → shapes_of (slice_set ts t new) ≡ shapes_of ts
shapes_kept ts t left new cs v item writes =
    map-set_same (λ (x : WholeTensor). x.extents) ts t new left (ap (λ (x : WholeTensor). x.extents) writes ∙ with_number_extents left cs v ∙ ap (λ (x : WholeTensor). x.extents) item)

-- a workspace behind the tensors has zeros already
pub reset_nothing : (ts : List WholeTensor) (n work : ℕ) → length ts ≡ n → with_work (entries_of ts) (n + work) (λ c. 0) ≡ entries_of ts
reset_nothing ts n work h = fun_ext (λ u. fun_ext (λ c. go u c (nat_eq u (n + work)) (eqb-true u (n + work))))
  where
    go : (u : ℕ) (c : List ℕ) (b : Bool) → (b ≡ true → u ≡ n + work) → (if b then 0 else entries_of ts u c) ≡ entries_of ts u c
    go u c true i = let e : u ≡ n + work = i refl in sym (entries_past ts u c (omega arith))
    go u c false i = refl
