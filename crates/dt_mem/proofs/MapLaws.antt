-- The value of every word, when a buffer changes.
use Rattle.std.proofs.Common.{◌≡◌, ◌≢◌, ℕ, zero, suc, ◌+◌, ◌%◌, ◌^◌, ◌<◌, ◌&&◌, Bool, true, false, List, [], ◌∷◌, length, Option, Some, None, get_or, replicate, slice_get, slice_set, ◌==◌, nat_eq, refl, sym, ap, ◌∙◌, arith, ⊎_elim, if◌then◌else◌}
use Rattle.std.specs.Prelude.{option_map, option_and_then, unwrap_or}
use Rattle.std.proofs.lemmas.Bool.{cases_eq, eq-eqb, eqb-true, ne_eqb}
use Rattle.std.proofs.lemmas.List.Quantifiers.{position-Some}
use Rattle.std.proofs.lemmas.Option.{option_and_then_some, slice_get_within}
use Rattle.dt_mem.specs.Memory.{Held, Slot, changed, ended, folded, opened, place_of, value_at, value_in, with_more, with_value, written}
use Rattle.dt_mem.proofs.RoomLemmas.{place_within}

-- the value of a word of a buffer
abbrev value_of : Option Slot → ℕ → Option ℕ
value_of o w = option_and_then (λ h. value_in h w) (option_and_then (λ (s : Slot). s.held) o)

-- the changed buffer
same-changed : (f : Slot → Slot) (m : List Slot) (b : ℕ) → slice_get (changed f b m) b ≡ option_map f (slice_get m b)
same-changed f [] b = refl
same-changed f (s ∷ m) zero = refl
same-changed f (s ∷ m) (suc b) = same-changed f m b

-- as many buffers as before
pub length-changed : (f : Slot → Slot) (m : List Slot) (b : ℕ) → length (changed f b m) ≡ length m
length-changed f [] b = refl
length-changed f (s ∷ m) zero = refl
length-changed f (s ∷ m) (suc b) = ap suc (length-changed f m b)

-- the other buffers
pub other-changed : (f : Slot → Slot) (m : List Slot) (b c : ℕ) → c ≢ b → slice_get (changed f b m) c ≡ slice_get m c
other-changed f [] b c h = refl
other-changed f (s ∷ m) zero zero h = absurd (h refl)
other-changed f (s ∷ m) zero (suc c) h = refl
other-changed f (s ∷ m) (suc b) zero h = refl
other-changed f (s ∷ m) (suc b) (suc c) h = other-changed f m b c (λ e. h (ap suc e))

-- a change says what it makes of its own buffer, and leaves the others
by_buffer : (f : Slot → Slot) (m : List Slot) (b : ℕ) (here : ℕ → Option ℕ) → ((w : ℕ) → value_of (option_map f (slice_get m b)) w ≡ here w) → (c w : ℕ) → value_at (changed f b m) c w ≡ (if nat_eq c b then here w else value_at m c w)
by_buffer f m b here h c w =
    ⊎_elim
    (λ (e : c ≡ b). let same : nat_eq b b ≡ true = eq-eqb b b refl in rw e (rw same (ap (λ o. value_of o w) (same-changed f m b) ∙ h w)))
    (λ (n : c ≢ b). let other : nat_eq c b ≡ false = ne_eqb c b n in rw other (ap (λ o. value_of o w) (other-changed f m b c n)))
    (cases_eq c b)

ends_here : (o : Option Slot) (w : ℕ) → value_of (option_map ended o) w ≡ None
ends_here None w = refl
ends_here (Some s) w = refl

pub ends_with_nothing : (m : List Slot) (b c w : ℕ) → value_at (changed ended b m) c w ≡ (if nat_eq c b then None else value_at m c w)
ends_with_nothing m b c w = by_buffer ended m b (λ u. None) (ends_here (slice_get m b)) c w

zero_at : (n k : ℕ) → k < n → slice_get {X = ℕ} (replicate n 0) k ≡ Some 0
zero_at zero k h = absurd (omega arith)
zero_at (suc n) zero h = refl
zero_at (suc n) (suc k) h = zero_at n k (omega arith)

zeros_at : (n : ℕ) (p : Option ℕ) → ((k : ℕ) → p ≡ Some k → k < n) → option_and_then {U = ℕ} (slice_get {X = ℕ} (replicate n 0)) p ≡ option_map (λ (k : ℕ). 0) p
zeros_at n None h = refl
zeros_at n (Some k) h = zero_at n k (h k refl)

begins_here : (words : List ℕ) (m : List Slot) (b : ℕ) → b < length m → (w : ℕ) → value_of (option_map (opened words) (slice_get m b)) w ≡ option_map (λ (k : ℕ). 0) (place_of words w)
begins_here words [] b h w = absurd (omega arith)
begins_here words (s ∷ m) zero h w = zeros_at (length words) (place_of words w) (place_within words w)
begins_here words (s ∷ m) (suc b) h w = begins_here words m b (omega arith) w

pub begins_with_zeros : (m : List Slot) (b : ℕ) (words : List ℕ) → b < length m → (c w : ℕ) → value_at (changed (opened words) b m) c w ≡ (if nat_eq c b then option_map (λ (k : ℕ). 0) (place_of words w) else value_at m c w)
begins_with_zeros m b words h c w = by_buffer (opened words) m b (λ u. option_map (λ (k : ℕ). 0) (place_of words u)) (begins_here words m b h) c w

set_here : (xs : List ℕ) (k v : ℕ) → k < length xs → slice_get (slice_set xs k v) k ≡ Some v
set_here [] k v h = absurd (omega arith)
set_here (x ∷ xs) zero v h = refl
set_here (x ∷ xs) (suc k) v h = set_here xs k v (omega arith)

set_there : (xs : List ℕ) (k j v : ℕ) → j ≢ k → slice_get (slice_set xs k v) j ≡ slice_get xs j
set_there [] k j v h = refl
set_there (x ∷ xs) zero zero v h = absurd (h refl)
set_there (x ∷ xs) zero (suc j) v h = refl
set_there (x ∷ xs) (suc k) zero v h = refl
set_there (x ∷ xs) (suc k) (suc j) v h = set_there xs k j v (λ e. h (ap suc e))

-- two words have two places
places_differ : (words : List ℕ) (w u k j : ℕ) → u ≢ w → place_of words w ≡ Some k → place_of words u ≡ Some j → j ≢ k
places_differ words w u k j n p q e =
    let at = position-Some (λ y. y == w) words k 0 p in
    let other = position-Some (λ y. y == u) words j 0 q in
    n (sym (eqb-true (get_or words j 0) u other.1) ∙ ap (λ (i : ℕ). get_or words i 0) e ∙ eqb-true (get_or words k 0) w at.1)

there_after : (words values : List ℕ) (w u k v : ℕ) → u ≢ w → place_of words w ≡ Some k → (q : Option ℕ) → place_of words u ≡ q → option_and_then (slice_get (slice_set values k v)) q ≡ option_and_then (slice_get values) q
there_after words values w u k v n p None e = refl
there_after words values w u k v n p (Some j) e = set_there values k j v (places_differ words w u k j n p e)

-- the words of a buffer, one of which is written
written_in : (h : Held) (w x v k : ℕ) → place_of h.words w ≡ Some k → value_in h w ≡ Some x → (u : ℕ) → value_in (with_value w v h) u ≡ (if nat_eq u w then Some v else value_in h u)
written_in h w x v k p g u =
    let place : unwrap_or (place_of h.words w) 0 ≡ k = ap (λ o. unwrap_or o 0) p in
    let there : slice_get h.values k ≡ Some x = sym (ap (option_and_then (slice_get h.values)) p) ∙ g in
    rw place (⊎_elim
    (λ (e : u ≡ w).
    let same : nat_eq w w ≡ true = eq-eqb w w refl in
    rw e (rw same (ap (option_and_then (slice_get (slice_set h.values k v))) p ∙ set_here h.values k v (slice_get_within h.values k x there))))
    (λ (n : u ≢ w). let other : nat_eq u w ≡ false = ne_eqb u w n in rw other (there_after h.words h.values w u k v n p (place_of h.words u) refl))
    (cases_eq u w))

written_held : (o : Option Held) (w x v : ℕ) → option_and_then (λ h. value_in h w) o ≡ Some x → (u : ℕ) → option_and_then (λ h. value_in h u) (option_map (with_value w v) o) ≡ (if nat_eq u w then Some v else option_and_then (λ h. value_in h u) o)
written_held None w x v e u = absurd (cc)
written_held (Some h) w x v e u =
    option_and_then_some {P = value_in (with_value w v h) u ≡ (if nat_eq u w then Some v else value_in h u)} (slice_get h.values) (place_of h.words w) x e
    (λ k p g. written_in h w x v k p e u)

folded_held : (o : Option Held) (w x d : ℕ) → option_and_then (λ h. value_in h w) o ≡ Some x → option_map (with_more w d) o ≡ option_map (with_value w ((x + d) % 2 ^ 64)) o
folded_held None w x d e = refl
folded_held (Some h) w x d e = ap (λ (o : Option ℕ). Some (with_value w ((unwrap_or o 0 + d) % 2 ^ 64) h)) e

written_here : (o : Option Slot) (w x v : ℕ) → value_of o w ≡ Some x → (u : ℕ) → value_of (option_map (written w v) o) u ≡ (if nat_eq u w then Some v else value_of o u)
written_here None w x v e u = absurd (cc)
written_here (Some s) w x v e u = written_held s.held w x v e u

folded_here : (o : Option Slot) (w x d : ℕ) → value_of o w ≡ Some x → (u : ℕ) → value_of (option_map (folded w d) o) u ≡ (if nat_eq u w then Some ((x + d) % 2 ^ 64) else value_of o u)
folded_here None w x d e u = absurd (cc)
folded_here (Some s) w x d e u = ap (λ o. option_and_then (λ h. value_in h u) o) (folded_held s.held w x d e) ∙ written_held s.held w x ((x + d) % 2 ^ 64) e u

one_word : (c b : ℕ) (t : Bool) (m : List Slot) (u v : ℕ) → (if nat_eq c b then (if t then Some v else value_at m b u) else value_at m c u) ≡ (if nat_eq c b && t then Some v else value_at m c u)
one_word c b t m u v =
    ⊎_elim
    (λ (e : c ≡ b). let same : nat_eq b b ≡ true = eq-eqb b b refl in rw e (rw same refl))
    (λ (n : c ≢ b). let other : nat_eq c b ≡ false = ne_eqb c b n in rw other refl)
    (cases_eq c b)

pub writes_one_word : (m : List Slot) (b w x v : ℕ) → value_at m b w ≡ Some x → (c u : ℕ) → value_at (changed (written w v) b m) c u ≡ (if nat_eq c b && nat_eq u w then Some v else value_at m c u)
writes_one_word m b w x v e c u =
    by_buffer (written w v) m b (λ y. if nat_eq y w then Some v else value_at m b y) (written_here (slice_get m b) w x v e) c u ∙ one_word c b (nat_eq u w) m u v

pub folds_one_word : (m : List Slot) (b w x d : ℕ) → value_at m b w ≡ Some x → (c u : ℕ) → value_at (changed (folded w d) b m) c u ≡ (if nat_eq c b && nat_eq u w then Some ((x + d) % 2 ^ 64) else value_at m c u)
folds_one_word m b w x d e c u =
    by_buffer (folded w d) m b (λ y. if nat_eq y w then Some ((x + d) % 2 ^ 64) else value_at m b y) (folded_here (slice_get m b) w x d e) c u ∙ one_word c b (nat_eq u w) m u ((x + d) % 2 ^ 64)
