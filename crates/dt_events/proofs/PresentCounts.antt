-- No more words of a buffer are present than the greatest number with which it is opened.
use Rattle.std.proofs.Common.{◌≡◌, ℕ, zero, suc, ◌+◌, ◌<◌, ◌≤◌, Bool, true, false, ◌&&◌, ◌||◌, List, [], ◌∷◌, length, is_some, refl, ap, ◌∙◌, ⊎_elim, arith, eqb-true, ne_eqb, if◌then◌else◌}
use Rattle.std.specs.Prelude.{nat_eq}
use Rattle.std.proofs.lemmas.Bool.{and_from, cases_Bool}
use Rattle.dt_runs.specs.Sets.{contains}
use Rattle.dt_argument.specs.Listings.{state_at}
use Rattle.dt_argument.proofs.Shapes.{if_true}
use Rattle.dt_plan.specs.declared.kind.Kind.TheVariants as kind
use Rattle.dt_plan.specs.declared.ops.Op.{Op}
use Rattle.dt_plan.specs.declared.touches.Buffer.{Buffer}
use Rattle.dt_plan.specs.Layouts.{Layout}
use Rattle.dt_events.specs.Conflicts.{is_same_buffer}
use Rattle.dt_events.specs.State.{Word}
use Rattle.dt_events.specs.Units.{scratch_of}
use Rattle.dt_events.specs.Jobs.{op_at, listing_over}
use Rattle.dt_events.specs.PresenceLaws.{IsClosed, IsOpen, count_below, is_alloc, opened_by, most_opened, WordsAreBounded}
use Rattle.dt_events.proofs.Presence.{opened_whole}

-- what a test counts
abbrev one_if : Bool → ℕ
one_if b = if b then 1 else 0

-- tests that are equal count the same
pub count_same : (f g : ℕ → Bool) (n : ℕ) → ((w : ℕ) → f w ≡ g w) → count_below f n ≡ count_below g n
count_same f g n h = let e : f ≡ g = λ i w. h w i in ap (λ x. count_below x n) e

pub count_none : (n : ℕ) → count_below (λ w. false) n ≡ 0
count_none zero = refl
count_none (suc n) = let again = count_none n in omega (arith, again)

either_count : (x y : Bool) → (if x || y then 1 else 0) ≤ (if x then 1 else 0) + (if y then 1 else 0)
either_count true true = omega arith
either_count true false = omega arith
either_count false true = omega arith
either_count false false = omega arith

count_either : (f g : ℕ → Bool) (n : ℕ) → count_below (λ w. f w || g w) n ≤ count_below f n + count_below g n
count_either f g zero = omega arith
count_either f g (suc n) = let again = count_either f g n in let here = either_count (f n) (g n) in omega (arith, again, here)

count_past : (v n : ℕ) → n ≤ v → count_below (nat_eq v) n ≡ 0
count_past v zero h = refl
count_past v (suc n) h =
    let again : count_below (nat_eq v) n ≡ 0 = count_past v n (omega arith) in
    let off : nat_eq v n ≡ false = ne_eqb v n (λ (e : v ≡ n). absurd (omega (arith, e, h))) in
    let here : one_if (nat_eq v n) ≡ 0 = ap one_if off in
    omega (arith, again, here)

count_one : (v n : ℕ) → count_below (nat_eq v) n ≤ 1
count_one v zero = omega arith
count_one v (suc n) =
    ⊎_elim
    (λ (e : nat_eq v n ≡ true).
    let same : v ≡ n = eqb-true v n e in
    let past : count_below (nat_eq v) n ≡ 0 = count_past v n (omega (arith, same)) in
    let one : one_if (nat_eq v n) ≡ 1 = ap one_if e in
    omega (arith, past, one))
    (λ (e : nat_eq v n ≡ false).
    let again : count_below (nat_eq v) n ≤ 1 = count_one v n in
    let none : one_if (nat_eq v n) ≡ 0 = ap one_if e in
    omega (arith, again, none))
    (cases_Bool (nat_eq v n))

-- no more numbers are in a list than it is long
pub count_contains : (words : List ℕ) (n : ℕ) → count_below (contains words) n ≤ length words
count_contains [] n = let none = count_none n in omega (arith, none)
count_contains (v ∷ vs) n =
    let a = count_either (nat_eq v) (contains vs) n in
    let b = count_one v n in
    let c = count_contains vs n in
    omega (arith, a, b, c)

-- an alloc of the buffer is no greater than the greatest
most_at : (l : Layout) (n : ℕ) (b : Buffer) (ops : List Op) (a : ℕ) → a < length ops → (op_at ops a).kind ≡ kind.Alloc → (nat_eq (op_at ops a).node n && is_same_buffer (scratch_of l (op_at ops a)) b) ≡ true
    → length (op_at ops a).words ≤ most_opened l n b ops
most_at l n b [] a h e q = absurd (omega (arith, h))
most_at l n b (o ∷ os) zero h e q =
    let opens : opened_by l n b o ≡ length o.words =
    if_true (is_alloc o.kind && (nat_eq o.node n && is_same_buffer (scratch_of l o) b)) (length o.words) 0 (and_from (is_alloc o.kind) (nat_eq o.node n && is_same_buffer (scratch_of l o) b) (ap is_alloc e) q) in
    omega (arith, opens)
most_at l n b (o ∷ os) (suc a) h e q = let again : length (op_at os a).words ≤ most_opened l n b os = most_at l n b os a (omega (arith, h)) e q in omega (arith, again)

-- the words of a buffer are bounded
pub words_bounded : WordsAreBounded
words_bounded l ops event opening done n b absent size =
    ⊎_elim
    (λ (k : IsClosed (state_at (listing_over l ops event opening) done) n b).
    let none : count_below (λ w. is_some (state_at (listing_over l ops event opening) done (Word n b w))) size ≡ 0 =
    count_same (λ w. is_some (state_at (listing_over l ops event opening) done (Word n b w))) (λ w. false) size k ∙ count_none size in
    omega (arith, none))
    (λ (k : IsOpen l ops (length ops) (state_at (listing_over l ops event opening) done) n b).
    let same : count_below (λ w. is_some (state_at (listing_over l ops event opening) done (Word n b w))) size ≡ count_below (contains (op_at ops k.by).words) size =
    count_same (λ w. is_some (state_at (listing_over l ops event opening) done (Word n b w))) (contains (op_at ops k.by).words) size k.words in
    let few = count_contains (op_at ops k.by).words size in
    let most = most_at l n b ops k.by k.before k.opens k.buffer in
    omega (arith, same, few, most))
    (opened_whole l ops event opening done n b absent)
