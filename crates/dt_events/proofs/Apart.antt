-- Footprints that don't meet clash at no cell.
use Rattle.std.proofs.Common.{◌≡◌, ℕ, Bool, true, false, not, ◌&&◌, ◌||◌, List, [], ◌∷◌, length, refl, sym, ap, ◌∙◌, subst, eqb-true, eq-eqb, arith, if◌then◌else◌}
use Rattle.std.specs.Prelude.{nat_eq, nat_lt}
use Rattle.std.specs.List.{list_any}
use Rattle.std.proofs.lemmas.Bool.{and_parts, or_parts, or_left, or_right, lt-ltb}
use Rattle.dt_runs.specs.Sets.{contains}
use Rattle.dt_argument.specs.Frames.{Mode, Untouched, clash, AreApart}
use Rattle.dt_argument.proofs.Joining.{clash_untouched, clash_both, clash_with_both}
use Rattle.dt_plan.specs.declared.touches.Buffer.{Buffer}
use Rattle.dt_plan.specs.declared.touches.Mode as access
use Rattle.dt_plan.specs.declared.touches.Mode.TheVariants as how
use Rattle.dt_plan.specs.declared.touches.Touch.{Touch}
use Rattle.dt_events.specs.Conflicts.{is_same_buffer, may_swap, have_common, touches_meet, some_meet}
use Rattle.dt_events.specs.State.{Cell, Word, Sign, has_cell, at_word, at_sign, touch_at, touches_at}
use Rattle.dt_events.proofs.Cells.{same_buffer_true, same_buffer_refl}

-- a list that has a word has words
has_words : (words : List ℕ) (w : ℕ) → contains words w ≡ true → nat_lt 0 (length words) ≡ true
has_words [] w h = cc
has_words (x ∷ words) w h = lt-ltb 0 (length (x ∷ words)) (omega arith)

-- a word of two lists is found
common_found : (xs ys : List ℕ) (w : ℕ) → contains xs w ≡ true → contains ys w ≡ true → list_any (contains ys) xs ≡ true
common_found [] ys w h g = cc
common_found (x ∷ xs) ys w h g = go (common_found xs ys w) (nat_eq x w) (eqb-true x w) h
  where
    go : (contains xs w ≡ true → contains ys w ≡ true → list_any (contains ys) xs ≡ true) → (b : Bool) → (b ≡ true → x ≡ w) → (b || contains xs w) ≡ true → (contains ys x || list_any (contains ys) xs) ≡ true
    go again true e h = or_left (contains ys x) (list_any (contains ys) xs) (ap (contains ys) (e refl) ∙ g)
    go again false e h = or_right (contains ys x) (list_any (contains ys) xs) (again h g)

-- footprints that both have a word have a common one
common_word : (a_whole b_whole : Bool) (xs ys : List ℕ) (w : ℕ) → (a_whole || contains xs w) ≡ true → (b_whole || contains ys w) ≡ true
    → (if a_whole then b_whole || nat_lt 0 (length ys) else if b_whole then nat_lt 0 (length xs) else list_any (contains ys) xs) ≡ true
common_word true true xs ys w h g = refl
common_word true false xs ys w h g = has_words ys w g
common_word false true xs ys w h g = has_words xs w h
common_word false false xs ys w h g = common_found xs ys w h g

-- At a cell ----------------------------------------------------------------------------------------------------------------

-- at a common word
word_apart : (m k : access.Mode) (common : Bool) → common ≡ true → (not (may_swap m k) && common) ≡ false → clash (at_word m) (at_word k) ≡ false
word_apart how.Read how.Read common e h = refl
word_apart how.Read how.Write common e h = sym e ∙ h
word_apart how.Read how.Fold common e h = sym e ∙ h
word_apart how.Write how.Read common e h = sym e ∙ h
word_apart how.Write how.Write common e h = sym e ∙ h
word_apart how.Write how.Fold common e h = sym e ∙ h
word_apart how.Fold how.Read common e h = sym e ∙ h
word_apart how.Fold how.Write common e h = sym e ∙ h
word_apart how.Fold how.Fold common e h = refl

-- at the sign, where x and y tell whether the footprints have words
sign_apart : (a_whole b_whole : Bool) (m k : access.Mode) (x y common : Bool) → (a_whole || x) ≡ true → (b_whole || y) ≡ true
    → (not (may_swap m k) && (if a_whole then b_whole || y else if b_whole then x else common)) ≡ false → clash (at_sign a_whole m) (at_sign b_whole k) ≡ false
sign_apart a_whole b_whole how.Read how.Read x y common e f h = refl
sign_apart a_whole b_whole how.Read how.Fold x y common e f h = refl
sign_apart a_whole b_whole how.Fold how.Read x y common e f h = refl
sign_apart a_whole b_whole how.Fold how.Fold x y common e f h = refl
sign_apart a_whole false how.Read how.Write x y common e f h = refl
sign_apart true true how.Read how.Write x y common e f h = h
sign_apart false true how.Read how.Write x y common e f h = sym e ∙ h
sign_apart a_whole false how.Fold how.Write x y common e f h = refl
sign_apart true true how.Fold how.Write x y common e f h = h
sign_apart false true how.Fold how.Write x y common e f h = sym e ∙ h
sign_apart false b_whole how.Write how.Read x y common e f h = refl
sign_apart true b_whole how.Write how.Read x y common e f h = sym f ∙ h
sign_apart false b_whole how.Write how.Fold x y common e f h = refl
sign_apart true b_whole how.Write how.Fold x y common e f h = sym f ∙ h
sign_apart false false how.Write how.Write x y common e f h = refl
sign_apart false true how.Write how.Write x y common e f h = sym e ∙ h
sign_apart true false how.Write how.Write x y common e f h = sym f ∙ h
sign_apart true true how.Write how.Write x y common e f h = h

-- Two footprints -----------------------------------------------------------------------------------------------------------

-- a clash under two tests needs both
clash_if : (x y : Bool) (m n : Mode) → (x ≡ true → y ≡ true → clash m n ≡ false) → clash (if x then m else Untouched) (if y then n else Untouched) ≡ false
clash_if true true m n h = h refl refl
clash_if true false m n h = clash_untouched m
clash_if false true m n h = refl
clash_if false false m n h = refl

-- where two tests hold, the others fail
rest_fails : (x y z : Bool) → x ≡ true → y ≡ true → (x && (y && z)) ≡ false → z ≡ false
rest_fails true true z e f h = h
rest_fails true false z e f h = cc
rest_fails false y z e f h = cc

-- numbers that are equal to one
eq_both : (m n k : ℕ) → nat_eq m k ≡ true → nat_eq n k ≡ true → nat_eq m n ≡ true
eq_both m n k h g = eq-eqb m n (eqb-true m k h ∙ sym (eqb-true n k g))

-- buffers that are one with another
same_both : (b c d : Buffer) → is_same_buffer b d ≡ true → is_same_buffer c d ≡ true → is_same_buffer b c ≡ true
same_both b c d h g = subst (λ (x : Buffer). is_same_buffer b x ≡ true) (same_buffer_true b d h ∙ sym (same_buffer_true c d g)) (same_buffer_refl b)

-- what is left of the test of two footprints that both have a cell of a buffer
not_met : (f g : Touch) (n : ℕ) (b : Buffer) → (nat_eq f.node n && is_same_buffer f.buffer b) ≡ true → (nat_eq g.node n && is_same_buffer g.buffer b) ≡ true → touches_meet f g ≡ false
    → (not (may_swap f.mode g.mode) && have_common f g) ≡ false
not_met f g n b h k away =
    let p = and_parts (nat_eq f.node n) (is_same_buffer f.buffer b) h in
    let q = and_parts (nat_eq g.node n) (is_same_buffer g.buffer b) k in
    rest_fails (nat_eq f.node g.node) (is_same_buffer f.buffer g.buffer) (not (may_swap f.mode g.mode) && have_common f g) (eq_both f.node g.node n p.0 q.0) (same_both f.buffer g.buffer b p.1 q.1) away

-- footprints that don't meet clash at no cell
two_apart : (f g : Touch) → touches_meet f g ≡ false → (c : Cell) → clash (touch_at f c) (touch_at g c) ≡ false
two_apart f g away (Word n b w) =
    clash_if (has_cell f (Word n b w)) (has_cell g (Word n b w)) (at_word f.mode) (at_word g.mode) (λ x y.
    let p = and_parts (nat_eq f.node n && is_same_buffer f.buffer b) (f.whole || contains f.words w) x in
    let q = and_parts (nat_eq g.node n && is_same_buffer g.buffer b) (g.whole || contains g.words w) y in
    word_apart f.mode g.mode (have_common f g) (common_word f.whole g.whole f.words g.words w p.1 q.1) (not_met f g n b p.0 q.0 away))
two_apart f g away (Sign n b) =
    clash_if (has_cell f (Sign n b)) (has_cell g (Sign n b)) (at_sign f.whole f.mode) (at_sign g.whole g.mode) (λ x y.
    let p = and_parts (nat_eq f.node n && is_same_buffer f.buffer b) (f.whole || nat_lt 0 (length f.words)) x in
    let q = and_parts (nat_eq g.node n && is_same_buffer g.buffer b) (g.whole || nat_lt 0 (length g.words)) y in
    sign_apart f.whole g.whole f.mode g.mode (nat_lt 0 (length f.words)) (nat_lt 0 (length g.words)) (list_any (contains g.words) f.words) p.1 q.1 (not_met f g n b p.0 q.0 away))

-- Lists --------------------------------------------------------------------------------------------------------------------

-- one footprint and some
one_apart : (f : Touch) (gs : List Touch) → list_any (touches_meet f) gs ≡ false → (c : Cell) → clash (touch_at f c) (touches_at gs c) ≡ false
one_apart f [] h c = clash_untouched (touch_at f c)
one_apart f (g ∷ gs) h c =
    let p = or_parts (touches_meet f g) (list_any (touches_meet f) gs) h in
    clash_with_both (touch_at f c) (touch_at g c) (touches_at gs c) (two_apart f g p.0 c) (one_apart f gs p.1 c)

-- two lists of footprints of which none meet clash at no cell
pub lists_apart : (fs gs : List Touch) → some_meet fs gs ≡ false → AreApart (touches_at fs) (touches_at gs)
lists_apart [] gs h c = refl
lists_apart (f ∷ fs) gs h c =
    let p = or_parts (list_any (touches_meet f) gs) (some_meet fs gs) h in
    clash_both (touch_at f c) (touches_at fs c) (touches_at gs c) (one_apart f gs p.0 c) (lists_apart fs gs p.1 c)
