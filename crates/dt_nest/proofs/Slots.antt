-- The slots of a tree's loops.
use Rattle.std.proofs.Common.{◌≡◌, ℕ, ◌<◌, List, length, refl, sym, ap, ◌∙◌, subst, arith}
use Rattle.std.specs.Prelude.{slice_index, slice_set}
use Rattle.std.proofs.Math.ListN.{set, length-set}
use Rattle.std.proofs.lemmas.List.{get_or-set_other, get_or-set_same, set-set, set-get_or}
use Rattle.dt_nest.specs.Tree.{Tree, Loop, Pre, Leaf}
use Rattle.dt_nest.specs.Search.{cleared, AreZero, Lacks, AreApart, HaveSlots}

-- a slot of no loop of the tree
pub zero_set : (tree : Tree) (v i : ℕ) (slots : List ℕ) → Lacks v tree → AreZero tree slots → AreZero tree (slice_set slots v i)
zero_set (Loop u n walk body) v i slots l z = (get_or-set_other slots v u i 0 (λ e. l.0 (sym e)) ∙ z.0, zero_set body v i slots l.1 z.1)
zero_set (Pre work more producer consumer) v i slots l z = (zero_set producer v i slots l.0 z.0, zero_set consumer v i slots l.1 z.1)
zero_set (Leaf lhs terms guards kernel) v i slots l z = tt

pub cleared_other : (tree : Tree) (v : ℕ) (slots : List ℕ) → Lacks v tree → slice_index (cleared tree slots) v ≡ slice_index slots v
cleared_other (Loop u n walk body) v slots l = get_or-set_other (cleared body slots) u v 0 0 l.0 ∙ cleared_other body v slots l.1
cleared_other (Pre work more producer consumer) v slots l = cleared_other consumer v (cleared producer slots) l.1 ∙ cleared_other producer v slots l.0
cleared_other (Leaf lhs terms guards kernel) v slots l = refl

pub length-cleared : (tree : Tree) (slots : List ℕ) → length (cleared tree slots) ≡ length slots
length-cleared (Loop u n walk body) slots = length-set (cleared body slots) u 0 ∙ length-cleared body slots
length-cleared (Pre work more producer consumer) slots = length-cleared consumer (cleared producer slots) ∙ length-cleared producer slots
length-cleared (Leaf lhs terms guards kernel) slots = refl

-- slots at 0 stay so where those of other loops are cleared
pub zero_kept : (tree other : Tree) (slots : List ℕ) → AreApart tree other → AreZero tree slots → AreZero tree (cleared other slots)
zero_kept (Loop u n walk body) other slots a z = (cleared_other other u slots a.0 ∙ z.0, zero_kept body other slots a.1 z.1)
zero_kept (Pre work more producer consumer) other slots a z = (zero_kept producer other slots a.0 z.0, zero_kept consumer other slots a.1 z.1)
zero_kept (Leaf lhs terms guards kernel) other slots a z = tt

-- and were so before
pub zero_before : (tree other : Tree) (slots : List ℕ) → AreApart tree other → AreZero tree (cleared other slots) → AreZero tree slots
zero_before (Loop u n walk body) other slots a z = (sym (cleared_other other u slots a.0) ∙ z.0, zero_before body other slots a.1 z.1)
zero_before (Pre work more producer consumer) other slots a z = (zero_before producer other slots a.0 z.0, zero_before consumer other slots a.1 z.1)
zero_before (Leaf lhs terms guards kernel) other slots a z = tt

pub zero_cleared : (tree : Tree) (slots : List ℕ) → HaveSlots tree (length slots) → AreZero tree (cleared tree slots)
zero_cleared (Loop u n walk body) slots r =
    let b : u < length (cleared body slots) = omega (arith, r.0, length-cleared body slots) in
    (get_or-set_same (cleared body slots) u 0 0 b, zero_set body u 0 (cleared body slots) r.1 (zero_cleared body slots r.2))
zero_cleared (Pre work more producer consumer) slots r = (
  zero_kept producer consumer (cleared producer slots) r.2 (zero_cleared producer slots r.0),
  zero_cleared consumer (cleared producer slots) (subst (λ (k : ℕ). HaveSlots consumer k) (sym (length-cleared producer slots)) r.1),
)
zero_cleared (Leaf lhs terms guards kernel) slots r = tt

-- slots at 0 are cleared
pub cleared_zero : (tree : Tree) (slots : List ℕ) → AreZero tree slots → cleared tree slots ≡ slots
cleared_zero (Loop u n walk body) slots z =
    ap (λ (l : List ℕ). set l u 0) (cleared_zero body slots z.1) ∙ ap (λ (k : ℕ). set slots u k) (sym z.0) ∙ set-get_or slots u 0
cleared_zero (Pre work more producer consumer) slots z = ap (cleared consumer) (cleared_zero producer slots z.0) ∙ cleared_zero consumer slots z.1
cleared_zero (Leaf lhs terms guards kernel) slots z = refl

-- a slot that is set again
pub set_again : (slots : List ℕ) (v i j : ℕ) → slice_set (slice_set slots v i) v j ≡ slice_set slots v j
set_again slots v i j = set-set slots v i j
