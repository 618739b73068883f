-- A cut of a schedule: consecutive loops go, others come in their place, and what went follows from them.
use Rattle.std.specs.Prelude.{◌≡◌, ℕ, ◌+◌, ◌<◌, ◌≤◌, Bool, true, false, ◌||◌, List, [], ◌∷◌, ◌++◌, length, map, Option, None, MatchBool, if◌then◌else◌, nat_eq, nat_le, slice_index}
use Rattle.std.specs.List.{AllByRecursion, IsDistinct, list_any}
use Rattle.std.specs.Str.{bytes_eq}
use Rattle.dt_model.specs.Positions.{StoredTensor}
use Rattle.dt_model.specs.declared.cause.Cause.{Cause}
use Rattle.dt_nest.specs.declared.derivations.Derived.{Derived}
use Rattle.dt_cuts.specs.declared.cuts.Head.{Head}
use Rattle.dt_cuts.specs.declared.cuts.Cut.{Cut}
use Rattle.dt_nest.specs.Tree.{Tree, Loop, Pre, Leaf, has_loop, loop_count, is_kernel_leaf, accesses_of}
use Rattle.dt_nest.specs.Schedule.{Schedule}
use Rattle.dt_nest.specs.Commands.{Rule}
use Rattle.dt_nest.specs.Meaning.{World, Env, bind, known, guards_hold}
use Rattle.dt_nest.specs.Lawful.{Loops, also, sources, is_split, AreOrdered, AreNamed, CoordinateAppears}
use Rattle.dt_nest.specs.Sums.{sum_below}
use Rattle.dt_cuts.specs.Place.{at_loop, loops_around, without_loops, guarded}
use Rattle.dt_nest.specs.Questions.{is_among}

-- the tree after a cut, which goes on below the loops that went
abbrev pub cut_tree : List Head → List Head → List ℕ → Tree → Tree
cut_tree [] heads guards tree = tree
cut_tree (h ∷ hs) heads guards tree = at_loop h.var (λ n walk body. loops_around heads (guarded guards (without_loops (length hs) body))) tree

-- the schedule after a cut
abbrev pub cut_by : Cut → Schedule → Schedule
cut_by c s = record {
  nest = cut_tree c.old c.heads c.guards s.nest;
  derived = s.derived ++ c.derived;
  distributed = s.distributed;
  moved = s.moved;
  tensors = s.tensors;
  names = s.names ++ c.names;
  extents = s.extents ++ c.extents;
  works = s.works;
}

-- a command that cuts loops, by when it may be called, the first cause against it, its cut, and the tensors that suit it
abbrev pub cut_rule : (Schedule → Type 0) → (Schedule → Option Cause) → (Schedule → Cut) → (List StoredTensor → Schedule → Type 0) → Rule
cut_rule can cause cut suits = record { can = can; cause = cause; effect = λ s. cut_by (cut s) s; suits = suits; serves = λ dims. Unit {0} }

-- Which cuts are lawful -------------------------------------------------------------------------------------------------

-- whether v is one of these loops
abbrev pub is_head : List Head → ℕ → Bool
is_head hs v = list_any (λ (h : Head). nat_eq v h.var) hs

-- the tree begins with these loops, none of them walked or substituted
abbrev pub BeginsWith : List Head → Tree → Type 0
BeginsWith [] tree = is_kernel_leaf tree ≡ false
BeginsWith (h ∷ hs) (Loop v n walk body) = (v ≡ h.var) × (n ≡ h.extent) × (walk ≡ None) × BeginsWith hs body
BeginsWith (h ∷ hs) (Pre work pairs producer consumer) = ⊥
BeginsWith (h ∷ hs) (Leaf lhs terms guards kernel) = ⊥

-- where v is a loop, this holds of the tree that it begins and of the loops around it
abbrev pub HoldsAt : ℕ → (Tree → Loops → Type 0) → Tree → Loops → Type 0
HoldsAt v P (Loop u n walk body) around = MatchBool (nat_eq u v) (P (Loop u n walk body) around) (HoldsAt v P body (also around u))
HoldsAt v P (Pre work pairs producer consumer) around = HoldsAt v P producer around × HoldsAt v P consumer around
HoldsAt v P (Leaf lhs terms guards kernel) around = Unit {0}

-- what the derivations name is one of these loops or a loop around them
abbrev pub NameLoops : List Head → List Derived → Loops → Type 0
NameLoops heads ds around = AllByRecursion (λ d. AllByRecursion (λ u. (is_head heads u || around u) ≡ true) (sources d.how)) ds

-- The loops from v on stand in the tree, one inside the other, and the derivations name the new loops and those around
-- them alone.
abbrev pub LoopsStandAt : ℕ → Cut → Tree → Type 0
LoopsStandAt v c tree = (has_loop v tree ≡ true) × HoldsAt v (λ t around. BeginsWith c.old t × NameLoops c.heads c.derived around) tree (λ u. false)

-- So the loops of a cut stand in the tree; where none goes, none comes.
abbrev pub LoopsStand : List Head → Cut → Tree → Type 0
LoopsStand [] c tree = (c.heads ≡ []) × (c.guards ≡ []) × (c.derived ≡ [])
LoopsStand (h ∷ hs) c tree = LoopsStandAt h.var c tree

-- none of the loops that go is distributed or a communicate loop
abbrev pub AreFree : List Head → Schedule → Type 0
AreFree hs s = AllByRecursion (λ (h : Head). (is_among s.distributed h.var s.nest ≡ false) × (list_any (λ m. nat_eq m.at h.var) s.moved ≡ false)) hs

-- a loop that comes is one of those that go, or new; it has the extent that is kept for its name
abbrev pub IsNewHead : Cut → Schedule → Head → Type 0
IsNewHead c s h = ((is_head c.old h.var || nat_le (length s.names) h.var) ≡ true) × (h.var < length s.names + length c.names) × (slice_index (s.extents ++ c.extents) h.var ≡ h.extent)

-- Consecutive loops go that are free, and others come. Each loop that goes comes again or is replaced, and nothing else is.
-- What is replaced follows from a loop that is new, so that it has no value elsewhere in the tree. Each variable of a split
-- gets a guard.
pub record IsCut (s : Schedule) (c : Cut) : Type 0 where
  pub stand : LoopsStand c.old c s.nest
  pub free : AreFree c.old s
  pub heads : AllByRecursion (IsNewHead c s) c.heads
  pub differ : IsDistinct nat_eq (map (λ (h : Head). h.var) c.heads)
  pub few : loop_count s.nest + length c.heads ≤ 16 + length c.old
  pub names : IsDistinct bytes_eq (s.names ++ c.names)
  pub extents : length c.extents ≡ length c.names
  pub replaced : AllByRecursion (λ d. (is_head c.old d.var ≡ true) × (is_head c.heads d.var ≡ false)) c.derived
  pub fresh : AllByRecursion (λ d. list_any (λ u. nat_le (length s.names) u) (sources d.how) ≡ true) c.derived
  pub covered : AllByRecursion (λ (h : Head). (is_head c.heads h.var || list_any (λ d. nat_eq h.var d.var) c.derived) ≡ true) c.old
  pub ordered : AreOrdered c.derived
  pub named : AreNamed (cut_by c s) c.derived
  pub coordinates : AllByRecursion (λ d. CoordinateAppears (accesses_of s.nest) d.var d.how) c.derived
  pub guards : AllByRecursion (λ g. is_head c.old g ≡ true) c.guards
  pub guarded : AllByRecursion (λ d. is_split d.how ≡ true → list_any (λ g. nat_eq g d.var) c.guards ≡ true) c.derived

-- Which cuts keep the sum -----------------------------------------------------------------------------------------------

-- the sum over all values of these loops, the outermost first
unfoldable pub sum_over : List Head → (Env → ℕ) → Env → ℕ
sum_over [] f env = f env
sum_over (h ∷ hs) f env = sum_below h.extent (λ i. sum_over hs f (bind env h.var i))

-- the number is the same under environments that give these loops the same values
abbrev pub DependsOn : Loops → (Env → ℕ) → Type 0
DependsOn loops f = (a b : Env) → ((u : ℕ) → loops u ≡ true → a u ≡ b u) → f a ≡ f b

-- The sum over the loops that come, of what is below them where the new guards hold, is the sum over the loops that went,
-- for all that may be below them: its value depends on the loops that went and on those around, and it has the fact.
abbrev pub KeepsBelowFor : (Loops → Env → (Env → ℕ) → Type 0) → World → Cut → Type 0
KeepsBelowFor fact w c = (around : Loops) (name env : Env) (f : Env → ℕ)
    → ((u : ℕ) → around u ≡ true → name u ≡ u) → AllByRecursion (λ (h : Head). name h.var ≡ h.var) c.old → AllByRecursion (λ (h : Head). name h.var ≡ h.var) c.heads
    → AllByRecursion (λ (h : Head). around h.var ≡ false) c.old → AllByRecursion (λ (h : Head). around h.var ≡ false) c.heads
    → NameLoops c.heads c.derived around
    → DependsOn (λ u. is_head c.old u || around u) f
    → fact around name f
    → sum_over c.heads (λ e. if guards_hold w (known w c.derived name e) c.guards then f (known w c.derived name e) else 0) env ≡ sum_over c.old f env

-- so it is whatever is below them
abbrev pub KeepsBelow : World → Cut → Type 0
KeepsBelow w c = KeepsBelowFor (λ around name f. Unit {0}) w c

-- these loops, with their extents
abbrev pub heads_of : Schedule → List ℕ → List Head
heads_of s vs = map (λ v. record { var = v; extent = slice_index s.extents v }) vs
