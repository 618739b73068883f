-- The operations of a path and of all that is deeper, and what they make of a state.
use Rattle.std.specs.Prelude.{◌≡◌, ◌≢◌, ℕ, zero, suc, ◌+◌, ◌%◌, ◌^◌, ◌<◌, ◌≤◌, true, false, not, ◌&&◌, List, [], ◌∷◌, ◌++◌, map, filter, sum_by, Option, Some, None, is_some, if◌then◌else◌, nat_eq, nat_lt}
use Rattle.std.specs.List.{AllByRecursion, flat_map, list_any}
use Rattle.dt_runs.specs.Sets.{contains}
use Rattle.dt_copy.specs.declared.piece_list.Piece.{Piece}
use Rattle.dt_argument.specs.Frames.{grown}
use Rattle.dt_plan.specs.declared.touches.Buffer.{Buffer}
use Rattle.dt_plan.specs.declared.touches.Buffer.TheVariants.{Home, Scratch}
use Rattle.dt_events.specs.Conflicts.{is_same_buffer}
use Rattle.dt_events.specs.State.{Cell, Sign, Word, State, is_of}
use Rattle.dt_events.proofs.BlockMoves.{Move, Alloc, Free, Copy, Fold, Task}

-- The blocks of a statement on a node: its left tensor, the tensors that are moved and their depths; for each path the
-- values of the next loop, the words that a tensor needs, the pieces of its copies, the shares of the left tensor's folds,
-- its task, and what it adds to each word; the words that a node is home to; and the numbers of the right-side tensors.
pub record Blocks : Type 0 where
  pub node : ℕ
  pub stmt : ℕ
  pub out : ℕ
  pub tensors : List ℕ
  pub depth : ℕ → ℕ
  pub children : List ℕ → List ℕ
  pub need : ℕ → List ℕ → List ℕ
  pub pieces : ℕ → List ℕ → List Piece
  pub shares : List ℕ → List Piece
  pub task : List ℕ → State → Option State
  pub amount : List ℕ → ℕ → ℕ
  pub home : ℕ → ℕ → List ℕ
  pub number : ℕ → ℕ → ℕ

-- a tensor's scratch
abbrev pub scratch : Blocks → ℕ → Buffer
scratch b t = Scratch b.stmt t

-- the tensors that are moved at depth j
abbrev pub moved : Blocks → ℕ → List ℕ
moved b j = filter (λ t. nat_eq (b.depth t) j) b.tensors

-- those of them that are right-side
abbrev pub rights : Blocks → List ℕ → List ℕ
rights b ts = filter (λ t. not (nat_eq t b.out)) ts

-- the left one, if it is among them
abbrev pub lefts : Blocks → List ℕ → List ℕ
lefts b ts = filter (λ t. nat_eq t b.out) ts

-- the operations on one tensor
abbrev pub alloc_on : Blocks → List ℕ → ℕ → Move
alloc_on b path t = Alloc b.node (scratch b t) (b.need t path)

-- closing it
abbrev pub free_on : Blocks → ℕ → Move
free_on b t = Free b.node (scratch b t)

-- a copy of a piece
abbrev pub copy_on : Blocks → ℕ → Piece → Move
copy_on b t p = Copy p.node (Home t) b.node (scratch b t) p.words

-- a fold of a share
abbrev pub fold_on : Blocks → ℕ → Piece → Move
fold_on b t p = Fold b.node (scratch b t) p.node (Home t) p.words

-- a tensor's copies
abbrev pub copies_on : Blocks → List ℕ → ℕ → List Move
copies_on b path t = map (copy_on b t) (b.pieces t path)

-- a tensor's folds
abbrev pub folds_on : Blocks → List ℕ → ℕ → List Move
folds_on b path t = map (fold_on b t) (b.shares path)

-- what comes before everything deeper, and what comes after it
abbrev pub opened : Blocks → ℕ → List ℕ → List Move
opened b j path = map (alloc_on b path) (moved b j) ++ flat_map (copies_on b path) (rights b (moved b j))

-- the folds and then the frees
abbrev pub closed : Blocks → ℕ → List ℕ → List Move
closed b j path = flat_map (folds_on b path) (lefts b (moved b j)) ++ map (free_on b) (moved b j)

-- a path of length j with d more loops down to the task
abbrev pub block : Blocks → ℕ → ℕ → List ℕ → List Move
block b zero j path = opened b j path ++ (Task (b.task path) ∷ []) ++ closed b j path
block b (suc d) j path = opened b j path ++ flat_map (λ i. block b d (suc j) (path ++ i ∷ [])) (b.children path) ++ closed b j path

-- the word of the left tensor that a cell holds, where cells of its scratch grow
abbrev pub scratch_target : Blocks → Cell → Option ℕ
scratch_target b (Sign n c) = None
scratch_target b (Word n c w) = if is_of b.node (scratch b b.out) (Word n c w) then Some w else None

-- and where words of its homes grow
abbrev pub home_target : Blocks → Cell → Option ℕ
home_target b (Sign n c) = None
home_target b (Word n c w) = if is_same_buffer (Home b.out) c && contains (b.home b.out n) w then Some w else None

-- the word that grows at a cell, where the tensors of depth below j are open: in the left tensor's scratch where that is
-- open, else in each home that has the word
abbrev pub target : Blocks → ℕ → Cell → Option ℕ
target b j c = if nat_lt (b.depth b.out) j then scratch_target b c else home_target b c

-- the amount of a word, where there is one
abbrev pub amount_at : (ℕ → ℕ) → Option ℕ → ℕ
amount_at a None = 0
amount_at a (Some w) = a w

-- each cell grown by its own amount
abbrev pub grow_all : (Cell → ℕ) → State → State
grow_all g s c = grown (g c) (s c)

-- the state where the left tensor's words have grown
abbrev pub grown_by : Blocks → ℕ → (ℕ → ℕ) → State → State
grown_by b j a s = grow_all (λ c. amount_at a (target b j c)) s

-- each number is below 2 ^ 64
abbrev pub AreSmall : State → Type 0
AreSmall s = (c : Cell) (v : ℕ) → s c ≡ Some v → v < 2 ^ 64

-- What holds of a state where the tensors of depth below j are open for a path: the right-side ones have their numbers at
-- the path's words, the left one is there; the deeper scratches are absent, and the homes have the numbers.
pub record IsReady (b : Blocks) (j : ℕ) (path : List ℕ) (s : State) : Type 0 where
  pub right : (t w : ℕ) → contains b.tensors t ≡ true → t ≢ b.out → b.depth t < j → contains (b.need t path) w ≡ true → s (Word b.node (scratch b t) w) ≡ Some (b.number t w)
  pub left : (w : ℕ) → b.depth b.out < j → contains (b.need b.out path) w ≡ true → is_some (s (Word b.node (scratch b b.out) w)) ≡ true
  pub absent : (t : ℕ) (c : Cell) → contains b.tensors t ≡ true → j ≤ b.depth t → is_of b.node (scratch b t) c ≡ true → s c ≡ None
  pub homes : (t m w : ℕ) → contains b.tensors t ≡ true → t ≢ b.out → contains (b.home t m) w ≡ true → s (Word m (Home t) w) ≡ Some (b.number t w)
  pub left_homes : (m w : ℕ) → contains (b.home b.out m) w ≡ true → is_some (s (Word m (Home b.out) w)) ≡ true
  pub small : AreSmall s

-- how often a word is in a list, and in the pieces at a node
abbrev pub count : ℕ → List ℕ → ℕ
count w [] = 0
count w (v ∷ vs) = (if nat_eq v w then 1 else 0) + count w vs

-- and in the pieces at a node
abbrev pub times : List Piece → ℕ → ℕ → ℕ
times [] m w = 0
times (p ∷ ps) m w = (if nat_eq p.node m then count w p.words else 0) + times ps m w

-- no number is there twice
abbrev pub AreApart : List ℕ → Type 0
AreApart [] = Unit {0}
AreApart (t ∷ ts) = (contains ts t ≡ false) × AreApart ts

-- What holds of the blocks at any path.
pub record IsPlanned (b : Blocks) : Type 0 where
  pub apart : AreApart b.tensors
  pub written : contains b.tensors b.out ≡ true
  pub numbers : (t w : ℕ) → b.number t w < 2 ^ 64

-- What holds at a path: copies bring needed words from homes that have them, and all of them; folds take each needed word to
-- each home that has it, once; and nothing is added to a word that is not needed.
pub record IsServed (b : Blocks) (path : List ℕ) : Type 0 where
  pub copied : (t : ℕ) → contains b.tensors t ≡ true → t ≢ b.out → AllByRecursion (λ (p : Piece). (w : ℕ) → contains p.words w ≡ true → (contains (b.need t path) w ≡ true) × (contains (b.home t p.node) w ≡ true)) (b.pieces t path)
  pub covered : (t w : ℕ) → contains b.tensors t ≡ true → t ≢ b.out → contains (b.need t path) w ≡ true → list_any (λ (p : Piece). contains p.words w) (b.pieces t path) ≡ true
  pub folded : AllByRecursion (λ (p : Piece). (w : ℕ) → contains p.words w ≡ true → (contains (b.need b.out path) w ≡ true) × (contains (b.home b.out p.node) w ≡ true)) (b.shares path)
  pub once : (m w : ℕ) → times (b.shares path) m w ≡ (if contains (b.need b.out path) w && contains (b.home b.out m) w then 1 else 0)
  pub unneeded : (w : ℕ) → contains (b.need b.out path) w ≡ false → b.amount path w % 2 ^ 64 ≡ 0

-- a task adds its path's amounts
abbrev pub TaskAdds : Blocks → ℕ → List ℕ → Type 0
TaskAdds b j path = (s : State) → IsReady b (suc j) path s → b.task path s ≡ Some (grown_by b (suc j) (b.amount path) s)

-- a longer path needs no more words
abbrev pub NeedsLess : Blocks → List ℕ → List ℕ → Type 0
NeedsLess b long path = (t w : ℕ) → contains (b.need t long) w ≡ true → contains (b.need t path) w ≡ true

-- a path's amounts are the sums of those of the paths that are longer by one
abbrev pub AddsUp : Blocks → List ℕ → Type 0
AddsUp b path = (w : ℕ) → b.amount path w % 2 ^ 64 ≡ sum_by (λ i. b.amount (path ++ i ∷ []) w) (b.children path) % 2 ^ 64

-- all this at a path and everything deeper, down to the tasks
abbrev pub AreServed : Blocks → ℕ → ℕ → List ℕ → Type 0
AreServed b zero j path = IsServed b path × TaskAdds b j path
AreServed b (suc d) j path = IsServed b path × AddsUp b path × AllByRecursion (λ i. NeedsLess b (path ++ i ∷ []) path × AreServed b d (suc j) (path ++ i ∷ [])) (b.children path)

-- Blocks of several nodes and paths: all are served, their left tensor is one, with the homes of the first, and is not open
-- outside them.
pub record AreBlocks {X : Type 0} (at : X → Blocks) (path : X → List ℕ) (first : Blocks) (d j : ℕ) (In : X → Type 0) : Type 0 where
  pub planned : (x : X) → In x → IsPlanned (at x)
  pub served : (x : X) → In x → AreServed (at x) d j (path x)
  pub same : (x : X) → In x → (c : Cell) → home_target (at x) c ≡ home_target first c
  pub deep : (x : X) → In x → j ≤ (at x).depth (at x).out
