-- What holds of each schedule.
use Rattle.std.specs.Prelude.{◌≡◌, ℕ, zero, suc, ◌+◌, ◌-◌, ◌*◌, ◌<◌, ◌≤◌, ◌^◌, Bool, true, false, ◌||◌, List, [], ◌∷◌, ◌++◌, length, map, count_by, Option, Some, None, MatchBool, if◌then◌else◌, nat_eq, nat_lt, slice_index, slice_get}
use Rattle.std.specs.List.{AllByRecursion, Contains, IsDistinct, list_any}
use Rattle.std.specs.Str.{bytes_eq}
use Rattle.dt_base.specs.Rows.{product}
use Rattle.dt_model.specs.declared.stmt.Access.{Access}
use Rattle.dt_model.specs.declared.stmt.Term.{Term}
use Rattle.dt_nest.specs.declared.loops.Walk.{Walk}
use Rattle.dt_nest.specs.declared.loops.Pair.{Pair}
use Rattle.dt_nest.specs.declared.loops.Kernel.{Kernel}
use Rattle.dt_nest.specs.declared.loops.Kernel.TheVariants.{Plain, Dot, Dot3}
use Rattle.dt_nest.specs.declared.derivations.Derive.{Derive}
use Rattle.dt_nest.specs.declared.derivations.Derive.TheVariants.{Split, Quotient, Rest, Rotate, Pos}
use Rattle.dt_nest.specs.declared.derivations.Derived.{Derived}
use Rattle.dt_nest.specs.declared.parts.Work.{Work}
use Rattle.dt_nest.specs.Tree.{Tree, Loop, Pre, Leaf, loop_count, leaf_count, times, is_kernel_leaf, read_accesses, accesses_of}
use Rattle.dt_nest.specs.Outputs.{WritesWorks}
use Rattle.dt_nest.specs.Schedule.{Schedule}
use Rattle.dt_nest.specs.Meaning.{Env, renamed, under}

-- Names ---------------------------------------------------------------------------------------------------------------

-- the names of loops and variables differ, as do those of tensors and workspaces; each loop or variable has an extent
pub record HasNames (s : Schedule) : Type 0 where
  pub loops : IsDistinct bytes_eq s.names
  pub tensors : IsDistinct bytes_eq (s.tensors ++ map (λ w. w.name) s.works)
  pub extents : length s.extents ≡ length s.names
  pub few : length s.names < 2 ^ 32
  pub few_tensors : length s.tensors + length s.works < 2 ^ 32

-- a loop and its new name have one extent
abbrev pub ArePairs : Schedule → List Pair → Type 0
ArePairs s pairs = AllByRecursion (λ p. (p.from < length s.names) × (p.to < length s.names) × (slice_index s.extents p.to ≡ slice_index s.extents p.from)) pairs

-- a walked access names variables among the first k, and one of the first n tensors
abbrev pub WalkBelow : ℕ → ℕ → Option Walk → Type 0
WalkBelow k n None = Unit {0}
WalkBelow k n (Some walk) = (walk.tensor < n) × AllByRecursion (λ u. u < k) walk.vars

-- an access names variables among the first k, and one of the first n tensors and workspaces
abbrev pub AccessBelow : ℕ → ℕ → Access → Type 0
AccessBelow k n a = (a.tensor < n) × (length a.vars ≤ 16) × AllByRecursion (λ u. u < k) a.vars

-- The loops, variables and tensors of a tree are among the first of the schedule's, and each loop has the extent that is
-- kept for its name.
abbrev pub IsNamed : Schedule → Tree → Type 0
IsNamed s (Loop v n walk body) =
    (v < length s.names) × (slice_index s.extents v ≡ n) × WalkBelow (length s.names) (length s.tensors) walk × IsNamed s body
IsNamed s (Pre work pairs producer consumer) =
    (work < length s.works) × ArePairs s pairs × IsNamed s producer × IsNamed s consumer
IsNamed s (Leaf lhs terms guards kernel) =
    AllByRecursion (AccessBelow (length s.names) (length s.tensors + length s.works)) (lhs ∷ read_accesses terms) × AllByRecursion (λ u. u < length s.names) guards

-- Walked accesses and coordinates --------------------------------------------------------------------------------------

-- a walked access is that of some leaf below its loop
abbrev pub WalkAppears : Option Walk → Tree → Type 0
WalkAppears None body = Unit {0}
WalkAppears (Some k) body = Contains (accesses_of body) (record { tensor = k.tensor; vars = k.vars })

-- so is each walked access of a tree
abbrev pub WalksAppear : Tree → Type 0
WalksAppear (Loop v n walk body) = WalkAppears walk body × WalksAppear body
WalksAppear (Pre work pairs producer consumer) = WalksAppear producer × WalksAppear consumer
WalksAppear (Leaf lhs terms guards kernel) = Unit {0}

-- a variable that is a coordinate of a tensor's position is the one at its level in some access of the tensor
abbrev pub CoordinateAppears : List Access → ℕ → Derive → Type 0
CoordinateAppears accesses v (Split outer inner factor) = Unit {0}
CoordinateAppears accesses v (Quotient fused by) = Unit {0}
CoordinateAppears accesses v (Rest fused by) = Unit {0}
CoordinateAppears accesses v (Rotate base by extent) = Unit {0}
CoordinateAppears accesses v (Pos tensor level base) =
    (a : Access) × Contains accesses a × (a.tensor ≡ tensor) × (slice_get a.vars level ≡ Some v)

-- Derivations ---------------------------------------------------------------------------------------------------------

-- what a derivation names
abbrev pub sources : Derive → List ℕ
sources (Split outer inner factor) = outer ∷ inner ∷ []
sources (Quotient fused by) = fused ∷ []
sources (Rest fused by) = fused ∷ []
sources (Rotate base by extent) = base ∷ by
sources (Pos tensor level base) = base ∷ []

-- whether v was replaced
abbrev pub is_replaced : List Derived → ℕ → Bool
is_replaced ds v = list_any (λ d. nat_eq v d.var) ds

-- v is replaced by none of these derivations and named by none
abbrev pub IsPast : ℕ → List Derived → Type 0
IsPast v ds = AllByRecursion (λ d. (nat_eq v d.var ≡ false) × AllByRecursion (λ u. nat_eq u v ≡ false) (sources d.how)) ds

-- each name is replaced at most once, and what a derivation names is replaced, if at all, by a later one
abbrev pub AreOrdered : List Derived → Type 0
AreOrdered [] = Unit {0}
AreOrdered (d ∷ ds) = AllByRecursion (λ u. nat_eq u d.var ≡ false) (sources d.how) × IsPast d.var ds × AreOrdered ds

-- The value of a variable that no guard bounds is below its extent where those of what it follows from are. A divisor is 0
-- only where what is divided has no values.
abbrev pub IsBounded : Schedule → ℕ → Derive → Type 0
IsBounded s v (Split outer inner factor) = Unit {0}
IsBounded s v (Quotient fused by) = slice_index s.extents fused ≤ slice_index s.extents v * by
IsBounded s v (Rest fused by) = (0 < slice_index s.extents fused → 0 < by) × (by ≤ slice_index s.extents v)
IsBounded s v (Rotate base by extent) = (slice_index s.extents base ≤ extent) × (extent ≤ slice_index s.extents v)
IsBounded s v (Pos tensor level base) = tensor < length s.tensors

-- derivations speak of the schedule's loops, variables and tensors
abbrev pub AreNamed : Schedule → List Derived → Type 0
AreNamed s ds = AllByRecursion (λ d. (d.var < length s.names) × AllByRecursion (λ u. u < length s.names) (sources d.how) × IsBounded s d.var d.how) ds

-- no loop of the tree was replaced
abbrev pub AreLoops : List Derived → Tree → Type 0
AreLoops ds (Loop v n walk body) = (is_replaced ds v ≡ false) × AreLoops ds body
AreLoops ds (Pre work pairs producer consumer) = AreLoops ds producer × AreLoops ds consumer
AreLoops ds (Leaf lhs terms guards kernel) = Unit {0}

-- Loops around --------------------------------------------------------------------------------------------------------

-- a set of loops
abbrev pub Loops : Type 0
Loops = ℕ → Bool

-- the set with one more loop
abbrev pub also : Loops → ℕ → Loops
also around v u = nat_eq u v || around u

-- the value of v follows from these loops, where name gives the new names of renamed ones
abbrev pub Follows : List Derived → Loops → Env → ℕ → Type 0
Follows [] around name v = around v ≡ true
Follows (d ∷ ds) around name v =
    MatchBool (nat_eq v d.var) (AllByRecursion (λ u. Follows ds around name (name u)) (sources d.how)) (Follows ds around name v)

-- the list up to the first element that passes the test, without it
abbrev pub take_before : (ℕ → Bool) → List ℕ → List ℕ
take_before p [] = []
take_before p (x ∷ xs) = if p x then [] else x ∷ take_before p xs

-- in a walked access the loop itself stands once, and the variables before it follow from the loops outside
abbrev pub WalkFollows : List Derived → Option Walk → ℕ → Loops → Env → Type 0
WalkFollows ds None v around name = Unit {0}
WalkFollows ds (Some k) v around name =
    (count_by (λ u. nat_eq u v) k.vars ≡ 1) × AllByRecursion (λ u. Follows ds around name (name u)) (take_before (λ u. nat_eq (name u) v) k.vars)

-- Loops differ from those around them and have no new name, and each variable of an access or guard follows from the
-- loops around it. What follows from the loops around a producer has no new name there.
abbrev pub AllFollow : List Derived → Tree → Loops → Env → Type 0
AllFollow ds (Loop v n walk body) around name =
    (around v ≡ false) × (name v ≡ v) × WalkFollows ds walk v around name × AllFollow ds body (also around v) name
AllFollow ds (Pre work pairs producer consumer) around name =
    ((u : ℕ) → Follows ds around name u → renamed pairs u ≡ u) × AllFollow ds producer around (under pairs name) × AllFollow ds consumer around name
AllFollow ds (Leaf lhs terms guards kernel) around name =
    AllByRecursion (λ a. AllByRecursion (λ u. Follows ds around name (name u)) a.vars) (lhs ∷ read_accesses terms) × AllByRecursion (λ u. Follows ds around name (name u)) guards

-- whether a derivation is one of a split
abbrev pub is_split : Derive → Bool
is_split (Split outer inner factor) = true
is_split (Quotient fused by) = false
is_split (Rest fused by) = false
is_split (Rotate base by extent) = false
is_split (Pos tensor level base) = false

-- each variable of a split that has a value here is guarded
abbrev pub AreGuarded : List Derived → List ℕ → Loops → Env → Type 0
AreGuarded [] guards around name = Unit {0}
AreGuarded (d ∷ ds) guards around name =
    (is_split d.how ≡ true → AllByRecursion (λ u. Follows ds around name (name u)) (sources d.how) → list_any (λ g. nat_eq (name g) d.var) guards ≡ true)
    × AreGuarded ds guards around name

-- so it is at each leaf
abbrev pub HaveGuards : List Derived → Tree → Loops → Env → Type 0
HaveGuards ds (Loop v n walk body) around name = HaveGuards ds body (also around v) name
HaveGuards ds (Pre work pairs producer consumer) around name =
    HaveGuards ds producer around (under pairs name) × HaveGuards ds consumer around name
HaveGuards ds (Leaf lhs terms guards kernel) around name = AreGuarded ds guards around name

-- Distributed and communicate loops, kernels ----------------------------------------------------------------------------

-- a loop with this walk and this body is neither walked nor substituted
abbrev pub IsPlain : Option Walk → Tree → Type 0
IsPlain walk body = (walk ≡ None) × (is_kernel_leaf body ≡ false)

-- the first k loops are the outermost, neither walked nor substituted
abbrev pub AreDistributed : ℕ → Tree → Type 0
AreDistributed zero tree = Unit {0}
AreDistributed (suc k) (Loop v n walk body) = IsPlain walk body × AreDistributed k body
AreDistributed (suc k) (Pre work pairs producer consumer) = ⊥
AreDistributed (suc k) (Leaf lhs terms guards kernel) = ⊥

-- v is a loop outside every precompute node, neither walked nor substituted, and none of the first k but the last
abbrev pub IsCommunicate : ℕ → ℕ → Tree → Type 0
IsCommunicate k v (Loop u n walk body) = MatchBool (nat_eq u v) ((k ≤ 1) × IsPlain walk body) (IsCommunicate (k - 1) v body)
IsCommunicate k v (Pre work pairs producer consumer) = ⊥
IsCommunicate k v (Leaf lhs terms guards kernel) = ⊥

-- each tensor that is communicated at a loop is accessed, and has one such loop
pub record AreCommunicated (s : Schedule) : Type 0 where
  pub loops : AllByRecursion (λ m. IsCommunicate s.distributed m.at s.nest) s.moved
  pub accessed : AllByRecursion (λ m. (m.tensor < length s.tensors) × (list_any (λ a. nat_eq a.tensor m.tensor) (accesses_of s.nest) ≡ true)) s.moved
  pub once : IsDistinct nat_eq (map (λ m. m.tensor) s.moved)

-- one term of k factors
abbrev pub IsOneTerm : ℕ → List Term → Type 0
IsOneTerm k [] = ⊥
IsOneTerm k (t ∷ []) = length t.factors ≡ k
IsOneTerm k (t ∷ u ∷ terms) = ⊥

-- the terms are what the kernel takes
abbrev pub KernelTakes : Kernel → List Term → Type 0
KernelTakes Plain terms = Unit {0}
KernelTakes Dot terms = IsOneTerm 2 terms
KernelTakes Dot3 terms = IsOneTerm 3 terms

-- the leaf of a substituted loop: what the kernel takes, and the left side follows from the loops around that loop
abbrev pub IsSubstituted : List Derived → Tree → Loops → Env → Type 0
IsSubstituted ds (Loop v n walk body) around name = Unit {0}
IsSubstituted ds (Pre work pairs producer consumer) around name = Unit {0}
IsSubstituted ds (Leaf lhs terms guards Plain) around name = Unit {0}
IsSubstituted ds (Leaf lhs terms guards Dot) around name =
    KernelTakes Dot terms × AllByRecursion (λ u. Follows ds around name (name u)) lhs.vars
IsSubstituted ds (Leaf lhs terms guards Dot3) around name =
    KernelTakes Dot3 terms × AllByRecursion (λ u. Follows ds around name (name u)) lhs.vars

-- each leaf with a kernel is the body of a loop that is substituted by right
abbrev pub HaveKernels : List Derived → Tree → Loops → Env → Type 0
HaveKernels ds (Loop v n walk body) around name = IsSubstituted ds body around name × HaveKernels ds body (also around v) name
HaveKernels ds (Pre work pairs producer consumer) around name =
    (is_kernel_leaf producer ≡ false) × (is_kernel_leaf consumer ≡ false) × HaveKernels ds producer around (under pairs name) × HaveKernels ds consumer around name
HaveKernels ds (Leaf lhs terms guards kernel) around name = Unit {0}

-- Workspaces ----------------------------------------------------------------------------------------------------------

-- how many precompute nodes the workspace has
abbrev pub nodes_with : ℕ → Tree → ℕ
nodes_with work (Loop v n walk body) = nodes_with work body
nodes_with work (Pre u pairs producer consumer) = (if nat_eq u work then 1 else 0) + nodes_with work producer + nodes_with work consumer
nodes_with work (Leaf lhs terms guards kernel) = 0

-- an access of one of the n tensors, or of one of these workspaces
abbrev pub IsOneOf : ℕ → List ℕ → Access → Type 0
IsOneOf n works a = (nat_lt a.tensor n || list_any (λ w. nat_eq a.tensor (n + w)) works) ≡ true

-- each workspace is written in its producer alone and read in its consumer alone
abbrev pub WorksStand : ℕ → Tree → List ℕ → List ℕ → Type 0
WorksStand n (Loop v extent walk body) written read = WorksStand n body written read
WorksStand n (Pre work pairs producer consumer) written read =
    WorksStand n producer (work ∷ written) read × WorksStand n consumer written (work ∷ read)
WorksStand n (Leaf lhs terms guards kernel) written read =
    IsOneOf n written lhs × AllByRecursion (IsOneOf n read) (read_accesses terms)

-- an access of a workspace has the workspace's extents at its variables
abbrev pub WorkAccess : Schedule → Access → Type 0
WorkAccess s a = (w : ℕ) (x : Work) → a.tensor ≡ length s.tensors + w → slice_get s.works w ≡ Some x → x.extents ≡ map (λ v. slice_index s.extents v) a.vars

-- Each workspace has one precompute node, whose producer's last leaf writes it, stands where it may, has at most 2 ^ 20
-- words, and is accessed with its extents.
pub record AreWorks (s : Schedule) : Type 0 where
  pub once : (w : ℕ) → w < length s.works → nodes_with w s.nest ≡ 1
  pub leaves : leaf_count s.nest ≡ length s.works + 1
  pub stand : WorksStand (length s.tensors) s.nest [] []
  pub written : WritesWorks (length s.tensors) s.nest
  pub small : AllByRecursion (λ w. product w.extents ≤ 1048576) s.works
  pub accesses : AllByRecursion (WorkAccess s) (accesses_of s.nest)

-- The parts of a schedule are lawful.
pub record IsLawful (s : Schedule) : Type 0 where
  pub few : loop_count s.nest ≤ 16
  pub differ : (u : ℕ) → times u s.nest ≤ 1
  pub names : HasNames s
  pub named : IsNamed s s.nest
  pub walks : WalksAppear s.nest
  pub coordinates : AllByRecursion (λ d. CoordinateAppears (accesses_of s.nest) d.var d.how) s.derived
  pub derived : AreNamed s s.derived
  pub ordered : AreOrdered s.derived
  pub loops : AreLoops s.derived s.nest
  pub follows : AllFollow s.derived s.nest (λ u. false) (λ u. u)
  pub guards : HaveGuards s.derived s.nest (λ u. false) (λ u. u)
  pub distributed : AreDistributed s.distributed s.nest
  pub communicated : AreCommunicated s
  pub kernels : (is_kernel_leaf s.nest ≡ false) × HaveKernels s.derived s.nest (λ u. false) (λ u. u)
  pub works : AreWorks s
