-- Every lawful cut keeps the sum, if the loops that come add what those that went added.
use Rattle.std.proofs.Common.{◌≡◌, ℕ, ◌<◌, ◌%◌, ◌^◌, false, List, [], ◌∷◌, ◌++◌, length, refl, sym, ap, ◌∙◌, arith}
use Rattle.std.specs.Prelude.{slice_index}
use Rattle.std.proofs.lemmas.List.{append-nil}
use Rattle.dt_model.specs.WholeTensor.{WholeTensor}
use Rattle.dt_model.specs.Positions.{StoredTensor}
use Rattle.dt_cuts.specs.declared.cuts.Head.{Head}
use Rattle.dt_cuts.specs.declared.cuts.Cut.{Cut}
use Rattle.dt_nest.specs.Tree.{Tree, Loop}
use Rattle.dt_nest.specs.Schedule.{Schedule}
use Rattle.dt_nest.specs.Meaning.{World, Env, Entries, nest_sum}
use Rattle.dt_nest.specs.World.{world_of, entries_of, Fits}
use Rattle.dt_nest.specs.Commands.{KeepsSum}
use Rattle.dt_nest.specs.Lawful.{Loops, IsLawful}
use Rattle.dt_cuts.specs.Place.{loops_around, without_loops, guarded}
use Rattle.dt_cuts.specs.Cutting.{cut_tree, cut_by, BeginsWith, HoldsAt, NameLoops, LoopsStand, IsCut, KeepsBelow, KeepsBelowFor}
use Rattle.dt_cuts.proofs.Standing.{Stands, stands_whole}
use Rattle.dt_cuts.proofs.CutCounts.{holds_map}
use Rattle.dt_cuts.proofs.Stands.{holds_at_both}
use Rattle.dt_cuts.proofs.Lift.{KeepsThere, StandsWith, StaysWithWorks, lift_at}
use Rattle.dt_cuts.proofs.Extents.{index_more, nest_extents}
use Rattle.dt_cuts.proofs.CutLaw.{CutsAt, begins_times, replaced_goes, cut_there}
use Rattle.dt_cuts.proofs.Fitting.{cut_fits}

-- this holds of the tree and of the loops around it where the first of these loops stands
abbrev pub HoldsAtFirst : List Head → (Tree → Loops → Type 0) → Tree → Type 0
HoldsAtFirst [] P tree = Unit {0}
HoldsAtFirst (h ∷ hs) P tree = HoldsAt h.var P tree (λ u. false)

-- For numbers of which X holds, what the nest adds below the loops that go has the fact Q, where P holds of the tree that
-- they begin.
abbrev pub HasBelow : (Entries → Type 0) → (Tree → Loops → Type 0) → (Loops → Env → (Env → ℕ) → Type 0) → Schedule → World → Cut → Type 0
HasBelow X P Q s w c = (tree : Tree) (around : Loops) (name : Env) → Stands s s.derived tree around name → CutsAt c tree around → P tree around
    → (x : Entries) → X x → (at : List ℕ) → Q around name (λ e. nest_sum w s.derived (without_loops (length c.old) tree) x name e at)

-- In any world in which the loops that come add what those that went added, for what has the fact, the cut nest adds what
-- the nest adds, if what is below the loops that go has it.
pub cut_nest_keeps : (X : Entries → Type 0) (P : Tree → Loops → Type 0) (Q : Loops → Env → (Env → ℕ) → Type 0) (s : Schedule) (c : Cut) (w : World) → IsLawful s → IsCut s c
    → StaysWithWorks w X → HoldsAtFirst c.old P s.nest → HasBelow X P Q s w c → KeepsBelowFor Q w c → (x : Entries) → X x → (env : Env) (at : List ℕ)
    → nest_sum w (s.derived ++ c.derived) (cut_tree c.old c.heads c.guards s.nest) x (λ u. u) env at ≡ nest_sum w s.derived s.nest x (λ u. u) env at
cut_nest_keeps X P Q s c w l k stays place has keeps x z env at = go c.old refl k.stand place
  where
    go : (old : List Head) → c.old ≡ old → LoopsStand old c s.nest → HoldsAtFirst old P s.nest
        → nest_sum w (s.derived ++ c.derived) (cut_tree old c.heads c.guards s.nest) x (λ u. u) env at ≡ nest_sum w s.derived s.nest x (λ u. u) env at
    go [] e stand place = ap (λ new. nest_sum w (s.derived ++ new) s.nest x (λ u. u) env at) stand.2 ∙ ap (λ ds. nest_sum w ds s.nest x (λ u. u) env at) (append-nil s.derived)
    go (h ∷ hs) e stand place =
        lift_at X s w stays s.derived c.derived h.var (λ n walk body. loops_around c.heads (guarded c.guards (without_loops (length hs) body))) (λ t around. CutsAt c t around × P t around)
        (λ t around q u r. begins_times c.old t q.0.0 u (replaced_goes c s k u r))
        there s.nest (λ u. false) (λ u. u) (stands_whole s l) (holds_at_both h.var (CutsAt c) P (λ t around. CutsAt c t around × P t around) (λ t around p q. (p, q)) s.nest (λ u. false) stand.1 place)
        stand.0 (λ u r. l.differ u) (λ u a. absurd (cc)) x z env at
      where
        there : KeepsThere X w s.derived c.derived h.var (λ n walk body. loops_around c.heads (guarded c.guards (without_loops (length hs) body))) (StandsWith s s.derived (λ t around. CutsAt c t around × P t around))
        there n walk body around name q x z env at =
            ap (λ (o : List Head). nest_sum w (s.derived ++ c.derived) (loops_around c.heads (guarded c.guards (without_loops (length o) (Loop h.var n walk body)))) x name env at) (sym e)
            ∙ cut_there s c k s.derived (Loop h.var n walk body) around name q.0 q.1.0 w Q keeps x env at (has (Loop h.var n walk body) around name q.0 q.1.0 q.1.1 x z at)

-- A lawful cut keeps the sum, if for all tensors that fit the loops that come add what those that went added, for what is
-- below them.
pub cut_keeps_for : (X : List StoredTensor → Entries → Type 0) (P : Tree → Loops → Type 0) (Q : List StoredTensor → Loops → Env → (Env → ℕ) → Type 0) (s : Schedule) (c : Cut) → IsLawful s → IsCut s c
    → ((stored : List StoredTensor) → StaysWithWorks (world_of stored (cut_by c s)) (X stored)) → HoldsAtFirst c.old P s.nest
    → ((stored : List StoredTensor) → HasBelow (X stored) P (Q stored) s (world_of stored (cut_by c s)) c)
    → ((stored : List StoredTensor) (tensors : List WholeTensor) → Fits stored tensors (cut_by c s) → KeepsBelowFor (Q stored) (world_of stored (cut_by c s)) c)
    → ((stored : List StoredTensor) (tensors : List WholeTensor) → Fits stored tensors (cut_by c s) → X stored (entries_of tensors))
    → KeepsSum s (cut_by c s)
cut_keeps_for X P Q s c l k stays place has keeps start = record {
  fits = cut_fits s c l k;
  sums = λ stored tensors at f. ap (λ n. n % 2 ^ 64) (
      cut_nest_keeps (X stored) P (Q stored) s c (world_of stored (cut_by c s)) l k (stays stored) place (has stored) (keeps stored tensors f) (entries_of tensors) (start stored tensors f) (λ u. 0) at
      ∙ nest_extents s (world_of stored s) (slice_index (s.extents ++ c.extents)) same s.derived s.nest l.named (entries_of tensors) (λ u. u) (λ u. 0) at);
}
  where
    same : (u : ℕ) → u < length s.names → slice_index (s.extents ++ c.extents) u ≡ slice_index s.extents u
    same u h = index_more s.extents c.extents u (let e = l.names.extents in omega arith)

-- A lawful cut keeps the sum, if for all tensors that fit the loops that come add what those that went added, whatever is
-- below them.
pub cut_keeps : (s : Schedule) (c : Cut) → IsLawful s → IsCut s c
    → ((stored : List StoredTensor) (tensors : List WholeTensor) → Fits stored tensors (cut_by c s) → KeepsBelow (world_of stored (cut_by c s)) c)
    → KeepsSum s (cut_by c s)
cut_keeps s c l k keeps =
    cut_keeps_for (λ stored x. Unit {0}) (λ t around. Unit {0}) (λ stored around name f. Unit {0}) s c l k
    (λ stored x work f z. tt) (nothing c.old k.stand) (λ stored tree around name t p q x z at. tt) keeps (λ stored tensors f. tt)
  where
    nothing : (old : List Head) → LoopsStand old c s.nest → HoldsAtFirst old (λ t around. Unit {0}) s.nest
    nothing [] stand = tt
    nothing (h ∷ hs) stand = holds_map h.var (λ t around. BeginsWith c.old t × NameLoops c.heads c.derived around) (λ t around. Unit {0}) (λ t around p. tt) s.nest (λ u. false) stand.1
