-- What a command that cuts loops owes.
use Rattle.std.proofs.Common.{◌≡◌, ◌⊎◌, ℕ, zero, suc, Bool, true, false, ◌||◌, List, [], ◌∷◌, Option, length, refl, sym, ap, ◌∙◌, inl, inr, arith, ◌<◌, ◌^◌, ◌+◌}
use Rattle.std.proofs.lemmas.List.{length-append}
use Rattle.std.specs.Prelude.{if◌then◌else◌, nat_eq}
use Rattle.std.specs.List.{AllByRecursion}
use Rattle.std.proofs.lemmas.Bool.{or_parts}
use Rattle.dt_model.specs.Positions.{StoredTensor}
use Rattle.dt_model.specs.declared.cause.Cause.{Cause}
use Rattle.dt_nest.specs.declared.loops.Walk.{Walk}
use Rattle.dt_nest.specs.Tree.{Tree, Loop, Pre, Leaf}
use Rattle.dt_nest.specs.Schedule.{Schedule}
use Rattle.dt_nest.specs.Questions.{is_among}
use Rattle.dt_nest.specs.World.{FitsDerive}
use Rattle.dt_nest.specs.Grid.{outer_extents, IsOnGrid}
use Rattle.dt_nest.specs.Commands.{KeepsSum, Keeps}
use Rattle.dt_nest.specs.Lawful.{IsLawful}
use Rattle.dt_nest.proofs.KeptAccesses.{accesses_stay}
use Rattle.dt_cuts.specs.declared.cuts.Head.{Head}
use Rattle.dt_cuts.specs.declared.cuts.Cut.{Cut}
use Rattle.dt_cuts.specs.Place.{at_loop}
use Rattle.dt_cuts.specs.Cutting.{cut_tree, cut_by, cut_rule, AreFree, IsCut}
use Rattle.dt_cuts.proofs.Bare.{accesses_cut, reads_cut, output_cut}
use Rattle.dt_cuts.proofs.CutLawful.{cut_lawful}
use Rattle.dt_cuts.proofs.Fitting.{cut_fits_stored}

-- a change at a loop that isn't among the first k keeps their extents
outer_at_loop : (k v : ℕ) (change : ℕ → Option Walk → Tree → Tree) (tree : Tree) → is_among k v tree ≡ false → outer_extents k (at_loop v change tree) ≡ outer_extents k tree
outer_at_loop zero v change tree e = refl
outer_at_loop (suc k) v change (Loop u n walk body) e =
    let o = or_parts (nat_eq u v) (is_among k v body) e in
    ap (λ (b : Bool). outer_extents (suc k) (if b then change n walk body else Loop u n walk (at_loop v change body))) o.0
    ∙ ap (λ (ns : List ℕ). n ∷ ns) (outer_at_loop k v change body o.1)
outer_at_loop (suc k) v change (Pre work pairs p q) e = refl
outer_at_loop (suc k) v change (Leaf lhs terms guards kernel) e = refl

-- a cut of loops that aren't distributed keeps the distributed ones
outer_cut : (s : Schedule) (old heads : List Head) (gs : List ℕ) → AreFree old s → outer_extents s.distributed (cut_tree old heads gs s.nest) ≡ outer_extents s.distributed s.nest
outer_cut s [] heads gs free = refl
outer_cut s (h ∷ hs) heads gs free = outer_at_loop s.distributed h.var _ s.nest free.0.0

on_grid : (s : Schedule) (c : Cut) → IsCut s c → (dims : List ℕ) → IsOnGrid dims s → IsOnGrid dims (cut_by c s)
on_grid s c k dims (inl e) = inl e
on_grid s c k dims (inr e) = inr (outer_cut s c.old c.heads c.guards k.free ∙ e)

-- a lawful cut that keeps the sum owes nothing more, if what it derives fits the tensors that suit it
pub cut_owes : (can : Schedule → Type 0) (cause : Schedule → Option Cause) (cut : Schedule → Cut) (suits : List StoredTensor → Schedule → Type 0) (s : Schedule) → IsLawful s → IsCut s (cut s)
    → ((stored : List StoredTensor) → suits stored s → AllByRecursion (λ d. FitsDerive stored (cut_by (cut s) s) d.how) (cut s).derived)
    → KeepsSum s (cut_by (cut s) s) → Keeps (cut_rule can cause cut suits) s
cut_owes can cause cut suits s l k fit sum =
    let c = cut s in
    record {
      lawful = λ few. cut_lawful s c l k (let e = length-append s.names c.names in omega (arith, e, few));
      sum = sum;
      accesses = accesses_stay s (cut_by c s) refl (accesses_cut c.old c.heads c.guards s.nest) (reads_cut c.old c.heads c.guards s.nest) (output_cut c.old c.heads c.guards s.nest);
      fit = λ stored u f. cut_fits_stored s c l stored (fit stored u) f;
      grid = λ dims serves g. on_grid s c k dims g;
    }
