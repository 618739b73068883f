-- Tensors that fit a schedule fit it after a cut, and the other way round.
use Rattle.std.proofs.Common.{◌≡◌, ℕ, ◌+◌, ◌<◌, List, [], ◌∷◌, ◌++◌, length, refl, sym, ◌∙◌, subst, arith}
use Rattle.std.specs.Prelude.{slice_index}
use Rattle.std.specs.List.{AllByRecursion}
use Rattle.dt_model.specs.WholeTensor.{WholeTensor}
use Rattle.dt_model.specs.Positions.{StoredTensor}
use Rattle.dt_model.specs.declared.stmt.Access.{Access}
use Rattle.dt_nest.specs.declared.derivations.Derive.{Derive}
use Rattle.dt_nest.specs.declared.derivations.Derive.TheVariants.{Split, Quotient, Rest, Rotate, Pos}
use Rattle.dt_nest.specs.declared.derivations.Derived.{Derived}
use Rattle.dt_cuts.specs.declared.cuts.Cut.{Cut}
use Rattle.dt_nest.specs.Tree.{accesses_of}
use Rattle.dt_nest.specs.Schedule.{Schedule}
use Rattle.dt_nest.specs.World.{FitsAccess, FitsDerive, Fits}
use Rattle.dt_nest.specs.FitsStored.{FitsStored}
use Rattle.dt_nest.specs.Lawful.{AccessBelow, sources, AreNamed, IsLawful}
use Rattle.dt_cuts.specs.Cutting.{cut_by, IsCut}
use Rattle.dt_nest.proofs.Agree.{map_agree, all_parts}
use Rattle.dt_nest.proofs.Each.{all_append}
use Rattle.dt_cuts.proofs.Bare.{accesses_cut}
use Rattle.dt_cuts.proofs.Extents.{index_more}
use Rattle.dt_nest.proofs.NamedAccesses.{named_accesses}

-- Where two schedules have the same tensors, and the same extents for the names of a third, what fits the one fits the other:
module _ (stored : List StoredTensor) (s one other : Schedule) (tensors : other.tensors ≡ one.tensors) (extents : (u : ℕ) → u < length s.names → slice_index one.extents u ≡ slice_index other.extents u) where
  -- an access
  access_fits : (t : ℕ) (vars : List ℕ) → AllByRecursion (λ u. u < length s.names) vars → FitsAccess stored one t vars → FitsAccess stored other t vars
  access_fits t vars below f l =
      f (subst (λ (ts : List (List ℕ)). t < length ts) tensors l) ∙ map_agree (λ u. u < length s.names) (λ v. slice_index one.extents v) (λ v. slice_index other.extents v) extents vars below

  -- the accesses of a list
  accesses_fit : (m : ℕ) (xs : List Access) → AllByRecursion (AccessBelow (length s.names) m) xs → AllByRecursion (λ a. FitsAccess stored one a.tensor a.vars) xs → AllByRecursion (λ a. FitsAccess stored other a.tensor a.vars) xs
  accesses_fit m [] h f = tt
  accesses_fit m (a ∷ xs) h f = (access_fits a.tensor a.vars h.0.2 f.0, accesses_fit m xs h.1 f.1)

  derive_fits : (how : Derive) → AllByRecursion (λ u. u < length s.names) (sources how) → FitsDerive stored one how → FitsDerive stored other how
  derive_fits (Split outer inner factor) h f = tt
  derive_fits (Quotient fused by) h f = tt
  derive_fits (Rest fused by) h f = tt
  derive_fits (Rotate base by extent) h f = tt
  derive_fits (Pos tensor level base) h f = f ∙ extents base h.0

  -- the positions
  derived_fit : (ds : List Derived) → AreNamed s ds → AllByRecursion (λ d. FitsDerive stored one d.how) ds → AllByRecursion (λ d. FitsDerive stored other d.how) ds
  derived_fit [] h f = tt
  derived_fit (d ∷ ds) h f = (derive_fits d.how h.0.1 f.0, derived_fit ds h.1 f.1)

-- a schedule's names keep their extents
same_extents : (s : Schedule) (c : Cut) → IsLawful s → (u : ℕ) → u < length s.names → slice_index (s.extents ++ c.extents) u ≡ slice_index s.extents u
same_extents s c l u h = index_more s.extents c.extents u (let e = l.names.extents in omega arith)

-- Tensors that fit a cut schedule fit the schedule.
pub cut_fits : (s : Schedule) (c : Cut) → IsLawful s → IsCut s c → (stored : List StoredTensor) (tensors : List WholeTensor) → Fits stored tensors (cut_by c s) → Fits stored tensors s
cut_fits s c l k stored tensors f = record {
  count = f.count;
  shapes = f.shapes;
  whole = f.whole;
  levels = f.levels;
  zeros = f.zeros;
  accesses = accesses_fit stored s (cut_by c s) s refl (same_extents s c l) (length s.tensors + length s.works) (accesses_of s.nest) (named_accesses s s.nest l.named)
      (subst (AllByRecursion (λ a. FitsAccess stored (cut_by c s) a.tensor a.vars)) (accesses_cut c.old c.heads c.guards s.nest) f.accesses);
  positions = derived_fit stored s (cut_by c s) s refl (same_extents s c l) s.derived l.derived (all_parts (λ d. FitsDerive stored (cut_by c s) d.how) s.derived c.derived f.positions).0;
}

-- Stored tensors that fit a schedule fit a cut one, where they fit what the cut derives.
pub cut_fits_stored : (s : Schedule) (c : Cut) → IsLawful s → (stored : List StoredTensor) → AllByRecursion (λ d. FitsDerive stored (cut_by c s) d.how) c.derived
    → FitsStored stored s → FitsStored stored (cut_by c s)
cut_fits_stored s c l stored new f = record {
  count = f.count;
  levels = f.levels;
  accesses = subst (AllByRecursion (λ a. FitsAccess stored (cut_by c s) a.tensor a.vars)) (sym (accesses_cut c.old c.heads c.guards s.nest))
      (accesses_fit stored s s (cut_by c s) refl same (length s.tensors + length s.works) (accesses_of s.nest) (named_accesses s s.nest l.named) f.accesses);
  positions = all_append (λ d. FitsDerive stored (cut_by c s) d.how) s.derived c.derived (derived_fit stored s s (cut_by c s) refl same s.derived l.derived f.positions) new;
}
  where
    same : (u : ℕ) → u < length s.names → slice_index s.extents u ≡ slice_index (s.extents ++ c.extents) u
    same u h = sym (same_extents s c l u h)
