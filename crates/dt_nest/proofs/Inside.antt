-- Where the guards of a leaf hold, each variable that has a value there is below its extent.
use Rattle.std.proofs.Common.{◌≡◌, ℕ, zero, suc, ◌+◌, ◌*◌, ◌%◌, ◌<◌, Bool, true, false, ◌&&◌, ◌||◌, List, [], ◌∷◌, length, map, refl, sym, ap, ◌∙◌, subst, arith, sum_by}
use Rattle.std.specs.Prelude.{if◌then◌else◌, max, nat_eq, nat_lt, slice_index, MatchBool}
use Rattle.std.specs.List.{AllByRecursion, list_any}
use Rattle.std.proofs.lemmas.Bool.{eqb-true, ltb-true}
use Rattle.std.proofs.lemmas.List.{length-map}
use Rattle.std.proofs.Math.Nat.{div-lt_iff_lt-mul, mod-lt}
use Rattle.dt_base.specs.Ranges.{below, assignments}
use Rattle.dt_model.specs.WholeTensor.{WholeTensor}
use Rattle.dt_model.specs.Positions.{StoredTensor, IsStored, is_followed, coords_at, tensor_at}
use Rattle.dt_nest.specs.declared.loops.Pair.{Pair}
use Rattle.dt_nest.specs.declared.derivations.Derive.{Derive}
use Rattle.dt_nest.specs.declared.derivations.Derive.TheVariants.{Split, Quotient, Rest, Rotate, Pos}
use Rattle.dt_nest.specs.declared.derivations.Derived.{Derived}
use Rattle.dt_nest.proofs.Each.{all_map, all_filter, all_get, all_made, all_flat, below_all}
use Rattle.dt_nest.specs.Tree.{Tree, Loop, Pre, Leaf, accesses_of}
use Rattle.dt_nest.specs.Schedule.{Schedule}
use Rattle.dt_nest.specs.FitsStored.{FitsStored}
use Rattle.dt_nest.specs.Meaning.{World, Env, bind, derive_of, known, val_of, guards_hold, renamed, under}
use Rattle.dt_nest.specs.World.{world_of, Fits}
use Rattle.dt_nest.proofs.LawfulFit.{FitsCoordinate, coordinates_fit}
use Rattle.dt_nest.specs.Lawful.{ArePairs, IsNamed, sources, is_replaced, IsPast, AreOrdered, IsBounded, AreNamed, Loops, also, Follows, is_split, AreGuarded, HaveGuards, IsLawful}
use Rattle.dt_nest.proofs.Leads.{past_kept}

-- Where all guards of a leaf hold, each variable that has a value is below its extent, for all values of the loops around.
abbrev pub StaysInside : World → List Derived → Tree → Loops → Env → Env → Type 0
StaysInside w ds (Loop v n walk body) around name env = (i : ℕ) → i < n → StaysInside w ds body (also around v) name (bind env v i)
StaysInside w ds (Pre work pairs producer consumer) around name env =
    StaysInside w ds producer around (under pairs name) env × StaysInside w ds consumer around name env
StaysInside w ds (Leaf lhs terms guards kernel) around name env =
    guards_hold w (val_of w ds name env) guards ≡ true → (u : ℕ) → Follows ds around name (name u) → val_of w ds name env u < w.extent u

-- coordinates are below these extents
abbrev pub AreBelow : List ℕ → List ℕ → Type 0
AreBelow extents c = (level : ℕ) → level < length extents → slice_index c level < slice_index extents level

more_below : (n i : ℕ) (ns c : List ℕ) → i < n → AreBelow ns c → AreBelow (n ∷ ns) (i ∷ c)
more_below n i ns c l h zero k = l
more_below n i ns c l h (suc level) k = h level (omega arith)

-- the assignments of ranges are below their extents
pub assignments_below : (ns : List ℕ) → AllByRecursion (AreBelow ns) (assignments ns)
assignments_below [] = ((λ level k. absurd (omega arith)), tt)
assignments_below (n ∷ ns) =
    all_flat (λ i. i < n) (AreBelow (n ∷ ns)) (λ i. map (λ a. i ∷ a) (assignments ns))
    (λ i l. all_made (AreBelow ns) (AreBelow (n ∷ ns)) (λ a. i ∷ a) (λ a h. more_below n i ns a l h) (assignments ns) (assignments_below ns))
    (below n) (below_all n)

-- the coordinates of a position are below the tensor's extents
pub coords_below : (t : StoredTensor) → IsStored t → (p : ℕ) → p < length t.coords → AreBelow t.extents (coords_at t p)
coords_below t s p l =
    all_get (AreBelow t.extents) t.coords p []
    (subst (λ (l : List (List ℕ)). AllByRecursion (AreBelow t.extents) l) (sym s.stored) (all_filter (AreBelow t.extents) (is_followed t.compressed t.coords) (assignments t.extents) (assignments_below t.extents)))
    l

-- new names keep extents
pub renamed_extents : (s : Schedule) (pairs : List Pair) → ArePairs s pairs → (u : ℕ) → slice_index s.extents (renamed pairs u) ≡ slice_index s.extents u
renamed_extents s [] h u = refl
renamed_extents s (p ∷ ps) h u = renamed_extents s ps h.1 (if nat_eq u p.from then p.to else u) ∙ go (nat_eq u p.from) (eqb-true u p.from)
  where
    go : (b : Bool) → (b ≡ true → u ≡ p.from) → slice_index s.extents (if b then p.to else u) ≡ slice_index s.extents u
    go true e = h.0.2 ∙ ap (slice_index s.extents) (sym (e refl))
    go false e = refl

module _ (stored : List StoredTensor) (s : Schedule) (each : (t : ℕ) → t < length s.tensors → IsStored (tensor_at stored t)) where
  -- the value that a derivation gives is below the variable's extent, where those of what it names are below theirs
  derived_below : (v : ℕ) (how : Derive) (val : Env) → IsBounded s v how → FitsCoordinate stored s v how → (is_split how ≡ true → derive_of (world_of stored s) how val < slice_index s.extents v)
      → AllByRecursion (λ u. val u < slice_index s.extents u) (sources how) → derive_of (world_of stored s) how val < slice_index s.extents v
  derived_below v (Split outer inner factor) val b f g h = g refl
  derived_below v (Quotient fused zero) val b f g h = absurd (let e : slice_index s.extents v * 0 ≡ 0 = omega arith in omega (arith, b, e, h.0))
  derived_below v (Quotient fused (suc by)) val b f g h = let p : 0 < suc by = omega arith in (div-lt_iff_lt-mul p).1 (omega (arith, b, h.0))
  derived_below v (Rest fused by) val b f g h = let p : 0 < by = b.0 (omega (arith, h.0)) in let l : val fused % by < by = mod-lt (val fused) p in omega (arith, l, b.1)
  derived_below v (Rotate base by zero) val b f g h = absurd (omega (arith, b.0, h.0))
  derived_below v (Rotate base by (suc extent)) val b f g h =
      let p : 0 < max (suc extent) 1 = omega arith in
      let l : (val base + sum_by val by) % max (suc extent) 1 < max (suc extent) 1 = mod-lt (val base + sum_by val by) p in omega (arith, l, b.1)
  derived_below v (Pos tensor level base) val b f g h =
      let l : slice_index (coords_at (tensor_at stored tensor) (val base)) level < slice_index (tensor_at stored tensor).extents level =
      coords_below (tensor_at stored tensor) (each tensor b) (val base) (omega (arith, f.0, h.0)) level f.1 in
      omega (arith, l, f.2)

  -- so is each variable that has a value, where the guards of the splits hold
  pub variables_below : (guards : List ℕ) (around : Loops) (name env : Env) → ((u : ℕ) → around u ≡ true → env u < slice_index s.extents u) → ((u : ℕ) → slice_index s.extents (name u) ≡ slice_index s.extents u)
      → (ds : List Derived) → AreNamed s ds → AllByRecursion (λ d. FitsCoordinate stored s d.var d.how) ds → AreOrdered ds → AreGuarded ds guards around name
      → ((v : ℕ) → list_any (λ g. nat_eq (name g) v) guards ≡ true → is_replaced ds v ≡ true → known (world_of stored s) ds name env v < slice_index s.extents v)
      → (v : ℕ) → Follows ds around name v → known (world_of stored s) ds name env v < slice_index s.extents v
  unfolding known
  variables_below guards around name env inside same [] n fits o g hold v f = inside v f
  variables_below guards around name env inside same (d ∷ ds) n fits o g hold v f =
      go (nat_eq v d.var) (eqb-true v d.var) f (hold v)
      (λ u k. variables_below guards around name env inside same ds n.1 fits.1 o.2 g.1 rest u k)
    where
      w : World
      w = world_of stored s

      rest : (u : ℕ) → list_any (λ g. nat_eq (name g) u) guards ≡ true → is_replaced ds u ≡ true → known (world_of stored s) ds name env u < slice_index s.extents u
      rest u a r = later (nat_eq u d.var) (eqb-true u d.var) (hold u a)
        where
          later : (b : Bool) → (b ≡ true → u ≡ d.var) → ((b || is_replaced ds u) ≡ true → (if b then derive_of (world_of stored s) d.how (λ u. known (world_of stored s) ds name env (name u)) else known (world_of stored s) ds name env u) < slice_index s.extents u)
              → known (world_of stored s) ds name env u < slice_index s.extents u
          later true e k = let p : is_replaced ds u ≡ false = ap (is_replaced ds) (e refl) ∙ past_kept d.var ds o.1 in absurd (cc)
          later false e k = k r

      go : (b : Bool) → (b ≡ true → v ≡ d.var) → MatchBool b (AllByRecursion (λ u. Follows ds around name (name u)) (sources d.how)) (Follows ds around name v)
          → (list_any (λ g. nat_eq (name g) v) guards ≡ true → (b || is_replaced ds v) ≡ true → (if b then derive_of (world_of stored s) d.how (λ u. known (world_of stored s) ds name env (name u)) else known (world_of stored s) ds name env v) < slice_index s.extents v)
          → ((u : ℕ) → Follows ds around name u → known (world_of stored s) ds name env u < slice_index s.extents u)
          → (if b then derive_of (world_of stored s) d.how (λ u. known (world_of stored s) ds name env (name u)) else known (world_of stored s) ds name env v) < slice_index s.extents v
      go true e f hold r =
          let p : d.var ≡ v = sym (e refl) in
          derived_below v d.how (λ u. known (world_of stored s) ds name env (name u))
          (subst (λ (z : ℕ). IsBounded s z d.how) p n.0.2) (subst (λ (z : ℕ). FitsCoordinate stored s z d.how) p fits.0)
          (λ t. hold (subst (λ (z : ℕ). list_any (λ g. nat_eq (name g) z) guards ≡ true) p (g.0 t f)) refl)
          (all_map (λ u. Follows ds around name (name u)) (λ u. known (world_of stored s) ds name env (name u) < slice_index s.extents u) (λ u k. subst (λ (z : ℕ). known (world_of stored s) ds name env (name u) < z) (same u) (r (name u) k)) (sources d.how) f)
      go false e f hold r = r v f

  -- a guard that holds
  pub guard_holds : (ds : List Derived) (name env : Env) (guards : List ℕ) → ((u : ℕ) → slice_index s.extents (name u) ≡ slice_index s.extents u)
      → guards_hold (world_of stored s) (val_of (world_of stored s) ds name env) guards ≡ true
      → (v : ℕ) → list_any (λ g. nat_eq (name g) v) guards ≡ true → known (world_of stored s) ds name env v < slice_index s.extents v
  guard_holds ds name env [] same h v a = absurd (cc)
  guard_holds ds name env (g ∷ guards) same h v a =
      go (nat_lt (val_of (world_of stored s) ds name env g) (slice_index s.extents g)) (nat_eq (name g) v) (ltb-true (val_of (world_of stored s) ds name env g) (slice_index s.extents g)) (eqb-true (name g) v) h a
      (λ h a. guard_holds ds name env guards same h v a)
    where
      go : (t b : Bool) → (t ≡ true → val_of (world_of stored s) ds name env g < slice_index s.extents g) → (b ≡ true → name g ≡ v)
          → (t && guards_hold (world_of stored s) (val_of (world_of stored s) ds name env) guards) ≡ true → (b || list_any (λ g. nat_eq (name g) v) guards) ≡ true
          → (guards_hold (world_of stored s) (val_of (world_of stored s) ds name env) guards ≡ true → list_any (λ g. nat_eq (name g) v) guards ≡ true → known (world_of stored s) ds name env v < slice_index s.extents v)
          → known (world_of stored s) ds name env v < slice_index s.extents v
      go false b l e h a r = absurd (cc)
      go true false l e h a r = r h a
      go true true l e h a r =
          let k : known (world_of stored s) ds name env v < slice_index s.extents g = subst (λ (z : ℕ). known (world_of stored s) ds name env z < slice_index s.extents g) (e refl) (l refl) in
          subst (λ (z : ℕ). known (world_of stored s) ds name env v < z) (sym (same g) ∙ ap (slice_index s.extents) (e refl)) k

  tree_inside : (ds : List Derived) → AreNamed s ds → AllByRecursion (λ d. FitsCoordinate stored s d.var d.how) ds → AreOrdered ds
      → (tree : Tree) (around : Loops) (name env : Env) → IsNamed s tree → HaveGuards ds tree around name
      → ((u : ℕ) → around u ≡ true → env u < slice_index s.extents u) → ((u : ℕ) → slice_index s.extents (name u) ≡ slice_index s.extents u)
      → StaysInside (world_of stored s) ds tree around name env
  tree_inside ds n fits o (Loop v extent walk body) around name env named g inside same =
      λ i l. tree_inside ds n fits o body (also around v) name (bind env v i) named.3 g (λ u a. go i l u (nat_eq u v) (eqb-true u v) a) same
    where
      go : (i : ℕ) → i < extent → (u : ℕ) (b : Bool) → (b ≡ true → u ≡ v) → (b || around u) ≡ true → (if b then i else env u) < slice_index s.extents u
      go i l u true e a = let p : slice_index s.extents u ≡ extent = ap (slice_index s.extents) (e refl) ∙ named.1 in omega arith
      go i l u false e a = inside u a
  tree_inside ds n fits o (Pre work pairs producer consumer) around name env named g inside same = (
    tree_inside ds n fits o producer around (under pairs name) env named.2 g.0 inside (λ u. renamed_extents s pairs named.1 (name u) ∙ same u),
    tree_inside ds n fits o consumer around name env named.3 g.1 inside same,
  )
  tree_inside ds n fits o (Leaf lhs terms guards kernel) around name env named g inside same =
      λ h u f. subst (λ (z : ℕ). val_of (world_of stored s) ds name env u < z) (same u)
      (variables_below guards around name env inside same ds n fits o g (λ v a r. guard_holds ds name env guards same h v a) (name u) f)

-- tensors of equal shapes are as many
pub length_shapes : (stored : List StoredTensor) (tensors : List WholeTensor) → map (λ (x : StoredTensor). x.extents) stored ≡ map (λ (x : WholeTensor). x.extents) tensors → length stored ≡ length tensors
length_shapes stored tensors e = sym (length-map stored (λ (x : StoredTensor). x.extents)) ∙ ap length e ∙ length-map tensors (λ (x : WholeTensor). x.extents)

-- The tensors of lawful schedules are accessed inside their extents, for all tensors that fit.
pub stays_inside : (s : Schedule) (stored : List StoredTensor) (tensors : List WholeTensor) → IsLawful s → Fits stored tensors s
    → StaysInside (world_of stored s) s.derived s.nest (λ u. false) (λ u. u) (λ u. 0)
stays_inside s stored tensors l f =
    tree_inside stored s (λ t k. all_get IsStored stored t (record { extents = []; compressed = []; coords = [] }) f.levels (omega (arith, k, f.count, length_shapes stored tensors f.shapes)))
    s.derived l.derived (coordinates_fit stored s (accesses_of s.nest) s.derived f.accesses l.derived f.positions l.coordinates) l.ordered s.nest (λ u. false) (λ u. u) (λ u. 0) l.named l.guards (λ u a. absurd (cc)) (λ u. refl)

-- what tensors that fit store fits
pub fits_stored : (stored : List StoredTensor) (tensors : List WholeTensor) (s : Schedule) → Fits stored tensors s → FitsStored stored s
fits_stored stored tensors s f = record {
  count = length_shapes stored tensors f.shapes ∙ f.count;
  levels = f.levels;
  accesses = f.accesses;
  positions = f.positions;
}
