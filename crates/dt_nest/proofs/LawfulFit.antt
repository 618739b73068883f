-- What tensors that fit a lawful schedule have besides: walked accesses and coordinates have the tensors' extents.
use Rattle.std.proofs.Common.{◌≡◌, ℕ, zero, suc, ◌<◌, List, [], ◌∷◌, ◌++◌, length, map, Option, Some, None, refl, sym, ap, ◌∙◌, subst, arith}
use Rattle.std.specs.Prelude.{slice_get, slice_index}
use Rattle.std.specs.List.{AllByRecursion, Contains}
use Rattle.dt_model.specs.Positions.{StoredTensor, tensor_at}
use Rattle.dt_model.specs.declared.stmt.Access.{Access}
use Rattle.dt_nest.specs.declared.loops.Walk.{Walk}
use Rattle.dt_nest.specs.declared.derivations.Derive.{Derive}
use Rattle.dt_nest.specs.declared.derivations.Derive.TheVariants.{Split, Quotient, Rest, Rotate, Pos}
use Rattle.dt_nest.specs.declared.derivations.Derived.{Derived}
use Rattle.dt_nest.specs.Tree.{Tree, Loop, Pre, Leaf, accesses_of}
use Rattle.dt_nest.specs.Schedule.{Schedule}
use Rattle.dt_nest.specs.World.{FitsAccess, FitsDerive}
use Rattle.dt_nest.specs.FitsStored.{FitsStored}
use Rattle.dt_nest.specs.Lawful.{IsBounded, AreNamed, WalkAppears, WalksAppear, CoordinateAppears, IsLawful}
use Rattle.dt_nest.proofs.Agree.{all_parts}
use Rattle.dt_nest.proofs.Each.{all_get}

-- a walked access has the tensor's extents at its variables
abbrev pub FitsWalk : List StoredTensor → Schedule → Option Walk → Type 0
FitsWalk stored s None = Unit {0}
FitsWalk stored s (Some k) = FitsAccess stored s k.tensor k.vars

-- so has each walked access of a tree
abbrev pub FitsWalks : List StoredTensor → Schedule → Tree → Type 0
FitsWalks stored s (Loop v n walk body) = FitsWalk stored s walk × FitsWalks stored s body
FitsWalks stored s (Pre work pairs producer consumer) = FitsWalks stored s producer × FitsWalks stored s consumer
FitsWalks stored s (Leaf lhs terms guards kernel) = Unit {0}

-- a loop over a tensor's positions has as many values, and the variable that is a coordinate has the extent at its level
abbrev pub FitsCoordinate : List StoredTensor → Schedule → ℕ → Derive → Type 0
FitsCoordinate stored s v (Split outer inner factor) = Unit {0}
FitsCoordinate stored s v (Quotient fused by) = Unit {0}
FitsCoordinate stored s v (Rest fused by) = Unit {0}
FitsCoordinate stored s v (Rotate base by extent) = Unit {0}
FitsCoordinate stored s v (Pos tensor level base) =
    (length (tensor_at stored tensor).coords ≡ slice_index s.extents base)
    × (level < length (tensor_at stored tensor).extents) × (slice_index (tensor_at stored tensor).extents level ≡ slice_index s.extents v)

-- an element of a list has the fact of each
pub all_has : {X : Type 0} (P : X → Type 0) (xs : List X) (x : X) → AllByRecursion P xs → Contains xs x → P x
all_has P xs x h c = subst P c.2 (all_get P xs c.0 x h c.1)

-- at a level that a list has, what a function makes of it is what it makes of the element
map_at : (f : ℕ → ℕ) (vs : List ℕ) (level v : ℕ) → slice_get vs level ≡ Some v → (level < length (map f vs)) × (slice_index (map f vs) level ≡ f v)
map_at f [] level v e = absurd (cc)
map_at f (u ∷ vs) zero v e = (omega arith, let p : u ≡ v = cc in ap f p)
map_at f (u ∷ vs) (suc level) v e = let r = map_at f vs level v e in (omega (arith, r.0), r.1)

module _ (stored : List StoredTensor) (s : Schedule) where
  walk_fits : (walk : Option Walk) (body : Tree) → AllByRecursion (λ a. FitsAccess stored s a.tensor a.vars) (accesses_of body) → WalkAppears walk body → FitsWalk stored s walk
  walk_fits None body f h = tt
  walk_fits (Some k) body f h = all_has (λ a. FitsAccess stored s a.tensor a.vars) (accesses_of body) (record { tensor = k.tensor; vars = k.vars }) f h

  -- tensors that fit the accesses of a tree fit its walks
  pub walks_fit : (tree : Tree) → AllByRecursion (λ a. FitsAccess stored s a.tensor a.vars) (accesses_of tree) → WalksAppear tree → FitsWalks stored s tree
  walks_fit (Loop v n walk body) f h = (walk_fits walk body f h.0, walks_fit body f h.1)
  walks_fit (Pre work pairs p q) f h =
      let parts = all_parts (λ (a : Access). FitsAccess stored s a.tensor a.vars) (accesses_of p) (accesses_of q) f in (walks_fit p parts.0 h.0, walks_fit q parts.1 h.1)
  walks_fit (Leaf lhs terms guards kernel) f h = tt

  coordinate_fits : (accesses : List Access) (v : ℕ) (how : Derive) → AllByRecursion (λ a. FitsAccess stored s a.tensor a.vars) accesses → IsBounded s v how → FitsDerive stored s how → CoordinateAppears accesses v how → FitsCoordinate stored s v how
  coordinate_fits accesses v (Split outer inner factor) f b p h = tt
  coordinate_fits accesses v (Quotient fused by) f b p h = tt
  coordinate_fits accesses v (Rest fused by) f b p h = tt
  coordinate_fits accesses v (Rotate base by extent) f b p h = tt
  coordinate_fits accesses v (Pos tensor level base) f b p h =
      let shape : (tensor_at stored tensor).extents ≡ map (λ u. slice_index s.extents u) h.0.vars =
      subst (λ (t : ℕ). FitsAccess stored s t h.0.vars) h.2 (all_has (λ (a : Access). FitsAccess stored s a.tensor a.vars) accesses h.0 f h.1) b in
      let at = map_at (λ u. slice_index s.extents u) h.0.vars level v h.3 in
      (p, subst (λ (l : List ℕ). level < length l) (sym shape) at.0, ap (λ (l : List ℕ). slice_index l level) shape ∙ at.1)

  -- and each coordinate of a position
  pub coordinates_fit : (accesses : List Access) (ds : List Derived) → AllByRecursion (λ a. FitsAccess stored s a.tensor a.vars) accesses → AreNamed s ds → AllByRecursion (λ d. FitsDerive stored s d.how) ds
      → AllByRecursion (λ d. CoordinateAppears accesses d.var d.how) ds → AllByRecursion (λ d. FitsCoordinate stored s d.var d.how) ds
  coordinates_fit accesses [] f n p h = tt
  coordinates_fit accesses (d ∷ ds) f n p h = (coordinate_fits accesses d.var d.how f n.0.2 p.0 h.0, coordinates_fit accesses ds f n.1 p.1 h.1)

  -- so do the coordinates of a lawful schedule
  pub lawful_coordinates : IsLawful s → FitsStored stored s → AllByRecursion (λ d. FitsCoordinate stored s d.var d.how) s.derived
  lawful_coordinates l f = coordinates_fit (accesses_of s.nest) s.derived f.accesses l.derived f.positions l.coordinates
