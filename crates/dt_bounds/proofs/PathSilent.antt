-- A path whose visits don't need a position of the left tensor adds nothing there.
use Rattle.std.proofs.Common.{◌≡◌, ℕ, ◌+◌, ◌%◌, ◌^◌, ◌<◌, Bool, true, false, ◌||◌, ◌&&◌, List, [], ◌∷◌, length, refl, ap, sym, ◌∙◌, subst, arith}
use Rattle.std.specs.Prelude.{if◌then◌else◌, nat_eq, nat_lt}
use Rattle.std.specs.List.{AllByRecursion, list_any}
use Rattle.std.specs.Str.{bytes_eq}
use Rattle.std.proofs.lemmas.Bool.{eqb-true, lt-ltb, ne_eqb, or_parts}
use Rattle.std.proofs.lemmas.Slice.Eq.{bytes_eq-Decides}
use Rattle.dt_model.specs.Positions.{coords_at, tensor_at}
use Rattle.dt_nest.specs.declared.derivations.Derived.{Derived}
use Rattle.dt_nest.specs.Meaning.{World, Entries}
use Rattle.dt_nest.specs.World.{world_of}
use Rattle.dt_nest.specs.Outputs.{output_of}
use Rattle.dt_nest.specs.Visits.{Item, IsReset, IsVisit, visits_of, touches}
use Rattle.dt_nest.specs.Effects.{visit_sum, left_at, effect_of, entries_after}
use Rattle.dt_nest.specs.Paths.{sum_on}
use Rattle.dt_bounds.specs.NeededPaths.{NotNeededAddsNothing}
use Rattle.dt_nest.proofs.RootApart.{output_below}
use Rattle.dt_bounds.proofs.PathNeeds.{contains-needed}
use Rattle.dt_bounds.proofs.PathAccesses.{LeftTouched, path_left_touched}
use Rattle.dt_nest.proofs.PathSums.{paths_add}

module _ (w : World) (ds : List Derived) (t : ℕ) (c : List ℕ) (below : t < w.tensors) where
  -- an item that doesn't touch a tensor at some coordinates leaves its number there
  item_stays : (item : Item) (x : Entries) → LeftTouched w ds item → touches w ds t c item ≡ false → effect_of w ds item x t c ≡ x t c
  item_stays (IsReset work) x h e = go (nat_eq t (w.tensors + work)) (ne_eqb t (w.tensors + work) (λ i. absurd (omega (arith, i, below))))
    where
      go : (b : Bool) → b ≡ false → (if b then 0 else x t c) ≡ x t c
      go true f = absurd (cc)
      go false f = refl
  item_stays (IsVisit visit) x h e = go (nat_eq t visit.leaf.lhs.tensor) (eqb-true t visit.leaf.lhs.tensor) (bytes_eq (left_at w ds visit) c) (bytes_eq-Decides (left_at w ds visit) c).0
    where
      clash : t ≡ visit.leaf.lhs.tensor → left_at w ds visit ≡ c → ⊥
      clash i j =
          let here : touches w ds t c (IsVisit visit) ≡ true =
          subst (λ (d : List ℕ). touches w ds t d (IsVisit visit) ≡ true) j (subst (λ (u : ℕ). touches w ds u (left_at w ds visit) (IsVisit visit) ≡ true) (sym i) h) in
          cc

      go : (a : Bool) → (a ≡ true → t ≡ visit.leaf.lhs.tensor) → (b : Bool) → (b ≡ true → left_at w ds visit ≡ c) → (if a && b then (x t c + visit_sum w ds x visit) % 2 ^ 64 else x t c) ≡ x t c
      go true f true g = absurd (clash (f refl) (g refl))
      go true f false g = refl
      go false f b g = refl

  -- and so do items
  pub items_stay : (items : List Item) (x : Entries) → AllByRecursion (LeftTouched w ds) items → list_any (touches w ds t c) items ≡ false → entries_after w ds items x t c ≡ x t c
  items_stay [] x h e = refl
  items_stay (item ∷ items) x h e =
      let parts = or_parts (touches w ds t c item) (list_any (touches w ds t c) items) e in
      items_stay items (effect_of w ds item x) h.1 parts.1 ∙ item_stays item x h.0 parts.0

-- a path whose visits don't need a position of the left tensor adds nothing there
pub not_needed_adds_nothing : NotNeededAddsNothing
not_needed_adds_nothing s stored p x w lawful unread h l n =
    let untouched : list_any (touches (world_of stored s) s.derived (output_of s.nest) (coords_at (tensor_at stored (output_of s.nest)) w)) (visits_of stored s p) ≡ false =
    left (nat_lt w (length (tensor_at stored (output_of s.nest)).coords)) _ (lt-ltb w (length (tensor_at stored (output_of s.nest)).coords) l) (sym (contains-needed stored s (output_of s.nest) p w) ∙ n) in
    let stays = items_stay (world_of stored s) s.derived (output_of s.nest) (coords_at (tensor_at stored (output_of s.nest)) w) (output_below (length s.tensors) s.nest [] lawful.works.stand) (visits_of stored s p) x (path_left_touched stored s p lawful) untouched in
    nothing (x (output_of s.nest) (coords_at (tensor_at stored (output_of s.nest)) w)) (sum_on stored s p x (coords_at (tensor_at stored (output_of s.nest)) w))
    (ap (λ (k : ℕ). k % 2 ^ 64) (sym stays) ∙ (paths_add s stored p x lawful unread h).sums (coords_at (tensor_at stored (output_of s.nest)) w))
  where
    left : (a b : Bool) → a ≡ true → (a && b) ≡ false → b ≡ false
    left true b e f = f
    left false b e f = absurd (cc)

    nothing : (a b : ℕ) → a % 2 ^ 64 ≡ (a + b) % 2 ^ 64 → b % 2 ^ 64 ≡ 0
    nothing a b e = omega (arith, e)
