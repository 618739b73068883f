-- What the next visit of a run adds to the positions that were found.
use Rattle.std.proofs.Common.{◌≡◌, ℕ, Bool, true, false, ◌||◌, ◌&&◌, List, ◌∷◌, length, Option, Some, refl, sym, ap, ◌∙◌}
use Rattle.std.specs.Prelude.{nat_lt}
use Rattle.std.specs.List.{list_any}
use Rattle.dt_model.specs.Positions.{StoredTensor, coords_at}
use Rattle.dt_runs.specs.Sets.{contains}
use Rattle.dt_nest.specs.declared.progress.Visit.{Visit}
use Rattle.dt_nest.specs.declared.progress.Visit.TheVariants as v
use Rattle.dt_nest.specs.Schedule.{Schedule}
use Rattle.dt_nest.specs.World.{world_of}
use Rattle.dt_nest.specs.Visits.{Item, IsReset, IsVisit, touches}
use Rattle.dt_nest.specs.Run.{Run, Goes}
use Rattle.dt_bounds.specs.Found.{Adds}
use Rattle.dt_bounds.specs.Points.{is_touched, item_touches, last_touches}

regroup : (before within here rest : Bool) → ((before || (within && here)) || (within && rest)) ≡ (before || (within && (here || rest)))
regroup true within here rest = refl
regroup false true true rest = refl
regroup false true false rest = refl
regroup false false here rest = refl

module _ (stored : List StoredTensor) (s : Schedule) (t : StoredTensor) (tensor : ℕ) (old new : Run) (before after : List ℕ) (same_sched : new.sched ≡ s) (same_stored : new.stored ≡ stored) (adds : Adds (length t.coords) (last_touches new t tensor) before after) (x : ℕ) where
  abbrev Same : Type 0
  Same = (contains after x || is_touched (world_of stored s) s.derived t tensor new.left x) ≡ (contains before x || is_touched (world_of stored s) s.derived t tensor old.left x)

  with_item : (item : Item) → old.left ≡ item ∷ new.left → new.last ≡ Some item → Same
  with_item item left last =
      ap (λ (b : Bool). b || is_touched (world_of stored s) s.derived t tensor new.left x)
      (adds.members x
      ∙ ap (λ (o : Option Item). contains before x || (nat_lt x (length t.coords) && item_touches (world_of new.stored new.sched) new.sched.derived tensor (coords_at t x) o)) last
      ∙ ap (λ (r : Schedule). contains before x || (nat_lt x (length t.coords) && touches (world_of new.stored r) r.derived tensor (coords_at t x) item)) same_sched
      ∙ ap (λ (l : List StoredTensor). contains before x || (nat_lt x (length t.coords) && touches (world_of l s) s.derived tensor (coords_at t x) item)) same_stored)
      ∙ regroup (contains before x) (nat_lt x (length t.coords)) (touches (world_of stored s) s.derived tensor (coords_at t x) item) (list_any (touches (world_of stored s) s.derived tensor (coords_at t x)) new.left)
      ∙ ap (λ (l : List Item). contains before x || is_touched (world_of stored s) s.derived t tensor l x) (sym left)

  -- the positions that were found and those of the visits that are left stay the same together
  pub visit_added : (item : Visit) → Goes old (Some item) new → Same
  visit_added (v.Reset work) g = with_item (IsReset work) g.0 g.1
  visit_added v.Leaf g = with_item (IsVisit g.0) g.1 g.2
