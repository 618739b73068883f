-- A tracker of a plan's events follows the job's list.
use Rattle.std.proofs.Common.{◌≡◌, ◌↔◌, ℕ, ◌<◌, List, [], ◌∷◌, ◌++◌, length, map, sym, ◌∙◌, subst, arith}
use Rattle.std.proofs.lemmas.List.{get_or-map, get_or-replicate, length-map}
use Rattle.std.proofs.lemmas.Option.{slice_get-get_or}
use Rattle.dt_nest.specs.Meaning.{Entries}
use Rattle.dt_argument.specs.Orders.{IsAllowed, IsEnabled, counts_of, none_done}
use Rattle.dt_argument.proofs.Counting.{goes_on}
use Rattle.dt_plan.specs.declared.ops.Op.{Op}
use Rattle.dt_plan.specs.declared.kind.Kind.TheVariants.{Free}
use Rattle.dt_plan.specs.Layouts.{Layout}
use Rattle.dt_plan.specs.Operations.{op_on, ops_of, units_of}
use Rattle.dt_plan.specs.Limits.{plan_view}
use Rattle.dt_plan.proofs.OperationUnits.{ops_have_units}
use Rattle.dt_tracker.specs.declared.step.Step.TheVariants.{Stepped}
use Rattle.dt_tracker.specs.Tracks.{Track, answer_of, opening_of, taken}
use Rattle.dt_tracker.specs.TrackerLaws.{IsTrackOf}
use Rattle.dt_tracker.proofs.LawProofs.{followers_listed, steps_if, tells, track_more}
use Rattle.dt_events.specs.Events.{events_of}
use Rattle.dt_events.specs.Jobs.{listing_of, op_at}
use Rattle.dt_events.proofs.Frames.{all_got}
use Rattle.dt_sim.specs.Tracking.{Tracks}

-- the units of an operation of the list
pub op_units : (l : Layout) (a : ℕ) → a < length (ops_of l) → (op_at (ops_of l) a).units ≡ units_of l (op_at (ops_of l) a)
op_units l a h =
    sym (all_got (λ o. units_of l o ≡ o.units) (ops_of l) a (op_at (ops_of l) a) (ops_have_units l) (slice_get-get_or (ops_of l) a (op_on Free 0 0 [] 0 0 [] 1) h))

pub plans_tracked : (l : Layout) (x : Entries) → IsTrackOf (opening_of (map (λ (o : Op). o.units) (ops_of l)) (events_of (plan_view l))) (listing_of l x) none_done
plans_tracked l x = record {
  count = length-map (ops_of l) (λ (o : Op). o.units);
  units = λ a h. get_or-map (λ (o : Op). o.units) (ops_of l) a (op_on Free 0 0 [] 0 0 [] 1) 0 h ∙ op_units l a h;
  events = λ a b h k. followers_listed (events_of (plan_view l)) (length (map (λ (o : Op). o.units) (ops_of l))) a b (let n = length-map (ops_of l) (λ (o : Op). o.units) in omega (arith, h, k, n));
  counts = λ a h. get_or-replicate (length (map (λ (o : Op). o.units) (ops_of l))) a 0 0 (let n = length-map (ops_of l) (λ (o : Op). o.units) in omega (arith, h, n));
}

module _ (l : Layout) (x : Entries) (t : Track) (u : List ℕ) (s : Tracks l x t u) (b : ℕ) where
  enabled_from : answer_of t b ≡ Stepped → IsEnabled (listing_of l x) (counts_of u) b
  enabled_from e = (tells t (listing_of l x) (counts_of u) s.lawful s.counts b).0 ((steps_if t b).0 e)

  steps_where : (answer_of t b ≡ Stepped) ↔ IsAllowed (listing_of l x) (u ++ b ∷ [])
  steps_where = (
    λ e. (goes_on (listing_of l x) u b).0.1 (s.allowed, enabled_from e),
    λ a. (steps_if t b).1 ((tells t (listing_of l x) (counts_of u) s.lawful s.counts b).1 ((goes_on (listing_of l x) u b).0.0 a).1),
  )

  tracks_on : answer_of t b ≡ Stepped → IsTrackOf (taken t b) (listing_of l x) (counts_of (u ++ b ∷ []))
  tracks_on e =
      subst (IsTrackOf (taken t b) (listing_of l x)) (sym (goes_on (listing_of l x) u b).1)
      (track_more t (listing_of l x) (counts_of u) s.lawful s.counts b (enabled_from e).exists)

pub follows_job : (l : Layout) (x : Entries) (t : Track) (u : List ℕ) → Tracks l x t u → (b : ℕ)
    → ((answer_of t b ≡ Stepped) ↔ IsAllowed (listing_of l x) (u ++ b ∷ [])) × (answer_of t b ≡ Stepped → IsTrackOf (taken t b) (listing_of l x) (counts_of (u ++ b ∷ [])))
follows_job l x t u s b = (steps_where l x t u s b, tracks_on l x t u s b)
