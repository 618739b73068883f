-- Plans within their limits.
use Rattle.std.proofs.Common.{◌≡◌, ℕ, ◌^◌, ◌<◌, ◌≤◌, Bool, true, false, List, [], ◌∷◌, length, map, refl, ap, sym, ◌∙◌, subst, arith}
use Rattle.std.specs.Prelude.{if◌then◌else◌, nat_lt, sum_by, Result, Ok, Err}
use Rattle.std.specs.List.{AllByRecursion, zip}
use Rattle.std.proofs.lemmas.Bool.{ltb-true, ltb-false}
use Rattle.std.proofs.lemmas.List.{length-map}
use Rattle.std.proofs.lemmas.List.Elements.{All-from_recursion}
use Rattle.std.proofs.lemmas.List.Sums.{sum_by-cons}
use Rattle.std.proofs.lemmas.Slice.Zip.{length-zip}
use Rattle.dt_base.specs.Ranges.{below}
use Rattle.dt_base.proofs.Ranges.{length-below}
use Rattle.dt_model.specs.Positions.{StoredTensor}
use Rattle.dt_nest.specs.FitsStored.{FitsStored}
use Rattle.dt_nest.specs.Lawful.{IsLawful}
use Rattle.dt_nest.proofs.Each.{all_made, all_map}
use Rattle.dt_place.specs.Homes.{home_of, homes_on}
use Rattle.dt_place.specs.Machines.{IsMachine, MachineView, nodes_of}
use Rattle.dt_place.specs.declared.placements.Placement.{Placement}
use Rattle.dt_place.proofs.MachineFacts.{machine_facts}
use Rattle.dt_plan.specs.declared.ops.Op.{Op}
use Rattle.dt_plan.specs.declared.parts.Part.{Part}
use Rattle.dt_plan.specs.declared.plan_end.PlanEnd.{PlanEnd}
use Rattle.dt_plan.specs.declared.plan_end.PlanEnd.TheVariants as ends
use Rattle.dt_plan.specs.declared.planning.Listing.{Listing}
use Rattle.dt_plan.specs.declared.touches.Buffer.{Buffer}
use Rattle.dt_plan.specs.declared.touches.Touch.{Touch}
use Rattle.dt_plan.specs.Bounds.{Traffic, bound_of, buffers_of, traffic_of}
use Rattle.dt_plan.specs.Footprints.{footprints_of}
use Rattle.dt_plan.specs.Layouts.{Layout, layout_of}
use Rattle.dt_plan.specs.Limits.{Fails, PlanView, bound_sum, bounds_within, has_too_many_visits, ops_within, plan_of, plan_view, unit_count, visit_count, visit_limit, visits_bound}
use Rattle.dt_plan.specs.Operations.{ops_of, units_of}
use Rattle.dt_plan.specs.OpsOf.{IsOpOf}
use Rattle.dt_plan.specs.Plans.{IsPlan, plan_with, units_in}
use Rattle.dt_plan.specs.Statements.{FitsLayout, FitsPart, HasHomes}
use Rattle.dt_plan.proofs.NodeRows.{so_many}
use Rattle.dt_plan.proofs.OperationUnits.{any, ops_have_units}
use Rattle.dt_plan.proofs.OpFacts.{ops_are}

-- Tests -----------------------------------------------------------------------------------------------------------------

less : (a b : ℕ) → a < b → nat_lt a b ≡ true
less a b h = go (nat_lt a b) refl
  where
    go : (c : Bool) → nat_lt a b ≡ c → c ≡ true
    go true e = refl
    go false e = let f = ltb-false a b e in absurd (omega (arith, f, h))

not_less : (a b : ℕ) → b ≤ a → nat_lt a b ≡ false
not_less a b h = go (nat_lt a b) refl
  where
    go : (c : Bool) → nat_lt a b ≡ c → c ≡ false
    go true e = let f = ltb-true a b e in absurd (omega (arith, f, h))
    go false e = refl

abbrev IsOk : {Y : Type 0} → Result Y PlanEnd → Type 0
IsOk (Ok x) = Unit {0}
IsOk (Err e) = ⊥

abbrev value_or : {Y : Type 0} → Y → Result Y PlanEnd → Y
value_or y (Ok x) = x
value_or y (Err e) = y

abbrev end_or : {Y : Type 0} → PlanEnd → Result Y PlanEnd → PlanEnd
end_or d (Ok x) = d
end_or d (Err e) = e

-- a limit that is kept
kept : {Y : Type 0} (b : Bool) (e : PlanEnd) (x y : Y) → (if b then Err e else Ok x) ≡ Ok y → (b ≡ false) × (y ≡ x)
kept true e x y h = absurd (subst IsOk (sym h) tt)
kept false e x y h = (refl, ap (value_or y) (sym h))

-- a limit that is passed
broken : {Y Z : Type 0} (b : Bool) (e f : PlanEnd) (x : Y) (rest : Result Z PlanEnd) → (if b then Err e else Ok x) ≡ Err f → (if b then Err e else rest) ≡ Err f
broken true e f x rest h = ap (λ (d : PlanEnd). Err d) (ap (end_or e) h)
broken false e f x rest h = absurd (subst IsOk h tt)

go_on : {Z : Type 0} (b : Bool) (e : PlanEnd) (rest : Result Z PlanEnd) → b ≡ false → (if b then Err e else rest) ≡ rest
go_on b e rest h = ap (λ (c : Bool). if c then Err e else rest) h

stop : {Z : Type 0} (b : Bool) (e : PlanEnd) (rest : Result Z PlanEnd) → b ≡ true → (if b then Err e else rest) ≡ Err e
stop b e rest h = ap (λ (c : Bool). if c then Err e else rest) h

-- what ended a part of a plan ends the whole
pub ends_whole : {X Y : Type 0} (end : PlanEnd) (part : Result X PlanEnd) (whole : Result Y PlanEnd) → ((e : PlanEnd) → part ≡ Err e → whole ≡ Err e) → Fails end part → Fails end whole
ends_whole ends.TooManyVisits part whole h f = h ends.TooManyVisits f
ends_whole ends.TooManyWords part whole h f = h ends.TooManyWords f
ends_whole ends.TooManyOps part whole h f = h ends.TooManyOps f
ends_whole ends.TooManyUnits part whole h f = h ends.TooManyUnits f
ends_whole ends.NoMemory part whole h f = tt

-- Limits ----------------------------------------------------------------------------------------------------------------

same_sums : {X : Type 0} (f g : X → ℕ) (xs : List X) → AllByRecursion (λ x. f x ≡ g x) xs → sum_by g xs ≡ sum_by f xs
same_sums f g [] h = refl
same_sums f g (x ∷ xs) h =
    let a = sum_by-cons f x xs in
    let b = sum_by-cons g x xs in
    let c = same_sums f g xs h.1 in
    let e = h.0 in
    omega (arith, a, b, c, e)

-- more visits than a plan may have
pub visits_many : (l : Layout) → has_too_many_visits l.parts ≡ true → plan_of l ≡ Err ends.TooManyVisits
unfolding plan_of
visits_many l h = stop (has_too_many_visits l.parts) ends.TooManyVisits _ h

module _ (l : Layout) (f : FitsLayout l) where
  abbrev after_ops : Result PlanView PlanEnd
  after_ops = if nat_lt 33554432 (unit_count l) then Err ends.TooManyUnits else Ok (plan_view l)

  abbrev after_words : Result PlanView PlanEnd
  after_words = if nat_lt 8192 (length (ops_of l)) then Err ends.TooManyOps else after_ops

  abbrev after_visits : Result PlanView PlanEnd
  after_visits = if nat_lt 16777216 (bound_sum l) then Err ends.TooManyWords else after_words

  visits_few : plan_of l ≡ after_visits
  unfolding plan_of
  visits_few = go_on (has_too_many_visits l.parts) ends.TooManyVisits after_visits (not_less visit_limit (visit_count l.parts) f.visits)

  -- too many words
  pub words_end : (end : PlanEnd) → bounds_within l ≡ Err end → plan_of l ≡ Err end
  words_end end h = visits_few ∙ broken (nat_lt 16777216 (bound_sum l)) ends.TooManyWords end (map (bound_of l) (below (nodes_of l.machine))) after_words h

  module _ (row : List ℕ) (b : bounds_within l ≡ Ok row) where
    words_kept : (nat_lt 16777216 (bound_sum l) ≡ false) × (row ≡ map (bound_of l) (below (nodes_of l.machine)))
    words_kept = kept (nat_lt 16777216 (bound_sum l)) ends.TooManyWords (map (bound_of l) (below (nodes_of l.machine))) row b

    pub bounds_are : row ≡ map (bound_of l) (below (nodes_of l.machine))
    bounds_are = words_kept.1

    words_few : plan_of l ≡ after_words
    words_few = visits_few ∙ go_on (nat_lt 16777216 (bound_sum l)) ends.TooManyWords after_words words_kept.0

    -- too many operations
    pub ops_end : (end : PlanEnd) → ops_within l ≡ Err end → plan_of l ≡ Err end
    ops_end end h = words_few ∙ broken (nat_lt 8192 (length (ops_of l))) ends.TooManyOps end (ops_of l) after_ops h

    module _ (ops : List Op) (o : ops_within l ≡ Ok ops) where
      ops_kept : (nat_lt 8192 (length (ops_of l)) ≡ false) × (ops ≡ ops_of l)
      ops_kept = kept (nat_lt 8192 (length (ops_of l))) ends.TooManyOps (ops_of l) ops o

      pub ops_listed : ops ≡ ops_of l
      ops_listed = ops_kept.1

      pub ops_few : length ops ≤ 8192
      ops_few = let e = ap (λ (r : List Op). length r) ops_listed in let m = ltb-false 8192 (length (ops_of l)) ops_kept.0 in omega (arith, e, m)

      listed_few : plan_of l ≡ after_ops
      listed_few = words_few ∙ go_on (nat_lt 8192 (length (ops_of l))) ends.TooManyOps after_ops ops_kept.0

      all_units : units_in ops ≡ unit_count l
      all_units = ap (λ (r : List Op). units_in r) ops_listed ∙ same_sums (units_of l) (λ (p : Op). p.units) (ops_of l) (ops_have_units l)

      -- too many units
      pub units_many : 33554432 < units_in ops → plan_of l ≡ Err ends.TooManyUnits
      units_many h = listed_few ∙ stop (nat_lt 33554432 (unit_count l)) ends.TooManyUnits (Ok (plan_view l)) (less 33554432 (unit_count l) (let e = all_units in omega (arith, e, h)))

      -- no number passes its limit
      pub all_within : units_in ops ≤ 33554432 → plan_of l ≡ Ok (plan_view l)
      all_within h = listed_few ∙ go_on (nat_lt 33554432 (unit_count l)) ends.TooManyUnits (Ok (plan_view l)) (not_less 33554432 (unit_count l) (let e = all_units in omega (arith, e, h)))

-- Plans -----------------------------------------------------------------------------------------------------------------

abbrev made : ℕ → List (List (List ℕ)) → List Op → List (List Touch) → List ℕ → List ℕ → Traffic → List Buffer → PlanView
made n homes ops touches segments bounds moves buffers = record { nodes = n; ops = ops; touches = touches; homes = homes; segments = segments; bounds = bounds; traffic = moves; buffers = buffers }

-- a listing with all that the plan has
pub listing_whole : (l : Layout) (s : Listing) → s.ops ≡ ops_of l → s.touches.items ≡ map (footprints_of l) (ops_of l) → s.segments.items ≡ map (λ (p : Part). p.segment) l.parts → s.bounds.items ≡ map (bound_of l) (below (nodes_of l.machine))
    → ◌≡◌ {A = Traffic} (record { local = s.moves.local; group = s.moves.group; across = s.moves.across }) (traffic_of l.machine (ops_of l)) → s.buffers.items ≡ buffers_of l → plan_with l s ≡ plan_view l
unfolding plan_view
listing_whole l s a b c d e f =
    ap (λ x. made (nodes_of l.machine) l.homes x s.touches.items s.segments.items s.bounds.items (record { local = s.moves.local; group = s.moves.group; across = s.moves.across }) s.buffers.items) a
    ∙ ap (λ x. made (nodes_of l.machine) l.homes (ops_of l) x s.segments.items s.bounds.items (record { local = s.moves.local; group = s.moves.group; across = s.moves.across }) s.buffers.items) b
    ∙ ap (λ x. made (nodes_of l.machine) l.homes (ops_of l) (map (footprints_of l) (ops_of l)) x s.bounds.items (record { local = s.moves.local; group = s.moves.group; across = s.moves.across }) s.buffers.items) c
    ∙ ap (λ x. made (nodes_of l.machine) l.homes (ops_of l) (map (footprints_of l) (ops_of l)) (map (λ (p : Part). p.segment) l.parts) x (record { local = s.moves.local; group = s.moves.group; across = s.moves.across }) s.buffers.items) d
    ∙ ap (λ x. made (nodes_of l.machine) l.homes (ops_of l) (map (footprints_of l) (ops_of l)) (map (λ (p : Part). p.segment) l.parts) (map (bound_of l) (below (nodes_of l.machine))) x s.buffers.items) e
    ∙ ap (λ x. made (nodes_of l.machine) l.homes (ops_of l) (map (footprints_of l) (ops_of l)) (map (λ (p : Part). p.segment) l.parts) (map (bound_of l) (below (nodes_of l.machine))) (traffic_of l.machine (ops_of l)) x) f

abbrev traffic : ℕ → ℕ → ℕ → Traffic
traffic a b c = record { local = a; group = b; across = c }

-- the traffic, number by number
pub same_traffic : (t : Traffic) (a b c : ℕ) → a ≡ t.local → b ≡ t.group → c ≡ t.across → ◌≡◌ {A = Traffic} (record { local = a; group = b; across = c }) t
same_traffic t a b c e f g = ap (λ x. traffic x b c) e ∙ ap (λ x. traffic t.local x c) f ∙ ap (λ x. traffic t.local t.group x) g

module _ (l : Layout) (h : HasHomes l) (f : FitsLayout l) where
  -- the plan of a layout is one
  view_stands : length (ops_of l) ≤ 8192 → IsPlan (plan_view l)
  unfolding plan_view
  view_stands few = record {
    nodes = (machine_facts l.machine h.machine).nodes;
    few = few;
    touches = length-map (ops_of l) (footprints_of l);
    bounds = so_many (bound_of l) (nodes_of l.machine);
    homes = h.nodes;
    segments =
        All-from_recursion (λ (o : Op). o.stmt < length (map (λ (p : Part). p.segment) l.parts)) (ops_of l)
        (all_map (IsOpOf l) (λ (o : Op). o.stmt < length (map (λ (p : Part). p.segment) l.parts)) (λ o i. (let a = i.stmt in let e = length-map l.parts (λ (p : Part). p.segment) in omega (arith, a, e))) (ops_of l) (ops_are l h f));
  }

  pub plan_stands : (v : PlanView) → plan_of l ≡ Ok v → IsPlan v
  plan_stands v e = words (nat_lt 16777216 (bound_sum l)) (sym (visits_few l f) ∙ e)
    where
      units : length (ops_of l) ≤ 8192 → (b : Bool) → ◌≡◌ {A = Result PlanView PlanEnd} (if b then Err ends.TooManyUnits else Ok (plan_view l)) (Ok v) → IsPlan v
      units few b q = subst IsPlan (sym (kept b ends.TooManyUnits (plan_view l) v q).1) (view_stands few)

      ops : (b : Bool) → nat_lt 8192 (length (ops_of l)) ≡ b → ◌≡◌ {A = Result PlanView PlanEnd} (if b then Err ends.TooManyOps else after_ops l f) (Ok v) → IsPlan v
      ops true t q = absurd (subst IsOk (sym q) tt)
      ops false t q = units (ltb-false 8192 (length (ops_of l)) t) (nat_lt 33554432 (unit_count l)) q

      words : (b : Bool) → ◌≡◌ {A = Result PlanView PlanEnd} (if b then Err ends.TooManyWords else after_words l f) (Ok v) → IsPlan v
      words true q = absurd (subst IsOk (sym q) tt)
      words false q = ops (nat_lt 8192 (length (ops_of l))) refl q

-- Parts -----------------------------------------------------------------------------------------------------------------

-- parts with no more visits than the limit fit a layout
parts_fit : (l : Layout) (parts : List Part) → AllByRecursion (λ (p : Part). IsLawful p.sched) parts → AllByRecursion (λ (p : Part). FitsStored l.stored p.sched) parts → visit_count parts ≤ visit_limit → AllByRecursion (FitsPart l) parts
parts_fit l [] a b c = tt
parts_fit l (p ∷ ps) a b c =
    let e = sum_by-cons (λ (q : Part). visits_bound q.sched.nest) p ps in
    (record { lawful = a.0; fits = b.0; visits = omega (arith, c, e) }, parts_fit l ps a.1 b.1 (omega (arith, c, e)))

pub layout_fits : (l : Layout) → AllByRecursion (λ (p : Part). IsLawful p.sched) l.parts → AllByRecursion (λ (p : Part). FitsStored l.stored p.sched) l.parts → has_too_many_visits l.parts ≡ false → FitsLayout l
layout_fits l a b c = let v : visit_count l.parts ≤ visit_limit = ltb-false visit_limit (visit_count l.parts) c in record { parts = parts_fit l l.parts a b v; visits = v }

-- Homes -----------------------------------------------------------------------------------------------------------------

-- each tensor has a home on each node
pub has_homes : (m : MachineView) (stored : List StoredTensor) (places : List Placement) (parts : List Part) → IsMachine m → length places ≡ length stored → length places < 2 ^ 32 → HasHomes (layout_of m stored places parts)
has_homes m stored places parts machine same few = record {
  machine = machine;
  count = (let e = many in omega (arith, e, same));
  few = (let e = many in omega (arith, e, few));
  nodes = all_made (λ (x : Placement × StoredTensor). Unit {0}) (λ (homes : List (List ℕ)). length homes ≡ nodes_of m) (λ (x : Placement × StoredTensor). homes_on x.0 m x.1) (λ x u. so_many_homes x) (zip places stored) (any (zip places stored));
}
  where
    many : length (map (λ (x : Placement × StoredTensor). homes_on x.0 m x.1) (zip places stored)) ≡ length places
    many = length-map (zip places stored) (λ (x : Placement × StoredTensor). homes_on x.0 m x.1) ∙ (let z = length-zip places stored in omega (arith, same, z))

    so_many_homes : (x : Placement × StoredTensor) → length (homes_on x.0 m x.1) ≡ nodes_of m
    so_many_homes x = length-map (below (nodes_of m)) (home_of x.0 m x.1) ∙ length-below (nodes_of m)

-- the same, where these are the homes
pub homes_there : (m : MachineView) (stored : List StoredTensor) (places : List Placement) (parts : List Part) (given : List (List (List ℕ))) → IsMachine m → length places ≡ length stored → length places < 2 ^ 32
    → given ≡ map (λ (x : Placement × StoredTensor). homes_on x.0 m x.1) (zip places stored) → HasHomes (record { machine = m; stored = stored; homes = given; parts = parts })
homes_there m stored places parts given machine same few e = subst (λ (homes : List (List (List ℕ))). HasHomes (record { machine = m; stored = stored; homes = homes; parts = parts })) (sym e) (has_homes m stored places parts machine same few)

-- a plan with its nodes and homes as they were found
pub with_nodes : (l : Layout) (s : Listing) (n : ℕ) (homes : List (List (List ℕ))) → n ≡ nodes_of l.machine → homes ≡ l.homes
    → ◌≡◌ {A = PlanView} (plan_with l s) (record { nodes = n; ops = s.ops; touches = s.touches.items; homes = homes; segments = s.segments.items; bounds = s.bounds.items; traffic = record { local = s.moves.local; group = s.moves.group; across = s.moves.across }; buffers = s.buffers.items })
with_nodes l s n homes e f =
    ap (λ (k : ℕ). made k l.homes s.ops s.touches.items s.segments.items s.bounds.items (record { local = s.moves.local; group = s.moves.group; across = s.moves.across }) s.buffers.items) (sym e)
    ∙ ap (λ (hs : List (List (List ℕ))). made n hs s.ops s.touches.items s.segments.items s.bounds.items (record { local = s.moves.local; group = s.moves.group; across = s.moves.across }) s.buffers.items) (sym f)
