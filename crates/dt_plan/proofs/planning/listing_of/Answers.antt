use Rattle.std.proofs.Common.{◌<◌, List, map, ap, sym, ◌∙◌, subst, arith}
use Rattle.std.specs.Prelude.{◌&&◌, not, length}
use Rattle.std.specs.List.{AllByRecursion}
use Rattle.dt_nest.proofs.Each.{all_map}
use Rattle.dt_place.specs.Machines.{nodes_of}
use Rattle.dt_plan.specs.declared.ops.Op.{Op}
use Rattle.dt_plan.specs.declared.parts.Part.{Part}
use Rattle.dt_plan.specs.Bounds.{is_local, positions_moved, shares_group, traffic_of}
use Rattle.dt_plan.specs.Footprints.{footprints_of}
use Rattle.dt_plan.specs.Layouts.{Layout}
use Rattle.dt_plan.specs.Operations.{ops_of}
use Rattle.dt_plan.specs.OpsOf.{IsOpOf}
use Rattle.dt_plan.specs.Statements.{HasHomes}
use Rattle.dt_plan.proofs.OpFacts.{ops_are}
use Rattle.dt_plan.proofs.Planned.{listing_whole, same_traffic}
use Rattle.dt_plan.proofs.planning.listing_of.Goals as goal

pub returns : goal.returns
returns g c =
    let l : Layout = c.args.layout.now in
    let ops = c.as_slice-2.ensures ∙ c.requires.ops in
    listing_whole l (record { ops = c.args.ops; touches = c.in_ok-touches.touches; segments = c.in_ok-segments.segments; bounds = c.args.bounds; moves = c.moves_of-moves.result; buffers = c.in_ok-buffers.buffers }) c.requires.ops
    (c.in_ok-touches.ensures ∙ ap (λ (r : List Op). map (footprints_of l) r) (c.as_slice.ensures ∙ c.requires.ops))
    (c.in_ok-segments.ensures ∙ ap (λ (x : Layout). map (λ (p : Part). p.segment) x.parts) c.layout.view_is) c.requires.bounds
    (same_traffic (traffic_of l.machine (ops_of l)) c.moves_of-moves.result.local c.moves_of-moves.result.group c.moves_of-moves.result.across
    (c.moves_of-moves.ensures.local ∙ ap (λ (r : List Op). positions_moved is_local r) ops)
    (c.moves_of-moves.ensures.group ∙ ap (λ (x : Layout). positions_moved (λ (o : Op). not (is_local o) && shares_group x.machine o) c.as_slice-2.result.now) c.layout.view_is
    ∙ ap (λ (r : List Op). positions_moved (λ (o : Op). not (is_local o) && shares_group l.machine o) r) ops)
    (c.moves_of-moves.ensures.across ∙ ap (λ (x : Layout). positions_moved (λ (o : Op). not (is_local o) && not (shares_group x.machine o)) c.as_slice-2.result.now) c.layout.view_is
    ∙ ap (λ (r : List Op). positions_moved (λ (o : Op). not (is_local o) && not (shares_group l.machine o)) r) ops))
    c.in_ok-buffers.ensures

pub all_footprints-requires-clause-ops : goal.all_footprints-requires-clause-ops
all_footprints-requires-clause-ops g c =
    subst (λ (r : List Op). AllByRecursion (IsOpOf c.args.layout.now) r) (sym (c.as_slice.ensures ∙ c.requires.ops)) (ops_are c.args.layout.now (subst HasHomes c.layout.view_is c.layout.invariant) c.requires.fits)

pub moves_of-moves-requires-clause-nodes : goal.moves_of-moves-requires-clause-nodes
moves_of-moves-requires-clause-nodes g c =
    let l : Layout = c.args.layout.now in
    subst (λ (x : Layout). AllByRecursion (λ (o : Op). (o.node < nodes_of x.machine) × (o.other < nodes_of x.machine)) c.as_slice-2.result.now) (sym c.layout.view_is)
    (subst (λ (r : List Op). AllByRecursion (λ (o : Op). (o.node < nodes_of l.machine) × (o.other < nodes_of l.machine)) r) (sym (c.as_slice-2.ensures ∙ c.requires.ops))
    (all_map (IsOpOf l) (λ (o : Op). (o.node < nodes_of l.machine) × (o.other < nodes_of l.machine)) (λ o i. (i.node, i.other)) (ops_of l) (ops_are l (subst HasHomes c.layout.view_is c.layout.invariant) c.requires.fits)))

pub moves_of-moves-requires-clause-few : goal.moves_of-moves-requires-clause-few
moves_of-moves-requires-clause-few g c =
    let few = c.requires.few in
    let same = ap (λ (r : List Op). length r) c.as_slice-2.ensures in
    omega (arith, few, same)
