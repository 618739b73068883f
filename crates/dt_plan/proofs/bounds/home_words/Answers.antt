use Rattle.std.proofs.Common.{◌≡◌, ℕ, ◌<◌, ◌*◌, [], List, length, ap, ◌∙◌, refl, arith}
use Rattle.std.specs.Prelude.{slice_index_or}
use Rattle.dt_nest.proofs.Each.{all_get}
use Rattle.dt_model.specs.Positions.{cost_of, tensor_at}
use Rattle.dt_place.specs.Machines.{nodes_of}
use Rattle.dt_copy.specs.Sources.{home_at}
use Rattle.dt_plan.specs.Layouts.{Layout, homes_at}
use Rattle.dt_plan.proofs.OpenedRows.{homes_more}
use Rattle.dt_plan.proofs.StatementFacts.{home_found}
use Rattle.dt_plan.proofs.bounds.home_words.Goals as goal

pub loop-tensor-preserved : goal.loop-tensor-preserved
loop-tensor-preserved g c =
    let many = all_get (λ (h : List (List ℕ)). length h ≡ nodes_of c.layout.inside.machine.now) c.layout.inside.homes.now c.loop-tensor.tensor c.homes-item.result c.layout.invariant.nodes c.loop-tensor-test.true in
    let found = ap (λ (h : List (List ℕ)). length h) c.homes-item.is in
    let slice = ap (λ (h : List (List ℕ)). length h) c.as_slice.ensures in
    let same = ap (λ (l : Layout). nodes_of l.machine) c.layout.view_is in
    let node = c.requires in
    let inside : c.args.node < length c.as_slice.result.now = omega (arith, many, found, slice, same, node) in
    let home : c.index-as_slice-node.result ≡ home_at (homes_at c.args.layout.now c.loop-tensor.tensor) c.args.node =
    home_found c.layout.inside.homes.now c.loop-tensor.tensor c.args.node c.as_slice.result.now c.homes-item.result c.index-as_slice-node.result c.index-as_slice-node.result (cc (c.as_slice.ensures, c.homes-item.is)) c.index-as_slice-node.is
    c.loop-tensor-test.true inside
    ∙ ap (λ (l : Layout). home_at (slice_index_or l.homes c.loop-tensor.tensor []) c.args.node) c.layout.view_is in
    let is = ap (λ (ws : List ℕ). length ws) c.index-as_slice-node.is in
    let wide = ap (λ (ws : List ℕ). length ws) home in
    let counted = c.count.ensures in
    let count = c.from-in-loop-tensor.ensures in
    let costs = c.cost-cost.ensures in
    let cost = c.from.ensures in
    let stored = ap (λ (l : Layout). cost_of (tensor_at l.stored c.loop-tensor.tensor)) c.layout.view_is in
    homes_more (λ (u : ℕ). cost_of (tensor_at c.args.layout.now.stored u) * length (home_at (homes_at c.args.layout.now u) c.args.node)) c.loop-tensor.tensor c.loop-tensor.words c.from.result c.from-in-loop-tensor.result
    (cost_of (tensor_at c.args.layout.now.stored c.loop-tensor.tensor)) (length (home_at (homes_at c.args.layout.now c.loop-tensor.tensor) c.args.node)) c.capped-words.result c.loop-tensor.invariant (omega (arith, costs, cost, stored))
    (omega (arith, is, wide, counted, count)) refl c.capped-words.ensures.words
