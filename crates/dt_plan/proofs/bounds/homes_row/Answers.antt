use Rattle.std.proofs.Common.{◌≡◌, ℕ, ap, ◌∙◌, arith}
use Rattle.dt_place.specs.Machines.{nodes_of}
use Rattle.dt_plan.specs.Bounds.{home_words}
use Rattle.dt_plan.specs.Layouts.{Layout}
use Rattle.dt_plan.specs.NodeWords.{row_of}
use Rattle.dt_plan.proofs.bounds.homes_row.Goals as goal

pub home_words-requires : goal.home_words-requires
home_words-requires g c =
    let same = ap (λ (l : Layout). nodes_of l.machine) c.layout.view_is in
    let count = c.nodes-nodes.ensures.count in
    let test = c.loop-node-test.true in
    omega (arith, same, count, test)

pub returns : goal.returns
returns g c =
    let same = ap (λ (l : Layout). nodes_of l.machine) c.layout.view_is in
    let count = c.nodes-nodes.ensures.count in
    let test = c.loop-node-test.false in
    let end = c.loop-node.auto.node-end in
    let all : c.loop-node.node ≡ nodes_of c.args.layout.now.machine = omega (arith, same, count, test, end) in
    c.loop-node.invariant ∙ ap (λ (k : ℕ). row_of k (home_words c.args.layout.now)) all
