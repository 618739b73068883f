use Rattle.std.proofs.Common.{◌≡◌, ◌%◌, ◌^◌, List, ap, sym, ◌∙◌}
use Rattle.dt_model.specs.Stmts.{shapes_of}
use Rattle.dt_model.specs.WholeTensor.{WholeTensor}
use Rattle.dt_nest.specs.Effects.{visit_sum}
use Rattle.dt_nest.specs.Visits.{environments}
use Rattle.dt_nest.specs.Tree.{tree_of}
use Rattle.dt_nest.specs.Branch.{leaf_tree}
use Rattle.dt_nest.specs.World.{entries_of, world_of}
use Rattle.dt_nest.specs.Point.{visit_of}
use Rattle.dt_nest.proofs.PointFacts.{on_visit}
use Rattle.dt_run.proofs.LeafReads.{always_readable, short_reads}
use Rattle.dt_run.proofs.VisitSteps.{visit_effect}
use Rattle.dt_run.proofs.visiting.add_visit.Goals as goal

pub visit_number-number-requires-clause-short : goal.visit_number-number-requires-clause-short
visit_number-number-requires-clause-short g c =
    let t : tree_of c.leaf.result.now ≡ leaf_tree (visit_of c.args.visits.now).leaf = on_visit (λ visit. tree_of c.leaf.result.now ≡ leaf_tree visit.leaf) c.args.visits.now.last c.leaf.ensures.leaf in
    let l : c.in-Leaf.terms ≡ (visit_of c.args.visits.now).leaf.terms = (let e = sym (ap tree_of c.in-Leaf.is) ∙ t in cc) in
    short_reads (shapes_of c.args.tensors.now.items) c.args.visits.now.sched (visit_of c.args.visits.now).leaf c.as_slice-in-Leaf.result.now (c.as_slice-in-Leaf.ensures ∙ l) c.requires.over

pub visit_number-number-requires-clause-there : goal.visit_number-number-requires-clause-there
visit_number-number-requires-clause-there g c =
    always_readable c.as_slice-in-Leaf.result.now (environments (world_of c.args.visits.now.stored c.args.visits.now.sched) c.args.visits.now.sched.derived (visit_of c.args.visits.now))

pub returns-in-Leaf-clause-entries : goal.returns-in-Leaf-clause-entries
returns-in-Leaf-clause-entries g c =
    let t : tree_of c.leaf.result.now ≡ leaf_tree (visit_of c.args.visits.now).leaf = on_visit (λ visit. tree_of c.leaf.result.now ≡ leaf_tree visit.leaf) c.args.visits.now.last c.leaf.ensures.leaf in
    let l : c.in-Leaf.lhs ≡ (visit_of c.args.visits.now).leaf.lhs = (let e = sym (ap tree_of c.in-Leaf.is) ∙ t in cc) in
    visit_effect c.args.visits.now (entries_of c.args.tensors.now.items) (entries_of c.add_number.new.tensors.items) c.in-Leaf.lhs c.visit_number-number.result l
    (c.visit_number-number.ensures.number
    ∙ ap (λ (ts : List WholeTensor). visit_sum (world_of c.args.visits.now.stored c.args.visits.now.sched) c.args.visits.now.sched.derived (entries_of ts) (visit_of c.args.visits.now) % 2 ^ 64) c.as_slice.ensures.value)
    c.add_number.ensures.entries
