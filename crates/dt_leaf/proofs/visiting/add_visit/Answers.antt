use Rattle.std.proofs.Common.{◌≡◌, ℕ, Option, None, length, take, map, sym, ap, ◌∙◌}
use Rattle.dt_nest.specs.Tree.{tree_of}
use Rattle.dt_nest.specs.Branch.{leaf_tree}
use Rattle.dt_nest.specs.Point.{visit_of, env_at}
use Rattle.dt_nest.specs.Unit.{added_by, written_by}
use Rattle.dt_nest.proofs.PointFacts.{on_visit}
use Rattle.dt_leaf.specs.NodeWords.{cells_in}
use Rattle.dt_leaf.proofs.Writes.{adds_number, reads_there, unit_done, writes_held, writes_word}
use Rattle.dt_leaf.proofs.visiting.add_visit.Goals as goal

pub visit_number-number-requires-clause-there : goal.visit_number-number-requires-clause-there
visit_number-number-requires-clause-there g c =
    let t : tree_of c.leaf.result.now ≡ leaf_tree (visit_of c.args.at.now).leaf = on_visit (λ visit. tree_of c.leaf.result.now ≡ leaf_tree visit.leaf) c.args.at.now.last c.leaf.ensures.leaf in
    let l : c.in-Leaf.terms ≡ (visit_of c.args.at.now).leaf.terms = (let e = sym (ap tree_of c.in-Leaf.is) ∙ t in cc) in
    reads_there (g.L.Locator.tensors c.args.loc.now) c.args.sched.now (cells_in c.args.mem.now c.args.slots.now) c.args.at.now c.requires.over c.as_slice.result.now (c.as_slice.ensures ∙ l) c.requires.can

pub add_at-requires-clause-held : goal.add_at-requires-clause-held
add_at-requires-clause-held g c =
    let t : tree_of c.leaf.result.now ≡ leaf_tree (visit_of c.args.at.now).leaf = on_visit (λ visit. tree_of c.leaf.result.now ≡ leaf_tree visit.leaf) c.args.at.now.last c.leaf.ensures.leaf in
    let l : c.in-Leaf.lhs ≡ (visit_of c.args.at.now).leaf.lhs = (let e = sym (ap tree_of c.in-Leaf.is) ∙ t in cc) in
    let at : take (length c.as_slice-vars.result.now) c.coordinates-coords.result ≡ map (env_at c.args.at.now None) c.in-Leaf.lhs.vars =
    c.coordinates-coords.ensures.values ∙ ap (λ (o : Option ℕ). map (env_at c.args.at.now o) c.as_slice-vars.result.now) c.point.ensures.lane ∙ ap (map (env_at c.args.at.now None)) c.as_slice-vars.ensures in
    let word : c.word_at-word.result ≡ written_by (g.L.Locator.tensors c.args.loc.now) c.args.sched.now (visit_of c.args.at.now) =
    writes_word (g.L.Locator.tensors c.args.loc.now) c.args.sched.now (cells_in c.args.mem.now c.args.slots.now) c.args.at.now c.requires.over c.in-Leaf.lhs (take (length c.as_slice-vars.result.now) c.coordinates-coords.result) c.word_at-word.result l at c.word_at-word.ensures in
    writes_held (g.L.Locator.tensors c.args.loc.now) c.args.sched.now (cells_in c.args.mem.now c.args.slots.now) c.args.at.now c.requires.over c.in-Leaf.lhs c.word_at-word.result l word c.requires.can

pub returns-in-Leaf-clause-cells : goal.returns-in-Leaf-clause-cells
returns-in-Leaf-clause-cells g c =
    let t : tree_of c.leaf.result.now ≡ leaf_tree (visit_of c.args.at.now).leaf = on_visit (λ visit. tree_of c.leaf.result.now ≡ leaf_tree visit.leaf) c.args.at.now.last c.leaf.ensures.leaf in
    let l : c.in-Leaf.lhs ≡ (visit_of c.args.at.now).leaf.lhs = (let e = sym (ap tree_of c.in-Leaf.is) ∙ t in cc) in
    let at : take (length c.as_slice-vars.result.now) c.coordinates-coords.result ≡ map (env_at c.args.at.now None) c.in-Leaf.lhs.vars =
    c.coordinates-coords.ensures.values ∙ ap (λ (o : Option ℕ). map (env_at c.args.at.now o) c.as_slice-vars.result.now) c.point.ensures.lane ∙ ap (map (env_at c.args.at.now None)) c.as_slice-vars.ensures in
    let word : c.word_at-word.result ≡ written_by (g.L.Locator.tensors c.args.loc.now) c.args.sched.now (visit_of c.args.at.now) =
    writes_word (g.L.Locator.tensors c.args.loc.now) c.args.sched.now (cells_in c.args.mem.now c.args.slots.now) c.args.at.now c.requires.over c.in-Leaf.lhs (take (length c.as_slice-vars.result.now) c.coordinates-coords.result) c.word_at-word.result l at c.word_at-word.ensures in
    unit_done (g.L.Locator.tensors c.args.loc.now) c.args.sched.now (cells_in c.args.mem.now c.args.slots.now) c.args.at.now c.requires.over c.in-Leaf.lhs c.word_at-word.result (cells_in c.add_at.new.mem c.args.slots.now) l word
    (c.add_at.ensures.cells (added_by (g.L.Locator.tensors c.args.loc.now) c.args.sched.now (cells_in c.args.mem.now c.args.slots.now) (visit_of c.args.at.now))
    (adds_number (g.L.Locator.tensors c.args.loc.now) c.args.sched.now (cells_in c.args.mem.now c.args.slots.now) c.args.at.now c.requires.over c.visit_number-number.result c.visit_number-number.ensures.number))
