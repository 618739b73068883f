use Rattle.std.proofs.Common.{ℕ, ◌∷◌, [], ◌++◌, List, ap, sym, ◌∙◌, subst, arith, take}
use Rattle.std.specs.Prelude.{◌-◌, max, slice_index, slice_set}
use Rattle.std.specs.List.{flat_map}
use Rattle.dt_plan.specs.Brackets.{paths_from}
use Rattle.dt_plan.specs.Layouts.{node_of}
use Rattle.dt_plan.specs.NodeWords.{Raises, capped, opened_on}
use Rattle.dt_plan.specs.Statements.{outline_at}
use Rattle.dt_plan.proofs.NodeRows.{rises_none, rises_one, rises_then}
use Rattle.dt_plan.proofs.OpenedRows.{raised_all}
use Rattle.dt_plan.proofs.PathFacts.{flat_step}
use Rattle.dt_plan.proofs.bounds.+raise_below.Goals as goal

pub returns-then-rest-eq0 : goal.returns-then-rest-eq0
returns-then-rest-eq0 g t c =
    let within = c.node_of-node.ensures.within in
    let many = c.requires.row in
    subst (λ (k : ℕ). Raises (λ p. capped (opened_on c.args.statement.now.layout c.args.statement.now.part.sched c.args.opened p)) (node_of c.args.statement.now.layout.machine c.args.statement.now.part.sched) (paths_from (outline_at c.args.statement.now) k c.args.path.now) c.args.row.now.items c.raise.new.row.items)
    (sym c.if-rest-eq0.true)
    (rises_one (λ p. capped (opened_on c.args.statement.now.layout c.args.statement.now.part.sched c.args.opened p)) (node_of c.args.statement.now.layout.machine c.args.statement.now.part.sched) c.args.path.now c.args.row.now.items c.raise.new.row.items (capped c.in_ok-words.words)
    (let same = c.node_of-node.ensures.node in omega (arith, within, many, same))
    (ap capped c.in_ok-words.ensures)
    (c.raise.ensures ∙ ap (λ (k : ℕ). slice_set c.args.row.now.items k (max (slice_index c.args.row.now.items k) (capped c.in_ok-words.words))) c.node_of-node.ensures.node))

pub loop-value-init : goal.loop-value-init
loop-value-init g t c =
    rises_none (λ p. capped (opened_on c.args.statement.now.layout c.args.statement.now.part.sched c.args.opened p)) (node_of c.args.statement.now.layout.machine c.args.statement.now.part.sched) c.args.row.now.items

pub loop-value-preserved : goal.loop-value-preserved
loop-value-preserved g t c =
    subst (λ (ps : List (List ℕ)). Raises (λ p. capped (opened_on c.args.statement.now.layout c.args.statement.now.part.sched c.args.opened p)) (node_of c.args.statement.now.layout.machine c.args.statement.now.part.sched) ps c.args.row.now.items c.raise_below.new.row.items)
    (sym (flat_step (λ (i : ℕ). paths_from (outline_at c.args.statement.now) (c.args.rest - 1) (c.args.path.now ++ (i ∷ []))) c.as_slice-value-items.result.now c.loop-value.value-index 0 c.loop-value-test.true))
    (rises_then (λ p. capped (opened_on c.args.statement.now.layout c.args.statement.now.part.sched c.args.opened p)) (node_of c.args.statement.now.layout.machine c.args.statement.now.part.sched)
    (flat_map (λ (i : ℕ). paths_from (outline_at c.args.statement.now) (c.args.rest - 1) (c.args.path.now ++ (i ∷ []))) (take c.loop-value.value-index c.as_slice-value-items.result.now)) _
    c.args.row.now.items c.loop-value.row.items c.raise_below.new.row.items c.loop-value.invariant
    (subst (λ (q : List ℕ). Raises (λ p. capped (opened_on c.args.statement.now.layout c.args.statement.now.part.sched c.args.opened p)) (node_of c.args.statement.now.layout.machine c.args.statement.now.part.sched) (paths_from (outline_at c.args.statement.now) (c.args.rest - 1) q) c.loop-value.row.items c.raise_below.new.row.items)
    (c.as_slice.ensures.value ∙ c.in_ok-longer.ensures) c.in_ok-raise_below.ensures))

pub returns : goal.returns
returns g t c =
    raised_all (λ p. capped (opened_on c.args.statement.now.layout c.args.statement.now.part.sched c.args.opened p)) (node_of c.args.statement.now.layout.machine c.args.statement.now.part.sched) (outline_at c.args.statement.now) c.args.rest c.args.path.now
    c.as_slice-value-items.result.now c.loop-value.value-index c.args.row.now.items c.loop-value.row.items c.if-rest-eq0.false (c.as_slice-value-items.ensures.value ∙ c.in_ok-values.ensures.values)
    (omega (arith, c.loop-value-test.false, c.loop-value.auto.value-index-end)) c.loop-value.invariant
