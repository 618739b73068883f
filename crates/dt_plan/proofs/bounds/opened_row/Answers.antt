use Rattle.std.proofs.Common.{ℕ, [], ap, ◌∙◌, sym, subst}
use Rattle.dt_place.specs.Machines.{nodes_of}
use Rattle.dt_plan.specs.Brackets.{paths_from}
use Rattle.dt_plan.specs.Layouts.{node_of}
use Rattle.dt_plan.specs.NodeWords.{Raises, capped, opened_on, row_of}
use Rattle.dt_plan.specs.Statements.{outline_at}
use Rattle.dt_plan.proofs.OpenedRows.{none_opened, all_opened}
use Rattle.dt_plan.proofs.SegmentRows.{row_many}
use Rattle.dt_plan.proofs.bounds.opened_row.Goals as goal

pub returns-then-not-is_visited : goal.returns-then-not-is_visited
returns-then-not-is_visited g c =
    none_opened c.args.statement.now c.in_ok-is_visited.ensures.homes c.in_ok-is_visited.ensures.part c.args.opened c.requires c.in_ok-row.row.items (sym c.in_ok-is_visited.ensures.some ∙ c.if-not-is_visited.true)
    (c.in_ok-row.ensures ∙ ap (λ (k : ℕ). row_of k (λ n. 0)) c.nodes.ensures)

pub returns : goal.returns
returns g c =
    all_opened c.args.statement.now c.in_ok-is_visited.ensures.homes c.in_ok-is_visited.ensures.part c.args.opened c.requires c.in_ok-row.row.items c.raise_below.new.row.items (sym c.in_ok-is_visited.ensures.some ∙ c.if-not-is_visited.false)
    (c.in_ok-row.ensures ∙ ap (λ (k : ℕ). row_of k (λ n. 0)) c.nodes.ensures)
    (subst (λ (k : ℕ). Raises (λ p. capped (opened_on c.args.statement.now.layout c.args.statement.now.part.sched c.args.opened p)) (node_of c.args.statement.now.layout.machine c.args.statement.now.part.sched) (paths_from (outline_at c.args.statement.now) k []) c.in_ok-row.row.items c.raise_below.new.row.items)
    c.opened_depth-depth.ensures c.in_ok-raise_below.ensures)

pub raise_below-requires-clause-row : goal.raise_below-requires-clause-row
raise_below-requires-clause-row g c = row_many (nodes_of c.args.statement.now.layout.machine) (λ n. 0) c.in_ok-row.row.items (c.in_ok-row.ensures ∙ ap (λ (k : ℕ). row_of k (λ n. 0)) c.nodes.ensures)
