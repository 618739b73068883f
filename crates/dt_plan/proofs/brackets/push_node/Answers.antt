use Rattle.std.proofs.Common.{ℕ, List, ap, sym, ◌∙◌, subst}
use Rattle.std.specs.Prelude.{filter, nat_eq}
use Rattle.std.specs.List.{flat_map, list_any}
use Rattle.std.proofs.lemmas.Result.{on_ok_weaker}
use Rattle.dt_plan.specs.Brackets.{block}
use Rattle.dt_plan.specs.Keeps.{Keeps}
use Rattle.dt_plan.proofs.BlockSteps.{node_empty, node_kept}
use Rattle.dt_plan.proofs.brackets.push_node.Goals as goal

pub returns-then-not-is_busy : goal.returns-then-not-is_busy
returns-then-not-is_busy g c =
    let m = g.O.Outlined.outline c.args.nest.now in
    node_empty m c.args.node c.args.ops.now (sym (c.is_busy.ensures ∙ ap (list_any (λ p. nat_eq (m.node p) c.args.node)) c.requires.paths) ∙ c.if-not-is_busy.true)

pub returns : goal.returns
returns g c =
    let m = g.O.Outlined.outline c.args.nest.now in
    on_ok_weaker c.append-2.result
    (λ e. node_kept m c.args.node c.args.ops.now c.in_ok-around.around.opened c.in_ok-around.around.closed c.append.new.self c.push_paths.new.ops c.append-2.new.self
    (sym (c.is_busy.ensures ∙ ap (list_any (λ p. nat_eq (m.node p) c.args.node)) c.requires.paths) ∙ c.if-not-is_busy.false)
    c.in_ok-around.ensures.opened c.in_ok-around.ensures.closed c.in_ok-append.ensures
    (subst (λ (ps : List (List ℕ)). Keeps c.append.new.self (flat_map (block m m.inner) (filter (λ p. nat_eq (m.node p) c.args.node) ps)) c.push_paths.new.ops) c.requires.paths c.in_ok-push_paths.ensures) e)
    c.append-2.ensures
