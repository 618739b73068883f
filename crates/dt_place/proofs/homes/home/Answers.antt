use Rattle.std.proofs.Common.{◌≡◌, List, ℕ, length, subst, ap, ◌∙◌, arith}
use Rattle.std.specs.Result.{IfOk}
use Rattle.dt_model.specs.Positions.{tensor_at}
use Rattle.dt_place.proofs.HomeFacts.{first_node-all, first_node-none, symbols-count}
use Rattle.dt_place.specs.declared.placements.Symbol.{Symbol}
use Rattle.dt_place.proofs.homes.home.Goals as goal

pub by_names-requires-clause-symbols : goal.by_names-requires-clause-symbols
by_names-requires-clause-symbols g c = ap (λ (l : List Symbol). length l) c.as_slice.ensures ∙ symbols-count c.args.placement.now c.args.machine.now c.in-ByNames.symbols c.in-ByNames.is c.requires.placement

pub returns-then-node-eq0 : goal.returns-then-node-eq0
returns-then-node-eq0 g c =
    subst (λ (l : List ℕ). IfOk c.between.result (λ runs. runs ≡ l))
    (first_node-all c.args.placement.now c.args.machine.now (tensor_at (g.L.Locator.tensors c.args.loc.now) c.args.tensor) c.args.node c.count-count.result c.in-FirstNode.is c.if-node-eq0.true c.count-count.ensures) c.between.ensures

pub returns-else-node-eq0 : goal.returns-else-node-eq0
returns-else-node-eq0 g c =
    c.empty.ensures ∙ first_node-none c.args.placement.now c.args.machine.now (tensor_at (g.L.Locator.tensors c.args.loc.now) c.args.tensor) c.args.node c.in-FirstNode.is (λ e. absurd (omega arith))
