use Rattle.std.proofs.Common.{◌≡◌, ℕ, ◌<◌, ◌++◌, List, [], ◌∷◌, ap, sym, ◌∙◌, length, map, get_or, take, arith}
use Rattle.std.proofs.lemmas.List.{length-map}
use Rattle.dt_base.specs.Ranges.{below}
use Rattle.dt_base.proofs.Ranges.{length-below}
use Rattle.dt_tracker.specs.Tracks.{followers_in}
use Rattle.dt_tracker.proofs.Made.{rows_more}
use Rattle.dt_tracker.proofs.rows.rows_of.Goals as goal

pub index_mut-requires : goal.index_mut-requires
index_mut-requires c =
    let near = c.requires c.loop-i.i (0, 0) c.loop-i-test.true in
    let all = ap length c.loop-i.invariant ∙ length-map (below c.args.count) (followers_in (take c.loop-i.i c.args.events.now)) ∙ length-below c.args.count in
    omega (arith, near, all, c.loop-i.rows.ok.0)

pub loop-i-preserved : goal.loop-i-preserved
loop-i-preserved c =
    let near = c.requires c.loop-i.i (0, 0) c.loop-i-test.true in
    rows_more c.args.events.now c.args.count c.loop-i.i c.loop-i.rows.items c.index_mut.result.now c.push.new.self.items c.loop-i-test.true near c.loop-i.invariant c.index_mut.ensures.value
    (c.in_ok-push.ensures.items ∙ ap (λ (xs : List ℕ). xs ++ (get_or c.args.events.now c.loop-i.i (0, 0)).1 ∷ []) c.behind-rows.view_is)
