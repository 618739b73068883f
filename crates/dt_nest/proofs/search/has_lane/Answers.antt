use Rattle.std.proofs.Common.{◌≡◌, ◌+◌, List, ℕ, true, false, sym, ap, ◌∙◌, subst}
use Rattle.std.specs.Prelude.{slice_set}
use Rattle.std.proofs.Math.ListN.{length-set}
use Rattle.std.specs.List.{list_any, range_with_len}
use Rattle.dt_nest.specs.Tree.{tree_of}
use Rattle.dt_nest.specs.Naming.{pairs_in}
use Rattle.dt_nest.specs.Visits.{is_valid}
use Rattle.dt_nest.specs.Search.{node_of}
use Rattle.dt_nest.proofs.Searches.{any_found, any_more, set_back}
use Rattle.dt_nest.proofs.search.has_lane.Goals as goal

pub returns-then-valid-clause-found : goal.returns-then-valid-clause-found
returns-then-valid-clause-found g c =
    sym (any_found (is_valid (g.T.Testing.tests c.args.route.now.tests.now) c.args.head.now.walk.now c.args.head.now.var (node_of (tree_of c.args.head.now.body.now)) (pairs_in c.args.route.now.naming.now) c.args.cursor.now.slots.items) c.loop-x.x c.args.extent c.loop-x-test.true
    (subst (λ (s : List ℕ). is_valid (g.T.Testing.tests c.args.route.now.tests.now) c.args.head.now.walk.now c.args.head.now.var (node_of (tree_of c.args.head.now.body.now)) (pairs_in c.args.route.now.naming.now) s c.loop-x.x ≡ true) c.loop-x.invariant.0 (sym c.is_lane-valid.ensures.valid ∙ c.if-valid.true)))

pub returns-then-valid-clause-slots : goal.returns-then-valid-clause-slots
returns-then-valid-clause-slots g c = ap (λ (s : List ℕ). slice_set s c.args.head.now.var 0) c.is_lane-valid.ensures.slots ∙ set_back _ _ _ _ c.loop-x.invariant.0 c.requires.zero

pub loop-x-preserved : goal.loop-x-preserved
loop-x-preserved g c =
    let back = ap (λ (s : List ℕ). slice_set s c.args.head.now.var 0) c.is_lane-valid.ensures.slots ∙ set_back c.loop-x.cursor.slots.items c.args.cursor.now.slots.items c.args.head.now.var c.loop-x.x c.loop-x.invariant.0 c.requires.zero in (
      back,
      subst (λ (s : List ℕ). list_any (is_valid (g.T.Testing.tests c.args.route.now.tests.now) c.args.head.now.walk.now c.args.head.now.var (node_of (tree_of c.args.head.now.body.now)) (pairs_in c.args.route.now.naming.now) s) (range_with_len 0 (c.loop-x.x + 1)) ≡ false) (c.loop-x.invariant.0 ∙ sym back)
          (any_more (is_valid (g.T.Testing.tests c.args.route.now.tests.now) c.args.head.now.walk.now c.args.head.now.var (node_of (tree_of c.args.head.now.body.now)) (pairs_in c.args.route.now.naming.now) c.loop-x.cursor.slots.items) c.loop-x.x c.loop-x.invariant.1 (sym c.is_lane-valid.ensures.valid ∙ c.if-valid.false)),
      (length-set c.is_lane-valid.new.cursor.slots.items c.args.head.now.var 0 ∙ c.is_lane-valid.ensures.size.0, c.is_lane-valid.ensures.size.1),
    )
