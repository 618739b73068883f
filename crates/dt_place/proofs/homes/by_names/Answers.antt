use Rattle.std.proofs.Common.{◌≡◌, List, ℕ, length, take, subst, ap, sym, ◌∙◌}
use Rattle.std.specs.Result.{IfOk}
use Rattle.dt_model.specs.Positions.{StoredTensor, tensor_at}
use Rattle.dt_runs.specs.Boxes.{AreCorners, box_numbers}
use Rattle.dt_place.specs.Homes.{home_of, sides_of}
use Rattle.dt_place.specs.Machines.{dims_of, node_coords}
use Rattle.dt_place.specs.declared.placements.Placement.TheVariants.{ByNames}
use Rattle.dt_place.specs.declared.sides.Side.{Side}
use Rattle.dt_place.proofs.DenseHomes.{dense-inside, highs, lows, sides-corners}
use Rattle.dt_place.proofs.HomeFacts.{home_of-allowed, home_of-refused}
use Rattle.dt_place.proofs.homes.by_names.Goals as goal

pub returns-then-not-all_allow : goal.returns-then-not-all_allow
returns-then-not-all_allow g c =
    let at : take (length c.dims-dims.result.now) c.coords-all.result ≡ node_coords c.args.machine.now c.args.node = ap (λ (l : List ℕ). take (length l) c.coords-all.result) c.dims-dims.ensures.dims ∙ c.coords-all.ensures.coords in
    c.empty.ensures ∙ home_of-refused c.args.symbols.now c.args.machine.now (tensor_at (g.L.Locator.tensors c.args.loc.now) c.args.tensor) c.args.node
    (take (length c.dims-dims.result.now) c.coords-all.result) at (sym c.all_allow.ensures ∙ c.if-not-all_allow.true)

pub boxed-requires-clause-corners : goal.boxed-requires-clause-corners
boxed-requires-clause-corners g c =
    let t : StoredTensor = tensor_at (g.L.Locator.tensors c.args.loc.now) c.args.tensor in
    let ys = c.args.symbols.now in
    let qs : List ℕ = take (length c.dims-dims.result.now) c.coords-all.result in
    let whole : c.as_slice.result.now ≡ sides_of t.extents ys (dims_of c.args.machine.now) qs =
    c.as_slice.ensures.value ∙ c.in_ok-sides.ensures ∙ ap (λ (l : List ℕ). sides_of l ys c.dims-dims.result.now qs) (c.dims.ensures ∙ c.shape-shape.ensures.dims)
    ∙ ap (λ (l : List ℕ). sides_of t.extents ys l qs) c.dims-dims.ensures.dims in
    let corners : AreCorners t.extents (lows c.as_slice.result.now) (highs c.as_slice.result.now) =
    subst (λ (ss : List Side). AreCorners t.extents (lows ss) (highs ss)) (sym whole) (sides-corners t.extents ys (dims_of c.args.machine.now) qs) in
    subst (λ (l : List ℕ). AreCorners l (lows c.as_slice.result.now) (highs c.as_slice.result.now)) (sym (c.dims-then-cost-eq1.ensures ∙ c.shape-shape.ensures.dims)) corners

pub returns-then-cost-eq1 : goal.returns-then-cost-eq1
returns-then-cost-eq1 g c =
    let t : StoredTensor = tensor_at (g.L.Locator.tensors c.args.loc.now) c.args.tensor in
    let m = c.args.machine.now in
    let ys = c.args.symbols.now in
    let qs : List ℕ = take (length c.dims-dims.result.now) c.coords-all.result in
    let at : qs ≡ node_coords m c.args.node = ap (λ (l : List ℕ). take (length l) c.coords-all.result) c.dims-dims.ensures.dims ∙ c.coords-all.ensures.coords in
    let whole : c.as_slice.result.now ≡ sides_of t.extents ys (dims_of m) qs =
    c.as_slice.ensures.value ∙ c.in_ok-sides.ensures ∙ ap (λ (l : List ℕ). sides_of l ys c.dims-dims.result.now qs) (c.dims.ensures ∙ c.shape-shape.ensures.dims)
    ∙ ap (λ (l : List ℕ). sides_of t.extents ys l qs) c.dims-dims.ensures.dims in
    let same : box_numbers c.dims-then-cost-eq1.result.now (lows c.as_slice.result.now) (highs c.as_slice.result.now) ≡ home_of (ByNames ys) m t c.args.node =
    ap (λ (l : List ℕ). box_numbers l (lows c.as_slice.result.now) (highs c.as_slice.result.now)) (c.dims-then-cost-eq1.ensures ∙ c.shape-shape.ensures.dims)
    ∙ ap (λ (ss : List Side). box_numbers t.extents (lows ss) (highs ss)) whole
    ∙ dense-inside t (sides_of t.extents ys (dims_of m) qs) c.shape-shape.ensures.stored (sym c.cost.ensures ∙ c.if-cost-eq1.true) (sides-corners t.extents ys (dims_of m) qs)
    ∙ home_of-allowed ys m t c.args.node qs at (sym c.all_allow.ensures ∙ c.if-not-all_allow.false) in
    subst (λ (l : List ℕ). IfOk c.boxed.result (λ runs. runs ≡ l)) same c.boxed.ensures
