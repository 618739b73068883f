use Rattle.std.proofs.Common.{◌≡◌, ℕ, ◌+◌, ◌-◌, ◌*◌, ◌/◌, ◌<◌, ◌≤◌, ◌∙◌, List, Option, Some, None, [], length, get_or, take, drop, ap, sym, subst, arith, true, is_some}
use Rattle.dt_base.specs.Rows.{product, row_major}
use Rattle.dt_level.specs.Levels.{children_of}
use Rattle.dt_model.specs.Positions.{StoredTensor, is_stored_prefix, next_child_of}
use Rattle.dt_model.specs.Shape.{dims, are_extents}
use Rattle.dt_tensor.specs.Packed.{depth_of}
use Rattle.std.proofs.lemmas.Nat.{mul-le}
use Rattle.dt_tensor.proofs.PackedFacts.{HasFacts, has_facts}
use Rattle.dt_tensor.proofs.packed_levels.PackedLevels.has_prefix.Goals as goal

pub returns-then-depth-eq0 : goal.returns-then-depth-eq0
returns-then-depth-eq0 c = (subst (λ (t : StoredTensor). HasFacts t c.args.c.now c.depth_of-depth.result (children_of c.self.inside.fronts 0)) c.self.view_is
    (has_facts c.self.inside.shape c.self.inside.compressed c.self.inside.depth c.self.inside.size c.self.inside.fronts c.args.c.now c.dims.result.now c.depth_of-depth.result c.self.invariant.0 c.self.invariant.1 c.dims.ensures (sym c.are_below.ensures ∙ c.if-not-are_below.false) c.depth_of-depth.ensures)).zero c.if-depth-eq0.true

pub slice_bounds-prefix_number-end : goal.slice_bounds-prefix_number-end
slice_bounds-prefix_number-end c = (subst (λ (t : StoredTensor). HasFacts t c.args.c.now c.depth_of-depth.result (children_of c.self.inside.fronts 0)) c.self.view_is
    (has_facts c.self.inside.shape c.self.inside.compressed c.self.inside.depth c.self.inside.size c.self.inside.fronts c.args.c.now c.dims.result.now c.depth_of-depth.result c.self.invariant.0 c.self.invariant.1 c.dims.ensures (sym c.are_below.ensures ∙ c.if-not-are_below.false) c.depth_of-depth.ensures)).within

pub prefix_number-requires : goal.prefix_number-requires
prefix_number-requires c = (subst (λ (t : StoredTensor). HasFacts t c.args.c.now c.depth_of-depth.result (children_of c.self.inside.fronts 0)) c.self.view_is
    (has_facts c.self.inside.shape c.self.inside.compressed c.self.inside.depth c.self.inside.size c.self.inside.fronts c.args.c.now c.dims.result.now c.depth_of-depth.result c.self.invariant.0 c.self.invariant.1 c.dims.ensures (sym c.are_below.ensures ∙ c.if-not-are_below.false) c.depth_of-depth.ensures)).fits

pub level_size-size-requires : goal.level_size-size-requires
level_size-size-requires c = (subst (λ (t : StoredTensor). HasFacts t c.args.c.now c.depth_of-depth.result (children_of c.self.inside.fronts 0)) c.self.view_is
    (has_facts c.self.inside.shape c.self.inside.compressed c.self.inside.depth c.self.inside.size c.self.inside.fronts c.args.c.now c.dims.result.now c.depth_of-depth.result c.self.invariant.0 c.self.invariant.1 c.dims.ensures (sym c.are_below.ensures ∙ c.if-not-are_below.false) c.depth_of-depth.ensures)).deep

pub overflow_mul-number : goal.overflow_mul-number
overflow_mul-number c =
    let b = (subst (λ (t : StoredTensor). HasFacts t c.args.c.now c.depth_of-depth.result (children_of c.self.inside.fronts 0)) c.self.view_is
    (has_facts c.self.inside.shape c.self.inside.compressed c.self.inside.depth c.self.inside.size c.self.inside.fronts c.args.c.now c.dims.result.now c.depth_of-depth.result c.self.invariant.0 c.self.invariant.1 c.dims.ensures (sym c.are_below.ensures ∙ c.if-not-are_below.false) c.depth_of-depth.ensures)).bound c.prefix_number.result c.in-Some.number c.level_size-size.result c.prefix_number.ensures c.in-Some.is c.level_size-size.ensures in
    let more : (c.in-Some.number + 1) * c.level_size-size.result ≡ c.in-Some.number * c.level_size-size.result + c.level_size-size.result = omega arith in
    omega (arith, b, more)

pub overflow_add-number : goal.overflow_add-number
overflow_add-number c =
    let h = (subst (λ (t : StoredTensor). HasFacts t c.args.c.now c.depth_of-depth.result (children_of c.self.inside.fronts 0)) c.self.view_is
    (has_facts c.self.inside.shape c.self.inside.compressed c.self.inside.depth c.self.inside.size c.self.inside.fronts c.args.c.now c.dims.result.now c.depth_of-depth.result c.self.invariant.0 c.self.invariant.1 c.dims.ensures (sym c.are_below.ensures ∙ c.if-not-are_below.false) c.depth_of-depth.ensures)) in
    let b = h.bound c.prefix_number.result c.in-Some.number c.level_size-size.result c.prefix_number.ensures c.in-Some.is c.level_size-size.ensures in
    let one : (c.in-Some.number + 1) * 1 ≤ (c.in-Some.number + 1) * c.level_size-size.result = mul-le (c.in-Some.number + 1) 1 (c.in-Some.number + 1) c.level_size-size.result (omega arith) (h.positive c.level_size-size.result c.level_size-size.ensures) in
    omega (arith, b, one)

pub overflow_mul-number-in-Some : goal.overflow_mul-number-in-Some
overflow_mul-number-in-Some c =
    let b = (subst (λ (t : StoredTensor). HasFacts t c.args.c.now c.depth_of-depth.result (children_of c.self.inside.fronts 0)) c.self.view_is
    (has_facts c.self.inside.shape c.self.inside.compressed c.self.inside.depth c.self.inside.size c.self.inside.fronts c.args.c.now c.dims.result.now c.depth_of-depth.result c.self.invariant.0 c.self.invariant.1 c.dims.ensures (sym c.are_below.ensures ∙ c.if-not-are_below.false) c.depth_of-depth.ensures)).bound c.prefix_number.result c.in-Some.number c.level_size-size.result c.prefix_number.ensures c.in-Some.is c.level_size-size.ensures in
    omega (arith, b)

pub returns-in-None : goal.returns-in-None
returns-in-None c = absurd ((subst (λ (t : StoredTensor). HasFacts t c.args.c.now c.depth_of-depth.result (children_of c.self.inside.fronts 0)) c.self.view_is
    (has_facts c.self.inside.shape c.self.inside.compressed c.self.inside.depth c.self.inside.size c.self.inside.fronts c.args.c.now c.dims.result.now c.depth_of-depth.result c.self.invariant.0 c.self.invariant.1 c.dims.ensures (sym c.are_below.ensures ∙ c.if-not-are_below.false) c.depth_of-depth.ensures)).number c.prefix_number.result c.prefix_number.ensures c.in-None.is)

pub returns-in-Some : goal.returns-in-Some
returns-in-Some c =
    c.is_some.ensures ∙ ap (λ (r : Option ℕ). is_some r) c.front_within.ensures
    ∙ (subst (λ (t : StoredTensor). HasFacts t c.args.c.now c.depth_of-depth.result (children_of c.self.inside.fronts 0)) c.self.view_is
    (has_facts c.self.inside.shape c.self.inside.compressed c.self.inside.depth c.self.inside.size c.self.inside.fronts c.args.c.now c.dims.result.now c.depth_of-depth.result c.self.invariant.0 c.self.invariant.1 c.dims.ensures (sym c.are_below.ensures ∙ c.if-not-are_below.false) c.depth_of-depth.ensures)).answer c.prefix_number.result c.in-Some.number c.level_size-size.result c.if-depth-eq0.false c.prefix_number.ensures c.in-Some.is c.level_size-size.ensures
