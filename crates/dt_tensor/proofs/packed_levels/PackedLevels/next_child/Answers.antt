use Rattle.std.proofs.Common.{◌≡◌, ℕ, ◌+◌, ◌-◌, ◌*◌, ◌/◌, ◌<◌, ◌≤◌, ◌∙◌, List, Option, Some, None, [], length, get_or, take, drop, refl, ap, sym, subst, arith, true, false, is_some}
use Rattle.dt_level.specs.Levels.{children_of}
use Rattle.dt_model.specs.Positions.{StoredTensor}
use Rattle.dt_tensor.proofs.PackedFacts.{NextFacts, next_facts, RangeBounds, range_bounds}
use Rattle.dt_tensor.proofs.packed_levels.PackedLevels.next_child.Goals as goal

pub returns-then-from-extent : goal.returns-then-from-extent
returns-then-from-extent c = (subst (λ (t : StoredTensor). NextFacts t c.args.prefix.now (children_of c.self.inside.fronts 0) (get_or c.self.inside.compressed (length c.args.prefix.now) false) (get_or c.dims.result.now (length c.args.prefix.now) 0)) c.self.view_is
    (next_facts c.self.inside.shape c.self.inside.compressed c.self.inside.depth c.self.inside.size c.self.inside.fronts c.args.prefix.now (get_or c.self.inside.compressed (length c.args.prefix.now) false) (get_or c.dims.result.now (length c.args.prefix.now) 0) c.self.invariant.0 c.self.invariant.1
    (subst (λ (t : StoredTensor). length c.args.prefix.now < length t.extents) (sym c.self.view_is) c.requires) refl (ap (λ (ms : List ℕ). get_or ms (length c.args.prefix.now) 0) c.dims.ensures))).past c.args.from c.if-from-extent.true

pub returns-then-has_prefix : goal.returns-then-has_prefix
returns-then-has_prefix c = (subst (λ (t : StoredTensor). NextFacts t c.args.prefix.now (children_of c.self.inside.fronts 0) (get_or c.self.inside.compressed (length c.args.prefix.now) false) (get_or c.dims.result.now (length c.args.prefix.now) 0)) c.self.view_is
    (next_facts c.self.inside.shape c.self.inside.compressed c.self.inside.depth c.self.inside.size c.self.inside.fronts c.args.prefix.now (get_or c.self.inside.compressed (length c.args.prefix.now) false) (get_or c.dims.result.now (length c.args.prefix.now) 0) c.self.invariant.0 c.self.invariant.1
    (subst (λ (t : StoredTensor). length c.args.prefix.now < length t.extents) (sym c.self.view_is) c.requires) refl (ap (λ (ms : List ℕ). get_or ms (length c.args.prefix.now) 0) c.dims.ensures))).dense c.args.from c.if-not-self-level.true c.if-from-extent.false (sym c.has_prefix.ensures ∙ c.if-has_prefix.true)

pub returns-else-has_prefix : goal.returns-else-has_prefix
returns-else-has_prefix c = (subst (λ (t : StoredTensor). NextFacts t c.args.prefix.now (children_of c.self.inside.fronts 0) (get_or c.self.inside.compressed (length c.args.prefix.now) false) (get_or c.dims.result.now (length c.args.prefix.now) 0)) c.self.view_is
    (next_facts c.self.inside.shape c.self.inside.compressed c.self.inside.depth c.self.inside.size c.self.inside.fronts c.args.prefix.now (get_or c.self.inside.compressed (length c.args.prefix.now) false) (get_or c.dims.result.now (length c.args.prefix.now) 0) c.self.invariant.0 c.self.invariant.1
    (subst (λ (t : StoredTensor). length c.args.prefix.now < length t.extents) (sym c.self.view_is) c.requires) refl (ap (λ (ms : List ℕ). get_or ms (length c.args.prefix.now) 0) c.dims.ensures))).unstored c.args.from c.if-not-self-level.true (sym c.has_prefix.ensures ∙ c.if-has_prefix.false)

pub level_size-size-requires : goal.level_size-size-requires
level_size-size-requires c = (subst (λ (t : StoredTensor). NextFacts t c.args.prefix.now (children_of c.self.inside.fronts 0) (get_or c.self.inside.compressed (length c.args.prefix.now) false) (get_or c.dims.result.now (length c.args.prefix.now) 0)) c.self.view_is
    (next_facts c.self.inside.shape c.self.inside.compressed c.self.inside.depth c.self.inside.size c.self.inside.fronts c.args.prefix.now (get_or c.self.inside.compressed (length c.args.prefix.now) false) (get_or c.dims.result.now (length c.args.prefix.now) 0) c.self.invariant.0 c.self.invariant.1
    (subst (λ (t : StoredTensor). length c.args.prefix.now < length t.extents) (sym c.self.view_is) c.requires) refl (ap (λ (ms : List ℕ). get_or ms (length c.args.prefix.now) 0) c.dims.ensures))).deep c.if-not-self-level.false

pub returns-in-None : goal.returns-in-None
returns-in-None c = (subst (λ (t : StoredTensor). NextFacts t c.args.prefix.now (children_of c.self.inside.fronts 0) (get_or c.self.inside.compressed (length c.args.prefix.now) false) (get_or c.dims.result.now (length c.args.prefix.now) 0)) c.self.view_is
    (next_facts c.self.inside.shape c.self.inside.compressed c.self.inside.depth c.self.inside.size c.self.inside.fronts c.args.prefix.now (get_or c.self.inside.compressed (length c.args.prefix.now) false) (get_or c.dims.result.now (length c.args.prefix.now) 0) c.self.invariant.0 c.self.invariant.1
    (subst (λ (t : StoredTensor). length c.args.prefix.now < length t.extents) (sym c.self.view_is) c.requires) refl (ap (λ (ms : List ℕ). get_or ms (length c.args.prefix.now) 0) c.dims.ensures))).outside c.args.from (sym c.prefix_number.ensures ∙ c.in-None.is)

pub nonzero_div-result : goal.nonzero_div-result
nonzero_div-result c = (subst (λ (t : StoredTensor). NextFacts t c.args.prefix.now (children_of c.self.inside.fronts 0) (get_or c.self.inside.compressed (length c.args.prefix.now) false) (get_or c.dims.result.now (length c.args.prefix.now) 0)) c.self.view_is
    (next_facts c.self.inside.shape c.self.inside.compressed c.self.inside.depth c.self.inside.size c.self.inside.fronts c.args.prefix.now (get_or c.self.inside.compressed (length c.args.prefix.now) false) (get_or c.dims.result.now (length c.args.prefix.now) 0) c.self.invariant.0 c.self.invariant.1
    (subst (λ (t : StoredTensor). length c.args.prefix.now < length t.extents) (sym c.self.view_is) c.requires) refl (ap (λ (ms : List ℕ). get_or ms (length c.args.prefix.now) 0) c.dims.ensures))).positive c.level_size-size.result c.level_size-size.ensures

pub overflow_mul-first : goal.overflow_mul-first
overflow_mul-first c = omega (
  arith,
  (let h = (subst (λ (t : StoredTensor). NextFacts t c.args.prefix.now (children_of c.self.inside.fronts 0) (get_or c.self.inside.compressed (length c.args.prefix.now) false) (get_or c.dims.result.now (length c.args.prefix.now) 0)) c.self.view_is
      (next_facts c.self.inside.shape c.self.inside.compressed c.self.inside.depth c.self.inside.size c.self.inside.fronts c.args.prefix.now (get_or c.self.inside.compressed (length c.args.prefix.now) false) (get_or c.dims.result.now (length c.args.prefix.now) 0) c.self.invariant.0 c.self.invariant.1
      (subst (λ (t : StoredTensor). length c.args.prefix.now < length t.extents) (sym c.self.view_is) c.requires) refl (ap (λ (ms : List ℕ). get_or ms (length c.args.prefix.now) 0) c.dims.ensures))) in
      range_bounds c.in-Some.number (get_or c.dims.result.now (length c.args.prefix.now) 0) c.level_size-size.result c.args.from (h.bound c.in-Some.number c.level_size-size.result c.if-not-self-level.false (sym c.prefix_number.ensures ∙ c.in-Some.is) c.level_size-size.ensures) (h.positive c.level_size-size.result c.level_size-size.ensures) c.if-from-extent.false).row,
)

pub overflow_add-first : goal.overflow_add-first
overflow_add-first c = omega (
  arith,
  (let h = (subst (λ (t : StoredTensor). NextFacts t c.args.prefix.now (children_of c.self.inside.fronts 0) (get_or c.self.inside.compressed (length c.args.prefix.now) false) (get_or c.dims.result.now (length c.args.prefix.now) 0)) c.self.view_is
      (next_facts c.self.inside.shape c.self.inside.compressed c.self.inside.depth c.self.inside.size c.self.inside.fronts c.args.prefix.now (get_or c.self.inside.compressed (length c.args.prefix.now) false) (get_or c.dims.result.now (length c.args.prefix.now) 0) c.self.invariant.0 c.self.invariant.1
      (subst (λ (t : StoredTensor). length c.args.prefix.now < length t.extents) (sym c.self.view_is) c.requires) refl (ap (λ (ms : List ℕ). get_or ms (length c.args.prefix.now) 0) c.dims.ensures))) in
      range_bounds c.in-Some.number (get_or c.dims.result.now (length c.args.prefix.now) 0) c.level_size-size.result c.args.from (h.bound c.in-Some.number c.level_size-size.result c.if-not-self-level.false (sym c.prefix_number.ensures ∙ c.in-Some.is) c.level_size-size.ensures) (h.positive c.level_size-size.result c.level_size-size.ensures) c.if-from-extent.false).first,
)

pub overflow_mul-first-in-Some : goal.overflow_mul-first-in-Some
overflow_mul-first-in-Some c = omega (
  arith,
  (let h = (subst (λ (t : StoredTensor). NextFacts t c.args.prefix.now (children_of c.self.inside.fronts 0) (get_or c.self.inside.compressed (length c.args.prefix.now) false) (get_or c.dims.result.now (length c.args.prefix.now) 0)) c.self.view_is
      (next_facts c.self.inside.shape c.self.inside.compressed c.self.inside.depth c.self.inside.size c.self.inside.fronts c.args.prefix.now (get_or c.self.inside.compressed (length c.args.prefix.now) false) (get_or c.dims.result.now (length c.args.prefix.now) 0) c.self.invariant.0 c.self.invariant.1
      (subst (λ (t : StoredTensor). length c.args.prefix.now < length t.extents) (sym c.self.view_is) c.requires) refl (ap (λ (ms : List ℕ). get_or ms (length c.args.prefix.now) 0) c.dims.ensures))) in
      range_bounds c.in-Some.number (get_or c.dims.result.now (length c.args.prefix.now) 0) c.level_size-size.result c.args.from (h.bound c.in-Some.number c.level_size-size.result c.if-not-self-level.false (sym c.prefix_number.ensures ∙ c.in-Some.is) c.level_size-size.ensures) (h.positive c.level_size-size.result c.level_size-size.ensures) c.if-from-extent.false).start,
)

pub overflow_add-end : goal.overflow_add-end
overflow_add-end c = omega (
  arith,
  (let h = (subst (λ (t : StoredTensor). NextFacts t c.args.prefix.now (children_of c.self.inside.fronts 0) (get_or c.self.inside.compressed (length c.args.prefix.now) false) (get_or c.dims.result.now (length c.args.prefix.now) 0)) c.self.view_is
      (next_facts c.self.inside.shape c.self.inside.compressed c.self.inside.depth c.self.inside.size c.self.inside.fronts c.args.prefix.now (get_or c.self.inside.compressed (length c.args.prefix.now) false) (get_or c.dims.result.now (length c.args.prefix.now) 0) c.self.invariant.0 c.self.invariant.1
      (subst (λ (t : StoredTensor). length c.args.prefix.now < length t.extents) (sym c.self.view_is) c.requires) refl (ap (λ (ms : List ℕ). get_or ms (length c.args.prefix.now) 0) c.dims.ensures))) in
      range_bounds c.in-Some.number (get_or c.dims.result.now (length c.args.prefix.now) 0) c.level_size-size.result c.args.from (h.bound c.in-Some.number c.level_size-size.result c.if-not-self-level.false (sym c.prefix_number.ensures ∙ c.in-Some.is) c.level_size-size.ensures) (h.positive c.level_size-size.result c.level_size-size.ensures) c.if-from-extent.false).next,
)

pub overflow_mul-end : goal.overflow_mul-end
overflow_mul-end c = omega (
  arith,
  (let h = (subst (λ (t : StoredTensor). NextFacts t c.args.prefix.now (children_of c.self.inside.fronts 0) (get_or c.self.inside.compressed (length c.args.prefix.now) false) (get_or c.dims.result.now (length c.args.prefix.now) 0)) c.self.view_is
      (next_facts c.self.inside.shape c.self.inside.compressed c.self.inside.depth c.self.inside.size c.self.inside.fronts c.args.prefix.now (get_or c.self.inside.compressed (length c.args.prefix.now) false) (get_or c.dims.result.now (length c.args.prefix.now) 0) c.self.invariant.0 c.self.invariant.1
      (subst (λ (t : StoredTensor). length c.args.prefix.now < length t.extents) (sym c.self.view_is) c.requires) refl (ap (λ (ms : List ℕ). get_or ms (length c.args.prefix.now) 0) c.dims.ensures))) in
      range_bounds c.in-Some.number (get_or c.dims.result.now (length c.args.prefix.now) 0) c.level_size-size.result c.args.from (h.bound c.in-Some.number c.level_size-size.result c.if-not-self-level.false (sym c.prefix_number.ensures ∙ c.in-Some.is) c.level_size-size.ensures) (h.positive c.level_size-size.result c.level_size-size.ensures) c.if-from-extent.false).rows,
)

pub overflow_mul-end-in-Some : goal.overflow_mul-end-in-Some
overflow_mul-end-in-Some c = omega (
  arith,
  (let h = (subst (λ (t : StoredTensor). NextFacts t c.args.prefix.now (children_of c.self.inside.fronts 0) (get_or c.self.inside.compressed (length c.args.prefix.now) false) (get_or c.dims.result.now (length c.args.prefix.now) 0)) c.self.view_is
      (next_facts c.self.inside.shape c.self.inside.compressed c.self.inside.depth c.self.inside.size c.self.inside.fronts c.args.prefix.now (get_or c.self.inside.compressed (length c.args.prefix.now) false) (get_or c.dims.result.now (length c.args.prefix.now) 0) c.self.invariant.0 c.self.invariant.1
      (subst (λ (t : StoredTensor). length c.args.prefix.now < length t.extents) (sym c.self.view_is) c.requires) refl (ap (λ (ms : List ℕ). get_or ms (length c.args.prefix.now) 0) c.dims.ensures))) in
      range_bounds c.in-Some.number (get_or c.dims.result.now (length c.args.prefix.now) 0) c.level_size-size.result c.args.from (h.bound c.in-Some.number c.level_size-size.result c.if-not-self-level.false (sym c.prefix_number.ensures ∙ c.in-Some.is) c.level_size-size.ensures) (h.positive c.level_size-size.result c.level_size-size.ensures) c.if-from-extent.false).end,
)

pub overflow_mul-result : goal.overflow_mul-result
overflow_mul-result c = omega (
  arith,
  (let h = (subst (λ (t : StoredTensor). NextFacts t c.args.prefix.now (children_of c.self.inside.fronts 0) (get_or c.self.inside.compressed (length c.args.prefix.now) false) (get_or c.dims.result.now (length c.args.prefix.now) 0)) c.self.view_is
      (next_facts c.self.inside.shape c.self.inside.compressed c.self.inside.depth c.self.inside.size c.self.inside.fronts c.args.prefix.now (get_or c.self.inside.compressed (length c.args.prefix.now) false) (get_or c.dims.result.now (length c.args.prefix.now) 0) c.self.invariant.0 c.self.invariant.1
      (subst (λ (t : StoredTensor). length c.args.prefix.now < length t.extents) (sym c.self.view_is) c.requires) refl (ap (λ (ms : List ℕ). get_or ms (length c.args.prefix.now) 0) c.dims.ensures))) in
      range_bounds c.in-Some.number (get_or c.dims.result.now (length c.args.prefix.now) 0) c.level_size-size.result c.args.from (h.bound c.in-Some.number c.level_size-size.result c.if-not-self-level.false (sym c.prefix_number.ensures ∙ c.in-Some.is) c.level_size-size.ensures) (h.positive c.level_size-size.result c.level_size-size.ensures) c.if-from-extent.false).row,
)

pub overflow_sub-result : goal.overflow_sub-result
overflow_sub-result c = ((subst (λ (t : StoredTensor). NextFacts t c.args.prefix.now (children_of c.self.inside.fronts 0) (get_or c.self.inside.compressed (length c.args.prefix.now) false) (get_or c.dims.result.now (length c.args.prefix.now) 0)) c.self.view_is
    (next_facts c.self.inside.shape c.self.inside.compressed c.self.inside.depth c.self.inside.size c.self.inside.fronts c.args.prefix.now (get_or c.self.inside.compressed (length c.args.prefix.now) false) (get_or c.dims.result.now (length c.args.prefix.now) 0) c.self.invariant.0 c.self.invariant.1
    (subst (λ (t : StoredTensor). length c.args.prefix.now < length t.extents) (sym c.self.view_is) c.requires) refl (ap (λ (ms : List ℕ). get_or ms (length c.args.prefix.now) 0) c.dims.ensures))).found c.args.from c.in-Some.number c.level_size-size.result c.in-Some-front_within.front c.if-not-self-level.false (sym c.prefix_number.ensures ∙ c.in-Some.is) c.level_size-size.ensures (sym c.front_within.ensures ∙ c.in-Some-front_within.is)).0

pub returns-in-None-front_within : goal.returns-in-None-front_within
returns-in-None-front_within c =
    (subst (λ (t : StoredTensor). NextFacts t c.args.prefix.now (children_of c.self.inside.fronts 0) (get_or c.self.inside.compressed (length c.args.prefix.now) false) (get_or c.dims.result.now (length c.args.prefix.now) 0)) c.self.view_is
    (next_facts c.self.inside.shape c.self.inside.compressed c.self.inside.depth c.self.inside.size c.self.inside.fronts c.args.prefix.now (get_or c.self.inside.compressed (length c.args.prefix.now) false) (get_or c.dims.result.now (length c.args.prefix.now) 0) c.self.invariant.0 c.self.invariant.1
    (subst (λ (t : StoredTensor). length c.args.prefix.now < length t.extents) (sym c.self.view_is) c.requires) refl (ap (λ (ms : List ℕ). get_or ms (length c.args.prefix.now) 0) c.dims.ensures))).none c.args.from c.in-Some.number c.level_size-size.result c.if-not-self-level.false (sym c.prefix_number.ensures ∙ c.in-Some.is) c.level_size-size.ensures (sym c.front_within.ensures ∙ c.in-None-front_within.is)

pub returns-in-Some-front_within : goal.returns-in-Some-front_within
returns-in-Some-front_within c = ((subst (λ (t : StoredTensor). NextFacts t c.args.prefix.now (children_of c.self.inside.fronts 0) (get_or c.self.inside.compressed (length c.args.prefix.now) false) (get_or c.dims.result.now (length c.args.prefix.now) 0)) c.self.view_is
    (next_facts c.self.inside.shape c.self.inside.compressed c.self.inside.depth c.self.inside.size c.self.inside.fronts c.args.prefix.now (get_or c.self.inside.compressed (length c.args.prefix.now) false) (get_or c.dims.result.now (length c.args.prefix.now) 0) c.self.invariant.0 c.self.invariant.1
    (subst (λ (t : StoredTensor). length c.args.prefix.now < length t.extents) (sym c.self.view_is) c.requires) refl (ap (λ (ms : List ℕ). get_or ms (length c.args.prefix.now) 0) c.dims.ensures))).found c.args.from c.in-Some.number c.level_size-size.result c.in-Some-front_within.front c.if-not-self-level.false (sym c.prefix_number.ensures ∙ c.in-Some.is) c.level_size-size.ensures (sym c.front_within.ensures ∙ c.in-Some-front_within.is)).1
