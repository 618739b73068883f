use Rattle.std.proofs.Common.{◌≡◌, ◌*◌, ◌≤◌, ◌<◌, ℕ, List, Bool, true, false, [], ◌∷◌, length, take, sym, ◌∙◌, ap, subst, arith, rules, nat_lt}
use Rattle.std.proofs.lemmas.Bool.{ltb-true, ltb-false}
use Rattle.std.proofs.lemmas.Nat.{mul-le}
use Rattle.dt_level.specs.Levels.{children_of}
use Rattle.dt_model.specs.Positions.{StoredTensor, IsStored}
use Rattle.dt_model.specs.Shape.{dims}
use Rattle.dt_model.proofs.ShapeFacts.{shape_facts}
use Rattle.dt_tensor.specs.Packed.{levels_with}
use Rattle.dt_tensor.proofs.Depths.{depth_is}
use Rattle.dt_tensor.proofs.PackFacts.{front_facts, fronts_asked, front_count, levels_match, cut_of}
use Rattle.dt_tensor.proofs.packing.front_levels.Goals as goal

pub size_behind-size-requires-clause-within : goal.size_behind-size-requires-clause-within
size_behind-size-requires-clause-within c =
    let order : c.args.shape.order ≤ length c.args.compressed = first_of (omega (arith, (shape_facts c.args.shape c.requires.shape).order), search rules) in
    omega (arith, c.requires.depth, (depth_is (take c.args.shape.order c.args.compressed)).within, levels_match c.args.shape c.args.compressed c.requires.shape order)

pub returns-then-is_over : goal.returns-then-is_over
returns-then-is_over c = λ entries given inside.
    let order : c.args.shape.order ≤ length c.args.compressed = first_of (omega (arith, (shape_facts c.args.shape c.requires.shape).order), search rules) in
    let facts = front_facts c.args.shape c.args.compressed c.args.depth c.size_behind-size.result c.in_ok-fronts.fronts.items c.args.numbers.items c.requires.shape order c.requires.depth c.requires.deep
    c.size_behind-size.ensures.size c.in_ok-fronts.ensures.ascending c.in_ok-fronts.ensures.fronts c.requires.within in
    let count = front_count (dims c.args.shape) (take c.args.shape.order c.args.compressed) c.args.depth c.size_behind-size.result c.in_ok-fronts.fronts.items facts c.requires.depth c.size_behind-size.ensures.size in
    let many = ltb-true 1048576 (length c.in_ok-fronts.fronts.items * c.size_behind-size.result) (ap (λ (l : List ℕ). nat_lt 1048576 (length l * c.size_behind-size.result)) (sym c.as_slice.ensures.value) ∙ sym c.is_over.ensures ∙ c.if-is_over.true) in
    subst (λ (t : StoredTensor). 1048576 < length t.coords) (fronts_asked c.args.shape c.args.compressed c.args.depth c.size_behind-size.result c.in_ok-fronts.fronts.items c.args.numbers.items c.requires.shape order c.requires.depth c.requires.deep
    c.size_behind-size.ensures.size c.in_ok-fronts.ensures.ascending c.in_ok-fronts.ensures.fronts entries facts given inside) (omega (arith, count, many))

pub level_of-requires-clause-few : goal.level_of-requires-clause-few
level_of-requires-clause-few c =
    let one : length c.in_ok-fronts.fronts.items * 1 ≤ length c.in_ok-fronts.fronts.items * c.size_behind-size.result = mul-le (length c.in_ok-fronts.fronts.items) 1 (length c.in_ok-fronts.fronts.items) c.size_behind-size.result (omega arith) c.size_behind-size.ensures.some in
    omega (arith, one, (ltb-false 1048576 (length c.in_ok-fronts.fronts.items * c.size_behind-size.result) (ap (λ (l : List ℕ). nat_lt 1048576 (length l * c.size_behind-size.result)) (sym c.as_slice.ensures.value) ∙ sym c.is_over.ensures ∙ c.if-is_over.false)))

pub new-requires-clause-cut : goal.new-requires-clause-cut
new-requires-clause-cut c =
    let order : c.args.shape.order ≤ length c.args.compressed = first_of (omega (arith, (shape_facts c.args.shape c.requires.shape).order), search rules) in
    let facts = front_facts c.args.shape c.args.compressed c.args.depth c.size_behind-size.result c.in_ok-fronts.fronts.items c.args.numbers.items c.requires.shape order c.requires.depth c.requires.deep
    c.size_behind-size.ensures.size c.in_ok-fronts.ensures.ascending c.in_ok-fronts.ensures.fronts c.requires.within in
    cut_of (dims c.args.shape) (take c.args.shape.order c.args.compressed) c.args.depth c.size_behind-size.result c.in_ok-fronts.fronts.items c.in_ok-level.level facts c.requires.depth c.size_behind-size.ensures.size c.in_ok-fronts.ensures.ascending
    (ltb-false 1048576 (length c.in_ok-fronts.fronts.items * c.size_behind-size.result) (ap (λ (l : List ℕ). nat_lt 1048576 (length l * c.size_behind-size.result)) (sym c.as_slice.ensures.value) ∙ sym c.is_over.ensures ∙ c.if-is_over.false)) c.in_ok-level.ensures

pub returns : goal.returns
returns c = λ entries given inside.
    let order : c.args.shape.order ≤ length c.args.compressed = first_of (omega (arith, (shape_facts c.args.shape c.requires.shape).order), search rules) in
    let facts = front_facts c.args.shape c.args.compressed c.args.depth c.size_behind-size.result c.in_ok-fronts.fronts.items c.args.numbers.items c.requires.shape order c.requires.depth c.requires.deep
    c.size_behind-size.ensures.size c.in_ok-fronts.ensures.ascending c.in_ok-fronts.ensures.fronts c.requires.within in
    let count = front_count (dims c.args.shape) (take c.args.shape.order c.args.compressed) c.args.depth c.size_behind-size.result c.in_ok-fronts.fronts.items facts c.requires.depth c.size_behind-size.ensures.size in
    let few = ltb-false 1048576 (length c.in_ok-fronts.fronts.items * c.size_behind-size.result) (ap (λ (l : List ℕ). nat_lt 1048576 (length l * c.size_behind-size.result)) (sym c.as_slice.ensures.value) ∙ sym c.is_over.ensures ∙ c.if-is_over.false) in
    let asked = fronts_asked c.args.shape c.args.compressed c.args.depth c.size_behind-size.result c.in_ok-fronts.fronts.items c.args.numbers.items c.requires.shape order c.requires.depth c.requires.deep
    c.size_behind-size.ensures.size c.in_ok-fronts.ensures.ascending c.in_ok-fronts.ensures.fronts entries facts given inside in (
      c.packed.ensures ∙ c.new.ensures ∙ ap (λ (l : List (List ℕ)). levels_with (dims c.args.shape) (take c.args.shape.order c.args.compressed) (children_of l 0)) c.in_ok-level.ensures ∙ asked,
      subst IsStored asked facts.stored,
      subst (λ (t : StoredTensor). length t.coords ≤ 1048576) asked (omega (arith, count, few)),
    )
