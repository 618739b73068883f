use Rattle.std.proofs.Common.{◌≡◌, ◌<◌, ◌/◌, ◌∙◌, ◌++◌, ◌∷◌, [], ℕ, List, length, get_or, map, take, ap, sym, subst, arith}
use Rattle.std.proofs.lemmas.List.{take_all, take_more, map-append}
use Rattle.std.specs.List.Sorted.{IsSorted}
use Rattle.std.specs.Ordering.{nat_cmp}
use Rattle.dt_runs.specs.Sets.{contains}
use Rattle.dt_tensor.proofs.GivenFronts.{divided_by_one, quotients_rise}
use Rattle.dt_tensor.proofs.packing.fronts_of.Goals as goal

pub returns-then-size-eq1-clause-fronts : goal.returns-then-size-eq1-clause-fronts
returns-then-size-eq1-clause-fronts c = λ f.
    ap (λ (l : List ℕ). contains l f) (divided_by_one c.args.numbers.items ∙ ap (λ (s : ℕ). map (λ n. n / s) c.args.numbers.items) (sym c.if-size-eq1.true))

pub loop-number-init : goal.loop-number-init
loop-number-init c = c.new-fronts.ensures.items

pub loop-number-preserved : goal.loop-number-preserved
loop-number-preserved c =
    let same = c.as_slice-number-items.ensures.value in
    let room : c.loop-number.number-index < length c.args.numbers.items = omega (arith, ap length same) in
    c.in_ok-push.ensures.items ∙ ap (λ (l : List ℕ). l ++ (get_or c.as_slice-number-items.result.now c.loop-number.number-index 0 / c.args.size) ∷ []) c.loop-number.invariant
    ∙ ap (λ (l : List ℕ). map (λ n. n / c.args.size) (take c.loop-number.number-index c.args.numbers.items) ++ (get_or l c.loop-number.number-index 0 / c.args.size) ∷ []) same
    ∙ sym (map-append (λ n. n / c.args.size) (take c.loop-number.number-index c.args.numbers.items) (get_or c.args.numbers.items c.loop-number.number-index 0 ∷ []))
    ∙ ap (λ (l : List ℕ). map (λ n. n / c.args.size) l) (sym (take_more c.args.numbers.items c.loop-number.number-index 0 room))

pub once-requires : goal.once-requires
once-requires c =
    let same = c.as_slice-number-items.ensures.value in
    subst (λ (l : List ℕ). IsSorted nat_cmp l)
    (sym (c.loop-number.invariant ∙ ap (λ (l : List ℕ). map (λ n. n / c.args.size) l) (take_all c.loop-number.number-index c.args.numbers.items (omega (arith, ap length same)))))
    (quotients_rise c.args.numbers.items c.args.size c.requires.some c.requires.numbers)

pub returns-clause-fronts : goal.returns-clause-fronts
returns-clause-fronts c = λ f.
    let same = c.as_slice-number-items.ensures.value in
    c.once.ensures.same f
    ∙ ap (λ (l : List ℕ). contains l f) (c.loop-number.invariant ∙ ap (λ (l : List ℕ). map (λ n. n / c.args.size) l) (take_all c.loop-number.number-index c.args.numbers.items (omega (arith, ap length same))))
