use Rattle.std.proofs.Common.{ℕ, List, ◌<◌, sym, ap, subst, arith, length}
use Rattle.std.specs.List.{All}
use Rattle.std.proofs.Math.ListN.{length-append}
use Rattle.dt_runs.specs.Intervals.{range, numbers_of, EndsBy}
use Rattle.dt_runs.proofs.RangeLemmas.{length-range}
use Rattle.dt_runs.proofs.IntervalLemmas.{ends_by, few_numbers, EndsBy-weaker}
use Rattle.dt_runs.proofs.runs.Runs.push_range.Goals as goal

pub push_interval-requires-clause-behind : goal.push_interval-requires-clause-behind
push_interval-requires-clause-behind c =
    ends_by 0 _ _ c.self.invariant.0 (subst (λ (xs : List ℕ). All (λ x. x < c.args.first) xs) (sym c.self.view_is) c.requires.behind)

pub overflow_add-self : goal.overflow_add-self
overflow_add-self c =
    let ends : EndsBy c.args.first c.self.inside.intervals.items =
    ends_by 0 _ _ c.self.invariant.0 (subst (λ (xs : List ℕ). All (λ x. x < c.args.first) xs) (sym c.self.view_is) c.requires.behind) in
    omega (arith, few_numbers 0 c.args.first c.self.inside.intervals.items (omega arith) c.self.invariant.0 ends)

pub invariant_of-self-2 : goal.invariant_of-self-2
invariant_of-self-2 c = (
  c.in_ok-push_interval.ensures.apart,
  c.in_ok-push_interval.ensures.tallied,
  EndsBy-weaker c.args.end 4294967295 c.push_interval.new.intervals.items (omega arith) c.in_ok-push_interval.ensures.ends,
  omega (arith, ap length c.in_ok-push_interval.ensures.numbers, length-append (numbers_of c.self.inside.intervals.items) (range c.args.first c.args.end), length-range c.args.first c.args.end),
)
