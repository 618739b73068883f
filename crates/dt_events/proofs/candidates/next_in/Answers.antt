use Rattle.std.proofs.Common.{ℕ, subst, ◌+◌}
use Rattle.std.specs.Prelude.{Result}
use Rattle.std.specs.List.Sorted.{IsBinarySearchResult}
use Rattle.std.specs.Ordering.{nat_cmp}
use Rattle.dt_events.proofs.NextNumbers.{next_found, next_placed, none_placed}
use Rattle.dt_events.proofs.candidates.next_in.Goals as goal

pub returns-in-Ok : goal.returns-in-Ok
returns-in-Ok c =
    next_found c.args.numbers.now c.args.last c.in-Ok.field-0 c.requires.up
    (subst (λ (r : Result ℕ ℕ). IsBinarySearchResult (λ y. nat_cmp y (c.args.last + 1)) c.args.numbers.now r) c.in-Ok.is c.binary_search.ensures.position)

pub returns-then-place-numbers : goal.returns-then-place-numbers
returns-then-place-numbers c =
    next_placed c.args.numbers.now c.args.last c.in-Err.place c.requires.up
    (subst (λ (r : Result ℕ ℕ). IsBinarySearchResult (λ y. nat_cmp y (c.args.last + 1)) c.args.numbers.now r) c.in-Err.is c.binary_search.ensures.position) c.if-place-numbers.true

pub returns-else-place-numbers : goal.returns-else-place-numbers
returns-else-place-numbers c =
    none_placed c.args.numbers.now c.args.last c.in-Err.place c.requires.up
    (subst (λ (r : Result ℕ ℕ). IsBinarySearchResult (λ y. nat_cmp y (c.args.last + 1)) c.args.numbers.now r) c.in-Err.is c.binary_search.ensures.position) c.if-place-numbers.false
