use Rattle.std.proofs.Common.{◌≡◌, ℕ, List, ◌++◌, length, sym, ap, ◌∙◌, subst, arith, filter, not}
use Rattle.dt_runs.specs.Sets.{contains}
use Rattle.dt_copy.specs.declared.piece_list.Piece.{Piece}
use Rattle.std.specs.List.{flat_map}
use Rattle.dt_base.specs.Ranges.{below}
use Rattle.dt_copy.specs.Sources.{home_at, piece_of, words_from, EachWordOnce}
use Rattle.dt_copy.proofs.Once.{each_once}
use Rattle.dt_copy.proofs.Shared.{home_got, left_first, left_next, given, one_more}
use Rattle.dt_copy.proofs.sources.pieces.Goals as goal

pub loop-m-init : goal.loop-m-init
loop-m-init c = (c.in_ok-rest.ensures ∙ ap (λ (own : List ℕ). filter (λ x. not (contains own x)) c.args.need.now) (home_got c.args.homes.now c.args.node c.index-homes-node.result c.requires.node c.index-homes-node.is) ∙ left_first c.args.homes.now c.args.node c.args.need.now, c.new-items.ensures.items)

pub loop-m-preserved : goal.loop-m-preserved
loop-m-preserved c = (
  c.in_ok-rest-2.ensures ∙ ap (λ (home : List ℕ). filter (λ x. not (contains home x)) c.loop-m.rest) (home_got c.args.homes.now c.loop-m.m c.index-homes-m.result c.loop-m-test.true c.index-homes-m.is) ∙ ap (filter (λ x. not (contains (home_at c.args.homes.now c.loop-m.m) x))) c.loop-m.invariant.0
      ∙ left_next c.args.homes.now c.args.node c.loop-m.m c.args.need.now c.loop-m-test.true,
  c.in_ok-push.ensures.ok ∙ ap (λ (l : List Piece). l ++ piece_of c.loop-m.m c.in_ok-meet.field-0) c.loop-m.invariant.1
      ∙ ap (λ (l : List ℕ). flat_map (λ m. piece_of m (words_from c.args.need.now c.args.homes.now c.args.node m)) (below c.loop-m.m) ++ piece_of c.loop-m.m l)
      (c.in_ok-meet.ensures ∙ given c.args.homes.now c.args.node c.loop-m.m c.args.need.now c.loop-m.rest c.left_for-from.result.now c.index-homes-m.result c.loop-m-test.true c.requires.node (home_got c.args.homes.now c.loop-m.m c.index-homes-m.result c.loop-m-test.true c.index-homes-m.is) c.loop-m.invariant.0 c.left_for-from.ensures)
      ∙ one_more (λ m. piece_of m (words_from c.args.need.now c.args.homes.now c.args.node m)) c.loop-m.m,
)

pub returns-clause-sources : goal.returns-clause-sources
returns-clause-sources c = c.loop-m.invariant.1 ∙ ap (λ (n : ℕ). flat_map (λ m. piece_of m (words_from c.args.need.now c.args.homes.now c.args.node m)) (below n)) (let l = c.loop-m-test.false in let r = c.loop-m.auto.m-end in let e : c.loop-m.m ≡ length c.args.homes.now = omega (arith, l, r) in e)

pub returns-clause-once : goal.returns-clause-once
returns-clause-once c =
    subst (λ (l : List Piece). EachWordOnce c.args.need.now c.args.homes.now l) (sym (returns-clause-sources c)) (each_once c.args.need.now c.args.homes.now c.args.node c.requires.node)
