use Rattle.std.proofs.Common.{◌≡◌, ℕ, List, ◌++◌, length, ap, ◌∙◌, arith, filter}
use Rattle.std.specs.List.{flat_map}
use Rattle.dt_base.specs.Ranges.{below}
use Rattle.dt_runs.specs.Sets.{contains}
use Rattle.dt_copy.specs.declared.piece_list.Piece.{Piece}
use Rattle.dt_copy.specs.Sources.{home_at, piece_of}
use Rattle.dt_copy.proofs.Shared.{home_got, one_more}
use Rattle.dt_copy.proofs.sources.shares.Goals as goal

pub loop-m-preserved : goal.loop-m-preserved
loop-m-preserved c =
    c.in_ok-push.ensures.ok ∙ ap (λ (l : List Piece). l ++ piece_of c.loop-m.m c.in_ok-meet.field-0) c.loop-m.invariant
    ∙ ap (λ (l : List ℕ). flat_map (λ m. piece_of m (filter (contains (home_at c.args.homes.now m)) c.args.need.now)) (below c.loop-m.m) ++ piece_of c.loop-m.m l)
    (c.in_ok-meet.ensures ∙ ap (λ (home : List ℕ). filter (contains home) c.args.need.now) (home_got c.args.homes.now c.loop-m.m c.index-homes-m.result c.loop-m-test.true c.index-homes-m.is))
    ∙ one_more (λ m. piece_of m (filter (contains (home_at c.args.homes.now m)) c.args.need.now)) c.loop-m.m

pub returns : goal.returns
returns c = c.loop-m.invariant ∙ ap (λ (n : ℕ). flat_map (λ m. piece_of m (filter (contains (home_at c.args.homes.now m)) c.args.need.now)) (below n)) (let l = c.loop-m-test.false in let r = c.loop-m.auto.m-end in let e : c.loop-m.m ≡ length c.args.homes.now = omega (arith, l, r) in e)
