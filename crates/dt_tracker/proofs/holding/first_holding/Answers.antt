use Rattle.std.proofs.Common.{◌≡◌, ℕ, ◌&&◌, Bool, List, [], true, false, sym, arith, length, get_or, ap, ◌∙◌, subst, nat_eq}
use Rattle.std.specs.List.{list_any}
use Rattle.std.proofs.lemmas.Bool.{and_from}
use Rattle.dt_base.proofs.Firsts.{find-below-none, find-below-some}
use Rattle.dt_tracker.specs.Tracks.{follows, has_left}
use Rattle.dt_tracker.proofs.RowReads.{row_read}
use Rattle.dt_tracker.proofs.holding.first_holding.Goals as goal

pub returns-then-is_in : goal.returns-then-is_in
returns-then-is_in c =
    let row = c.as_slice.ensures ∙ row_read c.args.rows.now c.loop-a.a c.index-rows-a.result c.loop-a-test.true c.index-rows-a.is in
    let in_row : follows c.args.rows.now c.loop-a.a c.args.op ≡ true = ap (λ (xs : List ℕ). list_any (nat_eq c.args.op) xs) (sym row) ∙ sym c.is_in.ensures ∙ c.if-is_in.true in
    sym (find-below-some (λ a. has_left c.args.counts.now.units.items c.args.counts.now.done.items a && follows c.args.rows.now a c.args.op) (length c.args.rows.now) c.loop-a.a c.loop-a-test.true
    (and_from (has_left c.args.counts.now.units.items c.args.counts.now.done.items c.loop-a.a) (follows c.args.rows.now c.loop-a.a c.args.op) (sym c.has_left.ensures ∙ c.if-has_left.true) in_row)
    c.loop-a.invariant)

pub returns : goal.returns
returns c =
    sym (find-below-none (λ a. has_left c.args.counts.now.units.items c.args.counts.now.done.items a && follows c.args.rows.now a c.args.op) (length c.args.rows.now)
    (λ k h. c.loop-a.invariant k (omega (arith, h, c.loop-a-test.false))))
