use Rattle.std.proofs.Common.{ℕ, ◌++◌, List, [], ◌∷◌, ap, ◌∙◌}
use Rattle.dt_flags.proofs.Zeros.{first_zeros, more_zeros}
use Rattle.dt_flags.proofs.sums.Sums.zeros.Goals as goal

pub loop-len-init : goal.loop-len-init
loop-len-init c =
    let z = first_zeros c.args.count c.push.new.self.items c.in_ok-zeros.field-0 c.in_ok-zeros.ensures (c.in_ok-push.ensures.items ∙ ap (λ (ls : List (List ℕ)). ls ++ c.in_ok-zeros.field-0 ∷ []) c.new-levels.ensures.items) in
    record { halves = z.0; next = z.1; some = z.2 }

pub loop-len-preserved : goal.loop-len-preserved
loop-len-preserved c =
    let z = more_zeros c.args.count c.loop-len.len c.loop-len.levels.items c.push-in-loop-len.new.self.items c.in_ok-zeros-2.field-0 c.loop-len.invariant.halves c.loop-len.invariant.next c.in_ok-zeros-2.ensures c.in_ok-push-2.ensures.items in
    record { halves = z.0; next = z.1; some = z.2 }
