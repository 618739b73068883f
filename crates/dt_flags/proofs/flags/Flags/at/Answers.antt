use Rattle.std.proofs.Common.{ℕ, ◌<◌, Bool, List, ap, ◌∙◌, arith, length, sum, slice_index}
use Rattle.dt_flags.specs.Flags.{set_ones}
use Rattle.dt_flags.proofs.Counts.{count_is, found_flag}
use Rattle.dt_flags.proofs.flags.Flags.at.Goals as goal

pub find-requires : goal.find-requires
find-requires c =
    let all = ap (λ (ns : List ℕ). sum ns) c.self.invariant.ones in
    let count = count_is c.self.inside.bits.items in
    let k : c.args.k < length (set_ones c.self.inside.bits.items) = rw c.self.view_is c.requires in
    omega (arith, all, count, k)

pub returns : goal.returns
returns c =
    found_flag c.self.inside.bits.items c.self.inside.sums c.find.result c.args.k c.self.invariant.ones c.find.ensures.exists c.find.ensures.before c.find.ensures.after
    ∙ ap (λ (flags : List Bool). slice_index (set_ones flags) c.args.k) c.self.view_is
