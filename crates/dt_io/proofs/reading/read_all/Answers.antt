use Rattle.std.proofs.Common.{ℕ, arith, take, length-take}
use Rattle.dt_io.proofs.Fronts.{lost-more}
use Rattle.dt_io.proofs.reading.read_all.Goals as goal

pub returns-then-count-room-clause-taken : goal.returns-then-count-room-clause-taken
returns-then-count-room-clause-taken g c =
    let lost = lost-more (g.R.Source.left c.args.src.now) (g.R.Source.left c.loop-count.src) (g.R.Source.left c.read.new.self)
    c.loop-count.all (take c.in-Ok.count c.read.new.buf) c.in-Ok.count c.loop-count.invariant.bytes c.in-Ok.ensures.bytes.0 c.in-Ok.ensures.bound.1 in
    (lost.0, lost.1, omega (arith, lost.2, c.len.ensures, c.loop-count.invariant.within))

pub returns-then-is_err-clause-taken : goal.returns-then-is_err-clause-taken
returns-then-is_err-clause-taken g c =
    let lost = lost-more (g.R.Source.left c.args.src.now) (g.R.Source.left c.loop-count.src) (g.R.Source.left c.read.new.self)
    c.loop-count.all (take c.in-Ok.count c.read.new.buf) c.in-Ok.count c.loop-count.invariant.bytes c.in-Ok.ensures.bytes.0 c.in-Ok.ensures.bound.1 in
    (lost.0, lost.1, omega (arith, lost.2, c.len.ensures, c.in-Ok.ensures.bound.0, c.loop-count.invariant.within, length-take {A = ℕ}))
