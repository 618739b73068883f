use Rattle.std.proofs.Common.{◌≡◌, drop}
use Rattle.dt_io.proofs.Fronts.{rest-copied}
use Rattle.dt_io.proofs.memory.MemSourceSource.read.Goals as goal

pub returns-clause-bytes : goal.returns-clause-bytes
returns-clause-bytes c =
    let rest : c.args.self.now.left ≡ drop c.self.inside.at c.self.inside.bytes = cc in
    let same : c.split_at.result.1.now ≡ drop c.self.inside.at c.self.inside.bytes = cc in
    let copied = rest-copied c.self.inside.bytes c.split_at.result.1.now c.args.buf.now c.copy_front-count.new.buf c.self.inside.at c.copy_front-count.result c.self.inside.piece
    same c.self.invariant.1 c.copy_front-count.ensures.count c.copy_front-count.ensures.buffer in
    (cc copied.0, copied.1)
