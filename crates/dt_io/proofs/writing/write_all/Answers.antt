use Rattle.std.proofs.Common.{arith}
use Rattle.dt_io.proofs.Fronts.{appends-more}
use Rattle.dt_io.proofs.writing.write_all.Goals as goal

pub loop-at-preserved : goal.loop-at-preserved
loop-at-preserved g c = record {
  within = omega (arith, c.in-Ok.ensures.bound, c.split_at.ensures.back_len);
  bytes = appends-more (g.W.Sink.written c.args.out.now) (g.W.Sink.written c.loop-at.out) (g.W.Sink.written c.write.new.self) c.args.text.now c.split_at.result.1.now c.loop-at.at c.in-Ok.count c.loop-at.invariant.bytes c.split_at.ensures.back c.in-Ok.ensures.bytes;
  later = omega (arith, c.in-Ok.ensures.cause.later, c.loop-at.invariant.later);
}
