use Rattle.dt_job.proofs.FillFacts.{seed_values-more, state_after-more}
use Rattle.dt_job.proofs.fills.seeded.Goals as goal

pub loop-position-preserved : goal.loop-position-preserved
loop-position-preserved c =
    let s = state_after-more c.args.seed c.loop-position._position c.loop-position.state c.next_state-state.result c.loop-position.invariant.state c.next_state-state.ensures in
    record {
      state = s;
      values = seed_values-more c.args.seed c.loop-position._position c.next_state-state.result c.loop-position.values.items c.push.new.self.items s c.loop-position.invariant.values c.in_ok-push.ensures.items;
    }
