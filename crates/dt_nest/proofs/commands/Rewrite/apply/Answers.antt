use Rattle.dt_nest.specs.Schedule.{seen}
use Rattle.dt_nest.proofs.Rewriting.{lawful_after}
use Rattle.dt_nest.proofs.commands.Rewrite.apply.Goals as goal

pub from_parts-requires : goal.from_parts-requires
from_parts-requires g c =
    lawful_after (g.Self.Rewrite.rule c.args.self) (g.met.Self.Rewrite.keeps c.args.self)
    c.args.sched (seen c.parts.result.now) (seen c.into_parts.result) (seen c.in-Ok.parts)
    c.parts.ensures.lawful c.requires c.parts.ensures.parts c.in_default.ensures c.into_parts.ensures.parts c.in-Ok.ensures.ok c.in-Ok.ensures.few
