use Rattle.std.proofs.Common.{◌∙◌, ap, is_some, nat_eq, Option, ℕ}
use Rattle.dt_place.proofs.PositionSets.{is_some-position}
use Rattle.dt_place.proofs.homes.has.Goals as goal

pub returns : goal.returns
returns c = c.is_some.ensures ∙ ap (λ (o : Option ℕ). is_some o) c.rank.ensures ∙ is_some-position (λ y. nat_eq y c.args.pos) c.args.home.now
