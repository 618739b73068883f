use Rattle.std.proofs.Common.{◌≡◌, ◌∙◌, false, ap, sym, is_some, Option, ℕ}
use Rattle.std.specs.Str.{bytes_eq}
use Rattle.indexmap.proofs.CallerLemmas.{insert_entry-new}
use Rattle.dt_index.specs.NameSets.{noted}
use Rattle.dt_index.proofs.SetFacts.{noted_new}
use Rattle.dt_index.proofs.first_extents.FirstExtents.note.Goals as goal

pub returns-in_ok-insert : goal.returns-in_ok-insert
returns-in_ok-insert c =
    let absent : is_some (noted c.args.self.now c.args.variable.now) ≡ false = ap (λ (o : Option ℕ). is_some o) (sym c.get.ensures) ∙ c.if-is_none.ensures in
    noted_new c.self.inside.map.entries c.args.self.now c.insert.new.self.entries c.copied.result c.args.variable.now c.args.extent c.self.view_is c.copied.ensures absent
    (λ gone. c.in_ok-insert.ensures.entries ∙ insert_entry-new bytes_eq c.self.inside.map c.copied.result c.args.extent gone)
