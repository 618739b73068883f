use Rattle.std.proofs.Common.{Bor, List, ℕ, ◌≡◌, Some, ap, sym, ◌∙◌}
use Rattle.csv.specs.Records.{fields_of}
use Rattle.dt_files.proofs.Fields.{field_exists, field_is}
use Rattle.dt_files.proofs.reading.field.Goals as goal

pub unwrap-requires : goal.unwrap-requires
unwrap-requires c = field_exists (λ (s : Bor (List ℕ)). s.now) c.get.result (fields_of c.args.row.now) c.args.i c.requires c.get.ensures.value

pub returns : goal.returns
returns c = field_is (λ (s : Bor (List ℕ)). s.now) c.get.result c.unwrap.result (fields_of c.args.row.now) c.args.i c.unwrap.ensures c.get.ensures.value
