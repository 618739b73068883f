use Rattle.std.proofs.Common.{◌≡◌, take}
use Rattle.std.specs.List.{flat_map}
use Rattle.dt_files.specs.Written.{row_text, stored_entries}
use Rattle.dt_files.proofs.writing.write_rows.Given as goal

abbrev pub invariant-loop-pos : goal.invariant-loop-pos
invariant-loop-pos l = l.text ≡ flat_map (λ e. row_text e.at e.value) (take l.pos (stored_entries l.fn.tensor))
