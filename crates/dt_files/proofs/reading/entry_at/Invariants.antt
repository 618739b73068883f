use Rattle.std.proofs.Common.{◌≡◌, length, take, drop}
use Rattle.csv.specs.Records.{fields_of}
use Rattle.dt_text.proofs.TokenLists.{behind_front}
use Rattle.dt_files.specs.Rows.{coordinates_of}
use Rattle.dt_files.proofs.reading.entry_at.Given as goal

abbrev pub invariant-loop-i : goal.invariant-loop-i
invariant-loop-i l =
    (length l.at ≡ 4) × (behind_front (take l.i l.at) (coordinates_of (drop l.i (take l.fn.order (fields_of l.fn.row)))) ≡ coordinates_of (take l.fn.order (fields_of l.fn.row)))
