use Rattle.std.proofs.Common.{◌≡◌, ◌++◌, ◌∷◌, [], take}
use Rattle.std.specs.Fmt.{decimal}
use Rattle.std.specs.List.{flat_map}
use Rattle.dt_model.specs.Positions.{coords_at}
use Rattle.dt_tensor.specs.Packed.{stored_of}
use Rattle.dt_files.proofs.writing.write_row.Given as goal

abbrev pub invariant-loop-level : goal.invariant-loop-level
invariant-loop-level l = l.text ≡ l.fn.text ++ flat_map (λ x. decimal x ++ 44 ∷ []) (take l.level (coords_at (stored_of l.fn.tensor) l.fn.pos))
