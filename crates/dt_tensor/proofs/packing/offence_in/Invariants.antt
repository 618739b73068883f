use Rattle.std.proofs.Common.{◌≡◌, ◌<◌, ℕ, None, take, map}
use Rattle.std.specs.List.{list_any}
use Rattle.std.specs.Str.{bytes_eq}
use Rattle.dt_model.specs.Shape.{dims}
use Rattle.dt_tensor.specs.Packed.{index_at}
use Rattle.dt_tensor.specs.Packing.{offence}
use Rattle.dt_tensor.proofs.packing.offence_in.Given as goal

abbrev pub invariant-loop-i : goal.invariant-loop-i
invariant-loop-i l = record {
  clear : (j : ℕ) → j < l.i → offence (dims l.shape) l.entries j ≡ None;
  marks : l.seen.items ≡ map (λ c. list_any (λ e. bytes_eq e.at c) (take l.i l.entries)) (map (index_at (dims l.shape)) l.numbers);
}
