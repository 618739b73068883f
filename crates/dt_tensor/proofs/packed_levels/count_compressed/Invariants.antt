use Rattle.std.proofs.Common.{◌≡◌, ◌≤◌, take, count_by}
use Rattle.dt_tensor.proofs.packed_levels.count_compressed.Given as goal

abbrev pub invariant-loop-is_compressed : goal.invariant-loop-is_compressed
invariant-loop-is_compressed l = record {
  count : l.count ≡ count_by (λ b. b) (take l.is_compressed-index l.compressed);
  few : l.count ≤ l.is_compressed-index;
}
