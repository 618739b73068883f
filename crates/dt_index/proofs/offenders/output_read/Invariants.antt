use Rattle.std.proofs.Common.{◌≡◌, None, map, take}
use Rattle.std.specs.Prelude.{find}
use Rattle.std.specs.Str.{bytes_eq}
use Rattle.dt_index.proofs.offenders.output_read.Given as goal

abbrev pub invariant-loop-access : goal.invariant-loop-access
invariant-loop-access l = find (λ a. bytes_eq a.tensor l.form.lhs.tensor) (take l.access-index (map (λ a. a.now) l.right)) ≡ None
