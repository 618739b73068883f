use Rattle.std.proofs.Common.{◌≡◌, take, map, slice_index}
use Rattle.dt_model.proofs.lawful.have_extents.Given as goal

abbrev pub invariant-loop-i : goal.invariant-loop-i
invariant-loop-i l = take l.i l.dims ≡ map (λ v. slice_index l.extents v) (take l.i l.vars)
