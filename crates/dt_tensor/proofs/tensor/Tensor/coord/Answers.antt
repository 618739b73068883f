use Rattle.std.proofs.Common.{◌<◌, length, sym, ◌∙◌, subst, ap, arith}
use Rattle.dt_tensor.specs.Packed.{Packed}
use Rattle.dt_tensor.proofs.IndexNumbers.{coords_length}
use Rattle.dt_tensor.proofs.tensor.Tensor.coord.Goals as goal

pub bounds-as_slice-level : goal.bounds-as_slice-level
bounds-as_slice-level c =
    let long = coords_length c.self.inside.levels c.args.pos c.self.invariant.stored (subst (λ (t : Packed). c.args.pos < length t.coords) (sym c.self.view_is) c.requires.within) in
    let level = subst (λ (t : Packed). c.args.level < length t.extents) (sym c.self.view_is) c.requires.level in
    omega (arith, long, level, ap length (c.as_slice.ensures ∙ c.coords-coords.ensures))
