use Rattle.std.proofs.Common.{◌≡◌, ◌≤◌, ℕ, [], ◌∷◌, length, take, arith, refl, ap}
use Rattle.std.proofs.lemmas.List.{length-take}
use Rattle.dt_model.specs.Stmts.{shapes_of}
use Rattle.dt_model.proofs.StmtFacts.{index_fits}
use Rattle.dt_model.proofs.value.value_at.Goals as goal

pub loop-i-init : goal.loop-i-init
loop-i-init c =
    let fits : length c.args.c.now ≤ length c.args.stmt.now.extents = index_fits (shapes_of c.args.tensors.now) c.args.stmt.now c.args.c.now c.requires.stmt c.requires.index in
    let count : length c.as_slice-extents.result.now ≡ length c.args.stmt.now.extents = ap length c.as_slice-extents.ensures in
    let all : length (take {A = ℕ} (length c.as_slice-extents.result.now) (0 ∷ 0 ∷ 0 ∷ 0 ∷ 0 ∷ 0 ∷ 0 ∷ 0 ∷ [])) ≡ length c.args.stmt.now.extents = omega (arith, length-take {A = ℕ}, c.requires.stmt.few, count) in
    record { front = refl; within = omega (arith, fits, all); all = all }
