use Rattle.std.proofs.Common.{◌+◌, ◌<◌, ◌/◌, ◌%◌, ◌≡◌, ◌≤◌, ℕ, [], ◌++◌, length, get_or, take, drop, ap, subst, arith, length-set}
use Rattle.std.proofs.Math.ListN.{set}
use Rattle.dt_base.specs.Ranges.{assignments}
use Rattle.dt_model.proofs.ShapeFacts.{shape_facts}
use Rattle.dt_base.proofs.Coordinates.{Sizes, sizes, coordinate_more}
use Rattle.dt_tensor.proofs.dense.coordinates.Goals as goal

pub loop-i-preserved : goal.loop-i-preserved
loop-i-preserved c =
    let ns = c.dims-dims.result.now in
    let few : length ns ≤ 4 = omega (arith, ap length c.dims-dims.ensures, (shape_facts c.args.shape.now c.requires.lawful).used, (shape_facts c.args.shape.now c.requires.lawful).order) in
    let s : Sizes ns c.loop-i.i c.loop-i.size = sizes ns c.loop-i.i c.loop-i.size c.loop-i.rest c.loop-i-test.true c.loop-i.invariant.size (omega arith) in
    let more : (c.loop-i.rest % (c.loop-i.size / get_or ns c.loop-i.i 0) < c.loop-i.size / get_or ns c.loop-i.i 0)
    × (take (c.loop-i.i + 1) (set c.loop-i.all c.loop-i.i (c.loop-i.rest / (c.loop-i.size / get_or ns c.loop-i.i 0))) ++ get_or (assignments (drop (c.loop-i.i + 1) ns)) (c.loop-i.rest % (c.loop-i.size / get_or ns c.loop-i.i 0)) []
    ≡ get_or (assignments ns) c.args.number [])
    = coordinate_more ns c.loop-i.all (get_or (assignments ns) c.args.number []) c.loop-i.i (c.loop-i.size / get_or ns c.loop-i.i 0) c.loop-i.rest c.loop-i-test.true (omega arith) s.next c.loop-i.invariant.within c.loop-i.invariant.front in
    record {
      room = omega (arith, length-set {A = ℕ}, c.loop-i.invariant.room);
      size = s.next;
      within = subst (λ (n : ℕ). c.loop-i.rest % (c.loop-i.size / get_or ns c.loop-i.i 0) < n) s.next more.0;
      front = more.1;
    }
