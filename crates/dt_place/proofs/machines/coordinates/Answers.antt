use Rattle.std.proofs.Common.{◌+◌, ◌-◌, ◌<◌, ◌/◌, ◌%◌, ◌≡◌, ℕ, [], ◌++◌, length, get_or, take, drop, replicate, ap, sym, ◌∙◌, subst, arith, length-set}
use Rattle.std.proofs.Math.ListN.{set}
use Rattle.dt_base.specs.Ranges.{assignments}
use Rattle.dt_base.proofs.Coordinates.{Sizes, sizes, coordinate_more, coordinates_all, zeros_more}
use Rattle.dt_place.proofs.machines.coordinates.Goals as goal

pub nonzero_div-size : goal.nonzero_div-size
nonzero_div-size c = (sizes c.args.dims.now c.loop-i.i c.loop-i.size c.loop-i.rest c.loop-i-test.true c.loop-i.invariant.size (omega arith)).some

pub nonzero_div-all : goal.nonzero_div-all
nonzero_div-all c = (sizes c.args.dims.now c.loop-i.i c.loop-i.size c.loop-i.rest c.loop-i-test.true c.loop-i.invariant.size (omega arith)).left

pub nonzero_rem-rest : goal.nonzero_rem-rest
nonzero_rem-rest c = (sizes c.args.dims.now c.loop-i.i c.loop-i.size c.loop-i.rest c.loop-i-test.true c.loop-i.invariant.size (omega arith)).left

pub loop-i-preserved : goal.loop-i-preserved
loop-i-preserved c =
    let ns = c.args.dims.now in
    let s : Sizes ns c.loop-i.i c.loop-i.size = sizes ns c.loop-i.i c.loop-i.size c.loop-i.rest c.loop-i-test.true c.loop-i.invariant.size (omega arith) in
    let more : (c.loop-i.rest % (c.loop-i.size / get_or ns c.loop-i.i 0) < c.loop-i.size / get_or ns c.loop-i.i 0)
    × (take (c.loop-i.i + 1) (set c.loop-i.all c.loop-i.i (c.loop-i.rest / (c.loop-i.size / get_or ns c.loop-i.i 0))) ++ get_or (assignments (drop (c.loop-i.i + 1) ns)) (c.loop-i.rest % (c.loop-i.size / get_or ns c.loop-i.i 0)) []
    ≡ get_or (assignments ns) c.args.number [])
    = coordinate_more ns c.loop-i.all (get_or (assignments ns) c.args.number []) c.loop-i.i (c.loop-i.size / get_or ns c.loop-i.i 0) c.loop-i.rest c.loop-i-test.true (omega arith) s.next c.loop-i.invariant.within c.loop-i.invariant.front in
    record {
      room = omega (arith, length-set {A = ℕ}, c.loop-i.invariant.room);
      size = s.next;
      within = subst (λ (n : ℕ). c.loop-i.rest % (c.loop-i.size / get_or ns c.loop-i.i 0) < n) s.next more.0;
      front = more.1;
      behind = zeros_more c.loop-i.all c.loop-i.i (c.loop-i.rest / (c.loop-i.size / get_or ns c.loop-i.i 0)) (omega arith) c.loop-i.invariant.room c.loop-i.invariant.behind;
    }

pub returns-clause-coords : goal.returns-clause-coords
returns-clause-coords c =
    let at : length c.args.dims.now ≡ c.loop-i.i = omega arith in
    ap (λ (n : ℕ). take n c.loop-i.all) at ∙ coordinates_all c.args.dims.now c.loop-i.all _ c.loop-i.i c.loop-i.rest (omega arith) c.loop-i.invariant.within c.loop-i.invariant.front

pub returns-clause-rest : goal.returns-clause-rest
returns-clause-rest c =
    let at : length c.args.dims.now ≡ c.loop-i.i = omega arith in
    ap (λ (n : ℕ). drop n c.loop-i.all) at ∙ c.loop-i.invariant.behind ∙ ap (λ (n : ℕ). replicate (6 - n) 0) (sym at)
