use Rattle.std.proofs.Common.{◌≡◌, List, length, sym, ap, ◌∙◌}
use Rattle.dt_mem.specs.declared.rooms.Room.{Room}
use Rattle.dt_mem.specs.Rooms.{slots_of}
use Rattle.dt_mem.proofs.Made.{all_taken, made, room_more, rooms_from, slots_from, words_of}
use Rattle.dt_mem.proofs.node_mem.NodeMem.new.Goals as goal

pub loop-spec-preserved : goal.loop-spec-preserved
loop-spec-preserved c =
    room_more c.args.specs.now c.loop-spec.spec-index c.loop-spec.total c.in-Some.total c.loop-spec.rooms.items c.push.new.self.items (record { words = 0; cost = 0 }) c.loop-spec-test.true
    c.loop-spec.invariant.0 c.loop-spec.invariant.1 c.in_ok-push.ensures.items c.in-Some.ensures.1

pub invariant_of-result : goal.invariant_of-result
invariant_of-result c =
    let all = all_taken c.args.specs.now c.loop-spec.spec-index c.loop-spec.auto.spec-index-end c.loop-spec-test.false in
    let rooms : c.loop-spec.rooms.items ≡ rooms_from 0 c.args.specs.now = c.loop-spec.invariant.0 ∙ ap (rooms_from 0) all in
    let total : c.loop-spec.total ≡ words_of c.args.specs.now = c.loop-spec.invariant.1 ∙ ap words_of all in
    let count : length c.in_ok-values.values.items ≡ words_of c.args.specs.now = sym c.in_ok-values.values.ok.0 ∙ c.in_ok-values.ensures.len ∙ total in
    rw rooms (made c.args.specs.now c.in_ok-values.values.items count c.requires.fits)

pub returns : goal.returns
returns c =
    let all = all_taken c.args.specs.now c.loop-spec.spec-index c.loop-spec.auto.spec-index-end c.loop-spec-test.false in
    let rooms : c.loop-spec.rooms.items ≡ rooms_from 0 c.args.specs.now = c.loop-spec.invariant.0 ∙ ap (rooms_from 0) all in
    ap (λ (rs : List Room). slots_of rs c.in_ok-values.values.items) rooms ∙ slots_from 0 c.args.specs.now c.in_ok-values.values.items
