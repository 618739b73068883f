use Rattle.std.proofs.Common.{◌≡◌, ℕ, ◌<◌, List, [], ◌++◌, length, append-nil, ap, sym, ◌∙◌, arith}
use Rattle.std.specs.Prelude.{slice_index_or}
use Rattle.std.proofs.lemmas.Result.{on_ok_weaker}
use Rattle.dt_nest.specs.Schedule.{Schedule}
use Rattle.dt_nest.specs.Outputs.{output_of}
use Rattle.dt_nest.proofs.Each.{all_get}
use Rattle.dt_nest.proofs.RootApart.{output_below}
use Rattle.dt_place.specs.Machines.{nodes_of}
use Rattle.dt_copy.specs.Sources.{home_at}
use Rattle.dt_plan.specs.declared.ops.Op.{Op}
use Rattle.dt_plan.specs.Layouts.{Layout, homes_at}
use Rattle.dt_plan.specs.Operations.{zeros_on}
use Rattle.dt_plan.specs.Statements.{StatementView}
use Rattle.dt_plan.proofs.StatementFacts.{home_found, zeros_none, zeros_some}
use Rattle.dt_plan.proofs.statement.Statement.push_zero.Goals as goal

pub bounds-layout-inside-output : goal.bounds-layout-inside-output
bounds-layout-inside-output g c =
    let under = output_below (length c.self.inside.part.now.sched.tensors) c.self.inside.part.now.sched.nest [] c.self.invariant.0.lawful.works.stand in
    let is : c.output_of-output.result ≡ output_of c.self.inside.part.now.sched.nest = c.output_of-output.ensures ∙ ap (λ (x : Schedule). output_of x.nest) c.parts.ensures.parts in
    let fits = c.self.invariant.0.fits.count in
    let count = c.layout.invariant.count in
    let same = ap (λ (l : Layout). length l.stored) c.layout.view_is in
    omega (arith, under, is, fits, count, same)

pub bounds-as_slice-node : goal.bounds-as_slice-node
bounds-as_slice-node g c =
    let within : c.output_of-output.result < length c.layout.inside.homes.now =
    (let under = output_below (length c.self.inside.part.now.sched.tensors) c.self.inside.part.now.sched.nest [] c.self.invariant.0.lawful.works.stand in
    let is : c.output_of-output.result ≡ output_of c.self.inside.part.now.sched.nest = c.output_of-output.ensures ∙ ap (λ (x : Schedule). output_of x.nest) c.parts.ensures.parts in
    let fits = c.self.invariant.0.fits.count in
    let count = c.layout.invariant.count in
    let same = ap (λ (l : Layout). length l.stored) c.layout.view_is in
    omega (arith, under, is, fits, count, same)) in
    let many = all_get (λ (h : List (List ℕ)). length h ≡ nodes_of c.layout.inside.machine.now) c.layout.inside.homes.now c.output_of-output.result c.index-layout-output.result c.layout.invariant.nodes within in
    let found = ap (λ (h : List (List ℕ)). length h) c.index-layout-output.is in
    let slice = ap (λ (h : List (List ℕ)). length h) c.as_slice.ensures in
    let same : nodes_of c.layout.inside.machine.now ≡ nodes_of c.args.self.now.layout.machine = ap (λ (l : Layout). nodes_of l.machine) c.layout.view_is ∙ ap (λ (v : StatementView). nodes_of v.layout.machine) c.self.view_is in
    let node = c.requires in
    omega (arith, many, found, slice, same, node)

pub returns-then-count-eq0 : goal.returns-then-count-eq0
returns-then-count-eq0 g c =
    let within : c.output_of-output.result < length c.layout.inside.homes.now =
    (let under = output_below (length c.self.inside.part.now.sched.tensors) c.self.inside.part.now.sched.nest [] c.self.invariant.0.lawful.works.stand in
    let is : c.output_of-output.result ≡ output_of c.self.inside.part.now.sched.nest = c.output_of-output.ensures ∙ ap (λ (x : Schedule). output_of x.nest) c.parts.ensures.parts in
    let fits = c.self.invariant.0.fits.count in
    let count = c.layout.invariant.count in
    let same = ap (λ (l : Layout). length l.stored) c.layout.view_is in
    omega (arith, under, is, fits, count, same)) in
    let many = all_get (λ (h : List (List ℕ)). length h ≡ nodes_of c.layout.inside.machine.now) c.layout.inside.homes.now c.output_of-output.result c.index-layout-output.result c.layout.invariant.nodes within in
    let found = ap (λ (h : List (List ℕ)). length h) c.index-layout-output.is in
    let slice = ap (λ (h : List (List ℕ)). length h) c.as_slice.ensures in
    let same : nodes_of c.layout.inside.machine.now ≡ nodes_of c.args.self.now.layout.machine = ap (λ (l : Layout). nodes_of l.machine) c.layout.view_is ∙ ap (λ (v : StatementView). nodes_of v.layout.machine) c.self.view_is in
    let node = c.requires in
    let inside : c.args.node < length c.as_slice.result.now = omega (arith, many, found, slice, same, node) in
    let out : c.output_of-output.result ≡ output_of c.self.inside.part.now.sched.nest = c.output_of-output.ensures ∙ ap (λ (x : Schedule). output_of x.nest) c.parts.ensures.parts in
    let home : c.index-as_slice-node.result ≡ home_at (homes_at c.self.inside.layout.now (output_of c.self.inside.part.now.sched.nest)) c.args.node =
    home_found c.layout.inside.homes.now c.output_of-output.result c.args.node c.as_slice.result.now c.index-layout-output.result c.index-as_slice-node.result c.index-as_slice-node.result (cc (c.as_slice.ensures, c.index-layout-output.is)) c.index-as_slice-node.is
    within inside
    ∙ ap (λ (l : Layout). home_at (slice_index_or l.homes c.output_of-output.result []) c.args.node) c.layout.view_is
    ∙ ap (λ (t : ℕ). home_at (homes_at c.self.inside.layout.now t) c.args.node) out in
    let counted = c.count.ensures in
    let is = ap (λ (ws : List ℕ). length ws) c.index-as_slice-node.is in
    let none = c.if-count-eq0.true in
    let empty : length c.index-as_slice-node.result ≡ 0 = omega (arith, counted, is, none) in
    sym
    (ap (λ (zs : List Op). c.args.ops.now ++ zs)
    (sym (ap (λ (v : StatementView). zeros_on v.layout v.number v.part c.args.node) c.self.view_is)
    ∙ zeros_none c.self.inside.layout.now c.self.inside.number c.self.inside.part.now c.args.node c.index-as_slice-node.result c.if-self.false home empty)
    ∙ append-nil c.args.ops.now)

pub returns : goal.returns
returns g c =
    let within : c.output_of-output.result < length c.layout.inside.homes.now =
    (let under = output_below (length c.self.inside.part.now.sched.tensors) c.self.inside.part.now.sched.nest [] c.self.invariant.0.lawful.works.stand in
    let is : c.output_of-output.result ≡ output_of c.self.inside.part.now.sched.nest = c.output_of-output.ensures ∙ ap (λ (x : Schedule). output_of x.nest) c.parts.ensures.parts in
    let fits = c.self.invariant.0.fits.count in
    let count = c.layout.invariant.count in
    let same = ap (λ (l : Layout). length l.stored) c.layout.view_is in
    omega (arith, under, is, fits, count, same)) in
    let many = all_get (λ (h : List (List ℕ)). length h ≡ nodes_of c.layout.inside.machine.now) c.layout.inside.homes.now c.output_of-output.result c.index-layout-output.result c.layout.invariant.nodes within in
    let found = ap (λ (h : List (List ℕ)). length h) c.index-layout-output.is in
    let slice = ap (λ (h : List (List ℕ)). length h) c.as_slice.ensures in
    let same : nodes_of c.layout.inside.machine.now ≡ nodes_of c.args.self.now.layout.machine = ap (λ (l : Layout). nodes_of l.machine) c.layout.view_is ∙ ap (λ (v : StatementView). nodes_of v.layout.machine) c.self.view_is in
    let node = c.requires in
    let inside : c.args.node < length c.as_slice.result.now = omega (arith, many, found, slice, same, node) in
    let out : c.output_of-output.result ≡ output_of c.self.inside.part.now.sched.nest = c.output_of-output.ensures ∙ ap (λ (x : Schedule). output_of x.nest) c.parts.ensures.parts in
    let home : c.index-as_slice-node.result ≡ home_at (homes_at c.self.inside.layout.now (output_of c.self.inside.part.now.sched.nest)) c.args.node =
    home_found c.layout.inside.homes.now c.output_of-output.result c.args.node c.as_slice.result.now c.index-layout-output.result c.index-as_slice-node.result c.index-as_slice-node.result (cc (c.as_slice.ensures, c.index-layout-output.is)) c.index-as_slice-node.is
    within inside
    ∙ ap (λ (l : Layout). home_at (slice_index_or l.homes c.output_of-output.result []) c.args.node) c.layout.view_is
    ∙ ap (λ (t : ℕ). home_at (homes_at c.self.inside.layout.now t) c.args.node) out in
    let counted = c.count.ensures in
    let is = ap (λ (ws : List ℕ). length ws) c.index-as_slice-node.is in
    on_ok_weaker c.push.result
    (λ e.
    e
    ∙ ap (λ (zs : List Op). c.args.ops.now ++ zs)
    (zeros_some c.self.inside.layout.now c.self.inside.number c.self.inside.part.now c.args.node c.index-as_slice-node.result c.if-self.false home c.output_of-output.result c.new.result c.in_ok-copied.field-0
    (λ q. c.if-count-eq0.false (omega (arith, q, counted, is))) out c.new.ensures (cc (c.in_ok-copied.ensures, c.index-as_slice-node.is))
    ∙ ap (λ (v : StatementView). zeros_on v.layout v.number v.part c.args.node) c.self.view_is))
    c.push.ensures.ok
