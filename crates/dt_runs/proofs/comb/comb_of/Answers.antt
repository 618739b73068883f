use Rattle.std.proofs.Common.{◌-◌, ◌<◌, ◌≤◌, length, get_or, refl, arith, ◌≡◌}
use Rattle.std.proofs.lemmas.Bool.Decides.{nat_tests}
use Rattle.dt_runs.specs.declared.comb.Comb.{Comb}
use Rattle.dt_runs.specs.declared.interval.Interval.{Interval}
use Rattle.dt_runs.proofs.CombLemmas.{others, others_apart, room_before-second, teeth_with-first, whole_comb}
use Rattle.dt_runs.proofs.ToothLemmas.{comb_begins, no_teeth, teeth_behind, first_tooth}
use Rattle.dt_runs.proofs.comb.comb_of.Goals as goal
use Rattle.dt_runs.proofs.comb.comb_of.Goals.{then-is_empty-2, else-is_empty-2, then-tooth-last-via-then-tooth-last, then-tooth-last-via-else-tooth-last+then-tooth-len}

pub loop-rest-init : goal.loop-rest-init
loop-rest-init c =
    let is = c.args.intervals.now in
    let d : Interval = record { first = 0; end = 0; before = 0 } in
    let some : 0 < length is = grind (arith, nat_tests) in
    let apart = c.requires.apart in
    let room : (get_or is 0 d).end - (get_or is 0 d).first ≤ c.if-is_empty-2.dist = elim c.if-is_empty-2.branch [
      | then-is_empty-2 w ↦ omega arith
      | else-is_empty-2 w ↦ let more : 0 < length (others is) = grind (arith, nat_tests) in let behind = room_before-second 0 is d some more apart in omega arith
    ] in
    let comb : Comb = record { low = (get_or is 0 d).first; len = (get_or is 0 d).end - (get_or is 0 d).first; dist = c.if-is_empty-2.dist } in
    record {
      apart = others_apart 0 is d some apart;
      teeth = λ t. whole_comb is d comb some apart refl refl room t;
      only = λ one comb_is. elim c.if-is_empty-2.branch [
        | then-is_empty-2 w ↦ let none : length (others is) ≡ 0 = grind (arith, nat_tests) in no_teeth _ _ _ (others is) none
        | else-is_empty-2 w ↦ let more : 0 < length (others is) = grind (arith, nat_tests) in
            rw w.dist-is (comb_begins d is one apart c.requires.tallied comb_is more)
      ];
    }

pub loop-rest-preserved : goal.loop-rest-preserved
loop-rest-preserved c =
    let rest = c.loop-rest.rest.now in
    let d : Interval = record { first = 0; end = 0; before = 0 } in
    let some : 0 < length rest = grind (arith, nat_tests) in
    record {
      apart = others_apart _ rest d some c.loop-rest.invariant.apart;
      teeth = λ t. c.loop-rest.invariant.teeth (teeth_with-first _ _ _ rest d some c.loop-rest.invariant.apart c.if-tooth-last.false c.if-tooth-len.false t);
      only = λ one comb_is. teeth_behind _ _ _ rest d some (c.loop-rest.invariant.only one comb_is);
    }

pub returns-then-tooth-last-clause-none : goal.returns-then-tooth-last-clause-none
returns-then-tooth-last-clause-none c none one comb_is =
    let rest = c.loop-rest.rest.now in
    let d : Interval = record { first = 0; end = 0; before = 0 } in
    let some : 0 < length rest = grind (arith, nat_tests) in
    let tooth = first_tooth _ _ _ rest d some (c.loop-rest.invariant.only one comb_is) in
    elim c.then-tooth-last.branch [
      | then-tooth-last-via-then-tooth-last w ↦ absurd (w.if-tooth-last.true (omega arith))
      | then-tooth-last-via-else-tooth-last+then-tooth-len w ↦ absurd (w.if-tooth-len.true (omega arith))
    ]
