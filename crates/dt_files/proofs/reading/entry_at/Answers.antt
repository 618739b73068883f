use Rattle.std.proofs.Common.{◌≡◌, ◌+◌, ◌<◌, ◌≤◌, ◌∙◌, ℕ, List, [], Some, None, Option, length, get_or, take, drop, ap, sym, arith, length-set}
use Rattle.std.proofs.lemmas.List.{get_or-take, length-take-le}
use Rattle.csv.specs.Records.{fields_of}
use Rattle.dt_text.specs.Numbers.{number_of}
use Rattle.dt_files.specs.Rows.{coordinate_of, coordinates_of, entry_of, given_with}
use Rattle.dt_files.proofs.Fields.{coordinate_more, coordinate_stop, coordinate_end, wrong_length, no_coordinates, entry_is}
use Rattle.dt_tensor.specs.declared.entry.Given.{Given}
use Rattle.dt_files.proofs.reading.entry_at.Goals as goal

pub returns-then-len-order : goal.returns-then-len-order
returns-then-len-order c = sym (wrong_length c.args.order (fields_of c.args.row.now) (λ e. c.if-len-order.true (c.len.ensures ∙ e)))

pub returns-in_err-at : goal.returns-in_err-at
returns-in_err-at c =
    let many : length (fields_of c.args.row.now) ≡ c.args.order + 1 = sym c.len.ensures ∙ c.if-len-order.false in
    let room : c.loop-i.i < length (take c.args.order (fields_of c.args.row.now)) = omega (arith, length-take-le c.args.order (fields_of c.args.row.now) (omega arith)) in
    let none : coordinate_of (get_or (take c.args.order (fields_of c.args.row.now)) c.loop-i.i []) ≡ None =
    ap (λ (f : List ℕ). coordinate_of f) (get_or-take c.args.order (fields_of c.args.row.now) c.loop-i.i [] (omega arith) ∙ sym c.field.ensures) ∙ sym c.coordinate.ensures ∙ c.in_err-at.was in
    let gone = no_coordinates c.args.order (fields_of c.args.row.now) many (coordinate_stop (take c.args.order (fields_of c.args.row.now)) (take c.loop-i.i c.loop-i.at) c.loop-i.i (coordinates_of (take c.args.order (fields_of c.args.row.now))) room none c.loop-i.invariant.1) in
    c.from_residual.ensures ∙ sym gone

pub loop-i-preserved : goal.loop-i-preserved
loop-i-preserved c =
    let many : length (fields_of c.args.row.now) ≡ c.args.order + 1 = sym c.len.ensures ∙ c.if-len-order.false in
    let room : c.loop-i.i < length (take c.args.order (fields_of c.args.row.now)) = omega (arith, length-take-le c.args.order (fields_of c.args.row.now) (omega arith)) in
    let found : coordinate_of (get_or (take c.args.order (fields_of c.args.row.now)) c.loop-i.i []) ≡ Some c.in_ok-at.field-0 =
    ap (λ (f : List ℕ). coordinate_of f) (get_or-take c.args.order (fields_of c.args.row.now) c.loop-i.i [] (omega arith) ∙ sym c.field.ensures) ∙ sym c.coordinate.ensures ∙ c.in_ok-at.was in (
      length-set c.loop-i.at c.loop-i.i c.in_ok-at.field-0 ∙ c.loop-i.invariant.0,
      coordinate_more (take c.args.order (fields_of c.args.row.now)) c.loop-i.at c.loop-i.i c.in_ok-at.field-0 (coordinates_of (take c.args.order (fields_of c.args.row.now))) room (omega (arith, c.loop-i.invariant.0)) found c.loop-i.invariant.1,
    )

pub returns-in_err-value : goal.returns-in_err-value
returns-in_err-value c =
    let many : length (fields_of c.args.row.now) ≡ c.args.order + 1 = sym c.len.ensures ∙ c.if-len-order.false in
    let all = coordinate_end (take c.args.order (fields_of c.args.row.now)) (take c.loop-i.i c.loop-i.at) c.loop-i.i (coordinates_of (take c.args.order (fields_of c.args.row.now)))
    (omega (arith, length-take-le c.args.order (fields_of c.args.row.now) (omega arith))) c.loop-i.invariant.1 in
    let none : number_of (get_or (fields_of c.args.row.now) c.args.order []) ≡ None = ap (λ (f : List ℕ). number_of f) (sym c.field-2.ensures) ∙ sym c.number.ensures ∙ c.in_err-value.was in
    c.from_residual-in_err-value.ensures ∙ sym (entry_is c.args.order (fields_of c.args.row.now) (take c.loop-i.i c.loop-i.at) None many all none)

pub returns : goal.returns
returns c =
    let many : length (fields_of c.args.row.now) ≡ c.args.order + 1 = sym c.len.ensures ∙ c.if-len-order.false in
    let all = coordinate_end (take c.args.order (fields_of c.args.row.now)) (take c.loop-i.i c.loop-i.at) c.loop-i.i (coordinates_of (take c.args.order (fields_of c.args.row.now)))
    (omega (arith, length-take-le c.args.order (fields_of c.args.row.now) (omega arith))) c.loop-i.invariant.1 in
    let some : number_of (get_or (fields_of c.args.row.now) c.args.order []) ≡ Some c.in_ok-value.value = ap (λ (f : List ℕ). number_of f) (sym c.field-2.ensures) ∙ sym c.number.ensures ∙ c.in_ok-value.was in
    let last : c.loop-i.i ≡ c.args.order = omega arith in
    let read : c.of_few.result ≡ take c.loop-i.i c.loop-i.at = c.of_few.ensures ∙ ap (λ (k : ℕ). take k c.loop-i.at) (sym last) in
    ap (λ (at : List ℕ). Some (given_with at c.in_ok-value.value)) read ∙ sym (entry_is c.args.order (fields_of c.args.row.now) (take c.loop-i.i c.loop-i.at) (Some c.in_ok-value.value) many all some)
