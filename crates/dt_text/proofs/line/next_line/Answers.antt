use Rattle.std.proofs.Common.{◌≡◌, ◌-◌, ℕ, length, drop, take, arith, ap, ◌∙◌, List}
use Rattle.std.specs.List.{prefix_len}
use Rattle.std.proofs.lemmas.List.{take_all, length-drop}
use Rattle.dt_text.proofs.LineLemmas.{line_at, in_line}
use Rattle.dt_text.proofs.line.next_line.Goals as goal

pub returns-clause-lines : goal.returns-clause-lines
returns-clause-lines c =
    let whole : take (length c.args.text.now - c.args.at) (drop c.args.at c.args.text.now) ≡ drop c.args.at c.args.text.now = take_all _ _ (omega (arith, length-drop c.args.at c.args.text.now)) in
    line_at c.args.text.now c.args.at c.line_len.result (omega arith) (c.line_len.ensures.value ∙ ap (λ (r : List ℕ). prefix_len in_line r) whole)
