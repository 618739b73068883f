use Rattle.std.proofs.Common.{◌≡◌, ◌≤◌, ℕ, length, List, arith, ap, sym, ◌∙◌, Ok, true, false}
use Rattle.std.specs.Prelude.{slice_range}
use Rattle.dt_text.specs.Lines.{plain_line}
use Rattle.dt_text.specs.Tokens.{tokens_of}
use Rattle.dt_text.specs.Words.{is_skipped, bad_place}
use Rattle.dt_text.proofs.LineWords.{line_words-long, line_words-skipped, line_words-bad, line_words-plain, plain_line-span}
use Rattle.dt_text.proofs.TokenLemmas.{length-slice_range}
use Rattle.dt_text.proofs.token_spans.tokens.Goals as goal

pub returns-then-line-gt-LONGEST_LINE-clause-words :
    goal.returns-then-line-gt-LONGEST_LINE-clause-words
returns-then-line-gt-LONGEST_LINE-clause-words c = line_words-long (slice_range c.args.text.now c.args.line.from c.args.line.to) (omega (arith, length-slice_range c.args.text.now c.args.line.from c.args.line.to (omega arith)))

pub returns-then-is_skipped-clause-words : goal.returns-then-is_skipped-clause-words
returns-then-is_skipped-clause-words c =
    let short : length (slice_range c.args.text.now c.args.line.from c.args.line.to) ≤ 1048576 = omega (arith, length-slice_range c.args.text.now c.args.line.from c.args.line.to (omega arith)) in
    let skipped : is_skipped (plain_line (slice_range c.args.text.now c.args.line.from c.args.line.to)) ≡ true = ap (λ (x : List ℕ). is_skipped x) (sym c.plain-plain.ensures.bytes) ∙ sym c.is_skipped.ensures ∙ c.if-is_skipped.true in
    rw c.new.ensures (line_words-skipped (slice_range c.args.text.now c.args.line.from c.args.line.to) short skipped)

pub returns-in-Some-clause-words : goal.returns-in-Some-clause-words
returns-in-Some-clause-words c =
    let short : length (slice_range c.args.text.now c.args.line.from c.args.line.to) ≤ 1048576 = omega (arith, length-slice_range c.args.text.now c.args.line.from c.args.line.to (omega arith)) in
    let counts : is_skipped (plain_line (slice_range c.args.text.now c.args.line.from c.args.line.to)) ≡ false = ap (λ (x : List ℕ). is_skipped x) (sym c.plain-plain.ensures.bytes) ∙ sym c.is_skipped.ensures ∙ c.if-is_skipped.false in
    line_words-bad (slice_range c.args.text.now c.args.line.from c.args.line.to) c.in-Some.place short counts (ap (λ (x : List ℕ). bad_place x) (sym c.plain-plain.ensures.bytes) ∙ sym c.bad_place.ensures ∙ c.in-Some.is)

pub returns-in_ok-words_between-in-None-clause-words :
    goal.returns-in_ok-words_between-in-None-clause-words
returns-in_ok-words_between-in-None-clause-words c =
    let short : length (slice_range c.args.text.now c.args.line.from c.args.line.to) ≤ 1048576 = omega (arith, length-slice_range c.args.text.now c.args.line.from c.args.line.to (omega arith)) in
    let counts : is_skipped (plain_line (slice_range c.args.text.now c.args.line.from c.args.line.to)) ≡ false = ap (λ (x : List ℕ). is_skipped x) (sym c.plain-plain.ensures.bytes) ∙ sym c.is_skipped.ensures ∙ c.if-is_skipped.false in
    let span = plain_line-span c.args.text.now c.plain-plain.result.now c.args.line.from c.args.line.to (omega arith) (omega arith) c.plain-plain.ensures.bytes in
    line_words-plain (slice_range c.args.text.now c.args.line.from c.args.line.to) short counts (ap (λ (x : List ℕ). bad_place x) (sym c.plain-plain.ensures.bytes) ∙ sym c.bad_place.ensures ∙ c.in-None.is)
    ∙ ap (λ (x : List (List ℕ)). Ok x) (ap (λ (x : List ℕ). tokens_of x) (sym c.plain-plain.ensures.bytes ∙ sym span.1) ∙ sym c.in_ok-words_between-in-None.ensures.words)
