use Rattle.std.proofs.Common.{◌≡◌, ℕ, length, List, arith, ap}
use Rattle.std.specs.Prelude.{slice_range}
use Rattle.dt_text.specs.Tokens.{behind_blanks}
use Rattle.dt_text.proofs.TokenLemmas.{word_there, behind_place, token_found}
use Rattle.dt_text.proofs.WordLemmas.{word_none}
use Rattle.dt_text.proofs.token_spans.next_token.Goals as goal

pub returns-clause-order : goal.returns-clause-order
returns-clause-order c =
    let there = word_there (slice_range c.args.text.now c.args.at c.args.to) c.behind_blanks-rest.result.now c.word_len.result c.behind_blanks-rest.ensures.bytes c.word_len.ensures.value in
    let place = behind_place c.args.text.now c.behind_blanks-rest.result.now c.args.at c.args.to (omega arith) (omega arith) c.behind_blanks-rest.ensures.bytes in
    (omega (arith, place.0), omega (arith, place.0, there), omega arith, omega (arith, place.0))

pub returns-clause-found : goal.returns-clause-found
returns-clause-found c h =
    token_found c.args.text.now c.behind_blanks-rest.result.now c.args.at c.args.to c.word_len.result (omega arith) (omega arith) c.behind_blanks-rest.ensures.bytes c.word_len.ensures.value (omega arith) (omega arith)

pub returns-clause-none : goal.returns-clause-none
returns-clause-none c h =
    let there = word_there (slice_range c.args.text.now c.args.at c.args.to) c.behind_blanks-rest.result.now c.word_len.result c.behind_blanks-rest.ensures.bytes c.word_len.ensures.value in
    let same : length c.behind_blanks-rest.result.now ≡ length (behind_blanks (slice_range c.args.text.now c.args.at c.args.to)) = ap (λ (x : List ℕ). length x) c.behind_blanks-rest.ensures.bytes in
    let empty : length c.behind_blanks-rest.result.now ≡ 0 = omega (arith, there) in
    (word_none (slice_range c.args.text.now c.args.at c.args.to) (omega arith), omega arith)
