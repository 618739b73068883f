use Rattle.std.proofs.Common.{◌≡◌, ◌∙◌, ℕ, List, [], ◌∷◌, length, map, ap, sym, subst, arith}
use Rattle.std.specs.List.{IsDistinct, range_with_len}
use Rattle.std.specs.Str.{bytes_eq}
use Rattle.std.proofs.lemmas.List.FromFn.{length-map-range_with_len}
use Rattle.dt_tests.proofs.StmtSchedules.{letters_differ, letters_more}
use Rattle.dt_tests.proofs.statements.letters.Goals as goal

pub loop-i-preserved : goal.loop-i-preserved
loop-i-preserved c = letters_more c.args.first c.loop-i.i c.loop-i.names c.push.new.self c.from_slice.result c.loop-i.invariant c.from_slice.ensures c.in_ok-push.ensures.ok

pub returns-clause-count : goal.returns-clause-count
returns-clause-count c =
    let all : c.loop-i.i ≡ c.args.count = omega arith in
    ap length c.loop-i.invariant ∙ length-map-range_with_len (λ i. i ∷ []) c.args.first c.loop-i.i ∙ all

pub returns-clause-distinct : goal.returns-clause-distinct
returns-clause-distinct c = subst (λ (l : List (List ℕ)). IsDistinct bytes_eq l) (sym c.loop-i.invariant) (letters_differ c.args.first c.loop-i.i)
