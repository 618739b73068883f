-- The part that a command makes of a statement's part.
use Rattle.std.proofs.Common.{◌≡◌, ℕ, List, [], sym, ◌∙◌, subst}
use Rattle.dt_model.specs.Positions.{StoredTensor}
use Rattle.dt_model.specs.declared.stmt.Stmt.{Stmt}
use Rattle.dt_nest.specs.Commands.{KeepsAccesses, KeepsSum}
use Rattle.dt_nest.specs.FitsStored.{FitsStored}
use Rattle.dt_nest.specs.Grid.{IsOnGrid}
use Rattle.dt_nest.specs.Outputs.{IsUnread}
use Rattle.dt_nest.specs.Schedule.{Schedule}
use Rattle.dt_job.specs.PartsOf.{IsPartOf}

-- a schedule that fits and keeps the sum, the accesses and the grid of the part's
pub next_part : (dims : List ℕ) (stored : List StoredTensor) (names : List (List ℕ)) (stmt : Stmt) (old new : Schedule) (segment : ℕ) → IsPartOf dims stored names stmt (record { sched = old; adds = stmt.adds; segment = segment })
    → KeepsSum old new → FitsStored stored new → KeepsAccesses old new → (IsOnGrid dims old → IsOnGrid dims new) → IsPartOf dims stored names stmt (record { sched = new; adds = stmt.adds; segment = segment })
next_part dims stored names stmt old new segment part sum fits keeps grid = record {
  means = λ stored tensors c f i. sum.sums stored tensors c f ∙ part.means stored tensors c (sum.fits stored tensors f) i;
  adds = part.adds;
  tensors = keeps.tensors ∙ part.tensors;
  fits = fits;
  grid = grid part.grid;
  output = keeps.output ∙ part.output;
  dense = part.dense;
  unread = subst (λ (t : ℕ). IsUnread t new.nest) (keeps.output ∙ part.output) (keeps.unread (subst (λ (t : ℕ). IsUnread t old.nest) (sym part.output) part.unread));
}
