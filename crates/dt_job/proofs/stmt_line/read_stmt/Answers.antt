use Rattle.std.proofs.Common.{◌≡◌, ℕ, true, List, length, ap, sym, subst, ◌∙◌, arith}
use Rattle.std.proofs.lemmas.List.{length-map}
use Rattle.dt_index.specs.Known.{is_dense_at, shapes_of_known}
use Rattle.dt_model.specs.Stmts.{IsStmt}
use Rattle.dt_nest.specs.Chain.{IsSchedulable, MeansStmt}
use Rattle.dt_nest.proofs.Schedulable.{schedulable}
use Rattle.dt_job.specs.Contents.{Contents, extents_of_all, known_of, names_of}
use Rattle.dt_job.specs.Drafts.{IsScheduled, grid_of}
use Rattle.dt_job.specs.Jobs.{IsJobStmt}
use Rattle.dt_job.specs.StmtLine.{scheduled_of}
use Rattle.dt_job.specs.Scheduled.{ScheduledView}
use Rattle.dt_job.proofs.ContentFacts.{known_shapes}
use Rattle.dt_job.proofs.StmtFacts.{first_part}
use Rattle.dt_job.proofs.stmt_line.read_stmt.Goals as goal

-- there are as many shapes as names
same_count : (tensors : Contents) → length (shapes_of_known (known_of tensors)) ≡ length (names_of tensors)
same_count tensors = ap length (known_shapes tensors) ∙ length-map tensors (λ t. t.1.packed.extents) ∙ sym (length-map tensors (λ t. t.0))

pub new-requires : goal.new-requires
new-requires c =
    let S : List (List ℕ) → Type 0 = λ names. IsSchedulable c.in_ok-stmt.stmt c.in_ok-stmt.vars names in
    let T : Contents → Type 0 = λ ts. IsStmt (shapes_of_known (known_of ts)) c.in_ok-stmt.stmt in
    let tensors : Contents = c.args.draft.now.tensors in
    subst S (sym (c.names.ensures ∙ ap (λ (ts : Contents). names_of ts) c.declared-2.ensures.tensors))
    (schedulable (shapes_of_known (known_of tensors)) c.in_ok-stmt.stmt c.in_ok-stmt.vars (names_of tensors) (subst T c.declared.ensures.tensors c.in_ok-stmt.ensures.lawful) (same_count tensors) c.in_ok-stmt.ensures.named c.in_ok-stmt.ensures.differ
    c.declared-2.ensures.lawful.differ (omega (arith, c.declared-2.ensures.lawful.few, length-map tensors (λ t. t.0))))

pub open-requires-clause-lawful : goal.open-requires-clause-lawful
open-requires-clause-lawful c =
    let tensors : Contents = c.args.draft.now.tensors in
    let M : ScheduledView → Type 0 = λ s. MeansStmt s.stmt s.sched in
    let T : Contents → Type 0 = λ ts. IsStmt (shapes_of_known (known_of ts)) c.in_ok-stmt.stmt in
    let is : c.in_ok-scheduled.scheduled ≡ scheduled_of (record { stmt = c.in_ok-stmt.stmt; variables = c.in_ok-stmt.vars }) (names_of tensors) =
    c.in_ok-scheduled.ensures.scheduled ∙ ap (λ (names : List (List ℕ)). scheduled_of (record { stmt = c.in_ok-stmt.stmt; variables = c.in_ok-stmt.vars }) names) (c.names.ensures ∙ ap (λ (ts : Contents). names_of ts) c.declared-2.ensures.tensors) in
    let stands : IsJobStmt (extents_of_all tensors) c.in_ok-stmt.stmt = record {
      stands = rw (← known_shapes tensors) (subst T c.declared.ensures.tensors c.in_ok-stmt.ensures.lawful);
      used = c.in_ok-stmt.ensures.used;
      even = c.in_ok-stmt.ensures.even;
      small = c.in_ok-stmt.ensures.small;
      unread = c.in_ok-stmt.ensures.unread;
    } in
    let left : is_dense_at (known_of tensors) c.in_ok-stmt.stmt.lhs.tensor ≡ true = subst (λ (ts : Contents). is_dense_at (known_of ts) c.in_ok-stmt.stmt.lhs.tensor ≡ true) c.declared.ensures.tensors c.in_ok-stmt.ensures.dense in
    subst (IsScheduled (grid_of c.args.draft.now.machine) tensors) (sym is) (record { stmt = stands; part = first_part (grid_of c.args.draft.now.machine) tensors c.in_ok-stmt.stmt c.in_ok-stmt.vars (subst M is c.in_ok-scheduled.ensures.means) stands c.declared-2.ensures.lawful.stored left })
