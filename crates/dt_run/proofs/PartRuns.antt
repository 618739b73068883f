-- Parts run one after another on tensors over stored ones.
use Rattle.std.proofs.Common.{◌≡◌, ℕ, zero, suc, ◌+◌, ◌<◌, ◌≤◌, false, List, [], ◌∷◌, length, get_or, take, Option, Some, None, refl, sym, ap, ◌∙◌, subst, arith, slice_get, slice_set, unwrap_or, option_map}
use Rattle.std.proofs.lemmas.List.{take_all}
use Rattle.std.proofs.lemmas.List.Sums.{fold_more}
use Rattle.dt_base.specs.Rows.{row_major}
use Rattle.dt_base.proofs.Assignments.{position-assignments}
use Rattle.dt_model.specs.WholeTensor.{WholeTensor, number_at}
use Rattle.dt_model.specs.Positions.{StoredTensor, place_in, tensor_at}
use Rattle.dt_model.specs.Stmts.{shapes_of}
use Rattle.dt_model.specs.Value.{number_after, left_after, tensors_after, final_of}
use Rattle.dt_model.specs.declared.stmt.Stmt.{Stmt}
use Rattle.dt_nest.specs.Outputs.{IsUnread}
use Rattle.dt_tensor.specs.Packed.{dense_levels}
use Rattle.dt_tensor.proofs.Tables.{length-table}
use Rattle.dt_job.specs.PartsOf.{IsPartOf, ArePartsOf}
use Rattle.dt_plan.specs.declared.parts.Part.{Part}
use Rattle.dt_run.specs.Running.{AreOver, AreWorkless}
use Rattle.dt_run.specs.Visiting.{IsRunnable, IsStmtOf}
use Rattle.dt_run.proofs.OverStored.{fits_over, set_over, stored_extents}

-- Statements -------------------------------------------------------------------------------------------------------------

-- a tensor with dense levels alone stores each index
pub stores_all : (t : StoredTensor) → t ≡ dense_levels t.extents → (c : List ℕ) → place_in t c ≡ None → row_major t.extents c ≡ None
stores_all t e c p = sym (position-assignments t.extents c) ∙ sym (ap (λ (u : StoredTensor). place_in u c) e) ∙ p

-- after a statement whose left tensor has dense levels alone, the tensors are over the stored ones
pub after_over : (stored : List StoredTensor) (ts : List WholeTensor) (s : Stmt) → tensor_at stored s.lhs.tensor ≡ dense_levels (tensor_at stored s.lhs.tensor).extents → AreOver stored ts → AreOver stored (tensors_after s ts)
after_over stored ts s dense o = go (slice_get ts s.lhs.tensor) refl
  where
    no_number : (x : WholeTensor) (c : List ℕ) → row_major x.extents c ≡ None → ◌≡◌ {A = ℕ} (unwrap_or (number_at x c) 0) 0
    no_number x c e = rw e refl

    go : (r : Option WholeTensor) → slice_get ts s.lhs.tensor ≡ r → AreOver stored (tensors_after s ts)
    go None e = rw e o
    go (Some left) e =
        subst (AreOver stored) (sym (ap (λ (r : Option WholeTensor). unwrap_or (option_map (λ l. slice_set ts s.lhs.tensor (left_after s ts l)) r) ts) e))
        (set_over ts s.lhs.tensor left (left_after s ts left) e refl stored o (length-table (number_after s ts left) left.extents)
        (λ c p. no_number (left_after s ts left) c (sym (ap (λ (ns : List ℕ). row_major ns c) (stored_extents stored ts s.lhs.tensor left o.shapes e)) ∙ stores_all (tensor_at stored s.lhs.tensor) dense c p)))

-- Parts ------------------------------------------------------------------------------------------------------------------

module _ (dims : List ℕ) (stored : List StoredTensor) (names : List (List ℕ)) where
  -- there are as many statements
  pub count_parts : (stmts : List Stmt) (parts : List Part) → ArePartsOf dims stored names stmts parts → length stmts ≡ length parts
  count_parts [] [] h = refl
  count_parts [] (p ∷ parts) h = absurd h
  count_parts (s ∷ stmts) [] h = absurd h
  count_parts (s ∷ stmts) (p ∷ parts) h = ap suc (count_parts stmts parts h.1)

  -- each part is one of its statement
  pub part_at : (stmts : List Stmt) (parts : List Part) (k : ℕ) (s : Stmt) (p : Part) → ArePartsOf dims stored names stmts parts → k < length parts → IsPartOf dims stored names (get_or stmts k s) (get_or parts k p)
  part_at [] [] k s p h l = absurd (omega arith)
  part_at [] (q ∷ parts) k s p h l = absurd h
  part_at (t ∷ stmts) [] k s p h l = absurd h
  part_at (t ∷ stmts) (q ∷ parts) zero s p h l = h.0
  part_at (t ∷ stmts) (q ∷ parts) (suc k) s p h l = part_at stmts parts k s p h.1 (omega arith)

-- a part runs on tensors over the stored ones
part_runs : (dims : List ℕ) (stored : List StoredTensor) (names : List (List ℕ)) (ts : List WholeTensor) (s : Stmt) (p : Part) → IsPartOf dims stored names s p → p.sched.works ≡ [] → AreOver stored ts → IsRunnable stored ts p.sched
part_runs dims stored names ts s p h workless o = record {
  fits = fits_over stored ts p.sched h.fits o;
  workless = workless;
  unread = subst (λ (t : ℕ). IsUnread t p.sched.nest) (sym h.output) h.unread;
}

-- what the schedule means is the part's statement
part_stmt : (dims : List ℕ) (stored : List StoredTensor) (names : List (List ℕ)) (s : Stmt) (p : Part) → IsPartOf dims stored names s p → IsStmtOf s p.sched p.adds
part_stmt dims stored names s p h = record { means = h.means; left = sym h.output; same = sym h.adds }

-- each of parts without workspaces has none
workless_at : (parts : List Part) (k : ℕ) (p : Part) → AreWorkless parts → k < length parts → p ≡ get_or parts k p → p.sched.works ≡ []
workless_at [] k p h l e = absurd (omega (arith, l))
workless_at (q ∷ parts) zero p h l e = ap (λ (x : Part). x.sched.works) e ∙ h.0
workless_at (q ∷ parts) (suc k) p h l e = workless_at parts k p h.1 (omega (arith, l)) e

-- no statement
pub none : Stmt
none = record { lhs = record { tensor = 0; vars = [] }; adds = false; terms = []; extents = [] }

-- the part k is one of some statement
some_stmt : (stored : List StoredTensor) (parts : List Part) (k : ℕ) (p : Part) → ((dims : List ℕ) × (names : List (List ℕ)) × (stmts : List Stmt) × ArePartsOf dims stored names stmts parts) → k < length parts → p ≡ get_or parts k p
    → (dims : List ℕ) × (names : List (List ℕ)) × (s : Stmt) × IsPartOf dims stored names s p
some_stmt stored parts k p (dims, names, stmts, h) l e = (dims, names, get_or stmts k none, subst (IsPartOf dims stored names (get_or stmts k none)) (sym e) (part_at dims stored names stmts parts k none p h l))

-- The first k parts have run: the tensors are those after the first statements, and over the stored ones.
pub record HaveRun (stored : List StoredTensor) (parts : List Part) (k : ℕ) (before after : List WholeTensor) : Type 0 where
  pub over : AreOver stored after
  pub done : (dims : List ℕ) (names : List (List ℕ)) (stmts : List Stmt) → ArePartsOf dims stored names stmts parts → after ≡ final_of (take k stmts) before
  pub shapes : shapes_of after ≡ shapes_of before

module _ (stored : List StoredTensor) (parts : List Part) (some : (dims : List ℕ) × (names : List (List ℕ)) × (stmts : List Stmt) × ArePartsOf dims stored names stmts parts) (k : ℕ) (p : Part) (l : k < length parts) (e : p ≡ get_or parts k p) where
  -- the next part may run
  pub next_runs : AreWorkless parts → (ts : List WholeTensor) → AreOver stored ts → IsRunnable stored ts p.sched
  next_runs works ts o = go (some_stmt stored parts k p some l e)
    where
      go : ((dims : List ℕ) × (names : List (List ℕ)) × (s : Stmt) × IsPartOf dims stored names s p) → IsRunnable stored ts p.sched
      go (dims, names, s, h) = part_runs dims stored names ts s p h (workless_at parts k p works l e) o

  -- what it makes of the tensors is over the stored ones
  next_over : (between after : List WholeTensor) → AreOver stored between → ((s : Stmt) → IsStmtOf s p.sched p.adds → after ≡ tensors_after s between) → AreOver stored after
  next_over between after o runs = go (some_stmt stored parts k p some l e)
    where
      go : ((dims : List ℕ) × (names : List (List ℕ)) × (s : Stmt) × IsPartOf dims stored names s p) → AreOver stored after
      go (dims, names, s, h) =
          subst (AreOver stored) (sym (runs s (part_stmt dims stored names s p h)))
          (after_over stored between s h.dense o)

  -- one more part has run
  pub run_more : (before between after : List WholeTensor) → HaveRun stored parts k before between
      → ((s : Stmt) → IsStmtOf s p.sched p.adds → after ≡ tensors_after s between) → shapes_of after ≡ shapes_of between → HaveRun stored parts (k + 1) before after
  run_more before between after h runs shapes = record {
    over = next_over between after h.over runs;
    done = λ dims names stmts q. done dims names stmts q;
    shapes = shapes ∙ h.shapes;
  }
    where
      done : (dims : List ℕ) (names : List (List ℕ)) (stmts : List Stmt) → ArePartsOf dims stored names stmts parts → after ≡ final_of (take (k + 1) stmts) before
      done dims names stmts q =
          let room : k < length stmts = omega (arith, l, count_parts dims stored names stmts parts q) in
          let is : IsPartOf dims stored names (get_or stmts k none) p = subst (IsPartOf dims stored names (get_or stmts k none)) (sym e) (part_at dims stored names stmts parts k none p q l) in
          runs (get_or stmts k none) (part_stmt dims stored names (get_or stmts k none) p is)
          ∙ ap (tensors_after (get_or stmts k none)) (h.done dims names stmts q)
          ∙ sym (fold_more (λ ts s. tensors_after s ts) before stmts k none room)

-- all parts have run
pub all_run : (stored : List StoredTensor) (parts : List Part) (k : ℕ) (before after : List WholeTensor) → length parts ≤ k → HaveRun stored parts k before after
    → (dims : List ℕ) (names : List (List ℕ)) (stmts : List Stmt) → ArePartsOf dims stored names stmts parts → after ≡ final_of stmts before
all_run stored parts k before after l h dims names stmts q =
    h.done dims names stmts q ∙ ap (λ (ss : List Stmt). final_of ss before) (take_all k stmts (omega (arith, l, count_parts dims stored names stmts parts q)))
