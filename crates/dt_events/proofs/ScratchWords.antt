-- What a tensor's scratch holds costs no more than the greatest of the tensor's paths on the node.
use Rattle.std.proofs.Common.{◌≡◌, ℕ, ◌-◌, ◌*◌, ◌<◌, ◌≤◌, Bool, true, false, length, Some, is_some, refl, sym, ◌∙◌, subst, ⊎_elim, arith, eqb-true, ltb-true}
use Rattle.std.specs.Prelude.{if◌then◌else◌, nat_eq, nat_lt, slice_get}
use Rattle.std.proofs.lemmas.Bool.{and_parts}
use Rattle.std.proofs.lemmas.Nat.{mul-le}
use Rattle.dt_runs.specs.Sets.{contains}
use Rattle.dt_model.specs.Positions.{cost_of, tensor_at}
use Rattle.dt_nest.specs.Meaning.{Entries}
use Rattle.dt_argument.specs.Events.{is_listed}
use Rattle.dt_plan.specs.declared.ops.Op.{Op}
use Rattle.dt_plan.specs.declared.parts.Part.{Part}
use Rattle.dt_plan.specs.declared.touches.Buffer.TheVariants.{Scratch, Work}
use Rattle.dt_plan.specs.Layouts.{Layout}
use Rattle.dt_plan.specs.Operations.{ops_of}
use Rattle.dt_plan.specs.Bounds.{scratch_words}
use Rattle.dt_plan.specs.Limits.{plan_view}
use Rattle.dt_events.specs.Conflicts.{is_same_buffer}
use Rattle.dt_events.specs.Events.{events_of}
use Rattle.dt_events.specs.State.{Word}
use Rattle.dt_events.specs.StateLaws.{AreRunnable}
use Rattle.dt_events.specs.Units.{scratch_of}
use Rattle.dt_events.specs.Jobs.{op_at, state_of, at_of}
use Rattle.dt_events.specs.PresenceLaws.{IsClosed, IsOpen, count_below}
use Rattle.dt_events.specs.LiveWords.{size_of, held_words, ScratchIsBounded}
use Rattle.dt_events.proofs.AllocWords.{IsWithin, ops_within}
use Rattle.dt_events.proofs.Frames.{op_within}
use Rattle.dt_events.proofs.Presence.{is_on, opened_whole}
use Rattle.dt_events.proofs.PresentCounts.{count_same, count_none, count_contains}

-- an operation's buffer is this scratch of a tensor on this node
pub record IsFor (l : Layout) (o : Op) (n k t : ℕ) : Type 0 where
  pub node : o.node ≡ n
  pub stmt : o.stmt ≡ k
  pub tensor : o.tensor ≡ t
  pub exists : o.tensor < length l.stored

pub is_for : (l : Layout) (o : Op) (n k t : ℕ) → is_on l o n (Scratch k t) ≡ true → IsFor l o n k t
is_for l o n k t h = go (nat_lt o.tensor (length l.stored)) refl (and_parts (nat_eq o.node n) (is_same_buffer (scratch_of l o) (Scratch k t)) h).1
  where
    node : o.node ≡ n
    node = eqb-true o.node n (and_parts (nat_eq o.node n) (is_same_buffer (scratch_of l o) (Scratch k t)) h).0

    go : (b : Bool) → nat_lt o.tensor (length l.stored) ≡ b → is_same_buffer (if b then Scratch o.stmt o.tensor else Work o.stmt (o.tensor - length l.stored)) (Scratch k t) ≡ true → IsFor l o n k t
    go true e g =
        let both = and_parts (nat_eq o.stmt k) (nat_eq o.tensor t) g in
        record { node = node; stmt = eqb-true o.stmt k both.0; tensor = eqb-true o.tensor t both.1; exists = ltb-true o.tensor (length l.stored) e }
    go false e g = absurd (cc)

module _ (l : Layout) (runnable : AreRunnable l) (x : Entries) (done : ℕ → ℕ) (n k t : ℕ) (p : Part) (here : slice_get l.parts k ≡ Some p) where
  -- whether a word is present
  abbrev held : ℕ → Bool
  held w = is_some (at_of l x done (Word n (Scratch k t) w))

  closed_costs : IsClosed (at_of l x done) n (Scratch k t) → held_words l n (at_of l x done) (Scratch k t) ≤ scratch_words l p.sched n t
  closed_costs c =
      let none : count_below held (size_of l (Scratch k t)) ≡ 0 = count_same held (λ w. false) (size_of l (Scratch k t)) c ∙ count_none (size_of l (Scratch k t)) in
      let all = mul-le (cost_of (tensor_at l.stored t)) (count_below held (size_of l (Scratch k t))) (cost_of (tensor_at l.stored t)) 0 (omega arith) (omega (arith, none)) in
      omega (arith, all)

  -- the alloc's words
  opened_costs : (o : Op) → IsFor l o n k t → cost_of (tensor_at l.stored o.tensor) * length o.words ≤ scratch_words l p.sched o.node o.tensor → cost_of (tensor_at l.stored t) * length o.words ≤ scratch_words l p.sched n t
  opened_costs o f h =
      subst (λ (m : ℕ). cost_of (tensor_at l.stored t) * length o.words ≤ scratch_words l p.sched m t) f.node
      (subst (λ (u : ℕ). cost_of (tensor_at l.stored u) * length o.words ≤ scratch_words l p.sched o.node u) f.tensor h)

  open_costs : IsOpen l (ops_of l) (length (ops_of l)) (at_of l x done) n (Scratch k t) → held_words l n (at_of l x done) (Scratch k t) ≤ scratch_words l p.sched n t
  open_costs c =
      let f = is_for l (op_at (ops_of l) c.by) n k t c.buffer in
      let within = op_within (IsWithin l) (ops_of l) c.by (ops_within l runnable) c.before in
      let cost = opened_costs (op_at (ops_of l) c.by) f (within p (subst (λ (j : ℕ). slice_get l.parts j ≡ Some p) (sym f.stmt) here) c.opens f.exists) in
      let same : count_below held (size_of l (Scratch k t)) ≡ count_below (contains (op_at (ops_of l) c.by).words) (size_of l (Scratch k t)) =
      count_same held (contains (op_at (ops_of l) c.by).words) (size_of l (Scratch k t)) c.words in
      let few = count_contains (op_at (ops_of l) c.by).words (size_of l (Scratch k t)) in
      let all = mul-le (cost_of (tensor_at l.stored t)) (count_below held (size_of l (Scratch k t))) (cost_of (tensor_at l.stored t)) (length (op_at (ops_of l) c.by).words) (omega arith) (omega (arith, same, few)) in
      omega (arith, all, cost)

-- whatever numbers of units are done
pub scratch_bounded : ScratchIsBounded
scratch_bounded l runnable x done n k t p here =
    ⊎_elim (closed_costs l runnable x done n k t p here) (open_costs l runnable x done n k t p here)
    (opened_whole l (ops_of l) (is_listed (events_of (plan_view l))) (state_of l x) done n (Scratch k t) (λ w. refl))
