-- What a visit reads is held, and which word it writes.
use Rattle.std.proofs.Common.{◌≡◌, ℕ, ◌%◌, ◌^◌, Bool, true, List, [], ◌∷◌, length, map, Option, None, sym, ap, ◌∙◌, subst}
use Rattle.std.specs.List.{AllByRecursion, list_all}
use Rattle.dt_model.specs.Positions.{StoredTensor}
use Rattle.dt_model.proofs.ShapeFacts.{both}
use Rattle.dt_model.specs.declared.stmt.Access.{Access}
use Rattle.dt_model.specs.declared.stmt.Term.{Term}
use Rattle.dt_nest.specs.Tree.{read_accesses}
use Rattle.dt_nest.specs.Schedule.{Schedule}
use Rattle.dt_nest.specs.World.{world_of}
use Rattle.dt_nest.specs.Effects.{visit_sum}
use Rattle.dt_nest.specs.Visits.{IsVisit, environments, value_in}
use Rattle.dt_nest.specs.Run.{Run}
use Rattle.dt_nest.specs.Point.{visit_of, env_at}
use Rattle.dt_nest.specs.Unit.{State, added_by, are_held, can_do, entries_in, grown_at, is_held, unit_of, word_of, written_by}
use Rattle.dt_leaf.specs.AtVisit.{AreReadable}
use Rattle.dt_leaf.specs.NodeWords.{GoesOver, readable_in}

each_true : {X : Type 0} (p : X → Bool) (xs : List X) → list_all p xs ≡ true → AllByRecursion (λ x. p x ≡ true) xs
each_true p [] e = tt
each_true p (x ∷ xs) e = ((both (p x) (list_all p xs) e).0, each_true p xs (both (p x) (list_all p xs) e).1)

map_all : {X : Type 0} (P Q : X → Type 0) → ((x : X) → P x → Q x) → (xs : List X) → AllByRecursion P xs → AllByRecursion Q xs
map_all P Q f [] h = tt
map_all P Q f (x ∷ xs) h = (f x h.0, map_all P Q f xs h.1)

-- what can be read, over as many tensors as the schedule has
abbrev pub Reads : List StoredTensor → Schedule → State → ℕ → List ℕ → Type 0
Reads stored s state t c = (length stored ≡ length s.tensors) × readable_in stored s state t c

module _ (stored : List StoredTensor) (s : Schedule) (state : State) (r : Run) (over : GoesOver r s stored) where
  reads_held : can_do stored s (IsVisit (visit_of r)) state ≡ true → AllByRecursion (AreReadable (Reads stored s state) (visit_of r).leaf.terms) (environments (world_of stored s) s.derived (visit_of r))
  unfolding can_do
  reads_held can =
      map_all (λ val. are_held stored s state val (read_accesses (visit_of r).leaf.terms) ≡ true) (AreReadable (Reads stored s state) (visit_of r).leaf.terms)
      (λ val h. map_all (λ (a : Access). is_held state a.tensor (word_of stored s a.tensor (map val a.vars)) ≡ true) (λ (a : Access). Reads stored s state a.tensor (map val a.vars)) (λ a k. (over.2, k)) (read_accesses (visit_of r).leaf.terms)
      (each_true (λ (a : Access). is_held state a.tensor (word_of stored s a.tensor (map val a.vars))) (read_accesses (visit_of r).leaf.terms) h))
      (environments (world_of stored s) s.derived (visit_of r))
      (each_true (λ val. are_held stored s state val (read_accesses (visit_of r).leaf.terms)) (environments (world_of stored s) s.derived (visit_of r))
      (both (is_held state (visit_of r).leaf.lhs.tensor (written_by stored s (visit_of r))) (list_all (λ val. are_held stored s state val (read_accesses (visit_of r).leaf.terms)) (environments (world_of stored s) s.derived (visit_of r))) can).1)

  -- each word that a visit reads is held
  pub reads_there : (terms : List Term) → terms ≡ (visit_of r).leaf.terms → can_do stored s (IsVisit (visit_of r)) state ≡ true
      → AllByRecursion (AreReadable (Reads stored s state) terms) (environments (world_of r.stored r.sched) r.sched.derived (visit_of r))
  reads_there terms e can =
      subst (λ (ts : List Term). AllByRecursion (AreReadable (Reads stored s state) ts) (environments (world_of r.stored r.sched) r.sched.derived (visit_of r))) (sym e)
      (subst (λ (sc : Schedule). AllByRecursion (AreReadable (Reads stored s state) (visit_of r).leaf.terms) (environments (world_of r.stored sc) sc.derived (visit_of r))) (sym over.0)
      (subst (λ (st : List StoredTensor). AllByRecursion (AreReadable (Reads stored s state) (visit_of r).leaf.terms) (environments (world_of st s) s.derived (visit_of r))) (sym over.1) (reads_held can)))

  -- the word at the coordinates of the left access is the one that the visit writes
  pub writes_word : (lhs : Access) (c : List ℕ) (w : Option ℕ) → lhs ≡ (visit_of r).leaf.lhs → c ≡ map (env_at r None) lhs.vars → w ≡ word_of stored s lhs.tensor c → w ≡ written_by stored s (visit_of r)
  unfolding env_at
  writes_word lhs c w l e q =
      q ∙ ap (word_of stored s lhs.tensor) e ∙ ap (λ (a : Access). word_of stored s a.tensor (map (env_at r None) a.vars)) l
      ∙ ap (λ (st : List StoredTensor). word_of stored s (visit_of r).leaf.lhs.tensor (map (value_in (world_of st r.sched) r.sched.derived (visit_of r).pairs (visit_of r).slots) (visit_of r).leaf.lhs.vars)) over.1
      ∙ ap (λ (sc : Schedule). word_of stored s (visit_of r).leaf.lhs.tensor (map (value_in (world_of stored sc) sc.derived (visit_of r).pairs (visit_of r).slots) (visit_of r).leaf.lhs.vars)) over.0

  -- and it is held
  pub writes_held : (lhs : Access) (w : Option ℕ) → lhs ≡ (visit_of r).leaf.lhs → w ≡ written_by stored s (visit_of r) → can_do stored s (IsVisit (visit_of r)) state ≡ true → is_held state lhs.tensor w ≡ true
  unfolding can_do
  writes_held lhs w l q can =
      rw (l, q) (both (is_held state (visit_of r).leaf.lhs.tensor (written_by stored s (visit_of r))) (list_all (λ val. are_held stored s state val (read_accesses (visit_of r).leaf.terms)) (environments (world_of stored s) s.derived (visit_of r))) can).0

  -- the number is what the visit adds
  pub adds_number : (n : ℕ) → n ≡ visit_sum (world_of r.stored r.sched) r.sched.derived (entries_in stored s state) (visit_of r) % 2 ^ 64 → n ≡ added_by stored s state (visit_of r) % 2 ^ 64
  adds_number n e =
      e ∙ ap (λ (st : List StoredTensor). visit_sum (world_of st r.sched) r.sched.derived (entries_in stored s state) (visit_of r) % 2 ^ 64) over.1
      ∙ ap (λ (sc : Schedule). visit_sum (world_of stored sc) sc.derived (entries_in stored s state) (visit_of r) % 2 ^ 64) over.0

  -- so the unit is done
  pub unit_done : (lhs : Access) (w : Option ℕ) (after : State) → lhs ≡ (visit_of r).leaf.lhs → w ≡ written_by stored s (visit_of r) → after ≡ grown_at state lhs.tensor w (added_by stored s state (visit_of r))
      → after ≡ unit_of stored s (IsVisit (visit_of r)) state
  unfolding unit_of
  unit_done lhs w after l q e =
      e ∙ ap (λ (o : Option ℕ). grown_at state lhs.tensor o (added_by stored s state (visit_of r))) q
      ∙ ap (λ (a : Access). grown_at state a.tensor (written_by stored s (visit_of r)) (added_by stored s state (visit_of r))) l
