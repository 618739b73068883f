-- A schedule as contracts see it.
use Rattle.std.specs.Prelude.{ℕ, List}
use Rattle.dt_nest.specs.declared.derivations.Derived.{Derived}
use Rattle.dt_nest.specs.declared.parts.Moved.{Moved}
use Rattle.dt_nest.specs.declared.parts.Work.{Work}
use Rattle.dt_nest.specs.declared.parts.SchedParts.{SchedParts}
use Rattle.dt_nest.specs.Tree.{Tree, tree_of}

-- the parts of a schedule, with the tree that its nest is
pub record Schedule : Type 0 where
  pub nest : Tree
  pub derived : List Derived
  pub distributed : ℕ
  pub moved : List Moved
  pub tensors : List (List ℕ)
  pub names : List (List ℕ)
  pub extents : List ℕ
  pub works : List Work

-- the schedule that these parts are
abbrev pub seen : SchedParts → Schedule
seen p = record { nest = tree_of p.nest; derived = p.derived; distributed = p.distributed; moved = p.moved; tensors = p.tensors; names = p.names; extents = p.extents; works = p.works }
