-- What the items of a schedule's visits make of the numbers of tensors and workspaces, one after another.
use Rattle.std.specs.Prelude.{◌≡◌, ◌≢◌, ℕ, ◌+◌, ◌%◌, ◌^◌, ◌<◌, ◌&&◌, List, [], ◌∷◌, length, map, sum_by, if◌then◌else◌, nat_eq}
use Rattle.std.specs.Str.{bytes_eq}
use Rattle.dt_model.specs.WholeTensor.{WholeTensor}
use Rattle.dt_model.specs.Positions.{StoredTensor}
use Rattle.dt_nest.specs.declared.derivations.Derived.{Derived}
use Rattle.dt_nest.specs.Schedule.{Schedule}
use Rattle.dt_nest.specs.Meaning.{World, Entries, with_work, terms_of, nest_sum}
use Rattle.dt_nest.specs.World.{world_of, entries_of, sum_of}
use Rattle.dt_nest.specs.Lawful.{IsLawful}
use Rattle.dt_nest.specs.Outputs.{output_of, IsUnread}
use Rattle.dt_nest.specs.Visits.{LeafVisit, Item, IsReset, IsVisit, environments, value_in, visits_of}

-- what a visit adds: the sum of its terms, over the valid values of its substituted loop
abbrev pub visit_sum : World → List Derived → Entries → LeafVisit → ℕ
visit_sum w ds x visit = sum_by (λ val. terms_of x val visit.leaf.terms) (environments w ds visit)

-- the coordinates where it adds
abbrev pub left_at : World → List Derived → LeafVisit → List ℕ
left_at w ds visit = map (value_in w ds visit.pairs visit.slots) visit.leaf.lhs.vars

-- the entries with one number grown, modulo 2 ^ 64
abbrev pub with_more : Entries → ℕ → List ℕ → ℕ → Entries
with_more x t c d u e = if nat_eq u t && bytes_eq c e then (x u e + d) % 2 ^ 64 else x u e

-- the entries after an item: a reset makes each number of its workspace 0, a visit adds at one place
abbrev pub effect_of : World → List Derived → Item → Entries → Entries
effect_of w ds (IsReset work) x = with_work x (w.tensors + work) (λ c. 0)
effect_of w ds (IsVisit visit) x = with_more x visit.leaf.lhs.tensor (left_at w ds visit) (visit_sum w ds x visit)

-- the entries after some items
abbrev pub entries_after : World → List Derived → List Item → Entries → Entries
entries_after w ds [] x = x
entries_after w ds (item ∷ items) x = entries_after w ds items (effect_of w ds item x)

-- what a schedule adds at c, over these entries
abbrev pub sum_over : List StoredTensor → Schedule → Entries → List ℕ → ℕ
sum_over stored s x c = nest_sum (world_of stored s) s.derived s.nest x (λ u. u) (λ u. 0) c % 2 ^ 64

-- After all visits of a schedule the left tensor has grown by what the schedule adds at each index, modulo 2 ^ 64, and the
-- other tensors are as they were.
pub record AddsItsSum (stored : List StoredTensor) (s : Schedule) (x : Entries) : Type 0 where
  pub sums : (c : List ℕ) → entries_after (world_of stored s) s.derived (visits_of stored s []) x (output_of s.nest) c % 2 ^ 64 ≡ (x (output_of s.nest) c + sum_over stored s x c) % 2 ^ 64
  pub others : (t : ℕ) (c : List ℕ) → t < length s.tensors → t ≢ output_of s.nest → entries_after (world_of stored s) s.derived (visits_of stored s []) x t c ≡ x t c

-- So it is for each lawful schedule whose left tensor no leaf reads, whatever the tensors store, and whatever numbers the
-- tensors and workspaces have.
abbrev pub VisitsAddTheSum : Type 0
VisitsAddTheSum =
    (s : Schedule) (stored : List StoredTensor) (x : Entries) → IsLawful s → IsUnread (output_of s.nest) s.nest → AddsItsSum stored s x

-- The sum over numbers of tensors and workspaces is the schedule's sum over tensors that have these numbers.
abbrev pub SumReadsTensors : Type 0
SumReadsTensors =
    (s : Schedule) (stored : List StoredTensor) (tensors : List WholeTensor) (x : Entries) → IsLawful s → ((t : ℕ) (c : List ℕ) → t < length s.tensors → x t c ≡ entries_of tensors t c)
    → (c : List ℕ) → sum_over stored s x c ≡ sum_of stored tensors s c
