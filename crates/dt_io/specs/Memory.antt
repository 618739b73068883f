-- A source, a sink and a store in memory, as contracts see them.
use Rattle.std.specs.Prelude.{ℕ, ◌-◌, ◌==◌, List, Bool, length, if◌then◌else◌}
use Rattle.std.specs.List.{list_any}
use Rattle.dt_io.specs.Faults.{one_more}
use Rattle.dt_io.specs.declared.files.NamedFile.{NamedFile}

-- a source: its bytes that are left, how many it gives at most in a call, the numbers of the calls that are to
-- fail, counted from 1, how many calls there were, and how many failed
pub record SourceState : Type 0 where
  pub left : List ℕ
  pub piece : ℕ
  pub fails : List ℕ
  pub calls : ℕ
  pub faults : ℕ

-- a sink: the bytes that were written, how many it can hold, how many it takes at most in a call, the numbers of
-- the calls that are to fail, counted from 1, how many calls there were, and how many failed
pub record SinkState : Type 0 where
  pub written : List ℕ
  pub room : ℕ
  pub piece : ℕ
  pub fails : List ℕ
  pub calls : ℕ
  pub faults : ℕ

-- how many bytes still fit into a sink
abbrev pub room_left : SinkState → ℕ
room_left s = s.room - length s.written

-- a store: its files, the numbers of the calls that are to fail, counted from 1, how many calls there were, and how
-- many failed
pub record StoreState : Type 0 where
  pub files : List NamedFile
  pub fails : List ℕ
  pub calls : ℕ
  pub faults : ℕ

-- whether the next call is to fail
abbrev pub is_failing : StoreState → Bool
is_failing s = list_any (λ n. n == one_more s.calls) s.fails

-- the store after one more call
abbrev pub called : StoreState → StoreState
called s = record { files = s.files; fails = s.fails; calls = one_more s.calls; faults = if is_failing s then one_more s.faults else s.faults }
