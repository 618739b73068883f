-- What clearing words of a buffer makes of a memory.
use Rattle.std.specs.Prelude.{◌≡◌, ◌≢◌, ℕ, ◌&&◌, List, [], option_map, nat_eq, if◌then◌else◌, slice_get, unwrap_or}
use Rattle.dt_mem.specs.Memory.{Slot, value_at, words_at}
use Rattle.dt_nest.specs.Run.{is_among}
use Rattle.dt_leaf.specs.NodeWords.{layout_of}

-- the words of a buffer, and none where it is absent
abbrev pub buffer_words : List Slot → ℕ → List ℕ
buffer_words mem buf = unwrap_or (words_at mem buf) []

-- The words of a buffer that are in a list become 0, every other word keeps its value, and every other buffer is as it was.
pub record Clears (buf : ℕ) (words : List ℕ) (old new : List Slot) : Type 0 where
  pub values : (b j : ℕ) → value_at new b j ≡ (if nat_eq b buf && is_among j words then option_map {U = ℕ} (λ (x : ℕ). 0) (value_at old b j) else value_at old b j)
  pub layout : layout_of new ≡ layout_of old
  pub others : (b : ℕ) → b ≢ buf → slice_get new b ≡ slice_get old b
