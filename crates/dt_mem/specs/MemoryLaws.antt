-- What each change of a memory makes of the value of every word: a memory is one finite map.
use Rattle.std.specs.Prelude.{◌≡◌, ℕ, ◌+◌, ◌%◌, ◌^◌, ◌&&◌, ◌<◌, List, length, Some, None, option_map, nat_eq, if◌then◌else◌}
use Rattle.dt_mem.specs.Memory.{Slot, changed, ended, folded, opened, place_of, value_at, written}

-- a buffer that begins has 0 in each of its words
abbrev pub BeginsWithZeros : Type 0
BeginsWithZeros =
    (m : List Slot) (b : ℕ) (words : List ℕ) → b < length m
    → (c w : ℕ) → value_at (changed (opened words) b m) c w ≡ (if nat_eq c b then option_map (λ (k : ℕ). 0) (place_of words w) else value_at m c w)

-- a buffer that ends has no word
abbrev pub EndsWithNothing : Type 0
EndsWithNothing = (m : List Slot) (b c w : ℕ) → value_at (changed ended b m) c w ≡ (if nat_eq c b then None else value_at m c w)

-- a word that is written has that value, and every other word keeps its own
abbrev pub WritesOneWord : Type 0
WritesOneWord =
    (m : List Slot) (b w x v : ℕ) → value_at m b w ≡ Some x
    → (c u : ℕ) → value_at (changed (written w v) b m) c u ≡ (if nat_eq c b && nat_eq u w then Some v else value_at m c u)

-- a word that grows has the sum, modulo 2 ^ 64, and every other word keeps its value
abbrev pub FoldsOneWord : Type 0
FoldsOneWord =
    (m : List Slot) (b w x d : ℕ) → value_at m b w ≡ Some x
    → (c u : ℕ) → value_at (changed (folded w d) b m) c u ≡ (if nat_eq c b && nat_eq u w then Some ((x + d) % 2 ^ 64) else value_at m c u)
