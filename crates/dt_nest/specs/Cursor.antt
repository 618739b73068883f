-- What a cursor needs room for.
use Rattle.std.specs.Prelude.{◌≡◌, ℕ, length}
use Rattle.dt_nest.specs.declared.cursor.Cursor.{Cursor}

-- each of so many names has a slot and a value
abbrev pub HasRoom : Cursor → ℕ → Type 0
HasRoom cursor names = (length cursor.slots.items ≡ names) × (length cursor.values.items ≡ names)
