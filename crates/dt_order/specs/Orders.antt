-- Orders as a job states them.
use Rattle.std.specs.Prelude.{ℕ, suc, ◌^◌, ◌&&◌, ◌||◌, Bool, List, [], ◌∷◌, length, map, take, drop, codes, unwrap_or, if◌then◌else◌, nat_le, nat_lt, Result, Ok, Err}
use Rattle.std.specs.List.{list_all, list_any, position_or_len}
use Rattle.std.specs.Option.{is_some}
use Rattle.std.specs.Str.{bytes_eq}
use Rattle.dt_text.specs.Numbers.{is_numeral, number_of}
use Rattle.dt_text.specs.Parts.{is_byte}
use Rattle.dt_model.specs.declared.cause.Cause.{Cause}
use Rattle.dt_model.specs.declared.cause.Cause.TheVariants as cause
use Rattle.dt_model.specs.Steps.{◌>>=◌, need, found}
use Rattle.dt_order.specs.declared.orders.Entry.{Entry}
use Rattle.dt_order.specs.declared.orders.Entry.TheVariants.{Count, Range}
use Rattle.dt_order.specs.declared.entries.Test.{Test}
use Rattle.dt_order.specs.declared.entries.Test.TheVariants as test
use Rattle.dt_order.specs.declared.orders.Order.{Order}
use Rattle.dt_order.specs.declared.orders.Order.TheVariants as order

-- Entries ---------------------------------------------------------------------------------------------------------------

-- the bytes that part an entry: `*` in K*C, `-` in A-B
abbrev pub is_parting : ℕ → Bool
is_parting b = is_byte 42 b || is_byte 45 b

-- whether an entry counts the units of one operation, as K*C does
abbrev pub is_counted : List ℕ → Bool
is_counted w = list_any (is_byte 42) w

-- what stands before the first such byte, all of it where there is none
abbrev pub first_part : List ℕ → List ℕ
first_part w = take (position_or_len is_parting w) w

-- what stands behind it; K is K-K
abbrev pub second_part : List ℕ → List ℕ
second_part w = if nat_lt (position_or_len is_parting w) (length w) then drop (suc (position_or_len is_parting w)) w else w

-- whether a word is K, K*C or A-B
abbrev pub is_entry : List ℕ → Bool
is_entry w = is_numeral (first_part w) && is_numeral (second_part w)

-- whether both numbers are below 2^64
abbrev pub has_numbers : List ℕ → Bool
has_numbers w = is_some (number_of (first_part w)) && is_some (number_of (second_part w))

-- the numbers of an entry
abbrev pub first_number : List ℕ → ℕ
first_number w = unwrap_or (number_of (first_part w)) 0

abbrev pub second_number : List ℕ → ℕ
second_number w = unwrap_or (number_of (second_part w)) 0

-- whether an entry asks for a unit: no count is 0, and no range falls
abbrev pub asks_units : List ℕ → Bool
asks_units w = if is_counted w then nat_lt 0 (second_number w) else nat_le (first_number w) (second_number w)

-- whether both numbers are below 2^32
abbrev pub is_small : List ℕ → Bool
is_small w = nat_lt (first_number w) (2 ^ 32) && nat_lt (second_number w) (2 ^ 32)

-- whether an entry passes one of these tests
abbrev pub passes : Test → List ℕ → Bool
passes test.IsEntry w = is_entry w
passes test.HasNumbers w = has_numbers w
passes test.AsksUnits w = asks_units w
passes test.IsSmall w = is_small w

-- the entry that a word is
abbrev pub entry_of : List ℕ → Entry
entry_of w = if is_counted w then Count (first_number w) (second_number w) else Range (first_number w) (second_number w)

-- Orders ----------------------------------------------------------------------------------------------------------------

-- `listing`, with nothing behind it
abbrev pub listing_of : List (List ℕ) → Result Order Cause
listing_of [] = Ok order.Listing
listing_of (w ∷ ws) = Err cause.Syntax

-- `seed N`
unfoldable pub seed_of : List (List ℕ) → Result Order Cause
seed_of (n ∷ []) = do
  _ ← need (is_numeral n) cause.Syntax
  seed ← found (number_of n) cause.BadNumber
  Ok (order.Seed seed)
seed_of _ = Err cause.Syntax

-- `steps E E ..`: the tests go over all entries, one test after the other
unfoldable pub steps_of : List (List ℕ) → Result Order Cause
steps_of [] = Err cause.Syntax
steps_of (w ∷ ws) = do
  _ ← need (list_all is_entry (w ∷ ws)) cause.Syntax
  _ ← need (list_all has_numbers (w ∷ ws)) cause.BadNumber
  _ ← need (list_all asks_units (w ∷ ws)) cause.Syntax
  _ ← need (list_all is_small (w ∷ ws)) cause.BadNumber
  Ok (order.Steps (map entry_of (w ∷ ws)))

-- the order that a line states behind its first word, or the first cause against it
unfoldable pub order_of : List (List ℕ) → Result Order Cause
order_of [] = Err cause.Syntax
order_of (kind ∷ rest) =
    if bytes_eq kind (codes "listing") then listing_of rest
    else if bytes_eq kind (codes "seed") then seed_of rest
    else if bytes_eq kind (codes "steps") then steps_of rest
    else Err cause.Syntax
