-- Tokens by their places in a text.
use Rattle.std.specs.Prelude.{ℕ, ◌<◌, ◌≤◌, List, slice_range}
use Rattle.std.specs.List.{All, AllPairs}
use Rattle.dt_text.specs.declared.token_list.Token.{Token}

-- the bytes of a token
abbrev pub token_in : List ℕ → Token → List ℕ
token_in text t = slice_range text t.from t.to

-- a token is a piece of a text of n bytes
abbrev pub IsToken : ℕ → Token → Type 0
IsToken n t = (t.from ≤ t.to) × (t.to ≤ n)

-- a token lies between two places and is not empty
abbrev pub IsSpan : ℕ → ℕ → Token → Type 0
IsSpan from to t = (from ≤ t.from) × (t.from < t.to) × (t.to ≤ to)

-- the first token ends before the second begins
abbrev pub IsBefore : Token → Token → Type 0
IsBefore s t = s.to ≤ t.from

-- tokens lie between two places, are not empty, and ascend
abbrev pub AreSpans : ℕ → ℕ → List Token → Type 0
AreSpans from to ts = All (IsSpan from to) ts × AllPairs IsBefore ts
