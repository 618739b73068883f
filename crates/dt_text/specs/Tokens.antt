-- Tokens: what stands between blanks.
use Rattle.std.specs.Prelude.{ℕ, List, [], ◌∷◌, drop, length, nat_lt, Bool, true, ◌==◌, ◌||◌, if◌then◌else◌}
use Rattle.std.specs.List.{prefix_len, position_or_len, before_first}
use Rattle.dt_text.specs.Lines.{onto_first}

-- a space or a tab
abbrev pub is_blank : ℕ → Bool
is_blank b = (b == 32) || (b == 9)

-- whether no token goes on here
abbrev pub starts_blank : List ℕ → Bool
starts_blank [] = true
starts_blank (b ∷ bs) = is_blank b

-- the tokens of a text, in order
abbrev pub tokens_of : List ℕ → List (List ℕ)
tokens_of [] = []
tokens_of (b ∷ bs) = if is_blank b then tokens_of bs else (if starts_blank bs then (b ∷ []) ∷ tokens_of bs else onto_first b (tokens_of bs))

-- a text without the blanks at its front
abbrev pub behind_blanks : List ℕ → List ℕ
behind_blanks text = drop (prefix_len is_blank text) text

-- whether a text has a token
abbrev pub has_word : List ℕ → Bool
has_word text = nat_lt 0 (length (behind_blanks text))

-- the first token of a text that has one
abbrev pub first_word : List ℕ → List ℕ
first_word text = before_first is_blank (behind_blanks text)

-- what stands behind the first token
abbrev pub after_word : List ℕ → List ℕ
after_word text = drop (position_or_len is_blank (behind_blanks text)) (behind_blanks text)
