-- Which nodes words come from, and which homes have them.
use Rattle.std.specs.Prelude.{◌≡◌, ℕ, Bool, true, false, List, [], ◌∷◌, length, filter, position, count_by, Option, Some, None, nat_eq, if◌then◌else◌, slice_index_or}
use Rattle.std.specs.List.{flat_map, list_any}
use Rattle.dt_base.specs.Ranges.{below}
use Rattle.dt_runs.specs.Sets.{contains}
use Rattle.dt_copy.specs.declared.piece_list.Piece.{Piece}

-- the words that a node is home to
abbrev pub home_at : List (List ℕ) → ℕ → List ℕ
home_at homes node = slice_index_or homes node []

-- the node that a word is copied from: the node itself where its home has it, else the least node whose home has it
abbrev pub source_of : List (List ℕ) → ℕ → ℕ → Option ℕ
source_of homes node x = if contains (home_at homes node) x then Some node else position (λ home. contains home x) homes

-- whether a node is the one that was found
abbrev pub is_it : ℕ → Option ℕ → Bool
is_it m None = false
is_it m (Some k) = nat_eq k m

-- the piece of these words at node m, if there are any
abbrev pub piece_of : ℕ → List ℕ → List Piece
piece_of m [] = []
piece_of m (x ∷ xs) = record { node = m; words = x ∷ xs } ∷ []

-- the words of a need that come from node m
abbrev pub words_from : List ℕ → List (List ℕ) → ℕ → ℕ → List ℕ
words_from need homes node m = filter (λ x. is_it m (source_of homes node x)) need

-- the pieces of a need at a node, by their sources, ascending
abbrev pub pieces_of : List ℕ → List (List ℕ) → ℕ → List Piece
pieces_of need homes node = flat_map (λ m. piece_of m (words_from need homes node m)) (below (length homes))

-- the pieces that a need has in common with each home, by their nodes, ascending
abbrev pub shares_of : List ℕ → List (List ℕ) → List Piece
shares_of need homes = flat_map (λ m. piece_of m (filter (contains (home_at homes m)) need)) (below (length homes))

-- each needed word that some home has is in exactly one piece
abbrev pub EachWordOnce : List ℕ → List (List ℕ) → List Piece → Type 0
EachWordOnce need homes pieces = (x : ℕ) → contains need x ≡ true → list_any (λ home. contains home x) homes ≡ true → count_by (λ (p : Piece). contains p.words x) pieces ≡ 1
