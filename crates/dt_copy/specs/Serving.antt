-- Pieces serve the need that they are cut from.
use Rattle.std.specs.Prelude.{◌≡◌, ℕ, ◌<◌, true, ◌&&◌, List, length, count_by, nat_eq, if◌then◌else◌}
use Rattle.std.specs.List.{AllByRecursion, list_any}
use Rattle.dt_runs.specs.Sets.{contains}
use Rattle.dt_copy.specs.declared.piece_list.Piece.{Piece}
use Rattle.dt_copy.specs.Sources.{home_at, pieces_of, shares_of}

-- each word of the piece is needed, and in the home of the piece's node
abbrev pub IsHeld : List ℕ → List (List ℕ) → Piece → Type 0
IsHeld need homes p = (x : ℕ) → contains p.words x ≡ true → (contains need x ≡ true) × (contains (home_at homes p.node) x ≡ true)

-- all words of the pieces are needed and held by their nodes, and each needed word that some home has is in a piece
pub record ServeNeed (need : List ℕ) (homes : List (List ℕ)) (pieces : List Piece) : Type 0 where
  pub held : AllByRecursion (IsHeld need homes) pieces
  pub whole : (x : ℕ) → contains need x ≡ true → list_any (λ home. contains home x) homes ≡ true → list_any (λ (p : Piece). contains p.words x) pieces ≡ true

-- so do the pieces of each need at each node
abbrev pub PiecesServe : Type 0
PiecesServe = (need : List ℕ) (homes : List (List ℕ)) (node : ℕ) → node < length homes → ServeNeed need homes (pieces_of need homes node)

-- all words of the shares are needed and held by their nodes, and each home gets each needed word that it has once
pub record ReachHomes (need : List ℕ) (homes : List (List ℕ)) (shares : List Piece) : Type 0 where
  pub held : AllByRecursion (IsHeld need homes) shares
  pub once : (m x : ℕ) → count_by (λ (p : Piece). nat_eq p.node m && contains p.words x) shares ≡ (if contains need x && contains (home_at homes m) x then 1 else 0)

-- so do the shares of each need
abbrev pub SharesReachHomes : Type 0
SharesReachHomes = (need : List ℕ) (homes : List (List ℕ)) → ReachHomes need homes (shares_of need homes)
