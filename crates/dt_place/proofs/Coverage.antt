-- Each position of a tensor is in some node's home.
use Rattle.std.proofs.Common.{◌≡◌, ℕ, zero, suc, ◌+◌, ◌-◌, ◌*◌, ◌/◌, ◌<◌, ◌≤◌, List, [], ◌∷◌, length, get_or, map, refl, ap, sym, ◌∙◌, subst, arith, Option, Some, None, option_map, Bool, true, false, cond, ◌&&◌, nat_eq, nat_le, nat_lt}
use Rattle.std.specs.Prelude.{slice_index}
use Rattle.std.specs.List.{All, AllByRecursion, AllZip, list_all, zip}
use Rattle.std.proofs.lemmas.Bool.{and_from, eq-eqb, eqb-true, le-leb, lt-ltb, ltb-true}
use Rattle.std.proofs.lemmas.List.{get_or-map, get_or_default}
use Rattle.std.proofs.lemmas.List.Elements.{All-filter, All-from_get_or, All-get_or}
use Rattle.dt_base.specs.Ranges.{assignments, below}
use Rattle.dt_base.specs.Rows.{product, row_major}
use Rattle.dt_base.proofs.Rows.{row_major-below}
use Rattle.dt_model.specs.Positions.{StoredTensor, IsStored, coords_at, is_followed}
use Rattle.dt_place.specs.Blocks.{block_of, block_size}
use Rattle.dt_place.specs.Homes.{all_allow, allows, cut_of, is_home_to, lies_in, piece_of, side_of, sides_of, whole_side}
use Rattle.dt_place.specs.HomeLaws.{Covers}
use Rattle.dt_place.specs.Machines.{MachineView, IsMachine, dims_of, node_coords, nodes_of}
use Rattle.dt_place.specs.Placements.{IsPlacement, IsWithin}
use Rattle.dt_place.specs.declared.placements.Placement.{Placement}
use Rattle.dt_place.specs.declared.placements.Placement.TheVariants.{FirstNode, ByNames, ByPositions}
use Rattle.dt_place.specs.declared.placements.Symbol.{Symbol}
use Rattle.dt_place.specs.declared.placements.Symbol.TheVariants.{Along, At, Every}
use Rattle.dt_place.specs.declared.sides.Side.{Side}
use Rattle.dt_base.proofs.Assignments.{assignment-row_major, length-assignments, row_major-assignment}
use Rattle.dt_place.proofs.BlockLemmas.{Within, are_blocks, block_size-room, block_size-some, quotient_within}
use Rattle.dt_place.proofs.MachineFacts.{machine_facts}
use Rattle.dt_base.proofs.Ranges.{get_or-below, length-below}
use Rattle.dt_runs.proofs.BelowSets.{contains-passing}

-- a coordinate lies in a side that has room for it
pub record Fits (x : ℕ) (s : Side) : Type 0 where
  pub from : s.from ≤ x
  pub to : x < s.to
  pub room : x < s.from + s.size

-- the piece in which a coordinate of a side lies
abbrev piece_with : ℕ → Side → ℕ → ℕ
piece_with x s p = (x - s.from) / block_size s.size p

piece-fits : (x : ℕ) (s : Side) (p : ℕ) → 0 < p → Fits x s → (piece_with x s p < p) × Fits x (piece_of s p (piece_with x s p))
piece-fits x s p h f =
    let b : ℕ = block_size s.size p in
    let y : ℕ = x - s.from in
    let inside : y < s.size = omega (arith, f.from, f.room) in
    let some : 0 < b = block_size-some s.size p h (omega arith) in
    let room : s.size ≤ p * b = block_size-room s.size p h in
    let at : Within b p y (y / b) = quotient_within b p y some (omega arith) in
    let low : s.from + (y / b) * b ≤ x = omega (arith, at.from, f.from) in
    let next : ((y / b) + 1) * b ≡ (y / b) * b + b = omega arith in
    let high : x < s.from + ((y / b) + 1) * b = omega (arith, at.to, f.from, next) in (
      at.piece,
      record {
        from = omega (arith, low);
        to = omega (arith, high, f.to);
        room = omega (arith, low, high, f.to, next);
      },
    )

-- the coordinate of a node, at one dimension of the machine, where each side keeps its coordinate
abbrev picked : Symbol → ℕ → (ℕ → ℕ) → (ℕ → Side) → ℕ
picked (Along e) p xs sides = piece_with (xs e) (sides e) p
picked (At k) p xs sides = k
picked Every p xs sides = 0

picked-below : (y : Symbol) (p : ℕ) (xs : ℕ → ℕ) (sides : ℕ → Side) → 0 < p → IsWithin y p → ((d : ℕ) → Fits (xs d) (sides d)) → picked y p xs sides < p
picked-below (Along e) p xs sides h w fit = (piece-fits (xs e) (sides e) p h (fit e)).0
picked-below (At k) p xs sides h w fit = w
picked-below Every p xs sides h w fit = h

picked-allowed : (y : Symbol) (p : ℕ) (xs : ℕ → ℕ) (sides : ℕ → Side) → allows y (picked y p xs sides) ≡ true
picked-allowed (Along e) p xs sides = refl
picked-allowed (At k) p xs sides = eq-eqb k k refl
picked-allowed Every p xs sides = refl

cut-fits : (b : Bool) (x : ℕ) (s t : Side) → (b ≡ true → Fits x t) → Fits x s → Fits x (cond b t s)
cut-fits true x s t h k = h refl
cut-fits false x s t h k = k

picked-fits : (y : Symbol) (p : ℕ) (xs : ℕ → ℕ) (sides : ℕ → Side) → 0 < p → ((d : ℕ) → Fits (xs d) (sides d)) → (d : ℕ) → Fits (xs d) (cut_of y d p (picked y p xs sides) (sides d))
picked-fits (Along e) p xs sides h fit d =
    cut-fits (nat_eq e d) (xs d) (sides d) (piece_of (sides d) p (piece_with (xs e) (sides e) p))
    (λ t. subst (λ (i : ℕ). Fits (xs d) (piece_of (sides d) p (piece_with (xs i) (sides i) p))) (sym (eqb-true e d t)) (piece-fits (xs d) (sides d) p h (fit d)).1) (fit d)
picked-fits (At k) p xs sides h fit d = fit d
picked-fits Every p xs sides h fit d = fit d

-- a node's coordinates at which each side keeps its coordinate
pub record Chosen (ys : List Symbol) (ps : List ℕ) (xs : ℕ → ℕ) (sides : ℕ → Side) : Type 0 where
  pub node : List ℕ
  pub below : AllZip (λ q p. q < p) node ps
  pub allowed : all_allow ys node ≡ true
  pub fits : (d : ℕ) → Fits (xs d) (side_of d ys ps node (sides d))

pub choose : (ys : List Symbol) (ps : List ℕ) (xs : ℕ → ℕ) (sides : ℕ → Side) → AllByRecursion (λ n. 1 ≤ n) ps → AllZip IsWithin ys ps → ((d : ℕ) → Fits (xs d) (sides d)) → Chosen ys ps xs sides
choose [] [] xs sides each w fit = record { node = []; below = tt; allowed = refl; fits = fit }
choose [] (p ∷ ps) xs sides each w fit = absurd w
choose (y ∷ ys) [] xs sides each w fit = absurd w
choose (y ∷ ys) (p ∷ ps) xs sides each w fit =
    let q : ℕ = picked y p xs sides in
    let rest : Chosen ys ps xs (λ d. cut_of y d p q (sides d)) = choose ys ps xs (λ d. cut_of y d p q (sides d)) each.1 w.1 (picked-fits y p xs sides each.0 fit) in
    record {
      node = q ∷ rest.node;
      below = (picked-below y p xs sides each.0 w.0 fit, rest.below);
      allowed = and_from (allows y q) (all_allow ys rest.node) (picked-allowed y p xs sides) rest.allowed;
      fits = rest.fits;
    }

-- coordinates below the extents have a number
numbered : (ns xs : List ℕ) → AllZip (λ x n. x < n) xs ns → (k : ℕ) × (row_major ns xs ≡ Some k)
numbered [] [] h = (0, refl)
numbered [] (x ∷ xs) h = absurd h
numbered (n ∷ ns) [] h = absurd h
numbered (n ∷ ns) (x ∷ xs) h =
    let rest = numbered ns xs h.1 in
    (x * product ns + rest.0, rw (lt-ltb x n h.0, rest.1) refl)

-- coordinates that have a number are below the extents
in_extents : (ns xs : List ℕ) (k : ℕ) → row_major ns xs ≡ Some k → AllZip (λ x n. x < n) xs ns
in_extents [] [] k e = tt
in_extents [] (x ∷ xs) k e = absurd (let no : ◌≡◌ {A = Option ℕ} None (Some k) = e in cc)
in_extents (n ∷ ns) [] k e = absurd (let no : ◌≡◌ {A = Option ℕ} None (Some k) = e in cc)
in_extents (n ∷ ns) (x ∷ xs) k e = by_test (nat_lt x n) (row_major ns xs) refl refl (λ j q. in_extents ns xs j q) e
  where
    none : (k : ℕ) → ◌≡◌ {A = Option ℕ} None (Some k) → ⊥
    none k e = cc

    by_rest : (r : Option ℕ) → row_major ns xs ≡ r → x < n → ((j : ℕ) → row_major ns xs ≡ Some j → AllZip (λ x n. x < n) xs ns) → option_map (λ j. x * product ns + j) r ≡ Some k → AllZip (λ x n. x < n) (x ∷ xs) (n ∷ ns)
    by_rest None q lt h e = absurd (none k e)
    by_rest (Some j) q lt h e = (lt, h j q)

    by_test : (b : Bool) (r : Option ℕ) → nat_lt x n ≡ b → row_major ns xs ≡ r → ((j : ℕ) → row_major ns xs ≡ Some j → AllZip (λ x n. x < n) xs ns) → cond b (option_map (λ j. x * product ns + j) (row_major ns xs)) None ≡ Some k
        → AllZip (λ x n. x < n) (x ∷ xs) (n ∷ ns)
    by_test true r t q h e = by_rest (row_major ns xs) refl (ltb-true x n t) h e
    by_test false r t q h e = absurd (none k e)

-- stored coordinates are below the extents
pub stored-within : (t : StoredTensor) (pos : ℕ) → IsStored t → pos < length t.coords → AllZip (λ x n. x < n) (coords_at t pos) t.extents
stored-within t pos stored h =
    let P : List ℕ → Type 0 = λ c. AllZip (λ x n. x < n) c t.extents in
    let all : All P (assignments t.extents) = All-from_get_or P (assignments t.extents) []
    (λ i lt. in_extents t.extents (get_or (assignments t.extents) i []) i (row_major-assignment t.extents i (omega (arith, length-assignments t.extents)))) in
    All-get_or P t.coords pos [] h (subst (λ (cs : List (List ℕ)). All P cs) (sym stored.stored) (All-filter (is_followed t.compressed t.coords) P (assignments t.extents) all))

-- a test of each pair
zip-all : {A B : Type 0} (p : A × B → Bool) (xs : List A) (ys : List B) (a : A) (b : B) → ((k : ℕ) → k < length xs → k < length ys → p (get_or xs k a, get_or ys k b) ≡ true) → list_all p (zip xs ys) ≡ true
zip-all p [] ys a b h = refl
zip-all p (x ∷ xs) [] a b h = refl
zip-all p (x ∷ xs) (y ∷ ys) a b h = and_from (p (x, y)) (list_all p (zip xs ys)) (h 0 (omega arith) (omega arith)) (zip-all p xs ys a b (λ k l r. h (suc k) (omega arith) (omega arith)))

-- coordinates that fit their sides lie in them
sides-hold : (c extents : List ℕ) (side : ℕ → Side) → length c ≡ length extents → ((d : ℕ) → d < length extents → Fits (get_or c d 0) (side d)) → lies_in (map side (below (length extents))) c ≡ true
sides-hold c extents side e fit =
    zip-all (λ p. nat_le p.1.from p.0 && nat_lt p.0 p.1.to) c (map side (below (length extents))) 0 (whole_side 0)
    (λ d l r. let within : d < length extents = omega arith in
    let at : get_or (map side (below (length extents))) d (whole_side 0) ≡ side d = get_or-map side (below (length extents)) d 0 (whole_side 0) (omega (arith, length-below (length extents))) ∙ ap side (get_or-below (length extents) d 0 within) in
    let f : Fits (get_or c d 0) (side d) = fit d within in
    ap (λ (s : Side). nat_le s.from (get_or c d 0) && nat_lt (get_or c d 0) s.to) at
    ∙ and_from (nat_le (side d).from (get_or c d 0)) (nat_lt (get_or c d 0) (side d).to) (le-leb (side d).from (get_or c d 0) f.from) (lt-ltb (get_or c d 0) (side d).to f.to))

covers-names : (ys : List Symbol) (m : MachineView) (t : StoredTensor) → IsMachine m → AllZip IsWithin ys (dims_of m) → IsStored t → Covers (ByNames ys) m t
covers-names ys m t machine w stored pos h =
    let ps : List ℕ = dims_of m in
    let c : List ℕ = coords_at t pos in
    let inside : AllZip (λ x n. x < n) c t.extents = stored-within t pos stored h in
    let count : length c ≡ length t.extents = zip_lengths c t.extents inside in
    let start : (d : ℕ) → Fits (get_or c d 0) (whole_side (get_or t.extents d 1)) = fits_whole c t.extents inside in
    let chosen : Chosen ys ps (λ d. get_or c d 0) (λ d. whole_side (get_or t.extents d 1)) = choose ys ps (λ d. get_or c d 0) (λ d. whole_side (get_or t.extents d 1)) (machine_facts m machine).each w start in
    let number : (k : ℕ) × (row_major ps chosen.node ≡ Some k) = numbered ps chosen.node chosen.below in
    let at : node_coords m number.0 ≡ chosen.node = assignment-row_major ps chosen.node number.0 number.1 in
    let lies : lies_in (sides_of t.extents ys ps chosen.node) c ≡ true = sides-hold c t.extents (λ d. side_of d ys ps chosen.node (whole_side (slice_index t.extents d))) count
    (λ d lt. subst (λ (n : ℕ). Fits (get_or c d 0) (side_of d ys ps chosen.node (whole_side n))) (get_or_default t.extents d 1 0 lt) (chosen.fits d)) in
    let holds : is_home_to (ByNames ys) m t number.0 pos ≡ true = subst (λ (qs : List ℕ). (all_allow ys qs && lies_in (sides_of t.extents ys ps qs) c) ≡ true) (sym at) (and_from (all_allow ys chosen.node) (lies_in (sides_of t.extents ys ps chosen.node) c) chosen.allowed lies) in
    (number.0, row_major-below ps chosen.node number.0 number.1, contains-passing (is_home_to (ByNames ys) m t number.0) (length t.coords) pos h holds)
  where
    zip_lengths : (xs ns : List ℕ) → AllZip (λ x n. x < n) xs ns → length xs ≡ length ns
    zip_lengths [] [] h = refl
    zip_lengths [] (n ∷ ns) h = absurd h
    zip_lengths (x ∷ xs) [] h = absurd h
    zip_lengths (x ∷ xs) (n ∷ ns) h = omega (arith, zip_lengths xs ns h.1)

    fits_whole : (xs ns : List ℕ) → AllZip (λ x n. x < n) xs ns → (d : ℕ) → Fits (get_or xs d 0) (whole_side (get_or ns d 1))
    fits_whole [] [] h d = record { from = omega arith; to = omega arith; room = omega arith }
    fits_whole [] (n ∷ ns) h d = absurd h
    fits_whole (x ∷ xs) [] h d = absurd h
    fits_whole (x ∷ xs) (n ∷ ns) h zero = record { from = omega arith; to = h.0; room = omega (arith, h.0) }
    fits_whole (x ∷ xs) (n ∷ ns) h (suc d) = fits_whole xs ns h.1 d

covers-first : (m : MachineView) (t : StoredTensor) → IsMachine m → Covers FirstNode m t
covers-first m t machine pos h = (0, (machine_facts m machine).positive, contains-passing (is_home_to FirstNode m t 0) (length t.coords) pos h refl)

covers-positions : (m : MachineView) (t : StoredTensor) → IsMachine m → Covers ByPositions m t
covers-positions m t machine pos h =
    let at = (are_blocks (length t.coords) (nodes_of m) (machine_facts m machine).positive).covers pos h in
    let piece : ℕ × ℕ = block_of (length t.coords) (nodes_of m) at.0 in (
      at.0,
      at.1,
      contains-passing (is_home_to ByPositions m t at.0) (length t.coords) pos h
          (and_from (nat_le piece.0 pos) (nat_lt pos piece.1) (le-leb piece.0 pos at.2.0) (lt-ltb pos piece.1 at.2.1)),
    )

-- some node is home to each position
pub covered : (placement : Placement) (m : MachineView) (t : StoredTensor) → IsMachine m → IsPlacement placement m → IsStored t → Covers placement m t
covered FirstNode m t machine w stored = covers-first m t machine
covered (ByNames ys) m t machine w stored = covers-names ys m t machine w stored
covered ByPositions m t machine w stored = covers-positions m t machine
