-- The operations on a path of a statement are those of its outline.
use Rattle.std.proofs.Common.{◌≡◌, ℕ, suc, ◌+◌, ◌*◌, ◌^◌, ◌<◌, ◌≤◌, Bool, true, false, List, [], ◌∷◌, ◌++◌, length, map, take, get_or, Option, refl, ap, sym, ◌∙◌, arith}
use Rattle.std.specs.Prelude.{◌-◌, filter, if◌then◌else◌, nat_eq, nat_lt, slice_index_or, unwrap_or}
use Rattle.std.specs.List.{AllByRecursion, flat_map}
use Rattle.std.proofs.lemmas.Bool.{ltb-false}
use Rattle.std.proofs.lemmas.List.{get_or_default, get_or_past, map-append, take_more}
use Rattle.std.proofs.lemmas.List.Elements.{filter-append}
use Rattle.dt_base.specs.Ranges.{below}
use Rattle.dt_base.specs.Rows.{row_major}
use Rattle.dt_model.specs.Positions.{StoredTensor}
use Rattle.dt_runs.specs.Boxes.{box_numbers}
use Rattle.dt_runs.proofs.WholeBoxes.{box_numbers-whole}
use Rattle.dt_nest.specs.Schedule.{Schedule}
use Rattle.dt_nest.specs.Lawful.{IsLawful}
use Rattle.dt_nest.specs.Outputs.{output_of}
use Rattle.dt_nest.specs.Visits.{IsPath, needed_of, visits_of}
use Rattle.dt_nest.specs.Paths.{HasLoops, extent_inside, paths_of, task_depth}
use Rattle.dt_nest.specs.PathSteps.{IsVisited, visited_values}
use Rattle.dt_nest.proofs.Each.{all_filter, all_map, below_all}
use Rattle.dt_nest.proofs.PathDepths.{fewer_loops, task_loops}
use Rattle.dt_nest.proofs.PathFans.{paths_are_visited}
use Rattle.dt_nest.proofs.PathUnions.{longer_path}
use Rattle.dt_place.specs.Machines.{MachineView, dims_of, nodes_of}
use Rattle.dt_place.proofs.MachineFacts.{machine_facts}
use Rattle.dt_copy.specs.declared.piece_list.Piece.{Piece}
use Rattle.dt_copy.specs.Sources.{home_at, pieces_of, shares_of}
use Rattle.dt_plan.specs.declared.kind.Kind.TheVariants.{Alloc, Free, Zero}
use Rattle.dt_plan.specs.declared.needs.Need.{Need}
use Rattle.dt_plan.specs.declared.ops.Op.{Op}
use Rattle.dt_plan.specs.declared.parts.Part.{Part}
use Rattle.dt_plan.specs.Brackets.{moved_here, copies_on, folds_on, opened, closed}
use Rattle.dt_plan.specs.Layouts.{Layout, homes_at, node_of}
use Rattle.dt_plan.specs.Operations.{node_works, op_on, scratch_on, work_size, works_in, zero_on, zeros_on}
use Rattle.dt_plan.specs.PathOps.{PathView, alloc_of, free_of, copy_of, fold_of, copies_of, folds_of, opened_of, closed_of}
use Rattle.dt_plan.specs.Statements.{StatementView, HasHomes, FitsPart, is_path_in, outline_at, path_at, need_at, needs_on, work_need, node_needs}
use Rattle.dt_plan.proofs.OutlineFacts.{works_after}
use Rattle.dt_plan.proofs.PathTests.{path_passes}

-- what is made of what is made of each element
pub map_made : {X Y Z : Type 0} (f : Y → Z) (g : X → Y) (h : X → Z) → ((x : X) → f (g x) ≡ h x) → (xs : List X) → map f (map g xs) ≡ map h xs
map_made f g h e [] = refl
map_made f g h e (x ∷ xs) = let a = e x in let r = map_made f g h e xs in cc

pub flat_made : {X Y Z : Type 0} (f : Y → List Z) (g : X → Y) (h : X → List Z) → ((x : X) → f (g x) ≡ h x) → (xs : List X) → flat_map f (map g xs) ≡ flat_map h xs
flat_made f g h e [] = refl
flat_made f g h e (x ∷ xs) = ap (λ l. l ++ flat_map f (map g xs)) (e x) ∙ ap (λ l. h x ++ l) (flat_made f g h e xs)

module _ (v : StatementView) (homes : HasHomes v.layout) (part : FitsPart v.layout v.part) (p : List ℕ) where
  -- a workspace has no homes, so that its words don't count there
  same_words : (f : List ℕ → List (List ℕ) → List Piece) → ((ws : List ℕ) → f ws [] ≡ []) → (t : ℕ) → f (scratch_on v.layout v.part.sched t p) (homes_at v.layout t) ≡ f (needed_of v.layout.stored v.part.sched t p) (homes_at v.layout t)
  same_words f none t = go (nat_lt t (length v.part.sched.tensors)) refl
    where
      rest : List ℕ
      rest = below (work_size v.part.sched (t - length v.part.sched.tensors))

      needs : List ℕ
      needs = needed_of v.layout.stored v.part.sched t p

      past : nat_lt t (length v.part.sched.tensors) ≡ false → homes_at v.layout t ≡ []
      past e =
          let l = ltb-false t (length v.part.sched.tensors) e in
          let a = homes.count in
          let b = part.fits.count in
          get_or_past v.layout.homes t [] (omega (arith, l, a, b))

      go : (b : Bool) → nat_lt t (length v.part.sched.tensors) ≡ b → f (if b then needs else rest) (homes_at v.layout t) ≡ f needs (homes_at v.layout t)
      go true e = refl
      go false e = ap (f rest) (past e) ∙ none rest ∙ sym (ap (f needs) (past e) ∙ none needs)

  copies_are : (t : ℕ) → copies_of (path_at v p) (need_at v p t) ≡ copies_on (outline_at v) p t
  copies_are t =
      ap (λ (l : List Piece). if nat_eq t (outline_at v).output then [] else map (copy_of (path_at v p) t) l)
      (same_words (λ ws hs. pieces_of ws hs (node_of v.layout.machine v.part.sched p)) (λ ws. refl) t)

  folds_are : (t : ℕ) → folds_of (path_at v p) (need_at v p t) ≡ folds_on (outline_at v) p t
  folds_are t =
      ap (λ (l : List Piece). if nat_eq t (outline_at v).output then map (fold_of (path_at v p) t) l else [])
      (same_words shares_of (λ ws. refl) t)

  -- what is opened and copied on a path
  pub opened_is : opened_of (path_at v p) (needs_on v p) ≡ opened (outline_at v) p
  opened_is =
      ap (λ (l : List Op). l ++ flat_map (copies_of (path_at v p)) (needs_on v p)) (map_made (alloc_of (path_at v p)) (need_at v p) (λ t. (outline_at v).alloc t p) (λ t. refl) (moved_here (outline_at v) p))
      ∙ ap (λ (l : List Op). map (λ t. (outline_at v).alloc t p) (moved_here (outline_at v) p) ++ l) (flat_made (copies_of (path_at v p)) (need_at v p) (copies_on (outline_at v) p) copies_are (moved_here (outline_at v) p))

  -- and what is folded and closed there
  pub closed_is : closed_of (path_at v p) (needs_on v p) ≡ closed (outline_at v) p
  closed_is =
      ap (λ (l : List Op). l ++ map (free_of (path_at v p)) (needs_on v p)) (flat_made (folds_of (path_at v p)) (need_at v p) (folds_on (outline_at v) p) folds_are (moved_here (outline_at v) p))
      ∙ ap (λ (l : List Op). flat_map (folds_on (outline_at v) p) (moved_here (outline_at v) p) ++ l) (map_made (free_of (path_at v p)) (need_at v p) (λ t. (outline_at v).free t p) (λ t. refl) (moved_here (outline_at v) p))

-- The zero of a home ----------------------------------------------------------------------------------------------------

-- the home on a node
pub home_found : (hs : List (List (List ℕ))) (t n : ℕ) (row d : List (List ℕ)) (home e : List ℕ) → row ≡ get_or hs t d → home ≡ get_or row n e → t < length hs → n < length row
    → home ≡ home_at (slice_index_or hs t []) n
home_found hs t n row d home e f h l k = h ∙ get_or_default row n e [] k ∙ ap (λ (r : List (List ℕ)). get_or r n []) (f ∙ get_or_default hs t d [] l)

-- a home with words has a zero
some_zero : (k t n : ℕ) (ws : List ℕ) → (length ws ≡ 0 → ⊥) → zero_on k t n ws ≡ op_on Zero k n [] t n ws 1 ∷ []
some_zero k t n [] h = absurd (h refl)
some_zero k t n (w ∷ ws) h = refl

-- an empty one has none
no_zero : (k t n : ℕ) (ws : List ℕ) → length ws ≡ 0 → zero_on k t n ws ≡ []
no_zero k t n [] e = refl
no_zero k t n (w ∷ ws) e = absurd (omega (arith, e))

module _ (l : Layout) (k : ℕ) (p : Part) (n : ℕ) (home : List ℕ) (adds : p.adds ≡ false) (is : home ≡ home_at (homes_at l (output_of p.sched.nest)) n) where
  pub zeros_none : length home ≡ 0 → zeros_on l k p n ≡ []
  zeros_none e =
      ap (λ (b : Bool). if b then [] else zero_on k (output_of p.sched.nest) n (home_at (homes_at l (output_of p.sched.nest)) n)) adds
      ∙ ap (zero_on k (output_of p.sched.nest) n) (sym is) ∙ no_zero k (output_of p.sched.nest) n home e

  pub zeros_some : (t : ℕ) (path words : List ℕ) → (length home ≡ 0 → ⊥) → t ≡ output_of p.sched.nest → path ≡ [] → words ≡ home → op_on Zero k n path t n words 1 ∷ [] ≡ zeros_on l k p n
  zeros_some t path words h e f g =
      ap (λ (q : List ℕ). op_on Zero k n q t n words 1 ∷ []) f ∙ ap (λ (u : ℕ). op_on Zero k n [] u n words 1 ∷ []) e ∙ ap (λ (ws : List ℕ). op_on Zero k n [] (output_of p.sched.nest) n ws 1 ∷ []) g
      ∙ sym (some_zero k (output_of p.sched.nest) n home h)
      ∙ ap (zero_on k (output_of p.sched.nest) n) is
      ∙ sym (ap (λ (b : Bool). if b then [] else zero_on k (output_of p.sched.nest) n (home_at (homes_at l (output_of p.sched.nest)) n)) adds)

-- Nodes -----------------------------------------------------------------------------------------------------------------

-- the node of a path, as its number was found
pub node_found : (v : StatementView) (m : MachineView) (d : ℕ) (path coords : List ℕ) (o : Option ℕ) → m ≡ v.layout.machine → d ≡ v.part.sched.distributed → coords ≡ take d path → o ≡ row_major (dims_of m) coords
    → unwrap_or o 0 ≡ node_of v.layout.machine v.part.sched path
node_found v m d path coords o e f h q =
    ap (λ (x : Option ℕ). unwrap_or x 0)
    (q ∙ ap (λ (x : MachineView). row_major (dims_of x) coords) e ∙ ap (row_major (dims_of v.layout.machine)) (h ∙ ap (λ (k : ℕ). take k path) f))

-- each tensor has a home on a node
pub homes_on_node : (l : Layout) → HasHomes l → (n : ℕ) → n < nodes_of l.machine → AllByRecursion (λ (homes : List (List ℕ)). (n < length homes) × (length homes < 2 ^ 32)) l.homes
homes_on_node l h n k =
    let few = (machine_facts l.machine h.machine).nodes in
    all_map (λ (homes : List (List ℕ)). length homes ≡ nodes_of l.machine) (λ (homes : List (List ℕ)). (n < length homes) × (length homes < 2 ^ 32)) (λ homes e. (omega (arith, e, k), omega (arith, e, few))) l.homes h.nodes

-- Workspaces ------------------------------------------------------------------------------------------------------------

-- all words of a workspace
pub whole_line : (n : ℕ) → box_numbers (n ∷ []) (0 ∷ []) (n ∷ []) ≡ below n
whole_line n = box_numbers-whole (n ∷ []) ∙ ap below (one n)
  where
    one : (k : ℕ) → k * 1 ≡ k
    one k = omega arith

-- workspaces come after all tensors
pub node_works_after : (s : Schedule) → AllByRecursion (λ w. length s.tensors ≤ w) (node_works s)
node_works_after s = go (nat_eq s.distributed 0)
  where
    go : (b : Bool) → AllByRecursion (λ w. length s.tensors ≤ w) (if b then [] else works_in s)
    go true = tt
    go false = works_after s

module _ (v : StatementView) (pv : PathView) (needs : List Need) (ops : List Op) (n : ℕ) (is : needs ≡ node_needs v) (stmt : pv.stmt ≡ v.number) (node : pv.node ≡ n) (root : pv.path ≡ []) where
  pub works_opened : ops ≡ map (alloc_of pv) needs → ops ≡ map ((outline_at v).work_alloc n) (outline_at v).works
  works_opened e = e ∙ ap (map (alloc_of pv)) is ∙ map_made (alloc_of pv) (work_need v) ((outline_at v).work_alloc n) each (node_works v.part.sched)
    where
      each : (w : ℕ) → alloc_of pv (work_need v w) ≡ (outline_at v).work_alloc n w
      each w =
          ap (λ (k : ℕ). op_on Alloc k pv.node pv.path w pv.node (work_need v w).words 1) stmt ∙ ap (λ (m : ℕ). op_on Alloc v.number m pv.path w m (work_need v w).words 1) node
          ∙ ap (λ (p : List ℕ). op_on Alloc v.number n p w n (work_need v w).words 1) root

  pub works_closed : ops ≡ map (free_of pv) needs → ops ≡ map ((outline_at v).work_free n) (outline_at v).works
  works_closed e = e ∙ ap (map (free_of pv)) is ∙ map_made (free_of pv) (work_need v) ((outline_at v).work_free n) each (node_works v.part.sched)
    where
      each : (w : ℕ) → free_of pv (work_need v w) ≡ (outline_at v).work_free n w
      each w =
          ap (λ (k : ℕ). op_on Free k pv.node pv.path w pv.node (work_need v w).words 1) stmt ∙ ap (λ (m : ℕ). op_on Free v.number m pv.path w m (work_need v w).words 1) node
          ∙ ap (λ (p : List ℕ). op_on Free v.number n p w n (work_need v w).words 1) root

-- Paths -----------------------------------------------------------------------------------------------------------------

-- the paths of the first loops pass the test
pub paths_pass : (stored : List StoredTensor) (s : Schedule) (k : ℕ) → HasLoops k s.nest → AllByRecursion (λ p. (is_path_in s.nest p ≡ true) × (length p ≡ k)) (paths_of stored s k)
paths_pass stored s k h =
    all_map (IsVisited stored s k) (λ p. (is_path_in s.nest p ≡ true) × (length p ≡ k)) (λ p i. (path_passes s.nest p i.path, i.count)) (paths_of stored s k) (paths_are_visited stored s k h)

-- so do longer paths
pub longer_pass : (stored : List StoredTensor) (s : Schedule) (path : List ℕ) → IsPath s path → HasLoops (suc (length path)) s.nest → AllByRecursion (λ i. is_path_in s.nest (path ++ i ∷ []) ≡ true) (visited_values stored s path)
longer_pass stored s path h loops =
    all_filter (λ i. is_path_in s.nest (path ++ i ∷ []) ≡ true) (λ i. nat_lt 0 (length (visits_of stored s (path ++ i ∷ [])))) (below (extent_inside (length path) s.nest))
    (all_map (λ i. i < extent_inside (length path) s.nest) (λ i. is_path_in s.nest (path ++ i ∷ []) ≡ true) (λ i l. path_passes s.nest (path ++ i ∷ []) (longer_path s.nest path i h loops l)) (below (extent_inside (length path) s.nest)) (below_all (extent_inside (length path) s.nest)))

-- there is a loop inside a path that doesn't reach the task
pub loop_inside : (s : Schedule) (path : List ℕ) → IsLawful s → length path < task_depth s → HasLoops (suc (length path)) s.nest
loop_inside s path lawful l = fewer_loops (suc (length path)) (task_depth s) s.nest (omega (arith, l)) (task_loops s (task_depth s) lawful (omega arith))

-- those of the first elements that pass, with one more
filter_taken : (test : ℕ → Bool) (xs : List ℕ) (k : ℕ) → k < length xs → filter test (take (k + 1) xs) ≡ filter test (take k xs) ++ (if test (get_or xs k 0) then get_or xs k 0 ∷ [] else [])
filter_taken test xs k l = ap (filter test) (take_more xs k 0 l) ∙ filter-append test (take k xs) (get_or xs k 0 ∷ [])

-- one tensor more
pub needs_more : {Y : Type 0} (f : ℕ → Y) (test : ℕ → Bool) (xs : List ℕ) (k : ℕ) (items new : List Y) → k < length xs → items ≡ map f (filter test (take k xs))
    → new ≡ items ++ (if test (get_or xs k 0) then f (get_or xs k 0) ∷ [] else []) → new ≡ map f (filter test (take (k + 1) xs))
needs_more {Y} f test xs k items new l e h =
    h ∙ ap (λ (ys : List Y). ys ++ (if test (get_or xs k 0) then f (get_or xs k 0) ∷ [] else [])) e ∙ made (test (get_or xs k 0))
    ∙ sym (ap (map f) (filter_taken test xs k l))
  where
    made : (b : Bool) → map f (filter test (take k xs)) ++ (if b then f (get_or xs k 0) ∷ [] else []) ≡ map f (filter test (take k xs) ++ (if b then get_or xs k 0 ∷ [] else []))
    made true = sym (map-append f (filter test (take k xs)) (get_or xs k 0 ∷ []))
    made false = sym (map-append f (filter test (take k xs)) [])
