-- What the search's code is given and gives.
use Rattle.std.proofs.Common.{◌≡◌, ℕ, zero, suc, ◌+◌, ◌-◌, ◌<◌, Bool, true, false, ◌||◌, List, [], ◌∷◌, ◌++◌, length, Option, Some, None, refl, sym, ap, ◌∙◌, subst, arith}
use Rattle.std.specs.Prelude.{if◌then◌else◌, slice_index, slice_set}
use Rattle.std.specs.List.{list_any, range_with_len}
use Rattle.std.proofs.Math.ListN.{set}
use Rattle.std.proofs.lemmas.List.{set-set, set-get_or}
use Rattle.dt_nest.specs.declared.loops.Walk.{Walk}
use Rattle.dt_nest.specs.declared.loops.Pair.{Pair}
use Rattle.dt_nest.specs.declared.search.Stand.{Stand}
use Rattle.dt_nest.specs.Tree.{Tree, Loop, Pre, leaf_count, is_kernel_leaf}
use Rattle.dt_nest.specs.Visits.{Tests, is_valid, IsPathIn, scoped, tree_visits}
use Rattle.dt_nest.specs.Search.{HaveSlots, AreZero, EntryIs, node_of, Enters, Finds, FindsFrom, Steps}
use Rattle.dt_nest.proofs.Moves.{loop_finds, all_values, one_value, finds_first, finds_second, finds_none}
use Rattle.dt_nest.proofs.LoopMoves.{lanes_found, lanes_none}

-- a tree that is another one
pub finds_at : (t : Tests) (tree made : Tree) (pairs : List Pair) (path old new : List ℕ) (found : Option ℕ) → tree ≡ made → Finds t made pairs path old new found → Finds t tree pairs path old new found
finds_at t tree made pairs path old new found e f = subst (λ (x : Tree). Finds t x pairs path old new found) (sym e) f

pub steps_at : (t : Tests) (tree made : Tree) (pairs : List Pair) (path : List ℕ) (leaf : ℕ) (old new : List ℕ) (found : Option Stand) → tree ≡ made → Steps t made pairs path leaf old new found → Steps t tree pairs path leaf old new found
steps_at t tree made pairs path leaf old new found e f = subst (λ (x : Tree). Steps t x pairs path leaf old new found) (sym e) f

-- the first visit below a loop's value, where the test that it takes it leaves the slots as they are
pub entered_by : (t : Tests) (walk : Option Walk) (v : ℕ) (body : Tree) (pairs : List Pair) (path old mid new : List ℕ) (found : Option ℕ) → mid ≡ old → t.takes walk v pairs old ≡ true
    → Finds t body pairs path mid new found → Enters t walk v body pairs path old new found
entered_by t walk v body pairs path old mid new found e k f = record { goes = go found (subst (λ (s : List ℕ). Finds t body pairs path s new found) e f) }
  where
    go : (found : Option ℕ) → Finds t body pairs path old new found → EntryIs t walk v body pairs path old new found
    go None f = (λ around. ap (λ (b : Bool). if b then tree_visits t body (scoped pairs around) old path else []) k ∙ f.goes.0 around, f.goes.1)
    go (Some leaf) f = (k, f)

any_add : (p : ℕ → Bool) (a n : ℕ) → list_any p (range_with_len a (suc n)) ≡ (list_any p (range_with_len a n) || p (a + n))
any_add p a zero = let g : a + 0 ≡ a = omega arith in ends (p a) ∙ ap p (sym g)
  where
    ends : (b : Bool) → (b || false) ≡ b
    ends true = refl
    ends false = refl
any_add p a (suc n) =
    let g : a + 1 + n ≡ a + suc n = omega arith in
    ap (λ (b : Bool). p a || b) (any_add p (a + 1) n) ∙ moved (p a) (list_any p (range_with_len (a + 1) n)) (p (a + 1 + n)) ∙ ap (λ (k : ℕ). (p a || list_any p (range_with_len (a + 1) n)) || p k) g
  where
    moved : (a b c : Bool) → (a || (b || c)) ≡ ((a || b) || c)
    moved true b c = refl
    moved false b c = refl

any_later : (p : ℕ → Bool) (n m : ℕ) → list_any p (range_with_len 0 n) ≡ true → list_any p (range_with_len 0 (n + m)) ≡ true
any_later p n zero h = let g : n + 0 ≡ n = omega arith in ap (λ (k : ℕ). list_any p (range_with_len 0 k)) g ∙ h
any_later p n (suc m) h =
    let g : n + suc m ≡ suc (n + m) = omega arith in
    ap (λ (k : ℕ). list_any p (range_with_len 0 k)) g ∙ any_add p 0 (n + m) ∙ ap (λ (b : Bool). b || p (0 + (n + m))) (any_later p n m h)

-- a value that passes, among more
pub any_found : (p : ℕ → Bool) (x n : ℕ) → x < n → p x ≡ true → list_any p (range_with_len 0 n) ≡ true
any_found p x n lt h =
    let g : suc x + (n - suc x) ≡ n = omega arith in let z : 0 + x ≡ x = omega arith in
    sym (ap (λ (k : ℕ). list_any p (range_with_len 0 k)) g) ∙ any_later p (suc x) (n - suc x) (any_add p 0 x ∙ ap (λ (k : ℕ). list_any p (range_with_len 0 x) || p k) z ∙ ap (λ (b : Bool). list_any p (range_with_len 0 x) || b) h ∙ ends (list_any p (range_with_len 0 x)))
  where
    ends : (b : Bool) → (b || true) ≡ true
    ends true = refl
    ends false = refl

-- one more value that doesn't
pub any_more : (p : ℕ → Bool) (x : ℕ) → list_any p (range_with_len 0 x) ≡ false → p x ≡ false → list_any p (range_with_len 0 (x + 1)) ≡ false
any_more p x h k =
    let g : x + 1 ≡ suc x = omega arith in let z : 0 + x ≡ x = omega arith in
    ap (λ (k : ℕ). list_any p (range_with_len 0 k)) g ∙ any_add p 0 x ∙ ap (λ (b : Bool). b || p (0 + x)) h ∙ ap p z ∙ k

-- a slot that was tried and set back to 0
pub set_back : (slots old : List ℕ) (v x : ℕ) → slots ≡ old → slice_index old v ≡ 0 → slice_set (slice_set slots v x) v 0 ≡ old
set_back slots old v x e z = set-set slots v x 0 ∙ ap (λ (k : ℕ). set slots v k) (sym (ap (λ (l : List ℕ). slice_index l v) e ∙ z)) ∙ set-get_or slots v 0 ∙ e

pub nil_of : (l : List ℕ) → length l ≡ 0 → l ≡ []
nil_of [] h = refl
nil_of (x ∷ l) h = absurd (omega arith)

module _ (t : Tests) (tree : Tree) (walk : Option Walk) (v n : ℕ) (body given : Tree) (pairs : List Pair) (path old new : List ℕ) (e : tree ≡ Loop v n walk body) (same : given ≡ body) where
  -- a loop outside the path
  pub loop_whole : (found : Option ℕ) → is_kernel_leaf given ≡ false → path ≡ [] → FindsFrom t walk v given pairs path 0 n old new found → Finds t tree pairs path old new found
  loop_whole found k p f =
      finds_at t tree (Loop v n walk body) pairs path old new found e
      (subst (λ (x : Tree). Finds t (Loop v n walk x) pairs path old new found) same
      (subst (λ (l : List ℕ). Finds t (Loop v n walk given) pairs l old new found) (sym p)
      (loop_finds t walk v n given pairs [] 0 n old new found k (all_values n) (subst (λ (l : List ℕ). FindsFrom t walk v given pairs l 0 n old new found) p f))))

  -- a loop on the path
  pub loop_one : (found : Option ℕ) (x : ℕ) (rest : List ℕ) → is_kernel_leaf given ≡ false → path ≡ x ∷ rest → IsPathIn tree path → FindsFrom t walk v given pairs rest x (x + 1) old new found → Finds t tree pairs path old new found
  loop_one found x rest k p l f =
      finds_at t tree (Loop v n walk body) pairs path old new found e
      (subst (λ (x : Tree). Finds t (Loop v n walk x) pairs path old new found) same
      (subst (λ (l : List ℕ). Finds t (Loop v n walk given) pairs l old new found) (sym p)
      (loop_finds t walk v n given pairs (x ∷ rest) x (x + 1) old new found k (one_value x n rest (subst (IsPathIn (Loop v n walk body)) p (subst (λ (y : Tree). IsPathIn y path) e l)).0) f)))

  -- a substituted loop
  pub loop_lanes : is_kernel_leaf given ≡ true → AreZero tree old → (b : Bool) → b ≡ list_any (is_valid t walk v (node_of given) pairs old) (range_with_len 0 n) → b ≡ true → new ≡ old → Finds t tree pairs path old new (Some 0)
  loop_lanes k z b h y s =
      finds_at t tree (Loop v n walk body) pairs path old new (Some 0) e
      (subst (λ (x : Tree). Finds t (Loop v n walk x) pairs path old new (Some 0)) same
      (subst (λ (l : List ℕ). Finds t (Loop v n walk given) pairs path old l (Some 0)) (sym s)
      (lanes_found t walk v n given pairs path old k (sym h ∙ y) (subst (λ (x : Tree). AreZero x old) e z).0)))

  pub loop_no_lanes : is_kernel_leaf given ≡ true → (b : Bool) → b ≡ list_any (is_valid t walk v (node_of given) pairs old) (range_with_len 0 n) → b ≡ false → new ≡ old → Finds t tree pairs path old new None
  loop_no_lanes k b h y s =
      finds_at t tree (Loop v n walk body) pairs path old new None e
      (subst (λ (x : Tree). Finds t (Loop v n walk x) pairs path old new None) same
      (subst (λ (l : List ℕ). Finds t (Loop v n walk given) pairs path old l None) (sym s)
      (lanes_none t walk v n given pairs path old k (sym h ∙ y))))

module _ (t : Tests) (tree : Tree) (work : ℕ) (more found : List Pair) (p q first second : Tree) (pairs : List Pair) (path old new : List ℕ) (e : tree ≡ Pre work more p q) (m : found ≡ more) (a : first ≡ p) (b : second ≡ q)
    (room : HaveSlots tree (length old)) (z : AreZero tree old) where
  pub pre_first : (leaf : ℕ) → Finds t first (pairs ++ found) [] old new (Some leaf) → Finds t tree pairs path old new (Some leaf)
  pre_first leaf f =
      finds_at t tree (Pre work more p q) pairs path old new (Some leaf) e
      (finds_first t work more p q pairs path (length old) (subst (λ (x : Tree). HaveSlots x (length old)) e room) old new leaf (subst (λ (x : Tree). AreZero x old) e z)
      (subst (λ (l : List Pair). Finds t p (pairs ++ l) [] old new (Some leaf)) m (subst (λ (x : Tree). Finds t x (pairs ++ found) [] old new (Some leaf)) a f)))

  pub pre_second : (mid : List ℕ) (leaf at : ℕ) → leaf_count p + at ≡ leaf → Finds t first (pairs ++ found) [] old mid None → Finds t second pairs [] mid new (Some at) → Finds t tree pairs path old new (Some leaf)
  pre_second mid leaf at s f g =
      finds_at t tree (Pre work more p q) pairs path old new (Some leaf) e
      (finds_second t work more p q pairs path (length old) (subst (λ (x : Tree). HaveSlots x (length old)) e room) old mid new leaf at s (subst (λ (x : Tree). AreZero x old) e z)
      (subst (λ (l : List Pair). Finds t p (pairs ++ l) [] old mid None) m (subst (λ (x : Tree). Finds t x (pairs ++ found) [] old mid None) a f))
      (subst (λ (x : Tree). Finds t x pairs [] mid new (Some at)) b g))

  pub pre_none : (mid : List ℕ) → Finds t first (pairs ++ found) [] old mid None → Finds t second pairs [] mid new None → Finds t tree pairs path old new None
  pre_none mid f g =
      finds_at t tree (Pre work more p q) pairs path old new None e
      (finds_none t work more p q pairs path (length old) (subst (λ (x : Tree). HaveSlots x (length old)) e room) old mid new
      (subst (λ (l : List Pair). Finds t p (pairs ++ l) [] old mid None) m (subst (λ (x : Tree). Finds t x (pairs ++ found) [] old mid None) a f))
      (subst (λ (x : Tree). Finds t x pairs [] mid new None) b g))
