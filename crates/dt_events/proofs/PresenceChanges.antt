-- What is present of a buffer depends on the units of the operations on the buffer alone.
use Rattle.std.proofs.Common.{◌≡◌, ◌≢◌, ◌⊎◌, ℕ, zero, suc, ◌<◌, Bool, true, false, List, length, is_some, refl, sym, ap, ◌∙◌, subst, inl, inr, arith}
use Rattle.std.proofs.lemmas.Bool.{cases_Bool, cases_eq}
use Rattle.dt_runs.specs.Sets.{contains}
use Rattle.dt_argument.specs.Listings.{Listing, after_units, after_ops, state_at}
use Rattle.dt_argument.proofs.Shapes.{if_false}
use Rattle.dt_plan.specs.declared.kind.Kind.{Kind}
use Rattle.dt_plan.specs.declared.kind.Kind.TheVariants as kind
use Rattle.dt_plan.specs.declared.ops.Op.{Op}
use Rattle.dt_plan.specs.declared.touches.Buffer.{Buffer}
use Rattle.dt_plan.specs.Layouts.{Layout}
use Rattle.dt_events.specs.State.{Cell, Word, State}
use Rattle.dt_events.specs.Jobs.{op_at, listing_over}
use Rattle.dt_events.proofs.Presence.{is_on, turned, next_turned}

-- one of the first operations is on the buffer, and its units differ
pub record Differs (l : Layout) (ops : List Op) (n : ℕ) (b : Buffer) (f g : ℕ → ℕ) (first : ℕ) : Type 0 where
  pub at : ℕ
  pub before : at < first
  pub buffer : is_on l (op_at ops at) n b ≡ true
  pub apart : f at ≡ g at → ⊥

module _ (l : Layout) (ops : List Op) (event : ℕ → ℕ → Bool) (opening : State) (n : ℕ) (b : Buffer) where
  abbrev L : Listing Cell
  L = listing_over l ops event opening

  -- an operation that is not on the buffer leaves what is present
  turned_off : (what : Kind) (o : Op) (w : ℕ) (x : Bool) → is_on l o n b ≡ false → turned what l o n b w x ≡ x
  turned_off kind.Zero o w x e = refl
  turned_off kind.Alloc o w x e = if_false (is_on l o n b) (contains o.words w) x e
  turned_off kind.Copy o w x e = refl
  turned_off kind.Task o w x e = refl
  turned_off kind.Fold o w x e = refl
  turned_off kind.Free o w x e = if_false (is_on l o n b) false x e

  units_off : (a i : ℕ) (s : State) (w : ℕ) → is_on l (op_at ops a) n b ≡ false → is_some (after_units L a i s (Word n b w)) ≡ is_some (s (Word n b w))
  units_off a zero s w e = refl
  units_off a (suc i) s w e =
      next_turned (op_at ops a).kind l (op_at ops a) (suc i) (after_units L a i s) n b w
      ∙ turned_off (op_at ops a).kind (op_at ops a) w (is_some (after_units L a i s (Word n b w))) e
      ∙ units_off a i s w e

  -- units go on alike where as much is present
  units_alike : (a i : ℕ) (s t : State) (w : ℕ) → is_some (s (Word n b w)) ≡ is_some (t (Word n b w)) → is_some (after_units L a i s (Word n b w)) ≡ is_some (after_units L a i t (Word n b w))
  units_alike a zero s t w h = h
  units_alike a (suc i) s t w h =
      next_turned (op_at ops a).kind l (op_at ops a) (suc i) (after_units L a i s) n b w
      ∙ ap (turned (op_at ops a).kind l (op_at ops a) n b w) (units_alike a i s t w h)
      ∙ sym (next_turned (op_at ops a).kind l (op_at ops a) (suc i) (after_units L a i t) n b w)

  -- the units of each of the first operations on the buffer are as many
  abbrev pub Agree : (ℕ → ℕ) → (ℕ → ℕ) → ℕ → Type 0
  Agree f g first = (a : ℕ) → a < first → is_on l (op_at ops a) n b ≡ true → f a ≡ g a

  -- then as much is present
  pub ops_alike : (f g : ℕ → ℕ) (first : ℕ) → Agree f g first → (w : ℕ) → is_some (after_ops L first f (Word n b w)) ≡ is_some (after_ops L first g (Word n b w))
  ops_alike f g zero h w = refl
  ops_alike f g (suc a) h w = go (cases_Bool (is_on l (op_at ops a) n b)) (ops_alike f g a (λ c k e. h c (omega (arith, k)) e) w)
    where
      go : (is_on l (op_at ops a) n b ≡ true) ⊎ (is_on l (op_at ops a) n b ≡ false) → is_some (after_ops L a f (Word n b w)) ≡ is_some (after_ops L a g (Word n b w))
          → is_some (after_units L a (f a) (after_ops L a f) (Word n b w)) ≡ is_some (after_units L a (g a) (after_ops L a g) (Word n b w))
      go (inl e) again = ap (λ (i : ℕ). is_some (after_units L a i (after_ops L a f) (Word n b w))) (h a (omega arith) e) ∙ units_alike a (g a) (after_ops L a f) (after_ops L a g) w again
      go (inr e) again = units_off a (f a) (after_ops L a f) w e ∙ again ∙ sym (units_off a (g a) (after_ops L a g) w e)

  agree_more : (f g : ℕ → ℕ) (m : ℕ) → Agree f g m → (is_on l (op_at ops m) n b ≡ true → f m ≡ g m) → Agree f g (suc m)
  agree_more f g m below here a h e = go (cases_eq a m)
    where
      go : (a ≡ m) ⊎ (a ≢ m) → f a ≡ g a
      go (inl s) = subst (λ (c : ℕ). f c ≡ g c) (sym s) (here (subst (λ (c : ℕ). is_on l (op_at ops c) n b ≡ true) s e))
      go (inr s) = below a (omega (arith, s, h)) e

  -- they are, or one of them differs
  agree_or : (f g : ℕ → ℕ) (first : ℕ) → Agree f g first ⊎ Differs l ops n b f g first
  agree_or f g zero = inl (λ a h e. absurd (omega (arith, h)))
  agree_or f g (suc m) = go (agree_or f g m) (cases_eq (f m) (g m)) (cases_Bool (is_on l (op_at ops m) n b))
    where
      go : Agree f g m ⊎ Differs l ops n b f g m → (f m ≡ g m) ⊎ (f m ≢ g m) → (is_on l (op_at ops m) n b ≡ true) ⊎ (is_on l (op_at ops m) n b ≡ false)
          → Agree f g (suc m) ⊎ Differs l ops n b f g (suc m)
      go (inr q) y z = inr (record { at = q.at; before = (let e = q.before in omega (arith, e)); buffer = q.buffer; apart = q.apart })
      go (inl h) (inl e) z = inl (agree_more f g m h (λ i. e))
      go (inl h) (inr d) (inl i) = inr (record { at = m; before = omega arith; buffer = i; apart = d })
      go (inl h) (inr d) (inr i) = inl (agree_more f g m h (λ (j : is_on l (op_at ops m) n b ≡ true). let bad : true ≡ false = sym j ∙ i in absurd (cc)))

  -- where a word is present after some units and absent after others, an operation on the buffer has other units
  pub differs : (f g : ℕ → ℕ) (w : ℕ) → is_some (state_at L f (Word n b w)) ≡ true → is_some (state_at L g (Word n b w)) ≡ false → Differs l ops n b f g (length ops)
  differs f g w h k = go (agree_or f g (length ops))
    where
      go : Agree f g (length ops) ⊎ Differs l ops n b f g (length ops) → Differs l ops n b f g (length ops)
      go (inl same) = let bad : true ≡ false = sym h ∙ ops_alike f g (length ops) same w ∙ k in absurd (cc)
      go (inr q) = q
