-- Lists with the values of all variables at a leaf, under the names that they have outside.
use Rattle.std.proofs.Common.{◌≡◌, ℕ, ◌-◌, ◌<◌, Bool, List, [], ◌∷◌, ◌++◌, length, Option, Some, sym, ap, ◌∙◌, append_assoc, arith}
use Rattle.std.specs.Prelude.{if◌then◌else◌, slice_index}
use Rattle.std.proofs.Math.ListN.{set}
use Rattle.std.proofs.lemmas.Bool.{eq-eqb, lt-ltb}
use Rattle.std.proofs.lemmas.List.{append-nil, get_or-set_other, get_or-set_same}
use Rattle.dt_nest.specs.declared.loops.Pair.{Pair}
use Rattle.dt_nest.specs.declared.derivations.Derived.{Derived}
use Rattle.dt_nest.specs.Tree.{Tree, Pre, leaf_count}
use Rattle.dt_nest.specs.Search.{pairs_at}
use Rattle.dt_nest.specs.Meaning.{World, renamed}
use Rattle.dt_nest.specs.Values.{inside}
use Rattle.dt_nest.specs.ValueTables.{tabled, IsLeafTable, IsTable}
use Rattle.dt_nest.proofs.Names.{renamed-append}
use Rattle.dt_nest.proofs.TableFacts.{by_number}

-- one more renamed variable has the value under its new name
pub renamed_more : (old mid : List (Option ℕ)) (pairs rest : List Pair) (p : Pair) (x : Option ℕ) → p.from < length mid → pairs ≡ p ∷ rest → ((u : ℕ) → tabled mid u ≡ tabled old (renamed rest u)) → x ≡ tabled mid p.to
    → (u : ℕ) → tabled (set mid p.from x) u ≡ tabled old (renamed pairs u)
renamed_more old mid pairs rest p x l e h r u =
    by_number u p.from (tabled (set mid p.from x) u ≡ tabled old (renamed pairs u))
    (λ k. ap (λ (v : ℕ). tabled (set mid p.from x) v) k ∙ get_or-set_same mid p.from x (Some 0) l ∙ r ∙ h p.to
    ∙ ap (λ (b : Bool). tabled old (renamed rest (if b then p.to else u))) (sym (eq-eqb u p.from k)) ∙ ap (λ (l : List Pair). tabled old (renamed l u)) (sym e))
    (λ k n. get_or-set_other mid p.from u x (Some 0) n ∙ h u
    ∙ ap (λ (b : Bool). tabled old (renamed rest (if b then p.to else u))) (sym k) ∙ ap (λ (l : List Pair). tabled old (renamed l u)) (sym e))

module _ (w : World) (ds : List Derived) (slots : List ℕ) where
  -- at a leaf outside all producers
  pub leaf_plain : (outer : List Pair) (values : List (Option ℕ)) → IsTable w ds (renamed outer) slots values → IsLeafTable w ds outer [] slots values
  leaf_plain outer values t = record { has = λ u. t u ∙ ap (λ (l : List Pair). inside w ds (renamed l) (slice_index slots) u) (sym (append-nil outer)) }

  -- at a leaf in a producer, once the new names of its loops have their values
  pub leaf_inside : (outer both more mine inner all : List Pair) (mid new : List (Option ℕ)) → both ≡ outer ++ more → mine ≡ more → all ≡ more ++ inner → IsLeafTable w ds both inner slots mid
      → ((u : ℕ) → tabled new u ≡ tabled mid (renamed mine u)) → IsLeafTable w ds outer all slots new
  leaf_inside outer both more mine inner all mid new b m a t h = record {
    has = λ u.
        h u ∙ ap (λ (l : List Pair). tabled mid (renamed l u)) m ∙ t.has (renamed more u)
        ∙ ap (λ (l : List Pair). inside w ds (renamed (l ++ inner)) (slice_index slots) (renamed inner (renamed more u))) b
        ∙ ap (λ (l : List Pair). inside w ds (renamed l) (slice_index slots) (renamed inner (renamed more u))) (append_assoc outer more inner)
        ∙ ap (λ (v : ℕ). inside w ds (renamed (outer ++ (more ++ inner))) (slice_index slots) v) (sym (renamed-append more inner u))
        ∙ ap (λ (l : List Pair). inside w ds (renamed (outer ++ l)) (slice_index slots) (renamed l u)) (sym a);
  }

-- the renamings at a leaf in a producer
pub producer_pairs : (work : ℕ) (more : List Pair) (p q : Tree) (leaf n : ℕ) → leaf < n → n ≡ leaf_count p → pairs_at (Pre work more p q) leaf ≡ more ++ pairs_at p leaf
producer_pairs work more p q leaf n l e =
    ap (λ (b : Bool). if b then more ++ pairs_at p leaf else pairs_at q (leaf - leaf_count p)) (lt-ltb leaf (leaf_count p) (omega (arith, l, e)))
