-- A tree of a schedule at its place: below these loops, under these names.
use Rattle.std.proofs.Common.{◌≡◌, ℕ, ◌<◌, ◌≤◌, Bool, true, false, ◌||◌, List, [], ◌∷◌, length, refl, sym, ap, ◌∙◌, subst, arith}
use Rattle.std.specs.Prelude.{Option, if◌then◌else◌, nat_eq}
use Rattle.std.proofs.lemmas.Bool.{eqb-true, ne_eqb}
use Rattle.dt_nest.specs.declared.loops.Walk.{Walk}
use Rattle.dt_nest.specs.declared.loops.Pair.{Pair}
use Rattle.dt_nest.specs.declared.derivations.Derived.{Derived}
use Rattle.dt_nest.specs.Tree.{Tree, Loop, Pre}
use Rattle.dt_nest.specs.Schedule.{Schedule}
use Rattle.dt_nest.specs.Meaning.{Env, renamed, under}
use Rattle.dt_nest.specs.Lawful.{ArePairs, IsNamed, is_replaced, AreLoops, Loops, also, AllFollow, IsLawful}
use Rattle.dt_nest.proofs.Agree.{follows_loop}

-- the loops around are the schedule's, were not replaced and have no new name; nor has a name past the schedule's
pub record IsPlace (s : Schedule) (ds : List Derived) (around : Loops) (name : Env) : Type 0 where
  pub below : (u : ℕ) → around u ≡ true → u < length s.names
  pub whole : (u : ℕ) → around u ≡ true → is_replaced ds u ≡ false
  pub same : (u : ℕ) → around u ≡ true → name u ≡ u
  pub past : (u : ℕ) → length s.names ≤ u → name u ≡ u

-- a tree of the schedule, whose loops were not replaced, at a place where its variables follow from the loops around
pub record Stands (s : Schedule) (ds : List Derived) (tree : Tree) (around : Loops) (name : Env) : Type 0 where
  pub place : IsPlace s ds around name
  pub named : IsNamed s tree
  pub follows : AllFollow ds tree around name
  pub loops : AreLoops ds tree

-- a fact of a loop and of those around it
also_all : (P : ℕ → Type 0) (around : Loops) (v : ℕ) → P v → ((u : ℕ) → around u ≡ true → P u) → (u : ℕ) → also around v u ≡ true → P u
also_all P around v p h u k = go (nat_eq u v) (eqb-true u v) k
  where
    go : (b : Bool) → (b ≡ true → u ≡ v) → (b || around u) ≡ true → P u
    go true e k = subst P (sym (e refl)) p
    go false e k = h u k

-- a new name moves no number past the pairs
pub renamed_past : (s : Schedule) (pairs : List Pair) (u : ℕ) → ArePairs s pairs → length s.names ≤ u → renamed pairs u ≡ u
renamed_past s [] u b h = refl
renamed_past s (p ∷ ps) u b h =
    let ne : nat_eq u p.from ≡ false = ne_eqb u p.from (λ e. omega (arith, b.0.0)) in
    ap (λ t. renamed ps (if t then p.to else u)) ne ∙ renamed_past s ps u b.1 h

-- the body of a loop
pub stands_below : (s : Schedule) (ds : List Derived) (v n : ℕ) (walk : Option Walk) (body : Tree) (around : Loops) (name : Env) → Stands s ds (Loop v n walk body) around name → Stands s ds body (also around v) name
stands_below s ds v n walk body around name t = record {
  place = record {
    below = also_all (λ u. u < length s.names) around v t.named.0 t.place.below;
    whole = also_all (λ u. is_replaced ds u ≡ false) around v t.loops.0 t.place.whole;
    same = also_all (λ u. name u ≡ u) around v t.follows.1 t.place.same;
    past = t.place.past;
  };
  named = t.named.3;
  follows = t.follows.3;
  loops = t.loops.1;
}

-- a producer
pub stands_producer : (s : Schedule) (ds : List Derived) (work : ℕ) (pairs : List Pair) (producer consumer : Tree) (around : Loops) (name : Env) → Stands s ds (Pre work pairs producer consumer) around name → Stands s ds producer around (under pairs name)
stands_producer s ds work pairs producer consumer around name t = record {
  place = record {
    below = t.place.below;
    whole = t.place.whole;
    same = λ u a. ap (renamed pairs) (t.place.same u a) ∙ t.follows.0 u (follows_loop ds around name u (t.place.whole u a) a);
    past = λ u h. ap (renamed pairs) (t.place.past u h) ∙ renamed_past s pairs u t.named.1 h;
  };
  named = t.named.2;
  follows = t.follows.1;
  loops = t.loops.0;
}

-- a consumer
pub stands_consumer : (s : Schedule) (ds : List Derived) (work : ℕ) (pairs : List Pair) (producer consumer : Tree) (around : Loops) (name : Env) → Stands s ds (Pre work pairs producer consumer) around name → Stands s ds consumer around name
stands_consumer s ds work pairs producer consumer around name t = record {
  place = t.place;
  named = t.named.3;
  follows = t.follows.2;
  loops = t.loops.1;
}

-- the nest of a lawful schedule
pub stands_whole : (s : Schedule) → IsLawful s → Stands s s.derived s.nest (λ u. false) (λ u. u)
stands_whole s l = record {
  place = record {
    below = λ u a. absurd (cc);
    whole = λ u a. absurd (cc);
    same = λ u a. refl;
    past = λ u h. refl;
  };
  named = l.named;
  follows = l.follows;
  loops = l.loops;
}
