-- Parts with their numbers, one after the other.
use Rattle.std.proofs.Common.{◌≡◌, ℕ, ◌+◌, ◌<◌, ◌≤◌, List, [], ◌∷◌, ◌++◌, length, take, get_or, ap, sym, ◌∙◌, subst, append_assoc, arith}
use Rattle.std.specs.List.{flat_map, zip}
use Rattle.std.proofs.lemmas.List.{get_or-map, length-map, take_all}
use Rattle.std.proofs.lemmas.List.Sums.{sum_by-cons}
use Rattle.std.proofs.lemmas.Slice.Zip.{get_or-zip, length-zip}
use Rattle.dt_base.specs.Ranges.{below}
use Rattle.dt_base.proofs.Ranges.{length-below, get_or-below}
use Rattle.dt_nest.specs.Lawful.{IsLawful}
use Rattle.dt_nest.proofs.Each.{all_map}
use Rattle.dt_copy.specs.declared.piece_list.Piece.{Piece}
use Rattle.dt_plan.specs.declared.ops.Op.{Op}
use Rattle.dt_plan.specs.declared.parts.Part.{Part}
use Rattle.dt_plan.specs.Brackets.{Outline, brackets}
use Rattle.dt_plan.specs.Layouts.{Layout}
use Rattle.dt_plan.specs.Limits.{visits_bound, visit_count}
use Rattle.dt_plan.specs.Keeps.{Keeps}
use Rattle.dt_plan.specs.ListingLaws.{IsLayout}
use Rattle.dt_plan.specs.Operations.{ops_of, outline_of, outlines_of}
use Rattle.dt_plan.specs.Statements.{HasHomes, FitsPart, FitsLayout}
use Rattle.dt_plan.proofs.Keeping.{keeps_then}
use Rattle.dt_plan.proofs.ListOrder.{list_is}
use Rattle.dt_plan.proofs.OutlineFacts.{visits_some}
use Rattle.dt_plan.proofs.PathFacts.{flat_step}

abbrev pub numbered : List Part → List (ℕ × Part)
numbered parts = zip (below (length parts)) parts

-- as many as there are parts
pub numbered_many : (parts : List Part) → length (numbered parts) ≡ length parts
numbered_many parts = let e = length-zip (below (length parts)) parts in let m = length-below (length parts) in omega (arith, e, m)

-- the part with its number
pub numbered_at : (parts : List Part) (k : ℕ) (p : Part) → k < length parts → p ≡ get_or parts k p → get_or (numbered parts) k (k, p) ≡ (k, p)
numbered_at parts k p l e =
    get_or-zip (below (length parts)) parts k (k, p) (let m = length-below (length parts) in omega (arith, l, m)) l
    ∙ ap (λ (i : ℕ). (i, get_or parts k p)) (get_or-below (length parts) k k l) ∙ ap (λ (q : Part). (k, q)) (sym e)

-- one part more
pub numbered_step : {Y : Type 0} (f : ℕ × Part → List Y) (parts : List Part) (k : ℕ) (p : Part) → k < length parts → p ≡ get_or parts k p
    → flat_map f (take (k + 1) (numbered parts)) ≡ flat_map f (take k (numbered parts)) ++ f (k, p)
numbered_step {Y} f parts k p l e =
    flat_step f (numbered parts) k (k, p) (let m = numbered_many parts in omega (arith, l, m))
    ∙ ap (λ (x : ℕ × Part). flat_map f (take k (numbered parts)) ++ f x) (numbered_at parts k p l e)

-- what is put behind other things for one part more
pub flat_more : {Y : Type 0} (f : ℕ × Part → List Y) (parts : List Part) (k : ℕ) (p : Part) (front old new : List Y) → k < length parts → p ≡ get_or parts k p → old ≡ front ++ flat_map f (take k (numbered parts)) → new ≡ old ++ f (k, p)
    → new ≡ front ++ flat_map f (take (k + 1) (numbered parts))
flat_more {Y} f parts k p front old new l e a b =
    b ∙ ap (λ (ys : List Y). ys ++ f (k, p)) a ∙ append_assoc front (flat_map f (take k (numbered parts))) (f (k, p)) ∙ ap (λ (ys : List Y). front ++ ys) (sym (numbered_step f parts k p l e))

-- and for all parts
pub flat_whole : {Y : Type 0} (f : ℕ × Part → List Y) (parts : List Part) (k : ℕ) (front now : List Y) → length parts ≤ k → now ≡ front ++ flat_map f (take k (numbered parts)) → now ≡ front ++ flat_map f (numbered parts)
flat_whole {Y} f parts k front now l a =
    a ∙ ap (λ (xs : List (ℕ × Part)). front ++ flat_map f xs) (take_all k (numbered parts) (let m = numbered_many parts in omega (arith, l, m)))

-- as many as there are parts
pub outlines_many : (l : Layout) → length (outlines_of l) ≡ length l.parts
outlines_many l = length-map (numbered l.parts) (λ (x : ℕ × Part). outline_of l x.0 x.1) ∙ numbered_many l.parts

-- one outline more
pub outlines_step : (l : Layout) (k : ℕ) (p : Part) → k < length l.parts → p ≡ get_or l.parts k p
    → flat_map brackets (take (k + 1) (outlines_of l)) ≡ flat_map brackets (take k (outlines_of l)) ++ brackets (outline_of l k p)
outlines_step l k p b e =
    flat_step brackets (outlines_of l) k (outline_of l k p) (let m = outlines_many l in omega (arith, b, m))
    ∙ ap (λ (m : Outline Op Piece). flat_map brackets (take k (outlines_of l)) ++ brackets m)
    (get_or-map (λ (x : ℕ × Part). outline_of l x.0 x.1) (numbered l.parts) k (k, p) (outline_of l k p) (let m = numbered_many l.parts in omega (arith, b, m))
    ∙ ap (λ (x : ℕ × Part). outline_of l x.0 x.1) (numbered_at l.parts k p b e))

-- each part counts in the visits
pub parts_few : (parts : List Part) → length parts ≤ visit_count parts
parts_few [] = omega arith
parts_few (p ∷ parts) =
    let a = parts_few parts in
    let b = visits_some p.sched.nest in
    let c = sum_by-cons (λ (q : Part). visits_bound q.sched.nest) p parts in
    omega (arith, a, b, c)

-- Lists of operations ---------------------------------------------------------------------------------------------------

pub is_layout : (l : Layout) → HasHomes l → FitsLayout l → IsLayout l
is_layout l h f = record { machine = h.machine; lawful = all_map (FitsPart l) (λ (p : Part). IsLawful p.sched) (λ p i. i.lawful) l.parts f.parts; visits = f.visits }

-- the operations of one part more
pub listed_more : (l : Layout) (k : ℕ) (p : Part) (old new : List Op) → k < length l.parts → p ≡ get_or l.parts k p → Keeps [] (flat_map brackets (take k (outlines_of l))) old → Keeps old (brackets (outline_of l k p)) new
    → Keeps [] (flat_map brackets (take (k + 1) (outlines_of l))) new
listed_more l k p old new b e a c =
    subst (λ (r : List Op). Keeps [] r new) (sym (outlines_step l k p b e)) (keeps_then [] (flat_map brackets (take k (outlines_of l))) old (brackets (outline_of l k p)) new a c)

-- those of all parts
pub listed_all : (l : Layout) (k : ℕ) (ops : List Op) → HasHomes l → FitsLayout l → length l.parts ≤ k → Keeps [] (flat_map brackets (take k (outlines_of l))) ops → Keeps [] (ops_of l) ops
listed_all l k ops h f b a =
    subst (λ (r : List Op). Keeps [] r ops) (ap (λ (ms : List (Outline Op Piece)). flat_map brackets ms) (take_all k (outlines_of l) (let m = outlines_many l in omega (arith, b, m))) ∙ sym (list_is l (is_layout l h f))) a
