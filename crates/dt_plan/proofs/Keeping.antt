-- How lists that are kept up to a limit grow.
use Rattle.std.proofs.Common.{◌≡◌, ◌<◌, ◌≤◌, Bool, true, false, List, [], ◌++◌, length, refl, ap, ◌∙◌, subst, arith, append-nil, append_assoc}
use Rattle.std.specs.Prelude.{nat_lt}
use Rattle.std.proofs.lemmas.Bool.{ltb-true, ltb-false}
use Rattle.std.proofs.lemmas.List.{length-append}
use Rattle.dt_plan.specs.declared.ops.Op.{Op}
use Rattle.dt_plan.specs.Keeps.{Keeps, op_limit}

-- all were put behind
pub keeps_all : (old more : List Op) → Keeps old more (old ++ more)
keeps_all old more = record { grows = (let e = length-append old more in omega (arith, e)); all = λ l. refl; many = λ l. l }

-- there were none
pub keeps_none : (old : List Op) → Keeps old [] old
keeps_none old = subst (λ l. Keeps old [] l) (append-nil old) (keeps_all old [])

-- there were too many before
pub keeps_full : (old more : List Op) → op_limit < length old → Keeps old more old
keeps_full old more f = record { grows = omega arith; all = λ l. absurd (omega (arith, f, l)); many = λ l. (let e = length-append old more in omega (arith, e, f)) }

-- one after the other
pub keeps_then : (old a mid b new : List Op) → Keeps old a mid → Keeps mid b new → Keeps old (a ++ b) new
keeps_then old a mid b new k h = record {
  grows = (let x = k.grows in let y = h.grows in omega (arith, x, y));
  all = λ l. h.all l ∙ ap (λ (x : List Op). x ++ b) (k.all (few l)) ∙ append_assoc old a b;
  many = λ l. go l (nat_lt op_limit (length mid)) refl;
}
  where
    few : length new ≤ op_limit → length mid ≤ op_limit
    few l = let y = h.grows in omega (arith, y, l)

    longer : op_limit < length (old ++ a) → op_limit < length (old ++ (a ++ b))
    longer l =
        let e = ap (λ (x : List Op). length x) (append_assoc old a b) in
        let f = length-append (old ++ a) b in
        omega (arith, e, f, l)

    over : length mid ≤ op_limit → op_limit < length new → op_limit < length (old ++ (a ++ b))
    over m l = subst (λ (x : List Op). op_limit < length x) (ap (λ (x : List Op). x ++ b) (k.all m) ∙ append_assoc old a b) (h.many l)

    go : op_limit < length new → (c : Bool) → nat_lt op_limit (length mid) ≡ c → op_limit < length (old ++ (a ++ b))
    go l true e = longer (k.many (ltb-true op_limit (length mid) e))
    go l false e = over (ltb-false op_limit (length mid) e) l
