use Rattle.std.proofs.Common.{◌≡◌, Bool, ◌&&◌, nat_lt, length, sym, subst, rules, arith}
use Rattle.std.specs.List.{list_all, zip}
use Rattle.std.proofs.lemmas.Bool.{le-leb}
use Rattle.std.proofs.lemmas.Iterator.{YieldsList-from_slice, YieldsList-from_zip}
use Rattle.std.proofs.lemmas.Iterator.Search.{all_from_yields_List}
use borrow.Author.Tests.{tests}
use Rattle.dt_tensor.proofs.dense.are_below.Goals as goal

pub returns-then-c-extents : goal.returns-then-c-extents
returns-then-c-extents c =
    subst (λ (b : Bool). c.all.result ≡ (b && list_all (λ p. nat_lt p.0 p.1) (zip c.args.c.now c.args.extents.now))) (sym (le-leb (length c.args.c.now) (length c.args.extents.now) (omega arith)))
    (all_from_yields_List (λ p. nat_lt p.0 p.1) c.all.new.self _ _ c.all.ensures.ran
    (YieldsList-from_zip (YieldsList-from_slice c.args.c.now cc) (YieldsList-from_slice c.args.extents.now cc)) (λ x b q k. search (rules, tests)))
