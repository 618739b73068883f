use Rattle.std.proofs.Common.{◌≡◌, ◌∷◌, ◌++◌, take}
use Rattle.std.specs.List.{flat_map}
use Rattle.dt_base.proofs.bytes.Bytes.append_each.Given as goal

abbrev pub invariant-loop-n : goal.invariant-loop-n
invariant-loop-n g l = l.self ≡ l.fn.self ++ flat_map (λ n. l.before ∷ g.I.Integer.text n) (take l.n-index l.numbers)
