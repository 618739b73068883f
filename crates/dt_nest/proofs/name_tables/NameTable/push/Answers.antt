use Rattle.std.proofs.Common.{◌≡◌, ◌++◌, ◌∷◌, [], None, sym, ◌∙◌}
use Rattle.std.specs.Prelude.{position}
use Rattle.std.specs.Str.{bytes_eq}
use Rattle.dt_nest.proofs.Numbering.{adds_as, numbered_known, numbered_new, numbered_before, numbered_pushed}
use Rattle.dt_nest.proofs.name_tables.NameTable.push.Goals as goal

pub invariant_of-self : goal.invariant_of-self
invariant_of-self c =
    let names = c.self.inside.names in
    let numbers = c.self.inside.numbers.entries in
    numbered_pushed c.push.result names (names ++ c.args.name ∷ []) c.push.new.self numbers c.push.ensures.ok c.push.ensures.err c.self.invariant
    (numbered_known names numbers c.args.name c.in-Some.field-0 c.self.invariant (cc (c.in-Some.ensures.number, c.self.view_is)))

pub invariant_of-self-in-None : goal.invariant_of-self-in-None
invariant_of-self-in-None c =
    let names = c.self.inside.names in
    let numbers = c.self.inside.numbers.entries in
    let new = c.insert.new.self.entries in
    let none : position (λ n. bytes_eq n c.args.name) names ≡ None = cc (c.in-None.ensures.number, c.self.view_is) in
    let adds = adds_as names c.as_slice-number.result.now numbers new c.copied.result c.args.name c.copied.ensures c.as_slice-number.ensures c.in_ok-insert-in-None.ensures.updates.0 in
    numbered_pushed c.push-in-None.result names (names ++ c.args.name ∷ []) c.push-in-None.new.self new c.push-in-None.ensures.ok c.push-in-None.ensures.err
    (numbered_before names numbers new c.args.name c.self.invariant none adds)
    (numbered_new names numbers new c.args.name c.self.invariant none adds)
