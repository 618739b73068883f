use Rattle.std.proofs.Common.{ℕ, ◌+◌, List, length, get_or, ap, ◌∙◌, subst, arith}
use Rattle.dt_level.specs.Levels.{IsLevel, children_of, first_child}
use Rattle.dt_level.proofs.SegmentLemmas.{parent_within, from_is, to_is, parts_level}
use Rattle.dt_level.proofs.compressed_level.Compressed.ends.Goals as goal

pub bounds-pos-parent : goal.bounds-pos-parent
bounds-pos-parent c =
    let within = parent_within c.self.inside.pos c.self.inside.crd c.args.parent (omega (arith, ap length c.self.view_is, c.requires)) in
    omega (arith, ap length c.as_slice-pos.ensures)

pub bounds-pos-parent-2 : goal.bounds-pos-parent-2
bounds-pos-parent-2 c =
    let within = parent_within c.self.inside.pos c.self.inside.crd c.args.parent (omega (arith, ap length c.self.view_is, c.requires)) in
    omega (arith, ap length c.as_slice-pos.ensures)

pub returns-clause-from : goal.returns-clause-from
returns-clause-from c =
    ap (λ (l : List ℕ). get_or l c.args.parent 0) c.as_slice-pos.ensures
    ∙ from_is c.self.inside.pos c.self.inside.crd c.args.parent c.self.invariant.0 (omega (arith, ap length c.self.view_is, c.requires))
    ∙ ap (λ (l : List (List ℕ)). first_child l c.args.parent) c.self.view_is

pub returns-clause-to : goal.returns-clause-to
returns-clause-to c =
    ap (λ (l : List ℕ). get_or l (c.args.parent + 1) 0) c.as_slice-pos.ensures
    ∙ to_is c.self.inside.pos c.self.inside.crd c.args.parent c.self.invariant.0 (omega (arith, ap length c.self.view_is, c.requires))
    ∙ ap (λ (l : List (List ℕ)). first_child l c.args.parent + length (children_of l c.args.parent)) c.self.view_is

pub returns-clause-lawful : goal.returns-clause-lawful
returns-clause-lawful c =
    subst IsLevel c.self.view_is (parts_level c.self.inside.pos c.self.inside.crd c.self.invariant.0 c.self.invariant.1)
