use Rattle.std.proofs.Common.{◌≡◌, List, ℕ, [], length, get_or, ap, ◌∙◌}
use Rattle.std.proofs.lemmas.List.{get_or_default}
use Rattle.dt_place.specs.Machines.{MachineView}
use Rattle.dt_place.proofs.MachineFacts.{same_groups, some_level}
use Rattle.dt_place.proofs.machines.Machine.same_group.Goals as goal

pub returns : goal.returns
returns c =
    let levels : List (List ℕ) = c.self.inside.levels.items in
    let at : c.index-as_slice-0.result ≡ get_or levels 0 [] = c.index-as_slice-0.is ∙ ap (λ (ls : List (List ℕ)). get_or ls 0 c.index-as_slice-0.result) c.as_slice.ensures.value ∙ get_or_default levels 0 c.index-as_slice-0.result [] (some_level levels c.self.invariant.0) in
    same_groups c.args.self.now c.args.a c.args.b c.len-first.result c.coords.result c.coords-2.result c.eq.result
    (c.len-first.ensures ∙ ap length at ∙ ap (λ (m : MachineView). length (get_or m.levels 0 [])) c.self.view_is)
    c.coords.ensures.coords c.coords-2.ensures.coords c.eq.ensures
