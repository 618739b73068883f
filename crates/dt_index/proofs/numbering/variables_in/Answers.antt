use Rattle.std.proofs.Common.{◌≡◌, ◌∙◌, ◌++◌, ◌+◌, ℕ, List, take, map, ap, refl}
use Rattle.std.specs.List.{flat_map}
use Rattle.dt_index.specs.Resolve.{distinct}
use Rattle.dt_index.specs.declared.form.NamedAccess.{NamedAccess}
use Rattle.dt_index.proofs.RefFacts.{joined_next}
use Rattle.dt_index.proofs.numbering.variables_in.Goals as goal

pub loop-access-preserved : goal.loop-access-preserved
loop-access-preserved c =
    let names : ℕ → List (List ℕ) = λ i. flat_map (λ a. a.vars) (take i (map (λ a. a.now) c.args.accesses.now)) in
    let i = c.loop-access.access-index in
    let joined : names i ++ c.access-item.result.now.vars ≡ names (i + 1) = joined_next (λ a. a.now) (λ (a : NamedAccess). a.vars) c.args.accesses.now i c.access-item.result (names i) (names i ++ c.access-item.result.now.vars) c.loop-access-test.true c.access-item.is refl refl in
    c.in_ok-add_new.ensures (names i) c.loop-access.invariant ∙ ap (λ (vs : List (List ℕ)). distinct (names i ++ vs)) c.as_slice.ensures ∙ ap (λ (vs : List (List ℕ)). distinct vs) joined
