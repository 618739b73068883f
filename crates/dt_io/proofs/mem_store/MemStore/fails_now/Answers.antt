use Rattle.std.proofs.Common.{◌≡◌, ◌==◌, ℕ, Bool, true, false, cond, ap, ap₂, sym, ◌∙◌}
use Rattle.std.specs.List.{list_any}
use Rattle.dt_io.specs.Faults.{one_more}
use Rattle.dt_io.specs.Memory.{StoreState, called, is_failing}
use Rattle.dt_io.proofs.Listed.{listed_is}
use Rattle.dt_io.proofs.mem_store.MemStore.fails_now.Goals as goal

pub returns-then-is_listed-clause-failing : goal.returns-then-is_listed-clause-failing
returns-then-is_listed-clause-failing c =
    sym c.if-is_listed.true ∙ listed_is c.self.inside.fails c.saturating_add-self-inside.result c.is_listed.result c.is_listed.ensures
    ∙ ap (λ (k : ℕ). list_any (λ n. n == k) c.self.inside.fails) c.saturating_add-self-inside.ensures
    ∙ ap (λ (s : StoreState). is_failing s) c.self.view_is

pub returns-then-is_listed-clause-after : goal.returns-then-is_listed-clause-after
returns-then-is_listed-clause-after c =
    let failing = sym c.if-is_listed.true ∙ listed_is c.self.inside.fails c.saturating_add-self-inside.result c.is_listed.result c.is_listed.ensures
    ∙ ap (λ (k : ℕ). list_any (λ n. n == k) c.self.inside.fails) c.saturating_add-self-inside.ensures in
    let state : ℕ → ℕ → StoreState = λ k f. record { files = c.self.inside.files.items; fails = c.self.inside.fails; calls = k; faults = f } in
    ap₂ state c.saturating_add-self-inside.ensures (c.saturating_add-self-inside-then-is_listed.ensures ∙ ap (λ (b : Bool). cond b (one_more c.self.inside.faults) c.self.inside.faults) failing)
    ∙ ap (λ (s : StoreState). called s) c.self.view_is

pub returns-clause-failing : goal.returns-clause-failing
returns-clause-failing c =
    sym c.if-is_listed.false ∙ listed_is c.self.inside.fails c.saturating_add-self-inside.result c.is_listed.result c.is_listed.ensures
    ∙ ap (λ (k : ℕ). list_any (λ n. n == k) c.self.inside.fails) c.saturating_add-self-inside.ensures
    ∙ ap (λ (s : StoreState). is_failing s) c.self.view_is

pub returns-clause-after : goal.returns-clause-after
returns-clause-after c =
    let failing = sym c.if-is_listed.false ∙ listed_is c.self.inside.fails c.saturating_add-self-inside.result c.is_listed.result c.is_listed.ensures
    ∙ ap (λ (k : ℕ). list_any (λ n. n == k) c.self.inside.fails) c.saturating_add-self-inside.ensures in
    let state : ℕ → ℕ → StoreState = λ k f. record { files = c.self.inside.files.items; fails = c.self.inside.fails; calls = k; faults = f } in
    ap₂ state c.saturating_add-self-inside.ensures (ap (λ (b : Bool). cond b (one_more c.self.inside.faults) c.self.inside.faults) failing)
    ∙ ap (λ (s : StoreState). called s) c.self.view_is
