use Rattle.std.proofs.Common.{◌≡◌, [], ◌∙◌, sym, ap, List, ℕ, refl}
use Rattle.std.proofs.lemmas.List.{append-nil}
use Rattle.dt_index.specs.Resolve.{access_occurrences, named_extents}
use Rattle.dt_index.proofs.OccurrenceFacts.{no_occurrences}
use Rattle.dt_index.proofs.occurrences.add_occurrences.Goals as goal

pub returns-in-None-clause-value : goal.returns-in-None-clause-value
returns-in-None-clause-value g c =
    let nothing : access_occurrences (g.L.Lookup.tensors c.args.names.now) c.args.access.now ≡ [] =
    no_occurrences (g.L.Lookup.tensors c.args.names.now) c.args.access.now (ap (λ (n : List ℕ). named_extents (g.L.Lookup.tensors c.args.names.now) n) (sym c.as_slice.ensures.bytes) ∙ c.in-None.ensures.extents) in
    rw (nothing, append-nil) refl
