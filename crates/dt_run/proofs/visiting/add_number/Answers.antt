use Rattle.std.proofs.Common.{ℕ, List, Option, map, length, take, arith, ap, ◌∙◌}
use Rattle.std.specs.Prelude.{None, slice_index}
use Rattle.std.proofs.lemmas.List.{set-set, length-map}
use Rattle.std.proofs.lemmas.Option.{slice_get_within}
use Rattle.dt_model.specs.WholeTensor.{WholeTensor}
use Rattle.dt_nest.specs.Point.{env_at}
use Rattle.dt_run.proofs.LeafReads.{index_at}
use Rattle.dt_run.proofs.WholeSets.{grows_at, shapes_kept}
use Rattle.dt_run.proofs.visiting.add_number.Goals as goal

pub returns-clause-entries : goal.returns-clause-entries
returns-clause-entries g c =
    grows_at c.args.tensors.now.items c.args.lhs.now.tensor c.index_mut-left.result.now c.set.new.self (take (length c.as_slice-vars.result.now) c.coordinates-coords.result) (map (env_at c.args.visits.now None) c.args.lhs.now.vars) (map (slice_index c.args.visits.now.sched.extents) c.args.lhs.now.vars) c.get.result c.unwrap_or-old.result c.args.number
    (omega (arith, slice_get_within _ c.args.lhs.now.tensor _ c.requires.fits, length-map c.args.tensors.now.items (λ (t : WholeTensor). t.extents)))
    c.index_mut-left.ensures.value c.requires.fits
    (index_at c.args.visits.now c.point.result.lane c.point.result.values.now c.args.lhs.now.vars c.point.ensures.lane c.point.ensures.point c.requires.vars)
    (c.coordinates-coords.ensures.values ∙ ap (λ (o : Option ℕ). map (env_at c.args.visits.now o) c.as_slice-vars.result.now) c.point.ensures.lane ∙ ap (λ (l : List ℕ). map (env_at c.args.visits.now None) l) c.as_slice-vars.ensures)
    c.get.ensures.number c.get.ensures.found c.unwrap_or-old.ensures c.set.ensures.number

pub returns-clause-others : goal.returns-clause-others
returns-clause-others g c = λ d. set-set c.args.tensors.now.items c.args.lhs.now.tensor c.set.new.self d

pub returns-clause-shapes : goal.returns-clause-shapes
returns-clause-shapes g c = shapes_kept c.args.tensors.now.items c.args.lhs.now.tensor c.index_mut-left.result.now c.set.new.self (take (length c.as_slice-vars.result.now) c.coordinates-coords.result) _ c.index_mut-left.ensures.value c.set.ensures.number
