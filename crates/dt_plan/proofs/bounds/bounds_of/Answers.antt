use Rattle.std.proofs.Common.{sym, ◌∙◌}
use Rattle.dt_place.specs.Machines.{nodes_of}
use Rattle.dt_plan.specs.Bounds.{home_words}
use Rattle.dt_plan.specs.NodeWords.{most_of_segments}
use Rattle.dt_plan.proofs.NodeRows.{rows_summed}
use Rattle.dt_plan.proofs.SegmentRows.{row_many}
use Rattle.dt_plan.proofs.bounds.bounds_of.Goals as goal

pub summed-requires : goal.summed-requires
summed-requires g c =
    row_many (nodes_of c.args.layout.now.machine) (home_words c.args.layout.now) c.as_slice.result.now (c.as_slice.ensures.value ∙ c.in_ok-homes.ensures)
    ∙ sym (row_many (nodes_of c.args.layout.now.machine) (most_of_segments c.args.layout.now c.args.layout.now.parts) c.as_slice-2.result.now (c.as_slice-2.ensures.value ∙ c.in_ok-segments.ensures))

pub returns : goal.returns
returns g c =
    c.in_ok-bounds.ensures
    ∙ rows_summed (nodes_of c.args.layout.now.machine) (home_words c.args.layout.now) (most_of_segments c.args.layout.now c.args.layout.now.parts) c.as_slice.result.now c.as_slice-2.result.now (c.as_slice.ensures.value ∙ c.in_ok-homes.ensures)
    (c.as_slice-2.ensures.value ∙ c.in_ok-segments.ensures)
