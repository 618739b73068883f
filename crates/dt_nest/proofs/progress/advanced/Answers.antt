use Rattle.std.proofs.Common.{refl, arith}
use Rattle.dt_nest.specs.Schedule.{seen}
use Rattle.dt_nest.proofs.OwnSlots.{few_leaves}
use Rattle.dt_nest.proofs.ProgressFacts.{sound_after, sound_room, from_start, from_visit, from_reset}
use Rattle.dt_nest.proofs.progress.advanced.Goals as goal

pub first-requires-clause-few : goal.first-requires-clause-few
first-requires-clause-few g c = few_leaves (seen c.args.conditions.now.parts.now) c.requires.on.lawful

pub first-requires-clause-room : goal.first-requires-clause-room
first-requires-clause-room g c = sound_room _ (seen c.args.conditions.now.parts.now) _ _ _ c.requires.on

pub arrival-requires-clause-few : goal.arrival-requires-clause-few
arrival-requires-clause-few g c = few_leaves (seen c.args.conditions.now.parts.now) c.requires.on.lawful

pub arrival-requires-in-Resetting-clause-few : goal.arrival-requires-in-Resetting-clause-few
arrival-requires-in-Resetting-clause-few g c = few_leaves (seen c.args.conditions.now.parts.now) c.requires.on.lawful

pub next_visit-requires-clause-few : goal.next_visit-requires-clause-few
next_visit-requires-clause-few g c = few_leaves (seen c.args.conditions.now.parts.now) c.requires.on.lawful

pub next_visit-requires-clause-room : goal.next_visit-requires-clause-room
next_visit-requires-clause-room g c = sound_room _ (seen c.args.conditions.now.parts.now) _ _ _ c.requires.on

pub arrival-requires-in-Some-next_visit-clause-few :
    goal.arrival-requires-in-Some-next_visit-clause-few
arrival-requires-in-Some-next_visit-clause-few g c = few_leaves (seen c.args.conditions.now.parts.now) c.requires.on.lawful

pub returns-in-Some-clause-moves : goal.returns-in-Some-clause-moves
returns-in-Some-clause-moves g c =
    (from_start (g.L.Locator.tensors c.args.conditions.now.loc.now) (seen c.args.conditions.now.parts.now) c.args.path.now c.args.cursor.now.slots.items c.first.new.cursor.slots.items c.args.progress c.arrival.result c.requires.on c.in-Some.leaf c.in-Before.is c.in-Some.ensures.finds c.arrival.ensures).0

pub returns-in-Some-clause-sound : goal.returns-in-Some-clause-sound
returns-in-Some-clause-sound g c =
    sound_after (g.L.Locator.tensors c.args.conditions.now.loc.now) (seen c.args.conditions.now.parts.now) c.args.path.now c.args.cursor.now.slots.items c.first.new.cursor.slots.items c.args.progress c.arrival.result c.requires.on (omega arith)
    (from_start (g.L.Locator.tensors c.args.conditions.now.loc.now) (seen c.args.conditions.now.parts.now) c.args.path.now c.args.cursor.now.slots.items c.first.new.cursor.slots.items c.args.progress c.arrival.result c.requires.on c.in-Some.leaf c.in-Before.is c.in-Some.ensures.finds c.arrival.ensures)

pub returns-in-Resetting-clause-moves : goal.returns-in-Resetting-clause-moves
returns-in-Resetting-clause-moves g c =
    (from_reset (g.L.Locator.tensors c.args.conditions.now.loc.now) (seen c.args.conditions.now.parts.now) c.args.path.now c.args.cursor.now.slots.items c.args.cursor.now.slots.items c.args.progress c.arrival-in-Resetting.result c.requires.on c.in-Resetting.leaf c.in-Resetting.past c.in-Resetting.work c.in-Resetting.is c.arrival-in-Resetting.ensures).0

pub returns-in-Resetting-clause-sound : goal.returns-in-Resetting-clause-sound
returns-in-Resetting-clause-sound g c =
    sound_after (g.L.Locator.tensors c.args.conditions.now.loc.now) (seen c.args.conditions.now.parts.now) c.args.path.now c.args.cursor.now.slots.items c.args.cursor.now.slots.items c.args.progress c.arrival-in-Resetting.result c.requires.on refl
    (from_reset (g.L.Locator.tensors c.args.conditions.now.loc.now) (seen c.args.conditions.now.parts.now) c.args.path.now c.args.cursor.now.slots.items c.args.cursor.now.slots.items c.args.progress c.arrival-in-Resetting.result c.requires.on c.in-Resetting.leaf c.in-Resetting.past c.in-Resetting.work c.in-Resetting.is c.arrival-in-Resetting.ensures)

pub returns-in-Some-next_visit-clause-moves : goal.returns-in-Some-next_visit-clause-moves
returns-in-Some-next_visit-clause-moves g c =
    (from_visit (g.L.Locator.tensors c.args.conditions.now.loc.now) (seen c.args.conditions.now.parts.now) c.args.path.now c.args.cursor.now.slots.items c.next_visit.new.cursor.slots.items c.args.progress c.arrival-in-Some-next_visit.result c.requires.on c.in-On.leaf c.in-Some-next_visit.stand c.in-On.is c.in-Some-next_visit.ensures.steps c.arrival-in-Some-next_visit.ensures).0

pub returns-in-Some-next_visit-clause-sound : goal.returns-in-Some-next_visit-clause-sound
returns-in-Some-next_visit-clause-sound g c =
    sound_after (g.L.Locator.tensors c.args.conditions.now.loc.now) (seen c.args.conditions.now.parts.now) c.args.path.now c.args.cursor.now.slots.items c.next_visit.new.cursor.slots.items c.args.progress c.arrival-in-Some-next_visit.result c.requires.on (omega arith)
    (from_visit (g.L.Locator.tensors c.args.conditions.now.loc.now) (seen c.args.conditions.now.parts.now) c.args.path.now c.args.cursor.now.slots.items c.next_visit.new.cursor.slots.items c.args.progress c.arrival-in-Some-next_visit.result c.requires.on c.in-On.leaf c.in-Some-next_visit.stand c.in-On.is c.in-Some-next_visit.ensures.steps c.arrival-in-Some-next_visit.ensures)
