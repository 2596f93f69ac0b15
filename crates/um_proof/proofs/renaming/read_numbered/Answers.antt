use Rattle.um_proof.proofs.WayBackSteps.{numbered_long, numbered_units, numbered_places}
use Rattle.um_proof.proofs.renaming.read_numbered.Goals as goal

pub units_of-requires : goal.units_of-requires
units_of-requires c =
    let w = c.requires.numbered in
    (w.1, numbered_units c.args.first w.0 c.args.held.now w.1 c.args.numbered.now.types.items.items c.deref.result.now w.3 c.deref.ensures.value)

pub part_of-places-requires : goal.part_of-places-requires
part_of-places-requires c =
    let w = c.requires.numbered in
    numbered_long c.args.first w.0 c.args.held.now w.1 c.args.numbered.now.types.items.items c.deref-2.result.now w.3 c.deref-2.ensures.value

pub way_back-requires-clause-places : goal.way_back-requires-clause-places
way_back-requires-clause-places c =
    let w = c.requires.numbered in
    (w.0, w.2, numbered_places c.args.first w.0 c.args.held.now w.1 c.args.numbered.now.types.items.items c.deref-2.result.now w.3 c.deref-2.ensures.value c.part_of-places.result.now c.part_of-places.ensures)

pub returns-clause-solution : goal.returns-clause-solution
returns-clause-solution c = λ order units h.
    c.in_ok-solution.ensures units (numbered_units c.args.first order c.args.held.now units c.args.numbered.now.types.items.items c.deref.result.now h c.deref.ensures.value)

pub returns-clause-back : goal.returns-clause-back
returns-clause-back c = λ order units h.
    c.in_ok-new_back.ensures.back order (numbered_places c.args.first order c.args.held.now units c.args.numbered.now.types.items.items c.deref-2.result.now h c.deref-2.ensures.value c.part_of-places.result.now c.part_of-places.ensures)
