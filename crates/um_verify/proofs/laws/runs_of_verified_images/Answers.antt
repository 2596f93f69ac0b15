use Rattle.um_verify.proofs.Ends.{never_stuck, runs_end, ends_soon, ends_have_shape, calls_have_entries, forward}
use Rattle.um_verify.proofs.laws.runs_of_verified_images.Goals as goal

pub returns-clause-never_stuck : goal.returns-clause-never_stuck
returns-clause-never_stuck c = never_stuck

pub returns-clause-end : goal.returns-clause-end
returns-clause-end c = runs_end

pub returns-clause-steps : goal.returns-clause-steps
returns-clause-steps c = ends_soon

pub returns-clause-shape : goal.returns-clause-shape
returns-clause-shape c = ends_have_shape

pub returns-clause-entry : goal.returns-clause-entry
returns-clause-entry c = calls_have_entries

pub returns-clause-forward : goal.returns-clause-forward
returns-clause-forward c = forward
