use Rattle.um_rescaled.proofs.SameSchemes.{places_change_no_scheme, numbers_change_no_scheme, rescaled_programs_have_the_schemes}
use Rattle.um_rescaled.proofs.laws.rescaled_programs.Goals as goal

pub returns-clause-places : goal.returns-clause-places
returns-clause-places c = places_change_no_scheme

pub returns-clause-numbers : goal.returns-clause-numbers
returns-clause-numbers c = numbers_change_no_scheme

pub returns-clause-both : goal.returns-clause-both
returns-clause-both c = rescaled_programs_have_the_schemes
