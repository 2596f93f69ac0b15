-- What follows a token before the name of a declaration stands within the heights.
use Rattle.std.proofs.Common.{◌≤◌, arith}
use Rattle.um_unit_texts.specs.UnitStops.{greatest_height}
use Rattle.um_decls.specs.DeclLeast.{expected_least}
use Rattle.um_parse.specs.ReaderStates.{view_fixed, view_expected}
use Rattle.um_parse.specs.declared.decl_prefix.FixedToken.{FixedToken}
use Rattle.um_parse.specs.declared.decl_prefix.FixedToken.TheVariants as fixed
use Rattle.um_parse.specs.declared.decl_prefix.DeclExpected.{DeclExpected as ExpectedToken}
use Rattle.um_parse.specs.declared.decl_prefix.DeclExpected.TheVariants as expected

fixed_low : (t : FixedToken) → expected_least (view_fixed t) ≤ greatest_height
fixed_low fixed.Begin = omega arith
fixed_low _ = omega arith

-- what follows a token before the name stands within the heights
pub expected_low : (p : ExpectedToken) → expected_least (view_expected p) ≤ greatest_height
expected_low (expected.Token t) = fixed_low t
expected_low _ = omega arith
