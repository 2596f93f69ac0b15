use Rattle.std.proofs.Common.{suc, arith}
use Rattle.um_proof.proofs.ValidNo.{never_made_loosely, loose_refuted, loose_valid}
use Rattle.um_proof.proofs.refused.loose_no.Goals as goal

pub no_of-requires-clause-rows : goal.no_of-requires-clause-rows
no_of-requires-clause-rows c =
    let made = rw c.in-Ok-Refused.field-0-is at c.in-Ok-Refused.ensures in
    let by = loose_refuted c.args.bases c.args.slots c.args.rows.now c.requires.rows c.args.last c.requires.last c.requires.refused c.in-Ok-Refused.field-0-0 c.in-Ok-Refused.refused made in by.closed

pub unreachable-requires : goal.unreachable-requires
unreachable-requires c =
    let made = rw c.in-Ok-Made.field-0-is at c.in-Ok-Made.ensures in
    never_made_loosely c.args.bases c.args.slots c.args.rows.now c.requires.rows c.args.last c.requires.last c.requires.refused made.0 made.1

pub returns-in-Ok-Refused-clause-valid : goal.returns-in-Ok-Refused-clause-valid
returns-in-Ok-Refused-clause-valid c = λ parameters.
    let made = rw c.in-Ok-Refused.field-0-is at c.in-Ok-Refused.ensures in
    let f = c.no_of.ensures in
    loose_valid c.args.bases c.args.slots c.args.rows.now c.requires.rows c.args.last c.requires.last c.requires.refused c.in-Ok-Refused.field-0-0 c.in-Ok-Refused.refused made parameters c.no_of.result f.loose f.last f.modulus f.parts f.named

pub returns-in-Ok-Refused-clause-tidy : goal.returns-in-Ok-Refused-clause-tidy
returns-in-Ok-Refused-clause-tidy c =
    let made = rw c.in-Ok-Refused.field-0-is at c.in-Ok-Refused.ensures in
    let by = loose_refuted c.args.bases c.args.slots c.args.rows.now c.requires.rows c.args.last c.requires.last c.requires.refused c.in-Ok-Refused.field-0-0 c.in-Ok-Refused.refused made in
    c.no_of.ensures.tidy (suc c.in-Ok-Refused.field-0-0) (let l = made.1 in let n = c.requires.number in omega (arith, l, n)) by.below
