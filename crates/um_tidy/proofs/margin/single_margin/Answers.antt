use Rattle.std.proofs.Common.{◌+◌, ◌∷◌, [], get_or, ap, sym, refl, arith}
use Rattle.um_tidy.specs.Gaps.{width_from}
use Rattle.um_tidy.specs.Placed.{is_line_space}
use Rattle.um_tidy.proofs.LineMargins.{high_byte, line_one, no_margin}
use Rattle.um_tidy.proofs.margin.single_margin.Goals as goal

pub returns-then-byte-eq9-clause-margin : goal.returns-then-byte-eq9-clause-margin
returns-then-byte-eq9-clause-margin c =
    let gap = c.args.gap.now in
    let at = c.args.at in
    let here = c.if-byte-eq9.true in
    line_one gap (record { line = at; end = at; width = 0; others = 0 }) 4 1 (no_margin gap at (omega (arith, c.requires.within))) (omega (arith, c.requires.within))
    (ap is_line_space here) (ap (λ b. width_from 0 (b ∷ [])) (sym here)) (λ none. absurd (omega (arith, none)))

pub returns-then-byte-eq9-clause-none : goal.returns-then-byte-eq9-clause-none
returns-then-byte-eq9-clause-none c = high_byte (get_or c.args.gap.now (c.args.at + 1) 0) c.requires.next

pub returns-then-byte-eq32-clause-margin : goal.returns-then-byte-eq32-clause-margin
returns-then-byte-eq32-clause-margin c =
    let gap = c.args.gap.now in
    let at = c.args.at in
    let here = c.if-byte-eq32.true in
    line_one gap (record { line = at; end = at; width = 0; others = 0 }) 1 0 (no_margin gap at (omega (arith, c.requires.within))) (omega (arith, c.requires.within))
    (ap is_line_space here) (ap (λ b. width_from 0 (b ∷ [])) (sym here)) (λ none. (refl, here))

pub returns-then-byte-eq32-clause-none : goal.returns-then-byte-eq32-clause-none
returns-then-byte-eq32-clause-none c = high_byte (get_or c.args.gap.now (c.args.at + 1) 0) c.requires.next

pub returns-then-byte-eq13-clause-margin : goal.returns-then-byte-eq13-clause-margin
returns-then-byte-eq13-clause-margin c =
    let gap = c.args.gap.now in
    let at = c.args.at in
    let here = c.if-byte-eq13.true in
    line_one gap (record { line = at; end = at; width = 0; others = 0 }) 1 1 (no_margin gap at (omega (arith, c.requires.within))) (omega (arith, c.requires.within))
    (ap is_line_space here) (ap (λ b. width_from 0 (b ∷ [])) (sym here)) (λ none. absurd (omega (arith, none)))

pub returns-then-byte-eq13-clause-none : goal.returns-then-byte-eq13-clause-none
returns-then-byte-eq13-clause-none c = high_byte (get_or c.args.gap.now (c.args.at + 1) 0) c.requires.next
