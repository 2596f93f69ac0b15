use Rattle.std.proofs.Common.{◌∙◌, ap, ◌++◌}
use Rattle.um_tidy.specs.Gaps.{blank_line}
use Rattle.um_tidy.proofs.Margins.{front_pushed, front_plain}
use Rattle.um_tidy.proofs.comments.push_front.Goals as goal

pub returns-then-blank-gt0-clause-added : goal.returns-then-blank-gt0-clause-added
returns-then-blank-gt0-clause-added c = λ gap is. front_plain c.args.text.now.items gap c.args.at c.args.margin is c.if-margin-eq0.true c.if-blank-gt0.true

pub returns-clause-added : goal.returns-clause-added
returns-clause-added c = λ gap is.
    front_pushed c.args.text.now.items c.push_blank_line.new.text.items c.push_columns.new.text.items gap c.args.at c.args.margin
    (c.in_ok-push_blank_line.ensures ∙ ap (λ a. c.args.text.now.items ++ blank_line a) c.below_blank.ensures) c.in_ok-push_columns.ensures is
