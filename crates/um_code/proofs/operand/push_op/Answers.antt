use Rattle.std.proofs.Common.{◌∙◌, ap, ◌++◌}
use Rattle.std.specs.Option.{option_to_list}
use Rattle.std.proofs.lemmas.Result.{on_ok_weaker}
use Rattle.um_tree.specs.ProgramTree.{program_tree}
use Rattle.um_code.proofs.OpTexts.{op_added}
use Rattle.um_code.proofs.operand.push_op.Goals as goal

pub returns : goal.returns
returns c =
    let first = option_to_list c.operands-first.result.0 in
    let second = option_to_list c.operands-first.result.1 in
    on_ok_weaker c.push_operand-2.result (λ e. op_added (program_tree c.args.program.now) c.args.op first second c.args.text.now.items c.extend_from_slice.new.self.items c.push_operand.new.text.items c.push_operand-2.new.text.items c.operands-first.ensures (c.in_ok-extend_from_slice.ensures.items ∙ ap (λ w. c.args.text.now.items ++ w) c.word.ensures) c.in_ok-push_operand.ensures e) c.push_operand-2.ensures
