use Rattle.std.proofs.Common.{subst}
use Rattle.std.specs.Prelude.{IsTrue}
use Rattle.um_tree.specs.ValueTree.{value_tree}
use Rattle.um_vm.specs.Ends.{IsEnd}
use Rattle.um_vm.specs.Phases.{end_holds}
use Rattle.um_vm.proofs.Shown.{end_value, end_read}
use Rattle.um_vm.proofs.machine.Machine.outcome.Goals as goal

pub get-requires : goal.get-requires
get-requires c =
    let s = c.args.self.now.run.stack.store in
    end_value s c.in-Value.word (subst (λ e. IsTrue (end_holds s e)) c.in-Value.is c.requires)

pub returns-in-Ok : goal.returns-in-Ok
returns-in-Ok c = λ o h.
    let s = c.args.self.now.run.stack.store in
    end_read s c.in-Value.word (value_tree c.in-Ok.value) o c.in-Ok.ensures (subst (λ e. IsEnd s e o) c.in-Value.is h)
