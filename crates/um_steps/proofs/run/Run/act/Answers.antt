use Rattle.std.proofs.Common.{refl, sym, subst}
use Rattle.um_tree.specs.ValueTree.{number_value, truth_value}
use Rattle.um_machine.specs.Machine.{act}
use Rattle.um_steps.specs.Going.{state_of}
use Rattle.um_steps.specs.Stepping.{IsStep}
use Rattle.um_steps.proofs.run.Run.act.Goals as goal

pub push-requires-clause-value : goal.push-requires-clause-value
push-requires-clause-value c = (number_value _, refl)

pub push-requires-in-PushBool-clause-value : goal.push-requires-in-PushBool-clause-value
push-requires-in-PushBool-clause-value c = (truth_value _, refl)

pub returns-in-MakeRec-clause-step : goal.returns-in-MakeRec-clause-step
returns-in-MakeRec-clause-step c = λ code vs h.
    subst (λ o. IsStep code (act code (state_of c.args.self.now vs) o) c.make_record.result c.make_record.new.self) (sym c.in-MakeRec.is) (c.make_record.ensures.step code vs h)
