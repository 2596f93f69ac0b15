use Rattle.um_vm.proofs.runner.CodeRunner.new.Goals as goal

pub returns-clause-runs : goal.returns-clause-runs
returns-clause-runs c = record { shaped = c.program-program.ensures.shaped; generated = c.requires }
