use Rattle.std.proofs.Common.{◌≤◌, ◌-◌, length, take}
use Rattle.um_syntax.specs.declared.pending.Pending.TheVariants.{Comment}
use Rattle.um_syntax.specs.Machine.{FiguresFit, AllKept, IsNumberRun}
use Rattle.um_syntax.proofs.number.NumberText.at_front.Given as goal

abbrev pub invariant-loop-text : goal.invariant-loop-text
invariant-loop-text l = record {
  within : l.text.len ≤ length l.bytes;
  fits : FiguresFit l.text.figures;
  plain : AllKept Comment (take l.text.len l.bytes);
  run : IsNumberRun (take l.text.len l.bytes) l.text.end l.text.part l.text.figures;
}

abbrev pub decreases-loop-text : goal.decreases-loop-text
decreases-loop-text l = length l.bytes - l.text.len
