use Rattle.std.proofs.Common.{◌≡◌, map, take, drop}
use Rattle.um_tree.specs.TypeTree.{note_tree}
use Rattle.um_tree.specs.RawTree.{param_syntax}
use Rattle.um_names.specs.Tables.{known_of}
use Rattle.um_names.proofs.Params.{ParamStage}
use Rattle.um_names.proofs.ParamLoops.{bound}
use Rattle.um_names.proofs.signature.params.Given as goal

abbrev pub invariant-loop-p : goal.invariant-loop-p
invariant-loop-p l = record {
  done : ParamStage (known_of l.tables) l.variables (map param_syntax l.raw) (map note_tree l.notes.items) l.scope (map param_syntax (drop l.p-index l.raw));
  scope : l.scope ≡ bound (take l.p-index l.raw);
}
