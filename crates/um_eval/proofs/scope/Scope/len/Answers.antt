use Rattle.std.proofs.Common.{arith}
use Rattle.std.proofs.lemmas.List.{length-drop, length-take-le}
use Rattle.um_eval.proofs.scope.Scope.len.Goals as goal

pub returns : goal.returns
returns c =
    let s = c.args.self.now in
    omega (arith, c.len.ensures, s.words.ok.0, s.callers, length-drop s.base s.words.items, length-take-le s.base s.words.items s.callers)
