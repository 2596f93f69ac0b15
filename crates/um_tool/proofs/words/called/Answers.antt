use Rattle.std.proofs.Common.{◌+◌, ◌≤◌, ℕ, List, [], length, sym, subst}
use Rattle.std.specs.Prelude.{All}
use Rattle.std.proofs.lemmas.List.Elements.{All-drop}
use Rattle.std.proofs.lemmas.Option.{get_or_from_slice_get}
use Rattle.um_tool.proofs.words.called.Goals as goal

pub returns-clause-call : goal.returns-clause-call
returns-clause-call c =
    let name = sym (get_or_from_slice_get c.args.words.now c.args.name c.word.result.now [] c.word.ensures) in
    λ i. record { budget = c.args.budget; name = name i; texts = c.after.ensures i }

pub returns-clause-short : goal.returns-clause-short
returns-clause-short c = record {
  small = c.requires.small;
  short = subst (All (λ (word : List ℕ). length word ≤ 1048576)) (sym c.after.ensures) (All-drop (λ (word : List ℕ). length word ≤ 1048576) (c.args.name + 1) c.args.words.now c.requires.short);
}
