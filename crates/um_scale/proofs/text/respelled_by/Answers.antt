use Rattle.std.proofs.Common.{◌≡◌, ap, ◌∙◌, ◌+◌, length, map, arith}
use Rattle.std.proofs.lemmas.Result.{IfOk-weaker}
use Rattle.um_tree.specs.ProgramTree.{function_tree}
use Rattle.um_scale.specs.RescaledText.{literals_of, literal_at, respelled}
use Rattle.um_scale.specs.Spelling.{number_at}
use Rattle.um_scale.proofs.RescaledTexts.{table_at, table_length, same_text}
use Rattle.um_scale.proofs.text.respelled_by.Goals as goal

pub invariant_of-respelling : goal.invariant_of-respelling
invariant_of-respelling c = record {
  places = ap length (c.deref.ensures.value ∙ c.in_ok-numbers.ensures) ∙ table_length (length c.args.bytes.now + 1) (literals_of (map function_tree c.args.functions.now));
}

pub returns : goal.returns
returns c =
    let bytes = c.args.bytes.now in
    let found = literals_of (map function_tree c.args.functions.now) in
    let table = c.deref.ensures.value ∙ c.in_ok-numbers.ensures in
    let same = same_text bytes (number_at c.deref.result.now) (literal_at found) (length bytes)
    (λ place within. ap (λ numbers. number_at numbers place) table ∙ table_at (length bytes + 1) found place (omega (arith, within))) c.args.tokens.now 0 c.requires.in_order in
    IfOk-weaker c.respelled.result (λ text. text.items ≡ respelled bytes (number_at c.deref.result.now) 0 c.args.tokens.now) (λ text. text.items ≡ respelled bytes (literal_at found) 0 c.args.tokens.now)
    (λ text h. h ∙ same) c.respelled.ensures
