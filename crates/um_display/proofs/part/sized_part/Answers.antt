use Rattle.std.proofs.Common.{◌-◌, length, take, drop, Option, sym, ◌∙◌}
use Rattle.std.specs.Prelude.{MatchOption}
use Rattle.std.proofs.lemmas.Bool.{false≢true}
use Rattle.std.proofs.lemmas.Result.{IfOk-weaker}
use Rattle.um_display.specs.declared.part.Part.{Part}
use Rattle.um_display.specs.UnitWords.{PartSyntax, IsNamed, IsSized}
use Rattle.um_display.specs.PartView.{part_syntax}
use Rattle.um_display.proofs.SizedParts.{cut_at_items, sized_as, sized_by}
use Rattle.um_display.proofs.part.sized_part.Goals as goal

pub returns-then-are_marks : goal.returns-then-are_marks
returns-then-are_marks c =
    let tokens = c.args.tokens.now in
    let inside = take (length tokens - 1 - 4) (drop 4 tokens) in
    let n = c.name-item.result in let e = c.equal-item.result in let k = c.number-item.result in let l = c.less-item.result in let g = c.greater-item.result in
    let whole = cut_at_items tokens n e k l g _ _ _ _ _ c.in-len5-up.len_at_least c.name-item.is c.equal-item.is c.number-item.is c.less-item.is c.greater-item.is in
    IfOk-weaker c.named_part.result
    (λ (o : Option Part). MatchOption o ((p : PartSyntax) → IsNamed n k inside p → ⊥) (λ p. IsNamed n k inside (part_syntax p)))
    (λ (o : Option Part). MatchOption o ((p : PartSyntax) → IsSized tokens p → ⊥) (λ p. IsSized tokens (part_syntax p)))
    (λ o h. sized_by tokens n e k l inside g o whole (sym c.are_marks.ensures ∙ c.if-are_marks.true) h)
    c.named_part.ensures

pub returns-else-are_marks : goal.returns-else-are_marks
returns-else-are_marks c = λ p s.
    let tokens = c.args.tokens.now in
    let inside = take (length tokens - 1 - 4) (drop 4 tokens) in
    let n = c.name-item.result in let e = c.equal-item.result in let k = c.number-item.result in let l = c.less-item.result in let g = c.greater-item.result in
    let whole = cut_at_items tokens n e k l g _ _ _ _ _ c.in-len5-up.len_at_least c.name-item.is c.equal-item.is c.number-item.is c.less-item.is c.greater-item.is in
    let marked = (sized_as tokens n e k l inside g p whole s).0 in
    false≢true (sym c.if-are_marks.false ∙ c.are_marks.ensures ∙ marked)
