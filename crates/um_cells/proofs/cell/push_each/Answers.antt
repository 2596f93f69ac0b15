use Rattle.std.proofs.Common.{◌≡◌, ℕ, ◌+◌, ◌<◌, ◌++◌, ◌∷◌, List, [], length, map, take, get_or, ap, sym, ◌∙◌, append_assoc}
use Rattle.std.proofs.lemmas.List.{map-append, take_more, take_all}
use Rattle.std.proofs.Math.Seq.{take-append_seam}
use Rattle.um_cells.specs.declared.word.Word.{Word}
use Rattle.um_cells.specs.declared.cell.Cell.{Cell}
use Rattle.um_cells.specs.declared.cell.Cell.TheVariants.{Record, Part}
use Rattle.um_cells.proofs.cell.push_each.Goals as goal

-- the cell of one more part
one_more : (before : List Cell) (first : Cell) (parts : List Word) (i : ℕ) (part : Word) → i < length parts → part ≡ get_or parts i part → (before ++ first ∷ map Part (take i parts)) ++ Part part ∷ [] ≡ before ++ first ∷ map Part (take (i + 1) parts)
one_more before first parts i part below is =
    let taken = take_more parts i part below ∙ ap (λ p. take i parts ++ p ∷ []) (sym is) in
    let cells = ap (map Part) taken ∙ map-append Part (take i parts) (part ∷ []) in
    append_assoc before (first ∷ map Part (take i parts)) (Part part ∷ []) ∙ ap (λ cs. before ++ first ∷ cs) (sym cells)

pub loop-part-preserved : goal.loop-part-preserved
loop-part-preserved c =
    let part = c.part-item.result in
    c.in_ok-push-2.ensures.items ∙ ap (λ cs. cs ++ Part part ∷ []) c.loop-part.invariant
    ∙ one_more c.args.cells.now.items (Record (length c.args.parts.now)) c.args.parts.now c.loop-part.part-index part c.loop-part-test.true c.part-item.is

pub returns-in_err-push-2-clause-before : goal.returns-in_err-push-2-clause-before
returns-in_err-push-2-clause-before c =
    let old = c.args.cells.now.items in
    ap (take (length old)) (c.in_err-push-2.ensures.items ∙ c.loop-part.invariant) ∙ take-append_seam old (Record (length c.args.parts.now) ∷ map Part (take c.loop-part.part-index c.args.parts.now))

pub returns-clause-ok : goal.returns-clause-ok
returns-clause-ok c =
    c.loop-part.invariant
    ∙ ap (λ parts. c.args.cells.now.items ++ Record (length c.args.parts.now) ∷ map Part parts) (take_all c.loop-part.part-index c.args.parts.now c.loop-part-test.false)

pub returns-clause-before : goal.returns-clause-before
returns-clause-before c =
    let old = c.args.cells.now.items in
    ap (take (length old)) c.loop-part.invariant ∙ take-append_seam old (Record (length c.args.parts.now) ∷ map Part (take c.loop-part.part-index c.args.parts.now))
