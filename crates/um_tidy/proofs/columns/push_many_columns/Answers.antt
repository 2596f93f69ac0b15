use Rattle.std.proofs.Common.{◌≡◌, ◌∙◌, ◌++◌, ap, subst, OnOk, arith}
use Rattle.std.proofs.lemmas.List.{take-replicate}
use Rattle.um_tidy.proofs.TabColumns.{spaces_less}
use Rattle.um_tidy.proofs.columns.push_many_columns.Goals as goal

pub loop-left-preserved : goal.loop-left-preserved
loop-left-preserved c =
    let l = c.loop-left in
    spaces_less l.text.items c.push_all.new.self.items 256 l.left (omega arith) c.in_ok-push_all.ensures ∙ l.invariant

pub returns : goal.returns
returns c =
    let l = c.loop-left in
    subst (λ xs. OnOk c.push_all-2.result (c.push_all-2.new.self.items ≡ xs))
    (ap (λ xs. l.text.items ++ xs) (take-replicate l.left 256 32 (omega arith)) ∙ l.invariant) c.push_all-2.ensures
