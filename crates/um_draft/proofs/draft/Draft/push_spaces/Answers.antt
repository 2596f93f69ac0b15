use Rattle.std.proofs.Common.{◌∙◌, ◌≡◌, subst, OnOk, arith}
use Rattle.um_draft.proofs.Drafts.{spaces_left}
use Rattle.um_draft.proofs.draft.Draft.push_spaces.Goals as goal

pub loop-left-preserved : goal.loop-left-preserved
loop-left-preserved c =
    let l = c.loop-left in
    spaces_left l.self.items c.push_many_spaces.new.self.items 16 l.left (omega arith) c.in_ok-push_many_spaces.ensures ∙ l.invariant

pub returns : goal.returns
returns c =
    subst (λ xs. OnOk c.push_few_spaces.result (c.push_few_spaces.new.self.items ≡ xs)) c.loop-left.invariant c.push_few_spaces.ensures
