use Rattle.std.proofs.Common.{ℕ, List, IfOk, None, Ok, sym, ap, subst, ◌≡◌, ◌∙◌, inr}
use Rattle.std.proofs.lemmas.Result.{IfOk-weaker}
use Rattle.um_tree.specs.declared.program.Program.{Program}
use Rattle.um_tree.specs.ProgramTree.{program_tree}
use Rattle.um_shape.specs.FirstFault.{first_fault}
use Rattle.um_reports.specs.Refusals.{IsShapeReply}
use Rattle.um_front.specs.Refused.{IsUnshaped}
use Rattle.um_front.proofs.shaping.shape_resolved.Goals as goal

pub returns-in-Ok-clause-shaped : goal.returns-in-Ok-clause-shaped
returns-in-Ok-clause-shaped c =
    let r = c.requires.resolved in
    let same = sym c.in-Ok.ensures.program in
    record {
      raw = r.0;
      written = r.1;
      resolved = r.2 ∙ ap (λ (p : Program). Ok (program_tree p)) same;
      abbreviated = r.3;
      faultless = subst (λ (p : Program). first_fault (program_tree p) ≡ None) same c.in-Ok.ensures.faultless;
    }

pub returns-in-Err-clause-refused : goal.returns-in-Err-clause-refused
unfolding IsUnshaped
returns-in-Err-clause-refused c =
    let r = c.requires.resolved in
    let text = c.args.bytes.items in
    let said = subst (λ (bytes : List ℕ). IfOk c.reply_to_shapes.result (λ reply. IsShapeReply bytes c.in-Err.stop reply.text.items reply.status)) c.deref.ensures.value c.reply_to_shapes.ensures in
    IfOk-weaker c.reply_to_shapes.result (λ reply. IsShapeReply text c.in-Err.stop reply.text.items reply.status)
    (λ reply. IsUnshaped text reply.text.items reply.status)
    (λ reply told. inr (inr (r.0, r.1, program_tree c.args.all.program, r.2, c.in-Err.stop, c.in-Err.ensures.refused, told))) said
