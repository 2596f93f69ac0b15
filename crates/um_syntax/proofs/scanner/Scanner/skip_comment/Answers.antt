use Rattle.std.proofs.Common.{inr, ◌≤◌, length, take, refl, sym, subst}
use Rattle.um_syntax.specs.declared.pending.Pending.TheVariants as pending
use Rattle.um_syntax.specs.Machine.{AllKept}
use Rattle.um_syntax.specs.Scanning.{scan_of}
use Rattle.um_syntax.proofs.AtOnce.{scans_kept, kept_none}
use Rattle.um_syntax.proofs.scanner.Scanner.skip_comment.Goals as goal

pub returns-clause-scans : goal.returns-clause-scans
returns-clause-scans c =
    let s = c.args.self.now in
    let text = c.args.text.now in
    let n = c.comment_len-len.result in
    let within = subst (λ l. n ≤ length l) c.as_bytes.ensures.value c.comment_len-len.ensures.within in
    let kept = subst (λ l. AllKept pending.Comment (take n l)) c.as_bytes.ensures.value c.comment_len-len.ensures.kept in
    scans_kept (scan_of s) s.pending text n refl (kept_none s.pending (take n text) (inr c.requires.comment)) c.utf8.text within
    (subst (λ p. AllKept p (take n text)) (sym c.requires.comment) kept)
