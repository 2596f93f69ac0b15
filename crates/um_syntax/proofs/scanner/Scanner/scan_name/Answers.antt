use Rattle.std.proofs.Common.{rules, ◌≡◌, ◌+◌, ◌<◌, ◌≤◌, true, length, take, drop, sym, ap, subst, ◌∙◌, arith}
use Rattle.std.proofs.lemmas.List.{length-take-le}
use Rattle.std.specs.String.{string_bytes}
use Rattle.um_syntax.specs.declared.token.Kind.{Kind}
use Rattle.um_syntax.specs.Machine.{IsNameRun, ends_name, letters_kind, free_at, pushed}
use Rattle.um_syntax.specs.Scanning.{scan_of, Scans}
use Rattle.um_syntax.proofs.AtOnce.{scans_none, scans_name, behind_name, put_scans}
use Rattle.um_syntax.proofs.scanner.Scanner.scan_name.Goals as goal

pub returns-then-len-eq0-clause-scans : goal.returns-then-len-eq0-clause-scans
returns-then-len-eq0-clause-scans c = scans_none (scan_of c.args.self.now) c.args.text.now c.utf8.text

pub letters_kind-requires : goal.letters_kind-requires
letters_kind-requires c =
    let text = c.args.text.now in
    let n = c.name_len-len.result in
    let bytes = c.as_bytes-bytes.ensures.value in
    let within = subst (λ l. n ≤ length l) bytes c.name_len-len.ensures.within in
    let letters : c.range.result.now ≡ take n text = search rules in
    let len = ap length letters ∙ length-take-le n text within in
    letters ∙ ap (take n) (sym bytes) ∙ ap (λ m. take m c.as_bytes-bytes.result.now) (sym len)

pub returns-clause-scans : goal.returns-clause-scans
returns-clause-scans c =
    let s = c.args.self.now in
    let text = c.args.text.now in
    let n = c.name_len-len.result in
    let some : 0 < n = omega arith in
    let bytes = c.as_bytes-bytes.ensures.value in
    let within = subst (λ l. n ≤ length l) bytes c.name_len-len.ensures.within in
    let run = subst (λ l. IsNameRun (take n l)) bytes (c.name_len-len.ensures.name some) in
    let ends = subst (λ l. ends_name (drop n l) ≡ true) bytes (c.name_len-len.ensures.ends some) in
    let letters : c.range.result.now ≡ take n text = search rules in
    let kind = c.in_ok-kind.ensures ∙ ap letters_kind letters in
    let after = λ (k : Kind). pushed (free_at (s.at + n) s.tokens) k s.at (s.at + n) in
    let scans = scans_name s.at s.tokens text n c.utf8.text within run (behind_name (drop n text) ends) in
    put_scans c.put.result s.at s.tokens (string_bytes s.letters) s.pending (scan_of c.put.new.self) (after c.in_ok-kind.kind) text n c.requires.free c.requires.none c.put.ensures.goes c.put.ensures.len
    (subst (λ k. Scans (free_at s.at s.tokens) text n (after k)) (sym kind) scans)
