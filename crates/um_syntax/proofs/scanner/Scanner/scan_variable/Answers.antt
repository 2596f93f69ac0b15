use Rattle.std.proofs.Common.{rules, ◌≡◌, ◌+◌, ◌<◌, ◌≤◌, true, false, ◌∷◌, [], None, length, take, drop, sym, ap, subst, ◌∙◌, arith}
use Rattle.std.specs.Str.{bytes_eq}
use Rattle.std.specs.String.{string_bytes}
use Rattle.um_syntax.specs.declared.token.Kind.{Kind}
use Rattle.um_syntax.specs.declared.token.Kind.TheVariants as kind
use Rattle.um_syntax.specs.Machine.{IsNameRun, ends_name, free_at, pushed}
use Rattle.um_vocabulary.specs.Tables.{keyword_of}
use Rattle.um_syntax.specs.Scanning.{scan_of, Scans}
use Rattle.um_syntax.proofs.AtOnce.{scans_none, scans_variable, behind_name, put_scans, quote_boundary, none_of}
use Rattle.um_syntax.proofs.scanner.Scanner.scan_variable.Goals as goal

pub range_from-name-requires : goal.range_from-name-requires
range_from-name-requires c = λ some. quote_boundary c.args.text.now c.utf8.text c.requires.some c.requires.quote

pub returns-then-not-begins_name-clause-scans : goal.returns-then-not-begins_name-clause-scans
returns-then-not-begins_name-clause-scans c = scans_none (scan_of c.args.self.now) c.args.text.now c.utf8.text

pub returns-then-len-eq0-clause-scans : goal.returns-then-len-eq0-clause-scans
returns-then-len-eq0-clause-scans c = scans_none (scan_of c.args.self.now) c.args.text.now c.utf8.text

pub returns-then-eq-clause-scans : goal.returns-then-eq-clause-scans
returns-then-eq-clause-scans c = scans_none (scan_of c.args.self.now) c.args.text.now c.utf8.text

pub returns-clause-scans : goal.returns-clause-scans
returns-clause-scans c =
    let s = c.args.self.now in
    let text = c.args.text.now in
    let name = drop 1 text in
    let n = c.name_len-len.result in
    let some : 0 < n = omega arith in
    let bytes = c.as_bytes-bytes.ensures.value ∙ c.range_from-name.ensures.value in
    let within = subst (λ l. n ≤ length l) bytes c.name_len-len.ensures.within in
    let run = subst (λ l. IsNameRun (take n l)) bytes (c.name_len-len.ensures.name some) in
    let ends = subst (λ l. ends_name (drop n l) ≡ true) bytes (c.name_len-len.ensures.ends some) in
    let cut : c.range-letters.result.now ≡ take n c.range_from-name.result.now = search rules in
    let letters = cut ∙ ap (take n) c.range_from-name.ensures.value in
    let letter = subst (λ l. bytes_eq l (95 ∷ []) ≡ false) letters (sym c.eq.ensures ∙ c.if-eq.false) in
    let word = subst (λ l. keyword_of l ≡ None) letters (sym c.keyword_of.ensures ∙ none_of c.keyword_of.result (sym c.is_some.ensures ∙ c.if-is_some.false)) in
    let var = ap (λ l. kind.Var l) (c.in_ok-from_front.ensures ∙ ap (take n) bytes) in
    let after = λ (k : Kind). pushed (free_at (s.at + (n + 1)) s.tokens) k s.at (s.at + (n + 1)) in
    let scans = scans_variable s.at s.tokens text n c.utf8.text c.requires.some c.requires.quote within run (behind_name (drop n name) ends) letter word in
    put_scans c.put.result s.at s.tokens (string_bytes s.letters) s.pending (scan_of c.put.new.self) (after (kind.Var c.in_ok-from_front.field-0)) text (n + 1) c.requires.free c.requires.none c.put.ensures.goes c.put.ensures.len
    (subst (λ k. Scans (free_at s.at s.tokens) text (n + 1) (after k)) (sym var) scans)
