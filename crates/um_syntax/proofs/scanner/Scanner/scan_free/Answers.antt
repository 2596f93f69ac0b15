use Rattle.std.proofs.Common.{rules, ◌≡◌, ◌+◌, ◌<◌, eqb, [], ◌∷◌, length, drop, get_or, sym, ap, subst, ◌∙◌, arith}
use Rattle.std.proofs.lemmas.Bool.{eqb-true}
use Rattle.std.proofs.lemmas.List.{nil_from_length}
use Rattle.std.specs.String.{string_bytes, string_len}
use Rattle.um_syntax.specs.declared.pending.Pending.TheVariants as pending
use Rattle.um_syntax.specs.Scanning.{scan_of, Scans}
use Rattle.um_vocabulary.proofs.Bools.{and_parts}
use Rattle.um_syntax.proofs.Closing.{scan_at}
use Rattle.um_syntax.proofs.AtOnce.{scans_none, scans_slashes, two_front}
use Rattle.um_syntax.proofs.scanner.Scanner.scan_free.Goals as goal

pub returns-then-not-is_empty-clause-scans : goal.returns-then-not-is_empty-clause-scans
returns-then-not-is_empty-clause-scans c = scans_none (scan_of c.args.self.now) c.args.text.now c.utf8.text

pub returns-then-are_slashes-clause-scans : goal.returns-then-are_slashes-clause-scans
returns-then-are_slashes-clause-scans c =
    let s = c.args.self.now in
    let text = c.args.text.now in
    let long : 1 < length text = omega arith in
    let a : c.from.result ≡ get_or text 0 0 = search rules in
    let b : c.from-then-bytes-gt1.result ≡ get_or text 1 0 = search rules in
    let both = and_parts (eqb c.from.result 47) (eqb c.from-then-bytes-gt1.result 47) (sym c.are_slashes.ensures ∙ c.if-are_slashes.true) in
    let one = sym a ∙ eqb-true c.from.result 47 both.0 in
    let two = sym b ∙ eqb-true c.from-then-bytes-gt1.result 47 both.1 in
    let is = two_front text long ∙ ap (λ x. x ∷ get_or text 1 0 ∷ drop 2 text) one ∙ ap (λ x. 47 ∷ x ∷ drop 2 text) two in
    let scans = scans_slashes s.at s.tokens text (drop 2 text) c.utf8.text is in
    let none = nil_from_length (string_bytes s.letters) (sym s.letters.bytes.ok.0 ∙ eqb-true (string_len s.letters) 0 (sym c.is_empty.ensures ∙ c.if-not-is_empty.false)) in
    let free = ap (λ l. scan_at s.at s.tokens l s.pending) none ∙ ap (λ p. scan_at s.at s.tokens [] p) c.requires.free in
    subst (λ l. Scans (scan_of s) text 2 (scan_at (s.at + 2) s.tokens l pending.Comment)) (sym none) (subst (λ t. Scans t text 2 (scan_at (s.at + 2) s.tokens [] pending.Comment)) (sym free) scans)
