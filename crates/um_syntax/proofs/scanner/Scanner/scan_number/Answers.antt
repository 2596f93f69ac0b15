use Rattle.std.proofs.Common.{rules, ◌≡◌, ◌-◌, ◌≤◌, true, eqb, length, take, drop, sym, ap, subst, ◌∙◌, arith}
use Rattle.std.proofs.lemmas.Bool.{eqb-true}
use Rattle.std.proofs.lemmas.List.{take_all, length-drop}
use Rattle.std.specs.String.{string_bytes}
use Rattle.um_syntax.specs.declared.pending.Pending.TheVariants as pending
use Rattle.um_syntax.specs.Lexing.{is_power_place}
use Rattle.um_syntax.specs.Machine.{AllKept, IsNumberRun, ends_number, ends_in_digit, figures_kind}
use Rattle.um_syntax.specs.Scanning.{scan_of}
use Rattle.um_vocabulary.proofs.Bools.{and_parts}
use Rattle.um_syntax.proofs.AtOnce.{scans_none, scans_number, behind_number, put_scans}
use Rattle.um_syntax.proofs.scanner.Scanner.scan_number.Goals as goal

pub returns-then-not-is_whole-clause-scans : goal.returns-then-not-is_whole-clause-scans
returns-then-not-is_whole-clause-scans c = scans_none (scan_of c.args.self.now) c.args.text.now c.utf8.text

pub returns-in-None-clause-scans : goal.returns-in-None-clause-scans
returns-in-None-clause-scans c = scans_none (scan_of c.args.self.now) c.args.text.now c.utf8.text

pub returns-in-Some-clause-scans : goal.returns-in-Some-clause-scans
returns-in-Some-clause-scans c =
    let s = c.args.self.now in
    let text = c.args.text.now in
    let number = c.at_front-number.result in
    let n = number.len in
    let bytes = c.as_bytes-bytes.ensures.value in
    let within = subst (λ l. n ≤ length l) bytes c.at_front-number.ensures.within in
    let plain = subst (λ l. AllKept pending.Comment (take n l)) bytes c.at_front-number.ensures.plain in
    let whole = and_parts (eqb number.end n) (ends_in_digit (pending.Number 0 0 number.part number.figures)) (sym c.is_whole.ensures ∙ c.if-not-is_whole.false) in
    let run = subst (λ e. IsNumberRun (take n text) e number.part number.figures) (eqb-true number.end n whole.0)
    (subst (λ l. IsNumberRun (take n l) number.end number.part number.figures) bytes c.at_front-number.ensures.run) in
    let front = c.as_bytes-bytes.result.now in
    let left = length-drop n front in
    let rest = take_all (length front - n) (drop n front) (omega (arith, left)) in
    let ends = subst (λ l. ends_number (drop n l) ≡ true) bytes (ap ends_number (sym rest) ∙ sym c.ends_number.ensures ∙ c.if-not-ends_number.false) in
    let behind = behind_number (drop n text) ends in
    let power : c.is_power_place.result ≡ is_power_place s.tokens = search rules in
    let kind = ap (λ b. figures_kind b number.part number.figures) (sym power) ∙ sym c.kind.ensures ∙ c.in-Some.is in
    put_scans c.put.result s.at s.tokens (string_bytes s.letters) s.pending (scan_of c.put.new.self) _ text n c.requires.free c.requires.none c.put.ensures.goes c.put.ensures.len
    (scans_number s.at s.tokens text n number.part number.figures c.in-Some.kind c.utf8.text within plain run whole.1 kind behind.0 behind.1)
