use Rattle.std.proofs.Common.{take, drop, sym, subst, ◌∙◌, arith}
use Rattle.std.proofs.lemmas.List.{length-take-le}
use Rattle.std.proofs.lemmas.Str.{scalars-chars, IsUtf8-take, IsCharBoundary-start}
use Rattle.std.specs.Str.{chars}
use Rattle.um_syntax.specs.Feeding.{HasScanned}
use Rattle.um_syntax.specs.Scanning.{scan_of}
use Rattle.um_syntax.proofs.Places.{size_of-append, size_of-chars}
use Rattle.um_syntax.proofs.Feeds.{none_read}
use Rattle.um_syntax.proofs.Kept.{scalars-both, scanned_on, counts_line_on, chars_cut}
use Rattle.um_syntax.proofs.feed.Lexer.take_at_once.Goals as goal

pub returns-then-is_some-clause-front : goal.returns-then-is_some-clause-front
returns-then-is_some-clause-front c = IsCharBoundary-start c.args.text.now c.utf8.text

pub returns-then-is_some-clause-read : goal.returns-then-is_some-clause-read
returns-then-is_some-clause-read c = λ cs h. none_read c.args.self.now cs (chars c.args.text.now) h

pub returns-clause-front : goal.returns-clause-front
returns-clause-front c = c.in_ok-len.ensures.scans.front

pub returns-clause-read : goal.returns-clause-read
returns-clause-read c = λ cs h.
    let old = c.args.self.now in
    let text = c.args.text.now in
    let n = c.in_ok-len.len in
    let scans = c.in_ok-len.ensures.scans in
    let front = chars (take n text) in
    let utf8 = IsUtf8-take text n c.utf8.text scans.front in
    let there = size_of-append cs front in
    let size = size_of-chars (take n text) utf8 ∙ length-take-le n text scans.front.0 in
    record {
      scalars = scalars-both cs front h.scalars (scalars-chars (take n text) utf8);
      place = omega (arith, h.place, there, size);
      scanned = scanned_on old.fault (scan_of old.scanner) (scan_of c.scan_front.new.self) cs front (chars (drop n text)) (sym c.is_some.ensures ∙ c.if-is_some.false)
          (subst (HasScanned old.fault (scan_of old.scanner) cs) (sym (chars_cut text n c.utf8.text scans.front)) h.scanned) scans.reaches;
      counted = counts_line_on old.counted cs front scans.line h.counted;
    }
