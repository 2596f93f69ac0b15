use Rattle.std.proofs.Common.{rules, ◌≡◌, ◌<◌, length, drop, get_or, sym, ap, ◌∙◌, arith}
use Rattle.std.specs.String.{string_bytes}
use Rattle.um_vocabulary.specs.Tables.{front_symbol}
use Rattle.um_syntax.specs.Scanning.{scan_of}
use Rattle.um_syntax.proofs.AtOnce.{scans_none, scans_symbol, two_front, put_scans}
use Rattle.um_syntax.proofs.scanner.Scanner.scan_sign.Goals as goal

pub returns-then-bytes-lt2-clause-scans : goal.returns-then-bytes-lt2-clause-scans
returns-then-bytes-lt2-clause-scans c = scans_none (scan_of c.args.self.now) c.args.text.now c.utf8.text

pub returns-in-None-clause-scans : goal.returns-in-None-clause-scans
returns-in-None-clause-scans c = scans_none (scan_of c.args.self.now) c.args.text.now c.utf8.text

pub put-requires-clause-room : goal.put-requires-clause-room
put-requires-clause-room c =
    let s = c.args.self.now in
    let text = c.args.text.now in
    let long : 1 < length text = omega arith in
    let a : c.from.result ≡ get_or text 0 0 = search rules in
    let b : c.from-2.result ≡ get_or text 1 0 = search rules in
    let low : get_or text 1 0 < 128 = search rules in
    let symbol = ap (λ x. front_symbol x (get_or text 1 0)) (sym a) ∙ ap (λ x. front_symbol c.from.result x) (sym b) ∙ sym c.front_symbol.ensures ∙ c.in-Some.is in
    let scans = scans_symbol s.at s.tokens text (drop 2 text) (get_or text 0 0) (get_or text 1 0) c.in-Some.symbol c.in-Some.len c.utf8.text (two_front text long) low symbol in
    omega (arith, scans.front.0, c.requires.room)

pub returns-in-Some-clause-scans : goal.returns-in-Some-clause-scans
returns-in-Some-clause-scans c =
    let s = c.args.self.now in
    let text = c.args.text.now in
    let long : 1 < length text = omega arith in
    let a : c.from.result ≡ get_or text 0 0 = search rules in
    let b : c.from-2.result ≡ get_or text 1 0 = search rules in
    let low : get_or text 1 0 < 128 = search rules in
    let symbol = ap (λ x. front_symbol x (get_or text 1 0)) (sym a) ∙ ap (λ x. front_symbol c.from.result x) (sym b) ∙ sym c.front_symbol.ensures ∙ c.in-Some.is in
    put_scans c.put.result s.at s.tokens (string_bytes s.letters) s.pending (scan_of c.put.new.self) _ text c.in-Some.len c.requires.free c.requires.none c.put.ensures.goes c.put.ensures.len
    (scans_symbol s.at s.tokens text (drop 2 text) (get_or text 0 0) (get_or text 1 0) c.in-Some.symbol c.in-Some.len c.utf8.text (two_front text long) low symbol)
