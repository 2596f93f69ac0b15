use Rattle.std.proofs.Common.{◌<◌, ◌∷◌, ◌++◌, [], length, take, arith, refl, sym, ap, subst, ◌∙◌}
use Rattle.std.proofs.lemmas.Str.{length-encode}
use Rattle.um_syntax.specs.Decoding.{NoChar}
use Rattle.um_syntax.proofs.Feeds.{behind_closed, behind_is, behind_from, bytes-more, held-more, held-length, whole-read, both_ok, scanned_now}
use Rattle.um_syntax.specs.Scanning.{scan_of}
use Rattle.um_syntax.proofs.feed.Lexer.take_byte.Goals as goal

pub returns-then-not-is_readable-clause-stands : goal.returns-then-not-is_readable-clause-stands
returns-then-not-is_readable-clause-stands c = λ bytes h. record {
  cs = h.cs;
  tail = h.tail ++ c.args.byte ∷ [];
  read = record { scalars = h.read.scalars; place = h.read.place; scanned = h.read.scanned; counted = h.read.counted };
  whole = bytes-more bytes h.cs h.tail c.args.byte h.whole;
  behind = behind_closed c.args.self.now.fault c.args.self.now.valid c.args.byte (take c.args.self.now.held c.args.self.now.partial) h.tail (sym c.is_readable.ensures ∙ c.if-not-is_readable.true) h.behind;
}

pub take_char-requires-clause-room : goal.take_char-requires-clause-room
take_char-requires-clause-room c =
    let w = c.in-Whole.ensures in
    let room : c.args.self.now.held < length c.args.self.now.partial = omega arith in
    let n = held-length c.args.self.now.partial c.args.self.now.held c.args.byte room in
    let e = ap length w.1 in
    let l = length-encode c.in-Whole.c in
    omega (arith, n, e, l)

pub returns-in-Broken-clause-stands : goal.returns-in-Broken-clause-stands
returns-in-Broken-clause-stands c = λ bytes h.
    let room : c.args.self.now.held < length c.args.self.now.partial = omega arith in
    let more = held-more c.args.self.now.partial c.args.self.now.held c.args.byte room in
    let behind = behind_is c.args.self.now.fault c.args.self.now.valid (take c.args.self.now.held c.args.self.now.partial) h.tail (sym c.is_readable.ensures ∙ c.if-not-is_readable.false) h.behind in
    record {
      cs = h.cs;
      tail = h.tail ++ c.args.byte ∷ [];
      read = record { scalars = h.read.scalars; place = h.read.place; scanned = tt; counted = h.read.counted };
      whole = bytes-more bytes h.cs h.tail c.args.byte h.whole;
      behind = (refl, subst NoChar (more ∙ ap (λ x. x ++ c.args.byte ∷ []) (sym behind)) c.in-Broken.ensures);
    }

pub returns-in-Whole-clause-stands : goal.returns-in-Whole-clause-stands
returns-in-Whole-clause-stands c = both_ok c.take_char.result c.take_char.ensures.read c.take_char.ensures.readable (λ reads readable bytes h.
    let room : c.args.self.now.held < length c.args.self.now.partial = omega arith in
    let more = held-more c.args.self.now.partial c.args.self.now.held c.args.byte room in
    let behind = behind_is c.args.self.now.fault c.args.self.now.valid (take c.args.self.now.held c.args.self.now.partial) h.tail (sym c.is_readable.ensures ∙ c.if-not-is_readable.false) h.behind in
    record {
      cs = h.cs ++ c.in-Whole.c ∷ [];
      tail = [];
      read = reads h.cs [] (record { scalars = h.read.scalars; place = h.read.place; scanned = scanned_now c.args.self.now.fault (scan_of c.args.self.now.scanner) h.cs (c.in-Whole.c ∷ []) h.read.scanned; counted = h.read.counted });
      whole = whole-read bytes h.cs h.tail _ c.args.byte c.in-Whole.c h.whole (more ∙ ap (λ x. x ++ c.args.byte ∷ []) (sym behind)) c.in-Whole.ensures.1;
      behind = behind_from c.take_char.new.self.fault c.take_char.new.self.valid (take c.take_char.new.self.held c.take_char.new.self.partial) [] readable (ap (λ n. take n c.take_char.new.self.partial) (sym c.take_char.ensures.whole));
    })
