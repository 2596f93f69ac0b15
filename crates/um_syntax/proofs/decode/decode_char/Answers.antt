use Rattle.std.proofs.Common.{length, arith, sym, ◌∙◌}
use Rattle.um_syntax.proofs.DecodedChars.{no_lead, no_text, text_front, whole_len}
use Rattle.um_syntax.proofs.decode.decode_char.Goals as goal

pub returns-then-len-eq0 : goal.returns-then-len-eq0
returns-then-len-eq0 c = no_lead c.args.bytes.now c.requires.some (sym c.char_len-len.ensures ∙ c.if-len-eq0.true)

pub returns-in_default : goal.returns-in_default
returns-in_default c =
    let len = c.char_len-len.ensures in
    let whole = whole_len (length c.args.bytes.now) c.char_len-len.result c.requires.some (λ h. let m = c.requires.one h in omega (arith, m, len)) c.if-bytes-len.false c.if-len-eq0.false in
    no_text c.args.bytes.now c.requires.some (whole ∙ len) c.in_default.ensures.cases.0

pub returns-in-Some : goal.returns-in-Some
returns-in-Some c =
    let len = c.char_len-len.ensures in
    let whole = whole_len (length c.args.bytes.now) c.char_len-len.result c.requires.some (λ h. let m = c.requires.one h in omega (arith, m, len)) c.if-bytes-len.false c.if-len-eq0.false in
    text_front c.args.bytes.now c.in-Ok.ensures.cases.1 (whole ∙ len) c.in-Some.c _ (sym (c.chars.ensures.rest ∙ c.in-Ok.ensures.cases.0) ∙ c.in-Some.ensures.steps.0)
