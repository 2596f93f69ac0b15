use Rattle.std.proofs.Common.{ap, ◌∙◌, ◌<◌, ◌++◌, ◌-◌, length, drop, arith}
use Rattle.std.proofs.lemmas.List.{take_all, length-drop}
use Rattle.std.specs.Prelude.{slice_range}
use Rattle.um_scale.specs.RescaledText.{spelling}
use Rattle.um_scale.specs.Spelling.{number_at}
use Rattle.um_scale.proofs.RescaledTexts.{token_lies, written_last, written_next}
use Rattle.um_scale.proofs.text.respelled.Goals as goal

pub loop-k-preserved : goal.loop-k-preserved
loop-k-preserved c =
    let l = c.loop-k in
    let bytes = c.args.respelling.now.bytes.now in
    let numbers = number_at c.args.respelling.now.numbers.now in
    let tokens = c.args.tokens.now in
    let token = c.index-tokens-k.result in
    let below : l.k < length tokens = omega (arith, c.loop-k-test.true) in
    written_next bytes numbers tokens l.k l.from l.text.items l.invariant token below c.index-tokens-k.is c.push_token.new.text.items
    (c.in_ok-push_token.ensures ∙ ap (λ followed. l.text.items ++ (slice_range bytes l.from token.start ++ spelling bytes numbers token followed)) c.opens_unit-followed.ensures)

pub push_token-requires : goal.push_token-requires
push_token-requires c =
    let l = c.loop-k in
    let respelling = c.args.respelling.now in
    let tokens = c.args.tokens.now in
    let below : l.k < length tokens = omega (arith, c.loop-k-test.true) in
    let lies = token_lies respelling.bytes.now (number_at respelling.numbers.now) tokens l.k l.from l.text.items l.invariant c.index-tokens-k.result below c.index-tokens-k.is in
    record { from = lies.0; start = lies.1; end = lies.2 }

pub returns : goal.returns
returns c =
    let l = c.loop-k in
    let bytes = c.args.respelling.now.bytes.now in
    let last = written_last bytes (number_at c.args.respelling.now.numbers.now) c.args.tokens.now l.k l.from l.text.items l.invariant c.loop-k-test.false in
    c.in_ok-extend_from_slice.ensures.items ∙ ap (λ ts. l.text.items ++ ts) (take_all (length bytes - l.from) (drop l.from bytes) (omega (arith, length-drop l.from bytes))) ∙ last.1
