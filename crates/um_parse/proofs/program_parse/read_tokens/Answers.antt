use Rattle.std.proofs.Common.{◌≡◌, arith, ℕ, ◌+◌, ◌<◌, ◌≤◌, List, [], ◌∷◌, ◌++◌, length, get_or, set, drop, sym, ap, subst, ◌∙◌, append_assoc}
use Rattle.std.proofs.Math.Seq.{get_or-append_seam}
use Rattle.std.proofs.lemmas.List.{append-nil, length-append, length_push, nil_from_length, drop_all, drop-set-lt, at_drop_more}
use Rattle.um_syntax.specs.declared.token.Token.{Token}
use Rattle.um_reader.proofs.Loop.{goes}
use Rattle.um_unit_texts.specs.UnitStops.{greatest_height}
use Rattle.um_parse.specs.ProgramLeast.{program_least, machine_of_programs}
use Rattle.um_parse.specs.ReaderStates.{program_state}
use Rattle.um_parse.specs.Spaced.{Rises}
use Rattle.um_parse.proofs.ProgramPlaces.{rises_on, rises_to}
use Rattle.um_parse.proofs.ProgramParsed.{StandsAt, refused_at, high_at, all_read, none_read}
use Rattle.um_parse.proofs.program_parse.read_tokens.Goals as goal

-- the next token stands after those that were read
turn : (tokens read left rest : List Token) (x : Token) → tokens ≡ read ++ left → left ≡ x ∷ rest
    → (length read < length tokens) × (get_or tokens (length read) x ≡ x) × (tokens ≡ (read ++ x ∷ []) ++ rest)
turn tokens read left rest x is first =
    let whole : tokens ≡ read ++ x ∷ rest = is ∙ ap (λ (ts : List Token). read ++ ts) first in
    let long : length tokens ≡ length read + length (x ∷ rest) = ap length whole ∙ length-append read (x ∷ rest) in
    (omega (arith, long), ap (λ (ts : List Token). get_or ts (length read) x) whole ∙ get_or-append_seam read x rest x, whole ∙ sym (append_assoc read (x ∷ []) rest))

-- the next token of a block
next : (items more : List Token) (k : ℕ) (x : Token) → k < length items → get_or items k x ≡ x → drop k items ++ more ≡ x ∷ (drop (k + 1) items ++ more)
next items more k x below is = at_drop_more (λ (ts : List Token). ts ++ more) items k x below ∙ ap (λ (y : Token). y ∷ (drop (k + 1) items ++ more)) is

-- the tokens after one that was read stay when it is emptied
unchanged : (items more left : List Token) (k : ℕ) (y : Token) → drop (k + 1) (set items k y) ++ more ≡ left → drop (k + 1) items ++ more ≡ left
unchanged items more left k y is = ap (λ (ts : List Token). ts ++ more) (sym (drop-set-lt (k + 1) items k y (omega arith))) ∙ is

-- if no block is left and all of this one was read, all were read
all : (tokens read items more : List Token) (k : ℕ) → tokens ≡ read ++ (drop k items ++ more) → length items ≤ k → more ≡ [] → read ≡ tokens
all tokens read items more k is past none =
    sym (is ∙ ap (λ (ts : List Token). read ++ (ts ++ more)) (drop_all k items past) ∙ ap (λ (ts : List Token). read ++ ts) none ∙ append-nil read)

-- no token is left if the next block is empty
none_left : (old items new : List Token) → old ≡ items ++ new → (length items ≡ 0 → old ≡ []) → length items ≤ 0 → new ≡ []
none_left old items new is empty few =
    let size : length items ≡ 0 = omega (arith, few) in
    sym (is ∙ ap (λ (ts : List Token). ts ++ new) (nil_from_length items size)) ∙ empty size

pub loop-k-init : goal.loop-k-init
loop-k-init c =
    let block = c.next_block-block in (
      [],
      sym c.into_blocks-blocks.ensures ∙ block.ensures.taken,
      none_left c.into_blocks-blocks.result block.result.items block.new.self block.ensures.taken block.ensures.all,
      ((omega arith, (λ e. cc), omega arith), c.new-reader.ensures.start),
      λ rise. omega arith,
    )

pub loop-k-preserved : goal.loop-k-preserved
loop-k-preserved c =
    let tokens = c.args.tokens in
    let l = c.loop-k in
    let x = c.index_mut-token.result.now in
    let read = l.invariant.0 in
    let first = next l.block.items _ l.k x (omega (arith, c.loop-k-test.true, l.block.ok.0, c.len.ensures)) (sym c.index_mut-token.ensures.value) in
    let (below, same, is) = turn tokens read _ _ x l.invariant.1 first in
    let given = rw c.in-Ok-Goes.field-0-is at c.in-Ok-Goes.ensures.taken in
    let kept = unchanged l.block.items _ _ l.k c.take.new.token c.after-k.ensures.unread in (
      read ++ x ∷ [],
      is ∙ ap (λ (ts : List Token). (read ++ x ∷ []) ++ ts) kept,
      c.after-k.ensures.all,
      subst (λ k. StandsAt tokens k (program_state c.take.new.self)) (sym (length_push read x))
          (goes machine_of_programs greatest_height tokens (length read) x (program_state l.reader) (program_state c.take.new.self) below same l.invariant.3 given),
      λ rise. let k = c.add.ensures.rise rise in subst (Rises 0 (read ++ x ∷ [])) (sym c.add.ensures.next) (rises_on 0 l.places.next read x (l.invariant.4 k.0) k.1),
    )

pub returns-in-Ok-Stops : goal.returns-in-Ok-Stops
returns-in-Ok-Stops c =
    let tokens = c.args.tokens in
    let l = c.loop-k in
    let x = c.index_mut-token.result.now in
    let read = l.invariant.0 in
    let first = next l.block.items _ l.k x (omega (arith, c.loop-k-test.true, l.block.ok.0, c.len.ensures)) (sym c.index_mut-token.ensures.value) in
    let (below, same, is) = turn tokens read _ _ x l.invariant.1 first in
    let given = rw c.in-Ok-Stops.field-0-is at c.in-Ok-Stops.ensures.taken in
    rw c.stopped.ensures
    (refused_at tokens c.args.end (length read) x (program_state l.reader) (program_state c.take.new.self) below same l.invariant.3 given)

pub returns-in-Ok-High : goal.returns-in-Ok-High
returns-in-Ok-High c =
    let tokens = c.args.tokens in
    let l = c.loop-k in
    let x = c.index_mut-token.result.now in
    let read = l.invariant.0 in
    let first = next l.block.items _ l.k x (omega (arith, c.loop-k-test.true, l.block.ok.0, c.len.ensures)) (sym c.index_mut-token.ensures.value) in
    let (below, same, is) = turn tokens read _ _ x l.invariant.1 first in
    let given = rw c.in-Ok-High.field-0-is at c.in-Ok-High.ensures.taken in
    rw c.stopped-in-Ok-High.ensures
    (high_at tokens c.args.end (length read) x (program_state l.reader) (program_state c.take.new.self) below same l.invariant.3 given)

pub returns-in-Ok-Some : goal.returns-in-Ok-Some
returns-in-Ok-Some c =
    let tokens = c.args.tokens in
    let l = c.loop-k in
    let found = rw c.in-Ok-Some.field-0-is at c.in-Ok-Some.ensures.found in
    let read = l.invariant.0 in
    let past : length l.block.items ≤ l.k = omega (arith, c.loop-k-test.false, l.block.ok.0, c.len.ensures) in
    let through = all tokens read l.block.items _ l.k l.invariant.1 past (l.invariant.2 past) in
    all_read tokens c.args.end (length read) (program_state l.reader) (record { program = c.in-Ok-Some.program; spaced = c.rise_to-spaced.result }) (ap length through) l.invariant.3 found
    (λ spaced. let k = c.rise_to-spaced.ensures spaced in subst (λ (ts : List Token). Rises 0 ts c.args.end) through (rises_to 0 l.places.next c.args.end read k.1 (l.invariant.4 k.0)))

pub returns-in-Ok-None : goal.returns-in-Ok-None
returns-in-Ok-None c =
    let tokens = c.args.tokens in
    let l = c.loop-k in
    let found = rw c.in-Ok-None.field-0-is at c.in-Ok-None.ensures.found in
    let read = l.invariant.0 in
    let past : length l.block.items ≤ l.k = omega (arith, c.loop-k-test.false, l.block.ok.0, c.len.ensures) in
    let through = all tokens read l.block.items _ l.k l.invariant.1 past (l.invariant.2 past) in
    none_read tokens c.args.end (length read) (program_state l.reader) (ap length through) l.invariant.3 found
