-- No two answers of `parse` stand together: a program within the limits, the place of a refusal, and that of a limit.
use Rattle.std.proofs.Common.{◌≡◌, ℕ, ◌+◌, List, [], ◌∷◌, Option, Some, None, Ok, Err, refl, sym, ap, subst, ◌∙◌, inl, inr, ◌⊎◌}
use Rattle.um_syntax.specs.declared.token.Token.{Token}
use Rattle.um_tree.specs.RawTree.{DeclSyntax, program_syntax}
use Rattle.um_unit_texts.specs.UnitStops.{greatest_height, place_of}
use Rattle.um_types.specs.declared.parse.LimitKind.{LimitKind}
use Rattle.um_types.specs.declared.parse.LimitKind.TheVariants as limit
use Rattle.um_types.specs.declared.parse.ParseStop.TheVariants as stop
use Rattle.um_parse.specs.DeclGrammar.{IsProgram}
use Rattle.um_parse.specs.ProgramHeights.{program_height}
use Rattle.um_parse.specs.ProgramLimits.{functions_in, name_place, passed_limit, WithinLimits, FirstPassed, PassesAt}
use Rattle.um_parse.specs.ProgramStops.{StopsAt, HighAt}
use Rattle.um_reader.specs.Stops.{HasOneAnswer}
use Rattle.um_reader.proofs.Answers.{one_answer as one_place}
use Rattle.um_parse.specs.Parsed.{IsRead, IsLarge, LimitAt}
use Rattle.um_parse.specs.Laws.{AnswersAreUnique}
use Rattle.um_parse.proofs.ProgramComplete.{one_program}

exact : (tokens : List Token) → HasOneAnswer IsProgram program_height greatest_height tokens
exact tokens = one_place IsProgram program_height greatest_height tokens one_program

-- ---- the limits besides the height

-- a program within the limits passes none
first_absent : (o : Option LimitKind) (place at : ℕ) (kind : LimitKind) (later : Type 0) → o ≡ None → FirstPassed o place kind at later → later
first_absent None place at kind later e p = p
first_absent (Some passed) place at kind later e p = absurd cc

within_or_passes : (ds : List DeclSyntax) (before : ℕ) (kind : LimitKind) (at : ℕ) → WithinLimits before ds → PassesAt before ds kind at → ⊥
within_or_passes [] before kind at w p = p
within_or_passes (d ∷ ds) before kind at w p =
    let later : Type 0 = PassesAt (before + functions_in d) ds kind at in
    within_or_passes ds (before + functions_in d) kind at w.1 (first_absent (passed_limit before d) (name_place d) at kind later w.0 p)

-- the first limit that is passed is one, at one place
first_same : (o : Option LimitKind) (place : ℕ) (Later : LimitKind → ℕ → Type 0) (kind other : LimitKind) (at there : ℕ)
    → (Later kind at → Later other there → (kind ≡ other) × (at ≡ there))
    → FirstPassed o place kind at (Later kind at) → FirstPassed o place other there (Later other there) → (kind ≡ other) × (at ≡ there)
first_same None place Later kind other at there same p q = same p q
first_same (Some passed) place Later kind other at there same p q = (p.0 ∙ sym q.0, p.1 ∙ sym q.1)

one_passed : (ds : List DeclSyntax) (before : ℕ) (kind other : LimitKind) (at there : ℕ) → PassesAt before ds kind at → PassesAt before ds other there → (kind ≡ other) × (at ≡ there)
one_passed [] before kind other at there p q = absurd p
one_passed (d ∷ ds) before kind other at there p q =
    let further : ℕ = before + functions_in d in
    first_same (passed_limit before d) (name_place d) (λ k a. PassesAt further ds k a) kind other at there (one_passed ds further kind other at there) p q

read_or_large : (tokens : List Token) (ds : List DeclSyntax) (kind : LimitKind) (at : ℕ) → IsRead tokens ds → IsLarge tokens kind at → ⊥
read_or_large tokens ds kind at r l =
    within_or_passes ds 0 kind at r.small (subst (λ es. PassesAt 0 es kind at) (one_program tokens l.ds ds l.is r.is) l.passes)

one_large : (tokens : List Token) (kind other : LimitKind) (at there : ℕ) → IsLarge tokens kind at → IsLarge tokens other there → (kind ≡ other) × (at ≡ there)
one_large tokens kind other at there l m =
    one_passed m.ds 0 kind other at there (subst (λ es. PassesAt 0 es kind at) (one_program tokens l.ds m.ds l.is m.is) l.passes) m.passes

-- ---- any limit

-- a limit is the height, or one of the others
abbrev Passed : List Token → ℕ → LimitKind → ℕ → Type 0
Passed tokens end kind at = ((kind ≡ limit.Height) × ((k : ℕ) × (at ≡ place_of tokens k end) × HighAt tokens k)) ⊎ IsLarge tokens kind at

passed : (tokens : List Token) (end : ℕ) (kind : LimitKind) (at : ℕ) → LimitAt tokens end kind at → Passed tokens end kind at
passed tokens end limit.Height at h = inl (refl, h)
passed tokens end _ at h = inr h

read_or_passed : (tokens : List Token) (end : ℕ) (ds : List DeclSyntax) (kind : LimitKind) (at : ℕ) → IsRead tokens ds → Passed tokens end kind at → ⊥
read_or_passed tokens end ds kind at r (inl h) = (exact tokens).text_or_high ds h.1.0 r.is r.low h.1.2
read_or_passed tokens end ds kind at r (inr l) = read_or_large tokens ds kind at r l

stops_or_passed : (tokens : List Token) (end k : ℕ) (kind : LimitKind) (at : ℕ) → StopsAt tokens k → Passed tokens end kind at → ⊥
stops_or_passed tokens end k kind at s (inl h) = (exact tokens).failure_or_high k h.1.0 s h.1.2
stops_or_passed tokens end k kind at s (inr l) = (exact tokens).text_or_failure l.ds k l.is s

one_limit : (tokens : List Token) (end : ℕ) (kind other : LimitKind) (at there : ℕ) → Passed tokens end kind at → Passed tokens end other there → (kind ≡ other) × (at ≡ there)
one_limit tokens end kind other at there (inl h) (inl g) =
    (h.0 ∙ sym g.0, h.1.1 ∙ ap (λ k. place_of tokens k end) ((exact tokens).one_high h.1.0 g.1.0 h.1.2 g.1.2) ∙ sym g.1.1)
one_limit tokens end kind other at there (inr l) (inr m) = one_large tokens kind other at there l m
one_limit tokens end kind other at there (inl h) (inr m) = absurd ((exact tokens).text_or_high m.ds h.1.0 m.is m.low h.1.2)
one_limit tokens end kind other at there (inr l) (inl g) = absurd ((exact tokens).text_or_high l.ds g.1.0 l.is l.low g.1.2)

pub one_answer : AnswersAreUnique
one_answer tokens end (Err stop.NoMemory) other p q = tt
one_answer tokens end (Ok a) (Ok b) p q = one_program tokens (program_syntax a) (program_syntax b) p.is q.is
one_answer tokens end (Ok a) (Err stop.NoMemory) p q = tt
one_answer tokens end (Ok a) (Err (stop.Syntax at)) p q = (exact tokens).text_or_failure (program_syntax a) q.0 p.is q.2
one_answer tokens end (Ok a) (Err (stop.Limit kind at)) p q = read_or_passed tokens end (program_syntax a) kind at p (passed tokens end kind at q)
one_answer tokens end (Err (stop.Syntax at)) (Ok b) p q = (exact tokens).text_or_failure (program_syntax b) p.0 q.is p.2
one_answer tokens end (Err (stop.Syntax at)) (Err stop.NoMemory) p q = tt
one_answer tokens end (Err (stop.Syntax at)) (Err (stop.Syntax there)) p q =
    p.1 ∙ ap (λ k. place_of tokens k end) ((exact tokens).one_failure p.0 q.0 p.2 q.2) ∙ sym q.1
one_answer tokens end (Err (stop.Syntax at)) (Err (stop.Limit kind there)) p q = stops_or_passed tokens end p.0 kind there p.2 (passed tokens end kind there q)
one_answer tokens end (Err (stop.Limit kind at)) (Ok b) p q = read_or_passed tokens end (program_syntax b) kind at q (passed tokens end kind at p)
one_answer tokens end (Err (stop.Limit kind at)) (Err stop.NoMemory) p q = tt
one_answer tokens end (Err (stop.Limit kind at)) (Err (stop.Syntax there)) p q = stops_or_passed tokens end q.0 kind at q.2 (passed tokens end kind at p)
one_answer tokens end (Err (stop.Limit kind at)) (Err (stop.Limit other there)) p q =
    one_limit tokens end kind other at there (passed tokens end kind at p) (passed tokens end other there q)
