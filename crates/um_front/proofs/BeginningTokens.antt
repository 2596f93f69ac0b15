-- Each place in a program, and each place where its text is refused for its syntax or its names, is that of a token.
use Rattle.std.proofs.Common.{◌≡◌, ℕ, zero, suc, ◌⊎◌, inl, inr, List, [], ◌∷◌, ◌++◌, refl, sym, ◌∙◌, subst, append_assoc}
use Rattle.um_syntax.specs.declared.token.Token.{Token}
use Rattle.um_tree.specs.RawTree.{DeclSyntax}
use Rattle.um_types.specs.declared.parse.LimitKind.{LimitKind}
use Rattle.um_types.specs.declared.parse.LimitKind.TheVariants as limit
use Rattle.um_types.specs.declared.parse.ParseStop.TheVariants as parse_stop
use Rattle.um_unit_texts.specs.UnitStops.{place_of}
use Rattle.um_measures.specs.declared.stop.NameStop.{NameStop}
use Rattle.um_measures.specs.declared.stop.NameStop.TheVariants as name_stop
use Rattle.um_measures.specs.Stops.{IsFirst}
use Rattle.um_measures.specs.Faults.{Found}
use Rattle.um_tree.specs.ProgramTree.{ProgramTree}
use Rattle.um_names.specs.Resolution.{resolved_program}
use Rattle.um_parse.specs.DeclGrammar.{IsProgram}
use Rattle.um_parse.specs.Parsed.{IsLarge, LimitAt}
use Rattle.um_front.specs.Places.{IsPlace, BeginsToken, BeginsTokenOrEnds, NamePlace}
use Rattle.um_front.specs.PlaceLaws.{TokensBeginCharacters, SyntaxFaultsBeginTokens, ProgramsBeginTokens, NameFaultsBeginTokens}
use Rattle.um_front.proofs.TokenPlaces.{AllStarts, tokens_start}
use Rattle.um_front.proofs.NotePlaces.{all_after}
use Rattle.um_front.proofs.DeclPlaces.{DeclsHold, decls_hold, passed_holds}
use Rattle.um_front.proofs.FaultPlaces.{FaultHolds, program_fault}
use Rattle.um_front.proofs.NodePlaces.{program_holds}

-- ---- tokens

pub tokens_begin_characters : TokensBeginCharacters
tokens_begin_characters bytes tokens at lexed begins =
    let starts = tokens_start bytes tokens lexed.0 lexed.1 in
    let rest = all_after (IsPlace bytes) begins.0 (begins.2 ∷ begins.1) (subst (AllStarts (IsPlace bytes)) begins.3 starts) in
    subst (IsPlace bytes) begins.4 rest.0

module _ (tokens : List Token) where
  begun : (front rest : List Token) → tokens ≡ front ++ rest → AllStarts (BeginsToken tokens) rest
  begun front [] e = tt
  begun front (t ∷ ts) e = ((front, ts, t, e, refl), begun (front ++ t ∷ []) ts (e ∙ sym (append_assoc front (t ∷ []) ts)))

  pub all_begin : AllStarts (BeginsToken tokens) tokens
  all_begin = begun [] tokens refl

-- ---- programs

declared : (tokens : List Token) (ds : List DeclSyntax) → IsProgram tokens ds → DeclsHold (BeginsToken tokens) ds
declared tokens ds is = decls_hold (BeginsToken tokens) ds tokens [] is.spelled is.fits (all_begin tokens)

pub programs_begin_tokens : ProgramsBeginTokens
programs_begin_tokens tokens ds p is resolved = program_holds (BeginsToken tokens) ds p (declared tokens ds is) resolved

pub name_faults_begin_tokens : NameFaultsBeginTokens
name_faults_begin_tokens tokens ds stop is first = by stop first
  where
    all : FaultHolds (BeginsToken tokens) (resolved_program ds)
    all = program_fault (BeginsToken tokens) ds (declared tokens ds is)

    moved : {r : Found ProgramTree} → resolved_program ds ≡ r → FaultHolds (BeginsToken tokens) r
    moved e = subst (λ (q : Found ProgramTree). FaultHolds (BeginsToken tokens) q) e all

    by : (s : NameStop) → IsFirst (resolved_program ds) s → NamePlace (BeginsToken tokens) s
    by (name_stop.Unknown at) e = moved e
    by (name_stop.Twice at) e = moved e
    by (name_stop.WrongCount at) e = moved e
    by (name_stop.Hole at) e = moved e
    by (name_stop.Range at) e = moved e
    by name_stop.NoMemory e = tt

-- ---- syntax

place_begins : (P : ℕ → Type 0) (tokens : List Token) (k end : ℕ) → AllStarts P tokens → P (place_of tokens k end) ⊎ (place_of tokens k end ≡ end)
place_begins P [] zero end h = inr refl
place_begins P [] (suc k) end h = inr refl
place_begins P (t ∷ ts) zero end h = inl h.0
place_begins P (t ∷ ts) (suc k) end h = place_begins P ts k end h.1

pub token_or_end : (tokens : List Token) (k end at : ℕ) → at ≡ place_of tokens k end → BeginsTokenOrEnds tokens end at
token_or_end tokens k end at e = subst (BeginsTokenOrEnds tokens end) (sym e) (place_begins (BeginsToken tokens) tokens k end (all_begin tokens))

large_begins : (tokens : List Token) (end : ℕ) (kind : LimitKind) (at : ℕ) → IsLarge tokens kind at → BeginsTokenOrEnds tokens end at
large_begins tokens end kind at l = inl (passed_holds (BeginsToken tokens) 0 l.ds kind at (declared tokens l.ds l.is) l.passes)

limit_begins : (tokens : List Token) (end : ℕ) (kind : LimitKind) (at : ℕ) → LimitAt tokens end kind at → BeginsTokenOrEnds tokens end at
limit_begins tokens end limit.Height at l = token_or_end tokens l.0 end at l.1
limit_begins tokens end limit.Functions at l = large_begins tokens end limit.Functions at l
limit_begins tokens end limit.Parameters at l = large_begins tokens end limit.Parameters at l
limit_begins tokens end limit.Fields at l = large_begins tokens end limit.Fields at l
limit_begins tokens end limit.UnitParameters at l = large_begins tokens end limit.UnitParameters at l
limit_begins tokens end limit.Nodes at l = large_begins tokens end limit.Nodes at l
limit_begins tokens end limit.Depth at l = large_begins tokens end limit.Depth at l
limit_begins tokens end limit.Slots at l = large_begins tokens end limit.Slots at l

pub syntax_faults_begin_tokens : SyntaxFaultsBeginTokens
syntax_faults_begin_tokens tokens end (parse_stop.Syntax at) s = token_or_end tokens s.0 end at s.1
syntax_faults_begin_tokens tokens end (parse_stop.Limit kind at) s = limit_begins tokens end kind at s
syntax_faults_begin_tokens tokens end parse_stop.NoMemory s = tt
