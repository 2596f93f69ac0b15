-- What a note spells is read as it, whatever follows.
use Rattle.std.proofs.Common.{◌≡◌, ◌≢◌, ℕ, true, List, [], ◌∷◌, ◌++◌, Option, Some, None, refl, sym, ap, ◌∙◌}
use Rattle.um_syntax.specs.declared.token.Token.{Token}
use Rattle.um_syntax.specs.declared.token.Kind.{Kind}
use Rattle.um_syntax.specs.declared.token.Kind.TheVariants as kind
use Rattle.um_tree.specs.RawTree.{UnitSyntax, NoteSyntax, hole_syntax, unit_note_syntax}
use Rattle.um_unit_texts.specs.UnitTokens.{unit_token}
use Rattle.um_unit_texts.specs.UnitGrammar.{Fits}
use Rattle.um_unit_texts.specs.UnitMachine.{State, Need, Have, Raised, Lowered, Refused, act, unit_step, finish, is_foreign}
use Rattle.um_types.specs.TypeGrammar.{BeginsAt, NoteSpells, NoteFits}
use Rattle.um_reader.specs.Machine.{runs, Reaches}
use Rattle.um_types.specs.NoteMachine.{NoteState, NeedNote, HaveHole, InUnit, NoNote, unit_goes, note_begin, note_act, note_step, noted, note_finish}
use Rattle.um_reader.proofs.Reaching.{runs_refused, reaches_one, lift}
use Rattle.um_unit_texts.proofs.UnitComplete.{into}
use Rattle.um_unit_texts.proofs.UnitNested.{unit_finds, unit_reaches}
use Rattle.um_unit_texts.proofs.ForeignTokens.{foreign_refused}

-- the state once a note was read
abbrev pub note_into : NoteSyntax → NoteState
note_into (hole_syntax at) = HaveHole at
note_into (unit_note_syntax at u) = InUnit at (into [] u)

pub unit_goes_on : (at : ℕ) (u : State) → u ≢ Refused → unit_goes at u ≡ InUnit at u
unit_goes_on at (Need frames) ok = refl
unit_goes_on at (Have frames t) ok = refl
unit_goes_on at (Raised frames t) ok = refl
unit_goes_on at (Lowered frames t) ok = refl
unit_goes_on at Refused ok = absurd (ok refl)

note_goes_on : (at : ℕ) (u new : State) (token : Token) → unit_step u token ≡ new → new ≢ Refused → note_step (InUnit at u) token ≡ InUnit at new
note_goes_on at u new token e ok = ap (unit_goes at) e ∙ unit_goes_on at new ok

pub note_begin_unit : (k : Kind) (at : ℕ) (new : State) → act (Need []) (unit_token k) at ≡ new → new ≢ Refused → note_begin k at ≡ InUnit at new
note_begin_unit kind.Hole at new e ok = absurd (ok (sym e))
note_begin_unit (kind.Name x) at new e ok = ap (unit_goes at) e ∙ unit_goes_on at new ok
note_begin_unit (kind.Var x) at new e ok = ap (unit_goes at) e ∙ unit_goes_on at new ok
note_begin_unit (kind.Number value digits one) at new e ok = ap (unit_goes at) e ∙ unit_goes_on at new ok
note_begin_unit (kind.Word k) at new e ok = ap (unit_goes at) e ∙ unit_goes_on at new ok
note_begin_unit (kind.Sign k) at new e ok = ap (unit_goes at) e ∙ unit_goes_on at new ok

abbrev no_unit : Option UnitSyntax
no_unit = None

same_first : (x y : Token) (xs ys : List Token) → x ∷ xs ≡ y ∷ ys → x ≡ y
same_first x y xs ys e = cc

pub in_unit : (at : ℕ) (u : State) → InUnit at u ≢ NoNote
in_unit at u e = cc

-- the first token of a unit text and then the others
reads_unit : (at : ℕ) (u : UnitSyntax) (tokens rest : List Token) → BeginsAt at tokens → Fits u → Reaches unit_step Refused (Need []) tokens (into [] u) rest
    → Reaches note_step NoNote NeedNote tokens (InUnit at (into [] u)) rest
reads_unit at u tokens rest b fits ([], e, reached, ok) = absurd (let bad : no_unit ≡ Some u = ap finish reached ∙ unit_finds u fits in cc)
reads_unit at u tokens rest b fits (x ∷ xs, e, reached, ok) =
    let first : x.start ≡ at = ap (λ (t : Token). t.start) (same_first x b.0 (xs ++ rest) b.1 (sym e ∙ b.3)) ∙ b.2 in
    let mid : State = unit_step (Need []) x in
    let goes : mid ≢ Refused = λ h. ok (sym reached ∙ ap (λ s. runs unit_step s xs) h ∙ runs_refused unit_step Refused (λ t. refl) xs) in (
      x ∷ xs,
      e,
      ap (λ s. runs note_step s xs) (note_begin_unit x.kind x.start mid refl goes)
          ∙ lift unit_step Refused (λ t. refl) note_step (λ v. InUnit x.start v) (note_goes_on x.start) xs mid (into [] u) reached ok
          ∙ ap (λ a. InUnit a (into [] u)) first,
      in_unit at (into [] u),
    )

hole_goes : (at : ℕ) → HaveHole at ≢ NoNote
hole_goes at e = cc

pub note_reaches : (n : NoteSyntax) (tokens rest : List Token) → NoteSpells n tokens rest → NoteFits n → Reaches note_step NoNote NeedNote tokens (note_into n) rest
note_reaches (hole_syntax at) tokens rest s fits =
    reaches_one note_step NoNote NeedNote (HaveHole at) s.0 tokens rest s.3 (ap (λ k. note_act NeedNote k s.0.start) s.1 ∙ ap (λ a. HaveHole a) s.2) (hole_goes at)
note_reaches (unit_note_syntax at u) tokens rest s fits = reads_unit at u tokens rest s.0 fits (unit_reaches u tokens rest s.1 fits)

-- what was read is found
pub note_finds : (n : NoteSyntax) → NoteFits n → note_finish (note_into n) ≡ Some n
note_finds (hole_syntax at) fits = refl
note_finds (unit_note_syntax at u) fits = ap (noted at) (unit_finds u fits)

-- and what stands in no unit text is refused after it
pub note_stops : (n : NoteSyntax) (k : Kind) (at : ℕ) → is_foreign (unit_token k) ≡ true → note_act (note_into n) k at ≡ NoNote
note_stops (hole_syntax place) k at e = refl
note_stops (unit_note_syntax place u) k at e = ap (unit_goes place) (foreign_refused (into [] u) (unit_token k) at e)
