-- What the tokens behind a state have to be so that the whole is a value: the rest of what is open.
use Rattle.std.proofs.Common.{◌≡◌, ◌≢◌, ℕ, Bool, true, List, [], ◌∷◌, ◌++◌, Option, Some, refl, ap, ◌∙◌}
use Rattle.um_frac.specs.declared.number.Frac.{Frac}
use Rattle.um_syntax.specs.declared.token.Token.{Token}
use Rattle.um_syntax.specs.declared.token.Kind.{Kind}
use Rattle.um_syntax.specs.declared.token.Kind.TheVariants as kind
use Rattle.um_vocabulary.specs.declared.vocabulary.Symbol.TheVariants as symbol
use Rattle.um_tree.specs.RawTree.{NoteSyntax}
use Rattle.um_tree.specs.ProgramTree.{RecordTree}
use Rattle.um_tree.specs.Shapes.{type_shape}
use Rattle.um_reader.specs.Machine.{runs}
use Rattle.um_types.specs.TypeGrammar.{FirstKind, FirstSign}
use Rattle.um_types.specs.NoteMachine.{NoteState, NeedNote, HaveHole, InUnit, NoNote, note_step, note_finish}
use Rattle.um_value.specs.ValueSyntax.{ValueSyntax, ValueSyntaxes, raw_number, raw_list, raw_record, raw_more, behind}
use Rattle.um_value.specs.ValueGrammar.{FirstNumber, FirstGlued, WrittenSpells, PlainSpells, NamedSpells, Spells, ItemsSpell, MoreItemsSpell, MoreFieldsSpell}
use Rattle.um_value.specs.ValueMachine.{Frame, InList, InRecord, ValueState, Need, Begun, Negative, Counted, InNote, NeedName, NeedEqual, Have, NoValue, note_goes}

module _ (records : List RecordTree) where
  -- the value at hand stands in the frames; the tokens are what is open, and the whole is the last
  abbrev pub Closes : List Frame → ValueSyntax → List Token → ValueSyntax → Type 0
  Closes [] v tokens u = (tokens ≡ []) × (u ≡ v)
  Closes (InList t earlier ∷ frames) v tokens u =
      (vs : ValueSyntaxes) × (rest : List Token) × MoreItemsSpell records vs t tokens rest × Closes frames (raw_list (behind earlier (raw_more v vs))) rest u
  Closes (InRecord r earlier fs ∷ frames) v tokens u =
      (vs : ValueSyntaxes) × (rest : List Token) × MoreFieldsSpell records vs fs tokens rest × Closes frames (raw_record r (behind earlier (raw_more v vs))) rest u

  abbrev pub From : ValueState → List Token → ValueSyntax → Type 0
  From (Need frames s) tokens u = (v : ValueSyntax) × (mid : List Token) × Spells records v s tokens mid × Closes frames v mid u
  From (Begun frames t) tokens u = (vs : ValueSyntaxes) × (rest : List Token) × ItemsSpell records vs t tokens rest × Closes frames (raw_list vs) rest u
  From (Negative frames) tokens u =
      (at : ℕ) × (value : Frac) × (n : Option NoteSyntax) × (rest : List Token) × PlainSpells at value n tokens rest × Closes frames (raw_number at true value n) rest u
  From (Counted frames at negative value) tokens u =
      (n : Option NoteSyntax) × (rest : List Token) × WrittenSpells n tokens rest × Closes frames (raw_number at negative value n) rest u
  From (InNote frames at negative value note) tokens u =
      (inside last rest : List Token) × (n : NoteSyntax) × (tokens ≡ inside ++ last) × (note_finish (runs note_step note inside) ≡ Some n)
      × FirstSign symbol.Greater last rest × Closes frames (raw_number at negative value (Some n)) rest u
  From (NeedName frames f) tokens u = (v : ValueSyntax) × (mid : List Token) × NamedSpells f (Spells records v (type_shape f.type)) tokens mid × Closes frames v mid u
  From (NeedEqual frames s) tokens u =
      (v : ValueSyntax) × (next mid : List Token) × FirstSign symbol.Equal tokens next × Spells records v s next mid × Closes frames v mid u
  From (Have frames v) tokens u = Closes frames v tokens u
  From NoValue tokens u = ⊥

-- ---- the first token

pub same_head : (x y : Token) (xs ys : List Token) → x ∷ xs ≡ y ∷ ys → x ≡ y
same_head x y xs ys e = cc

pub same_tail : (x y : Token) (xs ys : List Token) → x ∷ xs ≡ y ∷ ys → xs ≡ ys
same_tail x y xs ys e = cc

pub no_first : (x : Token) (xs : List Token) → ◌≡◌ {A = List Token} [] (x ∷ xs) → ⊥
no_first x xs e = cc

pub nothing_behind : (inside : List Token) (x : Token) (rest : List Token) → ◌≡◌ {A = List Token} [] (inside ++ x ∷ rest) → ⊥
nothing_behind [] x rest e = no_first x rest e
nothing_behind (y ∷ inside) x rest e = no_first y (inside ++ x ∷ rest) e

pub first_kind : (what : Kind) (x : Token) (tokens rest : List Token) → FirstKind what (x ∷ tokens) rest → (x.kind ≡ what) × (tokens ≡ rest)
first_kind what x tokens rest f = (ap (λ (t : Token). t.kind) (same_head x f.0 tokens rest f.2) ∙ f.1, same_tail x f.0 tokens rest f.2)

pub first_number : (at : ℕ) (value : Frac) (x : Token) (tokens rest : List Token) → FirstNumber at value (x ∷ tokens) rest
    → (digits : Bool) × (one : Bool) × (x.kind ≡ kind.Number value digits one) × (x.start ≡ at) × (tokens ≡ rest)
first_number at value x tokens rest f =
    let same = same_head x f.0 tokens rest f.5 in (
      f.1,
      f.2,
      ap (λ (t : Token). t.kind) same ∙ f.3,
      ap (λ (t : Token). t.start) same ∙ f.4,
      same_tail x f.0 tokens rest f.5,
    )

pub first_glued : (x : Token) (tokens rest : List Token) → FirstGlued (x ∷ tokens) rest → (x.kind ≡ kind.Sign symbol.Less) × (x.glued ≡ true) × (tokens ≡ rest)
first_glued x tokens rest f =
    let same = same_head x f.0 tokens rest f.3 in
    (ap (λ (t : Token). t.kind) same ∙ f.1, ap (λ (t : Token). t.glued) same ∙ f.2, same_tail x f.0 tokens rest f.3)

-- ---- values behind others

pub behind_last : (earlier : List ValueSyntax) (v : ValueSyntax) (vs : ValueSyntaxes) → behind (earlier ++ v ∷ []) vs ≡ behind earlier (raw_more v vs)
behind_last [] v vs = refl
behind_last (w ∷ earlier) v vs = ap (raw_more w) (behind_last earlier v vs)

-- ---- a note inside

pub note_goes_on : (frames : List Frame) (at : ℕ) (negative : Bool) (value : Frac) (n : NoteState) (ended : ValueState) → n ≢ NoNote → note_goes frames at negative value n ended ≡ InNote frames at negative value n
note_goes_on frames at negative value NeedNote ended ok = refl
note_goes_on frames at negative value (HaveHole place) ended ok = refl
note_goes_on frames at negative value (InUnit place u) ended ok = refl
note_goes_on frames at negative value NoNote ended ok = absurd (ok refl)
