-- The laws of unit texts for a reader that holds the machine of units inside: what is read stands up to a rest that may be anything.
use Rattle.std.proofs.Common.{◌≡◌, ◌≢◌, List, [], ◌∷◌, ◌++◌, Option, Some, None, refl, sym, ap, subst, ◌∙◌, append_assoc}
use Rattle.um_syntax.specs.declared.token.Token.{Token}
use Rattle.um_tree.specs.RawTree.{UnitSyntax}
use Rattle.um_unit_texts.specs.UnitGrammar.{Spells, Fits, IsUnit}
use Rattle.um_unit_texts.specs.UnitMachine.{State, Need, Refused, run, whole, unit_step, finish}
use Rattle.um_reader.specs.Machine.{Reaches}
use Rattle.um_reader.proofs.Reaching.{runs_append}
use Rattle.um_unit_texts.proofs.UnitComplete.{into, red_into}
use Rattle.um_unit_texts.proofs.UnitLaws.{ending_of, completed, can_go_on, reads_as, found, finish_red}
use Rattle.um_unit_texts.proofs.UnitCut.{cut_unit, unit_before}

-- what was read is found
pub unit_finds : (u : UnitSyntax) → Fits u → finish (into [] u) ≡ Some u
unit_finds u fits = finish_red (into [] u) ∙ ap whole (red_into u [] fits)

abbrev no_unit : Option UnitSyntax
no_unit = None

pub into_goes_on : (u : UnitSyntax) → Fits u → into [] u ≢ Refused
into_goes_on u fits h = let bad : no_unit ≡ Some u = sym (ap finish h) ∙ unit_finds u fits in cc

-- what a unit text spells is read as it
pub unit_reaches : (u : UnitSyntax) (tokens rest : List Token) → Spells u tokens rest → Fits u → Reaches unit_step Refused (Need []) tokens (into [] u) rest
unit_reaches u tokens rest s fits =
    let c = cut_unit u tokens rest s fits in (c.0, c.1, reads_as u c.0 c.2, into_goes_on u fits)

-- the tokens up to the rest are those of the state, which hasn't refused
abbrev pub UnitSpellsPrefix : State → List Token → List Token → Type 0
UnitSpellsPrefix u tokens rest = (read : List Token) × (tokens ≡ read ++ rest) × (run (Need []) read ≡ u) × (u ≢ Refused)

pub unit_begins : (tokens : List Token) → UnitSpellsPrefix (Need []) tokens tokens
unit_begins tokens = ([], refl, refl, (λ e. cc))

-- the token that is read goes over to the state
pub unit_sound : (u : State) (x : Token) (tokens rest : List Token) → UnitSpellsPrefix u tokens (x ∷ rest) → unit_step u x ≢ Refused → UnitSpellsPrefix (unit_step u x) tokens rest
unit_sound u x tokens rest h ok =
    (h.0 ++ x ∷ [], h.1 ∙ sym (append_assoc h.0 (x ∷ []) rest), runs_append unit_step h.0 (x ∷ []) (Need []) ∙ ap (λ s. unit_step s x) h.2, ok)

-- what is found is a unit text
pub unit_found : (u : State) (t : UnitSyntax) (tokens rest : List Token) → UnitSpellsPrefix u tokens rest → finish u ≡ Some t → Spells t tokens rest × Fits t
unit_found u t tokens rest h e =
    let p : IsUnit h.0 t = found h.0 t (ap finish h.2 ∙ e) in (subst (λ s. Spells t s rest) (sym h.1) (unit_before t h.0 rest p), p.fits)

-- what isn't refused can be completed
pub unit_can_end : (u : State) (tokens rest : List Token) → UnitSpellsPrefix u tokens (ending_of u ++ rest) → Spells (completed u) tokens rest × Fits (completed u)
unit_can_end u tokens rest h =
    let run_ok : run (Need []) h.0 ≢ Refused = λ e. h.3 (sym h.2 ∙ e) in
    let p : IsUnit (h.0 ++ ending_of u) (completed u) = subst (λ s. IsUnit (h.0 ++ ending_of s) (completed s)) h.2 (can_go_on h.0 run_ok) in
    let parts : tokens ≡ (h.0 ++ ending_of u) ++ rest = h.1 ∙ sym (append_assoc h.0 (ending_of u) rest) in
    (subst (λ s. Spells (completed u) s rest) (sym parts) (unit_before (completed u) (h.0 ++ ending_of u) rest p), p.fits)
