-- Which tokens go on after those that were read.
use Rattle.std.proofs.Common.{◌≡◌, ◌≢◌, ◌⊎◌, inl, inr, ℕ, ◌+◌, ◌≤◌, ◌<◌, Bool, true, false, ◌||◌, ◌&&◌, is_some, List, [], ◌∷◌, ◌++◌, length, take, get_or, Option, Some, None, refl, sym, ap, subst, ◌∙◌, arith}
use Rattle.std.specs.Bool.{Decides}
use Rattle.std.proofs.lemmas.Bool.{cases_lt}
use Rattle.std.proofs.lemmas.List.{take_all}
use Rattle.um_syntax.specs.declared.token.Token.{Token}
use Rattle.um_tree.specs.RawTree.{DeclSyntax}
use Rattle.um_reader.specs.Texts.{BeginsText, BeginsTextWithin}
use Rattle.um_reader.specs.Machine.{reached}
use Rattle.um_reader.proofs.Texts.{within_before}
use Rattle.um_reader.proofs.Readers.{one_more, none_some, begins_text, begins_none, none_within}
use Rattle.um_reader.proofs.Loop.{through}
use Rattle.um_unit_texts.specs.UnitStops.{greatest_height}
use Rattle.um_decls.specs.DeclMachine.{DeclState, Expects, DeclBegin, HaveBase, InShort, HaveRecord, InField, InParam, InResult, InBody, NoDecl, ProgramState, InProgram, NoProgram, decl_step, decl_finish, next_decl, program_goes, program_step, program_finish}
use Rattle.um_decls.specs.DeclStanding.{decl_stands, program_stands}
use Rattle.um_parse.specs.DeclGrammar.{IsProgram}
use Rattle.um_parse.specs.ProgramHeights.{program_height}
use Rattle.um_parse.specs.ProgramLeast.{program_least, machine_of_programs}
use Rattle.um_parse.proofs.ProgramLow.{programs_read}

-- ---- a program goes on if its last declaration does, or is whole and another begins

goes_stands : (ds : List DeclSyntax) (d : DeclState) (ended : ProgramState) → program_stands (program_goes ds d ended) ≡ (decl_stands d || program_stands ended)
goes_stands ds (Expects expected) ended = refl
goes_stands ds (HaveBase at x) ended = refl
goes_stands ds (InShort at x u) ended = refl
goes_stands ds (HaveRecord at x vs fs) ended = refl
goes_stands ds (InField at x vs fs place y s) ended = refl
goes_stands ds (InParam head ps b s) ended = refl
goes_stands ds (InResult head ps s) ended = refl
goes_stands ds (InBody head ps r e) ended = refl
goes_stands ds NoDecl ended = refl

or_false : (b : Bool) → (b || false) ≡ b
or_false true = refl
or_false false = refl

next_stands : (ds : List DeclSyntax) (found : Option DeclSyntax) (begun : DeclState) → program_stands (next_decl ds found begun) ≡ (is_some found && decl_stands begun)
next_stands ds None begun = refl
next_stands ds (Some d) begun = goes_stands (ds ++ d ∷ []) begun NoProgram ∙ or_false (decl_stands begun)

pub step_stands : (ds : List DeclSyntax) (d : DeclState) (token : Token)
    → program_stands (program_step (InProgram ds d) token) ≡ (decl_stands (decl_step d token) || (is_some (decl_finish d) && decl_stands (decl_step (Expects DeclBegin) token)))
step_stands ds d token =
    let begun : DeclState = decl_step (Expects DeclBegin) token in
    goes_stands ds (decl_step d token) (next_decl ds (decl_finish d) begun) ∙ ap (λ b. decl_stands (decl_step d token) || b) (next_stands ds (decl_finish d) begun)

-- ---- what goes on begins a program

stands_unless : (s : ProgramState) → (s ≡ NoProgram → ⊥) → program_stands s ≡ true
stands_unless (InProgram ds d) other = refl
stands_unless NoProgram other = absurd (other refl)

standing : (s : ProgramState) → program_stands s ≡ true → s ≢ NoProgram
standing (InProgram ds d) stands = λ e. cc e
standing NoProgram stands = absurd (cc stands)

begun_stands : (tokens : List Token) → BeginsText IsProgram tokens → program_stands (reached machine_of_programs tokens) ≡ true
begun_stands tokens b = stands_unless (reached machine_of_programs tokens) (λ e. begins_none programs_read tokens e b)

pub goes_on : (state : ProgramState) (tokens : List Token) (token : Token) (goes : Bool) → state ≡ reached machine_of_programs tokens → goes ≡ program_stands (program_step state token)
    → Decides goes (BeginsText IsProgram (tokens ++ token ∷ []))
goes_on state tokens token goes has is =
    let more : List Token = tokens ++ token ∷ [] in
    let e : goes ≡ program_stands (reached machine_of_programs more) = is ∙ ap (λ s. program_stands (program_step s token)) has ∙ ap program_stands (one_more machine_of_programs tokens token) in (
      (λ h. begins_text programs_read more (standing (reached machine_of_programs more) (sym e ∙ h))),
      (λ b. e ∙ begun_stands more b),
    )

-- ---- what is whole is a program

found_or_not : (found : Option (List DeclSyntax)) (tokens : List Token) → found ≡ program_finish (reached machine_of_programs tokens) → Decides (is_some found) ((ds : List DeclSyntax) × IsProgram tokens ds)
found_or_not (Some ds) tokens e = ((λ h. (ds, programs_read.found tokens ds (sym e))), (λ p. refl))
found_or_not None tokens e = ((λ h. absurd (cc h)), (λ p. absurd (none_some p.0 (e ∙ programs_read.finds tokens p.0 p.1))))

pub is_whole : (state : ProgramState) (tokens : List Token) (whole : Bool) → state ≡ reached machine_of_programs tokens → whole ≡ is_some (program_finish state) → Decides whole ((ds : List DeclSyntax) × IsProgram tokens ds)
is_whole state tokens whole has is = subst (λ b. Decides b ((ds : List DeclSyntax) × IsProgram tokens ds)) (sym is) (found_or_not (program_finish state) tokens (ap program_finish has))

-- ---- one token more of those that begin a program within the heights

low_reached : (tokens : List Token) → BeginsTextWithin IsProgram program_height greatest_height tokens → program_least (reached machine_of_programs tokens) ≤ greatest_height
low_reached tokens b =
    elim (cases_lt greatest_height (program_least (reached machine_of_programs tokens))) [
      | inl high ↦ absurd (none_within programs_read tokens greatest_height high b)
      | inr low ↦ low
    ]

module _ (tokens : List Token) (begins : BeginsTextWithin IsProgram program_height greatest_height tokens) (i : ℕ) (x : Token) (state : ProgramState)
    (within : i < length tokens) (same : get_or tokens i x ≡ x) (has : state ≡ reached machine_of_programs (take i tokens)) where
  pub next_reached : program_step state x ≡ reached machine_of_programs (take (i + 1) tokens)
  next_reached = through machine_of_programs greatest_height tokens i x state within same has

  next_begins : BeginsTextWithin IsProgram program_height greatest_height (take (i + 1) tokens)
  next_begins =
      within_before IsProgram program_height greatest_height tokens (i + 1) (length tokens) (omega (arith, within))
      (subst (λ ts. BeginsTextWithin IsProgram program_height greatest_height ts) (sym (take_all (length tokens) tokens (omega arith))) begins)

  pub next_goes : program_stands (program_step state x) ≡ true
  next_goes = let b = next_begins in ap program_stands next_reached ∙ begun_stands (take (i + 1) tokens) (b.0, b.1, b.2)

  pub next_low : program_least (program_step state x) ≤ greatest_height
  next_low = subst (λ s. program_least s ≤ greatest_height) (sym next_reached) (low_reached (take (i + 1) tokens) next_begins)

-- the state before it is low
pub low_before : (state : ProgramState) (token : Token) → program_stands (program_step state token) ≡ true → program_least (program_step state token) ≤ greatest_height → program_least state ≤ greatest_height
low_before state token goes low = let up = programs_read.up state token (standing (program_step state token) goes) in omega (arith, low, up)
