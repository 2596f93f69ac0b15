-- The text with the numbers of the rescaled program, read again, is the rescaled program.
use Rattle.std.proofs.Common.{◌≡◌, ℕ, ◌≤◌, List, [], ◌∷◌, slice_get, Option, Some, None, refl, sym, ap, subst, ◌∙◌}
use Rattle.um_frac.specs.declared.number.Frac.{Frac}
use Rattle.um_syntax.specs.declared.token.Kind.{Kind}
use Rattle.um_syntax.specs.declared.token.Token.{Token}
use Rattle.um_unit_texts.specs.UnitStops.{greatest_height}
use Rattle.um_parse.specs.Parsed.{IsRead}
use Rattle.um_parse.specs.Laws.{ProgramsAreUnique}
use Rattle.um_shape.specs.FirstFault.{first_fault}
use Rattle.um_tidy.specs.declared.stand.Next.{Next}
use Rattle.um_tidy.specs.declared.stand.Within.{Within}
use Rattle.um_tidy.specs.Stands.{start, kind_stand}
use Rattle.um_tidy.proofs.Alike.{Alike}
use Rattle.um_tidy.proofs.DeclsStay.{all_stays}
use Rattle.um_scale.specs.RescaledLiterals.{misfit_in, rescaled_program}
use Rattle.um_scale.specs.Sizes.{sizes}
use Rattle.um_scale.proofs.Rescaled.{program_rescaled}
use Rattle.um_scale.proofs.RescaledFaults.{same_fault}
use Rattle.um_scale.specs.RescaledText.{opens_unit, new_number}
use Rattle.um_rescaled.specs.RespelledTokens.{HasKind, AreRespelled}
use Rattle.um_rescaled.specs.TextLaws.{RespelledProgramsHaveTokens}
use Rattle.um_rescaled.specs.Replaced.{IsReplaced, AreReplaced}
use Rattle.um_rescaled.specs.NumberLaws.{rescaled_numbers, RescaledNumbersAreUnsigned, ReplacedProgramsAreRescaled}
use Rattle.um_rescaled.specs.PlaceLaws.{RescaledTextsAreRead}
use Rattle.um_rescaled.proofs.BareDecls.{same_trees}
use Rattle.um_rescaled.proofs.BareFaultless.{same_faultless}
use Rattle.um_rescaled.proofs.BareSizes.{same_height, same_limits}

-- the first tokens, with the kinds of the second
abbrev moved : List Token → List Token → List Token
moved [] us = []
moved (t ∷ ts) [] = []
moved (t ∷ ts) (u ∷ us) = record t { kind = u.kind } ∷ moved ts us

replaced_one : (o : Option Frac) (t : Token) (k : Kind) → HasKind o t.kind k → IsReplaced o t (record t { kind = k })
replaced_one None t k h = ap (λ (j : Kind). record t { kind = j }) h
replaced_one (Some c) t k h = (h.0, h.1, ap (λ (j : Kind). record t { kind = j }) h.2)

module _ (numbers : ℕ → Option Frac) where
  replaced : (ts us : List Token) → AreRespelled numbers ts us → AreReplaced numbers ts (moved ts us)
  replaced [] [] h = refl
  replaced [] (u ∷ us) h = absurd h
  replaced (t ∷ ts) [] h = absurd h
  replaced (t ∷ ts) (u ∷ us) h =
      (record t { kind = u.kind }, moved ts us, refl, replaced_one (new_number numbers t (opens_unit (slice_get ts 0))) t u.kind h.0, replaced ts us h.2)

  alike : (ts us : List Token) (n : Next) (w : Within) → AreRespelled numbers ts us → Alike (moved ts us) n w us
  alike [] [] n w h = refl
  alike [] (u ∷ us) n w h = absurd h
  alike (t ∷ ts) [] n w h = absurd h
  alike (t ∷ ts) (u ∷ us) n w h = record {
    token = u;
    left = us;
    first = refl;
    same = refl;
    number = λ _ _. h.1;
    greater = λ _ _ e. h.1 ∙ e;
    rest = alike ts us (kind_stand n w t.glued u.kind).next (kind_stand n w t.glued u.kind).within h.2;
  }

pub rescaled_texts_are_read : ProgramsAreUnique → RespelledProgramsHaveTokens → RescaledNumbersAreUnsigned → ReplacedProgramsAreRescaled → RescaledTextsAreRead
rescaled_texts_are_read unique have_tokens unsigned rescaled bytes tokens ds p cs above spelled =
    let numbers = rescaled_numbers cs p in
    let out = have_tokens bytes numbers tokens ds spelled.lexed spelled.read (unsigned bytes tokens ds p cs above spelled) in
    let others = out.0 in
    let mid = moved tokens others in
    let exact = rescaled bytes tokens mid ds p cs above spelled (replaced numbers tokens others out.2) in
    let read = all_stays mid exact.0 others exact.1 (alike numbers tokens others start.next start.within out.2) in
    let same = same_trees exact.0 read.0 (rescaled_program cs p) read.2 exact.2 in
    let limits : IsRead tokens ds → IsRead others read.0 = λ r. record {
      is = read.1;
      only = λ other is. unique others other read.0 is read.1;
      low = subst (λ n. n ≤ greatest_height) (sym (same_height exact.0 read.0 read.2 ∙ exact.4)) r.low;
      small = same_limits exact.0 read.0 read.2 (exact.5 r.small);
    } in
    let faultless : misfit_in cs p.functions ≡ None → first_fault p ≡ None → first_fault same.0 ≡ None =
    λ fit free. same_faultless (rescaled_program cs p) same.0 same.2 (same_fault p (rescaled_program cs p) (sizes cs) (program_rescaled cs above p fit) ∙ free) in
    (others, read.0, same.0, record { lexed = out.1; read = read.1; resolved = same.1 }, same.2, same.3 ∙ exact.3, limits, faultless)
