-- The machine's answer to a whole text is the text's.
use Rattle.std.proofs.Common.{◌≡◌, ℕ, Bool, true, false, eqb, List, [], ◌∷◌, ◌++◌, Result, Ok, Err, IfOk, IfErr, MatchResult, refl, sym, ap, subst, ◌∙◌, ◌⊎◌, inl, inr}
use Rattle.std.proofs.lemmas.Bool.{eqb-true}
use Rattle.um_syntax.specs.declared.token.Token.{Token}
use Rattle.um_syntax.specs.declared.token.LexStop.{LexStop}
use Rattle.um_syntax.specs.declared.token.LexStop.TheVariants.{BadChar, NumberRange, PowerText, NoMemory}
use Rattle.um_syntax.specs.declared.pending.Pending.TheVariants as pending
use Rattle.um_syntax.specs.Lexing.{Lexes, body, body_place, HasTokens, HasFault, IsRefusal}
use Rattle.um_syntax.specs.Gap.{IsLastGap}
use Rattle.um_syntax.specs.Lexeme.{text_of}
use Rattle.um_syntax.specs.Machine.{scanned}
use Rattle.um_syntax.specs.Laws.{EachTextIsAnswered, TokensAreUnique, FaultIsUnique, TokensExcludeFault, laid_out, LieAt, TokensMakeUpText}
use Rattle.um_syntax.specs.Scanning.{Answers}
use Rattle.um_syntax.proofs.Meaning.{Means}
use Rattle.um_syntax.proofs.Sound.{sound}
use Rattle.um_syntax.proofs.Reading.{run, free}
use Rattle.um_syntax.proofs.Complete.{complete}
use Rattle.um_syntax.proofs.Refused.{refused}

-- the machine starts after a byte order mark
pub scanned-body : (chars : List ℕ) → scanned chars ≡ run (free [] (body_place chars)) (body chars)
scanned-body [] = refl
scanned-body (c ∷ cs) = by_mark (eqb c 65279) refl
  where
    by_mark : (b : Bool) → eqb c 65279 ≡ b → scanned (c ∷ cs) ≡ run (free [] (body_place (c ∷ cs))) (body (c ∷ cs))
    by_mark true e =
        let same = eqb-true c 65279 e in
        subst (λ x. scanned (x ∷ cs) ≡ run (free [] (body_place (x ∷ cs))) (body (x ∷ cs))) (sym same) refl
    by_mark false e = rw e refl

pub scanned_sound : (chars : List ℕ) → Means [] (body_place chars) (body chars) (scanned chars)
scanned_sound chars = subst (Means [] (body_place chars) (body chars)) (sym (scanned-body chars)) (sound (body chars) [] [] (body_place chars) (body_place chars) [] pending.Free (refl, refl, refl))

pub scanned_complete : (chars : List ℕ) (tokens : List Token) → HasTokens chars tokens → scanned chars ≡ Ok tokens
scanned_complete chars tokens l = scanned-body chars ∙ complete tokens [] (body_place chars) (body chars) l

pub scanned_refused : (chars : List ℕ) (stop : LexStop) → HasFault chars stop → scanned chars ≡ Err stop
scanned_refused chars stop f = scanned-body chars ∙ refused f.0 [] (body_place chars) (body chars) stop f.1

pub tokens_from : (chars : List ℕ) (tokens : List Token) → scanned chars ≡ Ok tokens → HasTokens chars tokens
tokens_from chars tokens e =
    let m = subst (Means [] (body_place chars) (body chars)) e (scanned_sound chars) in
    subst (λ x. Lexes [] (body_place chars) (body chars) x) (sym m.1) m.2

pub fault_from : (chars : List ℕ) (stop : LexStop) → scanned chars ≡ Err stop → HasFault chars stop
fault_from chars stop e = subst (Means [] (body_place chars) (body chars)) e (scanned_sound chars)

-- the laws
pub each_text : EachTextIsAnswered
each_text chars = go (scanned chars) refl
  where
    go : (r : Result (List Token) LexStop) → scanned chars ≡ r → ((tokens : List Token) × HasTokens chars tokens) ⊎ ((stop : LexStop) × HasFault chars stop)
    go (Ok tokens) e = inl (tokens, tokens_from chars tokens e)
    go (Err stop) e = inr (stop, fault_from chars stop e)

pub unique_tokens : TokensAreUnique
unique_tokens chars tokens others a b = let p = scanned_complete chars tokens a in let q = scanned_complete chars others b in cc

pub unique_fault : FaultIsUnique
unique_fault chars stop other a b = let p = scanned_refused chars stop a in let q = scanned_refused chars other b in cc

pub tokens_or_fault : TokensExcludeFault
tokens_or_fault chars tokens stop a b = let p = scanned_complete chars tokens a in let q = scanned_refused chars stop b in cc

make_up : (tokens before : List Token) (at : ℕ) (chars : List ℕ) → Lexes before at chars tokens → (pieces : List (List ℕ × List ℕ)) × (last : List ℕ) × (chars ≡ laid_out pieces last) × IsLastGap last × LieAt at pieces tokens
make_up [] before at chars l = ([], chars, refl, l, tt)
make_up (t ∷ ts) before at chars l =
    let n = l.1 in
    let r = make_up ts (before ++ t ∷ []) t.end l.0 l.2 in
    ((n.gap, text_of n.lexeme) ∷ r.0, r.1, n.cut ∙ ap (λ x. n.gap ++ (text_of n.lexeme ++ x)) r.2, r.3, (n.skipped, n.start, n.end, r.4))

pub tokens_make_up : TokensMakeUpText
tokens_make_up chars tokens l = make_up tokens [] (body_place chars) (body chars) l

-- the clauses of a call whose answer is the machine's
pub answered_tokens : (chars : List ℕ) (tokens : List Token) → Answers (Ok tokens) (scanned chars) → HasTokens chars tokens
answered_tokens chars tokens e = tokens_from chars tokens e

pub answered_refusal : (chars : List ℕ) (stop : LexStop) → Answers (Err stop) (scanned chars) → IsRefusal chars stop
answered_refusal chars (BadChar at) e = fault_from chars (BadChar at) e
answered_refusal chars (NumberRange at) e = fault_from chars (NumberRange at) e
answered_refusal chars (PowerText at) e = fault_from chars (PowerText at) e
answered_refusal chars NoMemory e = tt

pub IfOk-answer : (chars : List ℕ) (r : Result (List Token) LexStop) → Answers r (scanned chars) → IfOk r (λ tokens. HasTokens chars tokens)
IfOk-answer chars (Ok tokens) e = answered_tokens chars tokens e
IfOk-answer chars (Err stop) e = tt

pub IfErr-answer : (chars : List ℕ) (r : Result (List Token) LexStop) → Answers r (scanned chars) → IfErr r (λ stop. IsRefusal chars stop)
IfErr-answer chars (Ok tokens) e = tt
IfErr-answer chars (Err stop) e = answered_refusal chars stop e

abbrev Other : (chars : List ℕ) (tokens : List Token) → LexStop → Type 0
Other chars tokens stop = HasTokens chars tokens → IsRefusal chars stop → stop ≡ NoMemory

other_stop : (chars : List ℕ) (tokens : List Token) (stop : LexStop) → Other chars tokens stop
other_stop chars tokens (BadChar at) l f = absurd (tokens_or_fault chars tokens (BadChar at) l f)
other_stop chars tokens (NumberRange at) l f = absurd (tokens_or_fault chars tokens (NumberRange at) l f)
other_stop chars tokens (PowerText at) l f = absurd (tokens_or_fault chars tokens (PowerText at) l f)
other_stop chars tokens NoMemory l f = refl

pub MatchResult-answer : (chars : List ℕ) (r : Result (List Token) LexStop) → Answers r (scanned chars) → (tokens : List Token) → HasTokens chars tokens → MatchResult r (λ answer. answer ≡ tokens) (λ stop. stop ≡ NoMemory)
MatchResult-answer chars (Ok answer) e tokens l = unique_tokens chars answer tokens (answered_tokens chars answer e) l
MatchResult-answer chars (Err stop) e tokens l = other_stop chars tokens stop l (answered_refusal chars stop e)

pub fault-answer : (chars : List ℕ) (r : Result (List Token) LexStop) → Answers r (scanned chars) → (stop : LexStop) → HasFault chars stop → (r ≡ Err stop) ⊎ (r ≡ Err NoMemory)
fault-answer chars (Ok answer) e stop f = absurd (tokens_or_fault chars answer stop (answered_tokens chars answer e) f)
fault-answer chars (Err (BadChar at)) e stop f = inl (ap (λ x. Err x) (unique_fault chars (BadChar at) stop (fault_from chars (BadChar at) e) f))
fault-answer chars (Err (NumberRange at)) e stop f = inl (ap (λ x. Err x) (unique_fault chars (NumberRange at) stop (fault_from chars (NumberRange at) e) f))
fault-answer chars (Err (PowerText at)) e stop f = inl (ap (λ x. Err x) (unique_fault chars (PowerText at) stop (fault_from chars (PowerText at) e) f))
fault-answer chars (Err NoMemory) e stop f = inr refl
