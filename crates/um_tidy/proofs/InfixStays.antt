-- The tokens of a sign between two operands, in a text laid out anew, are those of the same sign.
use Rattle.std.proofs.Common.{◌≡◌, refl, ap, ◌∙◌, ℕ, Bool, true, false, List}
use Rattle.um_syntax.specs.declared.token.Token.{Token}
use Rattle.um_syntax.specs.declared.token.Kind.TheVariants as kind
use Rattle.um_vocabulary.specs.declared.vocabulary.Symbol.TheVariants as symbol
use Rattle.um_tree.specs.declared.expression.Arith.{Arith}
use Rattle.um_tree.specs.declared.expression.Arith.TheVariants as arith_of
use Rattle.um_tree.specs.declared.expression.Sign.{Sign}
use Rattle.um_tree.specs.declared.expression.Sign.TheVariants as compare
use Rattle.um_operands.specs.declared.infix.Infix.{Infix}
use Rattle.um_operands.specs.declared.infix.Infix.TheVariants as infix_of
use Rattle.um_forms.specs.declared.token.ExprToken.TheVariants.{Operator as operator}
use Rattle.um_forms.specs.ExprTokens.{expr_token}
use Rattle.um_expr.specs.ExprGrammar.{FirstAt, AfterNumber, InfixAt}
use Rattle.um_expr.proofs.ExprTokenKinds.{greater_is, equal_is}
use Rattle.um_tidy.proofs.Leaves.{Leaves}
use Rattle.um_tidy.specs.declared.stand.Next.{Next}
use Rattle.um_tidy.specs.declared.stand.Next.TheVariants as next_of
use Rattle.um_tidy.specs.declared.stand.Within.TheVariants as within_of
use Rattle.um_tidy.specs.declared.stand.Stand.{Stand}
use Rattle.um_tidy.specs.Stands.{apart, before, has_ended, opens_units, less_stand, minus_stand, kind_stand}
use Rattle.um_tidy.proofs.StandAgain.{is_number_next, is_less}
use Rattle.um_tidy.proofs.SpacedPieces.{never, is_naming, is_operand, operand_ended}
use Rattle.um_tidy.proofs.ExprsSpaced.{minus_is}
use Rattle.um_tidy.proofs.ExprsSpaced.{greater_is as greater_stands, equal_is as equal_stands}
use Rattle.um_tidy.proofs.TokenKinds.{infix_symbol, operator_is}
use Rattle.um_tidy.proofs.Alike.{Alike, is_equal, step}
use Rattle.um_tidy.proofs.AfterNumbers.{alike_length, less_stays}
use Rattle.um_tidy.proofs.UnitsStay.{next_either, within_either}

abbrev pub Here : List Token → Next → List Token → Type 0
Here tokens n others = Alike tokens n within_of.Plain others

pub record InfixStays (op : Infix) (new rest others : List Token) : Type 0 where
  pub at : ℕ
  pub left : List Token
  pub next : Next
  pub names : is_naming next ≡ false
  pub spelled : InfixAt op new at others left
  pub later : Here rest next left

record AtStays (op : Infix) (m : Next) (rest others : List Token) : Type 0 where
  pub at : ℕ
  pub left : List Token
  pub spelled : FirstAt (operator op) at others left
  pub later : Here rest m left

at_stays : (op : Infix) (at : ℕ) (tokens rest : List Token) → FirstAt (operator op) at tokens rest → (n m : Next) (others : List Token)
    → ((g : Bool) → (kind_stand n within_of.Plain g (kind.Sign (infix_symbol op))).next ≡ m) → ((g : Bool) → (kind_stand n within_of.Plain g (kind.Sign (infix_symbol op))).within ≡ within_of.Plain) → Here tokens n others → AtStays op m rest others
at_stays op at tokens rest s n m others next within a =
    let o = step s.0 tokens rest (kind.Sign (infix_symbol op)) n m within_of.Plain within_of.Plain others (operator_is s.0.kind op s.1) (next s.0.glued) (within s.0.glued) s.3 a in
    record { at = o.token.start; left = o.left; spelled = (o.token, ap expr_token o.same ∙ s.1, refl, o.first); later = o.later }

pub arith_stays : (op : Arith) (old new : List Token) (at : ℕ) (tokens rest : List Token) → InfixAt (infix_of.Arith op) old at tokens rest → (n : Next) → is_operand n ≡ true → (others : List Token) → Here tokens n others → InfixStays (infix_of.Arith op) new rest others
arith_stays arith_of.Add old new at tokens rest s n e others a =
    let o = at_stays (infix_of.Arith arith_of.Add) at tokens rest s n next_of.Operand others (λ g. refl) (λ g. refl) a in
    record { at = o.at; left = o.left; next = next_of.Operand; names = refl; spelled = o.spelled; later = o.later }
arith_stays arith_of.Sub old new at tokens rest s n e others a =
    let m = minus_is n true (operand_ended n e) in
    let o = at_stays (infix_of.Arith arith_of.Sub) at tokens rest s n next_of.Operand others (λ g. ap (λ (z : Stand). z.next) m) (λ g. ap (λ (z : Stand). z.within) m) a in
    record { at = o.at; left = o.left; next = next_of.Operand; names = refl; spelled = o.spelled; later = o.later }
arith_stays arith_of.Mul old new at tokens rest s n e others a =
    let o = at_stays (infix_of.Arith arith_of.Mul) at tokens rest s n next_of.Operand others (λ g. refl) (λ g. refl) a in
    record { at = o.at; left = o.left; next = next_of.Operand; names = refl; spelled = o.spelled; later = o.later }
arith_stays arith_of.Div old new at tokens rest s n e others a =
    let o = at_stays (infix_of.Arith arith_of.Div) at tokens rest s n next_of.Operand others (λ g. refl) (λ g. refl) a in
    record { at = o.at; left = o.left; next = next_of.Operand; names = refl; spelled = o.spelled; later = o.later }

less_opens : (n : Next) (g : Bool) → is_operand n ≡ true → (is_number_next n ≡ true → g ≡ false) → opens_units n g ≡ false
less_opens next_of.Head g e number = never e
less_opens next_of.Number g e number = number refl
less_opens _ g e number = refl

-- what is known of the operand before a sign, in both texts
pub record Before (tokens mid others left : List Token) (n : Next) : Type 0 where
  pub number : is_number_next n ≡ true → AfterNumber tokens mid
  pub old : Leaves tokens mid
  pub new : Leaves others left
  pub entry : Next
  pub begun : Here tokens entry others

pub compare_stays : (sg : Sign) (old new : List Token) (at : ℕ) (tokens rest : List Token) → InfixAt (infix_of.Compare sg) old at tokens rest → (n : Next) → is_operand n ≡ true → (others : List Token) → Before old tokens new others n → Here tokens n others → InfixStays (infix_of.Compare sg) new rest others
compare_stays compare.Lt old new at tokens rest s n e others b a =
    let t = s.0 in
    let is = operator_is t.kind (infix_of.Compare compare.Lt) s.1 in
    let free = less_opens n t.glued e (λ h. s.3 (b.number h)) in
    let o = step t tokens rest (kind.Sign symbol.Less) n next_of.Operand within_of.Plain within_of.Plain others is (ap (λ c. (less_stand c within_of.Plain).next) free) (ap (λ c. (less_stand c within_of.Plain).within) free) s.4 a in
    let apart = less_stays old b.old.0 tokens rest new b.new.0 others o.left b.entry within_of.Plain t o.token b.old.1 s.4 b.begun b.new.1 (alike_length tokens n within_of.Plain others a) o.first (ap is_less is) s.3 in
    record { at = o.token.start; left = o.left; next = next_of.Operand; names = refl; spelled = (o.token, ap expr_token o.same ∙ s.1, refl, apart, o.first); later = o.later }
compare_stays compare.Le old new at tokens rest s n e others b a =
    let o = at_stays (infix_of.Compare compare.Le) at tokens rest s n next_of.Operand others (λ g. refl) (λ g. refl) a in
    record { at = o.at; left = o.left; next = next_of.Operand; names = refl; spelled = o.spelled; later = o.later }
compare_stays compare.Eq old new at tokens rest s n e others b a =
    let m = equal_stands n e in
    let o = at_stays (infix_of.Compare compare.Eq) at tokens rest s n next_of.Operand others (λ g. ap (λ (z : Stand). z.next) m) (λ g. ap (λ (z : Stand). z.within) m) a in
    record { at = o.at; left = o.left; next = next_of.Operand; names = refl; spelled = o.spelled; later = o.later }
compare_stays compare.Ne old new at tokens rest s n e others b a =
    let o = at_stays (infix_of.Compare compare.Ne) at tokens rest s n next_of.Operand others (λ g. refl) (λ g. refl) a in
    record { at = o.at; left = o.left; next = next_of.Operand; names = refl; spelled = o.spelled; later = o.later }
compare_stays compare.Gt old new at tokens rest s n e others b a =
    let m = greater_stands n e in
    let o = at_stays (infix_of.Compare compare.Gt) at tokens rest s n next_of.Greater others (λ g. ap (λ (z : Stand). z.next) m) (λ g. ap (λ (z : Stand). z.within) m) a in
    record { at = o.at; left = o.left; next = next_of.Greater; names = refl; spelled = o.spelled; later = o.later }
compare_stays compare.Ge old new at tokens rest s n e others b a =
    let m = greater_stands n e in
    let o = step s.1.0 tokens s.0 (kind.Sign symbol.Greater) n next_of.Greater within_of.Plain within_of.Plain others (greater_is s.1.0.kind s.1.1) (ap (λ (z : Stand). z.next) m) (ap (λ (z : Stand). z.within) m) s.1.3 a in
    let is = equal_is s.2.0.kind s.2.1 in
    let p = step s.2.0 s.0 rest (kind.Sign symbol.Equal) next_of.Greater next_of.Operand within_of.Plain within_of.Plain o.left is refl refl s.2.3 o.later in
    record {
      at = o.token.start;
      left = p.left;
      next = next_of.Operand;
      names = refl;
      spelled = (o.left, (o.token, ap expr_token o.same ∙ s.1.1, refl, o.first), (p.token, ap expr_token p.same ∙ s.2.1, p.greater refl (ap is_equal is) s.2.2, p.first));
      later = p.later;
    }

pub and_stays : (new : List Token) (at : ℕ) (tokens rest : List Token) → InfixAt infix_of.And new at tokens rest → (n : Next) (others : List Token) → Here tokens n others → InfixStays infix_of.And new rest others
and_stays new at tokens rest s n others a =
    let o = at_stays infix_of.And at tokens rest s n next_of.Operand others (λ g. refl) (λ g. refl) a in
    record { at = o.at; left = o.left; next = next_of.Operand; names = refl; spelled = o.spelled; later = o.later }

pub or_stays : (new : List Token) (at : ℕ) (tokens rest : List Token) → InfixAt infix_of.Or new at tokens rest → (n : Next) (others : List Token) → Here tokens n others → InfixStays infix_of.Or new rest others
or_stays new at tokens rest s n others a =
    let o = at_stays infix_of.Or at tokens rest s n next_of.Operand others (λ g. refl) (λ g. refl) a in
    record { at = o.at; left = o.left; next = next_of.Operand; names = refl; spelled = o.spelled; later = o.later }

pub cons_stays : (new : List Token) (at : ℕ) (tokens rest : List Token) → InfixAt infix_of.Cons new at tokens rest → (n : Next) (others : List Token) → Here tokens n others → InfixStays infix_of.Cons new rest others
cons_stays new at tokens rest s n others a =
    let o = at_stays infix_of.Cons at tokens rest s n next_of.Operand others (λ g. refl) (λ g. refl) a in
    record { at = o.at; left = o.left; next = next_of.Operand; names = refl; spelled = o.spelled; later = o.later }

pub minus_next : (n : Next) → (minus_stand n within_of.Plain).next ≡ next_of.Operand
minus_next n = next_either (has_ended n) (apart next_of.Operand within_of.Plain) (before next_of.Operand within_of.Plain) next_of.Operand refl refl

pub minus_within : (n : Next) → (minus_stand n within_of.Plain).within ≡ within_of.Plain
minus_within n = within_either (has_ended n) (apart next_of.Operand within_of.Plain) (before next_of.Operand within_of.Plain) within_of.Plain refl refl
