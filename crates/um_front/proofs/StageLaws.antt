-- What a command says of a text: it is one, it has the status of no fault, and it is what is said of the stage's value.
use Rattle.std.proofs.Common.{◌≡◌, ℕ, List, IsTrue, false, inl, inr, sym, subst, ◌∙◌}
use Rattle.um_parse.specs.Laws.{AnswersAreUnique}
use Rattle.um_tree.specs.RawTree.{DeclSyntax}
use Rattle.um_reports.specs.declared.status.Status.{Status}
use Rattle.um_reports.proofs.ReportStatuses.{is_answered}
use Rattle.um_front.specs.Stages.{IsReadText, ShapedTree, IsShapedText, CheckedTree, IsCheckedText}
use Rattle.um_front.specs.Staged.{OfRead, OfShaped, OfChecked}
use Rattle.um_front.proofs.Excluded.{one_read, one_shaped, one_checked, read_is_not_refused, shaped_is_not_refused, checked_is_not_refused}
use Rattle.um_front.proofs.RefusedOnce.{unread_once, unshaped_once, unchecked_once}
use Rattle.um_front.proofs.RefusalStatuses.{is_refusal, unread_answered, unshaped_answered, unchecked_answered, unchecked_refusal}

-- ---- of the program as it is written
module _ (Says : List DeclSyntax → List ℕ → Status → Type 0) (bytes text : List ℕ) (status : Status) where
  pub read_given : (raw : List DeclSyntax) → IsReadText bytes raw → OfRead Says bytes text status → Says raw text status
  read_given raw is (inl (other, also, says)) = subst (λ (ds : List DeclSyntax). Says ds text status) (one_read bytes other raw also is) says
  read_given raw is (inr refused) = absurd (read_is_not_refused bytes text status raw is refused)

  pub read_answered : ((raw : List DeclSyntax) → Says raw text status → IsTrue (is_answered status)) → OfRead Says bytes text status → IsTrue (is_answered status)
  read_answered answered (inl (raw, is, says)) = answered raw says
  read_answered answered (inr refused) = unread_answered bytes text status refused

  pub read_once : (other : List ℕ) (another : Status) → AnswersAreUnique → ((raw : List DeclSyntax) → Says raw text status → Says raw other another → (text ≡ other) × (status ≡ another))
      → OfRead Says bytes text status → OfRead Says bytes other another → (text ≡ other) × (status ≡ another)
  read_once other another one once (inl (raw, is, a)) (inl (ds, also, b)) = once ds (subst (λ (es : List DeclSyntax). Says es text status) (one_read bytes raw ds is also) a) b
  read_once other another one once (inl (raw, is, a)) (inr b) = absurd (read_is_not_refused bytes other another raw is b)
  read_once other another one once (inr a) (inl (raw, is, b)) = absurd (read_is_not_refused bytes text status raw is a)
  read_once other another one once (inr a) (inr b) = unread_once text other status another one bytes a b

-- ---- of the program with its shapes
module _ (Says : ShapedTree → List ℕ → Status → Type 0) (bytes text : List ℕ) (status : Status) where
  pub shaped_given : (s : ShapedTree) → IsShapedText bytes s → OfShaped Says bytes text status → Says s text status
  shaped_given s is (inl (other, also, says)) = subst (λ (x : ShapedTree). Says x text status) (one_shaped bytes other s also is) says
  shaped_given s is (inr refused) = absurd (shaped_is_not_refused bytes text status s is refused)

  pub shaped_answered : ((s : ShapedTree) → Says s text status → IsTrue (is_answered status)) → OfShaped Says bytes text status → IsTrue (is_answered status)
  shaped_answered answered (inl (s, is, says)) = answered s says
  shaped_answered answered (inr refused) = unshaped_answered bytes text status refused

  pub shaped_once : (other : List ℕ) (another : Status) → AnswersAreUnique → ((s : ShapedTree) → Says s text status → Says s other another → (text ≡ other) × (status ≡ another))
      → OfShaped Says bytes text status → OfShaped Says bytes other another → (text ≡ other) × (status ≡ another)
  shaped_once other another one once (inl (s, is, a)) (inl (t, also, b)) = once t (subst (λ (x : ShapedTree). Says x text status) (one_shaped bytes s t is also) a) b
  shaped_once other another one once (inl (s, is, a)) (inr b) = absurd (shaped_is_not_refused bytes other another s is b)
  shaped_once other another one once (inr a) (inl (s, is, b)) = absurd (shaped_is_not_refused bytes text status s is a)
  shaped_once other another one once (inr a) (inr b) = unshaped_once text other status another one bytes a b

-- ---- of the program with the schemes of its functions
module _ (Says : CheckedTree → List ℕ → Status → Type 0) (bytes text : List ℕ) (status : Status) where
  pub checked_given : (c : CheckedTree) → IsCheckedText bytes c → OfChecked Says bytes text status → Says c text status
  checked_given c is (inl (other, also, says)) = subst (λ (x : CheckedTree). Says x text status) (one_checked bytes other c also is) says
  checked_given c is (inr refused) = absurd (checked_is_not_refused bytes text status c is refused)

  pub checked_answered : ((c : CheckedTree) → Says c text status → IsTrue (is_answered status)) → OfChecked Says bytes text status → IsTrue (is_answered status)
  checked_answered answered (inl (c, is, says)) = answered c says
  checked_answered answered (inr refused) = unchecked_answered bytes text status refused

  pub checked_once : (other : List ℕ) (another : Status) → AnswersAreUnique → ((c : CheckedTree) → IsCheckedText bytes c → Says c text status → Says c other another → (text ≡ other) × (status ≡ another))
      → OfChecked Says bytes text status → OfChecked Says bytes other another → (text ≡ other) × (status ≡ another)
  checked_once other another one once (inl (c, is, a)) (inl (d, also, b)) = once d also (subst (λ (x : CheckedTree). Says x text status) (one_checked bytes c d is also) a) b
  checked_once other another one once (inl (c, is, a)) (inr b) = absurd (checked_is_not_refused bytes other another c is b)
  checked_once other another one once (inr a) (inl (c, is, b)) = absurd (checked_is_not_refused bytes text status c is a)
  checked_once other another one once (inr a) (inr b) = unchecked_once text other status another one bytes a b

  -- a status that no refusal has is that of what is said of the program
  pub checked_reached : is_refusal status ≡ false → OfChecked Says bytes text status → (c : CheckedTree) × IsCheckedText bytes c × Says c text status
  checked_reached late (inl says) = says
  checked_reached late (inr refused) = absurd (let is = unchecked_refusal bytes text status refused in cc (sym late ∙ is))
