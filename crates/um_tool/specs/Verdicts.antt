-- What is answered to a function and a signature: from what is known of them to the verdict.
-- Source: Kennedy (1996): a scheme is at least as general as a signature if it has all its instances.
use Rattle.std.specs.Prelude.{ℕ, ◌≡◌, ◌⊎◌, List, ◌++◌, length, chars, codes, Some, Ok, Err, slice_get}
use Rattle.um_tree.specs.TypeTree.{TypeTree, type_trees}
use Rattle.um_tree.specs.ProgramTree.{SchemeTree}
use Rattle.um_measures.specs.Known.{number_of, function_names}
use Rattle.um_sig.specs.declared.signature.Signature.{Signature}
use Rattle.um_sig.specs.declared.stop.SigStop.TheVariants.{Range}
use Rattle.um_sig.specs.Form.{IsFirstDifference}
use Rattle.um_sig.specs.Instances.{scheme_types, AreAllTypings, IsFirstUnmatched}
use Rattle.um_sig.specs.Answers.{IsConformed}
use Rattle.um_sig.specs.Reading.{IsRead}
use Rattle.um_orders.specs.declared.order.Order.TheVariants.{Conform}
use Rattle.um_orders.specs.Orders.{order_of}
use Rattle.um_reports.specs.declared.status.Status.{Status}
use Rattle.um_reports.specs.declared.status.Status.TheVariants.{Done, PowerRange, NotConform}
use Rattle.um_reports.specs.CallRefusals.{difference_line}
use Rattle.um_reports.specs.Steps.{line}
use Rattle.um_front.specs.Stages.{CheckedTree, IsCheckedText}
use Rattle.um_tool.specs.Asked.{held_name, signature_text}
use Rattle.um_tool.specs.Answer.{Answer}

-- the words name a function of the program that the bytes spell, which has this scheme, and a signature
pub record HasSignature (words : List (List ℕ)) (bytes : List ℕ) : Type 0 where
  pub checked : CheckedTree
  pub spelled : IsCheckedText bytes checked
  pub number : ℕ
  pub named : number_of (function_names checked.text.program.functions) (held_name words) ≡ Some number
  pub scheme : SchemeTree
  pub given : slice_get checked.schemes number ≡ Some scheme
  pub signature : Signature
  pub read :
      IsRead checked.text.program checked.text.abbreviations (chars (signature_text words))
      (length (signature_text words)) (Ok signature)

module _ (words : List (List ℕ)) (bytes : List ℕ) (h : HasSignature words bytes) (text : List ℕ) (status : Status) where
  abbrev pub bases_of : ℕ
  bases_of = length h.checked.text.program.bases

  abbrev pub types_of : List TypeTree
  types_of = type_trees h.signature.types

  -- each instance of the signature is a typing of the function
  abbrev pub Conforms : Type 0
  Conforms =
      (status ≡ Done) × AreAllTypings h.checked.text.program h.number types_of
      × (text ≡ line (held_name words ++ codes " conforms"))

  -- not each is: the types have two forms at the index, or units match the types before it, but not those through it
  abbrev pub DiffersAt : ℕ → Type 0
  DiffersAt i =
      (IsFirstDifference (scheme_types h.scheme) types_of i
      × (text ≡ difference_line (codes "form") (held_name words) i))
      ⊎ (IsFirstUnmatched bases_of (scheme_types h.scheme) types_of i
      × (text ≡ difference_line (codes "units") (held_name words) i))

  abbrev pub Differs : Type 0
  Differs =
      (status ≡ NotConform) × (AreAllTypings h.checked.text.program h.number types_of → ⊥)
      × ((i : ℕ) × DiffersAt i)

  -- a power passes the range while the units are matched
  abbrev pub MeetsRange : Type 0
  MeetsRange = (i : ℕ) × IsConformed bases_of h.scheme types_of (Err (Range i))

  abbrev pub PassesRange : Type 0
  PassesRange = (status ≡ PowerRange) × (text ≡ line (codes "error 10: power range of the signature")) × MeetsRange

-- Such words have a verdict, unless a power passes the range: then, and only then, they are refused for it.
abbrev pub SignaturesHaveVerdicts : Type 0
SignaturesHaveVerdicts =
    (words : List (List ℕ)) (bytes : List ℕ) (h : HasSignature words bytes) → order_of words ≡ Some Conform →
    (text : List ℕ) (status : Status) → Answer words bytes text status →
    ((MeetsRange words bytes h text status → ⊥)
    × (Conforms words bytes h text status ⊎ Differs words bytes h text status))
    ⊎ PassesRange words bytes h text status
