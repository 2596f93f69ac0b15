-- What is asked of a text, and of the words, so that an answer about its program is done.
-- Source: this project's own.
use Rattle.std.specs.Prelude.{ℕ, ℤ, ◌≡◌, List, length, chars, slice_get, None, Some, Ok, Err}
use Rattle.um_frac.specs.declared.number.Frac.{Frac}
use Rattle.um_tree.specs.TypeTree.{type_trees}
use Rattle.um_tree.specs.Typing.{Typing}
use Rattle.um_tree.specs.ProgramTree.{FunctionTree, ProgramTree, SchemeTree, Signature}
use Rattle.um_measures.specs.Known.{number_of, function_names}
use Rattle.um_rows.specs.NodeTypes.{TypedNode}
use Rattle.um_infer.specs.Inference.{infer}
use Rattle.um_infer.specs.Laws.{IsLimited}
use Rattle.um_annot.specs.Annotated.{annotated, annotation}
use Rattle.um_proof.specs.Proving.{PassesInFunction}
use Rattle.um_scale.specs.RescaledLiterals.{misfit_in}
use Rattle.um_sizes.specs.BaseSizes.{AreScalesRead}
use Rattle.um_sig.specs.declared.signature.Signature.{Signature as ReadSignature}
use Rattle.um_sig.specs.declared.stop.SigStop.TheVariants.{Range}
use Rattle.um_sig.specs.Reading.{IsRead}
use Rattle.um_sig.specs.Answers.{IsConformed}
use Rattle.um_sig.specs.Instances.{AreAllTypings}
use Rattle.um_front.specs.Stages.{ShapedTree, IsShapedText, CheckedTree}

abbrev pub EachIsTyped : ProgramTree → Type 0
EachIsTyped p = (i : ℕ) (f : FunctionTree) → slice_get p.functions i ≡ Some f → (g : Signature) × Typing p i g

-- the text has its shapes, each function has a typing, and no limit of slots or powers is passed
pub record IsTypedText (bytes : List ℕ) : Type 0 where
  pub text : ShapedTree
  pub shaped : IsShapedText bytes text
  pub typed : EachIsTyped text.program
  pub unlimited : IsLimited (infer text.program) → ⊥

-- the text has its shapes, no limit of slots or powers is passed, and no number is too large for a certificate
pub record IsProvableText (bytes : List ℕ) : Type 0 where
  pub text : ShapedTree
  pub shaped : IsShapedText bytes text
  pub unlimited : IsLimited (infer text.program) → ⊥
  pub held : (i : ℕ) (number : ℤ) → PassesInFunction text.program i number → ⊥

-- no node of a function's body has a type out of range
abbrev pub HasNodeTypes : CheckedTree → Type 0
HasNodeTypes c =
    let p = c.text.program in
    (i : ℕ) (f : FunctionTree) → slice_get p.functions i ≡ Some f →
    (nodes : List TypedNode) × (annotation (length p.bases) p.records c.schemes i f ≡ annotated nodes)

-- the function is there, the signature is read, each of its instances is a typing of the function, and no power passes
-- the range while they are matched
pub record HasTypings (name word : List ℕ) (c : CheckedTree) : Type 0 where
  pub number : ℕ
  pub named : number_of (function_names c.text.program.functions) name ≡ Some number
  pub signature : ReadSignature
  pub read : IsRead c.text.program c.text.abbreviations (chars word) (length word) (Ok signature)
  pub typings : AreAllTypings c.text.program number (type_trees signature.types)
  pub in_range :
      (s : SchemeTree) (i : ℕ) → slice_get c.schemes number ≡ Some s →
      IsConformed (length c.text.program.bases) s (type_trees signature.types) (Err (Range i)) → ⊥

-- the word states sizes of base units of the program, and each literal has a rescaled number in range
pub record HasSizes (word : List ℕ) (p : ProgramTree) : Type 0 where
  pub scales : List Frac
  pub read : AreScalesRead p.bases word (Ok scales)
  pub literals : misfit_in scales p.functions ≡ None
