-- Elements that are added one after another, each made of one of a list.
use Rattle.std.proofs.Common.{◌≡◌, refl, sym, subst, ap, ◌∙◌, ℕ, zero, suc, ◌+◌, ◌<◌, ◌≤◌, List, [], ◌∷◌, ◌++◌, map, drop, length, get_or, Some, slice_get, arith, append_assoc}
use Rattle.std.proofs.lemmas.List.{append-nil, drop_more, drop_all, length-append}
use Rattle.um_tree.specs.declared.program.Function.{Function}
use Rattle.um_tree.specs.declared.program.Program.{Program}
use Rattle.um_tree.specs.TypeTree.{ShapeTree, note_tree}
use Rattle.um_tree.specs.ProgramTree.{ProgramTree, function_tree, program_tree}
use Rattle.um_tree.specs.Shapes.{note_shape, FunctionShape}
use Rattle.um_shape.specs.ShapedProgram.{IsResultShape}
use Rattle.um_machine.specs.declared.code.Code.{Code}
use Rattle.um_verify.specs.ImageTree.{HeadTree, ImageTree}
use Rattle.um_image.specs.ProgramImage.{plain_record, IsHeadOf, IsImageOf}
use Rattle.um_image.specs.HeadsMade.{AreHeadsOf}

module _ {A B C : Type 0} (make : B → C) (tree : A → B) (xs : List A) where
  -- those of the first k elements are added
  abbrev pub MadeLeft : ℕ → List C → List C → Type 0
  MadeLeft k before out = out ++ map make (map tree (drop k xs)) ≡ before ++ map make (map tree xs)

  pub made_next : (k : ℕ) (x : A) (y : C) (before out more : List C) → k < length xs → x ≡ get_or xs k x → y ≡ make (tree x) → MadeLeft k before out → more ≡ out ++ y ∷ [] → MadeLeft (k + 1) before more
  made_next k x y before out more h s m left added =
      let rest = map make (map tree (drop (k + 1) xs)) in
      let next : map make (map tree (drop k xs)) ≡ make (tree x) ∷ rest = ap (λ (ys : List A). map make (map tree ys)) (drop_more xs k x h) ∙ ap (λ (z : A). make (tree z) ∷ rest) (sym s) in
      ap (λ (t : List C). t ++ rest) added ∙ append_assoc out (y ∷ []) rest ∙ ap (λ (z : C). out ++ z ∷ rest) m ∙ ap (λ (r : List C). out ++ r) (sym next) ∙ left

  pub made_last : (k : ℕ) (before out : List C) → length xs ≤ k → MadeLeft k before out → out ≡ before ++ map make (map tree xs)
  made_last k before out h left =
      sym (append-nil out) ∙ ap (λ (ys : List A). out ++ map make (map tree ys)) (sym (drop_all k xs h)) ∙ left

-- ---- heads

last_or_before : (hs : List HeadTree) (h : HeadTree) (i : ℕ) (x : HeadTree) (P : ℕ → HeadTree → Type 0) → ((j : ℕ) (y : HeadTree) → slice_get hs j ≡ Some y → P j y) → P (length hs) h → slice_get (hs ++ h ∷ []) i ≡ Some x → P i x
last_or_before [] h zero x P all last e = let same : h ≡ x = cc in subst (P 0) same last
last_or_before [] h (suc i) x P all last e = absurd cc
last_or_before (y ∷ hs) h zero x P all last e = all zero x e
last_or_before (y ∷ hs) h (suc i) x P all last e = last_or_before hs h i x (λ (j : ℕ). P (suc j)) (λ j z. all (suc j) z) last e

pub no_heads : (p : ProgramTree) (heads : List HeadTree) → length heads ≡ 0 → AreHeadsOf p 0 heads
no_heads p [] e = record { count = refl; heads_of = λ i h q. absurd (none i h q) } where
  none : (i : ℕ) (h : HeadTree) → slice_get [] i ≡ Some h → ⊥
  none zero h q = cc
  none (suc i) h q = cc
no_heads p (h ∷ hs) e = absurd cc

pub one_more_head : (p : ProgramTree) (n : ℕ) (heads : List HeadTree) (h : HeadTree) → AreHeadsOf p n heads → IsHeadOf p n h → AreHeadsOf p (n + 1) (heads ++ h ∷ [])
one_more_head p n heads h a is = record {
  count = length-append heads (h ∷ []) ∙ ap (λ (k : ℕ). k + 1) a.count;
  heads_of = λ i x e. last_or_before heads h i x (λ (j : ℕ) (y : HeadTree). IsHeadOf p j y) a.heads_of (subst (λ (k : ℕ). IsHeadOf p k h) (sym a.count) is) e;
}

listed_at : (fs : List Function) (k : ℕ) (g : Function) → k < length fs → g ≡ get_or fs k g → slice_get (map function_tree fs) k ≡ Some (function_tree g)
listed_at [] k g l e = absurd (omega (arith, l))
listed_at (f ∷ fs) zero g l e = ap (λ (h : Function). Some (function_tree h)) (sym e)
listed_at (f ∷ fs) (suc k) g l e = listed_at fs k g (omega (arith, l)) e

-- the head of a function, by its name, the shapes of its parameters' notes, and that of its result
pub head_is : (p : Program) (xs : List Function) (k : ℕ) (g : Function) (h : HeadTree) → xs ≡ p.functions.items.items → k < length xs → g ≡ get_or xs k g → h.name ≡ g.name → h.params ≡ map note_shape (map note_tree g.params.items.items) → IsResultShape (program_tree p) k h.result → IsHeadOf (program_tree p) k h
head_is p xs k g h same l there name params result =
    let listed : slice_get (program_tree p).functions k ≡ Some (function_tree g) = subst (λ (fs : List Function). slice_get (map function_tree fs) k ≡ Some (function_tree g)) same (listed_at xs k g l there) in
    record {
      function = function_tree g;
      listed = listed;
      name = name;
      shapes = subst (λ (ss : List ShapeTree). FunctionShape (program_tree p) k (record { params = ss; result = h.result })) (sym params) (result (function_tree g) listed);
    }

pub image_made : (p : ProgramTree) (code : Code) (image : ImageTree) → image.records ≡ map plain_record p.records → image.code ≡ code → AreHeadsOf p (length p.functions) image.heads → IsImageOf p code image
image_made p code image r c h = record { records = r; code_is = c; count = h.count; heads = h.heads_of }
