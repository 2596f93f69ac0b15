-- The functions that the rules look at are the entries of the code.
use Rattle.std.proofs.Common.{◌≡◌, refl, sym, ap, ◌∙◌, ℕ, zero, suc, ◌<◌, ◌≤◌, Bool, cond, List, [], ◌∷◌, length, map, Option, Some, None, slice_get, arith}
use Rattle.std.specs.Prelude.{nat_lt}
use Rattle.std.proofs.lemmas.List.{length-map}
use Rattle.std.proofs.lemmas.Bool.{le-leb, lt-ltb}
use Rattle.um_machine.specs.declared.code.Entry.{Entry}
use Rattle.um_machine.specs.Machine.{op_at, op_within}
use Rattle.um_verify.specs.StackShape.{on_stack}
use Rattle.um_verify.specs.ImageTree.{HeadTree, ImageTree, Match}
use Rattle.um_verify.specs.Rules.{Body, body_of, bodies_of, view_of}

-- the entry of function f is that of the body
abbrev pub EntryIs : List Entry → ℕ → Body → Type 0
EntryIs es f b = (e : Entry) × (slice_get es f ≡ Some e) × (e.start ≡ b.start) × (e.end ≡ b.end) × (e.params ≡ length b.params)

pub entry_of : (es : List Entry) (hs : List HeadTree) → Match es hs → (f : ℕ) (b : Body) → slice_get (bodies_of es hs) f ≡ Some b → EntryIs es f b
entry_of [] [] m zero b h = absurd cc
entry_of [] [] m (suc f) b h = absurd cc
entry_of (e ∷ es) (x ∷ hs) m zero b h =
    let same : body_of e x ≡ b = cc in
    let params : length (map on_stack x.params) ≡ length x.params = length-map x.params on_stack in
    (e, refl, ap (λ (y : Body). y.start) same, ap (λ (y : Body). y.end) same, m.0 ∙ sym params ∙ ap (λ (y : Body). length y.params) same)
entry_of (e ∷ es) (x ∷ hs) m (suc f) b h = entry_of es hs m.1 f b h
entry_of [] (x ∷ hs) m f b h = absurd m
entry_of (e ∷ es) [] m f b h = absurd m

-- a function of that number, with its head
pub body_at : (es : List Entry) (hs : List HeadTree) → Match es hs → (f : ℕ) (h : HeadTree) → slice_get hs f ≡ Some h → (e : Entry) × (slice_get es f ≡ Some e) × (slice_get (bodies_of es hs) f ≡ Some (body_of e h))
body_at [] [] m zero h s = absurd cc
body_at [] [] m (suc f) h s = absurd cc
body_at (e ∷ es) (x ∷ hs) m zero h s = let same : x ≡ h = cc in (e, refl, ap (λ (y : HeadTree). Some (body_of e y)) same)
body_at (e ∷ es) (x ∷ hs) m (suc f) h s = body_at es hs m.1 f h s
body_at [] (x ∷ hs) m f h s = absurd m
body_at (e ∷ es) [] m f h s = absurd m

-- and the head of a body
pub head_of : (es : List Entry) (hs : List HeadTree) → (f : ℕ) (b : Body) → slice_get (bodies_of es hs) f ≡ Some b → (h : HeadTree) × (e : Entry) × (slice_get hs f ≡ Some h) × (slice_get es f ≡ Some e) × (body_of e h ≡ b)
head_of [] [] zero b s = absurd cc
head_of [] [] (suc f) b s = absurd cc
head_of (e ∷ es) (x ∷ hs) zero b s = (x, e, refl, refl, cc)
head_of (e ∷ es) (x ∷ hs) (suc f) b s = head_of es hs f b s
head_of [] (x ∷ hs) zero b s = absurd cc
head_of [] (x ∷ hs) (suc f) b s = absurd cc
head_of (e ∷ es) [] zero b s = absurd cc
head_of (e ∷ es) [] (suc f) b s = absurd cc

module _ (image : ImageTree) (matched : Match image.code.entries image.heads) where
  -- each address of a function exists for it
  pub op_in_body : (f : ℕ) (b : Body) (a : ℕ) → slice_get (view_of image).bodies f ≡ Some b → b.start ≤ a → a < b.end → op_at image.code f a ≡ slice_get image.code.ops a
  unfolding op_at
  op_in_body f b a s lo hi =
      let e = entry_of image.code.entries image.heads matched f b s in
      let starts = e.2 in
      let ends = e.3 in
      let from : e.0.start ≤ a = omega arith in
      let till : a < e.0.end = omega arith in
      ap (λ (o : Option Entry). op_within image.code.ops o a) e.1
      ∙ ap (λ (t : Bool). cond t (cond (nat_lt a e.0.end) (slice_get image.code.ops a) None) None) (le-leb e.0.start a from)
      ∙ ap (λ (t : Bool). cond t (slice_get image.code.ops a) None) (lt-ltb a e.0.end till)
