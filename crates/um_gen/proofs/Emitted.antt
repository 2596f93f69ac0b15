-- What is written for a node is its code.
use Rattle.std.proofs.Common.{◌≡◌, sym, ap, ◌∙◌, ℕ, ◌+◌, ◌<◌, true, false, List, [], ◌∷◌, ◌++◌, length, arith, append_assoc, length-append}
use Rattle.std.specs.Prelude.{slice_set}
use Rattle.std.proofs.Math.Seq.{set-append_seam}
use Rattle.um_tree.specs.ExprTree.{ExprTree, both, either, if, bind, split}
use Rattle.um_machine.specs.declared.op.Op.{Op}
use Rattle.um_machine.specs.declared.op.Op.TheVariants.{PushBool, Jump, JumpIfNot, Split, Slide}
use Rattle.um_gen.specs.ProgramCode.{expr_size, expr_code}
use Rattle.um_gen.proofs.Stands.{length_code}

-- how many instructions there are behind an expression
pub behind : (o n : List Op) (x : ExprTree) (ps : List ℕ) (d a : ℕ) → n ≡ o ++ expr_code x ps d a → length n ≡ length o + expr_size x
behind o n x ps d a h = ap length h ∙ length-append o (expr_code x ps d a) ∙ ap (λ m. length o + m) (length_code x ps d a)

pub one_more : (o n : List Op) (i : Op) → n ≡ o ++ i ∷ [] → length n ≡ length o + 1
one_more o n i h = ap length h ∙ length-append o (i ∷ [])

-- the parts of a pair, one behind the other
pub pair_emitted : (x y : ExprTree) (ps p1 : List ℕ) (d : ℕ) (o n1 n2 m tail : List Op) → n1 ≡ o ++ expr_code x ps d (length o) → p1 ≡ ps → n2 ≡ n1 ++ expr_code y p1 (d + 1) (length n1) → m ≡ n2 ++ tail → m ≡ o ++ (expr_code x ps d (length o) ++ (expr_code y ps (d + 1) (length o + expr_size x) ++ tail))
pair_emitted x y ps p1 d o n1 n2 m tail h1 q h2 h3 =
    let a = length o in
    let l = behind o n1 x ps d a h1 in
    let xc = expr_code x ps d a in
    let yc = expr_code y ps (d + 1) (a + expr_size x) in
    h3 ∙ ap (λ n. n ++ tail) (h2 ∙ (λ i. h1 i ++ expr_code y (q i) (d + 1) (l i)))
    ∙ append_assoc (o ++ xc) yc tail ∙ append_assoc o xc (yc ++ tail)

-- two instructions that are written into the room that was left for them
pub patched : (o0 o1 o2 o3 o4 o5 c x y : List Op) (t1 t2 : ℕ) (p q i j : Op) → o1 ≡ o0 ++ c → o2 ≡ o1 ++ p ∷ [] → o3 ≡ o2 ++ x → o4 ≡ o3 ++ q ∷ [] → o5 ≡ o4 ++ y → t1 ≡ length o1 → t2 ≡ length o3 → slice_set (slice_set o5 t1 i) t2 j ≡ o0 ++ (c ++ i ∷ (x ++ j ∷ y))
patched o0 o1 o2 o3 o4 o5 c x y t1 t2 p q i j h1 h2 h3 h4 h5 m1 m2 =
    let b1 = o0 ++ c in
    let all : o5 ≡ (((b1 ++ p ∷ []) ++ x) ++ q ∷ []) ++ y = cc in
    let flat : (((b1 ++ p ∷ []) ++ x) ++ q ∷ []) ++ y ≡ b1 ++ p ∷ (x ++ q ∷ y) = simp append_assoc in
    let k1 : t1 ≡ length b1 = m1 ∙ ap length h1 in
    let l2 : length o2 ≡ length b1 + 1 = one_more o1 o2 p h2 ∙ ap (λ n. length n + 1) h1 in
    let l3 : length o3 ≡ length o2 + length x = ap length h3 ∙ length-append o2 x in
    let k2 : t2 ≡ length (b1 ++ i ∷ x) = omega (arith, length-append b1 (i ∷ x), l2, l3, m2) in
    ap (λ l. slice_set (slice_set l t1 i) t2 j) (all ∙ flat)
    ∙ ap (λ n. slice_set (slice_set (b1 ++ p ∷ (x ++ q ∷ y)) n i) t2 j) k1
    ∙ ap (λ l. slice_set l t2 j) (set-append_seam b1 p (x ++ q ∷ y) i ∙ sym (append_assoc b1 (i ∷ x) (q ∷ y)))
    ∙ ap (λ n. slice_set ((b1 ++ i ∷ x) ++ q ∷ y) n j) k2
    ∙ set-append_seam (b1 ++ i ∷ x) q y j
    ∙ append_assoc b1 (i ∷ x) (j ∷ y)
    ∙ append_assoc o0 c (i ∷ (x ++ j ∷ y))

-- room that was left lies within what is written
pub within : (o0 o1 o2 o3 : List Op) (p : Op) (y : List Op) → o1 ≡ o0 ++ p ∷ [] → o2 ≡ o1 ++ y → o3 ≡ o2 → length o0 < length o3
within o0 o1 o2 o3 p y h1 h2 h3 =
    let l1 = one_more o0 o1 p h1 in
    let l2 : length o2 ≡ length o1 + length y = ap length h2 ∙ length-append o1 y in
    let l3 : length o3 ≡ length o2 = ap length h3 in
    omega (arith, l1, l2, l3)

pub if_emitted : (c x y : ExprTree) (ps p1 p2 : List ℕ) (d : ℕ) (o n1 n2 n3 n4 n5 m : List Op) (t1 t2 s : ℕ) (p q : Op) → n1 ≡ o ++ expr_code c ps d (length o) → p1 ≡ ps → n2 ≡ n1 ++ p ∷ [] → n3 ≡ n2 ++ expr_code x p1 d (length n2) → p2 ≡ p1 → n4 ≡ n3 ++ q ∷ [] → n5 ≡ n4 ++ expr_code y p2 d (length n4) → t1 ≡ length n1 → t2 ≡ length n3 → s ≡ length n4 → m ≡ slice_set (slice_set n5 t1 (JumpIfNot s)) t2 (Jump (length n5)) → m ≡ o ++ expr_code (if 0 c x y) ps d (length o)
if_emitted c x y ps p1 p2 d o n1 n2 n3 n4 n5 m t1 t2 s p q h1 q1 h2 h3 q2 h4 h5 m1 m2 m3 m4 =
    let a = length o in
    let l1 : length n1 ≡ a + expr_size c = behind o n1 c ps d a h1 in
    let l2 : length n2 ≡ a + expr_size c + 1 = one_more n1 n2 p h2 ∙ ap (λ k. k + 1) l1 in
    let l3 : length n3 ≡ a + expr_size c + 1 + expr_size x = behind n2 n3 x p1 d (length n2) h3 ∙ ap (λ k. k + expr_size x) l2 in
    let l4 : length n4 ≡ a + expr_size c + 1 + expr_size x + 1 = one_more n3 n4 q h4 ∙ ap (λ k. k + 1) l3 in
    let l5 : length n5 ≡ a + expr_size c + 1 + expr_size x + 1 + expr_size y = behind n4 n5 y p2 d (length n4) h5 ∙ ap (λ k. k + expr_size y) l4 in
    m4
    ∙ patched o n1 n2 n3 n4 n5 (expr_code c ps d a) (expr_code x p1 d (length n2)) (expr_code y p2 d (length n4)) t1 t2 p q (JumpIfNot s) (Jump (length n5)) h1 h2 h3 h4 h5 m1 m2
    ∙ (λ i. o ++ (expr_code c ps d a ++ (JumpIfNot ((m3 ∙ l4) i) ∷ (expr_code x (q1 i) d (l2 i) ++ (Jump (l5 i) ∷ expr_code y ((q2 ∙ q1) i) d (l4 i))))))

pub and_emitted : (x y : ExprTree) (ps p1 : List ℕ) (d : ℕ) (o n1 n2 n3 n4 n5 m : List Op) (t1 t2 s : ℕ) (p q : Op) → n1 ≡ o ++ expr_code x ps d (length o) → p1 ≡ ps → n2 ≡ n1 ++ p ∷ [] → n3 ≡ n2 ++ expr_code y p1 d (length n2) → n4 ≡ n3 ++ q ∷ [] → n5 ≡ n4 ++ PushBool false ∷ [] → t1 ≡ length n1 → t2 ≡ length n3 → s ≡ length n4 → m ≡ slice_set (slice_set n5 t1 (JumpIfNot s)) t2 (Jump (length n5)) → m ≡ o ++ expr_code (both 0 x y) ps d (length o)
and_emitted x y ps p1 d o n1 n2 n3 n4 n5 m t1 t2 s p q h1 q1 h2 h3 h4 h5 m1 m2 m3 m4 =
    let a = length o in
    let l1 : length n1 ≡ a + expr_size x = behind o n1 x ps d a h1 in
    let l2 : length n2 ≡ a + expr_size x + 1 = one_more n1 n2 p h2 ∙ ap (λ k. k + 1) l1 in
    let l3 : length n3 ≡ a + expr_size x + 1 + expr_size y = behind n2 n3 y p1 d (length n2) h3 ∙ ap (λ k. k + expr_size y) l2 in
    let l4 : length n4 ≡ a + expr_size x + 1 + expr_size y + 1 = one_more n3 n4 q h4 ∙ ap (λ k. k + 1) l3 in
    let l5 : length n5 ≡ a + expr_size x + 1 + expr_size y + 1 + 1 = one_more n4 n5 (PushBool false) h5 ∙ ap (λ k. k + 1) l4 in
    m4
    ∙ patched o n1 n2 n3 n4 n5 (expr_code x ps d a) (expr_code y p1 d (length n2)) (PushBool false ∷ []) t1 t2 p q (JumpIfNot s) (Jump (length n5)) h1 h2 h3 h4 h5 m1 m2
    ∙ (λ i. o ++ (expr_code x ps d a ++ (JumpIfNot ((m3 ∙ l4) i) ∷ (expr_code y (q1 i) d (l2 i) ++ (Jump (l5 i) ∷ PushBool false ∷ [])))))

pub or_emitted : (x y : ExprTree) (ps p1 : List ℕ) (d : ℕ) (o n1 n2 n3 n4 n5 m : List Op) (t1 t2 s : ℕ) (p q : Op) → n1 ≡ o ++ expr_code x ps d (length o) → p1 ≡ ps → n2 ≡ n1 ++ p ∷ [] → n3 ≡ n2 ++ PushBool true ∷ [] → n4 ≡ n3 ++ q ∷ [] → n5 ≡ n4 ++ expr_code y p1 d (length n4) → t1 ≡ length n1 → t2 ≡ length n3 → s ≡ length n4 → m ≡ slice_set (slice_set n5 t1 (JumpIfNot s)) t2 (Jump (length n5)) → m ≡ o ++ expr_code (either 0 x y) ps d (length o)
or_emitted x y ps p1 d o n1 n2 n3 n4 n5 m t1 t2 s p q h1 q1 h2 h3 h4 h5 m1 m2 m3 m4 =
    let a = length o in
    let l1 : length n1 ≡ a + expr_size x = behind o n1 x ps d a h1 in
    let l2 = one_more n1 n2 p h2 in
    let l3 = one_more n2 n3 (PushBool true) h3 in
    let l3' = one_more n3 n4 q h4 in
    let l4 : length n4 ≡ a + expr_size x + 3 = omega (arith, l1, l2, l3, l3') in
    let l5 : length n5 ≡ a + expr_size x + 3 + expr_size y = behind n4 n5 y p1 d (length n4) h5 ∙ ap (λ k. k + expr_size y) l4 in
    m4
    ∙ patched o n1 n2 n3 n4 n5 (expr_code x ps d a) (PushBool true ∷ []) (expr_code y p1 d (length n4)) t1 t2 p q (JumpIfNot s) (Jump (length n5)) h1 h2 h3 h4 h5 m1 m2
    ∙ (λ i. o ++ (expr_code x ps d a ++ (JumpIfNot ((m3 ∙ l4) i) ∷ PushBool true ∷ Jump (l5 i) ∷ expr_code y (q1 i) d (l4 i))))

pub let_emitted : (x y : ExprTree) (ps p1 : List ℕ) (d : ℕ) (o n1 n2 m : List Op) → n1 ≡ o ++ expr_code x ps d (length o) → p1 ≡ ps ++ d ∷ [] → n2 ≡ n1 ++ expr_code y p1 (d + 1) (length n1) → m ≡ n2 ++ Slide 1 ∷ [] → m ≡ o ++ expr_code (bind 0 x y) ps d (length o)
let_emitted x y ps p1 d o n1 n2 m h1 q h2 h3 =
    let a = length o in
    let l = behind o n1 x ps d a h1 in
    let xc = expr_code x ps d a in
    let yc = expr_code y (ps ++ d ∷ []) (d + 1) (a + expr_size x) in
    h3 ∙ ap (λ n. n ++ Slide 1 ∷ []) (h2 ∙ (λ i. h1 i ++ expr_code y (q i) (d + 1) (l i)))
    ∙ append_assoc (o ++ xc) yc (Slide 1 ∷ []) ∙ append_assoc o xc (yc ++ Slide 1 ∷ [])

pub match_emitted : (l x y : ExprTree) (ps p1 p2 : List ℕ) (d : ℕ) (o n1 n2 f n3 n4 n5 m : List Op) (t1 t2 s : ℕ) (p q : Op) → n1 ≡ o ++ expr_code l ps d (length o) → p1 ≡ ps ++ d ∷ (d + 1) ∷ [] → n2 ≡ n1 ++ p ∷ [] → f ≡ n2 ++ expr_code y p1 (d + 2) (length n2) → n3 ≡ f ++ Slide 2 ∷ [] → n4 ≡ n3 ++ q ∷ [] → p2 ≡ ps → n5 ≡ n4 ++ expr_code x p2 d (length n4) → t1 ≡ length n1 → t2 ≡ length n3 → s ≡ length n4 → m ≡ slice_set (slice_set n5 t1 (Split s)) t2 (Jump (length n5)) → m ≡ o ++ expr_code (split 0 l x y) ps d (length o)
match_emitted l x y ps p1 p2 d o n1 n2 f n3 n4 n5 m t1 t2 s p q h1 q1 h2 hf h3 h4 q2 h5 m1 m2 m3 m4 =
    let a = length o in
    let l1 : length n1 ≡ a + expr_size l = behind o n1 l ps d a h1 in
    let l2 : length n2 ≡ a + expr_size l + 1 = one_more n1 n2 p h2 ∙ ap (λ k. k + 1) l1 in
    let lf : length f ≡ a + expr_size l + 1 + expr_size y = behind n2 f y p1 (d + 2) (length n2) hf ∙ ap (λ k. k + expr_size y) l2 in
    let l3 = one_more f n3 (Slide 2) h3 in
    let l3' = one_more n3 n4 q h4 in
    let l4 : length n4 ≡ a + expr_size l + 1 + expr_size y + 2 = omega (arith, lf, l3, l3') in
    let l5 : length n5 ≡ a + expr_size l + 1 + expr_size y + 2 + expr_size x = behind n4 n5 x p2 d (length n4) h5 ∙ ap (λ k. k + expr_size x) l4 in
    let yc = expr_code y p1 (d + 2) (length n2) in
    let h3' : n3 ≡ n2 ++ (yc ++ Slide 2 ∷ []) = h3 ∙ ap (λ n. n ++ Slide 2 ∷ []) hf ∙ append_assoc n2 yc (Slide 2 ∷ []) in
    m4
    ∙ patched o n1 n2 n3 n4 n5 (expr_code l ps d a) (yc ++ Slide 2 ∷ []) (expr_code x p2 d (length n4)) t1 t2 p q (Split s) (Jump (length n5)) h1 h2 h3' h4 h5 m1 m2
    ∙ ap (λ tail. o ++ (expr_code l ps d a ++ (Split s ∷ tail))) (append_assoc yc (Slide 2 ∷ []) (Jump (length n5) ∷ expr_code x p2 d (length n4)))
    ∙ (λ i. o ++ (expr_code l ps d a ++ (Split ((m3 ∙ l4) i) ∷ (expr_code y (q1 i) (d + 2) (l2 i) ++ (Slide 2 ∷ Jump (l5 i) ∷ expr_code x (q2 i) d (l4 i))))))
