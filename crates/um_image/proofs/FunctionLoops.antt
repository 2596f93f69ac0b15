-- Functions read one after the other, and kept as an image has them.
use Rattle.std.proofs.Common.{◌≡◌, refl, sym, ap, ◌∙◌, ℕ, ◌+◌, ◌≤◌, ◌==◌, Bool, cond, List, [], ◌∷◌, ◌++◌, length, map, Result, Ok, Err, arith}
use Rattle.std.specs.List.{flat_map}
use Rattle.std.proofs.lemmas.List.{append-nil, length-append, map-append}
use Rattle.std.proofs.lemmas.Grind.{flat_map-append}
use Rattle.std.proofs.lemmas.Bool.{ne_eqb}
use Rattle.um_machine.specs.declared.op.Op.{Op}
use Rattle.um_machine.specs.declared.code.Entry.{Entry}
use Rattle.um_verify.specs.declared.image.Head.{Head}
use Rattle.um_verify.specs.ImageTree.{HeadTree, head_tree}
use Rattle.um_image.specs.declared.stop.ReadStop.{ReadStop}
use Rattle.um_image.specs.declared.stop.ReadStop.TheVariants as stop
use Rattle.um_image.specs.declared.function.Functions.{Functions}
use Rattle.um_image.specs.Encoding.{spell, op_items, FunctionPart}
use Rattle.um_image.specs.Reading.{◌>>=◌, Fails, number_at, many_at, with_front, op_at, ops_at, head_at, function_at, functions_at, last_functions_at}
use Rattle.um_image.specs.FunctionsRead.{entries_from, Holds, function_onto}
use Rattle.um_image.proofs.Formats.{IsBytes, gave, same_gift, bind_done}
use Rattle.um_image.proofs.Chains.{many_format}
use Rattle.um_image.proofs.OpFormats.{op_format}
use Rattle.um_image.proofs.PartFormats.{with_ops}
use Rattle.um_image.proofs.ImagesAsParts.{ops_of, many_length, op_length}
use Rattle.um_image.proofs.Loops.{front_fails, front_of_none, first_fails, fails_same}

-- ---- one more

entries_more : (a : ℕ) (fs : List FunctionPart) (f : FunctionPart) (z : ℕ) → z ≡ a + length (ops_of fs) → entries_from a (fs ++ f ∷ []) ≡ entries_from a fs ++ record { start = z; end = z + length f.ops; params = length f.head.params } ∷ []
entries_more a [] f z e =
    let same : a ≡ z = omega arith in
    λ i. record { start = same i; end = same i + length f.ops; params = length f.head.params } ∷ []
entries_more a (g ∷ fs) f z e =
    let sum = length-append g.ops (ops_of fs) in
    ap (λ (es : List Entry). record { start = a; end = a + length g.ops; params = length g.head.params } ∷ es) (entries_more (a + length g.ops) fs f z (omega arith))

pub holds_more : (old new : Functions) (fs : List FunctionPart) (head : Head) (xs : List Op) (e : Entry) → Holds old fs → new.heads.items ≡ old.heads.items ++ head ∷ [] → new.ops.items ≡ old.ops.items ++ xs → new.entries.items ≡ old.entries.items ++ e ∷ [] → e.start ≡ length old.ops.items → e.end ≡ length new.ops.items → e.params ≡ length (head_tree head).params → Holds new (fs ++ with_ops (head_tree head) xs ∷ [])
holds_more old new fs head xs e h heads ops entries start end params =
    let f = with_ops (head_tree head) xs in
    let before : length old.ops.items ≡ length (ops_of fs) = ap (λ (os : List Op). length os) h.ops in
    let both : length new.ops.items ≡ length old.ops.items + length xs = ap (λ (os : List Op). length os) ops ∙ length-append old.ops.items xs in
    let own : e ≡ record { start = length (ops_of fs); end = length (ops_of fs) + length xs; params = length (head_tree head).params } =
    (λ i. record { start = (start ∙ before) i; end = (end ∙ both ∙ ap (λ (n : ℕ). n + length xs) before) i; params = params i }) in
    record {
      heads = ap (map head_tree) heads ∙ map-append head_tree old.heads.items (head ∷ []) ∙ ap (λ (hs : List HeadTree). hs ++ head_tree head ∷ []) h.heads ∙ sym (map-append (λ (g : FunctionPart). g.head) fs (f ∷ []));
      ops = ops ∙ ap (λ (os : List Op). os ++ xs) h.ops ∙ ap (λ (os : List Op). ops_of fs ++ os) (sym (append-nil xs)) ∙ sym (flat_map-append (λ (g : FunctionPart). g.ops) fs (f ∷ []));
      entries = entries ∙ (λ i. h.entries i ++ own i ∷ []) ∙ sym (entries_more 0 fs f (length (ops_of fs)) (omega arith));
    }

-- ---- how it is read

regrouped : (fs : List FunctionPart) (h : HeadTree) (r : Result (List Op × List ℕ) ℕ) → ((r >>= λ ops. gave (with_ops h ops.0) ops.1) >>= λ f. gave (fs ++ f.0 ∷ []) f.1) ≡ (r >>= λ ops. gave (fs ++ with_ops h ops.0 ∷ []) ops.1)
regrouped fs h (Ok ops) = refl
regrouped fs h (Err l) = refl

module _ (fs : List FunctionPart) (bytes : List ℕ) (h : HeadTree) (behind : List ℕ) (head : head_at bytes ≡ Ok (h, behind)) where
  onto_by : function_onto fs bytes ≡ (ops_at behind >>= λ ops. gave (fs ++ with_ops h ops.0 ∷ []) ops.1)
  unfolding function_at
  onto_by =
      ap (λ (r : Result (HeadTree × List ℕ) ℕ). (r >>= λ g. ops_at g.1 >>= λ ops. gave (with_ops g.0 ops.0) ops.1) >>= λ f. gave (fs ++ f.0 ∷ []) f.1) head
      ∙ regrouped fs h (ops_at behind)

  pub count_fails : (e : ReadStop) → Fails e (number_at behind) → Fails e (function_onto fs bytes)
  unfolding ops_at
  count_fails e f = fails_same (function_onto fs bytes) (ops_at behind >>= λ ops. gave (fs ++ with_ops h ops.0 ∷ []) ops.1) e onto_by
      (first_fails (ops_at behind) (λ ops. gave (fs ++ with_ops h ops.0 ∷ []) ops.1) e (first_fails (number_at behind) (λ n. many_at op_at n.0 n.1) e f))

  module _ (n : ℕ) (rest : List ℕ) (count : number_at behind ≡ Ok (n, rest)) (front : List Op) where
    ops_by : ops_at behind ≡ many_at op_at n rest
    unfolding ops_at
    ops_by = bind_done (number_at behind) (λ m. many_at op_at m.0 m.1) (n, rest) count

    pub ops_fail : (e : ReadStop) → Fails e (with_front front (many_at op_at n rest)) → Fails e (function_onto fs bytes)
    ops_fail e f = fails_same (function_onto fs bytes) (ops_at behind >>= λ ops. gave (fs ++ with_ops h ops.0 ∷ []) ops.1) e onto_by
        (first_fails (ops_at behind) (λ ops. gave (fs ++ with_ops h ops.0 ∷ []) ops.1) e (fails_same (ops_at behind) (many_at op_at n rest) e ops_by (front_fails front (many_at op_at n rest) e f)))

    pub onto_done : (xs : List Op) (after : List ℕ) → many_at op_at n rest ≡ Ok (xs, after) → function_onto fs bytes ≡ Ok (fs ++ with_ops h xs ∷ [], after)
    onto_done xs after e = onto_by ∙ bind_done (ops_at behind) (λ ops. gave (fs ++ with_ops h ops.0 ∷ []) ops.1) (xs, after) (ops_by ∙ e)

pub head_fails : (fs : List FunctionPart) (bytes : List ℕ) (e : ReadStop) → Fails e (head_at bytes) → Fails e (function_onto fs bytes)
unfolding function_at
head_fails fs bytes e f = first_fails (head_at bytes >>= λ g. ops_at g.1 >>= λ ops. gave (with_ops g.0 ops.0) ops.1) (λ g. gave (fs ++ g.0 ∷ []) g.1) e (first_fails (head_at bytes) (λ g. ops_at g.1 >>= λ ops. gave (with_ops g.0 ops.0) ops.1) e f)

pub onto_ok : (fs : List FunctionPart) (bytes : List ℕ) (gs : List FunctionPart) (after : List ℕ) → function_onto fs bytes ≡ Ok (gs, after) → (f : FunctionPart) × (function_at bytes ≡ Ok (f, after)) × (gs ≡ fs ++ f ∷ [])
onto_ok fs bytes gs after e = by (function_at bytes) e where
  by : (r : Result (FunctionPart × List ℕ) ℕ) → (r >>= λ f. gave (fs ++ f.0 ∷ []) f.1) ≡ Ok (gs, after) → (f : FunctionPart) × (r ≡ Ok (f, after)) × (gs ≡ fs ++ f ∷ [])
  by (Ok f) q = let s = same_gift (fs ++ f.0 ∷ []) gs f.1 after q in (f.0, (λ i. gave f.0 (s.1 i)), sym s.0)
  by (Err l) q = absurd cc

pub onto_fails : (fs : List FunctionPart) (bytes : List ℕ) (e : ReadStop) → Fails e (function_onto fs bytes) → Fails e (function_at bytes)
onto_fails fs bytes stop.NoMemory f = tt
onto_fails fs bytes (stop.Bad left) f = by (function_at bytes) f where
  by : (r : Result (FunctionPart × List ℕ) ℕ) → (r >>= λ g. gave (fs ++ g.0 ∷ []) g.1) ≡ Err left → r ≡ Err left
  by (Ok g) q = absurd cc
  by (Err l) q = cc

-- each instruction takes a byte
pub ops_room : (n : ℕ) (bytes : List ℕ) (xs : List Op) (rest : List ℕ) → IsBytes bytes → many_at op_at n bytes ≡ Ok (xs, rest) → length xs + length rest ≤ length bytes
ops_room n bytes xs rest b e =
    let t = (many_format op_at op_items _ op_format n).takes bytes xs rest b e in
    let sum = ap (λ (s : List ℕ). length s) t.2 ∙ length-append (spell (flat_map op_items xs)) rest in
    let each = many_length op_items op_length xs in
    omega arith

-- ---- the functions at the end

abbrev at_end : List FunctionPart × List ℕ → Result (List FunctionPart) ℕ
at_end fs = cond (length fs.1 == 0) (Ok fs.0) (Err (length fs.1))

pub last_count_fails : (bytes : List ℕ) (e : ReadStop) → Fails e (number_at bytes) → Fails e (last_functions_at bytes)
unfolding last_functions_at functions_at
last_count_fails bytes e f = first_fails (number_at bytes >>= λ n. many_at function_at n.0 n.1) at_end e (first_fails (number_at bytes) (λ n. many_at function_at n.0 n.1) e f)

module _ (bytes : List ℕ) (n : ℕ) (behind : List ℕ) (count : number_at bytes ≡ Ok (n, behind)) where
  last_by : last_functions_at bytes ≡ (with_front [] (many_at function_at n behind) >>= at_end)
  unfolding last_functions_at functions_at
  last_by =
      ap (λ (r : Result (ℕ × List ℕ) ℕ). (r >>= λ m. many_at function_at m.0 m.1) >>= at_end) count
      ∙ ap (λ (r : Result (List FunctionPart × List ℕ) ℕ). r >>= at_end) (sym (front_of_none (many_at function_at n behind)))

  pub last_fails : (e : ReadStop) → Fails e (with_front [] (many_at function_at n behind)) → Fails e (last_functions_at bytes)
  last_fails e f = fails_same (last_functions_at bytes) (with_front [] (many_at function_at n behind) >>= at_end) e last_by (first_fails (with_front [] (many_at function_at n behind)) at_end e f)

  pub last_done : (fs : List FunctionPart) (rest : List ℕ) → with_front [] (many_at function_at n behind) ≡ Ok (fs, rest) → length rest ≡ 0 → last_functions_at bytes ≡ Ok fs
  last_done fs rest e z =
      last_by ∙ bind_done (with_front [] (many_at function_at n behind)) at_end (fs, rest) e ∙ ap (λ (k : ℕ). cond (k == 0) (Ok fs) (Err k)) z

  pub last_more : (fs : List FunctionPart) (rest : List ℕ) → with_front [] (many_at function_at n behind) ≡ Ok (fs, rest) → (length rest ≡ 0 → ⊥) → last_functions_at bytes ≡ Err (length rest)
  last_more fs rest e z =
      last_by ∙ bind_done (with_front [] (many_at function_at n behind)) at_end (fs, rest) e ∙ ap (λ (b : Bool). cond b (Ok fs) (Err (length rest))) (ne_eqb (length rest) 0 z)
