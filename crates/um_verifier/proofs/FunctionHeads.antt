-- One function after another: what is known, and which breaks its rules.
use Rattle.std.proofs.Common.{◌≡◌, refl, sym, ap, subst, ◌∙◌, ℕ, zero, suc, ◌+◌, ◌<◌, ◌≤◌, true, false, List, [], ◌∷◌, ◌++◌, length, map, take, get_or, All, Option, Some, None, slice_get, arith}
use Rattle.std.specs.Prelude.{vec_len, MatchOption}
use Rattle.std.specs.List.{list_all}
use Rattle.std.proofs.lemmas.Bool.{both_ways, and_from, and_parts}
use Rattle.std.proofs.lemmas.List.{take_more, take_all, map_push, length-map}
use Rattle.std.proofs.lemmas.List.Elements.{All-nil, All-cons}
use Rattle.std.proofs.lemmas.Option.{slice_get_within, get_or_from_slice_get, slice_get-get_or}
use Rattle.um_tree.specs.declared.types.Shape.{Shape}
use Rattle.um_tree.specs.TypeTree.{shape_tree}
use Rattle.um_tree.specs.Heights.{greatest_height}
use Rattle.um_tree.specs.ProgramTree.{RecordTree}
use Rattle.um_tree.specs.Formed.{IsNameBytes, AreDistinct}
use Rattle.um_shape.specs.RecordShapes.{RecordShape, shape_height}
use Rattle.um_shape.proofs.Declarations.{All-unmapped, mapped_twice}
use Rattle.um_machine.specs.declared.code.Entry.{Entry}
use Rattle.um_verify.specs.declared.image.Head.{Head}
use Rattle.um_verify.specs.StackShape.{StackShape, on_stack}
use Rattle.um_verify.specs.ImageTree.{HeadTree, ImageTree, head_tree, IsPlainHead, Match}
use Rattle.um_verify.specs.Heads.{record_shapes, RecordHolds, FunctionHolds, HeadHolds, IsFirstHead}
use Rattle.um_verify.specs.Rules.{fields_on_stack}
use Rattle.um_verifier.specs.KnownImages.{known_fields, over, admits}
use Rattle.um_verifier.specs.Names.{Takes}
use Rattle.um_verifier.specs.KnownHeads.{KnowsRecords, StackSignature, known_signature, head_signature, admits_signature, TakesHeads, FindsHead, AreKnownRecords, AreKnownHeads, IsFirstRecord, IsRecordStop}
use Rattle.um_verifier.specs.Refusals.{IsRefusal}
use Rattle.um_verifier.specs.declared.stop.VerifyStop.{VerifyStop}
use Rattle.um_verifier.specs.declared.stop.VerifyStop.TheVariants as stop
use Rattle.um_verifier.specs.declared.known.KnownHead.{KnownHead}
use Rattle.um_verifier.specs.declared.known.Known.{Known}
use Rattle.um_verifier.proofs.Firsts.{HoldBefore, tree_there}
use Rattle.um_verifier.proofs.OverRecords.{over_is, is_over, all_over, over_all}

-- as many records are known as the image has
pub records_known : (records : List RecordTree) (known : Known) → KnowsRecords records known → vec_len known.records ≡ length records
records_known records known h =
    let mapped : length (known_fields known) ≡ length known.records.items = length-map known.records.items _ in
    known.records.ok.0 ∙ sym mapped ∙ ap (λ (xs : List (List StackShape)). length xs) h.fields ∙ length-map records fields_on_stack

pub params_on_stack : (ss items : List Shape) → ss ≡ items → map (λ (s : Shape). on_stack (shape_tree s)) ss ≡ map on_stack (map shape_tree items)
params_on_stack ss items e = mapped_twice on_stack shape_tree ss ∙ ap (λ (xs : List Shape). map on_stack (map shape_tree xs)) e

pub low_params : (h : Head) → IsPlainHead (head_tree h) → All (λ s. shape_height [] (shape_tree s) ≤ greatest_height) h.params.items.items
low_params h plain = All-unmapped (λ s. shape_height [] s ≤ greatest_height) shape_tree h.params.items.items plain.params

-- function k is found, or breaks its rules
abbrev pub HeadFound : ImageTree → ℕ → HeadTree → List (List ℕ) → List (List ℕ) → Option KnownHead → Type 0
HeadFound image k h taken new_taken o = MatchOption o (FunctionHolds image k h → ⊥) (λ found. FindsHead image k h taken new_taken found)

pub is_first : (image : ImageTree) (k : ℕ) (h : HeadTree) (taken new_taken : List (List ℕ)) (o : Option KnownHead) → o ≡ None → HeadFound image k h taken new_taken o → FunctionHolds image k h → ⊥
is_first image k h taken new_taken o e f = subst (λ (o : Option KnownHead). HeadFound image k h taken new_taken o) e f

pub is_found : (image : ImageTree) (k : ℕ) (h : HeadTree) (taken new_taken : List (List ℕ)) (o : Option KnownHead) (found : KnownHead) → o ≡ Some found → HeadFound image k h taken new_taken o → FindsHead image k h taken new_taken found
is_found image k h taken new_taken o found e f = subst (λ (o : Option KnownHead). HeadFound image k h taken new_taken o) e f

module _ (image : ImageTree) (k : ℕ) (h : HeadTree) (e : Entry) (there : slice_get image.heads k ≡ Some h) (entry : slice_get image.code.entries k ≡ Some e) (known : Known) (taken : List (List ℕ)) (takes : TakesHeads image k known taken) where
  next : take (k + 1) image.heads ≡ take k image.heads ++ h ∷ []
  next =
      take_more image.heads k h (slice_get_within image.heads k h there) ∙ ap (λ (x : HeadTree). take k image.heads ++ x ∷ []) (get_or_from_slice_get image.heads k h h there)

  names_next : map (λ (x : HeadTree). x.name) (take (k + 1) image.heads) ≡ taken ++ h.name ∷ []
  names_next =
      ap (map (λ (x : HeadTree). x.name)) next ∙ map_push (λ (x : HeadTree). x.name) (take k image.heads) h ∙ ap (λ (ns : List (List ℕ)). ns ++ h.name ∷ []) (sym takes.names)

  pub no_instruction : e.end ≤ e.start → FunctionHolds image k h → ⊥
  no_instruction l f = let some = f.some_instruction e entry in absurd (omega arith)

  pub many_params : 16 < length h.params → FunctionHolds image k h → ⊥
  many_params l f = let few = f.few_params in absurd (omega arith)

  pub bad_name : (new : List (List ℕ)) → Takes false taken (h.name ∷ []) new → FunctionHolds image k h → ⊥
  bad_name new t f = t (All-cons IsNameBytes h.name [] f.name (All-nil IsNameBytes)) (subst AreDistinct names_next f.once)

  abbrev Hs : List RecordShape
  Hs = record_shapes image.records

  abbrev n : ℕ
  n = length image.records

  admits_here : (s : StackShape) → admits known s ≡ over n Hs s
  admits_here s = (λ j. over (records_known image.records known takes.shapes j) (takes.shapes.heights j) s)

  all_here : (ss : List StackShape) → list_all (admits known) ss ≡ list_all (over n Hs) ss
  all_here ss = (λ j. list_all (over (records_known image.records known takes.shapes j) (takes.shapes.heights j)) ss)

  abbrev own : StackSignature
  own = head_signature h

  bad_shapes : admits_signature known own ≡ false → FunctionHolds image k h → ⊥
  bad_shapes w f =
      both_ways (admits_signature known own) w
      (and_from (list_all (admits known) own.params) (admits known own.result) (all_here own.params ∙ all_over n Hs h.params f.params) (admits_here own.result ∙ over_is n Hs h.result f.result))

  entry_is : (x : Entry) → slice_get image.code.entries k ≡ Some x → e.start < e.end → x.start < x.end
  entry_is x s l = let same : e ≡ x = some_entry (sym entry ∙ s) in subst (λ (x : Entry). x.start < x.end) same l
    where
      some_entry : {x : Entry} → Some e ≡ Some x → e ≡ x
      some_entry q = cc

  finds : (new : List (List ℕ)) (found : KnownHead) → e.start < e.end → length h.params ≤ 16 → Takes true taken (h.name ∷ []) new → admits_signature known own ≡ true → known_signature found ≡ own → FindsHead image k h taken new found
  finds new found some few named w is =
      let both = and_parts (list_all (admits known) own.params) (admits known own.result) w in
      record {
        holds = record {
          name = named.names 0 h.name (omega arith);
          once = subst AreDistinct (sym names_next) (named.once takes.names_once);
          few_params = few;
          some_instruction = λ x s. entry_is x s some;
          params = over_all n Hs h.params (sym (all_here own.params) ∙ both.0);
          result = is_over n Hs h.result (sym (admits_here own.result) ∙ both.1);
        };
        signature = is;
        names = named.taken;
      }

  -- what is found of the function's shapes
  pub found_head : (new : List (List ℕ)) → e.start < e.end → length h.params ≤ 16 → Takes true taken (h.name ∷ []) new → (o : Option KnownHead)
      → MatchOption o (admits_signature known own ≡ false) (λ found. (admits_signature known own ≡ true) × (known_signature found ≡ own)) → HeadFound image k h taken new o
  found_head new some few named None w = bad_shapes w
  found_head new some few named (Some found) w = finds new found some few named w.0 w.1

  -- it is known next
  pub takes_next : (after : Known) (new : List (List ℕ)) (found : KnownHead) → KnowsRecords image.records after → after.heads.items ≡ known.heads.items ++ found ∷ [] → FindsHead image k h taken new found → TakesHeads image (k + 1) after new
  takes_next after new found shapes pushed finds = record {
    shapes = shapes;
    heads =
        ap (map known_signature) pushed
        ∙ map_push known_signature known.heads.items found
        ∙ (λ j. takes.heads j ++ finds.signature j ∷ [])
        ∙ sym (map_push head_signature (take k image.heads) h)
        ∙ ap (map head_signature) (sym next);
    names = finds.names ∙ sym names_next;
    names_once = subst AreDistinct (names_next ∙ sym finds.names) finds.holds.once;
  }

-- ---- the loop

abbrev pub trees : List Head → List HeadTree
trees hs = map head_tree hs

pub match_lengths : (es : List Entry) (hs : List HeadTree) → Match es hs → length es ≡ length hs
match_lengths [] [] h = refl
match_lengths (e ∷ es) (x ∷ hs) h = ap suc (match_lengths es hs h.1)
match_lengths [] (x ∷ hs) h = absurd h
match_lengths (e ∷ es) [] h = absurd h

-- the head and the entry of a place of the loop
pub head_there : (hs items : List Head) (k : ℕ) (h : Head) → hs ≡ items → k < length hs → h ≡ get_or hs k h → slice_get (trees items) k ≡ Some (head_tree h)
head_there hs items k h e l s = ap (λ (xs : List Head). slice_get (trees xs) k) (sym e) ∙ tree_there head_tree hs k h l s

pub plain_at : (hs items : List Head) (k : ℕ) (h : Head) → hs ≡ items → All IsPlainHead (map head_tree items) → k < length hs → h ≡ get_or hs k h → IsPlainHead (head_tree h)
plain_at hs items k h e plain l s =
    let all = subst (λ (xs : List Head). All (λ (x : Head). IsPlainHead (head_tree x)) xs) (sym e) (All-unmapped IsPlainHead head_tree items plain) in
    subst (λ (x : Head). IsPlainHead (head_tree x)) (sym s) (all k h l)

pub entry_there : (es entries : List Entry) (k : ℕ) (d : Entry) → es ≡ entries → k < length es → slice_get entries k ≡ Some (get_or es k d)
entry_there es entries k d e l = ap (λ (xs : List Entry). slice_get xs k) (sym e) ∙ slice_get-get_or es k d l

pub entry_within : (es entries : List Entry) (hs items : List Head) (k : ℕ) → es ≡ entries → hs ≡ items → Match entries (trees items) → k < length hs → k < length es
entry_within es entries hs items k e s m l =
    let n = match_lengths entries (trees items) m in
    let t : length (trees items) ≡ length items = length-map items head_tree in
    let a : length es ≡ length entries = ap (λ (xs : List Entry). length xs) e in
    let b : length hs ≡ length items = ap (λ (xs : List Head). length xs) s in
    omega arith

pub none_take : (image : ImageTree) (known : Known) → AreKnownRecords image.records known → TakesHeads image 0 known []
none_take image known h = record {
  shapes = h.shapes;
  heads = ap (map known_signature) h.heads;
  names = refl;
  names_once = λ i j x s t. none_there i x s;
}
  where
    none_there : {P : Type 0} (i : ℕ) (x : List ℕ) → slice_get [] i ≡ Some x → P
    none_there zero x s = absurd cc
    none_there (suc i) x s = absurd cc

pub all_take : (image : ImageTree) (k : ℕ) (known : Known) (taken : List (List ℕ)) → length image.heads ≤ k → TakesHeads image k known taken → map known_signature known.heads.items ≡ map head_signature image.heads
all_take image k known taken l h = h.heads ∙ ap (map head_signature) (take_all k image.heads l)

-- ---- heads by one index

abbrev Records : ImageTree → Type 0
Records image = (i : ℕ) (d : RecordTree) → slice_get image.records i ≡ Some d → RecordHolds image.records i d

-- a record that breaks its rules is the first such head
record_first : (image : ImageTree) (i : ℕ) → IsFirstRecord image.records i → IsFirstHead image i
record_first image i h =
    let within = slice_get_within image.records i h.d h.there in
    record {
      exists = omega arith;
      fails = λ holds. h.fails (holds.record_holds h.d h.there);
      earlier = λ j l. record {
        record_holds = λ e t. h.before j e l t;
        function_holds = λ k x e t. absurd (apart j k l e within);
      };
    }
  where
    apart : (j k : ℕ) → j < i → j ≡ length image.records + k → i < length image.records → ⊥
    apart j k l e w = omega arith

-- and a function, where all records hold
pub function_first : (image : ImageTree) (k : ℕ) (h : HeadTree) → Records image → slice_get image.heads k ≡ Some h → (FunctionHolds image k h → ⊥) → HoldBefore (FunctionHolds image) image.heads k → IsFirstHead image (length image.records + k)
function_first image k h records there fails before =
    let within = slice_get_within image.heads k h there in
    record {
      exists = omega arith;
      fails = λ holds. fails (holds.function_holds k h refl there);
      earlier = λ j l. record {
        record_holds = λ d t. records j d t;
        function_holds = λ i x e t. before i x (omega arith) t;
      };
    }

pub all_heads : (image : ImageTree) (known : Known) → AreKnownHeads image known → (i : ℕ) → HeadHolds image i
all_heads image known h i = record {
  record_holds = λ d t. h.records i d t;
  function_holds = λ k x e t. h.functions k x t;
}

pub record_refusal : (image : ImageTree) (x : VerifyStop) → IsRecordStop image.records x → IsRefusal image x
record_refusal image (stop.Head i) h = record_first image i h
record_refusal image (stop.Code a) h = absurd h
record_refusal image stop.NoMemory h = tt
