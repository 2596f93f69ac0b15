-- Certificates that are printed alike are the same.
use Rattle.std.proofs.Common.{◌≡◌, ◌≢◌, ℕ, suc, ◌+◌, ◌^◌, ◌<◌, true, false, List, [], ◌∷◌, ◌++◌, append_assoc, map, length, codes, ℤ, Option, None, Some, refl, sym, ap, ◌∙◌, subst, arith}
use Rattle.std.specs.Prelude.{All, Bool}
use Rattle.std.specs.Fmt.{decimal, signed_decimal}
use Rattle.std.specs.Int.Signed.{mag}
use Rattle.std.proofs.lemmas.List.{append_cancel_left, length-map}
use Rattle.std.proofs.lemmas.List.Elements.{All-head, All-tail}
use Rattle.um_units.specs.PowerMap.{PowerMap}
use Rattle.um_tree.specs.ProgramTree.{ProgramTree}
use Rattle.um_tree.specs.Formed.{BasesBelow, IsFormed}
use Rattle.um_show.specs.UnitText.{unit_text}
use Rattle.um_check.specs.declared.certificate.Yes.{Yes}
use Rattle.um_check.specs.declared.certificate.No.{No}
use Rattle.um_certificates.specs.CertificateText.{numbered, with_parameters, function_name, heading, open_text, rigid_text, yes_text, kind_text, no_text, parts_text, refusal_text}
use Rattle.um_all_answers.specs.CertificateLaws.{FitsUnit, FitsYes, FitsNo, FitsRefusal, IsNamed, TextsDetermineCertificates}
use Rattle.um_all_answers.proofs.Cuts.{cut, decimal_cut, signed_cut, AllLack}
use Rattle.um_all_answers.proofs.Names.{ArePlain, bases_plain, parameters_plain, function_lacks, name_apart}
use Rattle.um_all_answers.proofs.PrintedUnits.{unit_lacks, unit_told}
use Rattle.um_all_answers.proofs.ReadLines.{IsApart, Differ, unit_lines, units_cut, units_apart, parts_lack, parts_told, row_lines, rows_apart, rows_cut}

-- ---- all units of a list
module _ (bases : List (List ℕ)) (n : ℕ) (names : ArePlain bases n) where
  units_lack : (us : List PowerMap) → All FitsUnit us → All (BasesBelow n) us → AllLack (unit_text bases) 10 us
  units_lack [] fit low = tt
  units_lack (u ∷ us) fit low = (
    unit_lacks bases n names u (All-head FitsUnit u us fit) (All-head (BasesBelow n) u us low),
    units_lack us (All-tail FitsUnit u us fit) (All-tail (BasesBelow n) u us low),
  )

  units_told : (us vs : List PowerMap) → All FitsUnit us → All FitsUnit vs → All (BasesBelow n) us → All (BasesBelow n) vs → map (unit_text bases) us ≡ map (unit_text bases) vs → us ≡ vs
  units_told [] [] a b c d e = refl
  units_told [] (v ∷ vs) a b c d e = absurd (cc e)
  units_told (u ∷ us) [] a b c d e = absurd (cc e)
  units_told (u ∷ us) (v ∷ vs) a b c d e =
      let text : unit_text bases u ≡ unit_text bases v = cc e in
      let texts : map (unit_text bases) us ≡ map (unit_text bases) vs = cc e in
      let first = unit_told bases n names u v (All-head FitsUnit u us a) (All-head FitsUnit v vs b) (All-head (BasesBelow n) u us c) (All-head (BasesBelow n) v vs d) text in
      let rest = units_told us vs (All-tail FitsUnit u us a) (All-tail FitsUnit v vs b) (All-tail (BasesBelow n) u us c) (All-tail (BasesBelow n) v vs d) texts in
      λ i. first i ∷ rest i

-- ---- words at the beginning of a line
abbrev slot_word : List ℕ
slot_word = codes "  slot "

abbrev back_word : List ℕ
back_word = codes "  back "

abbrev rows_word : List ℕ
rows_word = codes "  rows "

abbrev rigid_word : List ℕ
rigid_word = codes "  rigid "

third_differs : (c d : ℕ) (a b : List ℕ) → c ≢ d → 32 ∷ 32 ∷ c ∷ a ≡ 32 ∷ 32 ∷ d ∷ b → ⊥
third_differs c d a b other e = let f : c ≡ d = cc e in other f

back_slot : Differ back_word slot_word
back_slot a b e = third_differs 98 115 (codes "ack " ++ a) (codes "lot " ++ b) (λ f. omega (arith, f)) e

rows_slot : Differ rows_word slot_word
rows_slot a b e = third_differs 114 115 (codes "ows " ++ a) (codes "lot " ++ b) (λ f. omega (arith, f)) e

rigid_slot : Differ rigid_word slot_word
rigid_slot a b e = third_differs 114 115 (codes "igid " ++ a) (codes "lot " ++ b) (λ f. omega (arith, f)) e

rows_back : Differ rows_word back_word
rows_back a b e = third_differs 114 98 (codes "ows " ++ a) (codes "ack " ++ b) (λ f. omega (arith, f)) e

rigid_back : Differ rigid_word back_word
rigid_back a b e = third_differs 114 98 (codes "igid " ++ a) (codes "ack " ++ b) (λ f. omega (arith, f)) e

fourth_differs : (a b : List ℕ) → 32 ∷ 32 ∷ 114 ∷ 105 ∷ a ≡ 32 ∷ 32 ∷ 114 ∷ 111 ∷ b → ⊥
fourth_differs a b e = let f : ◌≡◌ {A = ℕ} 105 111 = cc e in omega (arith, f)

rigid_rows : Differ rigid_word rows_word
rigid_rows a b e = fourth_differs (codes "gid " ++ a) (codes "ws " ++ b) e

-- no line of the same certificate comes next
abbrev IsNext : List ℕ → Type 0
IsNext r = (t : List ℕ) → r ≡ 32 ∷ 32 ∷ t → ⊥

-- ---- a heading
module _ (name kind : List ℕ) where
  heading_front : (n : ℕ) (k : ℤ) (r : List ℕ) → heading name kind n k ++ r ≡ name ++ (kind ++ (decimal n ++ (codes " " ++ (signed_decimal k ++ 10 ∷ r))))
  heading_front n k r =
      append_assoc (name ++ kind ++ decimal n ++ codes " " ++ signed_decimal k) (codes "\n") r
      ∙ append_assoc (name ++ kind ++ decimal n ++ codes " ") (signed_decimal k) (10 ∷ r)
      ∙ append_assoc (name ++ kind ++ decimal n) (codes " ") (signed_decimal k ++ 10 ∷ r)
      ∙ append_assoc (name ++ kind) (decimal n) (codes " " ++ (signed_decimal k ++ 10 ∷ r))
      ∙ append_assoc name kind (decimal n ++ (codes " " ++ (signed_decimal k ++ 10 ∷ r)))

  heading_cut : (n m : ℕ) (k l : ℤ) (r s : List ℕ) → n < 2 ^ 64 → m < 2 ^ 64 → mag k < 2 ^ 63 → mag l < 2 ^ 63 → heading name kind n k ++ r ≡ heading name kind m l ++ s → (n ≡ m) × (k ≡ l) × (r ≡ s)
  heading_cut n m k l r s a b c d e =
      let whole = sym (heading_front n k r) ∙ e ∙ heading_front m l s in
      let second = append_cancel_left name (kind ++ (decimal n ++ (codes " " ++ (signed_decimal k ++ 10 ∷ r)))) (kind ++ (decimal m ++ (codes " " ++ (signed_decimal l ++ 10 ∷ s)))) whole in
      let third = append_cancel_left kind (decimal n ++ (codes " " ++ (signed_decimal k ++ 10 ∷ r))) (decimal m ++ (codes " " ++ (signed_decimal l ++ 10 ∷ s))) second in
      let numbers = decimal_cut 32 n m (codes " " ++ (signed_decimal k ++ 10 ∷ r)) (codes " " ++ (signed_decimal l ++ 10 ∷ s)) refl a b refl refl third in
      let blank : 32 ∷ (signed_decimal k ++ 10 ∷ r) ≡ 32 ∷ (signed_decimal l ++ 10 ∷ s) = numbers.1 in
      let rest : signed_decimal k ++ 10 ∷ r ≡ signed_decimal l ++ 10 ∷ s = cc blank in
      let signs = signed_cut 10 k l (10 ∷ r) (10 ∷ s) refl (λ f. omega (arith, f)) c d refl refl rest in
      let ends : 10 ∷ r ≡ 10 ∷ s = signs.1 in
      let after : r ≡ s = cc ends in
      (numbers.0, signs.0, after)

-- ---- a Yes
module _ (p : ProgramTree) (formed : IsFormed p) (name : List ℕ) where
  abbrev bases : List (List ℕ)
  bases = p.bases

  -- what comes after the heading
  abbrev after_back : Yes → List ℕ → List ℕ
  after_back c r = row_lines 0 c.parts ++ (rigid_text bases c.rigid ++ r)

  abbrev after_slot : Yes → List ℕ → List ℕ
  after_slot c r = unit_lines back_word bases 0 c.back ++ after_back c r

  abbrev body : Yes → List ℕ → List ℕ
  body c r = unit_lines slot_word bases 0 c.solution ++ after_slot c r

  yes_front : (c : Yes) (r : List ℕ) → yes_text bases name c ++ r ≡ heading name (codes " yes ") c.vars c.divisor ++ body c r
  yes_front c r =
      let head = heading name (codes " yes ") c.vars c.divisor in
      let slots = unit_lines slot_word bases 0 c.solution in
      let backs = unit_lines back_word bases 0 c.back in
      append_assoc (open_text bases name c) (rigid_text bases c.rigid) r
      ∙ append_assoc (head ++ slots ++ backs) (row_lines 0 c.parts) (rigid_text bases c.rigid ++ r)
      ∙ append_assoc (head ++ slots) backs (after_back c r)
      ∙ append_assoc head slots (backs ++ after_back c r)

  -- the lines after those of slots, of ways back and of rows
  rigid_apart : (other : List ℕ) → Differ rigid_word other → (c : Yes) (r : List ℕ) → IsApart other r → IsApart other (rigid_text bases c.rigid ++ r)
  rigid_apart other differ c r apart = units_apart rigid_word other differ (with_parameters bases (length c.rigid)) 0 c.rigid r apart

  after_slots : (c : Yes) (r : List ℕ) → IsNext r → IsApart slot_word (after_slot c r)
  after_slots c r next =
      units_apart back_word slot_word back_slot bases 0 c.back (after_back c r)
      (rows_apart slot_word rows_slot 0 c.parts (rigid_text bases c.rigid ++ r) (rigid_apart slot_word rigid_slot c r (λ t e. next (codes "slot " ++ t) e)))

  after_backs : (c : Yes) (r : List ℕ) → IsNext r → IsApart back_word (after_back c r)
  after_backs c r next = rows_apart back_word rows_back 0 c.parts (rigid_text bases c.rigid ++ r) (rigid_apart back_word rigid_back c r (λ t e. next (codes "back " ++ t) e))

  after_rows : (c : Yes) (r : List ℕ) → IsNext r → IsApart rows_word (rigid_text bases c.rigid ++ r)
  after_rows c r next = rigid_apart rows_word rigid_rows c r (λ t e. next (codes "rows " ++ t) e)

  rigid_lack : (c : Yes) → IsNamed (length bases) c → FitsYes c → AllLack (unit_text (with_parameters bases (length c.rigid))) 10 c.rigid
  rigid_lack c is fit = units_lack (with_parameters bases (length c.rigid)) (length bases + length c.rigid) (parameters_plain p formed (length c.rigid) fit.rigid_slots) c.rigid fit.rigid is.rigid

  rigid_told : (c d : Yes) → IsNamed (length bases) c → FitsYes c → IsNamed (length bases) d → FitsYes d → map (unit_text (with_parameters bases (length c.rigid))) c.rigid ≡ map (unit_text (with_parameters bases (length d.rigid))) d.rigid → c.rigid ≡ d.rigid
  rigid_told c d is fit also small e =
      let names = λ (n : ℕ). with_parameters bases n in
      let many : length c.rigid ≡ length d.rigid =
      sym (length-map c.rigid (unit_text (names (length c.rigid)))) ∙ ap length e ∙ length-map d.rigid (unit_text (names (length d.rigid))) in
      units_told (names (length c.rigid)) (length bases + length c.rigid) (parameters_plain p formed (length c.rigid) fit.rigid_slots) c.rigid d.rigid fit.rigid small.rigid is.rigid
      (subst (λ n. All (BasesBelow (length bases + n)) d.rigid) (sym many) also.rigid)
      (e ∙ ap (λ n. map (unit_text (names n)) d.rigid) (sym many))

  pub yes_cut : (c d : Yes) (r s : List ℕ) → IsNamed (length bases) c → FitsYes c → IsNamed (length bases) d → FitsYes d → IsNext r → IsNext s → yes_text bases name c ++ r ≡ yes_text bases name d ++ s → (c ≡ d) × (r ≡ s)
  yes_cut c d r s is fit also small next other e =
      let names = bases_plain p formed in
      let n = length bases in
      let head = heading_cut name (codes " yes ") c.vars d.vars c.divisor d.divisor (body c r) (body d s) (let l = fit.vars in omega (arith, l)) (let l = small.vars in omega (arith, l)) fit.divisor.sfits small.divisor.sfits (sym (yes_front c r) ∙ e ∙ yes_front d s) in
      let slots = units_cut slot_word bases bases 0 c.solution d.solution (after_slot c r) (after_slot d s) (units_lack bases n names c.solution fit.solution is.solution) (units_lack bases n names d.solution small.solution also.solution) (after_slots c r next) (after_slots d s other) head.2 in
      let backs = units_cut back_word bases bases 0 c.back d.back (after_back c r) (after_back d s) (units_lack bases n names c.back fit.back is.back) (units_lack bases n names d.back small.back also.back) (after_backs c r next) (after_backs d s other) slots.1 in
      let solution = units_told bases n names c.solution d.solution fit.solution small.solution is.solution also.solution slots.0 in
      let back = units_told bases n names c.back d.back fit.back small.back is.back also.back backs.0 in
      let many : length c.parts ≡ length d.parts = is.per_slot ∙ ap length solution ∙ sym also.per_slot in
      let rows = rows_cut 0 c.parts d.parts (rigid_text bases c.rigid ++ r) (rigid_text bases d.rigid ++ s) many (let l = fit.slots in let k = is.per_slot in omega (arith, l, k)) fit.parts small.parts (after_rows c r next) (after_rows d s other) backs.1 in
      let rigid = units_cut rigid_word (with_parameters bases (length c.rigid)) (with_parameters bases (length d.rigid)) 0 c.rigid d.rigid r s (rigid_lack c is fit) (rigid_lack d also small) (λ t f. next (codes "rigid " ++ t) f) (λ t f. other (codes "rigid " ++ t) f) rows.1 in
      let vars = head.0 in
      let divisor = head.1 in
      let parts = rows.0 in
      let fixed = rigid_told c d is fit also small rigid.0 in
      ((λ i. record { vars = vars i; solution = solution i; back = back i; divisor = divisor i; parts = parts i; rigid = fixed i }), rigid.1)

-- ---- a No
module _ (name : List ℕ) where
  abbrev pub rest : No → List ℕ
  rest k = codes "  rows: " ++ (parts_text k.parts ++ 10 ∷ [])

  front : (k : No) → no_text name k ≡ heading name (kind_text k.loose) (k.last + 1) k.modulus ++ rest k
  front k =
      append_assoc (heading name (kind_text k.loose) (k.last + 1) k.modulus ++ codes "  rows: ") (parts_text k.parts) (codes "\n")
      ∙ append_assoc (heading name (kind_text k.loose) (k.last + 1) k.modulus) (codes "  rows: ") (parts_text k.parts ++ 10 ∷ [])

  -- what comes after the name and the kind
  abbrev pub after_kind : No → List ℕ
  after_kind k = decimal (k.last + 1) ++ (codes " " ++ (signed_decimal k.modulus ++ 10 ∷ rest k))

  pub kinds : (k : No) (l : Bool) → k.loose ≡ l → no_text name k ≡ name ++ (kind_text l ++ after_kind k)
  kinds k l is = front k ∙ ap (λ b. heading name (kind_text b) (k.last + 1) k.modulus ++ rest k) is ∙ heading_front name (kind_text l) (k.last + 1) k.modulus (rest k)

  apart : (s t : List ℕ) → kind_text true ++ s ≡ kind_text false ++ t → ⊥
  apart s t e =
      let whole : 32 ∷ 110 ∷ 111 ∷ 32 ∷ s ≡ 32 ∷ 110 ∷ 111 ∷ 116 ∷ (codes " general " ++ t) = e in
      let f : ◌≡◌ {A = ℕ} 32 116 = cc whole in
      omega (arith, f)

  module _ (c d : No) (a : FitsNo c) (b : FitsNo d) (e : no_text name c ≡ no_text name d) where
    same_kind : c.loose ≡ d.loose → c ≡ d
    same_kind loose =
        let whole : heading name (kind_text c.loose) (c.last + 1) c.modulus ++ rest c ≡ heading name (kind_text c.loose) (d.last + 1) d.modulus ++ rest d =
        sym (front c) ∙ e ∙ front d ∙ ap (λ t. heading name (kind_text t) (d.last + 1) d.modulus ++ rest d) (sym loose) in
        let head = heading_cut name (kind_text c.loose) (c.last + 1) (d.last + 1) c.modulus d.modulus (rest c) (rest d) (let l = a.last in omega (arith, l)) (let l = b.last in omega (arith, l)) a.modulus.sfits b.modulus.sfits whole in
        let lines = append_cancel_left (codes "  rows: ") (parts_text c.parts ++ 10 ∷ []) (parts_text d.parts ++ 10 ∷ []) head.2 in
        let texts = cut 10 (parts_text c.parts) (parts_text d.parts) (10 ∷ []) (10 ∷ []) (parts_lack c.parts a.parts) (parts_lack d.parts b.parts) refl refl lines in
        let rows = head.0 in
        let last : c.last ≡ d.last = omega (arith, rows) in
        let modulus = head.1 in
        let parts = parts_told c.parts d.parts a.parts b.parts texts.0 in
        λ i. record { loose = loose i; last = last i; modulus = modulus i; parts = parts i }

    by_kinds : (l m : Bool) → c.loose ≡ l → d.loose ≡ m → c ≡ d
    by_kinds true true f g = same_kind (f ∙ sym g)
    by_kinds false false f g = same_kind (f ∙ sym g)
    by_kinds true false f g = absurd (apart (after_kind c) (after_kind d) (append_cancel_left name (kind_text true ++ after_kind c) (kind_text false ++ after_kind d) (sym (kinds c true f) ∙ e ∙ kinds d false g)))
    by_kinds false true f g = absurd (apart (after_kind d) (after_kind c) (append_cancel_left name (kind_text true ++ after_kind d) (kind_text false ++ after_kind c) (sym (kinds d true g) ∙ sym e ∙ kinds c false f)))

    pub no_cut : c ≡ d
    no_cut = by_kinds c.loose d.loose refl refl

-- ---- of a program
module _ (p : ProgramTree) (formed : IsFormed p) where
  abbrev yes_lines : ℕ → List Yes → List ℕ
  yes_lines i list = numbered (λ i. yes_text p.bases (function_name p i)) i list

  -- a heading, by its first two characters after the name
  yes_heads : (i : ℕ) (c : Yes) (list : List Yes) (r : List ℕ) → (t : List ℕ) × (yes_lines i (c ∷ list) ++ r ≡ function_name p i ++ 32 ∷ 121 ∷ t)
  yes_heads i c list r = (
    codes "es " ++ (decimal c.vars ++ (codes " " ++ (signed_decimal c.divisor ++ 10 ∷ body p formed (function_name p i) c (yes_lines (suc i) list ++ r)))),
    append_assoc (yes_text p.bases (function_name p i) c) (yes_lines (suc i) list) r ∙ yes_front p formed (function_name p i) c (yes_lines (suc i) list ++ r)
        ∙ heading_front (function_name p i) (codes " yes ") c.vars c.divisor (body p formed (function_name p i) c (yes_lines (suc i) list ++ r)),
  )

  no_heads : (i : ℕ) (c : No) → (t : List ℕ) × (refusal_text p i (Some c) ≡ function_name p i ++ 32 ∷ 110 ∷ t)
  no_heads i c = by c.loose refl where
    by : (l : Bool) → c.loose ≡ l → (t : List ℕ) × (refusal_text p i (Some c) ≡ function_name p i ++ 32 ∷ 110 ∷ t)
    by true is = (codes "o " ++ after_kind (function_name p i) c, kinds (function_name p i) c true is)
    by false is = (codes "ot general " ++ after_kind (function_name p i) c, kinds (function_name p i) c false is)

  next_refusal : (i : ℕ) (o : Option No) → IsNext (refusal_text p i o)
  next_refusal i None t e = let f : [] ≡ 32 ∷ 32 ∷ t = e in cc f
  next_refusal i (Some c) t e = let head = no_heads i c in name_apart (function_name p i) 110 head.0 t (function_lacks p formed i) (λ f. omega (arith, f)) (sym head.1 ∙ e)

  next_lines : (i : ℕ) (list : List Yes) (r : List ℕ) → IsNext r → IsNext (yes_lines i list ++ r)
  next_lines i [] r next t e = next t e
  next_lines i (c ∷ list) r next t e = let head = yes_heads i c list r in name_apart (function_name p i) 121 head.0 t (function_lacks p formed i) (λ f. omega (arith, f)) (sym head.1 ∙ e)

  no_name : (x t : List ℕ) → [] ≡ x ++ 32 ∷ t → ⊥
  no_name [] t e = cc e
  no_name (c ∷ x) t e = let f : [] ≡ c ∷ (x ++ 32 ∷ t) = e in cc f

  refusals_told : (i : ℕ) (o q : Option No) → FitsRefusal o → FitsRefusal q → refusal_text p i o ≡ refusal_text p i q → o ≡ q
  refusals_told i None None a b e = refl
  refusals_told i None (Some d) a b e = let head = no_heads i d in absurd (no_name (function_name p i) (110 ∷ head.0) (e ∙ head.1))
  refusals_told i (Some c) None a b e = let head = no_heads i c in absurd (no_name (function_name p i) (110 ∷ head.0) (sym e ∙ head.1))
  refusals_told i (Some c) (Some d) a b e = ap Some (no_cut (function_name p i) c d a b e)

  -- no list ends where the other goes on
  ends_apart : (i : ℕ) (o : Option No) (d : Yes) (list : List Yes) (s : List ℕ) → refusal_text p i o ≡ yes_lines i (d ∷ list) ++ s → ⊥
  ends_apart i None d list s e = let head = yes_heads i d list s in no_name (function_name p i) (121 ∷ head.0) (e ∙ head.1)
  ends_apart i (Some c) d list s e =
      let one = no_heads i c in let other = yes_heads i d list s in
      let rest = append_cancel_left (function_name p i) (32 ∷ 110 ∷ one.0) (32 ∷ 121 ∷ other.0) (sym one.1 ∙ e ∙ other.1) in
      let letters : ◌≡◌ {A = ℕ} 110 121 = cc rest in
      omega (arith, letters)

  lists_told : (i : ℕ) (list others : List Yes) (o q : Option No) → All (IsNamed (length p.bases)) list → All FitsYes list → FitsRefusal o → All (IsNamed (length p.bases)) others → All FitsYes others → FitsRefusal q →
      yes_lines i list ++ refusal_text p (i + length list) o ≡ yes_lines i others ++ refusal_text p (i + length others) q → (list ≡ others) × (o ≡ q)
  lists_told i [] [] o q is fit a also small b e = (refl, refusals_told (i + 0) o q a b e)
  lists_told i [] (d ∷ others) o q is fit a also small b e =
      let same : i + 0 ≡ i = omega arith in
      absurd (ends_apart i o d others (refusal_text p (i + length (d ∷ others)) q) (ap (λ k. refusal_text p k o) (sym same) ∙ e))
  lists_told i (c ∷ list) [] o q is fit a also small b e =
      let same : i + 0 ≡ i = omega arith in
      absurd (ends_apart i q c list (refusal_text p (i + length (c ∷ list)) o) (ap (λ k. refusal_text p k q) (sym same) ∙ sym e))
  lists_told i (c ∷ list) (d ∷ others) o q is fit a also small b e =
      let r = refusal_text p (i + length (c ∷ list)) o in
      let s = refusal_text p (i + length (d ∷ others)) q in
      let name = function_name p i in
      let N = IsNamed (length p.bases) in
      let whole = sym (append_assoc (yes_text p.bases name c) (yes_lines (suc i) list) r) ∙ e ∙ append_assoc (yes_text p.bases name d) (yes_lines (suc i) others) s in
      let first =
      yes_cut p formed name c d (yes_lines (suc i) list ++ r) (yes_lines (suc i) others ++ s) (All-head N c list is) (All-head FitsYes c list fit) (All-head N d others also) (All-head FitsYes d others small)
      (next_lines (suc i) list r (next_refusal (i + length (c ∷ list)) o)) (next_lines (suc i) others s (next_refusal (i + length (d ∷ others)) q)) whole in
      let one : i + length (c ∷ list) ≡ suc i + length list = omega arith in
      let other : i + length (d ∷ others) ≡ suc i + length others = omega arith in
      let rest = lists_told (suc i) list others o q (All-tail N c list is) (All-tail FitsYes c list fit) a (All-tail N d others also) (All-tail FitsYes d others small) b
      (ap (λ k. yes_lines (suc i) list ++ refusal_text p k o) (sym one) ∙ first.1 ∙ ap (λ k. yes_lines (suc i) others ++ refusal_text p k q) other) in
      let head = first.0 in
      let tail = rest.0 in
      ((λ i. head i ∷ tail i), rest.1)

pub texts_determine_certificates : TextsDetermineCertificates
texts_determine_certificates p list others refusal other formed is fit a also small b e =
    let one : 0 + length list ≡ length list = omega arith in
    let more : 0 + length others ≡ length others = omega arith in
    lists_told p formed 0 list others refusal other is fit a also small b
    (ap (λ k. yes_lines p formed 0 list ++ refusal_text p k refusal) one ∙ e ∙ ap (λ k. yes_lines p formed 0 others ++ refusal_text p k other) (sym more))
