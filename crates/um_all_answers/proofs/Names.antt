-- Names of base units and functions: which characters they lack.
use Rattle.std.proofs.Common.{◌≡◌, ◌≢◌, ℕ, suc, ◌+◌, ◌-◌, ◌^◌, ◌<◌, ◌≤◌, eqb, true, false, inl, inr, List, [], ◌∷◌, ◌++◌, map, length, length-append, get_or, slice_get, Option, None, Some, refl, sym, ap, ◌∙◌, subst, arith, lit<}
use Rattle.std.specs.Char.{is_ascii_digit}
use Rattle.std.specs.Fmt.{decimal}
use Rattle.std.specs.List.{range_with_len}
use Rattle.std.specs.Option.{option_map}
use Rattle.std.specs.Str.{encode_utf8_all, NonePass}
use Rattle.std.proofs.lemmas.Bool.{cases_lt, ne_eqb}
use Rattle.std.proofs.lemmas.Fmt.{decimal_injective}
use Rattle.std.proofs.lemmas.List.{get_or_append_left, get_or-append_right}
use Rattle.std.proofs.lemmas.List.FromFn.{get_or-map-range_with_len}
use Rattle.std.proofs.lemmas.Option.{slice_get-get_or, slice_get-map}
use Rattle.std.proofs.lemmas.Str.{char_from_byte, length-le-encodes}
use Rattle.std.proofs.lemmas.Str.Pattern.{NoCharPasses-char}
use Rattle.unicode_ident.specs.Ident.{is_xid_continue}
use Rattle.unicode_ident.proofs.IdentLemmas.{is_xid_start-ascii, is_xid_continue-ascii}
use Rattle.um_tree.specs.ProgramTree.{FunctionTree, RecordTree, ProgramTree}
use Rattle.um_tree.specs.Formed.{starts_name, AllContinue, IsIdentifier, IsNameBytes, IsFormed}
use Rattle.um_show.specs.UnitText.{base_name}
use Rattle.um_certificates.specs.CertificateText.{parameter_name, with_parameters, name_of, function_name}
use Rattle.um_all_answers.proofs.Cuts.{Lacks, lacks_decimal}

-- ---- marks, which stand in no name and no number

pub record IsMark (m : ℕ) : Type 0 where
  pub start : starts_name m ≡ false
  pub continue : is_xid_continue m ≡ false
  pub digit : is_ascii_digit m ≡ false
  pub dollar : 36 ≢ m
  pub low : m < 97

-- what is asked of the name of a base unit
pub record IsPlain (x : List ℕ) : Type 0 where
  pub marks : (m : ℕ) → IsMark m → Lacks m x
  pub quote : Lacks 39 x
  pub some : [] ≢ x
  pub no_one : 49 ∷ [] ≢ x

-- ---- identifiers

continue_passes : (m : ℕ) → is_xid_continue m ≡ false → (cs : List ℕ) → AllContinue cs → NonePass (λ d. eqb d m) cs
continue_passes m goes [] h = tt
continue_passes m goes (c ∷ cs) h = (ne_eqb c m (λ e. let t : true ≡ false = sym h.0 ∙ ap is_xid_continue e ∙ goes in cc t), continue_passes m goes cs h.1)

identifier_passes : (m : ℕ) → starts_name m ≡ false → is_xid_continue m ≡ false → (cs : List ℕ) → IsIdentifier cs → NonePass (λ d. eqb d m) cs
identifier_passes m start goes [] h = absurd h
identifier_passes m start goes (c ∷ cs) h = (ne_eqb c m (λ e. let t : true ≡ false = sym h.0 ∙ ap starts_name e ∙ start in cc t), continue_passes m goes cs h.1)

lacks_at : (m : ℕ) (x : List ℕ) → ((i : ℕ) → i < length x → get_or x i 0 ≢ m) → Lacks m x
lacks_at m [] each = tt
lacks_at m (c ∷ cs) each = (each 0 (omega arith), lacks_at m cs (λ i l. each (suc i) (omega (arith, l))))

pub name_lacks : (m : ℕ) → starts_name m ≡ false → is_xid_continue m ≡ false → m < 128 → (x : List ℕ) → IsNameBytes x → Lacks m x
name_lacks m start goes low x h = lacks_at m x (λ i l. NoCharPasses-char m x i (h.text, sym h.is, identifier_passes m start goes h.text h.identifier) low l)

-- the first character of a name is no digit
first_start : (cs x : List ℕ) → x ≡ encode_utf8_all cs → IsIdentifier cs → 49 ∷ [] ≡ x → ⊥
first_start [] x is h e = h
first_start (c ∷ cs) x is h e =
    let same : c ≡ 49 = char_from_byte (49 ∷ []) (encode_utf8_all cs) c (e ∙ is) (omega arith) (omega arith) in
    let t : true ≡ false = sym h.0 ∙ ap starts_name same ∙ is_xid_start-ascii 49 (lit< tt) in
    cc t

some_start : (cs x : List ℕ) → x ≡ encode_utf8_all cs → IsIdentifier cs → [] ≡ x → ⊥
some_start [] x is h e = h
some_start (c ∷ cs) x is h e = let long = length-le-encodes (c ∷ cs) in let same = ap length (e ∙ is) in omega (arith, long, same)

pub plain_name : (x : List ℕ) → IsNameBytes x → IsPlain x
plain_name x h = record {
  marks = λ m is. name_lacks m is.start is.continue (let l = is.low in omega (arith, l)) x h;
  quote = name_lacks 39 (is_xid_start-ascii 39 (lit< tt)) (is_xid_continue-ascii 39 (lit< tt)) (omega arith) x h;
  some = some_start h.text x h.is h.identifier;
  no_one = first_start h.text x h.is h.identifier;
}

-- ---- the names of all base units

pub record ArePlain (bases : List (List ℕ)) (n : ℕ) : Type 0 where
  pub plain : (k : ℕ) → k < n → IsPlain (base_name bases k)
  pub once : (j k : ℕ) → j < n → k < n → base_name bases j ≡ base_name bases k → j ≡ k

module _ (p : ProgramTree) (formed : IsFormed p) where
  abbrev others : List (List ℕ)
  others = map (λ (d : RecordTree). d.name) p.records

  base_at : (k : ℕ) → k < length p.bases → slice_get (p.bases ++ others) k ≡ Some (base_name p.bases k)
  base_at k low = slice_get-get_or (p.bases ++ others) k [] (let l = length-append p.bases others in omega (arith, l, low)) ∙ ap Some (get_or_append_left p.bases others [] k low)

  base_is_name : (k : ℕ) → k < length p.bases → IsNameBytes (base_name p.bases k)
  base_is_name k low = formed.names k (base_name p.bases k) (base_at k low)

  base_once : (j k : ℕ) → j < length p.bases → k < length p.bases → base_name p.bases j ≡ base_name p.bases k → j ≡ k
  base_once j k a b e = formed.once j k (base_name p.bases k) (base_at j a ∙ ap Some e) (base_at k b)

  pub bases_plain : ArePlain p.bases (length p.bases)
  bases_plain = record { plain = λ k low. plain_name (base_name p.bases k) (base_is_name k low); once = base_once }

  -- ---- and of unit parameters
  parameter_plain : (k : ℕ) → k < 2 ^ 32 → IsPlain (parameter_name k)
  parameter_plain k small = record {
    marks = λ m is. (is.dollar, lacks_decimal m k is.digit (omega (arith, small)));
    quote = ((λ e. omega (arith, e)), lacks_decimal 39 k refl (omega (arith, small)));
    some = λ e. cc e;
    no_one = λ e. let f : ◌≡◌ {A = ℕ} 49 36 = cc e in omega (arith, f);
  }

  module _ (n : ℕ) (small : n < 2 ^ 32) where
    abbrev names : List (List ℕ)
    names = with_parameters p.bases n

    declared_name : (k : ℕ) → k < length p.bases → base_name names k ≡ base_name p.bases k
    declared_name k low = get_or_append_left p.bases (map parameter_name (range_with_len 0 n)) [] k low

    own_name : (k : ℕ) → length p.bases ≤ k → k < length p.bases + n → base_name names k ≡ parameter_name (k - length p.bases)
    own_name k high low =
        get_or-append_right p.bases (map parameter_name (range_with_len 0 n)) (length p.bases) k [] refl high
        ∙ get_or-map-range_with_len parameter_name 0 n (k - length p.bases) (k - length p.bases) [] (omega (arith, high, low)) (omega arith)

    -- a declared name doesn't begin as that of a parameter
    apart : (j k : ℕ) → j < length p.bases → base_name p.bases j ≡ parameter_name k → ⊥
    apart j k low e = (subst (Lacks 36) e (name_lacks 36 (is_xid_start-ascii 36 (lit< tt)) (is_xid_continue-ascii 36 (lit< tt)) (omega arith) (base_name p.bases j) (base_is_name j low))).0 refl

    parameters_once : (j k : ℕ) → j < length p.bases + n → k < length p.bases + n → base_name names j ≡ base_name names k → j ≡ k
    parameters_once j k a b e = elim (cases_lt j (length p.bases)) [
      | inl low ↦ elim (cases_lt k (length p.bases)) [
        | inl small ↦ base_once j k low small (sym (declared_name j low) ∙ e ∙ declared_name k small)
        | inr high ↦ absurd (apart j (k - length p.bases) low (sym (declared_name j low) ∙ e ∙ own_name k high b))
      ]
      | inr high ↦ elim (cases_lt k (length p.bases)) [
        | inl low ↦ absurd (apart k (j - length p.bases) low (sym (declared_name k low) ∙ sym e ∙ own_name j high a))
        | inr also ↦
            let same : 36 ∷ decimal (j - length p.bases) ≡ 36 ∷ decimal (k - length p.bases) = sym (own_name j high a) ∙ e ∙ own_name k also b in
            let digits : decimal (j - length p.bases) ≡ decimal (k - length p.bases) = cc same in
            let number = decimal_injective (j - length p.bases) (k - length p.bases) (omega (arith, a, small)) (omega (arith, b, small)) digits in
            omega (arith, high, also, number)
      ]
    ]

    pub parameters_plain : ArePlain names (length p.bases + n)
    parameters_plain = record {
      plain = λ k low. elim (cases_lt k (length p.bases)) [
        | inl inside ↦ subst IsPlain (sym (declared_name k inside)) (plain_name (base_name p.bases k) (base_is_name k inside))
        | inr high ↦ subst IsPlain (sym (own_name k high low)) (parameter_plain (k - length p.bases) (omega (arith, low, high, small)))
      ];
      once = parameters_once;
    }

  -- ---- functions
  pub function_lacks : (i : ℕ) → Lacks 32 (function_name p i)
  function_lacks i = by (slice_get p.functions i) refl where
    by : (o : Option FunctionTree) → slice_get p.functions i ≡ o → Lacks 32 (name_of o)
    by None e = tt
    by (Some f) e =
        name_lacks 32 (is_xid_start-ascii 32 (lit< tt)) (is_xid_continue-ascii 32 (lit< tt)) (omega arith) f.name
        (formed.names_of_functions i f.name (slice_get-map (λ (f : FunctionTree). f.name) p.functions i ∙ ap (option_map (λ (f : FunctionTree). f.name)) e))

-- a name, and then a space and a word, is no line that begins with two spaces
pub name_apart : (x : List ℕ) (c : ℕ) (t s : List ℕ) → Lacks 32 x → 32 ≢ c → x ++ 32 ∷ c ∷ t ≡ 32 ∷ 32 ∷ s → ⊥
name_apart [] c t s lacks word e = let same : c ≡ 32 = cc e in word (sym same)
name_apart (d ∷ ds) c t s lacks word e = let same : d ≡ 32 = cc e in lacks.0 same
