-- The program of a text that was read is formed.
use Rattle.std.proofs.Common.{◌≡◌, ℕ, ◌≤◌, ◌+◌, Bool, true, false, ◌||◌, List, [], ◌∷◌, ◌++◌, map, length, refl, sym, ap, subst, ◌∙◌, arith, inl, inr, Ok, append_assoc, append-nil, length-append}
use Rattle.std.specs.Prelude.{Some, All, slice_get}
use Rattle.std.proofs.lemmas.List.{map-append}
use Rattle.std.proofs.lemmas.List.Elements.{All-nil, All-cons, All-append}
use Rattle.um_units.specs.PowerMap.{PowerMap}
use Rattle.um_tree.specs.TreeHeights.{type_tree_height}
use Rattle.um_tree.specs.ProgramTree.{FieldTree, RecordTree, FunctionTree}
use Rattle.um_tree.specs.Formed.{IsNameBytes, AreNames, IsUnitIn, IsTypeIn, NamesEarlier, IsFormedRecord, IsFormedFunction}
use Rattle.um_tree.specs.RawTree.{VarSyntax, FieldDeclSyntax}
use Rattle.um_tree.specs.Heights.{greatest_height}
use Rattle.um_measures.specs.Faults.{and_then, unless_taken}
use Rattle.um_measures.specs.Known.{Known, nothing, is_among, is_taken, short_names, record_names, function_names, names_of_fields, field_names}
use Rattle.um_names.specs.TypeNames.{resolved_type, written_type}
use Rattle.um_names.specs.Resolution.{resolved_parameters, resolved_field_decls, resolved_record_decl, with_base, with_short, with_record}
use Rattle.um_names.specs.Readable.{AreReadFieldDecls, IsReadRecord}
use Rattle.um_names.proofs.FormedUnits.{AreClosedIn, closed_none, closed_more, closed_last}
use Rattle.um_names.proofs.FormedTypes.{then_found, type_in, type_written, height_written, earlier_written}
use Rattle.um_names.proofs.FormedNames.{AreFresh, neither, absent_append, fresh_inserted, names-append, names-one, names-none}
use Rattle.um_names.proofs.FormedMore.{record_more, function_more, extends_base, extends_record, slice_get-split}

-- what is known is formed, limits of numbers aside
pub record IsSound (known : Known) : Type 0 where
  pub closed : AreClosedIn (length known.program.bases) known.shorts
  pub names_of_bases : AreNames known.program.bases
  pub names_of_records : AreNames (record_names known.program.records)
  pub once : AreFresh (known.program.bases ++ record_names known.program.records)
  pub names_of_fields : AreNames (field_names known.program.records)
  pub fields_once : AreFresh (field_names known.program.records)
  pub names_of_functions : AreNames (function_names known.program.functions)
  pub functions_once : AreFresh (function_names known.program.functions)
  pub records : (r : ℕ) (d : RecordTree) → slice_get known.program.records r ≡ Some d → IsFormedRecord known.program r d
  pub functions : (i : ℕ) (f : FunctionTree) → slice_get known.program.functions i ≡ Some f → IsFormedFunction known.program i f

pub nothing_sound : IsSound nothing
nothing_sound = record {
  closed = closed_none 0;
  names_of_bases = names-none;
  names_of_records = names-none;
  once = tt;
  names_of_fields = names-none;
  fields_once = tt;
  names_of_functions = names-none;
  functions_once = tt;
  records = λ r d e. absurd cc;
  functions = λ i f e. absurd cc;
}

pub not_taken : (b : Bool) (at : ℕ) (u : Unit {0}) → unless_taken b at ≡ Ok u → b ≡ false
not_taken true at u e = absurd cc
not_taken false at u e = refl

-- a name that isn't taken is no base unit's and no record's
absent : (known : Known) (x : List ℕ) → is_taken known x ≡ false → is_among (known.program.bases ++ record_names known.program.records) x ≡ false
absent known x e =
    let a = neither (is_among known.program.bases x) (is_among (short_names known.shorts) x || is_among (record_names known.program.records) x) e in
    let b = neither (is_among (short_names known.shorts) x) (is_among (record_names known.program.records) x) a.1 in
    absent_append known.program.bases (record_names known.program.records) x a.0 b.1

-- ---- measures

pub base_sound : (known : Known) (x : List ℕ) → IsSound known → IsNameBytes x → is_taken known x ≡ false → IsSound (with_base known x)
base_sound known x s name new =
    let e = extends_base known.program x in
    let q = (with_base known x).program in
    let ns = record_names known.program.records in
    record {
      closed = closed_more (length known.program.bases) (length q.bases) known.shorts e.bases s.closed;
      names_of_bases = names-append known.program.bases (x ∷ []) s.names_of_bases (names-one x name);
      names_of_records = s.names_of_records;
      once = subst AreFresh (sym (append_assoc known.program.bases (x ∷ []) ns)) (fresh_inserted known.program.bases ns x s.once (absent known x new));
      names_of_fields = s.names_of_fields;
      fields_once = s.fields_once;
      names_of_functions = s.names_of_functions;
      functions_once = s.functions_once;
      records = λ r d h. record_more known.program q e r d (s.records r d h);
      functions = λ i f h. function_more known.program q e i f (s.functions i f h);
    }

pub short_sound : (known : Known) (x : List ℕ) (u : PowerMap) → IsSound known → IsUnitIn (length known.program.bases) 0 u → IsSound (with_short known x u)
short_sound known x u s h = record {
  closed = closed_last (length known.program.bases) known.shorts (record { name = x; unit = u }) s.closed h;
  names_of_bases = s.names_of_bases;
  names_of_records = s.names_of_records;
  once = s.once;
  names_of_fields = s.names_of_fields;
  fields_once = s.fields_once;
  names_of_functions = s.names_of_functions;
  functions_once = s.functions_once;
  records = s.records;
  functions = s.functions;
}

-- ---- records

-- there are as many unit parameters as the text has
pub parameters-count : (before : List (List ℕ)) (vs : List VarSyntax) (names : List (List ℕ)) → resolved_parameters before vs ≡ Ok names → length names ≡ length before + length vs
parameters-count before [] names e = let same : before ≡ names = cc e in ap length (sym same) ∙ omega arith
parameters-count before (v ∷ vs) names e =
    let w = then_found (unless_taken (is_among before v.name) v.at) (λ _. resolved_parameters (before ++ v.name ∷ []) vs) names e in
    let rest = parameters-count (before ++ v.name ∷ []) vs names w.2 in
    let more = length-append before (v.name ∷ []) in
    omega (arith, rest, more)

abbrev names_in : List FieldTree → List (List ℕ)
names_in fs = map (λ g. g.name) fs

module _ (known : Known) (variables : List (List ℕ)) (s : IsSound known) where
  abbrev IsField : FieldTree → Type 0
  IsField f =
      IsTypeIn (length known.program.bases) (length variables) known.program.records f.type × NamesEarlier (length known.program.records) f.type × (type_tree_height f.type ≤ greatest_height)

  record AreFields (fs : List FieldTree) (n : ℕ) : Type 0 where
    pub each : All IsField fs
    pub names : AreNames (names_in fs)
    pub once : AreFresh (field_names known.program.records ++ names_in fs)
    pub many : length fs ≡ n

  field_pushed : (before : List FieldTree) (f : FieldTree) (n : ℕ) → AreFields before n → IsField f → IsNameBytes f.name → is_among (field_names known.program.records) f.name ≡ false → is_among (names_in before) f.name ≡ false → AreFields (before ++ f ∷ []) (n + 1)
  field_pushed before f n w h name new own =
      let pushed : names_in (before ++ f ∷ []) ≡ names_in before ++ f.name ∷ [] = map-append (λ g. g.name) before (f ∷ []) in
      let all = field_names known.program.records in
      let there : is_among ((all ++ names_in before) ++ []) f.name ≡ false = ap (λ (ns : List (List ℕ)). is_among ns f.name) (append-nil (all ++ names_in before)) ∙ absent_append all (names_in before) f.name new own in
      let fresh : AreFresh ((all ++ names_in before) ++ f.name ∷ []) = fresh_inserted (all ++ names_in before) [] f.name (subst AreFresh (sym (append-nil (all ++ names_in before))) w.once) there in
      record {
        each = All-append IsField before (f ∷ []) w.each (All-cons IsField f [] h (All-nil IsField));
        names = subst AreNames (sym pushed) (names-append (names_in before) (f.name ∷ []) w.names (names-one f.name name));
        once = subst AreFresh (append_assoc all (names_in before) (f.name ∷ []) ∙ ap (λ (ns : List (List ℕ)). all ++ ns) (sym pushed)) fresh;
        many = length-append before (f ∷ []) ∙ ap (λ k. k + 1) w.many;
      }

  fields_sound : (before : List FieldTree) (raw : List FieldDeclSyntax) (fs : List FieldTree) (n : ℕ) → AreFields before n → AreReadFieldDecls raw → resolved_field_decls known variables before raw ≡ Ok fs → AreFields fs (n + length raw)
  fields_sound before [] fs n w r e = let same : before ≡ fs = cc e in subst (λ gs. AreFields gs (n + 0)) same (subst (AreFields before) (omega arith) w)
  fields_sound before (f ∷ raw) fs n w r e =
      let taken = is_among (field_names known.program.records) f.name || is_among (names_in before) f.name in
      let a = then_found (unless_taken taken f.at) (λ _. and_then (resolved_type known variables false f.type) (λ m. resolved_field_decls known variables (before ++ record { name = f.name; type = written_type m } ∷ []) raw)) fs e in
      let b = then_found (resolved_type known variables false f.type) (λ m. resolved_field_decls known variables (before ++ record { name = f.name; type = written_type m } ∷ []) raw) fs a.2 in
      let free = neither (is_among (field_names known.program.records) f.name) (is_among (names_in before) f.name) (not_taken taken f.at a.0 a.1) in
      let type = type_in known variables false s.closed f.type b.0 b.1 in
      let bases = length known.program.bases in
      let field : IsField (record { name = f.name; type = written_type (b.0) }) = (
        type_written bases (length variables) known.program.records b.0 type.0,
        earlier_written bases (length variables) known.program.records b.0 type.0,
        (let h = height_written b.0 in omega (arith, h, type.1, r.1)),
      ) in
      subst (AreFields fs) (omega arith)
      (fields_sound (before ++ record { name = f.name; type = written_type (b.0) } ∷ []) raw fs (n + 1) (field_pushed before (record { name = f.name; type = written_type (b.0) }) n w field r.0 free.0 free.1) r.2 b.2)

field_names-more : (ds : List RecordTree) (d : RecordTree) → field_names (ds ++ d ∷ []) ≡ field_names ds ++ names_of_fields d
field_names-more [] d = append-nil (names_of_fields d)
field_names-more (e ∷ ds) d = ap (λ (ns : List (List ℕ)). names_of_fields e ++ ns) (field_names-more ds d) ∙ sym (append_assoc (names_of_fields e) (field_names ds) (names_of_fields d))

pub record_sound : (known : Known) (at : ℕ) (x : List ℕ) (vs : List VarSyntax) (raw : List FieldDeclSyntax) (d : RecordTree) → IsSound known → IsReadRecord x vs raw → resolved_record_decl known at x vs raw ≡ Ok d → IsSound (with_record known d)
record_sound known at x vs raw d s r e =
    let a = then_found (unless_taken (is_taken known x) at) (λ _. and_then (resolved_parameters [] vs) (λ variables. and_then (resolved_field_decls known variables [] raw) (λ fields. Ok (record { name = x; at = at; units = length variables; fields = fields })))) d e in
    let b = then_found (resolved_parameters [] vs) (λ variables. and_then (resolved_field_decls known variables [] raw) (λ fields. Ok (record { name = x; at = at; units = length variables; fields = fields }))) d a.2 in
    let c = then_found (resolved_field_decls known b.0 [] raw) (λ fields. Ok (record { name = x; at = at; units = length (b.0); fields = fields })) d b.2 in
    let same : (let z : RecordTree = record { name = x; at = at; units = length (b.0); fields = c.0 } in z) ≡ d = cc (c.2) in
    let all = field_names known.program.records in
    let start : AreFields known b.0 s [] 0 = record { each = All-nil (IsField known b.0 s); names = names-none; once = subst AreFresh (sym (append-nil all)) s.fields_once; many = refl } in
    subst (λ z. IsSound (with_record known z)) same (whole b.0 c.0 (not_taken (is_taken known x) at a.0 a.1) (parameters-count [] vs b.0 b.1) (fields_sound known b.0 s [] raw c.0 0 start r.fields c.1))
  where
    whole : (variables : List (List ℕ)) (fs : List FieldTree) → is_taken known x ≡ false → length variables ≡ 0 + length vs → AreFields known variables s fs (0 + length raw) → IsSound (with_record known (record { name = x; at = at; units = length variables; fields = fs }))
    whole variables fs new units w =
        let z : RecordTree = record { name = x; at = at; units = length variables; fields = fs } in
        let ds = known.program.records in
        let ns = known.program.bases ++ record_names ds in
        let q = (with_record known z).program in
        let extends = extends_record known.program z in
        let named : record_names (ds ++ z ∷ []) ≡ record_names ds ++ x ∷ [] = map-append (λ d. d.name) ds (z ∷ []) in
        let is_there : is_among (ns ++ []) x ≡ false = ap (λ (ms : List (List ℕ)). is_among ms x) (append-nil ns) ∙ absent known x new in
        let fresh : AreFresh (ns ++ x ∷ []) = fresh_inserted ns [] x (subst AreFresh (sym (append-nil ns)) s.once) is_there in
        let here : IsFormedRecord known.program (length ds) z = record {
          some_field = (let m = w.many in let l = r.some_field in omega (arith, m, l));
          few_fields = (let m = w.many in let l = r.few_fields in omega (arith, m, l));
          few_units = (let l = r.few_units in omega (arith, units, l));
          fields = w.each;
        } in
        record {
          closed = s.closed;
          names_of_bases = s.names_of_bases;
          names_of_records = subst AreNames (sym named) (names-append (record_names ds) (x ∷ []) s.names_of_records (names-one x r.name));
          once = subst AreFresh (append_assoc known.program.bases (record_names ds) (x ∷ []) ∙ ap (λ (ms : List (List ℕ)). known.program.bases ++ ms) (sym named)) fresh;
          names_of_fields = subst AreNames (sym (field_names-more ds z)) (names-append (field_names ds) (names_in fs) s.names_of_fields w.names);
          fields_once = subst AreFresh (sym (field_names-more ds z)) w.once;
          names_of_functions = s.names_of_functions;
          functions_once = s.functions_once;
          records = λ k d h. elim (slice_get-split ds z k d h) [
            | inl g ↦ record_more known.program q extends k d (s.records k d g)
            | inr g ↦ subst (λ y. IsFormedRecord q k y) g.1 (subst (λ n. IsFormedRecord q n z) (sym g.0) (record_more known.program q extends (length ds) z here))
          ];
          functions = λ i f h. function_more known.program q extends i f (s.functions i f h);
        }
