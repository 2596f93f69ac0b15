-- Formed programs and formed inputs: what the reader of a text promises, and what each call above asks for.
-- Source: this project's own rules and limits; names by Unicode Standard Annex 31.
use Rattle.std.specs.Prelude.{◌≡◌, ◌≢◌, ◌<◌, ◌≤◌, ◌+◌, ◌==◌, ◌||◌, ◌⊎◌, ℕ, Bool, true, All, IsTrue, IsSome, pos, List}
use Rattle.std.specs.Prelude.{[], ◌∷◌, ◌++◌, length, map, codes, slice_get, Option, Some, None}
use Rattle.std.specs.Str.{encode_utf8_all}
use Rattle.std.specs.List.{flat_map}
use Rattle.unicode_ident.specs.Ident.{is_xid_start, is_xid_continue}
use Rattle.um_units.specs.declared.Atom.TheVariants.{Base}
use Rattle.um_units.specs.PowerMap.{PowerMap, power_of}
use Rattle.um_units.specs.Variables.{IsClosed, VariablesBelow}
use Rattle.um_frac.specs.declared.number.Frac.{Frac}
use Rattle.um_frac.specs.Fraction.{numerator}
use Rattle.um_tree.specs.declared.note.UnitNote.{UnitNote}
use Rattle.um_tree.specs.declared.note.UnitNote.TheVariants.{Hole, Written}
use Rattle.um_tree.specs.TypeTree.{TypeTree, bool_type, num_type, list_type, record_type, NoteTree, bool_note}
use Rattle.um_tree.specs.TypeTree.{num_note, list_note, record_note}
use Rattle.um_tree.specs.ExprTree.{ExprTree, ExprTrees, truth, number, local, call, negate, not_expr, pown, arith}
use Rattle.um_tree.specs.ExprTree.{compare, both, either, if, bind, split, nil, list_expr, cons, record_expr, field}
use Rattle.um_tree.specs.ExprTree.{none, more}
use Rattle.um_tree.specs.ValueTree.{InputTree, InputTrees, truth_input, number_input, list_input, record_input}
use Rattle.um_tree.specs.ValueTree.{no_inputs, more_inputs}
use Rattle.um_tree.specs.ProgramTree.{RecordTree, FunctionTree, ProgramTree}
use Rattle.um_tree.specs.Heights.{greatest_height}
use Rattle.um_tree.specs.TreeHeights.{type_tree_height, note_tree_height, tree_height, tree_nodes}

-- ---- names

-- the words that are no names: the same list as that of the keywords among the tokens (um_syntax)
abbrev pub reserved_words : List (List ℕ)
reserved_words =
    codes "let" ∷ codes "rec" ∷ codes "in" ∷ codes "if" ∷ codes "then" ∷ codes "else" ∷ codes "match" ∷ codes "with"
    ∷ codes "type" ∷ codes "true" ∷ codes "false" ∷ codes "not" ∷ codes "num" ∷ codes "bool" ∷ codes "list"
    ∷ codes "Measure" ∷ codes "pown" ∷ []

-- `_` or a character that may start an identifier, and then characters that may continue one
abbrev pub starts_name : ℕ → Bool
starts_name c = c == 95 || is_xid_start c

abbrev pub AllContinue : List ℕ → Type 0
AllContinue [] = Unit {0}
AllContinue (c ∷ cs) = (is_xid_continue c ≡ true) × AllContinue cs

abbrev pub IsIdentifier : List ℕ → Type 0
IsIdentifier [] = ⊥
IsIdentifier (c ∷ cs) = (starts_name c ≡ true) × AllContinue cs

-- the bytes of an identifier that is neither a word nor `_` alone
pub record IsNameBytes (bytes : List ℕ) : Type 0 where
  pub text : List ℕ
  pub is : bytes ≡ encode_utf8_all text
  pub identifier : IsIdentifier text
  pub no_hole : text ≢ 95 ∷ []
  pub no_word : (k : ℕ) → slice_get reserved_words k ≡ Some text → ⊥

-- no two of these are equal
abbrev pub AreDistinct : List (List ℕ) → Type 0
AreDistinct xs = (i j : ℕ) (x : List ℕ) → slice_get xs i ≡ Some x → slice_get xs j ≡ Some x → i ≡ j

abbrev pub AreNames : List (List ℕ) → Type 0
AreNames xs = (k : ℕ) (x : List ℕ) → slice_get xs k ≡ Some x → IsNameBytes x

-- ---- units and types

-- each base unit of the unit is below n
abbrev pub BasesBelow : ℕ → PowerMap → Type 0
BasesBelow n u = (k : ℕ) → power_of u (Base k) ≢ pos 0 → k < n

-- the base units and the variables that the unit names exist
abbrev pub IsUnitIn : ℕ → ℕ → PowerMap → Type 0
IsUnitIn bases vars u = BasesBelow bases u × VariablesBelow vars u

abbrev pub IsNoteIn : ℕ → ℕ → UnitNote → Type 0
IsNoteIn bases vars Hole = Unit {0}
IsNoteIn bases vars (Written u) = IsUnitIn bases vars u

-- the record of this number is one of these and takes so many units
abbrev pub TakesUnits : List RecordTree → ℕ → ℕ → Type 0
TakesUnits records r n = (d : RecordTree) × (slice_get records r ≡ Some d) × (n ≡ d.units)

-- a type over these base units, variables and records
abbrev pub IsTypeIn : ℕ → ℕ → List RecordTree → TypeTree → Type 0
IsTypeIn bases vars records bool_type = Unit {0}
IsTypeIn bases vars records (num_type u) = IsUnitIn bases vars u
IsTypeIn bases vars records (list_type t) = IsTypeIn bases vars records t
IsTypeIn bases vars records (record_type r us) =
    TakesUnits records r (length us) × All (IsUnitIn bases vars) us

abbrev pub IsNoteTreeIn : ℕ → ℕ → List RecordTree → NoteTree → Type 0
IsNoteTreeIn bases vars records bool_note = Unit {0}
IsNoteTreeIn bases vars records (num_note n) = IsNoteIn bases vars n
IsNoteTreeIn bases vars records (list_note n) = IsNoteTreeIn bases vars records n
IsNoteTreeIn bases vars records (record_note r ns) =
    TakesUnits records r (length ns) × All (IsNoteIn bases vars) ns

-- ---- expressions

-- a number with a hole is 0, and a written unit is closed, of declared base units
abbrev pub IsLiteral : ℕ → Frac → UnitNote → Type 0
IsLiteral bases c Hole = numerator c ≡ pos 0
IsLiteral bases c (Written u) = IsClosed u × BasesBelow bases u

abbrev pub count : ExprTrees → ℕ
count none = 0
count (more e es) = count es + 1

-- in function i: an earlier function, or a `rec` function itself, with the declared number of arguments
pub record MayCall (p : ProgramTree) (i : ℕ) (recursive : Bool) (j n : ℕ) : Type 0 where
  pub function : FunctionTree
  pub known : (j < i) ⊎ ((j ≡ i) × IsTrue recursive)
  pub declared : slice_get p.functions j ≡ Some function
  pub arguments : n ≡ length function.params

-- record r has so many fields
abbrev pub HasFields : ProgramTree → ℕ → ℕ → Type 0
HasFields p r n = (d : RecordTree) × (slice_get p.records r ≡ Some d) × (n ≡ length d.fields)

-- record r has a field of this number
abbrev pub HasField : ProgramTree → ℕ → ℕ → Type 0
HasField p r k = (d : RecordTree) × (slice_get p.records r ≡ Some d) × (k < length d.fields)

module _ (p : ProgramTree) (i : ℕ) (f : FunctionTree) where
  abbrev mutual
    -- the names of the expression exist, when so many variables stand in the scope
    pub IsFormedIn : ℕ → ExprTree → Type 0
    IsFormedIn n (truth at b) = Unit {0}
    IsFormedIn n (number at c note) = IsLiteral (length p.bases) c note
    IsFormedIn n (local at k) = k < n
    IsFormedIn n (call at j es) = MayCall p i f.recursive j (count es) × AllFormedIn n es
    IsFormedIn n (negate at a) = IsFormedIn n a
    IsFormedIn n (not_expr at a) = IsFormedIn n a
    IsFormedIn n (pown at a k) = IsFormedIn n a
    IsFormedIn n (arith at op a b) = IsFormedIn n a × IsFormedIn n b
    IsFormedIn n (compare at sign a b) = IsFormedIn n a × IsFormedIn n b
    IsFormedIn n (both at a b) = IsFormedIn n a × IsFormedIn n b
    IsFormedIn n (either at a b) = IsFormedIn n a × IsFormedIn n b
    IsFormedIn n (if at c a b) = IsFormedIn n c × IsFormedIn n a × IsFormedIn n b
    IsFormedIn n (bind at a b) = IsFormedIn n a × IsFormedIn (n + 1) b
    IsFormedIn n (split at l a b) = IsFormedIn n l × IsFormedIn n a × IsFormedIn (n + 2) b
    IsFormedIn n (nil at note) =
        IsNoteTreeIn (length p.bases) f.named p.records note × (note_tree_height note ≤ greatest_height)
    IsFormedIn n (list_expr at es) = (0 < count es) × AllFormedIn n es
    IsFormedIn n (cons at a b) = IsFormedIn n a × IsFormedIn n b
    IsFormedIn n (record_expr at r es) = HasFields p r (count es) × AllFormedIn n es
    IsFormedIn n (field at r k a) = HasField p r k × IsFormedIn n a

    pub AllFormedIn : ℕ → ExprTrees → Type 0
    AllFormedIn n none = Unit {0}
    AllFormedIn n (more e es) = IsFormedIn n e × AllFormedIn n es

-- ---- declarations

-- each record that the type names is below r
abbrev pub NamesEarlier : ℕ → TypeTree → Type 0
NamesEarlier r bool_type = Unit {0}
NamesEarlier r (num_type u) = Unit {0}
NamesEarlier r (list_type t) = NamesEarlier r t
NamesEarlier r (record_type q us) = q < r

-- the type of a field of record r, which takes so many units: the field names earlier records alone
abbrev pub IsFieldType : ProgramTree → ℕ → ℕ → TypeTree → Type 0
IsFieldType p r units t =
    IsTypeIn (length p.bases) units p.records t × NamesEarlier r t × (type_tree_height t ≤ greatest_height)

-- record r of the program
pub record IsFormedRecord (p : ProgramTree) (r : ℕ) (d : RecordTree) : Type 0 where
  pub some_field : 0 < length d.fields
  pub few_fields : length d.fields ≤ 32
  pub few_units : d.units ≤ 4
  pub fields : All (λ f. IsFieldType p r d.units f.type) d.fields

-- a note of the function
abbrev pub IsFormedNote : ProgramTree → FunctionTree → NoteTree → Type 0
IsFormedNote p f n = IsNoteTreeIn (length p.bases) f.named p.records n × (note_tree_height n ≤ greatest_height)

abbrev pub ResultFormed : ProgramTree → FunctionTree → Option NoteTree → Type 0
ResultFormed p f None = Unit {0}
ResultFormed p f (Some n) = IsFormedNote p f n

-- function i of the program
pub record IsFormedFunction (p : ProgramTree) (i : ℕ) (f : FunctionTree) : Type 0 where
  pub few_params : length f.params ≤ 16
  pub few_units : f.units ≤ 4
  pub units : f.units ≤ f.named
  pub params : All (IsFormedNote p f) f.params
  pub result : ResultFormed p f f.result
  pub noted : IsTrue f.recursive → IsSome f.result
  pub body : IsFormedIn p i f (length f.params) f.body
  pub height : tree_height f.body ≤ greatest_height
  pub nodes : tree_nodes f.body ≤ 20000

abbrev pub field_names : List RecordTree → List (List ℕ)
field_names records = flat_map (λ d. map (λ f. f.name) d.fields) records

-- each name is taken once in its space: base units and records share one, fields and functions have one each
pub record IsFormed (p : ProgramTree) : Type 0 where
  pub few_bases : length p.bases ≤ 16777216
  pub few_records : length p.records ≤ 16777216
  pub few_functions : length p.functions ≤ 2000
  pub names : AreNames (p.bases ++ map (λ d. d.name) p.records)
  pub once : AreDistinct (p.bases ++ map (λ d. d.name) p.records)
  pub names_of_fields : AreNames (field_names p.records)
  pub fields_once : AreDistinct (field_names p.records)
  pub names_of_functions : AreNames (map (λ f. f.name) p.functions)
  pub functions_once : AreDistinct (map (λ f. f.name) p.functions)
  pub records : (r : ℕ) (d : RecordTree) → slice_get p.records r ≡ Some d → IsFormedRecord p r d
  pub functions : (i : ℕ) (f : FunctionTree) → slice_get p.functions i ≡ Some f → IsFormedFunction p i f

-- ---- inputs

-- a number with a hole is 0, and a written unit holds declared base units alone
abbrev mutual
  pub IsFormedInput : ℕ → InputTree → Type 0
  IsFormedInput bases (truth_input b) = Unit {0}
  IsFormedInput bases (number_input c n) = IsLiteral bases c n
  IsFormedInput bases (list_input is) = AreFormedInputs bases is
  IsFormedInput bases (record_input r is) = AreFormedInputs bases is

  pub AreFormedInputs : ℕ → InputTrees → Type 0
  AreFormedInputs bases no_inputs = Unit {0}
  AreFormedInputs bases (more_inputs i is) = IsFormedInput bases i × AreFormedInputs bases is
