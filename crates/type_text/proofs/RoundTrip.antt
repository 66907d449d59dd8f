-- What its text represents in full is parsed from it, part by part.
use Rattle.std.proofs.Common.{◌≡◌, ℕ, zero, suc, ◌+◌, ◌^◌, ◌≤◌, ◌<◌, ℤ, pos, negsuc, Bool, true, false, cond, eqb, leb, ltb, List, [], ◌∷◌, ◌++◌, codes, decimal, length, length-append, get_or, Option, Some, None, Result, Ok, refl, sym, ap, ◌∙◌, append_assoc, append-nil, arith, inl, inr}
use Rattle.std.specs.Char.{digit_value, is_ascii_digit}
use Rattle.std.specs.Option.{option_to_list}
use Rattle.std.specs.Str.{bytes_eq}
use Rattle.std.proofs.lemmas.Slice.Eq.{bytes_eq-Decides}
use Rattle.nest_memory.specs.TypeOf.{field_trees}
use Rattle.nest_memory.specs.declared.datatypes.UnionMode.{UnionMode}
use Rattle.nest_memory.specs.declared.datatypes.UnionMode.TheVariants.{Dense, Sparse}
use Rattle.type_text.proofs.FieldRows.{id_text, ids_after, later_rows, rows, struct-rows, union-rows}
use Rattle.std.specs.List.{prefix_len}
use Rattle.std.specs.Prelude.{◌⊎◌, is_some, not}
use Rattle.std.specs.Str.Parse.{AllDigits}
use Rattle.std.proofs.lemmas.Bool.{and_from, cases_lt, le-leb, lt-ltb, ne_eqb}
use Rattle.std.proofs.lemmas.Fmt.{decimal_digit, decimal_is_IsNumeral, decimal_nonempty, first_decimal}
use Rattle.std.proofs.lemmas.List.{drop_at, take_at}
use Rattle.std.proofs.lemmas.Str.Parse.{digit_from_value}
use Rattle.nest_memory.specs.TypeText.{entries_end, text_of_entries, text_of_fields, text_of_picks, unusual, text_of_type, text_of_field, nullable_text, unit_text, integer_text, order_text, precision_text, extension_text}
use Rattle.nest_memory.specs.FloatLaws.{float_is}
use Rattle.nest_memory.specs.Floats.{spec_float_type, spec_precision_of}
use Rattle.nest_memory.specs.TypeTree as types
use Rattle.nest_memory.specs.TypeTree.{Entries, Letters, TypeTree, FieldTree, FieldTrees, count_fields, field, more_fields, no_fields}
use Rattle.nest_memory.specs.declared.datatypes.floats.Precision.{Precision}
use Rattle.nest_memory.specs.declared.datatypes.floats.Precision.TheVariants.{Half, Single, Double}
use Rattle.nest_memory.specs.declared.datatypes.IntegerType.TheVariants as integers
use Rattle.nest_memory.specs.declared.datatypes.IntegerType.{IntegerType}
use Rattle.nest_memory.specs.declared.datatypes.TimeUnit.{TimeUnit}
use Rattle.nest_memory.specs.declared.datatypes.TimeUnit.TheVariants.{Second, Millisecond, Microsecond, Nanosecond}
use Rattle.nest_memory.specs.declared.datatypes.IntervalUnit.TheVariants.{YearMonth, DayTime, MonthDayNano}
use Rattle.type_text.specs.declared.error.SyntaxError.{SyntaxError}
use Rattle.type_text.specs.declared.keyword.PlainType.TheVariants as plains
use Rattle.type_text.specs.declared.keyword.ParametricType.TheVariants as parametrics
use Rattle.type_text.specs.declared.keyword.NestedType.TheVariants as nests
use Rattle.type_text.specs.declared.keyword.Keyword.{Keyword}
use Rattle.type_text.specs.declared.keyword.Keyword.TheVariants as keywords
use Rattle.type_text.specs.Keywords.{keyword_text}
use Rattle.type_text.specs.TypeParser.{◌>>=◌, read_dictionary_end, read_list_size, read_map_fields, TypeReader, after_prefix, read_some_fields, is_decimal_numeral, index_type_at, key_of, read_flag, parsed_type, read_after_keyword, read_decimal, read_dictionary, read_extension, read_field, read_fixed_size_list, read_keyword, read_item_field, read_index_type, read_list, read_name, read_number, read_ordered, read_precision_and_scale, read_size, read_fixed_size_binary, read_entries_end, read_fields, read_type_id, read_map, read_entry_field, read_struct, read_union, read_name_or_default, quoted_name, read_time, read_timestamp, read_type, read_unit, read_complete_type, split_first}
use Rattle.type_text.specs.Representable.{AreRepresentable, IsTerminatedBy, HasIds, LacksClosingBracket, IsRepresentableField, IsRepresentableMap, IsRepresentableExtension, IsRepresentable, HasUnambiguousQuotes}
use Rattle.type_text.proofs.Prefixes.{after-front}

abbrev field_read : FieldTree → List ℕ → Result (FieldTree × List ℕ) SyntaxError
field_read f rest = Ok (f, rest)

abbrev key_read : IntegerType → List ℕ → Result (IntegerType × List ℕ) SyntaxError
key_read key rest = Ok (key, rest)

abbrev ordered_read : Bool → List ℕ → Result (Bool × List ℕ) SyntaxError
ordered_read o rest = Ok (o, rest)

pub after-longer : (p s t : List ℕ) → after_prefix p s ≡ None → length p ≤ length s → after_prefix p (s ++ t) ≡ None
after-longer [] s t e le = absurd cc
after-longer (h ∷ hs) [] t e le = absurd (omega arith)
after-longer (h ∷ hs) (b ∷ bs) t e le =
    let P : Bool → Type 0 = λ v. cond v (after_prefix hs bs) None ≡ None → cond v (after_prefix hs (bs ++ t)) None ≡ None in
    (elim (eqb h b) as P [
      | true ↦ λ q. after-longer hs bs t q (omega arith)
      | false ↦ λ q. refl
    ]) e

split-again : (end name rest : List ℕ) → 1 ≤ length end → IsTerminatedBy end name → split_first end (name ++ (end ++ rest)) ≡ Some (name, rest)
unfolding split_first
split-again [] name rest long h = absurd (omega arith)
split-again (e ∷ es) [] rest long h = rw (after-front (e ∷ es) rest) refl
split-again (e ∷ es) (b ∷ bs) rest long h =
    let far : length (e ∷ es) ≤ length ((b ∷ bs) ++ (e ∷ es)) = omega (arith, length-append bs (e ∷ es)) in
    let none : after_prefix (e ∷ es) (b ∷ (bs ++ (e ∷ (es ++ rest)))) ≡ None = ap (λ x. after_prefix (e ∷ es) (b ∷ x)) (sym (append_assoc bs (e ∷ es) rest)) ∙ after-longer (e ∷ es) ((b ∷ bs) ++ (e ∷ es)) rest h.0 far in
    rw (none, split-again (e ∷ es) bs rest long h.1) refl

pub name-again : (end name rest : List ℕ) → 1 ≤ length end → IsTerminatedBy end name → read_name end (name ++ (end ++ rest)) ≡ Ok (name, rest)
name-again end name rest long h = rw (split-again end name rest long h) refl

pub unit-again : (u : TimeUnit) (rest : List ℕ) → read_unit (unit_text u ++ rest) ≡ Ok (u, rest)
unfolding read_unit
unit-again Second rest = refl
unit-again Millisecond rest = refl
unit-again Microsecond rest = refl
unit-again Nanosecond rest = refl

pub keyword-again : (h : Keyword) (rest : List ℕ) → read_keyword (keyword_text h ++ rest) ≡ Ok (h, rest)
unfolding read_keyword
keyword-again (keywords.Integer integers.Int32) rest = refl
keyword-again (keywords.Integer integers.Int64) rest = refl
keyword-again (keywords.Plain plains.Utf8) rest = refl
keyword-again (keywords.Plain plains.Float64) rest = refl
keyword-again (keywords.Plain plains.Boolean) rest = refl
keyword-again (keywords.Nested nests.List) rest = refl
keyword-again (keywords.Nested nests.Struct) rest = refl
keyword-again (keywords.Nested nests.Dictionary) rest = refl
keyword-again (keywords.Nested nests.Map) rest = refl
keyword-again (keywords.Parametric parametrics.Timestamp) rest = refl
keyword-again (keywords.Integer integers.Int8) rest = refl
keyword-again (keywords.Integer integers.Int16) rest = refl
keyword-again (keywords.Integer integers.UInt8) rest = refl
keyword-again (keywords.Integer integers.UInt16) rest = refl
keyword-again (keywords.Integer integers.UInt32) rest = refl
keyword-again (keywords.Integer integers.UInt64) rest = refl
keyword-again (keywords.Plain plains.Null) rest = refl
keyword-again (keywords.Plain plains.Float16) rest = refl
keyword-again (keywords.Plain plains.Float32) rest = refl
keyword-again (keywords.Plain plains.Date32) rest = refl
keyword-again (keywords.Plain plains.Date64) rest = refl
keyword-again (keywords.Plain plains.YearMonth) rest = refl
keyword-again (keywords.Plain plains.DayTime) rest = refl
keyword-again (keywords.Plain plains.MonthDayNano) rest = refl
keyword-again (keywords.Plain plains.Binary) rest = refl
keyword-again (keywords.Plain plains.LargeBinary) rest = refl
keyword-again (keywords.Plain plains.LargeUtf8) rest = refl
keyword-again (keywords.Parametric parametrics.Time32) rest = refl
keyword-again (keywords.Parametric parametrics.Time64) rest = refl
keyword-again (keywords.Parametric parametrics.Duration) rest = refl
keyword-again (keywords.Parametric parametrics.FixedSizeBinary) rest = refl
keyword-again (keywords.Parametric parametrics.Decimal) rest = refl
keyword-again (keywords.Parametric parametrics.Decimal256) rest = refl
keyword-again (keywords.Nested nests.FixedSizeList) rest = refl
keyword-again (keywords.Nested nests.LargeList) rest = refl
keyword-again (keywords.Nested nests.DenseUnion) rest = refl
keyword-again (keywords.Nested nests.SparseUnion) rest = refl
keyword-again (keywords.Nested nests.Extension) rest = refl

pub step : (levels : ℕ) (h : Keyword) (body rest : List ℕ) (t : TypeTree) → read_after_keyword (read_type levels) h body ≡ Ok (t, rest) → read_type (suc levels) (keyword_text h ++ body) ≡ Ok (t, rest)
unfolding read_type
step levels h body rest t e = ap (λ r. r >>= λ keyword. read_after_keyword (read_type levels) keyword.0 keyword.1) (keyword-again h body) ∙ e

-- ---- numbers

abbrev digit : ℕ → Bool
digit = is_ascii_digit

digit-true : (c : ℕ) → digit_value c < 10 → digit c ≡ true
digit-true c h = let r = digit_from_value c h in and_from (leb 48 c) (leb c 57) (le-leb 48 c r.0) (le-leb c 57 r.1)

prefix-all : (ds rest : List ℕ) → AllDigits 10 ds → prefix_len digit rest ≡ 0 → prefix_len digit (ds ++ rest) ≡ length ds
prefix-all [] rest d z = z
prefix-all (c ∷ cs) rest d z = rw (digit-true c d.0, prefix-all cs rest d.1 z) (omega arith)

decimal-true : (ds : List ℕ) (n : ℕ) → n < 2 ^ 64 → ds ≡ decimal n → is_decimal_numeral ds ≡ true
decimal-true [] n lt e = let p = decimal_nonempty n lt in let q : length (decimal n) ≡ 0 = ap length (sym e) in absurd (omega (arith, p, q))
decimal-true (d ∷ []) n lt e = refl
decimal-true (d ∷ c ∷ ds) n lt e =
    elim (cases_lt n 10) [
      | inl small ↦ let one : length (d ∷ c ∷ ds) ≡ length ((48 + n) ∷ []) = ap length (e ∙ decimal_digit n small) in absurd (omega (arith, one))
      | inr large ↦
          let first = first_decimal n (omega arith) lt in
          let same : d ≡ get_or (decimal n) 0 0 = ap (λ x. get_or x 0 0) e in
          let other : eqb d 48 ≡ false = ne_eqb d 48 (λ q. omega (arith, q, same, first)) in
          ap not other
    ]

number-again : (n : ℕ) (rest : List ℕ) → n < 2 ^ 64 → prefix_len digit rest ≡ 0 → read_number (decimal n ++ rest) ≡ Ok (n, rest)
number-again n rest lt z =
    let numeral = decimal_is_IsNumeral n lt in
    let all : prefix_len digit (decimal n ++ rest) ≡ length (decimal n) = prefix-all (decimal n) rest numeral.0.1 z in
    let small : ltb n (2 ^ 64) ≡ true = lt-ltb n (2 ^ 64) lt in
    rw (all, take_at (decimal n) rest (length (decimal n)) refl, drop_at (decimal n) rest (length (decimal n)) refl, decimal-true (decimal n) n lt refl, numeral.1, small) refl

size-again : (n : ℕ) (rest : List ℕ) → n < 2 ^ 64 → read_size (decimal n ++ (codes "]" ++ rest)) ≡ Ok (n, rest)
unfolding read_size
size-again n rest lt = rw (number-again n (codes "]" ++ rest) lt refl) refl

scale-again : (m n : ℕ) (rest : List ℕ) → m < 2 ^ 64 → n < 2 ^ 64 → read_precision_and_scale (decimal m ++ (codes ", " ++ (decimal n ++ (codes ")" ++ rest)))) ≡ Ok ((m, n), rest)
unfolding read_precision_and_scale
scale-again m n rest lm ln = rw (number-again m (codes ", " ++ (decimal n ++ (codes ")" ++ rest))) lm refl, number-again n (codes ")" ++ rest) ln refl) refl

-- ---- keywords and parametric types

zone-again : (u : TimeUnit) (zone rest : List ℕ) → IsTerminatedBy (codes "]") zone → read_timestamp (unit_text u ++ (codes ", tz=" ++ (zone ++ (codes "]" ++ rest)))) ≡ Ok (types.timestamp u (Some zone), rest)
unfolding read_timestamp
zone-again u zone rest h = rw (unit-again u (codes ", tz=" ++ (zone ++ (codes "]" ++ rest))), name-again (codes "]") zone rest (omega arith) h) refl

timestamp-again : (u : TimeUnit) (rest : List ℕ) → read_timestamp (unit_text u ++ (codes "]" ++ rest)) ≡ Ok (types.timestamp u None, rest)
unfolding read_timestamp
timestamp-again u rest = rw (unit-again u (codes "]" ++ rest)) refl

timed-again : (make : TimeUnit → TypeTree) (u : TimeUnit) (rest : List ℕ) → read_time make (unit_text u ++ (codes "]" ++ rest)) ≡ Ok (make u, rest)
unfolding read_time
timed-again make u rest = rw (unit-again u (codes "]" ++ rest)) refl

decimal-again : (make : ℕ → ℕ → TypeTree) (m n : ℕ) (rest : List ℕ) → m < 2 ^ 64 → n < 2 ^ 64 → read_decimal make (decimal m ++ (codes ", " ++ (decimal n ++ (codes ")" ++ rest)))) ≡ Ok (make m n, rest)
unfolding read_decimal
decimal-again make m n rest lm ln = rw (scale-again m n rest lm ln) refl

sized-again : (n : ℕ) (rest : List ℕ) → n < 2 ^ 64 → read_fixed_size_binary (decimal n ++ (codes "]" ++ rest)) ≡ Ok (types.fixed_size_binary n, rest)
unfolding read_fixed_size_binary
sized-again n rest lt = rw (size-again n rest lt) refl

-- ---- nested types

marked : (name : List ℕ) (t : TypeTree) (nullable : Bool) (metadata : Entries) (rest : List ℕ) → metadata ≡ [] → after_prefix (codes " not null") rest ≡ None
    → field_read (field name t (not (read_flag (codes " not null") (nullable_text nullable ++ rest)).0) []) (read_flag (codes " not null") (nullable_text nullable ++ rest)).1 ≡ field_read (field name t nullable metadata) rest
marked name t true metadata rest e plain = rw plain (ap (λ es. field_read (field name t true es) rest) (sym e))
marked name t false metadata rest e plain = ap (λ es. field_read (field name t false es) rest) (sym e)

key-again : (key : IntegerType) (rest : List ℕ) → read_index_type (integer_text key ++ rest) ≡ key_read key rest
unfolding read_index_type
key-again key rest = ap (λ r. r >>= λ keyword. index_type_at (integer_text key ++ rest) keyword.1 (key_of keyword.0)) (keyword-again (keywords.Integer key) rest)

ordered-again : (o : Bool) (rest : List ℕ) → read_ordered (order_text o ++ rest) ≡ ordered_read o rest
ordered-again true rest = refl
ordered-again false rest = refl

-- ---- fields

abbrev list_of : FieldTrees → List FieldTree
list_of no_fields = []
list_of (more_fields f fs) = f ∷ list_of fs

listed : (fs : FieldTrees) → field_trees (list_of fs) ≡ fs
listed no_fields = refl
listed (more_fields f fs) = ap (λ x. more_fields f x) (listed fs)

-- the type ids of fields, if they have any
abbrev pub IdsOf : Bool → List ℤ → FieldTrees → Type 0
IdsOf false is fs = is ≡ []
IdsOf true is fs = HasIds is fs

no-ids : (ids : Bool) (is : List ℤ) → IdsOf ids is no_fields → is ≡ []
no-ids false is h = h
no-ids true [] h = refl
no-ids true (pos n ∷ is) h = absurd h
no-ids true (negsuc n ∷ is) h = absurd h

abbrev id_of : Bool → List ℤ → Option ℤ
id_of false is = None
id_of true is = Some (get_or is 0 (pos 0))

id-again : (ids : Bool) (is : List ℤ) (f : FieldTree) (fs : FieldTrees) (rest : List ℕ) → IdsOf ids is (more_fields f fs) → prefix_len digit rest ≡ 0 → read_type_id ids (id_text ids is ++ rest) ≡ Ok (id_of ids is, rest)
unfolding read_type_id
id-again false is f fs rest h z = refl
id-again true [] f fs rest h z = absurd h
id-again true (pos n ∷ is) f fs rest h z = rw (number-again n rest (omega (arith, h.0)) z, lt-ltb n (2 ^ 31) h.0) refl
id-again true (negsuc n ∷ is) f fs rest h z = absurd h

ids-split : (ids : Bool) (is : List ℤ) (f : FieldTree) (fs : FieldTrees) → IdsOf ids is (more_fields f fs) → (option_to_list (id_of ids is) ++ ids_after ids is ≡ is) × IdsOf ids (ids_after ids is) fs
ids-split false is f fs h = (refl, h)
ids-split true [] f fs h = absurd h
ids-split true (pos n ∷ is) f fs h = (refl, h.1)
ids-split true (negsuc n ∷ is) f fs h = absurd h

plain-id : (ids : Bool) (is : List ℤ) (rest : List ℕ) → after_prefix (codes " not null") rest ≡ None → after_prefix (codes " not null") (id_text ids is ++ rest) ≡ None
plain-id false is rest e = e
plain-id true is rest e = refl

many : (ids : Bool) (fs : FieldTrees) (is : List ℤ) → count_fields fs ≤ length (later_rows ids fs is)
many ids no_fields is = omega arith
many ids (more_fields f fs) is =
    let later = later_rows ids fs (ids_after ids is) in
    let here = length-append (text_of_field f) (id_text ids is ++ later) in
    let id = length-append (id_text ids is) later in
    omega (arith, many ids fs (ids_after ids is), here, id)

opens : (f : FieldTree) (fs : FieldTrees) (rest : List ℕ) → LacksClosingBracket (more_fields f fs) → after_prefix (codes ">") (text_of_field f ++ rest) ≡ None
opens (field [] t nullable metadata) fs rest h = refl
opens (field (b ∷ bs) t nullable metadata) fs rest h = ap (after_prefix (codes ">")) (append_assoc (b ∷ bs) _ rest) ∙ after-longer (codes ">") (b ∷ bs) _ h (omega arith)

row-splits : (a b later rest : List ℕ) → (a ++ (b ++ later)) ++ rest ≡ a ++ (b ++ (later ++ rest))
row-splits a b later rest = append_assoc a (b ++ later) rest ∙ ap (λ x. a ++ x) (append_assoc b later rest)

unusual-again : (usual name rest : List ℕ) → IsTerminatedBy (codes "')") name → (bytes_eq usual name ≡ false) ⊎ (after_prefix (codes " ('") rest ≡ None) → read_name_or_default usual (unusual usual name ++ rest) ≡ Ok (name, rest)
unfolding read_name_or_default
unusual-again usual name rest ends whose =
    let P : Bool → Type 0 = λ v. bytes_eq usual name ≡ v → quoted_name usual (cond v [] (codes " ('" ++ (name ++ codes "')")) ++ rest) (after_prefix (codes " ('") (cond v [] (codes " ('" ++ (name ++ codes "')")) ++ rest)) ≡ Ok (name, rest) in
    (elim (bytes_eq usual name) as P [
      | true ↦ λ q.
          let none : after_prefix (codes " ('") rest ≡ None = elim whose [ inl n ↦ absurd cc | inr n ↦ n ] in
          let same : usual ≡ name = (bytes_eq-Decides usual name).0 q in
          rw none (ap (λ x. Ok (x, rest)) same)
      | false ↦ λ q. rw (append_assoc name (codes "')") rest, name-again (codes "')") name rest (omega arith) ends, q) refl
    ]) refl

whose-name : (sorted : Bool) (entries value : List ℕ) (t : TypeTree) (nullable : Bool) (metadata : Entries) (rest : List ℕ) → HasUnambiguousQuotes sorted entries (field value t nullable metadata) → (bytes_eq (codes "value") value ≡ false) ⊎ (after_prefix (codes " ('") (entries_end sorted entries ++ rest) ≡ None)
whose-name true entries value t nullable metadata rest h = inr refl
whose-name false entries value t nullable metadata rest (inl q) = absurd cc
whose-name false entries value t nullable metadata rest (inr (inl q)) = inr (rw q refl)
whose-name false entries value t nullable metadata rest (inr (inr q)) = inl q

unsorted : (name rest : List ℕ) → after_prefix (codes ", keys_sorted") (unusual (codes "entries") name ++ (codes ">" ++ rest)) ≡ None
unsorted name rest = elim (bytes_eq (codes "entries") name) as (λ v. after_prefix (codes ", keys_sorted") (cond v [] (codes " ('" ++ (name ++ codes "')")) ++ (codes ">" ++ rest)) ≡ None) [
  | true ↦ refl
  | false ↦ refl
]

end-again : (sorted : Bool) (name rest : List ℕ) → IsTerminatedBy (codes "')") name → read_entries_end (entries_end sorted name ++ rest) ≡ Ok ((sorted, name), rest)
unfolding read_entries_end
end-again true name rest ends = rw (append_assoc (unusual (codes "entries") name) (codes ">") rest, unusual-again (codes "entries") name (codes ">" ++ rest) ends (inr refl)) refl
end-again false name rest ends = rw (append_assoc (unusual (codes "entries") name) (codes ">") rest, unsorted name rest, unusual-again (codes "entries") name (codes ">" ++ rest) ends (inr refl)) refl

map-splits : (a b c d e rest : List ℕ) → (((a ++ b) ++ (codes ", " ++ (c ++ d))) ++ e) ++ rest ≡ a ++ (b ++ (codes ", " ++ (c ++ (d ++ (e ++ rest)))))
map-splits a b c d e rest = simp append_assoc refl

-- the children are parsed from their text
abbrev pub ReadsAgain : TypeReader → (TypeTree → Type 0) → Type 0
ReadsAgain inner Representable = (t : TypeTree) (rest : List ℕ) → Representable t → inner (text_of_type t ++ rest) ≡ Ok (t, rest)

module _ (inner : TypeReader) (Representable : TypeTree → Type 0) (again : ReadsAgain inner Representable) where
  field-again : (f : FieldTree) (rest : List ℕ) → IsRepresentableField Representable f → after_prefix (codes " not null") rest ≡ None → read_field inner (text_of_field f ++ rest) ≡ Ok (f, rest)
  unfolding read_field
  field-again (field name t nullable metadata) rest h plain =
      let text = text_of_type t in
      let note = nullable_text nullable in
      let regrouped : (name ++ (codes ": " ++ (text ++ note))) ++ rest ≡ name ++ (codes ": " ++ (text ++ (note ++ rest))) = append_assoc name (codes ": " ++ (text ++ note)) rest ∙ ap (λ x. name ++ (codes ": " ++ x)) (append_assoc text note rest) in
      ap (read_field inner) regrouped ∙ rw (name-again (codes ": ") name (text ++ (note ++ rest)) (omega arith) h.0, again t (note ++ rest) h.1) (marked name t nullable metadata rest h.2 plain)

  items-again : (f : FieldTree) (rest : List ℕ) → IsRepresentableField Representable f → read_item_field inner (text_of_field f ++ (codes ">" ++ rest)) ≡ field_read f rest
  unfolding read_item_field
  items-again f rest h = rw (field-again f (codes ">" ++ rest) h refl) refl

  list-again : (make : FieldTree → TypeTree) (f : FieldTree) (rest : List ℕ) → IsRepresentableField Representable f → read_list inner make (text_of_field f ++ (codes ">" ++ rest)) ≡ Ok (make f, rest)
  unfolding read_list
  list-again make f rest h = rw (items-again f rest h) refl

  fixed-list-again : (f : FieldTree) (n : ℕ) (rest : List ℕ) → IsRepresentableField Representable f → n < 2 ^ 64 → read_fixed_size_list inner (text_of_field f ++ (codes ">" ++ (codes "[" ++ (decimal n ++ (codes "]" ++ rest))))) ≡ Ok (types.fixed_size_list f n, rest)
  unfolding read_fixed_size_list read_list_size
  fixed-list-again f n rest h lt = rw (items-again f (codes "[" ++ (decimal n ++ (codes "]" ++ rest))) h, size-again n rest lt) refl

  dictionary-again : (key : IntegerType) (t : TypeTree) (o : Bool) (rest : List ℕ) → Representable t → read_dictionary inner (text_of_type t ++ (codes ", indices=" ++ (integer_text key ++ (order_text o ++ rest)))) ≡ Ok (types.dictionary key t o, rest)
  unfolding read_dictionary read_dictionary_end
  dictionary-again key t o rest h = rw (again t (codes ", indices=" ++ (integer_text key ++ (order_text o ++ rest))) h, key-again key (order_text o ++ rest), ordered-again o rest) refl

  extension-again : (name : List ℕ) (t : TypeTree) (rest : List ℕ) → spec_precision_of (types.extension name t None) ≡ None → IsTerminatedBy (codes ", ") name → Representable t → read_extension inner (name ++ (codes ", " ++ (text_of_type t ++ (codes ">" ++ rest)))) ≡ Ok (types.extension name t None, rest)
  unfolding read_extension
  extension-again name t rest e h representable = rw (name-again (codes ", ") name (text_of_type t ++ (codes ">" ++ rest)) (omega arith) h, again t (codes ">" ++ rest) representable, e) refl

  rows-again : (ids : Bool) (n : ℕ) (f : FieldTree) (fs : FieldTrees) (is : List ℤ) (rest : List ℕ) → count_fields fs < n → IsRepresentableField Representable f → AreRepresentable Representable fs → IdsOf ids is (more_fields f fs)
      → read_some_fields ids inner n (rows ids (more_fields f fs) is ++ (codes ">" ++ rest)) ≡ Ok ((list_of (more_fields f fs), is), rest)
  unfolding read_some_fields
  rows-again ids zero f fs is rest lt hf hs hi = absurd (omega arith)
  rows-again ids (suc n) f no_fields is rest lt hf hs hi =
      let e = codes ">" ++ rest in
      let p = ids-split ids is f no_fields hi in
      let only : option_to_list (id_of ids is) ≡ is = sym (append-nil (option_to_list (id_of ids is))) ∙ ap (λ x. option_to_list (id_of ids is) ++ x) (sym (no-ids ids (ids_after ids is) p.1)) ∙ p.0 in
      ap (read_some_fields ids inner (suc n)) (row-splits (text_of_field f) (id_text ids is) [] e)
      ∙ rw (field-again f (id_text ids is ++ e) hf (plain-id ids is e refl), id-again ids is f no_fields e hi refl) (ap (λ x. Ok ((f ∷ [], x), rest)) only)
  rows-again ids (suc n) f (more_fields g gs) is rest lt hf hs hi =
      let p = ids-split ids is f (more_fields g gs) hi in
      let e = rows ids (more_fields g gs) (ids_after ids is) ++ (codes ">" ++ rest) in
      ap (read_some_fields ids inner (suc n)) (row-splits (text_of_field f) (id_text ids is) (codes ", " ++ rows ids (more_fields g gs) (ids_after ids is)) (codes ">" ++ rest))
      ∙ rw (field-again f (id_text ids is ++ (codes ", " ++ e)) hf (plain-id ids is (codes ", " ++ e) refl), id-again ids is f (more_fields g gs) (codes ", " ++ e) hi refl, rows-again ids n g gs (ids_after ids is) rest (omega arith) hs.0 hs.1 p.1)
      (ap (λ x. Ok ((list_of (more_fields f (more_fields g gs)), x), rest)) p.0)

  fields-again : (ids : Bool) (fs : FieldTrees) (is : List ℤ) (rest : List ℕ) → LacksClosingBracket fs → AreRepresentable Representable fs → IdsOf ids is fs → read_fields ids inner (rows ids fs is ++ (codes ">" ++ rest)) ≡ Ok ((list_of fs, is), rest)
  unfolding read_fields
  fields-again ids no_fields is rest free representable hi = ap (λ x. Ok (([], x), rest)) (sym (no-ids ids is hi))
  fields-again ids (more_fields f fs) is rest free representable hi =
      let later = later_rows ids fs (ids_after ids is) in
      let bs = rows ids (more_fields f fs) is ++ (codes ">" ++ rest) in
      let none : after_prefix (codes ">") bs ≡ None = ap (after_prefix (codes ">")) (append_assoc (text_of_field f) (id_text ids is ++ later) (codes ">" ++ rest)) ∙ opens f fs _ free in
      let whole = length-append (rows ids (more_fields f fs) is) (codes ">" ++ rest) in
      let here = length-append (text_of_field f) (id_text ids is ++ later) in
      let id = length-append (id_text ids is) later in
      let enough : count_fields fs < length bs = omega (arith, many ids fs (ids_after ids is), whole, here, id) in
      rw none (rows-again ids (length bs) f fs is rest enough representable.0 representable.1 hi)

  struct-again : (fs : FieldTrees) (rest : List ℕ) → LacksClosingBracket fs → AreRepresentable Representable fs → read_struct inner (text_of_fields false fs ++ (codes ">" ++ rest)) ≡ Ok (types.struct fs, rest)
  unfolding read_struct
  struct-again fs rest free representable = rw (← struct-rows fs [], fields-again false fs [] rest free representable refl) (ap (λ x. Ok (types.struct x, rest)) (listed fs))

  union-again : (fs : FieldTrees) (ids : List ℤ) (mode : UnionMode) (rest : List ℕ) → LacksClosingBracket fs → AreRepresentable Representable fs → HasIds ids fs → read_union inner mode (text_of_picks (Some ids) 0 fs ++ (codes ">" ++ rest)) ≡ Ok (types.union fs (Some ids) mode, rest)
  unfolding read_union
  union-again fs ids mode rest free representable hi = rw (← union-rows fs ids, fields-again true fs ids rest free representable hi) (ap (λ x. Ok (types.union x (Some ids) mode, rest)) (listed fs))

  part-again : (usual name : List ℕ) (t : TypeTree) (nullable : Bool) (rest : List ℕ) → IsTerminatedBy (codes "')") name → Representable t → (bytes_eq usual name ≡ false) ⊎ (after_prefix (codes " ('") rest ≡ None)
      → read_entry_field inner usual nullable (text_of_type t ++ (unusual usual name ++ rest)) ≡ Ok (field name t nullable [], rest)
  unfolding read_entry_field
  part-again usual name t nullable rest ends representable whose = rw (again t (unusual usual name ++ rest) representable, unusual-again usual name rest ends whose) refl

  map-again : (sorted : Bool) (f : FieldTree) (rest : List ℕ) → IsRepresentableMap Representable sorted f → read_map inner (text_of_entries sorted f ++ rest) ≡ Ok (types.map f sorted, rest)
  unfolding read_map read_map_fields
  map-again sorted (field name (types.struct (more_fields (field k key kn km) (more_fields (field v value vn vm) no_fields))) nullable metadata) rest h =
      let uk = unusual (codes "key") k in
      let uv = unusual (codes "value") v in
      let e = entries_end sorted name in
      ap (read_map inner) (map-splits (text_of_type key) uk (text_of_type value) uv e rest)
      ∙ rw (part-again (codes "key") k key false (codes ", " ++ (text_of_type value ++ (uv ++ (e ++ rest)))) h.0.0 h.0.1 (inr refl), part-again (codes "value") v value true (e ++ rest) h.1.0 h.1.1 (whose-name sorted name v value vn vm rest h.3), end-again sorted name rest h.2)
      (rw (h.0.2, h.0.3, h.1.2, h.1.3, h.4, h.5) refl)
  map-again sorted f rest h = absurd h

float-again : (k : ℕ) (precision : Precision) (rest : List ℕ) → read_type (suc k) (precision_text precision ++ rest) ≡ Ok (spec_float_type precision, rest)
float-again k Half rest = step k (keywords.Plain plains.Float16) rest rest (spec_float_type Half) refl
float-again k Single rest = step k (keywords.Plain plains.Float32) rest rest (spec_float_type Single) refl
float-again k Double rest = step k (keywords.Plain plains.Float64) rest rest (spec_float_type Double) refl

-- an extension type, which is floating-point or not
either-again : (k : ℕ) → ReadsAgain (read_type k) (IsRepresentable k) → (name : Letters) (t : TypeTree) (metadata : Option Letters) (rest : List ℕ) (precision : Option Precision)
    → spec_precision_of (types.extension name t metadata) ≡ precision → IsRepresentableExtension (IsRepresentable k) (is_some precision) name t metadata
    → read_type (suc k) (extension_text precision (codes "extension<" ++ (name ++ (codes ", " ++ (text_of_type t ++ codes ">")))) ++ rest) ≡ Ok (types.extension name t metadata, rest)
either-again k again name t metadata rest (Some precision) e h = float-again k precision rest ∙ ap (λ u. Ok (u, rest)) (sym (float_is (types.extension name t metadata) precision e))
either-again k again name t metadata rest None e h =
    let none : spec_precision_of (types.extension name t None) ≡ None = ap (λ m. spec_precision_of (types.extension name t m)) (sym h.2) ∙ e in
    step k (keywords.Nested nests.Extension) ((name ++ (codes ", " ++ (text_of_type t ++ codes ">"))) ++ rest) rest (types.extension name t metadata)
    (ap (read_after_keyword (read_type k) (keywords.Nested nests.Extension)) (append_assoc name (codes ", " ++ (text_of_type t ++ codes ">")) rest ∙ ap (λ x. name ++ (codes ", " ++ x)) (append_assoc (text_of_type t) (codes ">") rest))
    ∙ extension-again (read_type k) (IsRepresentable k) again name t rest none h.0 h.1
    ∙ ap (λ m. Ok (types.extension name t m, rest)) (sym h.2))

pub type-again : (levels : ℕ) (t : TypeTree) (rest : List ℕ) → IsRepresentable levels t → read_type levels (text_of_type t ++ rest) ≡ Ok (t, rest)
type-again zero t rest h = absurd h
type-again (suc k) types.null rest h = step k (keywords.Plain plains.Null) rest rest types.null refl
type-again (suc k) types.boolean rest h = step k (keywords.Plain plains.Boolean) rest rest types.boolean refl
type-again (suc k) types.float16 rest h = absurd h
type-again (suc k) types.float32 rest h = absurd h
type-again (suc k) types.float64 rest h = absurd h
type-again (suc k) types.date32 rest h = step k (keywords.Plain plains.Date32) rest rest types.date32 refl
type-again (suc k) types.date64 rest h = step k (keywords.Plain plains.Date64) rest rest types.date64 refl
type-again (suc k) types.binary rest h = step k (keywords.Plain plains.Binary) rest rest types.binary refl
type-again (suc k) types.large_binary rest h = step k (keywords.Plain plains.LargeBinary) rest rest types.large_binary refl
type-again (suc k) types.utf8 rest h = step k (keywords.Plain plains.Utf8) rest rest types.utf8 refl
type-again (suc k) types.large_utf8 rest h = step k (keywords.Plain plains.LargeUtf8) rest rest types.large_utf8 refl
type-again (suc k) (types.interval YearMonth) rest h = step k (keywords.Plain plains.YearMonth) rest rest (types.interval YearMonth) refl
type-again (suc k) (types.interval DayTime) rest h = step k (keywords.Plain plains.DayTime) rest rest (types.interval DayTime) refl
type-again (suc k) (types.interval MonthDayNano) rest h = step k (keywords.Plain plains.MonthDayNano) rest rest (types.interval MonthDayNano) refl
type-again (suc k) types.int8 rest h = step k (keywords.Integer integers.Int8) rest rest types.int8 refl
type-again (suc k) types.int16 rest h = step k (keywords.Integer integers.Int16) rest rest types.int16 refl
type-again (suc k) types.int32 rest h = step k (keywords.Integer integers.Int32) rest rest types.int32 refl
type-again (suc k) types.int64 rest h = step k (keywords.Integer integers.Int64) rest rest types.int64 refl
type-again (suc k) types.uint8 rest h = step k (keywords.Integer integers.UInt8) rest rest types.uint8 refl
type-again (suc k) types.uint16 rest h = step k (keywords.Integer integers.UInt16) rest rest types.uint16 refl
type-again (suc k) types.uint32 rest h = step k (keywords.Integer integers.UInt32) rest rest types.uint32 refl
type-again (suc k) types.uint64 rest h = step k (keywords.Integer integers.UInt64) rest rest types.uint64 refl
type-again (suc k) (types.time32 u) rest h = step k (keywords.Parametric parametrics.Time32) ((unit_text u ++ codes "]") ++ rest) rest (types.time32 u) (ap (read_after_keyword (read_type k) (keywords.Parametric parametrics.Time32)) (append_assoc (unit_text u) (codes "]") rest) ∙ timed-again types.time32 u rest)
type-again (suc k) (types.time64 u) rest h = step k (keywords.Parametric parametrics.Time64) ((unit_text u ++ codes "]") ++ rest) rest (types.time64 u) (ap (read_after_keyword (read_type k) (keywords.Parametric parametrics.Time64)) (append_assoc (unit_text u) (codes "]") rest) ∙ timed-again types.time64 u rest)
type-again (suc k) (types.duration u) rest h = step k (keywords.Parametric parametrics.Duration) ((unit_text u ++ codes "]") ++ rest) rest (types.duration u) (ap (read_after_keyword (read_type k) (keywords.Parametric parametrics.Duration)) (append_assoc (unit_text u) (codes "]") rest) ∙ timed-again types.duration u rest)
type-again (suc k) (types.timestamp u None) rest h = step k (keywords.Parametric parametrics.Timestamp) ((unit_text u ++ codes "]") ++ rest) rest (types.timestamp u None) (ap (read_after_keyword (read_type k) (keywords.Parametric parametrics.Timestamp)) (append_assoc (unit_text u) (codes "]") rest) ∙ timestamp-again u rest)
type-again (suc k) (types.timestamp u (Some zone)) rest h = step k (keywords.Parametric parametrics.Timestamp) ((unit_text u ++ (codes ", tz=" ++ (zone ++ codes "]"))) ++ rest) rest (types.timestamp u (Some zone)) (ap (read_after_keyword (read_type k) (keywords.Parametric parametrics.Timestamp)) (append_assoc (unit_text u) (codes ", tz=" ++ (zone ++ codes "]")) rest ∙ ap (λ x. unit_text u ++ (codes ", tz=" ++ x)) (append_assoc zone (codes "]") rest)) ∙ zone-again u zone rest h)
type-again (suc k) (types.fixed_size_binary n) rest h = step k (keywords.Parametric parametrics.FixedSizeBinary) ((decimal n ++ codes "]") ++ rest) rest (types.fixed_size_binary n) (ap (read_after_keyword (read_type k) (keywords.Parametric parametrics.FixedSizeBinary)) (append_assoc (decimal n) (codes "]") rest) ∙ sized-again n rest h)
type-again (suc k) (types.decimal m n) rest h = step k (keywords.Parametric parametrics.Decimal) ((decimal m ++ (codes ", " ++ (decimal n ++ codes ")"))) ++ rest) rest (types.decimal m n) (ap (read_after_keyword (read_type k) (keywords.Parametric parametrics.Decimal)) (append_assoc (decimal m) (codes ", " ++ (decimal n ++ codes ")")) rest ∙ ap (λ x. decimal m ++ (codes ", " ++ x)) (append_assoc (decimal n) (codes ")") rest)) ∙ decimal-again types.decimal m n rest h.0 h.1)
type-again (suc k) (types.decimal256 m n) rest h = step k (keywords.Parametric parametrics.Decimal256) ((decimal m ++ (codes ", " ++ (decimal n ++ codes ")"))) ++ rest) rest (types.decimal256 m n) (ap (read_after_keyword (read_type k) (keywords.Parametric parametrics.Decimal256)) (append_assoc (decimal m) (codes ", " ++ (decimal n ++ codes ")")) rest ∙ ap (λ x. decimal m ++ (codes ", " ++ x)) (append_assoc (decimal n) (codes ")") rest)) ∙ decimal-again types.decimal256 m n rest h.0 h.1)
type-again (suc k) (types.list f) rest h = step k (keywords.Nested nests.List) ((text_of_field f ++ codes ">") ++ rest) rest (types.list f) (ap (read_after_keyword (read_type k) (keywords.Nested nests.List)) (append_assoc (text_of_field f) (codes ">") rest) ∙ list-again (read_type k) (IsRepresentable k) (type-again k) types.list f rest h)
type-again (suc k) (types.large_list f) rest h = step k (keywords.Nested nests.LargeList) ((text_of_field f ++ codes ">") ++ rest) rest (types.large_list f) (ap (read_after_keyword (read_type k) (keywords.Nested nests.LargeList)) (append_assoc (text_of_field f) (codes ">") rest) ∙ list-again (read_type k) (IsRepresentable k) (type-again k) types.large_list f rest h)
type-again (suc k) (types.fixed_size_list f n) rest h = step k (keywords.Nested nests.FixedSizeList) (((text_of_field f ++ codes ">") ++ (codes "[" ++ (decimal n ++ codes "]"))) ++ rest) rest (types.fixed_size_list f n) (ap (read_after_keyword (read_type k) (keywords.Nested nests.FixedSizeList)) (append_assoc (text_of_field f ++ codes ">") (codes "[" ++ (decimal n ++ codes "]")) rest ∙ append_assoc (text_of_field f) (codes ">") (codes "[" ++ ((decimal n ++ codes "]") ++ rest)) ∙ ap (λ x. text_of_field f ++ (codes ">" ++ (codes "[" ++ x))) (append_assoc (decimal n) (codes "]") rest)) ∙ fixed-list-again (read_type k) (IsRepresentable k) (type-again k) f n rest h.0 h.1)
type-again (suc k) (types.dictionary key t o) rest h = step k (keywords.Nested nests.Dictionary) ((text_of_type t ++ (codes ", indices=" ++ (integer_text key ++ order_text o))) ++ rest) rest (types.dictionary key t o) (ap (read_after_keyword (read_type k) (keywords.Nested nests.Dictionary)) (append_assoc (text_of_type t) (codes ", indices=" ++ (integer_text key ++ order_text o)) rest ∙ ap (λ x. text_of_type t ++ (codes ", indices=" ++ x)) (append_assoc (integer_text key) (order_text o) rest)) ∙ dictionary-again (read_type k) (IsRepresentable k) (type-again k) key t o rest h)
type-again (suc k) (types.extension name t metadata) rest h = either-again k (type-again k) name t metadata rest (spec_precision_of (types.extension name t metadata)) refl h
type-again (suc k) (types.struct fs) rest h = step k (keywords.Nested nests.Struct) ((text_of_fields false fs ++ codes ">") ++ rest) rest (types.struct fs) (ap (read_after_keyword (read_type k) (keywords.Nested nests.Struct)) (append_assoc (text_of_fields false fs) (codes ">") rest) ∙ struct-again (read_type k) (IsRepresentable k) (type-again k) fs rest h.0 h.1)
type-again (suc k) (types.union fs (Some ids) Dense) rest h = step k (keywords.Nested nests.DenseUnion) ((text_of_picks (Some ids) 0 fs ++ codes ">") ++ rest) rest (types.union fs (Some ids) Dense) (ap (read_after_keyword (read_type k) (keywords.Nested nests.DenseUnion)) (append_assoc (text_of_picks (Some ids) 0 fs) (codes ">") rest) ∙ union-again (read_type k) (IsRepresentable k) (type-again k) fs ids Dense rest h.0 h.1 h.2)
type-again (suc k) (types.union fs (Some ids) Sparse) rest h = step k (keywords.Nested nests.SparseUnion) ((text_of_picks (Some ids) 0 fs ++ codes ">") ++ rest) rest (types.union fs (Some ids) Sparse) (ap (read_after_keyword (read_type k) (keywords.Nested nests.SparseUnion)) (append_assoc (text_of_picks (Some ids) 0 fs) (codes ">") rest) ∙ union-again (read_type k) (IsRepresentable k) (type-again k) fs ids Sparse rest h.0 h.1 h.2)
type-again (suc k) (types.union fs None mode) rest h = absurd h
type-again (suc k) (types.map f sorted) rest h = step k (keywords.Nested nests.Map) (text_of_entries sorted f ++ rest) rest (types.map f sorted) (map-again (read_type k) (IsRepresentable k) (type-again k) sorted f rest h)

pub representable-round-trips : (t : TypeTree) → IsRepresentable 64 t → parsed_type (text_of_type t) ≡ Ok t
unfolding read_complete_type
representable-round-trips t h = rw (ap (read_type 64) (sym (append-nil (text_of_type t))) ∙ type-again 64 t [] h) refl

pub one-type : (t u : TypeTree) → IsRepresentable 64 t → IsRepresentable 64 u → text_of_type t ≡ text_of_type u → t ≡ u
one-type t u ht hu e = let same : Ok t ≡ Ok u = sym (representable-round-trips t ht) ∙ ap parsed_type e ∙ representable-round-trips u hu in cc
