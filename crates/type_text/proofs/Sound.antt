-- The text of what is parsed is the text before the remaining bytes, part by part.
use Rattle.std.proofs.Common.{◌≡◌, ℕ, zero, suc, ◌^◌, ℤ, pos, Bool, true, false, cond, eqb, List, [], ◌∷◌, ◌++◌, codes, decimal, length, get_or, take, drop, Option, Some, None, Result, Ok, Err, refl, sym, ap, subst, ◌∙◌, append_assoc, append-nil, arith}
use Rattle.std.specs.Char.{is_ascii_digit}
use Rattle.std.specs.List.{prefix_len}
use Rattle.std.specs.Option.{option_to_list}
use Rattle.std.specs.Prelude.{IfOk, is_some, not, nat_lt}
use Rattle.std.specs.Str.{bytes_eq}
use Rattle.std.specs.Str.Parse.{digits_value}
use Rattle.std.proofs.lemmas.Bool.{ltb-true, ne_eqb}
use Rattle.std.proofs.lemmas.Fmt.{decimal-digits_value}
use Rattle.std.proofs.lemmas.List.{take-append-drop}
use Rattle.std.proofs.lemmas.Slice.Eq.{bytes_eq-Decides}
use Rattle.nest_memory.specs.Physical.{integer_tree}
use Rattle.nest_memory.specs.TypeOf.{field_trees}
use Rattle.nest_memory.specs.TypeText.{entries_end, extension_text, integer_text, mode_text, nullable_text, order_text, sorted_text, text_of_field, text_of_part, text_of_type, unit_text, unusual}
use Rattle.nest_memory.specs.Floats.{spec_precision_of}
use Rattle.nest_memory.specs.TypeTree as types
use Rattle.nest_memory.specs.TypeTree.{TypeTree, FieldTree, FieldTrees, field, more_fields, no_fields}
use Rattle.nest_memory.specs.declared.datatypes.IntegerType.{IntegerType}
use Rattle.nest_memory.specs.declared.datatypes.IntegerType.TheVariants as integers
use Rattle.nest_memory.specs.declared.datatypes.TimeUnit.{TimeUnit}
use Rattle.nest_memory.specs.declared.datatypes.TimeUnit.TheVariants.{Second, Millisecond, Microsecond, Nanosecond}
use Rattle.nest_memory.specs.declared.datatypes.UnionMode.{UnionMode}
use Rattle.nest_memory.specs.declared.datatypes.UnionMode.TheVariants.{Dense, Sparse}
use Rattle.type_text.specs.Keywords.{keyword_text}
use Rattle.type_text.specs.declared.error.SyntaxError.{SyntaxError}
use Rattle.type_text.specs.declared.error.SyntaxError.TheVariants.{Unexpected}
use Rattle.type_text.specs.declared.error.ParseTypeError.{ParseTypeError}
use Rattle.type_text.specs.declared.keyword.PlainType.{PlainType}
use Rattle.type_text.specs.declared.keyword.PlainType.TheVariants as plains
use Rattle.type_text.specs.declared.keyword.ParametricType.{ParametricType}
use Rattle.type_text.specs.declared.keyword.ParametricType.TheVariants as parametrics
use Rattle.type_text.specs.declared.keyword.NestedType.{NestedType}
use Rattle.type_text.specs.declared.keyword.NestedType.TheVariants as nests
use Rattle.type_text.specs.declared.keyword.Keyword.{Keyword}
use Rattle.type_text.specs.declared.keyword.Keyword.TheVariants as keywords
use Rattle.type_text.specs.TypeParser.{◌>>=◌, FieldsAndIds, TypeReader, after_prefix, all_keywords, required, without_rest, expected, read_some_fields, first_keyword, is_decimal_numeral, flag_of, index_type_at, key_of, read_flag, name_parts, quoted_name, fields_or_none, fields_after, or_keyword, or_later, or_unit, ordered_of, parsed_type, plain_tree, read_after_keyword, read_decimal, read_dictionary, read_dictionary_end, read_list_size, read_map_fields, read_entries_end, read_extension, read_field, read_fields, read_fixed_size_list, read_parametric, read_keyword, read_type_id, read_item_field, read_index_type, read_list, read_map, read_name, read_nested, read_number, read_ordered, read_entry_field, read_precision_and_scale, read_size, read_fixed_size_binary, read_struct, read_time, read_timestamp, read_type, read_union, read_unit, read_name_or_default, read_complete_type, split_first, located, zone_of}
use Rattle.type_text.proofs.Prefixes.{after-some}
use Rattle.type_text.proofs.Numbers.{digits-run, is-some, own}
use Rattle.type_text.proofs.FieldRows.{id_text, ids_after, later_rows, rows, struct-rows, union-rows}

-- the text of what is parsed, and the remaining bytes
abbrev pub Reads : {A : Type 0} → (A → List ℕ) → List ℕ → Result (A × List ℕ) SyntaxError → Type 0
Reads show bs r = IfOk r (λ x. bs ≡ show x.0 ++ x.1)

-- one part, and another
pub bound : {A B : Type 0} (P : A → Type 0) (Q : B → Type 0) (r : Result A SyntaxError) (f : A → Result B SyntaxError) → IfOk r P → ((x : A) → P x → IfOk (f x) Q) → IfOk (r >>= f) Q
bound P Q (Ok x) f h k = k x h
bound P Q (Err e) f h k = tt

pub follows : {A : Type 0} (P Q : A → Type 0) (r : Result A SyntaxError) → IfOk r P → ((x : A) → P x → Q x) → IfOk r Q
follows P Q (Ok x) h k = k x h
follows P Q (Err e) h k = tt

-- an optional prefix
pub either : (m cs : List ℕ) (P : Option (List ℕ) → Type 0) → ((rest : List ℕ) → cs ≡ m ++ rest → P (Some rest)) → P None → P (after_prefix m cs)
either m cs P some none =
    (elim (after_prefix m cs) as (λ v. after_prefix m cs ≡ v → P v) [
      | Some rest ↦ λ e. some rest (after-some m cs rest e)
      | None ↦ λ e. none
    ]) refl

part : {A B : Type 0} (show : A → List ℕ) (Q : B → Type 0) (bs : List ℕ) (r : Result (A × List ℕ) SyntaxError) (f : A × List ℕ → Result B SyntaxError) → Reads show bs r → ((x : A × List ℕ) → bs ≡ show x.0 ++ x.1 → IfOk (f x) Q) → IfOk (r >>= f) Q
part show Q bs r f h k = bound (λ x. bs ≡ show x.0 ++ x.1) Q r f h k

-- a prefix, and another part
pub marked : {B : Type 0} (m : List ℕ) (Q : B → Type 0) (cs : List ℕ) (f : List ℕ → Result B SyntaxError) → ((rest : List ℕ) → cs ≡ m ++ rest → IfOk (f rest) Q) → IfOk (expected m cs >>= f) Q
marked m Q cs f k = either m cs (λ v. IfOk (required cs v >>= f) Q) k tt

joined : (a b bs cs rest : List ℕ) → bs ≡ a ++ cs → cs ≡ b ++ rest → bs ≡ (a ++ b) ++ rest
joined a b bs cs rest e f = rw (e, f) (sym (append_assoc a b rest))

under : (front x text bs rest : List ℕ) → text ≡ front ++ x → bs ≡ x ++ rest → front ++ bs ≡ text ++ rest
under front x text bs rest e f = rw (e, f) (sym (append_assoc front x rest))

pub name-reads : (end bs : List ℕ) → IfOk (read_name end bs) (λ x. bs ≡ x.0 ++ (end ++ x.1))
unfolding split_first
name-reads end [] = tt
name-reads end (b ∷ bs) =
    let Named : List ℕ → Option (List ℕ × List ℕ) → Type 0 = λ cs v. IfOk (name_parts cs v) (λ x. cs ≡ x.0 ++ (end ++ x.1)) in
    let Q : Option (List ℕ × List ℕ) → Type 0 = λ v. Named bs v → Named (b ∷ bs) (or_later b bs None v) in
    let longer : Q (split_first end bs) = elim (split_first end bs) as Q [
      | Some parts ↦ λ h. ap (λ x. b ∷ x) h
      | None ↦ λ h. tt
    ] in
    either end (b ∷ bs) (λ v. Named (b ∷ bs) (or_later b bs v (split_first end bs))) (λ rest e. e) (longer (name-reads end bs))

name-part : {B : Type 0} (end bs : List ℕ) (Q : B → Type 0) (f : List ℕ × List ℕ → Result B SyntaxError) → ((x : List ℕ × List ℕ) → bs ≡ x.0 ++ (end ++ x.1) → IfOk (f x) Q) → IfOk (read_name end bs >>= f) Q
name-part end bs Q f k = bound (λ x. bs ≡ x.0 ++ (end ++ x.1)) Q (read_name end bs) f (name-reads end bs) k

-- ---- numbers

leads : (ds : List ℕ) → is_decimal_numeral ds ≡ true → get_or ds 0 0 ≡ 48 → length ds ≡ 1
leads [] e z = absurd cc
leads (d ∷ []) e z = refl
leads (d ∷ c ∷ ds) e z = let same : not (eqb d 48) ≡ false = rw z refl in absurd cc

number-reads : (bs : List ℕ) → Reads decimal bs (read_number bs)
number-reads bs =
    let n = prefix_len is_ascii_digit bs in
    let ds = take n bs in
    let P : Bool → Type 0 = λ v. is_decimal_numeral ds ≡ v → Reads decimal bs (cond v (cond (nat_lt (digits_value 10 ds) (2 ^ 64)) (Ok (digits_value 10 ds, drop n bs)) (Err (Unexpected (length bs)))) (Err (Unexpected (length bs)))) in
    let Q : Bool → Type 0 = λ v. is_decimal_numeral ds ≡ true → nat_lt (digits_value 10 ds) (2 ^ 64) ≡ v → Reads decimal bs (cond v (Ok (digits_value 10 ds, drop n bs)) (Err (Unexpected (length bs)))) in
    (elim (is_decimal_numeral ds) as P [
      | true ↦ λ e. (elim (nat_lt (digits_value 10 ds) (2 ^ 64)) as Q [
        | true ↦ λ d lt. rw (decimal-digits_value own ds (digits-run bs) (is-some ds d) (leads ds d) (ltb-true (digits_value 10 ds) (2 ^ 64) lt)) (sym (take-append-drop n bs))
        | false ↦ λ d lt. tt
      ]) e refl
      | false ↦ λ e. tt
    ]) refl

abbrev size_text : ℕ → List ℕ
size_text n = decimal n ++ codes "]"

size-reads : (bs : List ℕ) → Reads size_text bs (read_size bs)
unfolding read_size
size-reads bs = part decimal _ bs _ _ (number-reads bs) λ n e. marked (codes "]") _ n.1 _ λ rest f. joined (decimal n.0) (codes "]") bs n.1 rest e f

abbrev places_text : ℕ × ℕ → List ℕ
places_text p = decimal p.0 ++ (codes ", " ++ (decimal p.1 ++ codes ")"))

scale-reads : (bs : List ℕ) → Reads places_text bs (read_precision_and_scale bs)
unfolding read_precision_and_scale
scale-reads bs =
    part decimal _ bs _ _ (number-reads bs) λ digits e. marked (codes ", ") _ digits.1 _ λ comma f. part decimal _ comma _ _ (number-reads comma) λ scale g. marked (codes ")") _ scale.1 _ λ rest h.
    joined (decimal digits.0) _ bs digits.1 rest e (joined (codes ", ") _ digits.1 comma rest f (joined (decimal scale.0) (codes ")") comma scale.1 rest g h))

-- ---- keywords and parametric types

keywords-read : (bs : List ℕ) (hs : List Keyword) → Reads keyword_text bs (first_keyword bs hs)
keywords-read bs [] = tt
keywords-read bs (h ∷ hs) = either (keyword_text h) bs (λ v. Reads keyword_text bs (or_keyword h v (first_keyword bs hs))) (λ rest e. e) (keywords-read bs hs)

keyword-reads : (bs : List ℕ) → Reads keyword_text bs (read_keyword bs)
unfolding read_keyword
keyword-reads bs = keywords-read bs all_keywords

unit-reads : (bs : List ℕ) → Reads unit_text bs (read_unit bs)
unfolding read_unit
unit-reads bs =
    let one : (u : TimeUnit) (others : Result (TimeUnit × List ℕ) SyntaxError) → Reads unit_text bs others → Reads unit_text bs (or_unit u (after_prefix (unit_text u) bs) others)
    = λ u others k. either (unit_text u) bs (λ v. Reads unit_text bs (or_unit u v others)) (λ rest e. e) k in
    one Second _ (one Millisecond _ (one Microsecond _ (one Nanosecond _ tt)))

plain-text : (plain : PlainType) → keyword_text (keywords.Plain plain) ≡ text_of_type (plain_tree plain)
plain-text plains.Null = refl
plain-text plains.Boolean = refl
plain-text plains.Float16 = refl
plain-text plains.Float32 = refl
plain-text plains.Float64 = refl
plain-text plains.Date32 = refl
plain-text plains.Date64 = refl
plain-text plains.YearMonth = refl
plain-text plains.DayTime = refl
plain-text plains.MonthDayNano = refl
plain-text plains.Binary = refl
plain-text plains.LargeBinary = refl
plain-text plains.Utf8 = refl
plain-text plains.LargeUtf8 = refl

integer-text : (key : IntegerType) → integer_text key ≡ text_of_type (integer_tree key)
integer-text integers.Int8 = refl
integer-text integers.Int16 = refl
integer-text integers.Int32 = refl
integer-text integers.Int64 = refl
integer-text integers.UInt8 = refl
integer-text integers.UInt16 = refl
integer-text integers.UInt32 = refl
integer-text integers.UInt64 = refl

timed-reads : (front : List ℕ) (make : TimeUnit → TypeTree) → ((u : TimeUnit) → text_of_type (make u) ≡ front ++ (unit_text u ++ codes "]")) → (bs : List ℕ) → Reads text_of_type (front ++ bs) (read_time make bs)
unfolding read_time
timed-reads front make is bs = part unit_text _ bs _ _ (unit-reads bs) λ u e. marked (codes "]") _ u.1 _ λ rest f. under front _ _ bs rest (is u.0) (joined (unit_text u.0) (codes "]") bs u.1 rest e f)

decimal-reads : (front : List ℕ) (make : ℕ → ℕ → TypeTree) → ((m n : ℕ) → text_of_type (make m n) ≡ front ++ places_text (m, n)) → (bs : List ℕ) → Reads text_of_type (front ++ bs) (read_decimal make bs)
unfolding read_decimal
decimal-reads front make is bs = part places_text _ bs _ _ (scale-reads bs) λ p e. under front _ _ bs p.1 (is p.0.0 p.0.1) e

timestamp-reads : (bs : List ℕ) → Reads text_of_type (codes "timestamp[" ++ bs) (read_timestamp bs)
unfolding read_timestamp
timestamp-reads bs = part unit_text _ bs _ _ (unit-reads bs) λ u e. either (codes ", tz=") u.1 (λ v. Reads text_of_type (codes "timestamp[" ++ bs) (zone_of u.0 u.1 v))
    (λ rest f. name-part (codes "]") rest _ _ λ zone g. under (codes "timestamp[") _ _ bs zone.1 refl (joined (unit_text u.0) _ bs u.1 zone.1 e (joined (codes ", tz=") _ u.1 rest zone.1 f (joined zone.0 (codes "]") rest (codes "]" ++ zone.1) zone.1 g refl))))
    (marked (codes "]") _ u.1 _ λ rest f. under (codes "timestamp[") _ _ bs rest refl (joined (unit_text u.0) (codes "]") bs u.1 rest e f))

sized-reads : (bs : List ℕ) → Reads text_of_type (codes "fixed_size_binary[" ++ bs) (read_fixed_size_binary bs)
unfolding read_fixed_size_binary
sized-reads bs = part size_text _ bs _ _ (size-reads bs) λ n e. under (codes "fixed_size_binary[") _ _ bs n.1 refl e

kind-reads : (kind : ParametricType) (bs : List ℕ) → Reads text_of_type (keyword_text (keywords.Parametric kind) ++ bs) (read_parametric kind bs)
kind-reads parametrics.Timestamp bs = timestamp-reads bs
kind-reads parametrics.Time32 bs = timed-reads (codes "time32[") types.time32 (λ u. refl) bs
kind-reads parametrics.Time64 bs = timed-reads (codes "time64[") types.time64 (λ u. refl) bs
kind-reads parametrics.Duration bs = timed-reads (codes "duration[") types.duration (λ u. refl) bs
kind-reads parametrics.FixedSizeBinary bs = sized-reads bs
kind-reads parametrics.Decimal bs = decimal-reads (codes "decimal128(") types.decimal (λ m n. refl) bs
kind-reads parametrics.Decimal256 bs = decimal-reads (codes "decimal256(") types.decimal256 (λ m n. refl) bs

-- ---- nested types

marked-null : (bs : List ℕ) → bs ≡ nullable_text (not (read_flag (codes " not null") bs).0) ++ (read_flag (codes " not null") bs).1
marked-null bs = either (codes " not null") bs (λ v. bs ≡ nullable_text (not (flag_of bs v).0) ++ (flag_of bs v).1) (λ rest e. e) refl

marked-sorted : (bs : List ℕ) → bs ≡ sorted_text (read_flag (codes ", keys_sorted") bs).0 ++ (read_flag (codes ", keys_sorted") bs).1
marked-sorted bs = either (codes ", keys_sorted") bs (λ v. bs ≡ sorted_text (flag_of bs v).0 ++ (flag_of bs v).1) (λ rest e. e) refl

key-reads : (bs : List ℕ) → Reads integer_text bs (read_index_type bs)
unfolding read_index_type
key-reads bs = part keyword_text _ bs _ _ (keyword-reads bs) λ keyword e.
    let P : Keyword → Type 0 = λ h. bs ≡ keyword_text h ++ keyword.1 → Reads integer_text bs (index_type_at bs keyword.1 (key_of h)) in
    (elim keyword.0 as P [
      | keywords.Plain plain ↦ λ f. tt
      | keywords.Integer key ↦ λ f. f
      | keywords.Parametric kind ↦ λ f. tt
      | keywords.Nested nested ↦ λ f. tt
    ]) e

ordered-reads : (bs : List ℕ) → Reads order_text bs (read_ordered bs)
ordered-reads bs = either (codes ", ordered=1>") bs (λ v. Reads order_text bs (ordered_of bs v)) (λ rest e. e) (marked (codes ", ordered=0>") _ bs _ λ rest e. e)

unusual-reads : (usual bs : List ℕ) → Reads (unusual usual) bs (read_name_or_default usual bs)
unfolding read_name_or_default
unusual-reads usual bs =
    let same : bytes_eq usual usual ≡ true = (bytes_eq-Decides usual usual).1 refl in
    let quoted : (rest : List ℕ) (name : List ℕ × List ℕ) → bs ≡ codes " ('" ++ rest → rest ≡ name.0 ++ (codes "')" ++ name.1) → Reads (unusual usual) bs (cond (bytes_eq usual name.0) (Err (Unexpected (length bs))) (Ok name))
    = λ rest name e f.
    let P : Bool → Type 0 = λ v. bytes_eq usual name.0 ≡ v → Reads (unusual usual) bs (cond v (Err (Unexpected (length bs))) (Ok name)) in
    (elim (bytes_eq usual name.0) as P [
      | true ↦ λ q. tt
      | false ↦ λ q. rw q (joined (codes " ('") _ bs rest name.1 e (joined name.0 (codes "')") rest (codes "')" ++ name.1) name.1 f refl))
    ]) refl in
    either (codes " ('") bs (λ v. Reads (unusual usual) bs (quoted_name usual bs v)) (λ rest e. name-part (codes "')") rest _ _ λ name f. quoted rest name e f) (rw same refl)

abbrev list_size_text : ℕ → List ℕ
list_size_text n = codes "[" ++ size_text n

list-size-reads : (bs : List ℕ) → Reads list_size_text bs (read_list_size bs)
unfolding read_list_size
list-size-reads bs =
    let Q : ℕ × List ℕ → Type 0 = λ x. bs ≡ list_size_text x.0 ++ x.1 in
    marked (codes "[") Q bs _ λ bracket g. follows (λ x. bracket ≡ size_text x.0 ++ x.1) Q _ (size-reads bracket) λ n h. joined (codes "[") (size_text n.0) bs bracket n.1 g h

abbrev dictionary_end : IntegerType × Bool → List ℕ
dictionary_end x = codes ", indices=" ++ (integer_text x.0 ++ order_text x.1)

dictionary-end-reads : (bs : List ℕ) → Reads dictionary_end bs (read_dictionary_end bs)
unfolding read_dictionary_end
dictionary-end-reads bs = marked (codes ", indices=") _ bs _ λ comma f. part integer_text _ comma _ _ (key-reads comma) λ key g. part order_text _ key.1 _ _ (ordered-reads key.1) λ ordered h.
    joined (codes ", indices=") (integer_text key.0 ++ order_text ordered.0) bs comma ordered.1 f (joined (integer_text key.0) (order_text ordered.0) comma key.1 ordered.1 g h)

abbrev end_text : Bool × List ℕ → List ℕ
end_text x = entries_end x.0 x.1

end-reads : (bs : List ℕ) → Reads end_text bs (read_entries_end bs)
unfolding read_entries_end
end-reads bs = let sorted = read_flag (codes ", keys_sorted") bs in
    part (unusual (codes "entries")) _ sorted.1 _ _ (unusual-reads (codes "entries") sorted.1) λ name e. marked (codes ">") _ name.1 _ λ rest f.
    joined (sorted_text sorted.0) _ bs sorted.1 rest (marked-sorted bs) (joined (unusual (codes "entries") name.0) (codes ">") sorted.1 name.1 rest e f)

-- an optional type id before those of more fields
abbrev IsId : Bool → List ℕ → Option ℤ × List ℕ → Type 0
IsId ids bs x = (more : List ℤ) → (bs ≡ id_text ids (option_to_list x.0 ++ more) ++ x.1) × (ids_after ids (option_to_list x.0 ++ more) ≡ more)

id-reads : (ids : Bool) (bs : List ℕ) → IfOk (read_type_id ids bs) (IsId ids bs)
unfolding read_type_id
id-reads false bs = λ more. (refl, refl)
id-reads true bs = marked (codes "=") _ bs _ λ rest e. part decimal _ rest _ _ (number-reads rest) λ n f.
    (elim (nat_lt n.0 (2 ^ 31)) as (λ v. IfOk (cond v (Ok (Some (pos n.0), n.1)) (Err (Unexpected (length rest)))) (IsId true bs)) [
      | true ↦ λ more. (joined (codes "=") (decimal n.0) bs rest n.1 e f, refl)
      | false ↦ tt
    ])

row : (a b later end bs b1 b2 rest : List ℕ) → bs ≡ a ++ b1 → b1 ≡ b ++ b2 → b2 ≡ (later ++ end) ++ rest → bs ≡ ((a ++ (b ++ later)) ++ end) ++ rest
row a b later end bs b1 b2 rest e f g = rw (e, f, g) (simp append_assoc refl)

pub rows-begin : (ids : Bool) (fs : FieldTrees) (is : List ℤ) (bs rest : List ℕ) → codes ", " ++ bs ≡ (later_rows ids fs is ++ codes ">") ++ rest → bs ≡ (rows ids fs is ++ codes ">") ++ rest
rows-begin ids no_fields is bs rest e = let comma : 44 ≡ 62 = ap (λ x. get_or x 0 0) e in absurd (omega (arith, comma))
rows-begin ids (more_fields f fs) is bs rest e = ap (λ x. drop 2 x) e

abbrev items_text : FieldTree → List ℕ
items_text f = text_of_field f ++ codes ">"

abbrev rows_text : Bool → FieldsAndIds → List ℕ
rows_text ids x = rows ids (field_trees x.0) x.1 ++ codes ">"

-- the rows of what is parsed, after another
abbrev pub AreRows : Bool → List ℕ → FieldsAndIds × List ℕ → Type 0
AreRows ids bs x = codes ", " ++ bs ≡ (later_rows ids (field_trees x.0.0) x.0.1 ++ codes ">") ++ x.1

abbrev map_fields_text : FieldTree × FieldTree → List ℕ
map_fields_text x = text_of_part (codes "key") x.0 ++ (codes ", " ++ text_of_part (codes "value") x.1)

module _ (inner : TypeReader) (sound : (bs : List ℕ) → Reads text_of_type bs (inner bs)) where
  pub field-reads : (bs : List ℕ) → Reads text_of_field bs (read_field inner bs)
  unfolding read_field
  field-reads bs =
      name-part (codes ": ") bs _ _ λ name e. part text_of_type _ name.1 _ _ (sound name.1) λ t f.
      let rest = (read_flag (codes " not null") t.1).1 in
      joined name.0 _ bs (codes ": " ++ name.1) rest e (joined (codes ": ") _ (codes ": " ++ name.1) name.1 rest refl (joined (text_of_type t.0) _ name.1 t.1 rest f (marked-null t.1)))

  items-reads : (bs : List ℕ) → Reads items_text bs (read_item_field inner bs)
  unfolding read_item_field
  items-reads bs = part text_of_field _ bs _ _ (field-reads bs) λ f e. marked (codes ">") _ f.1 _ λ rest g. joined (text_of_field f.0) (codes ">") bs f.1 rest e g

  list-reads : (front : List ℕ) (make : FieldTree → TypeTree) → ((f : FieldTree) → text_of_type (make f) ≡ front ++ (text_of_field f ++ codes ">")) → (bs : List ℕ) → Reads text_of_type (front ++ bs) (read_list inner make bs)
  unfolding read_list
  list-reads front make is bs = part items_text _ bs _ _ (items-reads bs) λ f e. under front _ _ bs f.1 (is f.0) e

  fixed-list-reads : (bs : List ℕ) → Reads text_of_type (codes "fixed_size_list<" ++ bs) (read_fixed_size_list inner bs)
  unfolding read_fixed_size_list
  fixed-list-reads bs = part items_text _ bs _ _ (items-reads bs) λ f e. part list_size_text _ f.1 _ _ (list-size-reads f.1) λ n h.
      joined (codes "fixed_size_list<" ++ (text_of_field f.0 ++ codes ">")) _ (codes "fixed_size_list<" ++ bs) f.1 n.1 (under (codes "fixed_size_list<") (text_of_field f.0 ++ codes ">") _ bs f.1 refl e) h

  pub fields-read : (ids : Bool) (n : ℕ) (bs : List ℕ) → IfOk (read_some_fields ids inner n bs) (AreRows ids bs)
  unfolding read_some_fields
  fields-read ids zero bs = tt
  fields-read ids (suc n) bs = part text_of_field _ bs _ _ (field-reads bs) λ f e. bound (IsId ids f.1) _ _ _ (id-reads ids f.1) λ id k.
      let Q : FieldsAndIds × List ℕ → Type 0 = AreRows ids bs in
      either (codes ", ") id.1 (λ v. IfOk (fields_after f.0 id.0 id.1 v (read_some_fields ids inner n)) Q)
      (λ next g. bound (AreRows ids next) Q _ _ (fields-read ids n next) λ more h. let p = k more.0.1 in
      rw p.1 (ap (λ x. codes ", " ++ x) (row (text_of_field f.0) (id_text ids (option_to_list id.0 ++ more.0.1)) (later_rows ids (field_trees more.0.0) more.0.1) (codes ">") bs f.1 id.1 more.1 e p.0 (g ∙ h))))
      (marked (codes ">") Q id.1 _ λ rest g. let p = rw (append-nil (option_to_list id.0)) at (k []) in
      ap (λ x. codes ", " ++ x) (row (text_of_field f.0) (id_text ids (option_to_list id.0)) [] (codes ">") bs f.1 id.1 rest e p.0 g))

  all-read : (ids : Bool) (bs : List ℕ) → Reads (rows_text ids) bs (read_fields ids inner bs)
  unfolding read_fields
  all-read ids bs =
      let Q : FieldsAndIds × List ℕ → Type 0 = λ x. bs ≡ (rows ids (field_trees x.0.0) x.0.1 ++ codes ">") ++ x.1 in
      either (codes ">") bs (λ v. IfOk (fields_or_none ids inner bs v) Q) (λ rest e. e) (follows (AreRows ids bs) Q _ (fields-read ids (length bs) bs) λ x h. rows-begin ids (field_trees x.0.0) x.0.1 bs x.1 h)

  struct-reads : (bs : List ℕ) → Reads text_of_type (codes "struct<" ++ bs) (read_struct inner bs)
  unfolding read_struct
  struct-reads bs = part (rows_text false) _ bs _ _ (all-read false bs) λ fs e. under (codes "struct<") _ _ bs fs.1 (ap (λ x. codes "struct<" ++ (x ++ codes ">")) (sym (struct-rows (field_trees fs.0.0) fs.0.1))) e

  union-reads : (mode : UnionMode) (bs : List ℕ) → Reads text_of_type (mode_text mode ++ bs) (read_union inner mode bs)
  unfolding read_union
  union-reads mode bs = part (rows_text true) _ bs _ _ (all-read true bs) λ fs e. under (mode_text mode) _ _ bs fs.1 (ap (λ x. mode_text mode ++ (x ++ codes ">")) (sym (union-rows (field_trees fs.0.0) fs.0.1))) e

  part-reads : (usual : List ℕ) (nullable : Bool) (bs : List ℕ) → Reads (text_of_part usual) bs (read_entry_field inner usual nullable bs)
  unfolding read_entry_field
  part-reads usual nullable bs = part text_of_type _ bs _ _ (sound bs) λ t e. part (unusual usual) _ t.1 _ _ (unusual-reads usual t.1) λ name f. joined (text_of_type t.0) (unusual usual name.0) bs t.1 name.1 e f

  map-fields-read : (bs : List ℕ) → Reads map_fields_text bs (read_map_fields inner bs)
  unfolding read_map_fields
  map-fields-read bs =
      part (text_of_part (codes "key")) _ bs _ _ (part-reads (codes "key") false bs) λ key e. marked (codes ", ") _ key.1 _ λ comma f. part (text_of_part (codes "value")) _ comma _ _ (part-reads (codes "value") true comma) λ value g.
      joined (text_of_part (codes "key") key.0) (codes ", " ++ text_of_part (codes "value") value.0) bs key.1 value.1 e (joined (codes ", ") (text_of_part (codes "value") value.0) key.1 comma value.1 f g)

  map-reads : (bs : List ℕ) → Reads text_of_type (codes "map<" ++ bs) (read_map inner bs)
  unfolding read_map
  map-reads bs =
      part map_fields_text _ bs _ _ (map-fields-read bs) λ fs e. part end_text _ fs.1 _ _ (end-reads fs.1) λ end h.
      under (codes "map<") _ _ bs end.1 refl (joined (map_fields_text fs.0) (entries_end end.0.0 end.0.1) bs fs.1 end.1 e h)

  dictionary-reads : (bs : List ℕ) → Reads text_of_type (codes "dictionary<values=" ++ bs) (read_dictionary inner bs)
  unfolding read_dictionary
  dictionary-reads bs =
      part text_of_type _ bs _ _ (sound bs) λ values e. part dictionary_end _ values.1 _ _ (dictionary-end-reads values.1) λ end h.
      under (codes "dictionary<values=") _ _ bs end.1 refl (joined (text_of_type values.0) (dictionary_end end.0) bs values.1 end.1 e h)

  extension-reads : (bs : List ℕ) → Reads text_of_type (codes "extension<" ++ bs) (read_extension inner bs)
  unfolding read_extension
  extension-reads bs = name-part (codes ", ") bs _ _ λ name e. part text_of_type _ name.1 _ _ (sound name.1) λ t f. marked (codes ">") _ t.1 _ λ rest g.
      let u : TypeTree = types.extension name.0 t.0 None in
      let read : TypeTree × List ℕ = (u, rest) in
      let shown : List ℕ = codes "extension<" ++ (name.0 ++ (codes ", " ++ (text_of_type t.0 ++ codes ">"))) in
      (elim (spec_precision_of u) as (λ p. spec_precision_of u ≡ p → IfOk (cond (is_some p) (Err (Unexpected (length bs))) (Ok read)) (λ x. codes "extension<" ++ bs ≡ text_of_type x.0 ++ x.1)) [
        | Some precision ↦ λ h. tt
        | None ↦ λ h. under (codes "extension<") _ _ bs rest (ap (λ p. extension_text p shown) h) (joined name.0 _ bs (codes ", " ++ name.1) rest e (joined (codes ", ") _ (codes ", " ++ name.1) name.1 rest refl (joined (text_of_type t.0) (codes ">") name.1 t.1 rest f g)))
      ]) refl

  nested-reads : (nested : NestedType) (bs : List ℕ) → Reads text_of_type (keyword_text (keywords.Nested nested) ++ bs) (read_nested inner nested bs)
  nested-reads nests.List bs = list-reads (codes "list<") types.list (λ f. refl) bs
  nested-reads nests.FixedSizeList bs = fixed-list-reads bs
  nested-reads nests.LargeList bs = list-reads (codes "large_list<") types.large_list (λ f. refl) bs
  nested-reads nests.Struct bs = struct-reads bs
  nested-reads nests.DenseUnion bs = union-reads Dense bs
  nested-reads nests.SparseUnion bs = union-reads Sparse bs
  nested-reads nests.Map bs = map-reads bs
  nested-reads nests.Dictionary bs = dictionary-reads bs
  nested-reads nests.Extension bs = extension-reads bs

  body-reads : (keyword : Keyword) (bs : List ℕ) → Reads text_of_type (keyword_text keyword ++ bs) (read_after_keyword inner keyword bs)
  body-reads (keywords.Plain plain) bs = ap (λ x. x ++ bs) (plain-text plain)
  body-reads (keywords.Integer key) bs = ap (λ x. x ++ bs) (integer-text key)
  body-reads (keywords.Parametric kind) bs = kind-reads kind bs
  body-reads (keywords.Nested nested) bs = nested-reads nested bs

pub type-reads : (levels : ℕ) (bs : List ℕ) → Reads text_of_type bs (read_type levels bs)
unfolding read_type
type-reads zero bs = tt
type-reads (suc levels) bs = part keyword_text _ bs _ _ (keyword-reads bs) λ keyword e. subst (λ x. Reads text_of_type x (read_after_keyword (read_type levels) keyword.0 keyword.1)) (sym e) (body-reads (read_type levels) (type-reads levels) keyword.0 keyword.1)

ended : (bs : List ℕ) (t : TypeTree) (rest : List ℕ) → bs ≡ text_of_type t ++ rest → IfOk (without_rest (t, rest)) (λ u. text_of_type u ≡ bs)
ended bs t [] e = sym (append-nil (text_of_type t)) ∙ sym e
ended bs t (b ∷ rest) e = let some : eqb (length (b ∷ rest)) 0 ≡ false = ne_eqb (length (b ∷ rest)) 0 (λ q. omega (arith, q)) in rw some tt

whole-reads : (bs : List ℕ) → IfOk (read_complete_type bs) (λ t. text_of_type t ≡ bs)
unfolding read_complete_type
whole-reads bs = part text_of_type _ bs _ _ (type-reads 64 bs) λ x e. ended bs x.0 x.1 e

parse-reads : (bs : List ℕ) → IfOk (parsed_type bs) (λ t. text_of_type t ≡ bs)
parse-reads bs =
    (elim (read_complete_type bs) as (λ r. IfOk r (λ t. text_of_type t ≡ bs) → IfOk (located (length bs) r) (λ t. text_of_type t ≡ bs)) [
      | Ok t ↦ λ e. e
      | Err f ↦ λ e. tt
    ]) (whole-reads bs)

pub text-kept : (bs : List ℕ) (t : TypeTree) → parsed_type bs ≡ Ok t → text_of_type t ≡ bs
text-kept bs t e = subst (λ (r : Result TypeTree ParseTypeError). IfOk r (λ u. text_of_type u ≡ bs)) e (parse-reads bs)
