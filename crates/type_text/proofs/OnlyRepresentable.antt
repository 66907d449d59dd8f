-- What is parsed is represented in full by its text, part by part.
use Rattle.std.proofs.Common.{◌≡◌, ℕ, zero, suc, ◌^◌, ◌<◌, ℤ, pos, Bool, true, false, cond, eqb, List, [], ◌∷◌, ◌++◌, codes, length, take, drop, Option, Some, None, Result, Ok, Err, refl, sym, ap, subst, ◌∙◌, append_assoc, append-nil, inl, inr}
use Rattle.std.specs.Char.{is_ascii_digit}
use Rattle.std.specs.List.{prefix_len}
use Rattle.std.specs.Option.{option_to_list}
use Rattle.std.specs.Prelude.{◌⊎◌, IfOk, nat_lt, ◌==◌}
use Rattle.std.specs.Str.{bytes_eq}
use Rattle.std.specs.Str.Parse.{digits_value}
use Rattle.std.proofs.lemmas.Bool.{ltb-true}
use Rattle.std.proofs.lemmas.Slice.Eq.{bytes_eq-Decides}
use Rattle.nest_memory.specs.Floats.{spec_is_float}
use Rattle.nest_memory.specs.TypeOf.{field_trees}
use Rattle.nest_memory.specs.TypeText.{nullable_text, text_of_type}
use Rattle.nest_memory.specs.TypeTree as types
use Rattle.nest_memory.specs.TypeTree.{TypeTree, FieldTree, FieldTrees, field, more_fields, no_fields}
use Rattle.nest_memory.specs.declared.datatypes.IntegerType.TheVariants as integers
use Rattle.nest_memory.specs.declared.datatypes.UnionMode.{UnionMode}
use Rattle.nest_memory.specs.declared.datatypes.UnionMode.TheVariants.{Dense, Sparse}
use Rattle.nest_memory.specs.Physical.{integer_tree}
use Rattle.type_text.specs.declared.error.SyntaxError.{SyntaxError}
use Rattle.type_text.specs.declared.error.SyntaxError.TheVariants.{Unexpected}
use Rattle.nest_memory.specs.declared.datatypes.IntegerType.{IntegerType}
use Rattle.nest_memory.specs.declared.datatypes.TimeUnit.{TimeUnit}
use Rattle.type_text.specs.declared.error.ParseTypeError.{ParseTypeError}
use Rattle.type_text.specs.declared.keyword.PlainType.{PlainType}
use Rattle.type_text.specs.declared.keyword.PlainType.TheVariants as plains
use Rattle.type_text.specs.declared.keyword.ParametricType.TheVariants as parametrics
use Rattle.type_text.specs.declared.keyword.NestedType.TheVariants as nests
use Rattle.type_text.specs.declared.keyword.Keyword.{Keyword}
use Rattle.type_text.specs.declared.keyword.Keyword.TheVariants as keywords
use Rattle.type_text.specs.TypeParser.{◌>>=◌, read_dictionary_end, read_list_size, read_map_fields, FieldsAndIds, TypeReader, after_prefix, expected, without_rest, read_some_fields, is_decimal_numeral, flag_of, name_parts, quoted_name, fields_or_none, fields_after, or_later, parsed_type, plain_tree, read_after_keyword, read_decimal, read_dictionary, read_entries_end, read_extension, read_fixed_size_list, read_map, read_entry_field, read_precision_and_scale, read_fixed_size_binary, read_time, read_timestamp, read_type, read_complete_type, located, zone_of, read_field, read_fields, read_keyword, read_type_id, read_unit, read_item_field, read_list, read_name, read_number, read_size, read_struct, read_union, read_name_or_default, split_first}
use Rattle.type_text.specs.Representable.{AreRepresentable, IsTerminatedBy, LacksClosingBracket, IsRepresentable, IsRepresentableBody, IsRepresentableExtension, IsRepresentableField, IsRepresentableEntry, HasUnambiguousQuotes}
use Rattle.type_text.proofs.RoundTrip.{IdsOf}
use Rattle.type_text.proofs.Sound.{AreRows, Reads, bound, either, fields-read, follows, marked, rows-begin, type-reads}
use Rattle.type_text.proofs.FieldRows.{id_text, ids_after, later_rows, rows}

any : {A : Type 0} (r : Result A SyntaxError) → IfOk r (λ x. Unit {0})
any (Ok x) = tt
any (Err e) = tt

-- any part, and another
skip : {A B : Type 0} (Q : B → Type 0) (r : Result A SyntaxError) (f : A → Result B SyntaxError) → ((x : A) → IfOk (f x) Q) → IfOk (r >>= f) Q
skip Q r f k = bound (λ x. Unit {0}) Q r f (any r) (λ x u. k x)

after-shorter : (p s t : List ℕ) → after_prefix p (s ++ t) ≡ None → after_prefix p s ≡ None
after-shorter [] s t e = absurd cc
after-shorter (h ∷ hs) [] t e = refl
after-shorter (h ∷ hs) (b ∷ bs) t e =
    let P : Bool → Type 0 = λ v. cond v (after_prefix hs (bs ++ t)) None ≡ None → cond v (after_prefix hs bs) None ≡ None in
    (elim (eqb h b) as P [
      | true ↦ λ q. after-shorter hs bs t q
      | false ↦ λ q. refl
    ]) e

-- a name ends at its first terminator
name-ends : (end bs : List ℕ) → IfOk (read_name end bs) (λ x. IsTerminatedBy end x.0 × (bs ≡ x.0 ++ (end ++ x.1)))
unfolding split_first
name-ends end [] = tt
name-ends end (b ∷ bs) =
    let Named : List ℕ → Option (List ℕ × List ℕ) → Type 0 = λ cs v. IfOk (name_parts cs v) (λ x. IsTerminatedBy end x.0 × (cs ≡ x.0 ++ (end ++ x.1))) in
    let Q : Option (List ℕ × List ℕ) → Type 0 = λ v. after_prefix end (b ∷ bs) ≡ None → Named bs v → Named (b ∷ bs) (or_later b bs None v) in
    let longer : Q (split_first end bs) = elim (split_first end bs) as Q [
      | Some parts ↦ λ none h.
          let whole : b ∷ bs ≡ ((b ∷ parts.0) ++ end) ++ parts.1 = ap (λ x. b ∷ x) (h.1 ∙ sym (append_assoc parts.0 end parts.1)) in
          ((after-shorter end ((b ∷ parts.0) ++ end) parts.1 (ap (after_prefix end) (sym whole) ∙ none), h.0), ap (λ x. b ∷ x) h.1)
      | None ↦ λ none h. tt
    ] in
    let P : Option (List ℕ) → Type 0 = λ v. after_prefix end (b ∷ bs) ≡ v → Named (b ∷ bs) (or_later b bs v (split_first end bs)) in
    (elim (after_prefix end (b ∷ bs)) as P [
      | Some rest ↦ λ e. (tt, either end (b ∷ bs) (λ v. v ≡ Some rest → b ∷ bs ≡ end ++ rest) (λ other f q. let same : other ≡ rest = cc in f ∙ ap (λ x. end ++ x) same) (λ q. absurd cc) e)
      | None ↦ λ e. longer e (name-ends end bs)
    ]) refl

number-below : (bs : List ℕ) → IfOk (read_number bs) (λ x. x.0 < 2 ^ 64)
number-below bs =
    let n = prefix_len is_ascii_digit bs in
    let ds = take n bs in
    let Q : Bool → Type 0 = λ v. nat_lt (digits_value 10 ds) (2 ^ 64) ≡ v → IfOk (cond v (Ok (digits_value 10 ds, drop n bs)) (Err (Unexpected (length bs)))) (λ (x : ℕ × List ℕ). x.0 < 2 ^ 64) in
    (elim (is_decimal_numeral ds) as (λ v. IfOk (cond v (cond (nat_lt (digits_value 10 ds) (2 ^ 64)) (Ok (digits_value 10 ds, drop n bs)) (Err (Unexpected (length bs)))) (Err (Unexpected (length bs)))) (λ (x : ℕ × List ℕ). x.0 < 2 ^ 64)) [
      | true ↦ (elim (nat_lt (digits_value 10 ds) (2 ^ 64)) as Q [
        | true ↦ λ lt. ltb-true (digits_value 10 ds) (2 ^ 64) lt
        | false ↦ λ lt. tt
      ]) refl
      | false ↦ tt
    ])

-- a type id for one more field
abbrev IdRepresentable : Bool → Option ℤ × List ℕ → Type 0
IdRepresentable ids x = (more : List ℤ) (f : FieldTree) (fs : FieldTrees) → IdsOf ids more fs → IdsOf ids (option_to_list x.0 ++ more) (more_fields f fs)

ids-representable : (ids : Bool) (bs : List ℕ) → IfOk (read_type_id ids bs) (IdRepresentable ids)
unfolding read_type_id
ids-representable false bs = λ more f fs h. h
ids-representable true bs = marked (codes "=") _ bs _ λ rest q. skip _ (read_number rest) _ λ n.
    (elim (nat_lt n.0 (2 ^ 31)) as (λ v. nat_lt n.0 (2 ^ 31) ≡ v → IfOk (cond v (Ok (Some (pos n.0), n.1)) (Err (Unexpected (length rest)))) (IdRepresentable true)) [
      | true ↦ λ lt more f fs h. (ltb-true n.0 (2 ^ 31) lt, h)
      | false ↦ λ lt. tt
    ]) refl

no-more : (ids : Bool) → IdsOf ids [] no_fields
no-more false = refl
no-more true = tt

-- a name is the default, and no quoted name follows, or another
abbrev DefaultNameRepresentable : List ℕ → List ℕ → List ℕ × List ℕ → Type 0
DefaultNameRepresentable usual bs x = IsTerminatedBy (codes "')") x.0 × ((bytes_eq usual x.0 ≡ false) ⊎ (after_prefix (codes " ('") x.1 ≡ None)) × (after_prefix (codes " ('") bs ≡ None → bytes_eq usual x.0 ≡ true)

usual-representable : (usual bs : List ℕ) → IsTerminatedBy (codes "')") usual → IfOk (read_name_or_default usual bs) (DefaultNameRepresentable usual bs)
unfolding read_name_or_default
usual-representable usual bs ends =
    (elim (after_prefix (codes " ('") bs) as (λ v. after_prefix (codes " ('") bs ≡ v → IfOk (quoted_name usual bs v) (DefaultNameRepresentable usual bs)) [
      | None ↦ λ e. (ends, inr e, λ q. (bytes_eq-Decides usual usual).1 refl)
      | Some rest ↦ λ e. bound (λ x. IsTerminatedBy (codes "')") x.0 × (rest ≡ x.0 ++ (codes "')" ++ x.1))) _ _ _ (name-ends (codes "')") rest) λ name f.
          (elim (bytes_eq usual name.0) as (λ v. bytes_eq usual name.0 ≡ v → IfOk (cond v (Err (Unexpected (length bs))) (Ok name)) (DefaultNameRepresentable usual bs)) [
            | true ↦ λ q. tt
            | false ↦ λ q. (f.0, inl q, λ none. absurd cc)
          ]) refl
    ]) refl

abbrev EndRepresentable : List ℕ → (Bool × List ℕ) × List ℕ → Type 0
EndRepresentable bs x = IsTerminatedBy (codes "')") x.0.1 × (after_prefix (codes " ('") bs ≡ None → (x.0.0 ≡ true) ⊎ (bytes_eq (codes "entries") x.0.1 ≡ true))

end-representable : (bs : List ℕ) → IfOk (read_entries_end bs) (EndRepresentable bs)
unfolding read_entries_end
end-representable bs = either (codes ", keys_sorted") bs (λ v. IfOk (read_name_or_default (codes "entries") (flag_of bs v).1 >>= λ name. expected (codes ">") name.1 >>= λ rest. Ok (((flag_of bs v).0, name.0), rest)) (EndRepresentable bs))
    (λ next e. bound (DefaultNameRepresentable (codes "entries") next) _ _ _ (usual-representable (codes "entries") next (refl, (refl, (refl, (refl, (refl, (refl, (refl, tt)))))))) λ name h. marked (codes ">") _ name.1 _ λ rest q. (h.0, λ none. inl refl))
    (bound (DefaultNameRepresentable (codes "entries") bs) _ _ _ (usual-representable (codes "entries") bs (refl, (refl, (refl, (refl, (refl, (refl, (refl, tt)))))))) λ name h. marked (codes ">") _ name.1 _ λ rest q. (h.0, λ none. inr (h.2 none)))

abbrev Whose : FieldTree → List ℕ → Type 0
Whose (field name t nullable metadata) rest = (bytes_eq (codes "value") name ≡ false) ⊎ (after_prefix (codes " ('") rest ≡ None)

whose : (sorted : Bool) (entries : List ℕ) (value : FieldTree) (rest : List ℕ) → Whose value rest → (after_prefix (codes " ('") rest ≡ None → (sorted ≡ true) ⊎ (bytes_eq (codes "entries") entries ≡ true)) → HasUnambiguousQuotes sorted entries value
whose sorted entries (field name t nullable metadata) rest (inl q) k = inr (inr q)
whose sorted entries (field name t nullable metadata) rest (inr none) k = elim (k none) [ inl q ↦ inl q | inr q ↦ inr (inl q) ]

both : {A : Type 0} (P Q : A → Type 0) (r : Result A SyntaxError) → IfOk r P → IfOk r Q → IfOk r (λ x. P x × Q x)
both P Q (Ok x) h k = (h, k)
both P Q (Err e) h k = tt

front : (a b c d e : List ℕ) → (((a ++ b) ++ c) ++ d) ++ e ≡ a ++ (b ++ (c ++ (d ++ e)))
front a b c d e = simp append_assoc refl

opened : (ids : Bool) (fs : FieldTrees) (is : List ℤ) (bs rest : List ℕ) → after_prefix (codes ">") bs ≡ None → bs ≡ (rows ids fs is ++ codes ">") ++ rest → LacksClosingBracket fs
opened ids no_fields is bs rest none e = tt
opened ids (more_fields (field name t nullable metadata) fs) is bs rest none e =
    let b = codes ": " ++ (text_of_type t ++ nullable_text nullable) in
    let c = id_text ids is ++ later_rows ids fs (ids_after ids is) in
    after-shorter (codes ">") name (b ++ (c ++ (codes ">" ++ rest))) (ap (after_prefix (codes ">")) (sym (e ∙ front name b c (codes ">") rest)) ∙ none)

plain-representable : (Representable : TypeTree → Type 0) (plain : PlainType) → IsRepresentableBody Representable (plain_tree plain)
plain-representable Representable plains.Null = tt
plain-representable Representable plains.Boolean = tt
plain-representable Representable plains.Float16 = tt
plain-representable Representable plains.Float32 = tt
plain-representable Representable plains.Float64 = tt
plain-representable Representable plains.Date32 = tt
plain-representable Representable plains.Date64 = tt
plain-representable Representable plains.YearMonth = tt
plain-representable Representable plains.DayTime = tt
plain-representable Representable plains.MonthDayNano = tt
plain-representable Representable plains.Binary = tt
plain-representable Representable plains.LargeBinary = tt
plain-representable Representable plains.Utf8 = tt
plain-representable Representable plains.LargeUtf8 = tt

integer-representable : (Representable : TypeTree → Type 0) (key : IntegerType) → IsRepresentableBody Representable (integer_tree key)
integer-representable Representable integers.Int8 = tt
integer-representable Representable integers.Int16 = tt
integer-representable Representable integers.Int32 = tt
integer-representable Representable integers.Int64 = tt
integer-representable Representable integers.UInt8 = tt
integer-representable Representable integers.UInt16 = tt
integer-representable Representable integers.UInt32 = tt
integer-representable Representable integers.UInt64 = tt

size-below : (bs : List ℕ) → IfOk (read_size bs) (λ x. x.0 < 2 ^ 64)
unfolding read_size
size-below bs = bound (λ x. x.0 < 2 ^ 64) _ _ _ (number-below bs) λ n lt. marked (codes "]") _ n.1 _ λ rest q. lt

list-size-below : (bs : List ℕ) → IfOk (read_list_size bs) (λ x. x.0 < 2 ^ 64)
unfolding read_list_size
list-size-below bs = marked (codes "[") (λ x. x.0 < 2 ^ 64) bs _ λ bracket q. size-below bracket

scale-below : (bs : List ℕ) → IfOk (read_precision_and_scale bs) (λ x. (x.0.0 < 2 ^ 64) × (x.0.1 < 2 ^ 64))
unfolding read_precision_and_scale
scale-below bs = bound (λ x. x.0 < 2 ^ 64) _ _ _ (number-below bs) λ m lm. marked (codes ", ") _ m.1 _ λ comma q. bound (λ x. x.0 < 2 ^ 64) _ _ _ (number-below comma) λ n ln. marked (codes ")") _ n.1 _ λ rest q. (lm, ln)

module _ (inner : TypeReader) (Representable : TypeTree → Type 0) (sound : (bs : List ℕ) → Reads text_of_type bs (inner bs)) (representable : (bs : List ℕ) → IfOk (inner bs) (λ x. Representable x.0)) where
  field-representable : (bs : List ℕ) → IfOk (read_field inner bs) (λ x. IsRepresentableField Representable x.0)
  unfolding read_field
  field-representable bs = bound (λ x. IsTerminatedBy (codes ": ") x.0 × (bs ≡ x.0 ++ (codes ": " ++ x.1))) _ _ _ (name-ends (codes ": ") bs) λ name e. bound (λ (x : TypeTree × List ℕ). Representable x.0) _ _ _ (representable name.1) λ t h. (e.0, h, refl)

  items-representable : (bs : List ℕ) → IfOk (read_item_field inner bs) (λ x. IsRepresentableField Representable x.0)
  unfolding read_item_field
  items-representable bs = bound (λ (x : FieldTree × List ℕ). IsRepresentableField Representable x.0) _ _ _ (field-representable bs) λ f h. marked (codes ">") _ f.1 _ λ rest q. h

  list-representable : (make : FieldTree → TypeTree) → ((f : FieldTree) → IsRepresentableField Representable f → IsRepresentableBody Representable (make f)) → (bs : List ℕ) → IfOk (read_list inner make bs) (λ x. IsRepresentableBody Representable x.0)
  unfolding read_list
  list-representable make is bs = bound (λ (x : FieldTree × List ℕ). IsRepresentableField Representable x.0) _ _ _ (items-representable bs) λ f h. is f.0 h

  fixed-list-representable : (bs : List ℕ) → IfOk (read_fixed_size_list inner bs) (λ x. IsRepresentableBody Representable x.0)
  unfolding read_fixed_size_list
  fixed-list-representable bs = bound (λ (x : FieldTree × List ℕ). IsRepresentableField Representable x.0) _ _ _ (items-representable bs) λ f h. bound (λ x. x.0 < 2 ^ 64) _ _ _ (list-size-below f.1) λ n lt. (h, lt)

  fields-representable : (ids : Bool) (n : ℕ) (bs : List ℕ) → IfOk (read_some_fields ids inner n bs) (λ x. AreRepresentable Representable (field_trees x.0.0) × IdsOf ids x.0.1 (field_trees x.0.0))
  unfolding read_some_fields
  fields-representable ids zero bs = tt
  fields-representable ids (suc n) bs = bound (λ (x : FieldTree × List ℕ). IsRepresentableField Representable x.0) _ _ _ (field-representable bs) λ f h. bound (IdRepresentable ids) _ _ _ (ids-representable ids f.1) λ id k.
      let Q : FieldsAndIds × List ℕ → Type 0 = λ x. AreRepresentable Representable (field_trees x.0.0) × IdsOf ids x.0.1 (field_trees x.0.0) in
      either (codes ", ") id.1 (λ v. IfOk (fields_after f.0 id.0 id.1 v (read_some_fields ids inner n)) Q)
      (λ next e. bound Q Q _ _ (fields-representable ids n next) λ more r. ((h, r.0), k more.0.1 f.0 (field_trees more.0.0) r.1))
      (marked (codes ">") Q id.1 _ λ rest q. ((h, tt), rw (append-nil (option_to_list id.0)) at (k [] f.0 no_fields (no-more ids))))

  all-representable : (ids : Bool) (bs : List ℕ) → IfOk (read_fields ids inner bs) (λ x. LacksClosingBracket (field_trees x.0.0) × AreRepresentable Representable (field_trees x.0.0) × IdsOf ids x.0.1 (field_trees x.0.0))
  unfolding read_fields
  all-representable ids bs =
      let P : FieldsAndIds × List ℕ → Type 0 = λ x. AreRepresentable Representable (field_trees x.0.0) × IdsOf ids x.0.1 (field_trees x.0.0) in
      let Q : FieldsAndIds × List ℕ → Type 0 = λ x. LacksClosingBracket (field_trees x.0.0) × AreRepresentable Representable (field_trees x.0.0) × IdsOf ids x.0.1 (field_trees x.0.0) in
      (elim (after_prefix (codes ">") bs) as (λ v. after_prefix (codes ">") bs ≡ v → IfOk (fields_or_none ids inner bs v) Q) [
        | Some rest ↦ λ e. (tt, tt, no-more ids)
        | None ↦ λ e. follows (λ x. P x × AreRows ids bs x) Q _ (both P (AreRows ids bs) _ (fields-representable ids (length bs) bs) (fields-read inner sound ids (length bs) bs)) λ x h.
            (opened ids (field_trees x.0.0) x.0.1 bs x.1 e (rows-begin ids (field_trees x.0.0) x.0.1 bs x.1 h.1), h.0.0, h.0.1)
      ]) refl

  struct-representable : (bs : List ℕ) → IfOk (read_struct inner bs) (λ x. IsRepresentableBody Representable x.0)
  unfolding read_struct
  struct-representable bs = bound (λ x. LacksClosingBracket (field_trees x.0.0) × AreRepresentable Representable (field_trees x.0.0) × IdsOf false x.0.1 (field_trees x.0.0)) _ _ _ (all-representable false bs) λ fs h. (h.0, h.1)

  union-representable : (mode : UnionMode) (bs : List ℕ) → IfOk (read_union inner mode bs) (λ x. IsRepresentableBody Representable x.0)
  unfolding read_union
  union-representable mode bs = bound (λ x. LacksClosingBracket (field_trees x.0.0) × AreRepresentable Representable (field_trees x.0.0) × IdsOf true x.0.1 (field_trees x.0.0)) _ _ _ (all-representable true bs) λ fs h. (h.0, h.1, h.2)

  key-representable : (bs : List ℕ) → IfOk (read_entry_field inner (codes "key") false bs) (λ x. IsRepresentableEntry Representable false x.0)
  unfolding read_entry_field
  key-representable bs = bound (λ (x : TypeTree × List ℕ). Representable x.0) _ _ _ (representable bs) λ t h. bound (DefaultNameRepresentable (codes "key") t.1) _ _ _ (usual-representable (codes "key") t.1 (refl, (refl, (refl, tt)))) λ name e. (e.0, h, refl, refl)

  value-representable : (bs : List ℕ) → IfOk (read_entry_field inner (codes "value") true bs) (λ x. IsRepresentableEntry Representable true x.0 × Whose x.0 x.1)
  unfolding read_entry_field
  value-representable bs = bound (λ (x : TypeTree × List ℕ). Representable x.0) _ _ _ (representable bs) λ t h. bound (DefaultNameRepresentable (codes "value") t.1) _ _ _ (usual-representable (codes "value") t.1 (refl, (refl, (refl, (refl, (refl, tt)))))) λ name e. ((e.0, h, refl, refl), e.1)

  abbrev AreEntries : (FieldTree × FieldTree) × List ℕ → Type 0
  AreEntries x = IsRepresentableEntry Representable false x.0.0 × (IsRepresentableEntry Representable true x.0.1 × Whose x.0.1 x.1)

  map-fields-representable : (bs : List ℕ) → IfOk (read_map_fields inner bs) AreEntries
  unfolding read_map_fields
  map-fields-representable bs = bound (λ (x : FieldTree × List ℕ). IsRepresentableEntry Representable false x.0) _ _ _ (key-representable bs) λ key hk. marked (codes ", ") _ key.1 _ λ comma q. bound (λ (x : FieldTree × List ℕ). IsRepresentableEntry Representable true x.0 × Whose x.0 x.1) _ _ _ (value-representable comma) λ value hv. (hk, hv)

  map-representable : (bs : List ℕ) → IfOk (read_map inner bs) (λ x. IsRepresentableBody Representable x.0)
  unfolding read_map
  map-representable bs = bound AreEntries _ _ _ (map-fields-representable bs) λ fs h. bound (EndRepresentable fs.1) _ _ _ (end-representable fs.1) λ end he.
      (h.0, h.1.0, he.0, whose end.0.0 end.0.1 fs.0.1 fs.1 h.1.1 he.1, refl, refl)

  dictionary-representable : (bs : List ℕ) → IfOk (read_dictionary inner bs) (λ x. IsRepresentableBody Representable x.0)
  unfolding read_dictionary
  dictionary-representable bs = bound (λ (x : TypeTree × List ℕ). Representable x.0) _ _ _ (representable bs) λ t h. skip _ (read_dictionary_end t.1) _ λ end. h

  extension-representable : (bs : List ℕ) → IfOk (read_extension inner bs) (λ x. IsRepresentableBody Representable x.0)
  unfolding read_extension
  extension-representable bs = bound (λ x. IsTerminatedBy (codes ", ") x.0 × (bs ≡ x.0 ++ (codes ", " ++ x.1))) _ _ _ (name-ends (codes ", ") bs) λ name e. bound (λ (x : TypeTree × List ℕ). Representable x.0) _ _ _ (representable name.1) λ t h. marked (codes ">") _ t.1 _ λ rest q.
      let u : TypeTree = types.extension name.0 t.0 None in
      let read : TypeTree × List ℕ = (u, rest) in
      (elim (spec_is_float u) as (λ v. spec_is_float u ≡ v → IfOk (cond v (Err (Unexpected (length bs))) (Ok read)) (λ x. IsRepresentableBody Representable x.0)) [
        | true ↦ λ f. tt
        | false ↦ λ f. subst (λ v. IsRepresentableExtension Representable v name.0 t.0 None) (sym f) (e.0, h, refl)
      ]) refl

  timed-representable : (make : TimeUnit → TypeTree) → ((u : TimeUnit) → IsRepresentableBody Representable (make u)) → (bs : List ℕ) → IfOk (read_time make bs) (λ x. IsRepresentableBody Representable x.0)
  unfolding read_time
  timed-representable make is bs = skip _ (read_unit bs) _ λ u. marked (codes "]") _ u.1 _ λ rest q. is u.0

  timestamp-representable : (bs : List ℕ) → IfOk (read_timestamp bs) (λ x. IsRepresentableBody Representable x.0)
  unfolding read_timestamp
  timestamp-representable bs = skip _ (read_unit bs) _ λ u. either (codes ", tz=") u.1 (λ v. IfOk (zone_of u.0 u.1 v) (λ x. IsRepresentableBody Representable x.0))
      (λ rest e. bound (λ x. IsTerminatedBy (codes "]") x.0 × (rest ≡ x.0 ++ (codes "]" ++ x.1))) _ _ _ (name-ends (codes "]") rest) λ zone h. h.0)
      (marked (codes "]") _ u.1 _ λ rest q. tt)

  body-representable : (keyword : Keyword) (bs : List ℕ) → IfOk (read_after_keyword inner keyword bs) (λ x. IsRepresentableBody Representable x.0)
  unfolding read_fixed_size_binary read_decimal
  body-representable (keywords.Plain plain) bs = plain-representable Representable plain
  body-representable (keywords.Integer key) bs = integer-representable Representable key
  body-representable (keywords.Parametric parametrics.Timestamp) bs = timestamp-representable bs
  body-representable (keywords.Parametric parametrics.Time32) bs = timed-representable types.time32 (λ u. tt) bs
  body-representable (keywords.Parametric parametrics.Time64) bs = timed-representable types.time64 (λ u. tt) bs
  body-representable (keywords.Parametric parametrics.Duration) bs = timed-representable types.duration (λ u. tt) bs
  body-representable (keywords.Parametric parametrics.FixedSizeBinary) bs = bound (λ x. x.0 < 2 ^ 64) _ _ _ (size-below bs) λ n lt. lt
  body-representable (keywords.Parametric parametrics.Decimal) bs = bound (λ x. (x.0.0 < 2 ^ 64) × (x.0.1 < 2 ^ 64)) _ _ _ (scale-below bs) λ p h. h
  body-representable (keywords.Parametric parametrics.Decimal256) bs = bound (λ x. (x.0.0 < 2 ^ 64) × (x.0.1 < 2 ^ 64)) _ _ _ (scale-below bs) λ p h. h
  body-representable (keywords.Nested nests.List) bs = list-representable types.list (λ f h. h) bs
  body-representable (keywords.Nested nests.FixedSizeList) bs = fixed-list-representable bs
  body-representable (keywords.Nested nests.LargeList) bs = list-representable types.large_list (λ f h. h) bs
  body-representable (keywords.Nested nests.Struct) bs = struct-representable bs
  body-representable (keywords.Nested nests.DenseUnion) bs = union-representable Dense bs
  body-representable (keywords.Nested nests.SparseUnion) bs = union-representable Sparse bs
  body-representable (keywords.Nested nests.Map) bs = map-representable bs
  body-representable (keywords.Nested nests.Dictionary) bs = dictionary-representable bs
  body-representable (keywords.Nested nests.Extension) bs = extension-representable bs

type-representable : (levels : ℕ) (bs : List ℕ) → IfOk (read_type levels bs) (λ x. IsRepresentable levels x.0)
unfolding read_type
type-representable zero bs = tt
type-representable (suc levels) bs = skip _ (read_keyword bs) _ λ keyword. body-representable (read_type levels) (IsRepresentable levels) (type-reads levels) (type-representable levels) keyword.0 keyword.1

whole-representable : (bs : List ℕ) → IfOk (read_complete_type bs) (IsRepresentable 64)
unfolding read_complete_type
whole-representable bs = bound (λ (x : TypeTree × List ℕ). IsRepresentable 64 x.0) (IsRepresentable 64) (read_type 64 bs) without_rest (type-representable 64 bs) λ x h.
    elim (length x.1 == 0) as (λ v. IfOk (cond v (Ok x.0) (Err (Unexpected (length x.1)))) (IsRepresentable 64)) [
      | true ↦ h
      | false ↦ tt
    ]

parse-representable : (bs : List ℕ) → IfOk (parsed_type bs) (IsRepresentable 64)
parse-representable bs =
    (elim (read_complete_type bs) as (λ r. IfOk r (IsRepresentable 64) → IfOk (located (length bs) r) (IsRepresentable 64)) [
      | Ok t ↦ λ e. e
      | Err f ↦ λ e. tt
    ]) (whole-representable bs)

pub parsed-is-representable : (bs : List ℕ) (t : TypeTree) → parsed_type bs ≡ Ok t → IsRepresentable 64 t
parsed-is-representable bs t e = subst (λ (r : Result TypeTree ParseTypeError). IfOk r (IsRepresentable 64)) e (parse-representable bs)
