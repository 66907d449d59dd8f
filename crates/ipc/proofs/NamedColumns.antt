-- Named columns: the fields made for them, their list, and the columns of a schema.
use Rattle.std.specs.Prelude.{List, [], ◌∷◌, map, nat_eq, ◌&&◌}
use Rattle.std.proofs.Common.{◌≡◌, ℕ, ◌<◌, Bool, true, false, length, refl, ap, sym, ◌∙◌, subst, arith}
use Rattle.nest_memory.specs.TypeEq.{same_type-decides}
use Rattle.nest_memory.specs.TypeOf.{field_list_of, field_of}
use Rattle.nest_memory.specs.TypeTree.{FieldTrees, Letters, field_type}
use Rattle.nest_memory.specs.declared.datatypes.field.Field.{Field}
use Rattle.nest_memory.specs.declared.error.Error.{Error}
use Rattle.nest_model.specs.Checks.{FailsOr, error_number}
use Rattle.nest_model.specs.Fits.{EachLen}
use Rattle.nest_model.specs.Layout.{Layouts, count_layouts, layout_type, more_layouts, no_layouts}
use Rattle.nest_model.specs.Meaning.{first_len, len}
use Rattle.nest_array.specs.Seen.{layout_of, layouts_of}
use Rattle.nest_array.specs.declared.any.AnyArray.{AnyArray}
use Rattle.nest_array.specs.Columns.{ColumnsError, ColumnsFit, column_fields}
use Rattle.ipc_schema.specs.Schemas.{schema_of}
use Rattle.ipc_schema.specs.TypeLaws.{list_back}
use Rattle.ipc_schema.specs.Types.{field_list}
use Rattle.ipc_schema.specs.declared.schema.Schema.{Schema}
use Rattle.ipc.specs.EncodedStreams.{spec_are_columns}
use Rattle.ipc.specs.Streams.{record_batch_of}
use Rattle.ipc.specs.declared.batch.Batch.{Batch}
use Rattle.ipc.specs.NamedColumns.{BatchError, BatchFits, columns_batch, columns_schema, layout_list}

pub columns-listed : (xs : List AnyArray) → layout_list (layouts_of xs) ≡ map layout_of xs
columns-listed [] = refl
columns-listed (x ∷ xs) = ap (λ l. layout_of x ∷ l) (columns-listed xs)

pub fields-listed : (fs : List Field) (ts : FieldTrees) → field_list_of fs ≡ ts → map field_of fs ≡ field_list ts
fields-listed fs ts e = sym (list_back (map field_of fs)) ∙ ap field_list e

-- a schema of these fields without metadata, and a batch of these columns
pub schema-is : (s : Schema) (ns : List Letters) (cs : Layouts) → field_list_of s.fields.items ≡ column_fields ns cs → s.metadata.entries ≡ [] → schema_of s ≡ columns_schema ns cs
schema-is s ns cs made none = rw (fields-listed s.fields.items (column_fields ns cs) made, none) refl

pub batch-is : (b : Batch) → b.rows ≡ first_len (layouts_of b.columns.items) → record_batch_of b ≡ columns_batch (layouts_of b.columns.items)
batch-is b e = rw (e, columns-listed b.columns.items) refl

both-true : (a b : Bool) → a ≡ true → b ≡ true → (a && b) ≡ true
both-true a b h k = rw (h, k) refl

equal-true : (m n : ℕ) → m ≡ n → nat_eq m n ≡ true
equal-true m n e = grind arith

-- the columns have the types of their fields, and n slots each
pub columns-have : (ns : List Letters) (cs : Layouts) (n : ℕ) → length ns ≡ count_layouts cs → EachLen cs n → spec_are_columns (map field_type (field_list (column_fields ns cs))) n (layout_list cs) ≡ true
columns-have [] no_layouts n h e = refl
columns-have [] (more_layouts c cs) n h e = absurd (omega arith)
columns-have (m ∷ ns) no_layouts n h e = absurd (omega arith)
columns-have (m ∷ ns) (more_layouts c cs) n h e =
    both-true _ _ (both-true _ _ ((same_type-decides (layout_type c) (layout_type c)).1 refl) (equal-true (len c) n e.0)) (columns-have ns cs n (omega arith) e.1)

pub batch-fits : (ns : List Letters) (cs : Layouts) → 0 < count_layouts cs → BatchFits ns cs → ColumnsFit ns cs
batch-fits ns cs p h = (h.0, (p, h.1))

pub batch-fits-back : (ns : List Letters) (cs : Layouts) → ColumnsFit ns cs → BatchFits ns cs
batch-fits-back ns cs h = (h.0, h.1.1)

six : (m : ℕ) → nat_eq m 6 ≡ true → m ≡ 6
six m h = grind arith

-- an error of the names or of the lengths is not that of no columns
skip : (m : ℕ) (b : Bool) (some same : Type 0) → nat_eq m 6 ≡ b → some → FailsOr (nat_eq m 8) same ⊥ → FailsOr b some (FailsOr (nat_eq m 8) same ⊥)
skip m true some same x k f = absurd (subst (λ j. FailsOr (nat_eq j 8) same ⊥) (six m x) f).1
skip m false some same x k f = (k, f)

pass-on : (b : Bool) (p r s : Type 0) → (r → s) → FailsOr b p r → FailsOr b p s
pass-on true p r s k f = f
pass-on false p r s k f = (f.0, k f.1)

skipped : (m : ℕ) (p7 p6 p8 : Type 0) → p6 → FailsOr (nat_eq m 7) p7 (FailsOr (nat_eq m 8) p8 ⊥) → FailsOr (nat_eq m 7) p7 (FailsOr (nat_eq m 6) p6 (FailsOr (nat_eq m 8) p8 ⊥))
skipped m p7 p6 p8 p f = pass-on (nat_eq m 7) _ _ _ (skip m (nat_eq m 6) p6 p8 refl p) f

pub batch-error : (e : Error) (ns : List Letters) (cs : Layouts) → 0 < count_layouts cs → BatchError e ns cs → ColumnsError e ns cs
batch-error e ns cs p f = skipped (error_number e) (length ns ≡ count_layouts cs) (0 < count_layouts cs) (EachLen cs (first_len cs)) p f
