use Rattle.std.proofs.Common.{◌≡◌, ◌+◌, ◌≤◌, List, ℕ, length, map, refl, ap, subst, arith}
use Rattle.std.proofs.lemmas.Result.{err_from_is_err_and}
use Rattle.nest_memory.specs.TypeOf.{field_of}
use Rattle.nest_memory.specs.declared.datatypes.field.Field.{Field}
use Rattle.ipc_flatbuf.specs.PartBytes.{bytes_of_each, table_vector_bytes, concatenated}
use Rattle.ipc_flatbuf.specs.VectorLaws.{table_vector_is_long}
use Rattle.ipc_flatbuf.specs.WriteErrors.{size_error_of_whole}
use Rattle.ipc_schema.specs.Schemas.{SchemaModel, schema_of}
use Rattle.ipc_schema.specs.SchemaBytes.{each_bytes, fields_bytes, entries_bytes, schema_bytes}
use Rattle.ipc_schema.specs.FieldLaws.{AllFit}
use Rattle.ipc_schema.specs.SchemaLaws.{part_of, part_long}
use Rattle.ipc_schema.proofs.Maps.{rising_is}
use Rattle.ipc_schema.proofs.writing.schema_bytes_of.Goals as goal

pub returns-in_err-parts-clause-size : goal.returns-in_err-parts-clause-size
returns-in_err-parts-clause-size c =
    let p = err_from_is_err_and c.from_residual.result c.from_residual.ensures.1 in
    let s : SchemaModel = schema_of c.args.schema.now in
    let le : 0 + length (concatenated (each_bytes 64 0 s.fields)) ≤ length (part_of s) = omega (arith, part_long s, table_vector_is_long 24 (each_bytes 64 0 s.fields)) in
    let e = rw c.deref.ensures.value at c.in_err-parts.ensures.size in
    rw (p.1, p.2) (size_error_of_whole _ _ _ le e)

pub returns-in_err-write_tables-clause-size : goal.returns-in_err-write_tables-clause-size
returns-in_err-write_tables-clause-size c =
    let p = err_from_is_err_and c.from_residual-in_err-write_tables.result c.from_residual-in_err-write_tables.ensures.1 in
    let s : SchemaModel = schema_of c.args.schema.now in
    let rows : bytes_of_each c.deref-2.result.now ≡ each_bytes 64 0 s.fields = rw (c.deref-2.ensures.value, c.in_ok-parts.ensures.ok, c.deref.ensures.value) refl in
    rw (p.1, p.2) (size_error_of_whole _ _ _ (omega (arith, ap (λ (l : List (List ℕ)). length (table_vector_bytes 24 l)) rows, part_long s)) c.in_err-write_tables.ensures.size)

pub returns-in_err-write_metadata-clause-size : goal.returns-in_err-write_metadata-clause-size
returns-in_err-write_metadata-clause-size c =
    let p = err_from_is_err_and c.from_residual-in_err-write_metadata.result c.from_residual-in_err-write_metadata.ensures.1 in
    let s : SchemaModel = schema_of c.args.schema.now in
    rw (p.1, p.2) (size_error_of_whole _ _ _ (omega (arith, part_long s)) c.in_err-write_metadata.ensures.size)

pub returns-in_err-write_schema_part-clause-size : goal.returns-in_err-write_schema_part-clause-size
returns-in_err-write_schema_part-clause-size c =
    let p = err_from_is_err_and c.from_residual-in_err-write_schema_part.result c.from_residual-in_err-write_schema_part.ensures.1 in
    let s : SchemaModel = schema_of c.args.schema.now in
    let rows : bytes_of_each c.deref-2.result.now ≡ each_bytes 64 0 s.fields = rw (c.deref-2.ensures.value, c.in_ok-parts.ensures.ok, c.deref.ensures.value) refl in
    let fields : c.deref-3.result.now ≡ fields_bytes s.fields = rw (c.deref-3.ensures.value, c.in_ok-write_tables.ensures.ok, c.new-fields.ensures.items, rows) refl in
    let metadata : c.deref-4.result.now ≡ entries_bytes s.metadata = rw (c.deref-4.ensures.value, c.in_ok-write_metadata.ensures.ok, c.new-metadata.ensures.items) refl in
    let same : schema_bytes c.deref-3.result.now c.deref-4.result.now ≡ part_of s = rw (fields, metadata) refl in
    rw (p.1, p.2) (size_error_of_whole _ _ _ (omega (arith, ap length same)) c.in_err-write_schema_part.ensures.size)

pub returns-clause-ok : goal.returns-clause-ok
returns-clause-ok c =
    let s : SchemaModel = schema_of c.args.schema.now in
    let rows : bytes_of_each c.deref-2.result.now ≡ each_bytes 64 0 s.fields = rw (c.deref-2.ensures.value, c.in_ok-parts.ensures.ok, c.deref.ensures.value) refl in
    let fields : c.deref-3.result.now ≡ fields_bytes s.fields = rw (c.deref-3.ensures.value, c.in_ok-write_tables.ensures.ok, c.new-fields.ensures.items, rows) refl in
    let metadata : c.deref-4.result.now ≡ entries_bytes s.metadata = rw (c.deref-4.ensures.value, c.in_ok-write_metadata.ensures.ok, c.new-metadata.ensures.items) refl in
    rw (c.in_ok-write_schema_part.ensures.ok, c.new-part.ensures.items, fields, metadata) refl

pub returns-clause-fits : goal.returns-clause-fits
returns-clause-fits c = record {
  form = c.requires;
  fields = subst (λ (fs : List Field). AllFit (map field_of fs)) c.deref.ensures.value c.in_ok-parts.ensures.fits;
  texts = c.in_ok-write_metadata.ensures.texts;
  rising = rising_is c.args.schema.now.metadata.entries c.in_ok-write_metadata.ensures.rising;
}
