-- Record batches as arrays of their rows.
use Rattle.std.proofs.Common.{◌≡◌, ◌<◌, List, [], ◌∷◌, length, map, refl, sym, ap, subst, arith}
use Rattle.std.specs.Prelude.{Ok}
use Rattle.nest_model.specs.Fits.{Fits}
use Rattle.nest_memory.specs.TypeTree.{FieldTree}
use Rattle.ipc.specs.Streams.{RecordBatchTree}
use Rattle.cli_rows.specs.Records.{record_type, records}
use Rattle.cli_rows.specs.RowErrors.{IsRowError}
use Rattle.cli_rows.specs.declared.error.CliError.{CliError}
use Rattle.cli_rows.specs.declared.error.CliError.TheVariants.{Input, Read, Write, MismatchedColumns, IndexOutOfRange, Condition, UnknownName, Output, Memory}
use Rattle.cli_rows.specs.Compared.{IsRowsError, batch_array}
use Rattle.ipc_schema.specs.Schemas.{SchemaModel}

each-batch : (f : FieldTree) (fs : List FieldTree) (bs : List RecordBatchTree) → map (records (record_type (f ∷ fs))) (map (λ b. b.columns) bs) ≡ map (batch_array (f ∷ fs)) bs
each-batch f fs [] = refl
each-batch f fs (b ∷ bs) = ap (λ ls. records (record_type (f ∷ fs)) b.columns ∷ ls) (each-batch f fs bs)

pub with-columns : (fs : List FieldTree) (bs : List RecordBatchTree) → 0 < length fs → map (records (record_type fs)) (map (λ b. b.columns) bs) ≡ map (batch_array fs) bs
with-columns [] bs h = absurd (omega arith)
with-columns (f ∷ fs) bs h = each-batch f fs bs

pub with-column : (fs : List FieldTree) (b : RecordBatchTree) → 0 < length fs → records (record_type fs) b.columns ≡ batch_array fs b
with-column [] b h = absurd (omega arith)
with-column (f ∷ fs) b h = refl

pub no-column : (fs : List FieldTree) (b : RecordBatchTree) → length fs ≡ 0 → batch_array [] b ≡ batch_array fs b
no-column [] b h = refl
no-column (f ∷ fs) b h = absurd (omega arith)

pub unmade : (e : CliError) (s : SchemaModel) (b : RecordBatchTree) → 0 < length s.fields → IsRowError e (Fits (records (record_type s.fields) b.columns)) → IsRowsError e (Ok (record { schema = s; batches = b ∷ [] }))
unmade MismatchedColumns s b some h = λ all. h (subst Fits (sym (with-column s.fields b some)) all.0)
unmade Memory s b some h = tt
unmade Input s b some h = absurd h
unmade (Read error) s b some h = absurd h
unmade (Write error) s b some h = absurd h
unmade IndexOutOfRange s b some h = absurd h
unmade (Condition error) s b some h = absurd h
unmade (UnknownName i) s b some h = absurd h
unmade Output s b some h = absurd h
