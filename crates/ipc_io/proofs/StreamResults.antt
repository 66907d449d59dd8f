-- The results of a reader are those of a reader of its bytes in memory.
use Rattle.std.proofs.Common.{◌≡◌, ℕ, Bool, true, false, List, [], Option, Some, None, Ok, Err, refl, subst}
use Rattle.std.specs.Prelude.{if◌then◌else◌, not}
use Rattle.std.specs.Option.{option_map, is_some, is_none}
use Rattle.ipc_flatbuf.specs.declared.error.IpcReadError as read_errors
use Rattle.ipc_schema.specs.declared.projected.ProjectedSchema.{ProjectedSchema}
use Rattle.ipc_schema.specs.ProjectedSchemas.{projected_schema_of}
use Rattle.ipc_schema.specs.Projections.{ProjectionModel}
use Rattle.ipc.specs.declared.batch.Batch.{Batch}
use Rattle.ipc.specs.Streams.{StateTree, start, record_batch_of}
use Rattle.ipc.specs.StreamLaws.{nothing_left}
use Rattle.ipc.specs.SliceStreamReaders.{reader_in, next_of}
use Rattle.ipc_io.specs.declared.error.ReadError.{ReadError}
use Rattle.ipc_io.specs.declared.error.ReadError.TheVariants.{Ipc, Io}
use Rattle.ipc_io.specs.StreamReaders.{StreamReaderTree, with_left, DecodesReader, FailsReader, DecodesNext, FailsNext, FirstIn, NextIn, Opens, ReadsNext}

-- ---- `new`

pub first_spells : (picks : ProjectionModel) (old new : Option (List ℕ)) (picked : ProjectedSchema) → FirstIn picks old new (Ok picked) → DecodesReader picks old (with_left (start (projected_schema_of picked)) new)
unfolding reader_in
first_spells picks None new picked h = tt
first_spells picks (Some xs) None picked h = absurd h
first_spells picks (Some xs) (Some ys) picked h = rw h refl

first_faults : (picks : ProjectionModel) (old new : Option (List ℕ)) (error : read_errors.IpcReadError) → FirstIn picks old new (Err (Ipc error)) → FailsReader picks error old
unfolding reader_in
first_faults picks None new error h = tt
first_faults picks (Some xs) new error h = λ known. rw (h known) refl

pub first_err : {R : Type 0} (remaining : R → Option (List ℕ)) (picks : ProjectionModel) (reader : R) (new : Option (List ℕ)) (e : ReadError) → FirstIn picks (remaining reader) new (Err e) → Opens remaining picks reader (Err e)
first_err remaining picks reader new (Ipc error) h = first_faults picks (remaining reader) new error h
first_err remaining picks reader new (Io e) h = tt

-- ---- `next_batch`

next_spells : (s t : StateTree) (old new : Option (List ℕ)) (next : Option Batch) → NextIn s old t new (Ok next) → DecodesNext (with_left s old) (with_left t (if is_none next then Some [] else new)) (option_map record_batch_of next)
unfolding next_of
next_spells s t None new next h = tt
next_spells s t (Some xs) None next h = absurd h
next_spells s t (Some xs) (Some ys) None h = rw h refl
next_spells s t (Some xs) (Some ys) (Some batch) h = rw h refl

next_faults : (s t : StateTree) (old new : Option (List ℕ)) (error : read_errors.IpcReadError) → NextIn s old t new (Err (Ipc error)) → FailsNext error (with_left s old)
unfolding next_of
next_faults s t None new error h = tt
next_faults s t (Some xs) new error h = λ known. rw (h known) refl

spent_spells : (s : StateTree) → DecodesNext (with_left s (Some [])) (with_left s (Some [])) None
unfolding next_of
spent_spells s = rw (nothing_left s) refl

ends_is : (next : Option Batch) (ends : Bool) → is_some next ≡ not ends → ends ≡ is_none next
ends_is next true h = rw h refl
ends_is next false h = rw h refl

module _ {R : Type 0} (remaining : R → Option (List ℕ)) where
  -- a stream that is over stays so
  pub goes_still : (old : StreamReaderTree R) (s : StateTree) (reader : R) (over : Bool) → record { inner = reader; state = s; over = over } ≡ old → over ≡ true → ReadsNext remaining old old (Ok None)
  goes_still old s reader over e is =
      let still : ReadsNext remaining (record { inner = reader; state = s; over = over }) (record { inner = reader; state = s; over = over }) (Ok None) = rw is (spent_spells s, refl) in
      subst (λ (x : StreamReaderTree R). ReadsNext remaining x x (Ok None)) e still

  -- a stream goes on after a record batch, and is over after the last
  pub goes_on : (old : StreamReaderTree R) (s t : StateTree) (reader new : R) (over ends : Bool) (next : Option Batch) → record { inner = reader; state = s; over = over } ≡ old → over ≡ false → is_some next ≡ not ends → t.picked ≡ s.picked
      → NextIn s (remaining reader) t (remaining new) (Ok next) → ReadsNext remaining old (record { inner = new; state = t; over = ends }) (Ok next)
  goes_on old s t reader new over ends next e is end same h =
      let on : ReadsNext remaining (record { inner = reader; state = s; over = over }) (record { inner = new; state = t; over = ends }) (Ok next) = rw (is, ends_is next ends end) (next_spells s t (remaining reader) (remaining new) next h, same) in
      subst (λ (x : StreamReaderTree R). ReadsNext remaining x (record { inner = new; state = t; over = ends }) (Ok next)) e on

  failed : (s t : StateTree) (reader new : R) (over : Bool) (e : ReadError) → over ≡ false → t.picked ≡ s.picked → NextIn s (remaining reader) t (remaining new) (Err e)
      → ReadsNext remaining (record { inner = reader; state = s; over = over }) (record { inner = new; state = t; over = true }) (Err e)
  failed s t reader new over (Ipc error) is same h = rw is (next_faults s t (remaining reader) (remaining new) error h, (refl, same))
  failed s t reader new over (Io e) is same h = (refl, same)

  -- after an error it is over
  pub goes_err : (old : StreamReaderTree R) (s t : StateTree) (reader new : R) (over : Bool) (e : ReadError) → record { inner = reader; state = s; over = over } ≡ old → over ≡ false → t.picked ≡ s.picked
      → NextIn s (remaining reader) t (remaining new) (Err e) → ReadsNext remaining old (record { inner = new; state = t; over = true }) (Err e)
  goes_err old s t reader new over e from is same h = subst (λ (x : StreamReaderTree R). ReadsNext remaining x (record { inner = new; state = t; over = true }) (Err e)) from (failed s t reader new over e is same h)
