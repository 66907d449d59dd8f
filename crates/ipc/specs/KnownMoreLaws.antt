-- After the dictionary batches of a file only more is known, and record batches decode as before.
use Rattle.std.specs.Prelude.{◌≡◌, ℕ, ℤ, pos, Bool, true, false, nat_lt, List, [], ◌∷◌, map, Option, Some, None, is_some, ◌⊎◌, IfSome, ◌++◌, Result, Ok, Err, IfOk, refl, not, ◌&&◌, if◌then◌else◌}
use Rattle.std.proofs.Common.{sym, ap, subst, inl, inr, ◌∙◌, append_assoc}
use Rattle.std.specs.BTreeMap.{insert_entry}
use Rattle.std.specs.Cmp.{Equal-is}
use Rattle.std.specs.Int.{w8, w64}
use Rattle.std.specs.Ordering.{int_cmp, is_eq}
use Rattle.std.proofs.lemmas.Map.Lookups.{exact_signed}
use Rattle.nest_memory.specs.TypeTree.{TypeTree, logical_type}
use Rattle.nest_model.specs.Array.{IsArray}
use Rattle.nest_model.specs.Layout.{Layout, layout_type}
use Rattle.nest_model.specs.Meaning.{slots_of}
use Rattle.nest_model.specs.Slot.{Slot}
use Rattle.ipc_flatbuf.specs.ReadResults.{◌>>=◌, check}
use Rattle.ipc_flatbuf.specs.declared.error.IpcReadError.{IpcReadError}
use Rattle.ipc_flatbuf.specs.declared.error.IpcReadError.TheVariants.{DuplicateDictionary, Delta}
use Rattle.ipc_flatbuf.specs.Flatbuffers.{number_at, signed_at, field, spec_offset_field, spec_read_table}
use Rattle.ipc_flatbuf.specs.declared.tables.FlatbufferTable.{FlatbufferTable}
use Rattle.ipc_flatbuf.specs.Messages.{MessageModel}
use Rattle.ipc_schema.specs.Dictionaries.{ValueTypeModel}
use Rattle.ipc_schema.specs.OutermostIds.{spec_outermost_ids}
use Rattle.ipc_schema.specs.ProjectedSchemas.{ProjectedSchemaModel}
use Rattle.ipc_schema.specs.StoredArrays.{stored_arrays}
use Rattle.ipc_schema.specs.StoredTypes.{read_type}
use Rattle.ipc_flatbuf.specs.StoredArrays.{reads_as_stored}
use Rattle.ipc_flatbuf.specs.declared.batch.parts.BufferSpec.{BufferSpec}
use Rattle.ipc_flatbuf.specs.Batches.{BatchModel, batch_at}
use Rattle.ipc_arrays.specs.Decoding.{Rest, with_buffers, decoded_column, checked_exhausted}
use Rattle.ipc_arrays.specs.Projection.{decoded_projection}
use Rattle.ipc_arrays.specs.NeededBuffers.{spec_needed_buffers}
use Rattle.ipc_arrays.specs.Stored.{ConvertedParts, converted_batch}
use Rattle.ipc_arrays.specs.DecodingLaws.{after, found, checked}
use Rattle.ipc_arrays.specs.ReplacedValues.{IsExtendedBy}
use Rattle.ipc_arrays.specs.declared.cursor.ExpectedLength.TheVariants.{Rows}
use Rattle.ipc.specs.KnownDictionaryLaws.{entry_put, entry_kept}
use Rattle.std.proofs.lemmas.Bool.{and_parts}
use Rattle.nest_memory.specs.TypeEq.{same_type, same_type-decides}
use Rattle.nest_concat.specs.Laid.{joined_layout, joins_past}
use Rattle.nest_concat.proofs.LaidWholes.{two-joined, two-slots}
use Rattle.ipc.specs.ExtendedDictionaries.{IsExtended, AllExtended, HasExtendedDictionaries, HoldsArray, AreAllArrays, AreSameArrays, ReadTogether, KnowsMore, HasArrays, IsLater, BatchDecodesAlike}
use Rattle.ipc.specs.ExtendedColumns.{read_too, read_weaker, AreReadAlike, column_fits, grown_self, picked_next}
use Rattle.ipc.specs.ExtendedReads.{Anything, any_read, then_read, then_same}
use Rattle.ipc.specs.UnionOffsets.{spec_union_offsets_overflow}
use Rattle.ipc.specs.PlainBuffers.{plain_buffers, all_needed, without_dictionaries}
use Rattle.ipc.specs.Streams.{Known, StateTree, RecordBatchTree, known_at, values_at, batch_rest, column_types, spec_variadic_counts, plain_columns_in, converted_columns_in, columns_in, record_batch_in, named_in, spec_data_position, spec_check_order, spec_only_column, plain_column_in, converted_column_in, only_column_in, counts_of_arrays, spec_with_values, column_in_batch, data_in, new_values_in, found_values, found_in, with_found, dictionary_in, spec_contains_id, with_delta, spec_joined_values}
use Rattle.ipc.specs.EncodedStreams.{IsSameBatch}

-- ---- more is known

grown_still : (o : Option Layout) → IsExtended o o
grown_still None = tt
grown_still (Some c) = grown_self c

grown_further : (o p q : Option Layout) → IsExtended o p → IsExtended p q → IsExtended o q
grown_further None p q h k = tt
grown_further (Some c) None q h k = absurd h
grown_further (Some c) (Some d) None h k = absurd k
grown_further (Some c) (Some d) (Some e) h k =
    record { logical = k.logical ∙ h.logical; more = h.more ++ k.more; slots = k.slots ∙ ap (λ (ss : List Slot). ss ++ k.more) h.slots ∙ append_assoc (slots_of c) h.more k.more }

-- an id has more values, the others are unchanged
write_at : (b : Bool) (known : Known) (id other : ℤ) (d : Layout) → is_eq (int_cmp other id) ≡ b → IsExtended (known_at known id) (Some d) → IsExtended (known_at known other) (known_at (insert_entry int_cmp known id d) other)
write_at true known id other d is h =
    let same : other ≡ id = exact_signed other id ((Equal-is (int_cmp other id)).0 is) in
    subst (λ (k : ℤ). IsExtended (known_at known k) (known_at (insert_entry int_cmp known id d) k)) (sym same) (subst (IsExtended (known_at known id)) (sym (entry_put known id d)) h)
write_at false known id other d is h = subst (IsExtended (known_at known other)) (sym (entry_kept known id other d is)) (grown_still (known_at known other))

pub grows_put : (known : Known) (id : ℤ) (d : Layout) → IsExtended (known_at known id) (Some d) → KnowsMore known (insert_entry int_cmp known id d)
grows_put known id d h other = write_at (is_eq (int_cmp other id)) known id other d refl h

array_at : (b : Bool) (known : Known) (id other : ℤ) (d : Layout) → is_eq (int_cmp other id) ≡ b → IsArray d → HasArrays known → HoldsArray (known_at (insert_entry int_cmp known id d) other)
array_at true known id other d is h all =
    let same : other ≡ id = exact_signed other id ((Equal-is (int_cmp other id)).0 is) in
    subst (λ (k : ℤ). HoldsArray (known_at (insert_entry int_cmp known id d) k)) (sym same) (subst HoldsArray (sym (entry_put known id d)) h)
array_at false known id other d is h all = subst HoldsArray (sym (entry_kept known id other d is)) (all other)

pub arrays_put : (known : Known) (id : ℤ) (d : Layout) → IsArray d → HasArrays known → HasArrays (insert_entry int_cmp known id d)
arrays_put known id d h all other = array_at (is_eq (int_cmp other id)) known id other d refl h all

pub values_grow : (ids : List ℤ) (known more : Known) → KnowsMore known more → AllExtended (values_at known ids) (values_at more ids)
values_grow [] known more h = tt
values_grow (id ∷ ids) known more h = (h id, values_grow ids known more h)

values_fit : (ids : List ℤ) (known : Known) → HasArrays known → AreAllArrays (values_at known ids)
values_fit [] known h = tt
values_fit (id ∷ ids) known h = (h id, values_fit ids known h)

pub later_self : (s : StateTree) → HasArrays s.known → IsLater s s
later_self s all = record { picked = refl; grows = λ id. grown_still (known_at s.known id); arrays = all }

pub later_on : (s t u : StateTree) → IsLater s t → IsLater t u → IsLater s u
later_on s t u h k = record { picked = k.picked ∙ h.picked; grows = λ id. grown_further (known_at s.known id) (known_at t.known id) (known_at u.known id) (h.grows id) (k.grows id); arrays = k.arrays }

-- ---- a record batch over more known dictionaries

same_types : (xs ys : List Layout) → AreSameArrays xs ys → map layout_type ys ≡ map layout_type xs
same_types [] [] h = refl
same_types [] (y ∷ ys) h = absurd h
same_types (x ∷ xs) [] h = absurd h
same_types (x ∷ xs) (y ∷ ys) h = λ w. sym h.0.0 w ∷ same_types xs ys h.1 w

same_slots : (xs ys : List Layout) → AreSameArrays xs ys → map slots_of ys ≡ map slots_of xs
same_slots [] [] h = refl
same_slots [] (y ∷ ys) h = absurd h
same_slots (x ∷ xs) [] h = absurd h
same_slots (x ∷ xs) (y ∷ ys) h = λ w. sym h.0.1 w ∷ same_slots xs ys h.1 w

-- the columns of a batch, and the batch, over known dictionaries
abbrev columns_over : ProjectedSchemaModel → MessageModel → List ℤ → BatchModel → Known → Result (List Layout) IpcReadError
columns_over p m counts batch known = columns_in batch.compression p batch.rows m.body (record { rest = batch_rest known (spec_outermost_ids p.seen.named p.seen.ids) batch; more = counts })

abbrev batch_over : ProjectedSchemaModel → MessageModel → Known → Result RecordBatchTree IpcReadError
batch_over p m known = batch_at m.metadata m.root.header m.root.left m.root.body_length >>= λ batch. spec_variadic_counts p m >>= λ counts. columns_over p m counts batch known >>= λ columns. Ok (record { rows = batch.rows; columns = columns })

-- where the arrays are read as they are stored
abbrev plain_over : ProjectedSchemaModel → MessageModel → List ℤ → BatchModel → Known → Result (List Layout) IpcReadError
plain_over p m counts batch known = plain_columns_in batch.compression p batch.rows m.body (record { rest = batch_rest known (spec_outermost_ids p.seen.named p.seen.ids) batch; more = counts })

plain_later : (p : ProjectedSchemaModel) (m : MessageModel) (counts : List ℤ) (batch : BatchModel) (known more : Known) → KnowsMore known more → ReadTogether AreSameArrays (plain_over p m counts batch known) (plain_over p m counts batch more)
plain_later p m counts batch known more h =
    let ids : List ℤ = spec_outermost_ids p.seen.named p.seen.ids in
    let types : List TypeTree = column_types p.schema in
    let plain : Result (List BufferSpec × List ℕ) IpcReadError = plain_buffers batch.compression m.body batch.buffers (spec_needed_buffers p.steps types counts batch.buffers) in
    then_same AreSameArrays Anything plain _ _ (any_read plain)
    (λ x e _.
    let r : Rest = with_buffers (batch_rest known ids batch) x.0 in
    let s : Rest = with_buffers (batch_rest more ids batch) x.0 in
    let over : HasExtendedDictionaries r s = record { nodes = refl; buffers = refl; dictionaries = values_grow ids known more h } in
    read_weaker (AreReadAlike r) AreSameArrays (decoded_projection p.steps types batch.rows x.1 (record { rest = r; more = counts })) (decoded_projection p.steps types batch.rows x.1 (record { rest = s; more = counts })) (λ xs ys alike. alike.same)
    (picked_next p.steps types batch.rows x.1 counts r s over))

-- where some array is not
abbrev converted_over : ProjectedSchemaModel → MessageModel → List ℤ → BatchModel → Known → Result (List Layout) IpcReadError
converted_over p m counts batch known = converted_columns_in batch.compression p batch.rows m.body (record { rest = batch_rest known (spec_outermost_ids p.seen.named p.seen.ids) batch; more = counts })

converted_later : (p : ProjectedSchemaModel) (m : MessageModel) (counts : List ℤ) (batch : BatchModel) (known more : Known) → KnowsMore known more → ReadTogether AreSameArrays (converted_over p m counts batch known) (converted_over p m counts batch more)
converted_later p m counts batch known more h =
    let ids : List ℤ = spec_outermost_ids p.seen.named p.seen.ids in
    let types : List TypeTree = column_types p.schema in
    let parts : Result ConvertedParts IpcReadError = converted_batch batch.compression p.arrays m.body (record { rest = record { nodes = batch.nodes; buffers = batch.buffers; dictionaries = [] }; more = counts }) in
    then_same AreSameArrays Anything parts _ _ (any_read parts)
    (λ x e _.
    let r : Rest = with_buffers (batch_rest known ids batch) x.buffers in
    let s : Rest = with_buffers (batch_rest more ids batch) x.buffers in
    let over : HasExtendedDictionaries r s = record { nodes = refl; buffers = refl; dictionaries = values_grow ids known more h } in
    read_weaker (AreReadAlike r) AreSameArrays (decoded_projection p.steps types batch.rows x.body (record { rest = r; more = x.more })) (decoded_projection p.steps types batch.rows x.body (record { rest = s; more = x.more })) (λ xs ys alike. alike.same)
    (picked_next p.steps types batch.rows x.body x.more r s over))

columns_later : (p : ProjectedSchemaModel) (m : MessageModel) (counts : List ℤ) (batch : BatchModel) (known more : Known) → KnowsMore known more → ReadTogether AreSameArrays (columns_over p m counts batch known) (columns_over p m counts batch more)
columns_later p m counts batch known more h = by (reads_as_stored p.arrays)
  where
    by : (as_stored : Bool) → ReadTogether AreSameArrays (if as_stored then plain_over p m counts batch known else converted_over p m counts batch known) (if as_stored then plain_over p m counts batch more else converted_over p m counts batch more)
    by true = plain_later p m counts batch known more h
    by false = converted_later p m counts batch known more h

batch_grows : (p : ProjectedSchemaModel) (m : MessageModel) (known more : Known) → KnowsMore known more → ReadTogether IsSameBatch (batch_over p m known) (batch_over p m more)
batch_grows p m known more h =
    then_same IsSameBatch Anything (batch_at m.metadata m.root.header m.root.left m.root.body_length) _ _ (any_read (batch_at m.metadata m.root.header m.root.left m.root.body_length))
    (λ batch e _. then_same IsSameBatch Anything (spec_variadic_counts p m) _ _ (any_read (spec_variadic_counts p m))
    (λ counts g _. then_read AreSameArrays IsSameBatch (columns_over p m counts batch known) (columns_over p m counts batch more) _ _ (columns_later p m counts batch known more h)
    (λ xs ys k same. record { rows = refl; types = same_types xs ys same; slots = same_slots xs ys same })))

pub batch_later : (s t : StateTree) (m : MessageModel) → IsLater s t → ReadTogether IsSameBatch (record_batch_in s m) (record_batch_in t m)
unfolding record_batch_in
batch_later s t m h = subst (λ (p : ProjectedSchemaModel). ReadTogether IsSameBatch (batch_over s.picked m s.known) (batch_over p m t.known)) (sym h.picked) (batch_grows s.picked m s.known t.known h.grows)

pub batch_again : (s t : StateTree) (m : MessageModel) (b : RecordBatchTree) → IsLater s t → record_batch_in s m ≡ Ok b → BatchDecodesAlike b (record_batch_in t m)
batch_again s t m b h e =
    let found = read_too IsSameBatch (record_batch_in s m) (record_batch_in t m) b (batch_later s t m h) e in
    record { batch = found.0; is = found.1; same = found.2 }

-- ---- a dictionary batch of a file

-- a dictionary batch in a file is read as in a stream, or refused as a second one
abbrev pub OrReplaced : {A : Type 0} → Result A IpcReadError → Result A IpcReadError → Type 0
OrReplaced r s = (r ≡ s) ⊎ (r ≡ Err DuplicateDictionary)

pub then_or : {A B : Type 0} (r s : Result A IpcReadError) (f g : A → Result B IpcReadError) → OrReplaced r s → ((x : A) → OrReplaced (f x) (g x)) → OrReplaced (r >>= f) (s >>= g)
then_or r s f g (inl e) h = subst (λ (q : Result _ IpcReadError). OrReplaced (q >>= f) (s >>= g)) (sym e) (by s)
  where
    by : (q : Result _ IpcReadError) → OrReplaced (q >>= f) (q >>= g)
    by (Ok x) = h x
    by (Err error) = inl refl
then_or r s f g (inr e) h = inr (ap (λ (q : Result _ IpcReadError). q >>= f) e)

may_come_or : (delta there : Bool) → OrReplaced (spec_check_order true delta there) (spec_check_order false delta there)
may_come_or true there = inl refl
may_come_or false true = inr refl
may_come_or false false = inl refl

data_or : (there : Bool) (metadata : List ℕ) (table : FlatbufferTable) → OrReplaced (data_in true there metadata table) (data_in false there metadata table)
unfolding data_in
data_or there metadata table =
    then_or (spec_offset_field metadata table 1) (spec_offset_field metadata table 1) _ _ (inl refl)
    (λ to. then_or (spec_data_position to) (spec_data_position to) _ _ (inl refl)
    (λ position. then_or (field (number_at w8 metadata) 0 metadata table 2) (field (number_at w8 metadata) 0 metadata table 2) _ _ (inl refl)
    (λ delta. then_or (spec_check_order true (nat_lt 0 delta) there) (spec_check_order false (nat_lt 0 delta) there) _ _ (may_come_or (nat_lt 0 delta) there) (λ allowed. inl refl))))

found_values_or : (s : StateTree) (m : MessageModel) (table : FlatbufferTable) (left : ℕ) (id : ℤ) (o : Option ValueTypeModel) → OrReplaced (found_values true s m table left id o) (found_values false s m table left id o)
found_values_or s m table left id None = inl refl
found_values_or s m table left id (Some v) =
    let there : Bool = is_some (known_at s.known id) in
    then_or (new_values_in true s m table left id v) (new_values_in false s m table left id v) _ _
    (then_or (data_in true there m.metadata table) (data_in false there m.metadata table) _ _ (data_or there m.metadata table) (λ at. inl refl)) (λ new. inl refl)

pub dictionary_or : (s : StateTree) (m : MessageModel) → OrReplaced (dictionary_in true s m) (dictionary_in false s m)
unfolding dictionary_in
dictionary_or s m =
    then_or (spec_read_table m.metadata m.root.header m.root.left) (spec_read_table m.metadata m.root.header m.root.left) _ _ (inl refl)
    (λ table. then_or (field (signed_at w64 m.metadata) (pos 0) m.metadata table.0 0) (field (signed_at w64 m.metadata) (pos 0) m.metadata table.0 0) _ _ (inl refl)
    (λ id. then_or (found_in true s m table.0 table.1 id) (found_in false s m table.0 table.1 id) _ _
    (then_or (named_in s.picked id) (named_in s.picked id) _ _ (inl refl) (λ named. found_values_or s m table.0 table.1 id named)) (λ found. inl refl)))

-- a new id, unless it is a delta; over arrays its values are an array
record IsNew (s : StateTree) (id : ℤ) (new : Bool × Layout) : Type 0 where
  apart : new.0 ≡ false → known_at s.known id ≡ None
  fits : HasArrays s.known → IsArray new.1

come_once : (delta there : Bool) (x : Unit {0}) → spec_check_order true delta there ≡ Ok x → delta ≡ false → there ≡ false
come_once true there x e none = cc
come_once false true x e none = cc
come_once false false x e none = refl

data_once : (there : Bool) (metadata : List ℕ) (table : FlatbufferTable) → IfOk (data_in true there metadata table) (λ at. at.1 ≡ false → there ≡ false)
unfolding data_in
data_once there metadata table =
    after (λ (at : ℕ × Bool). at.1 ≡ false → there ≡ false) (spec_offset_field metadata table 1) _
    (λ to e. after (λ (at : ℕ × Bool). at.1 ≡ false → there ≡ false) (spec_data_position to) _
    (λ position g. after (λ (at : ℕ × Bool). at.1 ≡ false → there ≡ false) (field (number_at w8 metadata) 0 metadata table 2) _
    (λ delta k. after (λ (at : ℕ × Bool). at.1 ≡ false → there ≡ false) (spec_check_order true (nat_lt 0 delta) there) _
    (λ allowed q. come_once (nat_lt 0 delta) there allowed q))))

not_there : (o : Option Layout) → is_some o ≡ false → o ≡ None
not_there None e = refl
not_there (Some c) e = cc

only_fits : (t : TypeTree) (rows : ℕ) (body : List ℕ) (rest : Rest) → AreAllArrays rest.dictionaries → IfOk (spec_only_column t rows body rest) IsArray
only_fits t rows body rest all =
    after IsArray (decoded_column t (Rows rows) body rest) _
    (λ column e. after IsArray (checked_exhausted column.1) _ (λ none g. column_fits t (Rows rows) body rest column all e))

-- the values of a dictionary batch are an array
values_are_array : (s : StateTree) (m : MessageModel) (v : ValueTypeModel) (batch : BatchModel) (counts : List ℤ) → HasArrays s.known
    → IfOk (only_column_in batch.compression v.values batch.rows m.body (record { rest = batch_rest s.known (spec_outermost_ids s.picked.seen.named v.inside) batch; more = counts })) IsArray
values_are_array s m v batch counts all = by (reads_as_stored (stored_arrays v.values))
  where
    rest : Rest
    rest = batch_rest s.known (spec_outermost_ids s.picked.seen.named v.inside) batch

    fit : AreAllArrays (values_at s.known (spec_outermost_ids s.picked.seen.named v.inside))
    fit = values_fit (spec_outermost_ids s.picked.seen.named v.inside) s.known all

    by : (as_stored : Bool) → IfOk (if as_stored then plain_column_in batch.compression v.values batch.rows m.body rest else converted_column_in batch.compression v.values batch.rows m.body (record { rest = rest; more = counts })) IsArray
    by true = after IsArray (plain_buffers batch.compression m.body rest.buffers (Ok (all_needed rest.buffers))) _ (λ plain q. only_fits v.values batch.rows plain.1 (with_buffers rest plain.0) fit)
    by false = after IsArray (converted_batch batch.compression (stored_arrays v.values) m.body (without_dictionaries (record { rest = rest; more = counts }))) _ (λ parts q. only_fits (read_type v.values) batch.rows parts.body (with_buffers rest parts.buffers) fit)

new_in : (s : StateTree) (m : MessageModel) (table : FlatbufferTable) (left : ℕ) (id : ℤ) (v : ValueTypeModel) → HasArrays s.known → IfOk (new_values_in true s m table left id v) (IsNew s id)
new_in s m table left id v all =
    let there : Bool = is_some (known_at s.known id) in
    after (IsNew s id) (data_in true there m.metadata table) _
    (λ at e. after (IsNew s id) (column_in_batch s m at.0 left v) _
    (λ values g. record {
      apart = λ none. not_there (known_at s.known id) (found (λ (at : ℕ × Bool). at.1 ≡ false → there ≡ false) _ _ e (data_once there m.metadata table) none);
      fits = λ _. found IsArray _ _ g (after IsArray (batch_at m.metadata at.0 left m.root.body_length) _
          (λ batch k. after IsArray (counts_of_arrays (stored_arrays v.values) m at.0 left) _ (λ counts p. values_are_array s m v batch counts all)));
    }))

-- a delta appended to values
joined_grown : (c more : Layout) → layout_type more ≡ layout_type c → IsArray c → IsArray more → IsExtendedBy c (joined_layout (c ∷ more ∷ []))
joined_grown c more typed f g = record { logical = ap logical_type (two-joined c more typed f g).1.same_type; more = slots_of more; slots = two-slots c more typed f g }

module _ (s : StateTree) (id : ℤ) (more : Layout) (fits : IsArray more) (all : HasArrays s.known) where
  joined_later : (c : Layout) → known_at s.known id ≡ Some c → IsArray c → layout_type more ≡ layout_type c → IsLater s (with_delta s id (joined_layout (c ∷ more ∷ [])))
  joined_later c there is typed =
      let joined : Layout = joined_layout (c ∷ more ∷ []) in
      record {
        picked = refl;
        grows = grows_put s.known id joined (subst (λ (o : Option Layout). IsExtended o (Some joined)) (sym there) (joined_grown c more typed is fits));
        arrays = arrays_put s.known id joined (two-joined c more typed is fits).0 all;
      }

  fits_later : (b : Bool) (values : Layout) → (b ≡ true → IsLater s (with_delta s id values)) → IfOk ((check b Delta >>= λ fits. Ok values) >>= λ values. Ok (with_delta s id values)) (IsLater s)
  fits_later true values later = later refl
  fits_later false values later = tt

  more_later : (o : Option Layout) → known_at s.known id ≡ o → HoldsArray o → IfOk (spec_joined_values o more >>= λ values. Ok (with_delta s id values)) (IsLater s)
  more_later None there is = tt
  more_later (Some c) there is =
      let typed : Bool = same_type (layout_type c) (layout_type more) in
      let fits : Bool = not (joins_past (c ∷ more ∷ [])) && not (spec_union_offsets_overflow c more) in
      fits_later (typed && fits) (joined_layout (c ∷ more ∷ []))
      (λ e. joined_later c there is (sym ((same_type-decides (layout_type c) (layout_type more)).0 (and_parts typed fits e).0)))

-- new values, or a delta
values_later : (delta : Bool) (s : StateTree) (id : ℤ) (values : Layout) → (delta ≡ false → known_at s.known id ≡ None) → IsArray values → HasArrays s.known → IfOk (spec_with_values delta s id values) (IsLater s)
values_later true s id more new fits all = checked (IsLater s) (spec_contains_id s.appendable id) Delta _ (λ appendable. more_later s id more fits all (known_at s.known id) refl (all id))
values_later false s id values new fits all =
    record {
      picked = refl;
      grows = grows_put s.known id values (subst (λ (o : Option Layout). IsExtended o (Some values)) (sym (new refl)) tt);
      arrays = arrays_put s.known id values fits all;
    }

found_later : (s : StateTree) (id : ℤ) (found : Option (Bool × Layout)) → IfSome found (IsNew s id) → HasArrays s.known → IfOk (with_found s id found) (IsLater s)
found_later s id None new all = later_self s all
found_later s id (Some x) new all = values_later x.0 s id x.1 new.apart (new.fits all) all

found_new : (s : StateTree) (m : MessageModel) (table : FlatbufferTable) (left : ℕ) (id : ℤ) (o : Option ValueTypeModel) → HasArrays s.known → IfOk (found_values true s m table left id o) (λ found. IfSome found (IsNew s id))
found_new s m table left id None all = tt
found_new s m table left id (Some v) all =
    after (λ (found : Option (Bool × Layout)). IfSome found (IsNew s id)) (new_values_in true s m table left id v) _
    (λ new e. found (IsNew s id) _ _ e (new_in s m table left id v all))

pub dictionary_later : (s : StateTree) (m : MessageModel) → HasArrays s.known → IfOk (dictionary_in true s m) (IsLater s)
unfolding dictionary_in
dictionary_later s m all =
    after (IsLater s) (spec_read_table m.metadata m.root.header m.root.left) _
    (λ table e. after (IsLater s) (field (signed_at w64 m.metadata) (pos 0) m.metadata table.0 0) _
    (λ id g. after (IsLater s) (found_in true s m table.0 table.1 id) _
    (λ x k.
    let new = found (λ (o : Option (Bool × Layout)). IfSome o (IsNew s id)) _ _ k (after (λ (o : Option (Bool × Layout)). IfSome o (IsNew s id)) (named_in s.picked id) _ (λ named q. found_new s m table.0 table.1 id named all)) in
    found_later s id x new all)))

-- after it only more is known
pub later_known : (s t : StateTree) (m : MessageModel) → HasArrays s.known → dictionary_in true s m ≡ Ok t → IsLater s t
later_known s t m all e = found (IsLater s) _ _ e (dictionary_later s m all)
