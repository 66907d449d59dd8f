-- Without deltas, a written file is read as the stream of the same record batches.
use Rattle.std.specs.Prelude.{◌≡◌, ◌⊎◌, ℕ, zero, suc, ◌+◌, ◌<◌, ◌≤◌, ℤ, pos, Bool, true, false, ◌&&◌, ◌==◌, List, [], ◌∷◌, ◌++◌, map, length, Option, Some, None, is_some, refl, if◌then◌else◌}
use Rattle.std.proofs.Common.{leb, inl, inr, sym, ap, ◌∙◌, subst, arith}
use Rattle.std.specs.BTreeMap.{is_at}
use Rattle.std.specs.List.{AllByRecursion}
use Rattle.std.specs.Map.{lookup}
use Rattle.std.specs.Ordering.{int_cmp}
use Rattle.std.proofs.lemmas.Bool.{leb-true, leb-false}
use Rattle.std.proofs.lemmas.Bool.Decides.{Decides-eqb}
use Rattle.std.proofs.lemmas.Option.{same_Some}
use Rattle.nest_memory.specs.TypeTree.{TypeTree, FieldTree}
use Rattle.nest_model.specs.Layout.{Layout, Layouts, fixed_size_list, list as list_of, map as map_of, struct, union, dictionary, no_layouts, more_layouts}
use Rattle.nest_model.specs.Meaning.{len}
use Rattle.nest_model.specs.SameArray.{same_array}
use Rattle.nest_model.specs.SameArrayLaws.{same_array-decides}
use Rattle.ipc_schema.specs.Dictionaries.{ValueTypeModel}
use Rattle.ipc_schema.specs.DictionaryIds.{ids_from}
use Rattle.ipc_schema.specs.OutermostIds.{ValueTypes}
use Rattle.ipc_schema.specs.ProjectedSchemas.{ProjectedSchemaModel}
use Rattle.ipc_arrays.specs.Encoding.{normalized}
use Rattle.ipc.specs.DictionaryEntries.{DictionaryEntries, count_dictionaries, count_each_dictionaries, own_entries, each_own, columns_own, entries_in, each_entries, columns_entries}
use Rattle.ipc.specs.KnownDictionaries.{IsKnown, values_or, over_known, each_over, columns_over}
use Rattle.ipc.specs.KnownDictionaryLaws.{AreWithin, IsSent, all_parts, columns_own_of, columns_needed_of, columns_within, count_columns, needed_sent}
use Rattle.ipc.specs.SchemaIds.{entry_ids, values_of, IsNamed, AreNamed, seen_of_fields}
use Rattle.ipc.specs.PendingDictionaries.{entry_at, is_same, is_none, pending_in, each_pending, columns_pending}
use Rattle.ipc.specs.FileDictionaries.{DictionaryBatchTree, spec_delta_values, spec_begins_with, batches_for, spec_dictionary_batches, spec_is_replaced, spec_any_replaced}
use Rattle.ipc.specs.FileDictionaryLaws.{begun_type}
use Rattle.ipc.specs.FileStateLaws.{Extends, begun_all, was_so, first_false, second_false, IsBehindFile, is_accepted, IsNext, part_next}
use Rattle.ipc.specs.Streams.{RecordBatchTree, column_types}
use Rattle.ipc.specs.EncodedStreams.{pending_by, emitted_after, decoded_record_batch, decoded_batches_from, BatchesRoundTrip}
use Rattle.ipc.specs.EncodedFiles.{file_dictionary_batches, after, FileState, file_state_after, file_batch_error, file_batches_error, HasNoDeltas}
use Rattle.ipc.specs.EncodedBatches.{first_accepts, others_accept}

-- ---- columns of one schema have equally many dictionaries

abbrev weight : DictionaryEntries → ℕ
weight [] = 0
weight (e ∷ es) = suc (count_dictionaries e.1) + weight es

weight_both : (xs ys : DictionaryEntries) → weight (xs ++ ys) ≡ weight xs + weight ys
weight_both [] ys = omega arith
weight_both (x ∷ xs) ys = omega (arith, weight_both xs ys)

mutual
  weight_of : (id : ℕ) (a : Layout) → weight (own_entries id a) ≡ count_dictionaries a
  weight_of id (fixed_size_list t c va) = weight_of id c
  weight_of id (list_of large t os c va) = weight_of id c
  weight_of id (map_of t os c va) = weight_of id c
  weight_of id (struct t cs va) = weight_each id cs
  weight_of id (union t ks cs os start) = weight_each id cs
  weight_of id (dictionary t ks c) = omega arith
  weight_of id a = refl

  weight_each : (id : ℕ) (cs : Layouts) → weight (each_own id cs) ≡ count_each_dictionaries cs
  weight_each id no_layouts = refl
  weight_each id (more_layouts c cs) = omega (arith, weight_both (own_entries id c) (each_own (id + count_dictionaries c) cs), weight_of id c, weight_each (id + count_dictionaries c) cs)

weight_columns : (id : ℕ) (columns : List Layout) → weight (columns_own id columns) ≡ count_columns columns
weight_columns id [] = refl
weight_columns id (a ∷ columns) = omega (arith, weight_both (own_entries id a) (columns_own (id + count_dictionaries a) columns), weight_of id a, weight_columns (id + count_dictionaries a) columns)

ids_long : (next n : ℕ) → length (ids_from next n) ≡ n
unfolding ids_from
ids_long next zero = refl
ids_long next (suc n) = ap suc (ids_long (suc next) n)

same_weight : (named : ValueTypes) (xs ys : DictionaryEntries) → entry_ids xs ≡ entry_ids ys → AllByRecursion (IsNamed named) xs → AllByRecursion (IsNamed named) ys → weight xs ≡ weight ys
same_weight named [] [] same xs-are ys-are = refl
same_weight named [] (y ∷ ys) same xs-are ys-are = cc same
same_weight named (x ∷ xs) [] same xs-are ys-are = cc same
same_weight named (x ∷ xs) (y ∷ ys) same (one, xs-are) (other, ys-are) =
    let id : x.0 ≡ y.0 = cc same in
    let others : entry_ids xs ≡ entry_ids ys = cc same in
    let values : Some (values_of one.id x.1) ≡ Some (values_of other.id y.1) = sym one.values ∙ ap (λ (k : ℤ). lookup (is_at (int_cmp k)) named) id ∙ other.values in
    let inside : ids_from (suc one.id) (count_dictionaries x.1) ≡ ids_from (suc other.id) (count_dictionaries y.1) = ap (λ (v : ValueTypeModel). v.inside) (same_Some (values_of one.id x.1) (values_of other.id y.1) values) in
    let count : count_dictionaries x.1 ≡ count_dictionaries y.1 = sym (ids_long (suc one.id) (count_dictionaries x.1)) ∙ ap length inside ∙ ids_long (suc other.id) (count_dictionaries y.1) in
    omega (arith, count, same_weight named xs ys others xs-are ys-are)

same_count : (fields : List FieldTree) (xs ys : List Layout) → AreNamed fields xs → AreNamed fields ys → count_columns xs ≡ count_columns ys
same_count fields xs ys x y =
    let named : ValueTypes = (seen_of_fields fields).named in
    sym (weight_columns 0 xs) ∙ same_weight named (columns_own 0 xs) (columns_own 0 ys) (sym x.outer ∙ y.outer) (columns_own_of (IsNamed named) 0 xs x.each) (columns_own_of (IsNamed named) 0 ys y.each) ∙ weight_columns 0 ys

-- ---- after a record batch each id has values

abbrev pub AreThere : DictionaryEntries → ℕ → ℕ → Type 0
AreThere emitted first end = (k : ℕ) → first ≤ k → k < end → is_some (entry_at emitted (pos k)) ≡ true

is_there : (o : Option Layout) (c : Layout) → is_same o c ≡ true → is_some o ≡ true
is_there None c same = same
is_there (Some d) c same = refl

there_both : (emitted : DictionaryEntries) (a b c : ℕ) → AreThere emitted a b → AreThere emitted b c → AreThere emitted a c
there_both emitted a b c front back k low high = by (leb b k) refl
  where
    by : (t : Bool) → leb b k ≡ t → is_some (entry_at emitted (pos k)) ≡ true
    by true le = back k (leb-true b k le) high
    by false lt = front k low (leb-false b k lt)

mutual
  there_in : (emitted : DictionaryEntries) (id : ℕ) (a : Layout) → AllByRecursion (IsSent emitted) (entries_in id a) → AreThere emitted id (id + count_dictionaries a)
  there_in emitted id (fixed_size_list t c va) all = there_in emitted id c all
  there_in emitted id (list_of large t os c va) all = there_in emitted id c all
  there_in emitted id (map_of t os c va) all = there_in emitted id c all
  there_in emitted id (struct t cs va) all = there_each emitted id cs all
  there_in emitted id (union t ks cs os start) all = there_each emitted id cs all
  there_in emitted id (dictionary t ks c) all =
      let parts = all_parts (IsSent emitted) (entries_in (suc id) c) ((pos id, c) ∷ []) all in
      let own : AreThere emitted id (suc id) =
      λ k low high. let same : id ≡ k = omega (arith, low, high) in subst (λ (n : ℕ). is_some (entry_at emitted (pos n)) ≡ true) same (is_there (entry_at emitted (pos id)) c parts.1.0) in
      let inside : AreThere emitted (suc id) (suc id + count_dictionaries c) = there_in emitted (suc id) c parts.0 in
      there_both emitted id (suc id) (id + suc (count_dictionaries c)) own (λ k low high. inside k low (omega (arith, high)))
  there_in emitted id a all = λ k low high. absurd (omega (arith, low, high))

  there_each : (emitted : DictionaryEntries) (id : ℕ) (cs : Layouts) → AllByRecursion (IsSent emitted) (each_entries id cs) → AreThere emitted id (id + count_each_dictionaries cs)
  there_each emitted id no_layouts all = λ k low high. absurd (omega (arith, low, high))
  there_each emitted id (more_layouts c cs) all =
      let n : ℕ = count_dictionaries c in
      let parts = all_parts (IsSent emitted) (entries_in id c) (each_entries (id + n) cs) all in
      let rest : AreThere emitted (id + n) (id + n + count_each_dictionaries cs) = there_each emitted (id + n) cs parts.1 in
      there_both emitted id (id + n) (id + (n + count_each_dictionaries cs)) (there_in emitted id c parts.0) (λ k low high. rest k low (omega (arith, high)))

there_columns : (emitted : DictionaryEntries) (id : ℕ) (columns : List Layout) → AllByRecursion (IsSent emitted) (columns_entries id columns) → AreThere emitted id (id + count_columns columns)
there_columns emitted id [] all = λ k low high. absurd (omega (arith, low, high))
there_columns emitted id (a ∷ columns) all =
    let n : ℕ = count_dictionaries a in
    let parts = all_parts (IsSent emitted) (entries_in id a) (columns_entries (id + n) columns) all in
    let rest : AreThere emitted (id + n) (id + n + count_columns columns) = there_columns emitted (id + n) columns parts.1 in
    there_both emitted id (id + n) (id + (n + count_columns columns)) (there_in emitted id a parts.0) (λ k low high. rest k low (omega (arith, high)))

-- each id of columns of these fields has values
abbrev pub HaveAllValues : DictionaryEntries → List FieldTree → Type 0
HaveAllValues emitted fields = (columns : List Layout) → AreNamed fields columns → AreThere emitted 0 (count_columns columns)

full_behind : (fields : List FieldTree) (emitted : DictionaryEntries) (b : RecordBatchTree) → AreNamed fields b.columns → HaveAllValues (emitted_after emitted b) fields
full_behind fields emitted b named columns others k low high =
    let end : k < 0 + count_columns b.columns = omega (arith, high, same_count fields b.columns columns named others) in
    there_columns (emitted_after emitted b) 0 b.columns (needed_sent emitted b.columns).each k low end

-- ---- if each id has values and there are no deltas, nothing is pending

own_none : (b : Bool) (emitted : DictionaryEntries) (id : ℕ) (c : Layout) (inside : DictionaryEntries) → (is_none inside && is_same (entry_at emitted (pos id)) c) ≡ b → (AllByRecursion (IsSent emitted) inside → inside ≡ []) → AllByRecursion (IsSent emitted) (if b then [] else inside ++ (pos id, c) ∷ [])
    → (if b then [] else inside ++ (pos id, c) ∷ []) ≡ []
own_none true emitted id c inside test none all = refl
own_none false emitted id c inside test none all =
    let parts = all_parts (IsSent emitted) inside ((pos id, c) ∷ []) all in
    let passes : (is_none inside && is_same (entry_at emitted (pos id)) c) ≡ true = ap (λ (es : DictionaryEntries). is_none es && is_same (entry_at emitted (pos id)) c) (none parts.0) ∙ parts.1.0 in
    cc (sym test ∙ passes)

mutual
  none_in : (emitted : DictionaryEntries) (id : ℕ) (a : Layout) → AllByRecursion (IsSent emitted) (pending_in emitted id a) → pending_in emitted id a ≡ []
  none_in emitted id (fixed_size_list t c va) all = none_in emitted id c all
  none_in emitted id (list_of large t os c va) all = none_in emitted id c all
  none_in emitted id (map_of t os c va) all = none_in emitted id c all
  none_in emitted id (struct t cs va) all = none_each emitted id cs all
  none_in emitted id (union t ks cs os start) all = none_each emitted id cs all
  none_in emitted id (dictionary t ks c) all =
      let inside : DictionaryEntries = pending_in emitted (suc id) c in
      own_none (is_none inside && is_same (entry_at emitted (pos id)) c) emitted id c inside refl (λ are. none_in emitted (suc id) c are) all
  none_in emitted id a all = refl

  none_each : (emitted : DictionaryEntries) (id : ℕ) (cs : Layouts) → AllByRecursion (IsSent emitted) (each_pending emitted id cs) → each_pending emitted id cs ≡ []
  none_each emitted id no_layouts all = refl
  none_each emitted id (more_layouts c cs) all =
      let parts = all_parts (IsSent emitted) (pending_in emitted id c) (each_pending emitted (id + count_dictionaries c) cs) all in
      λ w. none_in emitted id c parts.0 w ++ none_each emitted (id + count_dictionaries c) cs parts.1 w

none_columns : (emitted : DictionaryEntries) (id : ℕ) (columns : List Layout) → AllByRecursion (IsSent emitted) (columns_pending emitted id columns) → columns_pending emitted id columns ≡ []
none_columns emitted id [] all = refl
none_columns emitted id (a ∷ columns) all =
    let parts = all_parts (IsSent emitted) (pending_in emitted id a) (columns_pending emitted (id + count_dictionaries a) columns) all in
    λ w. none_in emitted id a parts.0 w ++ none_columns emitted (id + count_dictionaries a) columns parts.1 w

-- without deltas, values of an id with some are the same
one_sent : (o : Option Layout) (e : ℤ × Layout) → is_some o ≡ true → spec_is_replaced o e.1 ≡ false → AllByRecursion (λ (p : DictionaryBatchTree). p.0 ≡ false) (batches_for o e) → is_same o e.1 ≡ true
one_sent None e there old wholes = there
one_sent (Some d) e there old wholes = by (len e.1 == len d) refl wholes
  where
    by : (b : Bool) → (len e.1 == len d) ≡ b → AllByRecursion (λ (p : DictionaryBatchTree). p.0 ≡ false) (if b then [] else (true, (e.0, spec_delta_values e.1 (len d))) ∷ []) → same_array d e.1 ≡ true
    by true long none =
        let begins : spec_begins_with d e.1 ≡ true = was_so (spec_begins_with d e.1) old in
        (same_array-decides d e.1).1 (begun_type d e.1 begins, sym (begun_all d e.1 begins ((Decides-eqb (len e.1) (len d)).0 long)))
    by false long grown = cc grown.0

all_sent : (emitted es : DictionaryEntries) (end : ℕ) → AreThere emitted 0 end → AreWithin 0 end es → spec_any_replaced emitted es ≡ false → AllByRecursion (λ (p : DictionaryBatchTree). p.0 ≡ false) (spec_dictionary_batches emitted es) → AllByRecursion (IsSent emitted) es
all_sent emitted [] end there within old wholes = tt
all_sent emitted (e ∷ es) end there (one, within) old wholes =
    let o : Option Layout = entry_at emitted e.0 in
    let parts = all_parts (λ (p : DictionaryBatchTree). p.0 ≡ false) (batches_for o e) (spec_dictionary_batches emitted es) wholes in
    let here : is_some o ≡ true = ap (λ (k : ℤ). is_some (entry_at emitted k)) one.1 ∙ there one.0 one.2 one.3 in
    (one_sent o e here (first_false (spec_is_replaced o e.1) (spec_any_replaced emitted es) old) parts.0, all_sent emitted es end there within (second_false (spec_is_replaced o e.1) (spec_any_replaced emitted es) old) parts.1)

nothing_needed : (emitted : DictionaryEntries) (b : RecordBatchTree) → AreThere emitted 0 (count_columns b.columns) → spec_any_replaced emitted (pending_by emitted b) ≡ false → AllByRecursion (λ (p : DictionaryBatchTree). p.0 ≡ false) (file_dictionary_batches emitted b) → pending_by emitted b ≡ []
nothing_needed emitted b there old wholes =
    none_columns emitted 0 b.columns (all_sent emitted (pending_by emitted b) (0 + count_columns b.columns) (λ k low high. there k low (omega (arith, high))) (columns_needed_of _ emitted 0 b.columns (columns_within 0 b.columns)) old wholes)

-- nothing was emitted yet, or each id has values
abbrev pub AreNoneOrFull : DictionaryEntries → List FieldTree → Type 0
AreNoneOrFull emitted fields = (emitted ≡ []) ⊎ HaveAllValues emitted fields

none_there : (es : DictionaryEntries) → AllByRecursion (λ e. entry_at [] e.0 ≡ None) es
none_there [] = tt
none_there (e ∷ es) = (refl, none_there es)

all_new : (fields : List FieldTree) (emitted : DictionaryEntries) (b : RecordBatchTree) → AreNoneOrFull emitted fields → AreNamed fields b.columns → spec_any_replaced emitted (pending_by emitted b) ≡ false → AllByRecursion (λ (p : DictionaryBatchTree). p.0 ≡ false) (file_dictionary_batches emitted b)
    → AllByRecursion (λ e. entry_at emitted e.0 ≡ None) (pending_by emitted b)
all_new fields emitted b (inl none) named old wholes = subst (λ (s : DictionaryEntries). AllByRecursion (λ e. entry_at s e.0 ≡ None) (pending_by emitted b)) (sym none) (none_there (pending_by emitted b))
all_new fields emitted b (inr full) named old wholes = subst (AllByRecursion (λ (e : ℤ × Layout). entry_at emitted e.0 ≡ None)) (sym (nothing_needed emitted b (full b.columns named) old wholes)) tt

-- ---- arrays over more known dictionaries are the same

further : (a b c : DictionaryEntries) → Extends a b → Extends b c → Extends a c
further a b c ab bc id d h = ab id d (bc id d h)

module _ (more known : DictionaryEntries) (ext : Extends more known) where
  mutual
    same_over : (id : ℕ) (a : Layout) → AllByRecursion (IsKnown known) (own_entries id a) → over_known more id a ≡ over_known known id a
    same_over id (fixed_size_list t c va) are = ap (λ (x : Layout). fixed_size_list t x va) (same_over id c are)
    same_over id (list_of large t os c va) are = ap (λ (x : Layout). list_of large t os x va) (same_over id c are)
    same_over id (map_of t os c va) are = ap (λ (x : Layout). map_of t os x va) (same_over id c are)
    same_over id (struct t cs va) are = ap (λ (xs : Layouts). struct t xs va) (same_each id cs are)
    same_over id (union t ks cs os start) are = ap (λ (xs : Layouts). union t ks xs os start) (same_each id cs are)
    same_over id (dictionary t ks c) are =
        let there : entry_at more (pos id) ≡ entry_at known (pos id) = ext (pos id) are.0.0 are.0.1 ∙ sym are.0.1 in
        ap (λ (o : Option Layout). dictionary t ks (values_or o c)) there
    same_over id a are = refl

    same_each : (id : ℕ) (cs : Layouts) → AllByRecursion (IsKnown known) (each_own id cs) → each_over more id cs ≡ each_over known id cs
    same_each id no_layouts are = refl
    same_each id (more_layouts c cs) are =
        let parts = all_parts (IsKnown known) (own_entries id c) (each_own (id + count_dictionaries c) cs) are in
        λ i. more_layouts (same_over id c parts.0 i) (same_each (id + count_dictionaries c) cs parts.1 i)

  same_columns : (id : ℕ) (columns : List Layout) → AllByRecursion (IsKnown known) (columns_own id columns) → columns_over more id columns ≡ columns_over known id columns
  same_columns id [] are = refl
  same_columns id (a ∷ columns) are =
      let parts = all_parts (IsKnown known) (own_entries id a) (columns_own (id + count_dictionaries a) columns) are in
      λ i. same_over id a parts.0 i ∷ same_columns (id + count_dictionaries a) columns parts.1 i

-- ---- record batches decode alike in the last state

pub record IsAsStream (f : FileState) (end : DictionaryEntries) (bs : List RecordBatchTree) : Type 0 where
  pub extends : Extends end f.state.known
  pub batches : map (decoded_record_batch end) bs ≡ decoded_batches_from f.state.known f.emitted bs

one_as_stream : (f : FileState) (b : RecordBatchTree) (bs : List RecordBatchTree) (end : DictionaryEntries) → IsNext f b → AllByRecursion (λ e. entry_at f.emitted e.0 ≡ None) (pending_by f.emitted b) → IsAsStream (file_state_after f b) end bs → IsAsStream f end (b ∷ bs)
one_as_stream f b bs end next none rest =
    let known : DictionaryEntries = (file_state_after f b).state.known in
    let new = next.new none in
    let here : decoded_record_batch end b ≡ decoded_record_batch known b = λ w. record { rows = b.rows; columns = map normalized (same_columns end known rest.extends 0 b.columns next.known w) } in
    let stream : DictionaryEntries → List RecordBatchTree = λ more. decoded_record_batch more b ∷ decoded_batches_from more (emitted_after f.emitted b) bs in
    record {
      extends = further end known f.state.known rest.extends new.extends;
      batches = (λ w. here w ∷ rest.batches w) ∙ ap stream new.as_streams;
    }

pub all_as_stream : (types : List TypeTree) (f : FileState) (bs : List RecordBatchTree) → types ≡ column_types f.state.picked.schema → BatchesRoundTrip file_dictionary_batches f.emitted bs → IsBehindFile f → file_batches_error types f bs ≡ None → AreNoneOrFull f.emitted f.state.picked.schema.fields → HasNoDeltas f.emitted bs
    → IsAsStream f (after file_state_after f bs).state.known bs
all_as_stream types f [] typed ok at none full never = record { extends = λ id d there. there; batches = refl }
all_as_stream types f (b ∷ bs) typed ok at none full never =
    let g : FileState = file_state_after f b in
    let fields : List FieldTree = f.state.picked.schema.fields in
    let one : file_batch_error types f b ≡ None = first_accepts (file_batch_error types f b) (file_batches_error types g bs) none in
    let next : IsNext f b = part_next f b ok.0 at (subst (λ (ts : List TypeTree). file_batch_error ts f b ≡ None) typed one) in
    let still : types ≡ column_types g.state.picked.schema = typed ∙ ap (λ (p : ProjectedSchemaModel). column_types p.schema) (sym next.later.picked) in
    let new = all_new fields f.emitted b full next.named (is_accepted types f b one).old never.0 in
    let behind_it : HaveAllValues g.emitted g.state.picked.schema.fields = subst (λ (p : ProjectedSchemaModel). HaveAllValues g.emitted p.schema.fields) (sym next.later.picked) (full_behind fields f.emitted b next.named) in
    one_as_stream f b bs (after file_state_after g bs).state.known next new (all_as_stream types g bs still ok.1 next.at (others_accept (file_batch_error types f b) (file_batches_error types g bs) none) (inr behind_it) never.1)
