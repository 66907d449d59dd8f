-- Columns and values round-trip over known dictionaries.
use Rattle.std.proofs.Common.{◌≡◌, ℕ, suc, ◌+◌, ◌-◌, ◌*◌, List, [], ◌∷◌, ◌++◌, get_or, map, Option, Some, None, Ok, refl, sym, ap, subst, append_assoc, ◌∙◌}
use Rattle.std.specs.Prelude.{pos}
use Rattle.std.specs.List.{AllByRecursion}
use Rattle.std.proofs.lemmas.List.{append-nil, map-append}
use Rattle.nest_memory.specs.TypeTree.{TypeTree, logical_type, size_of}
use Rattle.nest_model.specs.Accessors.{with_type}
use Rattle.nest_model.specs.Layout.{Layout, Layouts, fixed_size_list, list as list_of, map as map_of, struct, union, dictionary, no_layouts, more_layouts, layout_type}
use Rattle.nest_model.specs.Meaning.{len, slots_of}
use Rattle.nest_model.specs.Part.{begin}
use Rattle.nest_model.specs.Slot.{Slot}
use Rattle.nest_model.specs.SameArray.{IsSameArray}
use Rattle.ipc_arrays.specs.Decoding.{decoded_columns}
use Rattle.ipc_arrays.specs.BodyBuffers.{body_of, buffer_specs}
use Rattle.ipc_arrays.specs.ReplacedValues.{IsExtendedBy, IsSameUpToValues, EachSameUpToValues, AreSameUpToValues, AreEncodedAlike, RoundTripWithSameSlots, RoundTripOverExtensions, grown_same, len_alike, written_alike}
use Rattle.ipc_arrays.specs.Encoding.{normalized_slice, normalized, normalized_each, normalized_all, sparse_begin, field_node_of, preorder, preorder_all, own_dictionaries, buffers_of, dictionaries_of, written_arrays, columns_body}
use Rattle.ipc.specs.StoredTypeLaws.{logical_twice, read_stored, stored_type, stored_slots}
use Rattle.ipc.specs.RoundTrips.{entry_values, written_rest, ColumnsRoundTrip, ValuesRoundTrip}
use Rattle.ipc.specs.DictionaryEntries.{DictionaryEntries, count_dictionaries, own_entries, each_own, columns_own}
use Rattle.ipc.specs.KnownDictionaries.{IsKnown, Covers, CoversColumns, AreAllKnown, Follows, values_or, over_known, each_over, columns_over}
use Rattle.ipc.specs.KnownDictionaryLaws.{all_parts, needed_known}
use Rattle.ipc.specs.PendingDictionaries.{entry_at, pending}

-- ---- an array over known dictionaries is alike

-- values with the same slots begin with them
pub covers_all : (known es : DictionaryEntries) → AllByRecursion (IsKnown known) es → AllByRecursion (Covers known) es
covers_all known [] all = tt
covers_all known (e ∷ es) (one, rest) = ((one.0, one.1, grown_same e.1 one.0 one.2), covers_all known es rest)

known_grown : (known : DictionaryEntries) (id : ℕ) (c : Layout) → Covers known (pos id, c) → IsExtendedBy c (values_or (entry_at known (pos id)) c)
known_grown known id c h = subst (λ (o : Option Layout). IsExtendedBy c (values_or o c)) (sym h.1) h.2

mutual
  pub over_alike : (known : DictionaryEntries) (id : ℕ) (a : Layout) → AllByRecursion (Covers known) (own_entries id a) → IsSameUpToValues a (over_known known id a)
  over_alike known id (fixed_size_list t c va) h = (over_known known id c, refl, over_alike known id c h)
  over_alike known id (list_of large t os c va) h = (over_known known id c, refl, over_alike known id c h)
  over_alike known id (map_of t os c va) h = (over_known known id c, refl, over_alike known id c h)
  over_alike known id (struct t cs va) h = (each_over known id cs, refl, each_over_alike known id cs h)
  over_alike known id (union t ks cs os start) h = (each_over known id cs, refl, each_over_alike known id cs h)
  over_alike known id (dictionary t ks c) h = (values_or (entry_at known (pos id)) c, refl, known_grown known id c h.0)
  over_alike known id a h = refl

  each_over_alike : (known : DictionaryEntries) (id : ℕ) (cs : Layouts) → AllByRecursion (Covers known) (each_own id cs) → EachSameUpToValues cs (each_over known id cs)
  each_over_alike known id no_layouts h = tt
  each_over_alike known id (more_layouts c cs) h =
      let next : ℕ = id + count_dictionaries c in
      let parts = all_parts (Covers known) (own_entries id c) (each_own next cs) h in
      (over_alike known id c parts.0, each_over_alike known next cs parts.1)

pub columns_over_alike : (known : DictionaryEntries) (id : ℕ) (columns : List Layout) → AllByRecursion (Covers known) (columns_own id columns) → AreSameUpToValues columns (columns_over known id columns)
columns_over_alike known id [] h = tt
columns_over_alike known id (a ∷ columns) h =
    let next : ℕ = id + count_dictionaries a in
    let parts = all_parts (Covers known) (own_entries id a) (columns_own next columns) h in
    (over_alike known id a parts.0, columns_over_alike known next columns parts.1)

-- ---- its dictionaries are known

dictionaries_append : (xs ys : List Layout) → dictionaries_of (xs ++ ys) ≡ dictionaries_of xs ++ dictionaries_of ys
dictionaries_append [] ys = refl
dictionaries_append (x ∷ xs) ys =
    ap (λ (ds : List (Option Layout)). own_dictionaries x ++ ds) (dictionaries_append xs ys)
    ∙ sym (append_assoc (own_dictionaries x) (dictionaries_of xs) (dictionaries_of ys))

mutual
  shown_names : (a : Layout) (o n : ℕ) → dictionaries_of (preorder (normalized_slice a o n)) ≡ dictionaries_of (preorder a)
  shown_names (fixed_size_list t c va) o n = shown_names c (o * size_of t) (n * size_of t)
  shown_names (list_of large t os c va) o n = shown_names c (begin os o) (begin os (o + n) - begin os o)
  shown_names (map_of t os c va) o n = shown_names c (begin os o) (begin os (o + n) - begin os o)
  shown_names (struct t cs va) o n = each_names cs o n
  shown_names (union t ks cs None start) o n = each_names cs (sparse_begin start o n) n
  shown_names (union t ks cs (Some os) start) o n = all_names cs
  shown_names a o n = refl

  each_names : (cs : Layouts) (o n : ℕ) → dictionaries_of (preorder_all (normalized_each cs o n)) ≡ dictionaries_of (preorder_all cs)
  each_names no_layouts o n = refl
  each_names (more_layouts c cs) o n =
      dictionaries_append (preorder (normalized_slice c o n)) (preorder_all (normalized_each cs o n))
      ∙ (λ w. shown_names c o n w ++ each_names cs o n w)
      ∙ sym (dictionaries_append (preorder c) (preorder_all cs))

  all_names : (cs : Layouts) → dictionaries_of (preorder_all (normalized_all cs)) ≡ dictionaries_of (preorder_all cs)
  all_names no_layouts = refl
  all_names (more_layouts c cs) =
      dictionaries_append (preorder (normalized_slice c 0 (len c))) (preorder_all (normalized_all cs))
      ∙ (λ w. shown_names c 0 (len c) w ++ all_names cs w)
      ∙ sym (dictionaries_append (preorder c) (preorder_all cs))

known_named : (known : DictionaryEntries) (id : ℕ) (c : Layout) → Covers known (pos id, c) → Some (values_or (entry_at known (pos id)) c) ≡ entry_at known (pos id)
known_named known id c h = subst (λ (o : Option Layout). Some (values_or o c) ≡ o) (sym h.1) refl

mutual
  over_names : (known : DictionaryEntries) (id : ℕ) (a : Layout) → AllByRecursion (Covers known) (own_entries id a) → dictionaries_of (preorder (over_known known id a)) ≡ entry_values known (own_entries id a)
  over_names known id (fixed_size_list t c va) h = over_names known id c h
  over_names known id (list_of large t os c va) h = over_names known id c h
  over_names known id (map_of t os c va) h = over_names known id c h
  over_names known id (struct t cs va) h = each_over_names known id cs h
  over_names known id (union t ks cs os start) h = each_over_names known id cs h
  over_names known id (dictionary t ks c) h = ap (λ (o : Option Layout). o ∷ []) (known_named known id c h.0)
  over_names known id a h = refl

  each_over_names : (known : DictionaryEntries) (id : ℕ) (cs : Layouts) → AllByRecursion (Covers known) (each_own id cs) → dictionaries_of (preorder_all (each_over known id cs)) ≡ entry_values known (each_own id cs)
  each_over_names known id no_layouts h = refl
  each_over_names known id (more_layouts c cs) h =
      let next : ℕ = id + count_dictionaries c in
      let parts = all_parts (Covers known) (own_entries id c) (each_own next cs) h in
      let first = over_names known id c parts.0 in
      let others = each_over_names known next cs parts.1 in
      dictionaries_append (preorder (over_known known id c)) (preorder_all (each_over known next cs))
      ∙ (λ w. first w ++ others w)
      ∙ sym (map-append (λ e. entry_at known e.0) (own_entries id c) (each_own next cs))

pub own_written : (known : DictionaryEntries) (id : ℕ) (columns : List Layout) → AllByRecursion (Covers known) (columns_own id columns) → dictionaries_of (written_arrays (columns_over known id columns)) ≡ entry_values known (columns_own id columns)
unfolding written_arrays
own_written known id [] h = refl
own_written known id (a ∷ columns) h =
    let next : ℕ = id + count_dictionaries a in
    let b : Layout = over_known known id a in
    let parts = all_parts (Covers known) (own_entries id a) (columns_own next columns) h in
    let first = shown_names b 0 (len b) ∙ over_names known id a parts.0 in
    let others = own_written known next columns parts.1 in
    dictionaries_append (preorder (normalized b)) (written_arrays (columns_over known next columns))
    ∙ (λ w. first w ++ others w)
    ∙ sym (map-append (λ e. entry_at known e.0) (own_entries id a) (columns_own next columns))

-- ---- columns round-trip

long_over : (rows : ℕ) (columns others : List Layout) → AreSameUpToValues columns others → AllByRecursion (λ a. len a ≡ rows) columns → AllByRecursion (λ a. len a ≡ rows) others
long_over rows [] [] h long = tt
long_over rows [] (b ∷ others) h long = absurd h
long_over rows (a ∷ columns) [] h long = absurd h
long_over rows (a ∷ columns) (b ∷ others) h long = (len_alike a b h.0 ∙ long.0, long_over rows columns others h.1 long.1)

shown_types : (columns : List Layout) → AllByRecursion (λ a. IsSameArray a (normalized a)) columns → map layout_type (map normalized columns) ≡ map layout_type columns
shown_types [] h = refl
shown_types (a ∷ columns) h = λ w. sym h.0.0 w ∷ shown_types columns h.1 w

shown_slots : (columns : List Layout) → AllByRecursion (λ a. IsSameArray a (normalized a)) columns → map slots_of (map normalized columns) ≡ map slots_of columns
shown_slots [] h = refl
shown_slots (a ∷ columns) h = λ w. sym h.0.1 w ∷ shown_slots columns h.1 w

-- from any id on
record AreAgainFrom (known : DictionaryEntries) (id : ℕ) (columns : List Layout) : Type 0 where
  read : (rows : ℕ) → AllByRecursion (λ a. len a ≡ rows) columns
      → decoded_columns (map layout_type columns) rows (columns_body columns) (written_rest columns (entry_values known (columns_own id columns))) ≡ Ok (map normalized (columns_over known id columns))
  types : map layout_type (map normalized (columns_over known id columns)) ≡ map layout_type columns
  slots : map slots_of (map normalized (columns_over known id columns)) ≡ map slots_of columns

again_from : (known : DictionaryEntries) (id : ℕ) (columns : List Layout) → RoundTripOverExtensions columns → AllByRecursion (Covers known) (columns_own id columns) → AreAgainFrom known id columns
again_from known id columns over h =
    let others : List Layout = columns_over known id columns in
    let alike : AreSameUpToValues columns others = columns_over_alike known id columns h in
    let as_read : RoundTripWithSameSlots columns others = over others alike in
    let same : AreEncodedAlike columns others = written_alike columns others alike in
    let types : map layout_type columns ≡ map layout_type others = sym same.types in
    let nodes : map field_node_of (written_arrays columns) ≡ map field_node_of (written_arrays others) = sym same.nodes in
    let buffers : buffers_of (written_arrays columns) ≡ buffers_of (written_arrays others) = sym same.buffers in
    let values : entry_values known (columns_own id columns) ≡ dictionaries_of (written_arrays others) = sym (own_written known id columns h) in
    record {
      read = λ rows long.
          (λ w. decoded_columns (types w) rows (body_of (buffers w)) (record { nodes = nodes w; buffers = buffer_specs 0 (buffers w); dictionaries = values w }))
          ∙ as_read.back.read rows (long_over rows columns others alike long);
      types = shown_types others as_read.back.same ∙ same.types;
      slots = shown_slots others as_read.back.same ∙ as_read.slots;
    }

pub columns_again : (known : DictionaryEntries) (columns : List Layout) → RoundTripOverExtensions columns → CoversColumns known columns → ColumnsRoundTrip known columns
columns_again known columns over h =
    let again = again_from known 0 columns over h in
    record { read = again.read; types = again.types; slots = again.slots }

-- ---- values round-trip

pub values_again : (known : DictionaryEntries) (id : ℕ) (c : Layout) → RoundTripOverExtensions (c ∷ []) → AllByRecursion (Covers known) (own_entries (suc id) c) → ValuesRoundTrip known id c
values_again known id c over h =
    let own : columns_own (suc id) (c ∷ []) ≡ own_entries (suc id) c = append-nil (own_entries (suc id) c) in
    let again : AreAgainFrom known (suc id) (c ∷ []) = again_from known (suc id) (c ∷ []) over (subst (AllByRecursion (Covers known)) (sym own) h) in
    let b : Layout = normalized (over_known known (suc id) c) in
    let type : layout_type b ≡ layout_type c = ap (λ (ts : List TypeTree). get_or ts 0 (layout_type c)) again.types in
    let rest : written_rest (c ∷ []) (entry_values known (own_entries (suc id) c)) ≡ written_rest (c ∷ []) (entry_values known (columns_own (suc id) (c ∷ []))) =
    ap (λ (entries : DictionaryEntries). written_rest (c ∷ []) (entry_values known entries)) (sym own) in
    record {
      read =
          read_stored (layout_type c) (len c) (columns_body (c ∷ [])) (written_rest (c ∷ []) (entry_values known (own_entries (suc id) c))) b
          (ap (decoded_columns (layout_type c ∷ []) (len c) (columns_body (c ∷ []))) rest ∙ again.read (len c) (refl, tt))
          ∙ ap (λ (t : TypeTree). Ok (with_type b (logical_type t) ∷ [])) (sym type);
      same = record {
        logical = ap logical_type (stored_type b) ∙ logical_twice (layout_type b) ∙ ap logical_type type;
        slots = stored_slots b ∙ ap (λ (ss : List (List Slot)). get_or ss 0 []) again.slots;
      };
    }

-- a reader that knows the values emitted last knows all that columns name after their pending dictionaries
abbrev pub PendingBecomesKnown : Type 0
PendingBecomesKnown = (known emitted : DictionaryEntries) (columns : List Layout) → Follows known emitted → AllByRecursion (λ e. RoundTripOverExtensions (e.1 ∷ [])) (pending emitted columns) → AreAllKnown known emitted columns

pub columns_known : PendingBecomesKnown
columns_known = needed_known (λ values. RoundTripOverExtensions (values ∷ [])) (λ known id values over inside. (values_again known id values over (covers_all known (own_entries (suc id) values) inside)).same)
