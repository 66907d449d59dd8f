-- The dictionary batches of a file: values that begin with others have their slots, then those of the delta, which is an array over the same dictionaries, under
-- the same id.
use Rattle.std.proofs.Common.{◌≡◌, ℕ, suc, ◌+◌, ◌-◌, ◌*◌, ◌≤◌, Bool, true, false, List, [], ◌∷◌, ◌++◌, length, take, drop, Option, Some, None, refl, sym, ap, subst, ◌∙◌, arith}
use Rattle.std.specs.Prelude.{ℤ, pos, ◌==◌, nat_le, if◌then◌else◌}
use Rattle.std.specs.Cmp.{first_so, second_so}
use Rattle.std.specs.List.{AllByRecursion}
use Rattle.std.proofs.lemmas.Bool.{leb-true}
use Rattle.std.proofs.lemmas.List.{length-drop, take_all, take-append-drop}
use Rattle.nest_memory.specs.TypeTree.{size_of, logical_type}
use Rattle.nest_model.specs.Array.{IsArray, AreArrays, ChildrenFit}
use Rattle.nest_model.specs.Slice.{slice_layout, slice_layouts}
use Rattle.nest_model.specs.SliceLaws.{type-cut, len-cut, slots-cut}
use Rattle.nest_model.specs.FitsLaws.{array-cut}
use Rattle.nest_model.specs.Layout.{Layout, Layouts, fixed_size_list, list as list_of, map as map_of, struct, union, dictionary, no_layouts, more_layouts, layout_type}
use Rattle.nest_model.specs.Meaning.{len, slots_of}
use Rattle.nest_model.specs.Reads.{slots-length}
use Rattle.nest_model.specs.SameArray.{IsSameArray, same_array}
use Rattle.nest_model.specs.SameArrayLaws.{same_array-decides}
use Rattle.ipc_schema.specs.Dictionaries.{ValueTypeModel}
use Rattle.ipc_schema.specs.DictionaryIds.{ids_from}
use Rattle.ipc_schema.specs.OutermostIds.{ValueTypes, spec_outermost_ids}
use Rattle.ipc.specs.DictionaryEntries.{DictionaryEntries, count_dictionaries, count_each_dictionaries, own_entries, each_own, entries_in, each_entries, columns_entries}
use Rattle.ipc.specs.KnownDictionaryLaws.{all_both, columns_needed_of}
use Rattle.ipc_flatbuf.specs.StoredArrays.{reads_as_stored}
use Rattle.ipc_schema.specs.StoredArrays.{stored_arrays}
use Rattle.ipc.specs.SchemaIds.{entry_ids, values_of, IsNamed}
use Rattle.ipc.specs.PendingDictionaries.{entry_at, pending}
use Rattle.ipc.specs.FileDictionaries.{DictionaryBatchTree, spec_delta_values, spec_begins_with, batches_for, spec_dictionary_batches}

-- ---- the values of a delta

begun_same : (d c : Layout) → spec_begins_with d c ≡ true → (len d ≤ len c) × IsSameArray d (slice_layout c 0 (len d))
begun_same d c h =
    let enough : nat_le (len d) (len c) ≡ true = first_so (nat_le (len d) (len c)) (same_array d (slice_layout c 0 (len d))) h in
    let same : same_array d (slice_layout c 0 (len d)) ≡ true = second_so (nat_le (len d) (len c)) (same_array d (slice_layout c 0 (len d))) h in
    (leb-true (len d) (len c) enough, (same_array-decides d (slice_layout c 0 (len d))).0 same)

pub begun_long : (d c : Layout) → spec_begins_with d c ≡ true → len d ≤ len c
begun_long d c h = (begun_same d c h).0

pub begun_type : (d c : Layout) → spec_begins_with d c ≡ true → layout_type d ≡ layout_type c
begun_type d c h = (begun_same d c h).1.0 ∙ type-cut c 0 (len d)

pub behind_type : (c : Layout) (n : ℕ) → layout_type (spec_delta_values c n) ≡ layout_type c
behind_type c n = type-cut c n (len c - n)

pub behind_long : (c : Layout) (n : ℕ) → n ≤ len c → len (spec_delta_values c n) ≡ len c - n
behind_long c n le = len-cut c n (len c - n) (omega (arith, le))

pub behind_array : (c : Layout) (n : ℕ) → IsArray c → n ≤ len c → IsArray (spec_delta_values c n)
behind_array c n fits le = array-cut c n (len c - n) fits (omega (arith, le))

behind_slots : (c : Layout) (n : ℕ) → n ≤ len c → slots_of (spec_delta_values c n) ≡ drop n (slots_of c)
behind_slots c n le =
    let long : length (drop n (slots_of c)) ≤ len c - n = omega (arith, length-drop n (slots_of c), slots-length c) in
    slots-cut c n (len c - n) (omega (arith, le)) ∙ take_all (len c - n) (drop n (slots_of c)) long

-- values that begin with others have their slots, then those of the delta
pub begun : (d c : Layout) → spec_begins_with d c ≡ true → slots_of c ≡ slots_of d ++ slots_of (spec_delta_values c (len d))
begun d c h =
    let n : ℕ = len d in
    let same = begun_same d c h in
    let first : slots_of d ≡ take n (slots_of c) = same.1.1 ∙ slots-cut c 0 n (omega (arith, same.0)) in
    let rest : slots_of (spec_delta_values c n) ≡ drop n (slots_of c) = behind_slots c n same.0 in
    sym (take-append-drop n (slots_of c)) ∙ (λ w. sym first w ++ sym rest w)

-- ---- a slice has the same dictionaries

mutual
  pub count_cut : (c : Layout) (o n : ℕ) → count_dictionaries (slice_layout c o n) ≡ count_dictionaries c
  count_cut (fixed_size_list t c va) o n = count_cut c (o * size_of t) (n * size_of t)
  count_cut (struct t cs va) o n = count_cuts cs o n
  count_cut a o n = refl

  pub count_cuts : (cs : Layouts) (o n : ℕ) → count_each_dictionaries (slice_layouts cs o n) ≡ count_each_dictionaries cs
  count_cuts no_layouts o n = refl
  count_cuts (more_layouts c cs) o n = λ w. count_cut c o n w + count_cuts cs o n w

mutual
  pub own_cut : (id : ℕ) (c : Layout) (o n : ℕ) → own_entries id (slice_layout c o n) ≡ own_entries id c
  own_cut id (fixed_size_list t c va) o n = own_cut id c (o * size_of t) (n * size_of t)
  own_cut id (struct t cs va) o n = each_own_cut id cs o n
  own_cut id a o n = refl

  pub each_own_cut : (id : ℕ) (cs : Layouts) (o n : ℕ) → each_own id (slice_layouts cs o n) ≡ each_own id cs
  each_own_cut id no_layouts o n = refl
  each_own_cut id (more_layouts c cs) o n =
      (λ w. own_cut id c o n w ++ each_own (id + count_cut c o n w) (slice_layouts cs o n))
      ∙ ap (λ (others : DictionaryEntries). own_entries id c ++ others) (each_own_cut (id + count_dictionaries c) cs o n)

-- ---- and the same id

values_cut : (id : ℕ) (c : Layout) (o n : ℕ) → values_of id (slice_layout c o n) ≡ values_of id c
values_cut id c o n = λ w. record { values = logical_type (type-cut c o n w); inside = ids_from (suc id) (count_cut c o n w) }

pub named_behind : (named : ValueTypes) (id : ℤ) (c : Layout) (n : ℕ) → IsNamed named (id, c) → IsNamed named (id, spec_delta_values c n)
named_behind named id c n h =
    let same : values_of h.id c ≡ values_of h.id (spec_delta_values c n) = sym (values_cut h.id c n (len c - n)) in
    record {
      id = h.id;
      number = h.number;
      values = h.values ∙ ap (λ (v : ValueTypeModel). Some v) same;
      outer = ap (λ (v : ValueTypeModel). spec_outermost_ids named v.inside) (sym same) ∙ h.outer ∙ ap entry_ids (sym (own_cut (suc h.id) c n (len c - n)));
      stored = subst (λ (v : ValueTypeModel). reads_as_stored (stored_arrays v.values) ≡ true) same h.stored;
    }

-- ---- pending dictionaries, and their batches

mutual
  arrays_in : (id : ℕ) (a : Layout) → ChildrenFit a → AllByRecursion (λ e. IsArray e.1) (entries_in id a)
  arrays_in id (fixed_size_list t c va) fit = arrays_in id c fit.1
  arrays_in id (list_of large t os c va) fit = arrays_in id c fit.1
  arrays_in id (map_of t os c va) fit = arrays_in id c fit.1
  arrays_in id (struct t cs va) fit = arrays_each id cs fit
  arrays_in id (union t ks cs os start) fit = arrays_each id cs fit
  arrays_in id (dictionary t ks c) fit = all_both (λ e. IsArray e.1) (entries_in (suc id) c) ((pos id, c) ∷ []) (arrays_in (suc id) c fit.1) (fit, tt)
  arrays_in id a fit = tt

  arrays_each : (id : ℕ) (cs : Layouts) → AreArrays cs → AllByRecursion (λ e. IsArray e.1) (each_entries id cs)
  arrays_each id no_layouts fit = tt
  arrays_each id (more_layouts c cs) fit = all_both (λ e. IsArray e.1) (entries_in id c) (each_entries (id + count_dictionaries c) cs) (arrays_in id c fit.0.1) (arrays_each (id + count_dictionaries c) cs fit.1)

columns_arrays : (id : ℕ) (columns : List Layout) → AllByRecursion IsArray columns → AllByRecursion (λ e. IsArray e.1) (columns_entries id columns)
columns_arrays id [] all = tt
columns_arrays id (a ∷ columns) (one, all) =
    all_both (λ e. IsArray e.1) (entries_in id a) (columns_entries (id + count_dictionaries a) columns) (arrays_in id a one.1) (columns_arrays (id + count_dictionaries a) columns all)

-- the pending values of arrays are arrays
pub needed_arrays : (emitted : DictionaryEntries) (columns : List Layout) → AllByRecursion IsArray columns → AllByRecursion (λ e. IsArray e.1) (pending emitted columns)
needed_arrays emitted columns all = columns_needed_of (λ e. IsArray e.1) emitted 0 columns (columns_arrays 0 columns all)

write_named : (named : ValueTypes) (o : Option Layout) (e : ℤ × Layout) → IsNamed named e → AllByRecursion (λ p. IsNamed named p.1) (batches_for o e)
write_named named None e h = (h, tt)
write_named named (Some d) e h = by (len e.1 == len d)
  where
    by : (b : Bool) → AllByRecursion (λ (p : DictionaryBatchTree). IsNamed named p.1) (if b then [] else (true, (e.0, spec_delta_values e.1 (len d))) ∷ [])
    by true = tt
    by false = (named_behind named e.0 e.1 (len d) h, tt)

-- batches have the ids of their pending dictionaries
pub puts_named : (named : ValueTypes) (emitted es : DictionaryEntries) → AllByRecursion (IsNamed named) es → AllByRecursion (λ p. IsNamed named p.1) (spec_dictionary_batches emitted es)
puts_named named emitted [] all = tt
puts_named named emitted (e ∷ es) (one, all) = all_both (λ p. IsNamed named p.1) (batches_for (entry_at emitted e.0) e) (spec_dictionary_batches emitted es) (write_named named (entry_at emitted e.0) e one) (puts_named named emitted es all)
