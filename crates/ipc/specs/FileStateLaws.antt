-- The state of a reader of a file after the dictionary batches of its record batches: of each id just the slots emitted last, and no other id. So each record batch is
-- read in the last state, which only has more values.
use Rattle.std.specs.Prelude.{◌≡◌, ℕ, suc, ◌-◌, ℤ, Bool, true, false, ◌||◌, not, ◌==◌, List, [], ◌∷◌, ◌++◌, Option, Some, None, is_some, Result, Ok, Err, refl, if◌then◌else◌}
use Rattle.std.proofs.Common.{sym, ap, ◌∙◌, subst, arith}
use Rattle.std.specs.BTreeMap.{insert_entry}
use Rattle.std.specs.Cmp.{Equal-is}
use Rattle.std.specs.List.{AllByRecursion}
use Rattle.std.specs.Ordering.{int_cmp, is_eq}
use Rattle.std.proofs.lemmas.Bool.Decides.{Decides-eqb}
use Rattle.std.proofs.lemmas.List.{append-nil}
use Rattle.std.proofs.lemmas.Map.Lookups.{exact_signed}
use Rattle.std.proofs.lemmas.Option.{same_Some}
use Rattle.nest_memory.specs.TypeTree.{TypeTree, logical_type}
use Rattle.nest_model.specs.Array.{IsArray}
use Rattle.nest_model.specs.Layout.{Layout, layout_type}
use Rattle.nest_model.specs.Meaning.{len, slot, run, slots_of}
use Rattle.nest_model.specs.Slot.{Slot}
use Rattle.nest_concat.specs.Laid.{joined_layout}
use Rattle.nest_concat.proofs.LaidWholes.{two-joined, two-slots}
use Rattle.ipc_flatbuf.specs.ReadResults.{◌>>=◌}
use Rattle.ipc_flatbuf.specs.declared.error.IpcReadError.{IpcReadError}
use Rattle.ipc_flatbuf.specs.declared.error.IpcWriteError.{IpcWriteError}
use Rattle.ipc_flatbuf.specs.declared.error.IpcWriteError.TheVariants.{Columns, DictionaryReplacement}
use Rattle.ipc_flatbuf.specs.Messages.{MessageModel, message_at}
use Rattle.ipc_schema.specs.Dictionaries.{DictionaryTypesModel}
use Rattle.ipc_schema.specs.WriteChecks.{check_fields}
use Rattle.ipc_schema.specs.ProjectionLaws.{read_actions}
use Rattle.ipc_schema.specs.ProjectedSchemas.{ProjectedSchemaModel}
use Rattle.ipc_schema.specs.Schemas.{SchemaModel}
use Rattle.ipc_arrays.specs.ReplacedValues.{AreSameValues}
use Rattle.ipc_arrays.specs.Encoding.{columns_body}
use Rattle.ipc.specs.RoundTrips as again
use Rattle.ipc.specs.RoundTrips.{written_rest, ValuesRoundTrip}
use Rattle.ipc.specs.RoundTripLaws.{covers_all, values_again}
use Rattle.ipc.specs.DistinctIdLaws.{AreDistinct, needed_apart}
use Rattle.ipc.specs.DictionaryEntries.{DictionaryEntries, own_entries, columns_own}
use Rattle.ipc.specs.KnownDictionaries.{IsKnown, AreKnown, Covers, Follows, number_of, read_values, known_with}
use Rattle.ipc.specs.KnownDictionaryLaws.{entry_put, entry_kept, known_by, IsOther, IsSent, AreSentInOrder, all_parts, columns_needed_of, columns_own_of, needed_sent}
use Rattle.ipc_flatbuf.specs.StoredArrays.{reads_as_stored}
use Rattle.ipc_schema.specs.ProjectionLaws.{written_as_stored}
use Rattle.ipc.specs.SchemaIds.{IsNamed, AreNamed, seen_of_fields}
use Rattle.ipc.specs.SchemaIdLaws.{are_named}
use Rattle.ipc.specs.PendingDictionaries.{entry_at, with_entries}
use Rattle.ipc.specs.FileDictionaries.{DictionaryBatchTree, whole, spec_delta_values, spec_begins_with, batches_for, spec_dictionary_batches, spec_is_replaced, spec_any_replaced}
use Rattle.ipc.specs.FileDictionaryLaws.{begun, begun_long, begun_type, behind_long, own_cut, named_behind}
use Rattle.ipc.specs.DeltaLaws.{delta_joins, delta_type}
use Rattle.ipc.specs.ExtendedDictionaries.{IsExtended, HoldsArray, AreAllArrays, KnowsMore, HasArrays, IsLater}
use Rattle.ipc.specs.ExtendedColumns.{columns_fit}
use Rattle.ipc.specs.KnownMoreLaws.{later_self, later_on, later_known}
use Rattle.ipc.specs.Streams.{RecordBatchTree, StateTree, column_types, dictionary_in, spec_check_order, with_new, with_delta, spec_with_values}
use Rattle.ipc.specs.EncodedStreams.{dictionary_bytes, pending_by, spec_are_columns, or_error, HasAllColumns, CanReadBatch, RecordBatchRoundTrips, DictionaryRoundTrips, BatchRoundTrips, BatchesRoundTrip, error_from}
use Rattle.ipc.specs.EncodedFiles.{file_dictionary_batches, state_with, state_or, state_with_dictionary, state_after, after, FileState, file_state_after, file_state_start, dictionary_block_error, record_batch_block_error, replaced_error, unreadable_error, dictionary_batch_error, dictionary_batches_error, file_batch_error, file_batches_error}
use Rattle.ipc.specs.EncodedStreamLaws.{types_are, columns_if}
use Rattle.ipc.specs.EncodedBatches.{both_accepted, first_accepts, others_accept}

-- ---- the message of a dictionary batch

is_read : (s : StateTree) (read : Result StateTree IpcReadError) → unreadable_error read ≡ None → read ≡ Ok (state_or s read)
is_read s (Ok t) none = refl
is_read s (Err error) none = cc

-- a dictionary batch without an error is read, and this is the state after it
pub write_read : (s : StateTree) (p : DictionaryBatchTree) (ok : DictionaryRoundTrips p) → dictionary_batch_error s p ≡ None → dictionary_in true s ok.parts ≡ Ok (state_after s p)
write_read s p ok none =
    let found : message_at (dictionary_bytes p) ≡ Ok (Some ok.parts, []) = subst (λ (bytes : List ℕ). message_at bytes ≡ Ok (Some ok.parts, [])) (append-nil (dictionary_bytes p)) (ok.message.again []) in
    let same : state_with_dictionary s p ≡ dictionary_in true s ok.parts = ap (λ (next : Result (Option MessageModel × List ℕ) IpcReadError). next >>= λ x. state_with s x.0) found in
    sym same ∙ is_read s (state_with_dictionary s p) (others_accept (dictionary_block_error p) (unreadable_error (state_with_dictionary s p)) none)

-- ---- known dictionaries, id by id

-- a reader knows no id that was not emitted
abbrev pub HasJust : DictionaryEntries → DictionaryEntries → Type 0
HasJust known emitted = (id : ℤ) → entry_at emitted id ≡ None → entry_at known id ≡ None

-- it knows the slots of those emitted last, and no others; all values are arrays
pub record Keeps (known emitted : DictionaryEntries) : Type 0 where
  pub follows : Follows known emitted
  pub just : HasJust known emitted
  pub arrays : HasArrays known

sent_known : (known emitted es : DictionaryEntries) → Follows known emitted → AllByRecursion (IsSent emitted) es → AllByRecursion (IsKnown known) es
sent_known known emitted [] follows all = tt
sent_known known emitted (e ∷ es) follows (same, all) = (known_by known e.0 (entry_at emitted e.0) e.1 (λ d at. follows e.0 d at) same, sent_known known emitted es follows all)

-- an id has these values, and the others are unchanged
record IsPutAt (known more : DictionaryEntries) (id : ℤ) (d : Layout) : Type 0 where
  here : entry_at more id ≡ Some d
  others : (other : ℤ) → IsOther id other → entry_at more other ≡ entry_at known other

write_there : (known : DictionaryEntries) (id : ℤ) (d : Layout) → IsPutAt known (insert_entry int_cmp known id d) id d
write_there known id d = record { here = entry_put known id d; others = λ other apart. entry_kept known id other d apart }

stays_there : (known : DictionaryEntries) (id : ℤ) (d : Layout) → entry_at known id ≡ Some d → IsPutAt known known id d
stays_there known id d there = record { here = there; others = λ other apart. refl }

is_both : (o : Option Layout) (d : Layout) → o ≡ None → o ≡ Some d → ⊥
is_both o d none there = cc (sym none ∙ there)

module _ (known more emitted : DictionaryEntries) (id : ℤ) (c d : Layout) (put : IsPutAt known more id d) where
  follows_at : (b : Bool) (other : ℤ) (old : Layout) → is_eq (int_cmp other id) ≡ b → AreSameValues c d → Follows known emitted → entry_at (insert_entry int_cmp emitted id c) other ≡ Some old → IsKnown more (other, old)
  follows_at true other old is same follows at =
      let here : other ≡ id = exact_signed other id ((Equal-is (int_cmp other id)).0 is) in
      let new : Some c ≡ Some old = sym (entry_put emitted id c) ∙ ap (λ (k : ℤ). entry_at (insert_entry int_cmp emitted id c) k) (sym here) ∙ at in
      (d, ap (λ (k : ℤ). entry_at more k) here ∙ put.here, subst (λ (x : Layout). AreSameValues x d) (same_Some c old new) same)
  follows_at false other old is same follows at =
      let x = follows other old (sym (entry_kept emitted id other c is) ∙ at) in
      (x.0, put.others other is ∙ x.1, x.2)

  just_at : (b : Bool) (other : ℤ) → is_eq (int_cmp other id) ≡ b → HasJust known emitted → entry_at (insert_entry int_cmp emitted id c) other ≡ None → entry_at more other ≡ None
  just_at true other is just none =
      let here : other ≡ id = exact_signed other id ((Equal-is (int_cmp other id)).0 is) in
      absurd (is_both (entry_at (insert_entry int_cmp emitted id c) other) c none (ap (λ (k : ℤ). entry_at (insert_entry int_cmp emitted id c) k) here ∙ entry_put emitted id c))
  just_at false other is just none = put.others other is ∙ just other (sym (entry_kept emitted id other c is) ∙ none)

  keeps_put : AreSameValues c d → HasArrays more → Keeps known emitted → Keeps more (insert_entry int_cmp emitted id c)
  keeps_put same arrays keeps = record {
    follows = λ other old at. follows_at (is_eq (int_cmp other id)) other old refl same keeps.follows at;
    just = λ other none. just_at (is_eq (int_cmp other id)) other refl keeps.just none;
    arrays = arrays;
  }

-- ---- the slots of extended values

-- a delta of no values
pub begun_all : (d c : Layout) → spec_begins_with d c ≡ true → len c ≡ len d → slots_of c ≡ slots_of d
begun_all d c begins long =
    let none : len (spec_delta_values c (len d)) ≡ 0 = omega (arith, behind_long c (len d) (begun_long d c begins), long) in
    let empty : slots_of (spec_delta_values c (len d)) ≡ [] = ap (run (slot (spec_delta_values c (len d))) 0) none in
    begun d c begins ∙ ap (λ (ss : List Slot). slots_of d ++ ss) empty ∙ append-nil (slots_of d)

all_begun : (d c old : Layout) → spec_begins_with d c ≡ true → len c ≡ len d → AreSameValues d old → AreSameValues c old
all_begun d c old begins long front = record { logical = front.logical ∙ ap logical_type (begun_type d c begins); slots = front.slots ∙ sym (begun_all d c begins long) }

-- a delta appended to the values that it extends
joined_same : (d c old more : Layout) → spec_begins_with d c ≡ true → AreSameValues d old → AreSameValues (spec_delta_values c (len d)) more → layout_type more ≡ layout_type old → IsArray old → IsArray more → AreSameValues c (joined_layout (old ∷ more ∷ []))
joined_same d c old more begins front rest typed first second = record {
  logical = ap logical_type (two-joined old more typed first second).1.same_type ∙ front.logical ∙ ap logical_type (begun_type d c begins);
  slots = two-slots old more typed first second ∙ (λ w. front.slots w ++ rest.slots w) ∙ sym (begun d c begins);
}

-- values that decode over arrays are an array
entries_hold : (known es : DictionaryEntries) → HasArrays known → AreAllArrays (again.entry_values known es)
entries_hold known [] all = tt
entries_hold known (e ∷ es) all = (all e.0, entries_hold known es all)

values_fit : (known : DictionaryEntries) (id : ℕ) (c : Layout) → HasArrays known → ValuesRoundTrip known id c → IsArray (read_values known id c)
values_fit known id c all back =
    let own : DictionaryEntries = own_entries (suc id) c in
    (columns_fit (logical_type (layout_type c) ∷ []) (len c) (columns_body (c ∷ [])) (written_rest (c ∷ []) (again.entry_values known own)) (read_values known id c ∷ []) (entries_hold known own all) back.read).0

-- ---- the batches of one id

-- more is known, as emitted by then; of a new id, its values as they are read
record IsStep (s t : StateTree) (emitted : DictionaryEntries) (e : ℤ × Layout) : Type 0 where
  later : IsLater s t
  keeps : Keeps t.known (insert_entry int_cmp emitted e.0 e.1)
  new : entry_at emitted e.0 ≡ None → t.known ≡ insert_entry int_cmp s.known e.0 (read_values s.known (number_of e.0) e.1)

pub was_so : (b : Bool) → not b ≡ false → b ≡ true
was_so true h = refl
was_so false h = cc

module _ (s : StateTree) (emitted : DictionaryEntries) (e : ℤ × Layout) (keeps : Keeps s.known emitted) (inside : AllByRecursion (IsKnown s.known) (own_entries (suc (number_of e.0)) e.1)) where
  covers : AllByRecursion (Covers s.known) (own_entries (suc (number_of e.0)) e.1)
  covers = covers_all s.known (own_entries (suc (number_of e.0)) e.1) inside

  -- an id without values gets a batch of all of them
  whole_step : entry_at emitted e.0 ≡ None → IsNamed s.picked.seen.named e → DictionaryRoundTrips (whole e) → dictionary_batch_error s (whole e) ≡ None → IsStep s (state_after s (whole e)) emitted e
  whole_step none named ok accepted =
      let id : ℕ = number_of e.0 in
      let d : Layout = read_values s.known id e.1 in
      let t : StateTree = state_after s (whole e) in
      let back : ValuesRoundTrip s.known id e.1 = values_again s.known id e.1 ok.over covers in
      let comes : spec_check_order true false (is_some (entry_at s.known e.0)) ≡ Ok tt = ap (λ (o : Option Layout). spec_check_order true false (is_some o)) (keeps.just e.0 none) in
      let read : dictionary_in true s ok.parts ≡ Ok t = write_read s (whole e) ok accepted in
      let new : Ok (with_new s e.0 d) ≡ Ok t = sym (ok.values true s (record { named = named; inside = covers; comes = comes })) ∙ read in
      let same : with_new s e.0 d ≡ t = cc new in
      let later : IsLater s t = later_known s t ok.parts keeps.arrays read in
      let there : IsPutAt s.known t.known e.0 d = subst (λ (x : StateTree). IsPutAt s.known x.known e.0 d) same (write_there s.known e.0 d) in
      record { later = later; keeps = keeps_put s.known t.known emitted e.0 e.1 d there back.same later.arrays keeps; new = λ _. ap (λ (x : StateTree). x.known) (sym same) }

  module _ (d : Layout) (there : entry_at emitted e.0 ≡ Some d) (begins : spec_begins_with d e.1 ≡ true) where
    -- the delta of an id
    abbrev delta : DictionaryBatchTree
    delta = (true, (e.0, spec_delta_values e.1 (len d)))

    -- an id with all of the values gets no batch
    kept_step : len e.1 ≡ len d → IsStep s s emitted e
    kept_step long =
        let known = keeps.follows e.0 d there in
        let same : AreSameValues e.1 known.0 = all_begun d e.1 known.0 begins long known.2 in
        record {
          later = later_self s keeps.arrays;
          keeps = keeps_put s.known s.known emitted e.0 e.1 known.0 (stays_there s.known e.0 known.0 known.1) same keeps.arrays keeps;
          new = λ none. absurd (is_both (entry_at emitted e.0) d none there);
        }

    -- otherwise a delta
    delta_step : IsNamed s.picked.seen.named e → DictionaryRoundTrips delta → dictionary_batch_error s delta ≡ None → IsStep s (state_after s delta) emitted e
    delta_step named ok accepted =
        let id : ℕ = number_of e.0 in
        let rest : Layout = spec_delta_values e.1 (len d) in
        let more : Layout = read_values s.known id rest in
        let t : StateTree = state_after s delta in
        let known = keeps.follows e.0 d there in
        let over : AllByRecursion (Covers s.known) (own_entries (suc id) rest) = subst (AllByRecursion (Covers s.known)) (sym (own_cut (suc id) e.1 (len d) (len e.1 - len d))) covers in
        let back : ValuesRoundTrip s.known id rest = values_again s.known id rest ok.over over in
        let comes : spec_check_order true true (is_some (entry_at s.known e.0)) ≡ Ok tt = ap (λ (o : Option Layout). spec_check_order true true (is_some o)) known.1 in
        let read : dictionary_in true s ok.parts ≡ Ok t = write_read s delta ok accepted in
        let grows : spec_with_values true s e.0 more ≡ Ok t = sym (ok.values true s (record { named = named_behind s.picked.seen.named e.0 e.1 (len d) named; inside = over; comes = comes })) ∙ read in
        let both : Layout = joined_layout (known.0 ∷ more ∷ []) in
        let joins : t ≡ with_delta s e.0 both = delta_joins s t e.0 known.0 more known.1 grows in
        let typed : layout_type more ≡ layout_type known.0 = delta_type s t e.0 known.0 more known.1 grows in
        let same : AreSameValues e.1 both = joined_same d e.1 known.0 more begins known.2 back.same typed (subst HoldsArray known.1 (keeps.arrays e.0)) (values_fit s.known id rest keeps.arrays back) in
        let later : IsLater s t = later_known s t ok.parts keeps.arrays read in
        let at : IsPutAt s.known t.known e.0 both = subst (λ (x : StateTree). IsPutAt s.known x.known e.0 both) (sym joins) (write_there s.known e.0 both) in
        record { later = later; keeps = keeps_put s.known t.known emitted e.0 e.1 both at same later.arrays keeps; new = λ none. absurd (is_both (entry_at emitted e.0) d none there) }

    grown_step : (b : Bool) → (len e.1 == len d) ≡ b → IsNamed s.picked.seen.named e → AllByRecursion DictionaryRoundTrips (if b then [] else delta ∷ []) → dictionary_batches_error s (if b then [] else delta ∷ []) ≡ None
        → IsStep s (after state_after s (if b then [] else delta ∷ [])) emitted e
    grown_step true long named ok accepted = kept_step ((Decides-eqb (len e.1) (len d)).0 long)
    grown_step false long named ok accepted = delta_step named ok.0 (first_accepts (dictionary_batch_error s delta) None accepted)

  one_step : (o : Option Layout) → entry_at emitted e.0 ≡ o → spec_is_replaced o e.1 ≡ false → IsNamed s.picked.seen.named e → AllByRecursion DictionaryRoundTrips (batches_for o e) → dictionary_batches_error s (batches_for o e) ≡ None → IsStep s (after state_after s (batches_for o e)) emitted e
  one_step None there old named ok accepted = whole_step there named ok.0 (first_accepts (dictionary_batch_error s (whole e)) None accepted)
  one_step (Some d) there old named ok accepted = grown_step d there (was_so (spec_begins_with d e.1) old) (len e.1 == len d) refl named ok accepted

-- ---- the batches of all pending dictionaries

-- the batches of other ids change nothing for an id
puts_still : (emitted : DictionaryEntries) (id : ℤ) (c : Layout) (es : DictionaryEntries) → AllByRecursion (λ e. IsOther id e.0) es → spec_dictionary_batches (insert_entry int_cmp emitted id c) es ≡ spec_dictionary_batches emitted es
puts_still emitted id c [] apart = refl
puts_still emitted id c (e ∷ es) (one, rest) = λ w. batches_for (entry_kept emitted id e.0 c one w) e ++ puts_still emitted id c es rest w

anew_still : (emitted : DictionaryEntries) (id : ℤ) (c : Layout) (es : DictionaryEntries) → AllByRecursion (λ e. IsOther id e.0) es → spec_any_replaced (insert_entry int_cmp emitted id c) es ≡ spec_any_replaced emitted es
anew_still emitted id c [] apart = refl
anew_still emitted id c (e ∷ es) (one, rest) = λ w. spec_is_replaced (entry_kept emitted id e.0 c one w) e.1 || anew_still emitted id c es rest w

none_still : (emitted : DictionaryEntries) (id : ℤ) (c : Layout) (es : DictionaryEntries) → AllByRecursion (λ e. IsOther id e.0) es → AllByRecursion (λ e. entry_at emitted e.0 ≡ None) es → AllByRecursion (λ e. entry_at (insert_entry int_cmp emitted id c) e.0 ≡ None) es
none_still emitted id c [] apart none = tt
none_still emitted id c (e ∷ es) (one, rest) (here, others) = (entry_kept emitted id e.0 c one ∙ here, none_still emitted id c es rest others)

pub first_false : (a b : Bool) → (a || b) ≡ false → a ≡ false
first_false true b h = cc
first_false false b h = refl

pub second_false : (a b : Bool) → (a || b) ≡ false → b ≡ false
second_false true b h = cc
second_false false b h = h

-- one list after another
module _ {S A : Type 0} (next : S → A → S) where
  pub after_both : (s : S) (xs ys : List A) → after next s (xs ++ ys) ≡ after next (after next s xs) ys
  after_both s [] ys = refl
  after_both s (x ∷ xs) ys = after_both (next s x) xs ys

  from_both : (refusal : S → A → Option IpcWriteError) (s : S) (xs ys : List A) → error_from next refusal s (xs ++ ys) ≡ None → (error_from next refusal s xs ≡ None) × (error_from next refusal (after next s xs) ys ≡ None)
  from_both refusal s [] ys none = (refl, none)
  from_both refusal s (x ∷ xs) ys none =
      let r : Option IpcWriteError = refusal s x in
      let rest = from_both refusal (next s x) xs ys (others_accept r (error_from next refusal (next s x) (xs ++ ys)) none) in
      (both_accepted r (error_from next refusal (next s x) xs) (first_accepts r (error_from next refusal (next s x) (xs ++ ys)) none) rest.0, rest.1)

-- known dictionaries stay known
abbrev pub Extends : DictionaryEntries → DictionaryEntries → Type 0
Extends more known = (id : ℤ) (d : Layout) → entry_at known id ≡ Some d → entry_at more id ≡ Some d

stays : (b : Bool) (known : DictionaryEntries) (id other : ℤ) (new d : Layout) → is_eq (int_cmp other id) ≡ b → entry_at known id ≡ None → entry_at known other ≡ Some d → entry_at (insert_entry int_cmp known id new) other ≡ Some d
stays true known id other new d is none there =
    let same : other ≡ id = exact_signed other id ((Equal-is (int_cmp other id)).0 is) in
    absurd (is_both (entry_at known id) d none (ap (λ (k : ℤ). entry_at known k) (sym same) ∙ there))
stays false known id other new d is none there = entry_kept known id other new is ∙ there

-- if each id was new, the dictionaries that a reader of a stream knows are known, with those before
pub record AreNew (known more es : DictionaryEntries) : Type 0 where
  pub as_streams : more ≡ known_with known es
  pub extends : Extends more known

record AreSteps (s t : StateTree) (emitted es : DictionaryEntries) : Type 0 where
  later : IsLater s t
  keeps : Keeps t.known (with_entries emitted es)
  new : AllByRecursion (λ e. entry_at emitted e.0 ≡ None) es → AreNew s.known t.known es

module _ (s t : StateTree) (emitted : DictionaryEntries) (e : ℤ × Layout) (keeps : Keeps s.known emitted) (first : IsStep s t emitted e) where
  new_step : (u : StateTree) (es : DictionaryEntries) → entry_at emitted e.0 ≡ None → AreNew t.known u.known es → AreNew s.known u.known (e ∷ es)
  new_step u es none rest =
      let d : Layout = read_values s.known (number_of e.0) e.1 in
      let is : t.known ≡ insert_entry int_cmp s.known e.0 d = first.new none in
      let absent : entry_at s.known e.0 ≡ None = keeps.just e.0 none in
      record {
        as_streams = rest.as_streams ∙ ap (λ (known : DictionaryEntries). known_with known es) is;
        extends = λ id old there. rest.extends id old (ap (λ (known : DictionaryEntries). entry_at known id) is ∙ stays (is_eq (int_cmp id e.0)) s.known e.0 id d old refl absent there);
      }

  more_steps : (u : StateTree) (es : DictionaryEntries) → AllByRecursion (λ f. IsOther e.0 f.0) es → AreSteps t u (insert_entry int_cmp emitted e.0 e.1) es → AreSteps s u emitted (e ∷ es)
  more_steps u es apart rest = record {
    later = later_on s t u first.later rest.later;
    keeps = rest.keeps;
    new = λ none. new_step u es none.0 (rest.new (none_still emitted e.0 e.1 es apart none.1));
  }

all_step : (es : DictionaryEntries) (s : StateTree) (emitted : DictionaryEntries) → Keeps s.known emitted → AreSentInOrder emitted es → AreDistinct es → spec_any_replaced emitted es ≡ false → AllByRecursion (IsNamed s.picked.seen.named) es → AllByRecursion DictionaryRoundTrips (spec_dictionary_batches emitted es)
    → dictionary_batches_error s (spec_dictionary_batches emitted es) ≡ None → AreSteps s (after state_after s (spec_dictionary_batches emitted es)) emitted es
all_step [] s emitted keeps order apart old named ok accepted = record { later = later_self s keeps.arrays; keeps = keeps; new = λ none. record { as_streams = refl; extends = λ id d there. there } }
all_step (e ∷ es) s emitted keeps (inside, order) (others, apart) old (one, named) ok accepted =
    let o : Option Layout = entry_at emitted e.0 in
    let ps : List DictionaryBatchTree = spec_dictionary_batches emitted es in
    let next : DictionaryEntries = insert_entry int_cmp emitted e.0 e.1 in
    let t : StateTree = after state_after s (batches_for o e) in
    let puts = all_parts DictionaryRoundTrips (batches_for o e) ps ok in
    let none = from_both state_after dictionary_batch_error s (batches_for o e) ps accepted in
    let first : IsStep s t emitted e = one_step s emitted e keeps (sent_known s.known emitted (own_entries (suc (number_of e.0)) e.1) keeps.follows inside) o refl (first_false (spec_is_replaced o e.1) (spec_any_replaced emitted es) old) one puts.0 none.0 in
    let same : spec_dictionary_batches next es ≡ ps = puts_still emitted e.0 e.1 es others in
    let names : AllByRecursion (IsNamed t.picked.seen.named) es = subst (λ (p : ProjectedSchemaModel). AllByRecursion (IsNamed p.seen.named) es) (sym first.later.picked) named in
    let rest : AreSteps t (after state_after t (spec_dictionary_batches next es)) next es =
    all_step es t next first.keeps order apart (anew_still emitted e.0 e.1 es others ∙ second_false (spec_is_replaced o e.1) (spec_any_replaced emitted es) old) names (subst (AllByRecursion DictionaryRoundTrips) (sym same) puts.1) (ap (dictionary_batches_error t) same ∙ none.1) in
    let end : after state_after t (spec_dictionary_batches next es) ≡ after state_after s (batches_for o e ++ ps) = ap (after state_after t) same ∙ sym (after_both state_after s (batches_for o e) ps) in
    subst (λ (u : StateTree). AreSteps s u emitted (e ∷ es)) end (more_steps s t emitted e keeps first (after state_after t (spec_dictionary_batches next es)) es others rest)

-- ---- a record batch

-- the state of a file between two record batches
pub record IsBehindFile (f : FileState) : Type 0 where
  pub whole : HasAllColumns f.state
  pub form : check_fields f.state.picked.schema.fields ≡ Ok tt
  pub keeps : Keeps f.state.known f.emitted

-- after the schema nothing was emitted, and nothing is known
pub starts_file : (s : SchemaModel) → check_fields s.fields ≡ Ok tt → IsBehindFile (file_state_start s)
starts_file s form = record {
  whole = record { steps = refl; arrays = written_as_stored s form; seen = refl };
  form = form;
  keeps = record { follows = λ id c h. cc; just = λ id none. refl; arrays = λ id. tt };
}

-- a record batch without an error: columns of the schema, no replaced dictionary, and no delta that cannot be read
pub record IsAccepted (types : List TypeTree) (f : FileState) (b : RecordBatchTree) : Type 0 where
  pub columns : spec_are_columns types b.rows b.columns ≡ true
  pub old : spec_any_replaced f.emitted (pending_by f.emitted b) ≡ false
  pub puts : dictionary_batches_error f.state (file_dictionary_batches f.emitted b) ≡ None

columns_then : (are : Bool) (r : Option IpcWriteError) → (if are then r else Some Columns) ≡ None → r ≡ None
columns_then true r h = h
columns_then false r h = cc

not_anew : (r : Bool) (next : Option IpcWriteError) → or_error (if r then Some DictionaryReplacement else None) next ≡ None → r ≡ false
not_anew false next h = refl
not_anew true next h = cc

pub is_accepted : (types : List TypeTree) (f : FileState) (b : RecordBatchTree) → file_batch_error types f b ≡ None → IsAccepted types f b
is_accepted types f b none =
    let anew : Option IpcWriteError = replaced_error f.emitted (pending_by f.emitted b) in
    let puts : Option IpcWriteError = dictionary_batches_error f.state (file_dictionary_batches f.emitted b) in
    let rest : or_error anew (or_error puts (record_batch_block_error b)) ≡ None = columns_then (spec_are_columns types b.rows b.columns) (or_error anew (or_error puts (record_batch_block_error b))) none in
    record {
      columns = columns_if (spec_are_columns types b.rows b.columns) (or_error anew (or_error puts (record_batch_block_error b))) none;
      old = not_anew (spec_any_replaced f.emitted (pending_by f.emitted b)) (or_error puts (record_batch_block_error b)) rest;
      puts = first_accepts puts (record_batch_block_error b) (others_accept anew (or_error puts (record_batch_block_error b)) rest);
    }

still_whole : (s t : StateTree) → t.picked ≡ s.picked → HasAllColumns s → HasAllColumns t
still_whole s t same at = record {
  steps = subst (λ (p : ProjectedSchemaModel). p.steps ≡ read_actions p.schema.fields) (sym same) at.steps;
  arrays = subst (λ (p : ProjectedSchemaModel). reads_as_stored p.arrays ≡ true) (sym same) at.arrays;
  seen = subst (λ (p : ProjectedSchemaModel). p.seen ≡ seen_of_fields p.schema.fields) (sym same) at.seen;
}

-- after a record batch the same holds, and the dictionaries of its columns are known
pub record IsNext (f : FileState) (b : RecordBatchTree) : Type 0 where
  pub later : IsLater f.state (file_state_after f b).state
  pub at : IsBehindFile (file_state_after f b)
  pub columns : spec_are_columns (column_types f.state.picked.schema) b.rows b.columns ≡ true
  pub named : AreNamed f.state.picked.schema.fields b.columns
  pub known : AreKnown (file_state_after f b).state.known b.columns
  pub new : AllByRecursion (λ e. entry_at f.emitted e.0 ≡ None) (pending_by f.emitted b) → AreNew f.state.known (file_state_after f b).state.known (pending_by f.emitted b)

pub part_next : (f : FileState) (b : RecordBatchTree) → BatchRoundTrips (file_dictionary_batches f.emitted b) b → IsBehindFile f → file_batch_error (column_types f.state.picked.schema) f b ≡ None → IsNext f b
part_next f b ok at none =
    let s : StateTree = f.state in
    let fields = s.picked.schema.fields in
    let es : DictionaryEntries = pending_by f.emitted b in
    let accepted : IsAccepted (column_types s.picked.schema) f b = is_accepted (column_types s.picked.schema) f b none in
    let named : AreNamed fields b.columns = are_named fields b.columns at.form (types_are (column_types s.picked.schema) b.rows b.columns accepted.columns) ok.fits in
    let each : AllByRecursion (IsNamed (seen_of_fields fields).named) es = columns_needed_of (IsNamed (seen_of_fields fields).named) f.emitted 0 b.columns named.each in
    let here : AllByRecursion (IsNamed s.picked.seen.named) es = subst (λ (seen : DictionaryTypesModel). AllByRecursion (IsNamed seen.named) es) (sym at.whole.seen) each in
    let emitted = needed_sent f.emitted b.columns in
    let steps : AreSteps s (file_state_after f b).state f.emitted es = all_step es s f.emitted at.keeps emitted.order (needed_apart f.emitted b.columns) accepted.old here ok.dictionaries accepted.puts in
    record {
      later = steps.later;
      at = record {
        whole = still_whole s (file_state_after f b).state steps.later.picked at.whole;
        form = subst (λ (p : ProjectedSchemaModel). check_fields p.schema.fields ≡ Ok tt) (sym steps.later.picked) at.form;
        keeps = steps.keeps;
      };
      columns = accepted.columns;
      named = named;
      known = sent_known (file_state_after f b).state.known (with_entries f.emitted es) (columns_own 0 b.columns) steps.keeps.follows (columns_own_of _ 0 b.columns emitted.each);
      new = steps.new;
    }

-- ---- all record batches

-- known values begin those known later
covers_at : (o : Option Layout) (more : DictionaryEntries) (e : ℤ × Layout) (d : Layout) → entry_at more e.0 ≡ o → IsExtended (Some d) o → AreSameValues e.1 d → Covers more e
covers_at None more e d there grown same = absurd grown
covers_at (Some x) more e d there grown same = (x, there, record { logical = grown.logical ∙ same.logical; more = grown.more; slots = grown.slots ∙ ap (λ (ss : List Slot). ss ++ grown.more) same.slots })

covers_later : (known more es : DictionaryEntries) → KnowsMore known more → AllByRecursion (IsKnown known) es → AllByRecursion (Covers more) es
covers_later known more [] grows all = tt
covers_later known more (e ∷ es) grows (one, rest) =
    let grown : IsExtended (Some one.0) (entry_at more e.0) = subst (λ (o : Option Layout). IsExtended o (entry_at more e.0)) one.1 (grows e.0) in
    (covers_at (entry_at more e.0) more e one.0 refl grown one.2, covers_later known more es grows rest)

-- a record batch that round-trips can be read in the last state
pub record IsAtEnd (end : StateTree) (b : RecordBatchTree) : Type 0 where
  pub again : RecordBatchRoundTrips b
  pub reads : CanReadBatch end b

batch_at_end : (f : FileState) (b : RecordBatchTree) (end : StateTree) → RecordBatchRoundTrips b → IsNext f b → IsLater (file_state_after f b).state end → IsAtEnd end b
batch_at_end f b end ok next later =
    let picked : end.picked ≡ f.state.picked = later.picked ∙ next.later.picked in
    record {
      again = ok;
      reads = record {
        whole = still_whole (file_state_after f b).state end later.picked next.at.whole;
        columns = subst (λ (p : ProjectedSchemaModel). spec_are_columns (column_types p.schema) b.rows b.columns ≡ true) (sym picked) next.columns;
        named = subst (λ (p : ProjectedSchemaModel). AreNamed p.schema.fields b.columns) (sym picked) next.named;
        known = covers_later (file_state_after f b).state.known end.known (columns_own 0 b.columns) later.grows next.known;
      };
    }

-- after all of them only more is known, and each can be read
pub record AreAtEnd (f : FileState) (end : StateTree) (bs : List RecordBatchTree) : Type 0 where
  pub later : IsLater f.state end
  pub each : AllByRecursion (IsAtEnd end) bs

pub all_next : (types : List TypeTree) (f : FileState) (bs : List RecordBatchTree) → types ≡ column_types f.state.picked.schema → BatchesRoundTrip file_dictionary_batches f.emitted bs → IsBehindFile f → file_batches_error types f bs ≡ None → AreAtEnd f (after file_state_after f bs).state bs
all_next types f [] typed ok at none = record { later = later_self f.state at.keeps.arrays; each = tt }
all_next types f (b ∷ bs) typed ok at none =
    let g : FileState = file_state_after f b in
    let end : StateTree = (after file_state_after g bs).state in
    let one : file_batch_error types f b ≡ None = first_accepts (file_batch_error types f b) (file_batches_error types g bs) none in
    let next : IsNext f b = part_next f b ok.0 at (subst (λ (ts : List TypeTree). file_batch_error ts f b ≡ None) typed one) in
    let still : types ≡ column_types g.state.picked.schema = typed ∙ ap (λ (p : ProjectedSchemaModel). column_types p.schema) (sym next.later.picked) in
    let rest : AreAtEnd g end bs = all_next types g bs still ok.1 next.at (others_accept (file_batch_error types f b) (file_batches_error types g bs) none) in
    record { later = later_on f.state g.state end next.later rest.later; each = (batch_at_end f b end ok.0.batch next rest.later, rest.each) }
