-- The parts that are read of a nested array satisfy its invariants.
use Rattle.std.proofs.Common.{◌≡◌, ℕ, zero, suc, ◌*◌, ◌/◌, ◌%◌, ◌<◌, ◌≤◌, Bool, true, false, leb, ltb, List, [], ◌∷◌, length, Result, Ok, Err, Option, Some, None, refl, sym, ap, subst, ◌∙◌, arith}
use Rattle.std.specs.Prelude.{ℤ, pos, negsuc, ◌&&◌}
use Rattle.std.proofs.Math.Nat.{mul-div_cancel}
use Rattle.std.proofs.lemmas.Bool.{ltb-true, lt-ltb, leb-true, eqb-true, and_parts, and_from}
use Rattle.std.proofs.lemmas.List.Sums.{AllPass-from_list_all}
use Rattle.ipc_flatbuf.specs.ReadResults.{◌>>=◌, check}
use Rattle.ipc_flatbuf.specs.declared.error.IpcReadError.{IpcReadError}
use Rattle.ipc_flatbuf.specs.declared.error.IpcReadError.TheVariants.{TypeRange, UnionOffset}
use Rattle.nest_memory.specs.Physical.{physical_type}
use Rattle.nest_memory.specs.TypeTree as types
use Rattle.nest_memory.specs.TypeTree.{TypeTree, FieldTree, FieldTrees, no_fields, more_fields, field_type, logical_type, item_type, count_fields, size_of, fields_of, ids_of, is_dense, is_dense_mode, has_pairs, is_pair}
use Rattle.nest_memory.specs.declared.datatypes.UnionMode.{UnionMode}
use Rattle.nest_memory.specs.declared.datatypes.UnionMode.TheVariants.{Dense, Sparse}
use Rattle.nest_memory.specs.declared.error.Error.{Error}
use Rattle.nest_model.specs.Checks.{FailsOr, most_fields, type_count}
use Rattle.nest_model.specs.Fits.{Fits, FirstError, ValidityFits, EachType, EachLen, EachCovers, Names, MeansField, EachMeansField, IdsCount, IdsInRange, OffsetsCount, OffsetsByMode, EachOffsetNames, SlotsThere}
use Rattle.nest_model.specs.Layout.{Layout, Layouts, no_layouts, more_layouts, layout_type, count_layouts, fixed_size_list, struct, union}
use Rattle.nest_model.specs.Meaning.{len, first_len}
use Rattle.nest_model.specs.Part.{Validity, field_named}
use Rattle.nest_model.specs.Runs.{product-exact}
use Rattle.ipc_arrays.specs.Decoding.{Rest, UnionParts, decoded_column, decoded_node, decoded_union_parts, decoded_flat, is_index_below, is_field_below, are_type_ids, are_known_types, are_offsets_in_children, are_union_offsets_valid, union_child_length, union_over}
use Rattle.ipc_arrays.specs.DictionaryLaws.{names_so as names_are}
use Rattle.ipc_arrays.specs.UnionTypeIds.{CoversIfSparse, PassesUnionChecks}
use Rattle.ipc_arrays.specs.NestedDecoding.{is_flat_type, array_decoding, child_decoding, children_decoding, union_decoding, flat_is, item_opens, column_opens}
use Rattle.ipc_arrays.specs.DecodingLaws.{found, AreDecodedUnionParts, OffsetsFor, Suits, EachSuits, item_is as item_known_of, items_are, union_parts_are, kind_stored, item_stored, size_stored, fields_stored, ids_stored, dense_stored, pairs_stored}
use Rattle.ipc_arrays.specs.declared.cursor.NodeCounts.{NodeCounts}
use Rattle.ipc_arrays.specs.declared.cursor.ExpectedLength.{ExpectedLength}
use Rattle.ipc_arrays.specs.declared.cursor.ExpectedLength.TheVariants.{Exactly, AtLeast}

passes : (b : Bool) → check b TypeRange ≡ Ok tt → b ≡ true
passes true h = refl
passes false h = cc

pub some_so : (n : ℕ) {x : Unit {0}} → Ok x ≡ check (ltb 0 n) TypeRange → 0 < n
some_so n h = ltb-true 0 n (passes (ltb 0 n) (sym h))

-- ---- facts about parts that were read

pub item_known : (f : FieldTree) (expected : ExpectedLength) (body : List ℕ) (rest : Rest) (y : Layout × Rest) → child_decoding f expected body rest ≡ Ok y → (layout_type y.0 ≡ field_type f) × Suits expected (len y.0)
unfolding child_decoding
item_known f expected body rest y e = found (λ (y : Layout × Rest). (layout_type y.0 ≡ field_type f) × Suits expected (len y.0)) _ _ e (item_known_of f expected body rest)

pub items_known : (fs : FieldTrees) (expected : ExpectedLength) (body : List ℕ) (rest : Rest) (y : Layouts × Rest) → children_decoding fs expected body rest ≡ Ok y → EachType fs y.0 × EachSuits expected y.0
unfolding children_decoding
items_known fs expected body rest y e = found (λ (y : Layouts × Rest). EachType fs y.0 × EachSuits expected y.0) _ _ e (items_are fs expected body rest)

pub parts_known : (mode : UnionMode) (ids : Option (List ℤ)) (fields : ℕ) (counts : NodeCounts) (body : List ℕ) (rest : Rest) (x : UnionParts × Rest) → decoded_union_parts mode ids fields counts body rest ≡ Ok x → AreDecodedUnionParts mode ids fields counts.slots x.0
parts_known mode ids fields counts body rest x e = found (λ (x : UnionParts × Rest). AreDecodedUnionParts mode ids fields counts.slots x.0) _ _ e (union_parts_are mode ids fields counts body rest)

-- the physical type of an extension type
pub kinds_agree : (t s : TypeTree) → logical_type t ≡ logical_type s → physical_type t ≡ physical_type s
kinds_agree t s h = kind_stored t ∙ ap physical_type h ∙ sym (kind_stored s)

pub flat_read : (t s : TypeTree) (counts : NodeCounts) (body : List ℕ) (rest : Rest) → logical_type t ≡ logical_type s → is_flat_type s ≡ true → decoded_flat (physical_type t) t counts body rest ≡ array_decoding t s counts body rest
flat_read t s counts body rest h flat = ap (λ p. decoded_flat p t counts body rest) (kinds_agree t s h) ∙ sym (flat_is t counts body rest s flat)

pub some_passes : (n : ℕ) → 0 < n → check (ltb 0 n) TypeRange ≡ Ok tt
some_passes n some = ap (λ (b : Bool). check b TypeRange) (lt-ltb 0 n some)

pub column_goes : (t : TypeTree) (expected : ExpectedLength) (body : List ℕ) (rest : Rest) (x : NodeCounts × Rest) → decoded_node expected rest ≡ Ok x → array_decoding t t x.0 body x.1 ≡ decoded_column t expected body rest
column_goes t expected body rest x h = sym (column_opens t expected body rest ∙ ap (λ (r : Result (NodeCounts × Rest) IpcReadError). r >>= λ node. array_decoding t t node.0 body node.1) h)

-- a field, whatever its name
pub item_goes : (f : FieldTree) (u : TypeTree) (expected : ExpectedLength) (body : List ℕ) (rest : Rest) (x : NodeCounts × Rest) → u ≡ field_type f → decoded_node expected rest ≡ Ok x → array_decoding u u x.0 body x.1 ≡ child_decoding f expected body rest
item_goes f u expected body rest x e h = (λ i. array_decoding (e i) (e i) x.0 body x.1) ∙ sym (item_opens f expected body rest ∙ ap (λ (r : Result (NodeCounts × Rest) IpcReadError). r >>= λ node. array_decoding (field_type f) (field_type f) node.0 body node.1) h)

pub item_ends : (f : FieldTree) (expected : ExpectedLength) (body : List ℕ) (rest : Rest) (error : IpcReadError) → decoded_node expected rest ≡ Err error → child_decoding f expected body rest ≡ Err error
item_ends f expected body rest error h = item_opens f expected body rest ∙ ap (λ (r : Result (NodeCounts × Rest) IpcReadError). r >>= λ node. array_decoding (field_type f) (field_type f) node.0 body node.1) h

-- a union
pub union_goes : (t : TypeTree) (fs : FieldTrees) (ids : Option (List ℤ)) (mode : UnionMode) (counts : NodeCounts) (body : List ℕ) (rest : Rest) (n : ℕ) (parts : UnionParts × Rest) (children : Layouts × Rest) → logical_type t ≡ types.union fs ids mode → n ≡ count_fields fs
    → check (leb n most_fields && are_type_ids ids n) TypeRange ≡ Ok tt → decoded_union_parts mode ids n counts body rest ≡ Ok parts → children_decoding fs (union_child_length mode counts.slots) body parts.1 ≡ Ok children
    → union_over t (ids_of t) parts.0 children ≡ union_decoding t fs ids mode counts body rest
unfolding union_decoding
union_goes t fs ids mode counts body rest n parts children h c formed e g =
    let named : ids_of t ≡ ids = ids_stored t ∙ ap ids_of h in
    let formed_so : check (leb (count_fields fs) most_fields && are_type_ids ids (count_fields fs)) TypeRange ≡ Ok tt = subst (λ m. check (leb m most_fields && are_type_ids ids m) TypeRange ≡ Ok tt) c formed in
    let parts : decoded_union_parts mode ids (count_fields fs) counts body rest ≡ Ok parts = subst (λ m. decoded_union_parts mode ids m counts body rest ≡ Ok parts) c e in
    rw (named, formed_so, parts, g) refl

pub union_unformed : (t : TypeTree) (fs : FieldTrees) (ids : Option (List ℤ)) (mode : UnionMode) (counts : NodeCounts) (body : List ℕ) (rest : Rest) (n : ℕ) (error : IpcReadError) → n ≡ count_fields fs
    → check (leb n most_fields && are_type_ids ids n) TypeRange ≡ Err error → union_decoding t fs ids mode counts body rest ≡ Err error
unfolding union_decoding
union_unformed t fs ids mode counts body rest n error c formed = rw (subst (λ m. check (leb m most_fields && are_type_ids ids m) TypeRange ≡ Err error) c formed) refl

pub union_without_parts : (t : TypeTree) (fs : FieldTrees) (ids : Option (List ℤ)) (mode : UnionMode) (counts : NodeCounts) (body : List ℕ) (rest : Rest) (n : ℕ) (error : IpcReadError) → n ≡ count_fields fs
    → check (leb n most_fields && are_type_ids ids n) TypeRange ≡ Ok tt → decoded_union_parts mode ids n counts body rest ≡ Err error → union_decoding t fs ids mode counts body rest ≡ Err error
unfolding union_decoding
union_without_parts t fs ids mode counts body rest n error c formed e =
    rw (subst (λ m. check (leb m most_fields && are_type_ids ids m) TypeRange ≡ Ok tt) c formed, subst (λ m. decoded_union_parts mode ids m counts body rest ≡ Err error) c e) refl

pub union_unread : (t : TypeTree) (fs : FieldTrees) (ids : Option (List ℤ)) (mode : UnionMode) (counts : NodeCounts) (body : List ℕ) (rest : Rest) (n : ℕ) (parts : UnionParts × Rest) (error : IpcReadError) → n ≡ count_fields fs
    → check (leb n most_fields && are_type_ids ids n) TypeRange ≡ Ok tt → decoded_union_parts mode ids n counts body rest ≡ Ok parts → children_decoding fs (union_child_length mode counts.slots) body parts.1 ≡ Err error → union_decoding t fs ids mode counts body rest ≡ Err error
unfolding union_decoding
union_unread t fs ids mode counts body rest n parts error c formed e g =
    rw (subst (λ m. check (leb m most_fields && are_type_ids ids m) TypeRange ≡ Ok tt) c formed, subst (λ m. decoded_union_parts mode ids m counts body rest ≡ Ok parts) c e, g) refl

pub formed_so : (n : ℕ) (ids : Option (List ℤ)) (fs : FieldTrees) → n ≡ count_fields fs → check (leb n most_fields && are_type_ids ids n) TypeRange ≡ Ok tt → (leb (count_fields fs) most_fields && are_type_ids ids (count_fields fs)) ≡ true
formed_so n ids fs c e = subst (λ m. (leb m most_fields && are_type_ids ids m) ≡ true) c (passes (leb n most_fields && are_type_ids ids n) e)

-- ---- lists and maps

pub item_is : (t : TypeTree) (f : FieldTree) (s : TypeTree) (c : Layout) → logical_type t ≡ s → item_type s ≡ Some (field_type f) → layout_type c ≡ field_type f → item_type t ≡ Some (layout_type c)
item_is t f s c h e typed = item_stored t ∙ ap item_type h ∙ e ∙ ap (λ (u : TypeTree). Some u) (sym typed)

pub pairs_are : (t : TypeTree) (f : FieldTree) (sorted : Bool) → logical_type t ≡ types.map f sorted → has_pairs t ≡ is_pair (field_type f)
pairs_are t f sorted h = pairs_stored t ∙ ap has_pairs h

-- ---- fixed-size lists

pub sized_list_fits : (t : TypeTree) (f : FieldTree) (n slots : ℕ) (c : Layout) (va : Validity) → logical_type t ≡ types.fixed_size_list f n → 0 < n → layout_type c ≡ field_type f → len c ≡ slots * n → ValidityFits va slots → Fits (fixed_size_list t c va)
sized_list_fits t f n slots c va h some typed long valid =
    let size : size_of t ≡ n = size_stored t ∙ ap size_of h in
    let back : len c / size_of t ≡ slots = (λ i. long i / size i) ∙ mul-div_cancel slots some in (
      kind_stored t ∙ ap physical_type h,
      (
        subst (λ m. 0 < m) (sym size) some,
        (
          item_stored t ∙ ap item_type h ∙ ap (λ (u : TypeTree). Some u) (sym typed),
          ((λ i. long i % size i) ∙ product-exact slots n, (subst (ValidityFits va) (sym back) valid, tt)),
        ),
      ),
    )

-- ---- structs

each_count : (fs : FieldTrees) (cs : Layouts) → EachType fs cs → count_layouts cs ≡ count_fields fs
each_count no_fields no_layouts typed = refl
each_count no_fields (more_layouts c cs) typed = absurd typed
each_count (more_fields f fs) no_layouts typed = absurd typed
each_count (more_fields f fs) (more_layouts c cs) typed = ap suc (each_count fs cs typed.1)

each_long : (cs : Layouts) (n : ℕ) → EachSuits (Exactly n) cs → EachLen cs n
each_long no_layouts n suits = tt
each_long (more_layouts c cs) n suits = (suits.0, each_long cs n suits.1)

first_long : (fs : FieldTrees) (cs : Layouts) (n : ℕ) → 0 < count_fields fs → EachType fs cs → EachSuits (Exactly n) cs → n ≡ first_len cs
first_long no_fields cs n some typed suits = absurd (omega (arith, some))
first_long (more_fields f fs) no_layouts n some typed suits = absurd typed
first_long (more_fields f fs) (more_layouts c cs) n some typed suits = sym suits.0

pub struct_fits : (t : TypeTree) (fs : FieldTrees) (slots : ℕ) (cs : Layouts) (va : Validity) → logical_type t ≡ types.struct fs → 0 < count_fields fs → EachType fs cs → EachSuits (Exactly slots) cs → ValidityFits va slots → Fits (struct t cs va)
struct_fits t fs slots cs va h some typed suits valid =
    let own : fs ≡ fields_of t = sym (fields_stored t ∙ ap fields_of h) in
    let first : slots ≡ first_len cs = first_long fs cs slots some typed suits in (
      kind_stored t ∙ ap physical_type h,
      (
        subst (λ gs. 0 < count_fields gs) own some,
        (
          each_count fs cs typed ∙ ap count_fields own,
          (subst (λ gs. EachType gs cs) own typed, (subst (EachLen cs) first (each_long cs slots suits), (subst (ValidityFits va) first valid, tt))),
        ),
      ),
    )

-- ---- unions

pub names_so : (z : ℤ) (n : ℕ) → is_index_below z n ≡ true → Names z n
names_so (pos k) n e = ltb-true _ _ e
names_so (negsuc k) n e = cc

means_so : (o : Option ℕ) (n : ℕ) → is_field_below o n ≡ true → MeansField o n
means_so None n e = cc
means_so (Some f) n e = ltb-true _ _ e

fields_meant : (ids : Option (List ℤ)) (n : ℕ) (ks : List ℤ) → are_known_types ids n ks ≡ true → EachMeansField ids ks n
fields_meant ids n ks e = λ k d l. means_so _ n (AllPass-from_list_all (λ z. is_field_below (field_named ids z) n) ks e k d l)

ids_count : (ids : Option (List ℤ)) (n : ℕ) → are_type_ids ids n ≡ true → IdsCount ids n
ids_count None n e = tt
ids_count (Some ids) n e = eqb-true _ _ (and_parts _ _ e).0

ids_range : (ids : Option (List ℤ)) (n : ℕ) → are_type_ids ids n ≡ true → IdsInRange ids
ids_range None n e = tt
ids_range (Some ids) n e = λ k d l. names_so _ type_count (AllPass-from_list_all (λ z. is_index_below z type_count) ids (and_parts _ _ e).1 k d l)

offsets_count : (mode : UnionMode) (n : ℕ) (os : Option (List ℤ)) → OffsetsFor mode n os → OffsetsCount os n
offsets_count Sparse n None h = tt
offsets_count Sparse n (Some os) h = absurd h
offsets_count Dense n None h = absurd h
offsets_count Dense n (Some os) h = h

offsets_mode : (mode : UnionMode) (n : ℕ) (os : Option (List ℤ)) → OffsetsFor mode n os → OffsetsByMode os (is_dense_mode mode)
offsets_mode Sparse n None h = refl
offsets_mode Sparse n (Some os) h = absurd h
offsets_mode Dense n None h = absurd h
offsets_mode Dense n (Some os) h = refl

each_covers : (cs : Layouts) (n : ℕ) → EachSuits (AtLeast n) cs → EachCovers cs n
each_covers no_layouts n suits = tt
each_covers (more_layouts c cs) n suits = (suits.0, each_covers cs n suits.1)

sparse_covers : (mode : UnionMode) (n : ℕ) (os : Option (List ℤ)) (cs : Layouts) → OffsetsFor mode n os → EachSuits (union_child_length mode n) cs → CoversIfSparse os cs n
sparse_covers Sparse n None cs h suits = each_covers cs n suits
sparse_covers Sparse n (Some os) cs h suits = absurd h
sparse_covers Dense n None cs h suits = absurd h
sparse_covers Dense n (Some os) cs h suits = tt

pub union_parts_fit : (t : TypeTree) (fs : FieldTrees) (ids : Option (List ℤ)) (mode : UnionMode) (slots : ℕ) (parts : UnionParts) (cs : Layouts) → logical_type t ≡ types.union fs ids mode
    → (leb (count_fields fs) most_fields && are_type_ids ids (count_fields fs)) ≡ true → AreDecodedUnionParts mode ids (count_fields fs) slots parts → EachType fs cs → EachSuits (union_child_length mode slots) cs → PassesUnionChecks t parts.types cs parts.offsets
union_parts_fit t fs ids mode slots parts cs h formed are typed suits =
    let own : fs ≡ fields_of t = sym (fields_stored t ∙ ap fields_of h) in
    let named : ids ≡ ids_of t = sym (ids_stored t ∙ ap ids_of h) in
    let count : count_fields fs ≡ count_layouts cs = sym (each_count fs cs typed) in
    let each : are_type_ids ids (count_layouts cs) ≡ true = subst (λ n. are_type_ids ids n ≡ true) count (and_parts _ _ formed).1 in
    let long : slots ≡ length parts.types = sym are.types in
    record {
      kind = kind_stored t ∙ ap physical_type h;
      count = sym count ∙ ap count_fields own;
      few = subst (λ n. n ≤ most_fields) count (leb-true _ _ (and_parts _ _ formed).0);
      typed = subst (λ gs. EachType gs cs) own typed;
      offsets = subst (OffsetsCount parts.offsets) long (offsets_count mode slots parts.offsets are.offsets);
      mode = subst (OffsetsByMode parts.offsets) (sym (dense_stored t ∙ ap is_dense h)) (offsets_mode mode slots parts.offsets are.offsets);
      ids = subst (λ o. IdsCount o (count_layouts cs)) named (ids_count ids (count_layouts cs) each);
      range = subst IdsInRange named (ids_range ids (count_layouts cs) each);
      types = subst (λ o. EachMeansField o parts.types (count_layouts cs)) named (fields_meant ids (count_layouts cs) parts.types (subst (λ n. are_known_types ids n parts.types ≡ true) count are.means));
      covers = subst (CoversIfSparse parts.offsets cs) long (sparse_covers mode slots parts.offsets cs are.offsets suits);
    }

-- the slots that dense offsets are indices of

each_named : (ids : Option (List ℤ)) (cs : Layouts) (ks os : List ℤ) → length os ≡ length ks → are_offsets_in_children ids cs ks os ≡ true → EachOffsetNames ids ks os cs
each_named ids cs [] os l e i lt = absurd (omega (arith, lt))
each_named ids cs (z ∷ ks) [] l e i lt = absurd (omega (arith, l))
each_named ids cs (z ∷ ks) (o ∷ os) l e zero lt = names_so o _ (and_parts _ _ e).0
each_named ids cs (z ∷ ks) (o ∷ os) l e (suc i) lt = each_named ids cs ks os (omega (arith, l)) (and_parts _ _ e).1 i (omega (arith, lt))

named_each : (ids : Option (List ℤ)) (cs : Layouts) (ks os : List ℤ) → length os ≡ length ks → EachOffsetNames ids ks os cs → are_offsets_in_children ids cs ks os ≡ true
named_each ids cs [] os l h = refl
named_each ids cs (z ∷ ks) [] l h = absurd (omega (arith, l))
named_each ids cs (z ∷ ks) (o ∷ os) l h = and_from _ _ (names_are o _ (h 0 (omega arith))) (named_each ids cs ks os (omega (arith, l)) (λ i lt. h (suc i) (omega (arith, lt))))

there : (ids : Option (List ℤ)) (cs : Layouts) (ks : List ℤ) (os : Option (List ℤ)) → OffsetsCount os (length ks) → SlotsThere ids ks cs os 0 → are_union_offsets_valid ids cs ks os ≡ true
there ids cs ks None l h = refl
there ids cs ks (Some os) l h = named_each ids cs ks os l h

slots_are : (ids : Option (List ℤ)) (cs : Layouts) (ks : List ℤ) (os : Option (List ℤ)) → OffsetsCount os (length ks) → CoversIfSparse os cs (length ks) → are_union_offsets_valid ids cs ks os ≡ true → SlotsThere ids ks cs os 0
slots_are ids cs ks None l covers e = subst (EachCovers cs) (omega arith) covers
slots_are ids cs ks (Some os) l covers e = each_named ids cs ks os l e

not_there : (b : Bool) → (b ≡ true → ⊥) → b ≡ false
not_there true unlike = absurd (unlike refl)
not_there false unlike = refl

-- a check that passes isn't the one that fails
skip : (b : Bool) {P R : Type 0} → P → FailsOr b P R → R
skip true p h = absurd (h p)
skip false p h = h.1

last_fails : (b : Bool) {P : Type 0} → FailsOr b P ⊥ → P → ⊥
last_fails true h p = h p
last_fails false h p = h.1

pub union_made : (t u : TypeTree) (parts : UnionParts) (cs : Layouts) (rest : Rest) (a : Layout) → u ≡ t → PassesUnionChecks t parts.types cs parts.offsets → Fits (union u parts.types cs parts.offsets 0) → a ≡ union u parts.types cs parts.offsets 0
    → union_over t (ids_of t) parts (cs, rest) ≡ Ok (a, rest)
union_made t u parts cs rest a e h fits made =
    let own : Fits (union t parts.types cs parts.offsets 0) = subst (λ v. Fits (union v parts.types cs parts.offsets 0)) e fits in
    let same : union t parts.types cs parts.offsets 0 ≡ a = sym (made ∙ ap (λ v. union v parts.types cs parts.offsets 0) e) in
    rw (there (ids_of t) cs parts.types parts.offsets h.offsets own.1.1.1.1.1.1.1.1.1.0) (ap (λ (b : Layout). Ok (b, rest)) same)

pub union_refused : (t u : TypeTree) (parts : UnionParts) (cs : Layouts) (rest : Rest) (f : Error) → u ≡ t → PassesUnionChecks t parts.types cs parts.offsets → FirstError f (union u parts.types cs parts.offsets 0)
    → union_over t (ids_of t) parts (cs, rest) ≡ Err UnionOffset
union_refused t u parts cs rest f e h first =
    let error : FirstError f (union t parts.types cs parts.offsets 0) = subst (λ v. FirstError f (union v parts.types cs parts.offsets 0)) e first in
    let last = skip _ h.types (skip _ h.range (skip _ h.ids (skip _ h.mode (skip _ h.offsets (skip _ h.typed (skip _ h.few (skip _ h.count (skip _ h.kind error)))))))) in
    let none : are_union_offsets_valid (ids_of t) cs parts.types parts.offsets ≡ false = not_there _ (λ all. last_fails _ last (slots_are (ids_of t) cs parts.types parts.offsets h.offsets h.covers all)) in
    rw none refl
