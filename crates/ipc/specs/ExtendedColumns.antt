-- Columns over extended dictionaries: if they decode over the first, they decode over the others, to the same arrays.
use Rattle.std.proofs.Common.{◌≡◌, ℕ, zero, suc, ◌+◌, ◌*◌, Bool, true, false, eqb, leb, ltb, List, [], ◌∷◌, length, Result, Ok, Err, Option, Some, None, refl, sym, ap, subst, ◌∙◌, arith}
use Rattle.std.specs.Prelude.{ℤ, ◌&&◌}
use Rattle.std.specs.List.{AllByRecursion}
use Rattle.std.proofs.lemmas.List.{append-nil}
use Rattle.std.proofs.lemmas.Bool.{leb-true, ltb-true, and_parts}
use Rattle.ipc_flatbuf.specs.ReadResults.{◌>>=◌, check}
use Rattle.ipc_flatbuf.specs.declared.batch.parts.FieldNode.{FieldNode}
use Rattle.ipc_flatbuf.specs.declared.batch.parts.BufferSpec.{BufferSpec}
use Rattle.ipc_flatbuf.specs.declared.error.IpcReadError.{IpcReadError}
use Rattle.ipc_flatbuf.specs.declared.error.IpcReadError.TheVariants.{TypeRange, NodeCount, BufferCount, OffsetPastChild, UnionOffset}
use Rattle.ipc_flatbuf.specs.declared.projection.SkippedField.{SkippedField}
use Rattle.ipc_flatbuf.specs.declared.projection.FieldAction.{FieldAction}
use Rattle.ipc_flatbuf.specs.declared.projection.FieldAction.TheVariants.{Read, Skip}
use Rattle.nest_memory.specs.Physical.{physical_type, list_of_width}
use Rattle.nest_memory.specs.Rising.{last_of}
use Rattle.nest_memory.specs.TypeTree as types
use Rattle.nest_memory.specs.TypeTree.{TypeTree, FieldTree, FieldTrees, field, no_fields, more_fields, field_type, logical_type, item_type, count_fields, fields_of, ids_of, is_pair, has_pairs}
use Rattle.nest_memory.specs.declared.datatypes.UnionMode.{UnionMode}
use Rattle.nest_memory.specs.declared.datatypes.UnionMode.TheVariants.{Dense, Sparse}
use Rattle.nest_model.specs.Array.{TopFits, AreArrays, IsArray}
use Rattle.nest_model.specs.Checks.{most_fields}
use Rattle.nest_model.specs.Fits.{Fits, EachType, EachOffsetNames, OffsetsCount, SlotsThere, child_len, ValidityFits}
use Rattle.nest_model.specs.Layout.{Layout, Layouts, fixed_size_list, struct, union, no_layouts, more_layouts, layout_type}
use Rattle.nest_model.specs.Meaning.{len, slots_of}
use Rattle.nest_model.specs.Part.{Validity, field_named}
use Rattle.nest_model.specs.SameArrayLaws.{same-len}
use Rattle.ipc_arrays.proofs.Nested.{names_so, kinds_agree, item_is as item_type_is, pairs_are, sized_list_fits, struct_fits, union_parts_fit}
use Rattle.ipc_arrays.specs.Decoding.{Rest, UnionParts, is_index_below, decoded_node, decoded_buffer, decoded_validity_buffer, decoded_variable_size_head, decoded_values, decoded_types, decoded_union_parts, decoded_flat, are_type_ids, are_offsets_in_children, are_union_offsets_valid, union_child_length, list_over, map_over, union_over, decoded_array, decoded_child, decoded_children, decoded_column, checked_exhausted, decoded_columns}
use Rattle.ipc_arrays.specs.UnionTypeIds.{CoversIfSparse, PassesUnionChecks}
use Rattle.ipc_arrays.specs.Projection.{ProjectionState, skip_first, skipped_views, skipped_column, decoded_steps, decoded_projection, every_column}
use Rattle.ipc_arrays.specs.ProjectionLaws.{projection_same}
use Rattle.ipc_arrays.specs.DecodingLaws.{AreDecodedUnionParts, Suits, EachSuits, found, array_is, item_is, items_are, union_parts_are, kind_stored, item_stored, ids_stored}
use Rattle.ipc_arrays.specs.ReplacedValues.{IsExtendedBy}
use Rattle.ipc_arrays.specs.FixedWidth.{offset_format}
use Rattle.ipc_arrays.specs.declared.cursor.NodeCounts.{NodeCounts}
use Rattle.ipc_arrays.specs.declared.cursor.ExpectedLength.{ExpectedLength}
use Rattle.ipc_arrays.specs.declared.cursor.ExpectedLength.TheVariants.{Rows, Exactly, Any}
use Rattle.ipc.specs.ExtendedDictionaries.{HasExtendedDictionaries, ColumnDecodesAlike, AllExtended, AreAllArrays, AreSameArrays, ReadTogether, ColumnsDecodeAlike}
use Rattle.ipc.specs.ExtendedReads.{then_read, then_same, then_checked, GoesOn, on_and_on, IsPart, then_part, Anything, any_read, node_next, buffer_next, head_next, rows_next, RowsFit, IsRead, IsReadOf, so_many, kind_next}
use Rattle.ipc.specs.ExtendedSlots.{EachSame, list_same, map_same, sized_same, struct_same, union_same}

-- ---- one level above child arrays

-- the arrays of fields
pub record AreRead (from : Rest) (x y : Layouts × Rest) : Type 0 where
  pub below : AreAllArrays from.dictionaries → AreArrays x.0
  pub same : EachSame x.0 y.0
  pub on : GoesOn from x.1 y.1

-- a field decodes over all extended dictionaries
abbrev IsItemRead : FieldTree → ExpectedLength → List ℕ → Type 0
IsItemRead f wanted body = (u v : Rest) → HasExtendedDictionaries u v → ReadTogether (IsRead u) (decoded_child f wanted body u) (decoded_child f wanted body v)

abbrev AreItemsRead : FieldTrees → ExpectedLength → List ℕ → Type 0
AreItemsRead fs wanted body = (u v : Rest) → HasExtendedDictionaries u v → ReadTogether (AreRead u) (decoded_children fs wanted body u) (decoded_children fs wanted body v)

-- ---- unions

each_named : (ids : Option (List ℤ)) (cs : Layouts) (ks os : List ℤ) → length os ≡ length ks → are_offsets_in_children ids cs ks os ≡ true → EachOffsetNames ids ks os cs
each_named ids cs [] os l e i lt = absurd (omega (arith, lt))
each_named ids cs (z ∷ ks) [] l e i lt = absurd (omega (arith, l))
each_named ids cs (z ∷ ks) (o ∷ os) l e zero lt = names_so o _ (and_parts _ _ e).0
each_named ids cs (z ∷ ks) (o ∷ os) l e (suc i) lt = each_named ids cs ks os (omega (arith, l)) (and_parts _ _ e).1 i (omega (arith, lt))

slots_are : (ids : Option (List ℤ)) (cs : Layouts) (ks : List ℤ) (os : Option (List ℤ)) → OffsetsCount os (length ks) → CoversIfSparse os cs (length ks) → are_union_offsets_valid ids cs ks os ≡ true → SlotsThere ids ks cs os 0
slots_are ids cs ks None l covers e = subst (λ (n : ℕ). CoversIfSparse None cs n) (let z : length ks ≡ 0 + length ks = omega arith in z) covers
slots_are ids cs ks (Some os) l covers e = each_named ids cs ks os l e

union_fits : (t : TypeTree) (ks : List ℤ) (cs : Layouts) (os : Option (List ℤ)) → PassesUnionChecks t ks cs os → are_union_offsets_valid (ids_of t) cs ks os ≡ true → Fits (union t ks cs os 0)
union_fits t ks cs os is there =
    (is.kind, (is.count, (is.few, (is.typed, (is.offsets, (is.mode, (is.ids, (is.range, (is.types, (slots_are (ids_of t) cs ks os is.offsets is.covers there, tt))))))))))

child_same : (cs ds : Layouts) (f : Option ℕ) → EachSame cs ds → child_len cs f ≡ child_len ds f
child_same no_layouts no_layouts f h = refl
child_same no_layouts (more_layouts d ds) f h = absurd h
child_same (more_layouts c cs) no_layouts f h = absurd h
child_same (more_layouts c cs) (more_layouts d ds) None h = refl
child_same (more_layouts c cs) (more_layouts d ds) (Some zero) h = same-len c d h.0
child_same (more_layouts c cs) (more_layouts d ds) (Some (suc f)) h = child_same cs ds (Some f) h.1

names_same : (ids : Option (List ℤ)) (cs ds : Layouts) (ks os : List ℤ) → EachSame cs ds → are_offsets_in_children ids cs ks os ≡ are_offsets_in_children ids ds ks os
names_same ids cs ds [] os h = refl
names_same ids cs ds (z ∷ ks) [] h = refl
names_same ids cs ds (z ∷ ks) (o ∷ os) h = λ w. is_index_below o (child_same cs ds (field_named ids z) h w) && names_same ids cs ds ks os h w

there_same : (ids : Option (List ℤ)) (cs ds : Layouts) (ks : List ℤ) (os : Option (List ℤ)) → EachSame cs ds → are_union_offsets_valid ids cs ks os ≡ are_union_offsets_valid ids ds ks os
there_same ids cs ds ks None h = refl
there_same ids cs ds ks (Some os) h = names_same ids cs ds ks os h

module _ (t : TypeTree) (counts : NodeCounts) (body : List ℕ) (r s : Rest) (h : HasExtendedDictionaries r s) where
  list_next : (large : Bool) (f : FieldTree) → physical_type t ≡ list_of_width large → item_type t ≡ Some (field_type f) → IsItemRead f Any body
      → ReadTogether (IsReadOf counts.slots r) (decoded_variable_size_head large counts body r >>= λ head. decoded_child f Any body head.1 >>= λ items. list_over large t head.0 items) (decoded_variable_size_head large counts body s >>= λ head. decoded_child f Any body head.1 >>= λ items. list_over large t head.0 items)
  list_next large f kind item read =
      then_part (RowsFit counts.slots) r (IsReadOf counts.slots r) (decoded_variable_size_head large counts body r) (decoded_variable_size_head large counts body s) _ _ (rows_next large counts body r s h)
      (λ head u v e rows on. then_read (IsRead u) (IsReadOf counts.slots r) (decoded_child f Any body u) (decoded_child f Any body v) _ _ (read u v on.grown)
      (λ x y g items.
      let typed = found (λ (z : Layout × Rest). (layout_type z.0 ≡ field_type f) × Suits Any (len z.0)) _ _ g (item_is f Any body u) in
      let long : len x.0 ≡ len y.0 = same-len x.0 y.0 items.same in
      then_checked (IsReadOf counts.slots r) (leb (last_of head.offsets) (len x.0)) (leb (last_of head.offsets) (len y.0)) OffsetPastChild _ _ (subst (λ (n : ℕ). leb (last_of head.offsets) n ≡ true) long)
      (λ within. record {
        fits = λ many. (rows.offsets, (leb-true _ _ within, (subst (ValidityFits head.validity) (sym many) rows.valid, (kind, (item ∙ ap (λ (w : TypeTree). Some w) (sym typed.0), tt)))));
        below = λ all. (items.fits, items.below (on.arrays all));
        same = list_same large t head.offsets x.0 y.0 head.validity rows.offsets (leb-true _ _ within) items.same;
        on = on_and_on r u v x.1 y.1 on items.on;
      })))

  map_next : (f : FieldTree) (sorted : Bool) → logical_type t ≡ types.map f sorted → IsItemRead f Any body
      → ReadTogether (IsReadOf counts.slots r) (check (is_pair (field_type f)) TypeRange >>= λ pairs. decoded_variable_size_head false counts body r >>= λ head. decoded_child f Any body head.1 >>= λ entries. map_over t head.0 entries) (check (is_pair (field_type f)) TypeRange >>= λ pairs. decoded_variable_size_head false counts body s >>= λ head. decoded_child f Any body head.1 >>= λ entries. map_over t head.0 entries)
  map_next f sorted stored read =
      then_checked (IsReadOf counts.slots r) (is_pair (field_type f)) (is_pair (field_type f)) TypeRange _ _ (λ e. e)
      (λ pairs. then_part (RowsFit counts.slots) r (IsReadOf counts.slots r) (decoded_variable_size_head false counts body r) (decoded_variable_size_head false counts body s) _ _ (rows_next false counts body r s h)
      (λ head u v e rows on. then_read (IsRead u) (IsReadOf counts.slots r) (decoded_child f Any body u) (decoded_child f Any body v) _ _ (read u v on.grown)
      (λ x y g items.
      let typed = found (λ (z : Layout × Rest). (layout_type z.0 ≡ field_type f) × Suits Any (len z.0)) _ _ g (item_is f Any body u) in
      let long : len x.0 ≡ len y.0 = same-len x.0 y.0 items.same in
      let pairs_too : has_pairs t ≡ true = pairs_are t f sorted stored ∙ pairs in
      then_checked (IsReadOf counts.slots r) (leb (last_of head.offsets) (len x.0)) (leb (last_of head.offsets) (len y.0)) OffsetPastChild _ _ (subst (λ (n : ℕ). leb (last_of head.offsets) n ≡ true) long)
      (λ within. record {
        fits = λ many. (
          rows.offsets,
          (
            leb-true _ _ within,
            (
              kind_stored t ∙ ap physical_type stored,
              (pairs_too, (item_type_is t f (types.map f sorted) x.0 stored refl typed.0, (subst (ValidityFits head.validity) (sym many) rows.valid, tt))),
            ),
          ),
        );
        below = λ all. (items.fits, items.below (on.arrays all));
        same = map_same t head.offsets x.0 y.0 head.validity rows.offsets (leb-true _ _ within) items.same;
        on = on_and_on r u v x.1 y.1 on items.on;
      }))))

  sized_list_next : (f : FieldTree) (n : ℕ) → logical_type t ≡ types.fixed_size_list f n → IsItemRead f (Exactly (counts.slots * n)) body
      → ReadTogether (IsReadOf counts.slots r) (check (ltb 0 n) TypeRange >>= λ some. decoded_validity_buffer counts body r >>= λ head. decoded_child f (Exactly (counts.slots * n)) body head.1 >>= λ items. Ok (fixed_size_list t items.0 head.0, items.1)) (check (ltb 0 n) TypeRange >>= λ some. decoded_validity_buffer counts body s >>= λ head. decoded_child f (Exactly (counts.slots * n)) body head.1 >>= λ items. Ok (fixed_size_list t items.0 head.0, items.1))
  sized_list_next f n stored read =
      then_checked (IsReadOf counts.slots r) (ltb 0 n) (ltb 0 n) TypeRange _ _ (λ e. e)
      (λ some. then_part (λ (va : Validity). ValidityFits va counts.slots) r (IsReadOf counts.slots r) (decoded_validity_buffer counts body r) (decoded_validity_buffer counts body s) _ _ (head_next counts body r s h)
      (λ va u v e valid on. then_read (IsRead u) (IsReadOf counts.slots r) (decoded_child f (Exactly (counts.slots * n)) body u) (decoded_child f (Exactly (counts.slots * n)) body v) _ _ (read u v on.grown)
      (λ x y g items.
      let typed = found (λ (z : Layout × Rest). (layout_type z.0 ≡ field_type f) × Suits (Exactly (counts.slots * n)) (len z.0)) _ _ g (item_is f (Exactly (counts.slots * n)) body u) in
      record {
        fits = λ many. (tt, sized_list_fits t f n counts.slots x.0 va stored (ltb-true _ _ some) typed.0 typed.1 valid);
        below = λ all. (items.fits, items.below (on.arrays all));
        same = sized_same t x.0 y.0 va items.same;
        on = on_and_on r u v x.1 y.1 on items.on;
      })))

  struct_next : (fs : FieldTrees) → logical_type t ≡ types.struct fs → AreItemsRead fs (Exactly counts.slots) body
      → ReadTogether (IsReadOf counts.slots r) (check (ltb 0 (count_fields fs)) TypeRange >>= λ some. decoded_validity_buffer counts body r >>= λ head. decoded_children fs (Exactly counts.slots) body head.1 >>= λ children. Ok (struct t children.0 head.0, children.1)) (check (ltb 0 (count_fields fs)) TypeRange >>= λ some. decoded_validity_buffer counts body s >>= λ head. decoded_children fs (Exactly counts.slots) body head.1 >>= λ children. Ok (struct t children.0 head.0, children.1))
  struct_next fs stored read =
      then_checked (IsReadOf counts.slots r) (ltb 0 (count_fields fs)) (ltb 0 (count_fields fs)) TypeRange _ _ (λ e. e)
      (λ some. then_part (λ (va : Validity). ValidityFits va counts.slots) r (IsReadOf counts.slots r) (decoded_validity_buffer counts body r) (decoded_validity_buffer counts body s) _ _ (head_next counts body r s h)
      (λ va u v e valid on. then_read (AreRead u) (IsReadOf counts.slots r) (decoded_children fs (Exactly counts.slots) body u) (decoded_children fs (Exactly counts.slots) body v) _ _ (read u v on.grown)
      (λ x y g items.
      let known = found (λ (z : Layouts × Rest). EachType fs z.0 × EachSuits (Exactly counts.slots) z.0) _ _ g (items_are fs (Exactly counts.slots) body u) in
      let fit : TopFits (struct t x.0 va) = (tt, struct_fits t fs counts.slots x.0 va stored (ltb-true _ _ some) known.0 known.1 valid) in
      record {
        fits = λ many. fit;
        below = λ all. items.below (on.arrays all);
        same = struct_same t x.0 y.0 va fit items.same;
        on = on_and_on r u v x.1 y.1 on items.on;
      })))

  picks_next : (mode : UnionMode) (ids : Option (List ℤ)) (fields : ℕ) → ReadTogether (IsPart Anything r) (decoded_union_parts mode ids fields counts body r) (decoded_union_parts mode ids fields counts body s)
  unfolding decoded_union_parts
  picks_next Sparse ids fields =
      then_part Anything r (IsPart {A = UnionParts} Anything r) (decoded_buffer body r) (decoded_buffer body s) _ _ (buffer_next body r s h)
      (λ first u v e any on. then_same (IsPart {A = UnionParts} Anything r) Anything (decoded_types ids fields counts.slots first) _ _ (any_read (decoded_types ids fields counts.slots first))
      (λ ks g _. record { same = refl; holds = tt; on = on }))
  picks_next Dense ids fields =
      then_part Anything r (IsPart {A = UnionParts} Anything r) (decoded_buffer body r) (decoded_buffer body s) _ _ (buffer_next body r s h)
      (λ first u v e any on. then_same (IsPart {A = UnionParts} Anything r) Anything (decoded_types ids fields counts.slots first) _ _ (any_read (decoded_types ids fields counts.slots first))
      (λ ks g _. then_part Anything u (IsPart {A = UnionParts} Anything r) (decoded_buffer body u) (decoded_buffer body v) _ _ (buffer_next body u v on.grown)
      (λ second w z k any further. then_same (IsPart {A = UnionParts} Anything r) Anything (decoded_values (offset_format false) counts.slots second) _ _ (any_read (decoded_values (offset_format false) counts.slots second))
      (λ offsets q _. record { same = refl; holds = tt; on = on_and_on r u v w z on further }))))

  union_next : (fs : FieldTrees) (ids : Option (List ℤ)) (mode : UnionMode) → logical_type t ≡ types.union fs ids mode → AreItemsRead fs (union_child_length mode counts.slots) body
      → ReadTogether (IsReadOf counts.slots r) (check (leb (count_fields fs) most_fields && are_type_ids ids (count_fields fs)) TypeRange >>= λ formed. decoded_union_parts mode ids (count_fields fs) counts body r >>= λ picks. decoded_children fs (union_child_length mode counts.slots) body picks.1 >>= λ children. union_over t ids picks.0 children) (check (leb (count_fields fs) most_fields && are_type_ids ids (count_fields fs)) TypeRange >>= λ formed. decoded_union_parts mode ids (count_fields fs) counts body s >>= λ picks. decoded_children fs (union_child_length mode counts.slots) body picks.1 >>= λ children. union_over t ids picks.0 children)
  union_next fs ids mode stored read =
      let formed_is : Bool = leb (count_fields fs) most_fields && are_type_ids ids (count_fields fs) in
      then_checked (IsReadOf counts.slots r) formed_is formed_is TypeRange _ _ (λ e. e)
      (λ formed. then_part Anything r (IsReadOf counts.slots r) (decoded_union_parts mode ids (count_fields fs) counts body r) (decoded_union_parts mode ids (count_fields fs) counts body s) _ _ (picks_next mode ids (count_fields fs))
      (λ picks u v e any on. then_read (AreRead u) (IsReadOf counts.slots r) (decoded_children fs (union_child_length mode counts.slots) body u) (decoded_children fs (union_child_length mode counts.slots) body v) _ _ (read u v on.grown)
      (λ x y g items.
      let are = found (λ (z : UnionParts × Rest). AreDecodedUnionParts mode ids (count_fields fs) counts.slots z.0) _ _ e (union_parts_are mode ids (count_fields fs) counts body r) in
      let known = found (λ (z : Layouts × Rest). EachType fs z.0 × EachSuits (union_child_length mode counts.slots) z.0) _ _ g (items_are fs (union_child_length mode counts.slots) body u) in
      let is : PassesUnionChecks t picks.types x.0 picks.offsets = union_parts_fit t fs ids mode counts.slots picks x.0 stored formed are known.0 known.1 in
      let named : ids ≡ ids_of t = sym (ids_stored t ∙ ap ids_of stored) in
      then_checked (IsReadOf counts.slots r) (are_union_offsets_valid ids x.0 picks.types picks.offsets) (are_union_offsets_valid ids y.0 picks.types picks.offsets) UnionOffset _ _ (λ there. sym (there_same ids x.0 y.0 picks.types picks.offsets items.same) ∙ there)
      (λ there.
      let fit : TopFits (union t picks.types x.0 picks.offsets 0) = (tt, union_fits t picks.types x.0 picks.offsets is (subst (λ (o : Option (List ℤ)). are_union_offsets_valid o x.0 picks.types picks.offsets ≡ true) named there)) in
      record {
        fits = λ many. fit;
        below = λ all. items.below (on.arrays all);
        same = union_same t picks.types x.0 y.0 picks.offsets 0 fit items.same;
        on = on_and_on r u v x.1 y.1 on items.on;
      }))))

-- ---- arrays of every kind

module _ {A B : Type 0} (R S : A → B → Type 0) where
  pub read_weaker : (r : Result A IpcReadError) (s : Result B IpcReadError) → ((x : A) (y : B) → R x y → S x y) → ReadTogether R r s → ReadTogether S r s
  read_weaker (Ok x) (Ok y) weaker h = weaker x y h
  read_weaker (Ok x) (Err e) weaker h = h
  read_weaker (Err e) s weaker h = tt

read_behind : (from u v : Rest) → GoesOn from u v → (x y : Layout × Rest) → IsRead u x y → IsRead from x y
read_behind from u v on x y is = record { fits = is.fits; below = λ all. is.below (on.arrays all); same = is.same; on = on_and_on from u v x.1 y.1 on is.on }

mutual
  array_next : (t s : TypeTree) (counts : NodeCounts) (body : List ℕ) (r o : Rest) → logical_type t ≡ logical_type s → HasExtendedDictionaries r o → ReadTogether (IsRead r) (decoded_array t s counts body r) (decoded_array t s counts body o)
  array_next t (types.extension x s m) counts body r o e h = array_next t s counts body r o e h
  array_next t (types.list f) counts body r o e h =
      so_many t counts.slots r _ _ (array_is t (types.list f) counts body r e)
      (list_next t counts body r o h false f (kind_stored t ∙ ap physical_type e) (item_stored t ∙ ap item_type e) (λ u v k. item_next f Any body u v k))
  array_next t (types.large_list f) counts body r o e h =
      so_many t counts.slots r _ _ (array_is t (types.large_list f) counts body r e)
      (list_next t counts body r o h true f (kind_stored t ∙ ap physical_type e) (item_stored t ∙ ap item_type e) (λ u v k. item_next f Any body u v k))
  array_next t (types.map f b) counts body r o e h =
      so_many t counts.slots r _ _ (array_is t (types.map f b) counts body r e) (map_next t counts body r o h f b e (λ u v k. item_next f Any body u v k))
  array_next t (types.fixed_size_list f n) counts body r o e h =
      so_many t counts.slots r _ _ (array_is t (types.fixed_size_list f n) counts body r e) (sized_list_next t counts body r o h f n e (λ u v k. item_next f (Exactly (counts.slots * n)) body u v k))
  array_next t (types.struct fs) counts body r o e h =
      so_many t counts.slots r _ _ (array_is t (types.struct fs) counts body r e) (struct_next t counts body r o h fs e (λ u v k. items_next fs (Exactly counts.slots) body u v k))
  array_next t (types.union fs ids mode) counts body r o e h =
      so_many t counts.slots r _ _ (array_is t (types.union fs ids mode) counts body r e) (union_next t counts body r o h fs ids mode e (λ u v k. items_next fs (union_child_length mode counts.slots) body u v k))
  array_next t s counts body r o e h =
      so_many t counts.slots r (decoded_flat (physical_type s) t counts body r) (decoded_flat (physical_type s) t counts body o) (array_is t s counts body r e) (kind_next (physical_type s) t counts body r o (kinds_agree t s e) h)

  item_next : (f : FieldTree) (wanted : ExpectedLength) (body : List ℕ) (r o : Rest) → HasExtendedDictionaries r o → ReadTogether (IsRead r) (decoded_child f wanted body r) (decoded_child f wanted body o)
  item_next (field x s b es) wanted body r o h =
      then_part Anything r (IsRead r) (decoded_node wanted r) (decoded_node wanted o) _ _ (node_next wanted r o h)
      (λ node u v e any on. read_weaker (IsRead u) (IsRead r) (decoded_array s s node body u) (decoded_array s s node body v) (read_behind r u v on) (array_next s s node body u v refl on.grown))

  items_next : (fs : FieldTrees) (wanted : ExpectedLength) (body : List ℕ) (r o : Rest) → HasExtendedDictionaries r o → ReadTogether (AreRead r) (decoded_children fs wanted body r) (decoded_children fs wanted body o)
  items_next no_fields wanted body r o h = record { below = λ all. tt; same = tt; on = record { arrays = λ all. all; grown = h } }
  items_next (more_fields f fs) wanted body r o h =
      then_read (IsRead r) (AreRead r) (decoded_child f wanted body r) (decoded_child f wanted body o) _ _ (item_next f wanted body r o h)
      (λ x y e first. then_read (AreRead x.1) (AreRead r) (decoded_children fs wanted body x.1) (decoded_children fs wanted body y.1) _ _ (items_next fs wanted body x.1 y.1 first.on.grown)
      (λ xs ys g others. record {
        below = λ all. ((first.fits, first.below all), others.below (first.on.arrays all));
        same = (first.same, others.same);
        on = on_and_on r x.1 y.1 xs.1 ys.1 first.on others.on;
      }))

pub column_next : (t : TypeTree) (wanted : ExpectedLength) (body : List ℕ) (r o : Rest) → HasExtendedDictionaries r o → ReadTogether (IsRead r) (decoded_column t wanted body r) (decoded_column t wanted body o)
column_next t wanted body r o h =
    then_part Anything r (IsRead r) (decoded_node wanted r) (decoded_node wanted o) _ _ (node_next wanted r o h)
    (λ node u v e any on. read_weaker (IsRead u) (IsRead r) (decoded_array t t node body u) (decoded_array t t node body v) (read_behind r u v on) (array_next t t node body u v refl on.grown))

-- ---- columns

-- arrays in order
pub record AreColumnsRead (from : Rest) (x y : List Layout × Rest) : Type 0 where
  pub fits : AreAllArrays from.dictionaries → AllByRecursion IsArray x.0
  pub same : AreSameArrays x.0 y.0
  pub on : GoesOn from x.1 y.1

none_more : (r s : Rest) → HasExtendedDictionaries r s → AreColumnsRead r ([], r) ([], s)
none_more r s h = record { fits = λ all. tt; same = tt; on = record { arrays = λ all. all; grown = h } }

one_more : (from : Rest) (x y : Layout × Rest) (xs ys : List Layout × Rest) → IsRead from x y → AreColumnsRead x.1 xs ys → AreColumnsRead from (x.0 ∷ xs.0, xs.1) (y.0 ∷ ys.0, ys.1)
one_more from x y xs ys first others =
    record { fits = λ all. ((first.fits, first.below all), others.fits (first.on.arrays all)); same = (first.same, others.same); on = on_and_on from x.1 y.1 xs.1 ys.1 first.on others.on }

-- what a skipped column leaves
record IsPassed (from : Rest) (x y : ProjectionState) : Type 0 where
  more : y.more ≡ x.more
  on : GoesOn from x.rest y.rest

passed_next : (p : SkippedField) (more : List ℤ) (r s : Rest) → HasExtendedDictionaries r s → ReadTogether (IsPassed r) (skipped_column p (record { rest = r; more = more })) (skipped_column p (record { rest = s; more = more }))
unfolding skipped_column
passed_next p more r s h =
    let read : List FieldNode → List BufferSpec → Rest → Result ProjectionState IpcReadError =
    λ nodes buffers rest. skip_first NodeCount p.nodes nodes >>= λ ns. skip_first BufferCount p.buffers buffers >>= λ rs. skipped_views p.views more rs >>= λ views. Ok (record { rest = record { nodes = ns; buffers = views.0; dictionaries = rest.dictionaries }; more = views.1 }) in
    subst (λ (nodes : List FieldNode). ReadTogether (IsPassed r) (read r.nodes r.buffers r) (read nodes s.buffers s)) (sym h.nodes)
    (subst (λ (buffers : List BufferSpec). ReadTogether (IsPassed r) (read r.nodes r.buffers r) (read r.nodes buffers s)) (sym h.buffers)
    (then_same (IsPassed r) Anything (skip_first NodeCount p.nodes r.nodes) _ _ (any_read (skip_first NodeCount p.nodes r.nodes))
    (λ ns e _. then_same (IsPassed r) Anything (skip_first BufferCount p.buffers r.buffers) _ _ (any_read (skip_first BufferCount p.buffers r.buffers))
    (λ rs g _. then_same (IsPassed r) Anything (skipped_views p.views more rs) _ _ (any_read (skipped_views p.views more rs))
    (λ views k _. record { more = refl; on = record { arrays = λ all. all; grown = record { nodes = refl; buffers = refl; dictionaries = h.dictionaries } } })))))

columns_behind : (from : Rest) (u v : Rest) → GoesOn from u v → (x y : List Layout × Rest) → AreColumnsRead u x y → AreColumnsRead from x y
columns_behind from u v on x y is = record { fits = λ all. is.fits (on.arrays all); same = is.same; on = on_and_on from u v x.1 y.1 on is.on }

module _ (rows : ℕ) (body : List ℕ) where
  steps_next : (steps : List FieldAction) (columns : List TypeTree) (more : List ℤ) (r s : Rest) → HasExtendedDictionaries r s → ReadTogether (AreColumnsRead r) (decoded_steps steps columns rows body (record { rest = r; more = more })) (decoded_steps steps columns rows body (record { rest = s; more = more }))
  unfolding decoded_steps
  steps_next [] columns more r s h = none_more r s h
  steps_next (Skip p ∷ steps) columns more r s h =
      then_read (IsPassed r) (AreColumnsRead r) (skipped_column p (record { rest = r; more = more })) (skipped_column p (record { rest = s; more = more })) _ _ (passed_next p more r s h)
      (λ x y e passed. subst (λ (m : List ℤ). ReadTogether (AreColumnsRead r) (decoded_steps steps columns rows body x) (decoded_steps steps columns rows body (record { rest = y.rest; more = m }))) (sym passed.more)
      (read_weaker (AreColumnsRead x.rest) (AreColumnsRead r) (decoded_steps steps columns rows body x) (decoded_steps steps columns rows body (record { rest = y.rest; more = x.more })) (columns_behind r x.rest y.rest passed.on)
      (steps_next steps columns x.more x.rest y.rest passed.on.grown)))
  steps_next (Read ∷ steps) [] more r s h = none_more r s h
  steps_next (Read ∷ steps) (t ∷ columns) more r s h =
      then_read (IsRead r) (AreColumnsRead r) (decoded_column t (Rows rows) body r) (decoded_column t (Rows rows) body s) _ _ (column_next t (Rows rows) body r s h)
      (λ x y e first. then_read (AreColumnsRead x.1) (AreColumnsRead r) (decoded_steps steps columns rows body (record { rest = x.1; more = more })) (decoded_steps steps columns rows body (record { rest = y.1; more = more })) _ _ (steps_next steps columns more x.1 y.1 first.on.grown)
      (λ xs ys g others. one_more r x y xs ys first others))

-- both leave the same
left_same : (r s : Rest) → HasExtendedDictionaries r s → checked_exhausted r ≡ checked_exhausted s
left_same r s h = λ w. check (eqb (length (sym h.nodes w)) 0) NodeCount >>= λ nodes. check (eqb (length (sym h.buffers w)) 0) BufferCount

-- they decode to arrays if the dictionaries are arrays, and to the same ones
pub record AreReadAlike (from : Rest) (xs ys : List Layout) : Type 0 where
  pub fits : AreAllArrays from.dictionaries → AllByRecursion IsArray xs
  pub same : AreSameArrays xs ys

none_behind : {A B : Type 0} (S : A → B → Type 0) (r s : Rest) (f : Unit {0} → Result A IpcReadError) (g : Unit {0} → Result B IpcReadError) → HasExtendedDictionaries r s → ReadTogether S (f tt) (g tt) → ReadTogether S (checked_exhausted r >>= f) (checked_exhausted s >>= g)
none_behind S r s f g h next =
    subst (λ (left : Result (Unit {0}) IpcReadError). ReadTogether S (checked_exhausted r >>= f) (left >>= g)) (left_same r s h) (then_same S Anything (checked_exhausted r) f g (any_read (checked_exhausted r)) (λ x e _. next))

pub picked_next : (steps : List FieldAction) (columns : List TypeTree) (rows : ℕ) (body : List ℕ) (more : List ℤ) (r s : Rest) → HasExtendedDictionaries r s
    → ReadTogether (AreReadAlike r) (decoded_projection steps columns rows body (record { rest = r; more = more })) (decoded_projection steps columns rows body (record { rest = s; more = more }))
unfolding decoded_projection
picked_next steps columns rows body more r s h =
    then_read (AreColumnsRead r) (AreReadAlike r) (decoded_steps steps columns rows body (record { rest = r; more = more })) (decoded_steps steps columns rows body (record { rest = s; more = more })) _ _ (steps_next rows body steps columns more r s h)
    (λ x y e is. none_behind (AreReadAlike r) x.1 y.1 _ _ is.on.grown (record { fits = is.fits; same = is.same }))

-- ---- one column alone

pub grown_self : (c : Layout) → IsExtendedBy c c
grown_self c = record { logical = refl; more = []; slots = sym (append-nil (slots_of c)) }

pub all_self : (xs : List (Option Layout)) → AllExtended xs xs
all_self [] = tt
all_self (None ∷ xs) = (tt, all_self xs)
all_self (Some c ∷ xs) = (grown_self c, all_self xs)

pub over_self : (r : Rest) → HasExtendedDictionaries r r
over_self r = record { nodes = refl; buffers = refl; dictionaries = all_self r.dictionaries }

-- what it decodes to over both
pub read_too : {A B : Type 0} (R : A → B → Type 0) (r : Result A IpcReadError) (s : Result B IpcReadError) (x : A) → ReadTogether R r s → r ≡ Ok x → (y : B) × (s ≡ Ok y) × R x y
read_too R (Ok z) (Ok y) x h e = let same : z ≡ x = cc in (y, refl, subst (λ (w : _). R w y) same h)
read_too R (Ok z) (Err f) x h e = absurd h
read_too R (Err f) s x h e = cc

-- a column that decodes over dictionaries decodes over extended ones, to the same array
abbrev pub AllColumnsDecodeAlike : Type 0
AllColumnsDecodeAlike = (t : TypeTree) (wanted : ExpectedLength) (body : List ℕ) (r s : Rest) (x : Layout × Rest) → HasExtendedDictionaries r s → decoded_column t wanted body r ≡ Ok x → ColumnDecodesAlike x (decoded_column t wanted body s)

pub column_grown : AllColumnsDecodeAlike
column_grown t wanted body r s x h e =
    let found = read_too (IsRead r) (decoded_column t wanted body r) (decoded_column t wanted body s) x (column_next t wanted body r s h) e in
    record { array = found.0; is = found.1; same = found.2.same; left = found.2.on.grown }

-- a column that decodes over arrays is an array
pub column_fits : (t : TypeTree) (wanted : ExpectedLength) (body : List ℕ) (r : Rest) (x : Layout × Rest) → AreAllArrays r.dictionaries → decoded_column t wanted body r ≡ Ok x → IsArray x.0
column_fits t wanted body r x all e =
    let is = (read_too (IsRead r) (decoded_column t wanted body r) (decoded_column t wanted body r) x (column_next t wanted body r r (over_self r)) e).2 in
    (is.fits, is.below all)

-- ---- all columns

-- projected columns that decode over dictionaries decode over extended ones, to the same arrays
abbrev pub AllProjectionsDecodeAlike : Type 0
AllProjectionsDecodeAlike = (steps : List FieldAction) (columns : List TypeTree) (rows : ℕ) (body : List ℕ) (more : List ℤ) (r s : Rest) (xs : List Layout) → HasExtendedDictionaries r s → decoded_projection steps columns rows body (record { rest = r; more = more }) ≡ Ok xs
    → ColumnsDecodeAlike xs (decoded_projection steps columns rows body (record { rest = s; more = more }))

pub picked_grown : AllProjectionsDecodeAlike
picked_grown steps columns rows body more r s xs h e =
    let found = read_too (AreReadAlike r) (decoded_projection steps columns rows body (record { rest = r; more = more })) (decoded_projection steps columns rows body (record { rest = s; more = more })) xs (picked_next steps columns rows body more r s h) e in
    record { arrays = found.0; are = found.1; same = found.2.same }

abbrev pub AllBatchesDecodeAlike : Type 0
AllBatchesDecodeAlike = (columns : List TypeTree) (rows : ℕ) (body : List ℕ) (r s : Rest) (xs : List Layout) → HasExtendedDictionaries r s → decoded_columns columns rows body r ≡ Ok xs → ColumnsDecodeAlike xs (decoded_columns columns rows body s)

pub columns_grown : AllBatchesDecodeAlike
columns_grown columns rows body r s xs h e =
    let all : (rest : Rest) → decoded_projection (every_column columns) columns rows body (record { rest = rest; more = [] }) ≡ decoded_columns columns rows body rest = λ rest. projection_same columns rows body (record { rest = rest; more = [] }) in
    subst (ColumnsDecodeAlike xs) (all s) (picked_grown (every_column columns) columns rows body [] r s xs h (all r ∙ e))

-- columns that decode over arrays are arrays
pub columns_fit : (columns : List TypeTree) (rows : ℕ) (body : List ℕ) (r : Rest) (xs : List Layout) → AreAllArrays r.dictionaries → decoded_columns columns rows body r ≡ Ok xs → AllByRecursion IsArray xs
columns_fit columns rows body r xs fits e =
    let picked : Result (List Layout) IpcReadError = decoded_projection (every_column columns) columns rows body (record { rest = r; more = [] }) in
    (read_too (AreReadAlike r) picked picked xs (picked_next (every_column columns) columns rows body [] r r (over_self r)) (projection_same columns rows body (record { rest = r; more = [] }) ∙ e)).2.fits fits
