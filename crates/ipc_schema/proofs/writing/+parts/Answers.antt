use Rattle.std.proofs.Common.{◌≡◌, ◌≤◌, ◌+◌, ◌-◌, ◌++◌, ◌∷◌, List, [], ℕ, length, map, drop, sym, ap, ◌∙◌, subst, refl, arith}
use Rattle.std.specs.List.{AllByRecursion}
use Rattle.std.proofs.lemmas.List.{append-nil, length-append, map_push}
use Rattle.std.proofs.lemmas.Result.{err_from_is_err_and}
use Rattle.std.specs.Global.{Vec}
use Rattle.nest_memory.specs.TypeOf.{field_of}
use Rattle.nest_memory.specs.TypeTree.{TypeTree, FieldTree, field_type}
use Rattle.ipc_flatbuf.specs.PartBytes.{concatenated, bytes_of_each, table_vector_bytes}
use Rattle.ipc_flatbuf.specs.VectorLaws.{table_vector_is_long}
use Rattle.ipc_flatbuf.specs.WriteErrors.{size_error_of_whole}
use Rattle.ipc_schema.specs.Extensions.{spec_table_type}
use Rattle.ipc_schema.specs.Types.{spec_children_of}
use Rattle.ipc_schema.specs.WriteChecks.{spec_check_field}
use Rattle.ipc_schema.specs.DictionaryIds.{spec_encoding_of, next_after_own, total, count_dictionaries}
use Rattle.ipc_schema.specs.SchemaBytes.{field_bytes, each_bytes}
use Rattle.ipc_schema.specs.FieldLaws.{FieldFits, form_is, own_type, table_bytes, field_counts}
use Rattle.ipc_schema.proofs.Fields.{form_next, parts_more, made_left, counts_left, nothing_counted, nothing_made, fits_more}
use Rattle.ipc_schema.proofs.Levels.{deep_is, forms_are, bytes_level, behind_level, fits_level, inner_long}
use Rattle.ipc_schema.proofs.writing.+parts.Goals as goal

together_long : (xs ys : List (List ℕ)) → length (concatenated (xs ++ ys)) ≡ length (concatenated xs) + length (concatenated ys)
unfolding concatenated
together_long [] ys = omega arith
together_long (x ∷ xs) ys = omega (arith, length-append x (concatenated (xs ++ ys)), length-append x (concatenated xs), together_long xs ys)

first_long : (x : List ℕ) (xs : List (List ℕ)) → length (concatenated (x ∷ xs)) ≡ length x + length (concatenated xs)
unfolding concatenated
first_long x xs = length-append x (concatenated xs)

last_long : (xs : List (List ℕ)) (y : List ℕ) → length (concatenated (xs ++ y ∷ [])) ≡ length (concatenated xs) + length y
unfolding concatenated
last_long [] y = omega (arith, length-append y [])
last_long (x ∷ xs) y = omega (arith, length-append x (concatenated (xs ++ y ∷ [])), length-append x (concatenated xs), last_long xs y)

pub field_parts_of-returns-in_err-part-clause-size : goal.field_parts_of-returns-in_err-part-clause-size
field_parts_of-returns-in_err-part-clause-size t c =
    let p = err_from_is_err_and c.from_residual.result c.from_residual.ensures.1 in
    let fs = c.args.fields.now in
    let i = c.loop-field.field-index in
    let f = c.field-item.result in
    let depth : ℕ = c.args.depth in
    let next : ℕ = c.loop-field.behind in
    let own : List ℕ = field_bytes depth next (field_of f) in
    let front : List (List ℕ) = bytes_of_each c.loop-field.parts.items in
    let rest : List (List ℕ) = each_bytes depth (next + count_dictionaries depth (field_of f)) (map field_of (drop (i + 1) fs)) in
    let all : front ++ own ∷ rest ≡ each_bytes depth c.args.next (map field_of fs) =
    ap (λ (l : List (List ℕ)). front ++ l) (sym (made_left (count_dictionaries depth) (field_bytes depth) next fs i f c.loop-field-test.true c.field-item.is)) ∙ c.loop-field.invariant.parts in
    let le : next + length own ≤ c.args.next + length (concatenated (each_bytes depth c.args.next (map field_of fs))) =
    omega (arith, ap (λ (l : List (List ℕ)). length (concatenated l)) all, together_long front (own ∷ rest), first_long own rest, c.loop-field.invariant.long) in
    rw (p.1, p.2) (size_error_of_whole _ _ _ le c.in_err-part.ensures.size)

pub field_parts_of-loop-field-preserved : goal.field_parts_of-loop-field-preserved
field_parts_of-loop-field-preserved t c =
    let fs = c.args.fields.now in
    let i = c.loop-field.field-index in
    let f = c.field-item.result in
    let lt = c.loop-field-test.true in
    let is = c.field-item.is in
    let depth : ℕ = c.args.depth in
    let next : ℕ = c.loop-field.behind in
    let count : FieldTree → ℕ = count_dictionaries depth in
    let own : List ℕ = field_bytes depth next (field_of f) in
    let after : c.in_ok-part.after ≡ next + count (field_of f) = c.in_ok-part.ensures.behind in
    let part : c.in_ok-part.part.items ≡ own = c.in_ok-part.ensures.ok in
    let front : List (List ℕ) = bytes_of_each c.loop-field.parts.items in
    let rest : List (List ℕ) = each_bytes depth (next + count (field_of f)) (map field_of (drop (i + 1) fs)) in
    let so_far : front ++ own ∷ rest ≡ each_bytes depth c.args.next (map field_of fs) = ap (λ (l : List (List ℕ)). front ++ l) (sym (made_left count (field_bytes depth) next fs i f lt is)) ∙ c.loop-field.invariant.parts in
    let pushed : bytes_of_each c.push.new.self.items ≡ front ++ c.in_ok-part.part.items ∷ [] = rw c.in_ok-push.ensures.items (map_push (λ (p : Vec ℕ). p.items) c.loop-field.parts.items c.in_ok-part.part) in
    record {
      form = (form_next (spec_check_field depth) fs i f lt is c.loop-field.invariant.form).1;
      behind = omega (arith, after, c.loop-field.invariant.behind, counts_left count fs i f lt is);
      parts = rw (c.in_ok-push.ensures.items, after) (parts_more c.loop-field.parts.items c.in_ok-part.part own rest _ part so_far);
      long = omega (arith, after, ap length part, ap (λ (l : List (List ℕ)). length (concatenated l)) pushed, last_long front c.in_ok-part.part.items, field_counts depth (field_of f) next, c.loop-field.invariant.long);
      fits = fits_more (FieldFits depth) fs i f lt is c.in_ok-part.ensures.fits c.loop-field.invariant.fits;
    }

pub field_parts_of-field_part-requires : goal.field_parts_of-field_part-requires
field_parts_of-field_part-requires t c =
    let form = form_next (spec_check_field c.args.depth) c.args.fields.now c.loop-field.field-index c.field-item.result c.loop-field-test.true c.field-item.is c.loop-field.invariant.form in
    (omega (arith, c.decreases), form.0)

pub field_parts_of-returns-clause-ok : goal.field_parts_of-returns-clause-ok
field_parts_of-returns-clause-ok t c =
    let count : FieldTree → ℕ = count_dictionaries c.args.depth in
    let none = nothing_made count (field_bytes c.args.depth) c.loop-field.behind c.args.fields.now c.loop-field.field-index c.loop-field-test.false in
    sym (append-nil (bytes_of_each c.loop-field.parts.items)) ∙ ap (λ (l : List (List ℕ)). bytes_of_each c.loop-field.parts.items ++ l) (sym none) ∙ c.loop-field.invariant.parts

pub field_parts_of-returns-clause-behind : goal.field_parts_of-returns-clause-behind
field_parts_of-returns-clause-behind t c =
    omega (arith, nothing_counted (count_dictionaries c.args.depth) c.args.fields.now c.loop-field.field-index c.loop-field-test.false, c.loop-field.invariant.behind)

-- ---- one field

pub field_part-overflow_sub-depth : goal.field_part-overflow_sub-depth
field_part-overflow_sub-depth t c = omega (arith, deep_is c.args.depth (field_of c.args.field.now) c.requires)

pub field_part-field_parts_of-requires : goal.field_part-field_parts_of-requires
field_part-field_parts_of-requires t c =
    let f = field_of c.args.field.now in
    let deep = deep_is c.args.depth f c.requires in
    let kids : map field_of c.children_of-children.result.now ≡ spec_children_of (own_type f) = c.children_of-children.ensures ∙ ap spec_children_of (c.table_type.ensures ∙ ap spec_table_type c.data_type-data_type.ensures) in
    (omega (arith, deep, c.decreases), rw kids (forms_are c.args.depth f c.requires).1)

pub field_part-returns-in_err-parts-clause-size : goal.field_part-returns-in_err-parts-clause-size
field_part-returns-in_err-parts-clause-size t c =
    let p = err_from_is_err_and c.from_residual-in_err-parts.result c.from_residual-in_err-parts.ensures.1 in
    let f = field_of c.args.field.now in
    let deep = deep_is c.args.depth f c.requires in
    let kids : map field_of c.children_of-children.result.now ≡ spec_children_of (own_type f) = c.children_of-children.ensures ∙ ap spec_children_of (c.table_type.ensures ∙ ap spec_table_type c.data_type-data_type.ensures) in
    let inner : c.in_ok-dictionary.inner ≡ next_after_own (field_type f) c.args.next = c.in_ok-dictionary.ensures.ok.1 ∙ ap (λ (t : TypeTree). next_after_own t c.args.next) c.data_type-data_type.ensures in
    let bytes : ℕ → List FieldTree → List (List ℕ) = each_bytes (c.args.depth - 1) in
    let le : length (concatenated (bytes c.in_ok-dictionary.inner (map field_of c.children_of-children.result.now))) ≡ length (concatenated (bytes (next_after_own (field_type f) c.args.next) (spec_children_of (own_type f)))) = λ i. length (concatenated (bytes (inner i) (kids i))) in
    rw (p.1, p.2) (size_error_of_whole _ _ _ (omega (arith, le, inner, inner_long c.args.depth c.args.next f deep, table_vector_is_long 24 (bytes (next_after_own (field_type f) c.args.next) (spec_children_of (own_type f))))) c.in_err-parts.ensures.size)

pub field_part-returns-in_err-write_tables-clause-size : goal.field_part-returns-in_err-write_tables-clause-size
field_part-returns-in_err-write_tables-clause-size t c =
    let p = err_from_is_err_and c.from_residual-in_err-write_tables.result c.from_residual-in_err-write_tables.ensures.1 in
    let f = field_of c.args.field.now in
    let deep = deep_is c.args.depth f c.requires in
    let kids : map field_of c.children_of-children.result.now ≡ spec_children_of (own_type f) = c.children_of-children.ensures ∙ ap spec_children_of (c.table_type.ensures ∙ ap spec_table_type c.data_type-data_type.ensures) in
    let inner : c.in_ok-dictionary.inner ≡ next_after_own (field_type f) c.args.next = c.in_ok-dictionary.ensures.ok.1 ∙ ap (λ (t : TypeTree). next_after_own t c.args.next) c.data_type-data_type.ensures in
    let row : table_vector_bytes 24 (bytes_of_each c.deref.result.now) ≡ table_vector_bytes 24 (each_bytes (c.args.depth - 1) (next_after_own (field_type f) c.args.next) (spec_children_of (own_type f))) = rw (c.deref.ensures.value, c.in_ok-parts.ensures.ok, inner, kids) refl in
    rw (p.1, p.2) (size_error_of_whole _ _ _ (omega (arith, ap length row, inner_long c.args.depth c.args.next f deep)) c.in_err-write_tables.ensures.size)

pub field_part-field_part_over-requires : goal.field_part-field_part_over-requires
field_part-field_part_over-requires t c =
    let f = field_of c.args.field.now in
    form_is f (forms_are c.args.depth f c.requires).0

pub field_part-returns-in_err-part-clause-size : goal.field_part-returns-in_err-part-clause-size
field_part-returns-in_err-part-clause-size t c =
    let p = err_from_is_err_and c.from_residual-in_err-part.result c.from_residual-in_err-part.ensures.1 in
    let f = field_of c.args.field.now in
    let deep = deep_is c.args.depth f c.requires in
    let kids : map field_of c.children_of-children.result.now ≡ spec_children_of (own_type f) = c.children_of-children.ensures ∙ ap spec_children_of (c.table_type.ensures ∙ ap spec_table_type c.data_type-data_type.ensures) in
    let inner : c.in_ok-dictionary.inner ≡ next_after_own (field_type f) c.args.next = c.in_ok-dictionary.ensures.ok.1 ∙ ap (λ (t : TypeTree). next_after_own t c.args.next) c.data_type-data_type.ensures in
    let dictionary : c.in_ok-dictionary.dictionary ≡ spec_encoding_of c.args.next (field_type f) = c.in_ok-dictionary.ensures.ok.0 ∙ ap (λ (t : TypeTree). spec_encoding_of c.args.next t) c.data_type-data_type.ensures in
    let row : c.deref-2.result.now ≡ table_vector_bytes 24 (each_bytes (c.args.depth - 1) (next_after_own (field_type f) c.args.next) (spec_children_of (own_type f))) = rw (c.deref-2.ensures.value, c.in_ok-write_tables.ensures.ok, c.new-row.ensures.items, c.deref.ensures.value, c.in_ok-parts.ensures.ok, inner, kids) refl in
    let same : table_bytes c.in_ok-dictionary.dictionary f c.deref-2.result.now ≡ field_bytes c.args.depth c.args.next f = (λ i. table_bytes (dictionary i) f (row i)) ∙ sym (bytes_level c.args.depth c.args.next f deep) in
    rw (p.1, p.2) (size_error_of_whole _ _ _ (omega (arith, ap length same)) c.in_err-part.ensures.size)

pub field_part-returns-clause-ok : goal.field_part-returns-clause-ok
field_part-returns-clause-ok t c =
    let f = field_of c.args.field.now in
    let deep = deep_is c.args.depth f c.requires in
    let kids : map field_of c.children_of-children.result.now ≡ spec_children_of (own_type f) = c.children_of-children.ensures ∙ ap spec_children_of (c.table_type.ensures ∙ ap spec_table_type c.data_type-data_type.ensures) in
    let inner : c.in_ok-dictionary.inner ≡ next_after_own (field_type f) c.args.next = c.in_ok-dictionary.ensures.ok.1 ∙ ap (λ (t : TypeTree). next_after_own t c.args.next) c.data_type-data_type.ensures in
    let dictionary : c.in_ok-dictionary.dictionary ≡ spec_encoding_of c.args.next (field_type f) = c.in_ok-dictionary.ensures.ok.0 ∙ ap (λ (t : TypeTree). spec_encoding_of c.args.next t) c.data_type-data_type.ensures in
    let row : c.deref-2.result.now ≡ table_vector_bytes 24 (each_bytes (c.args.depth - 1) (next_after_own (field_type f) c.args.next) (spec_children_of (own_type f))) = rw (c.deref-2.ensures.value, c.in_ok-write_tables.ensures.ok, c.new-row.ensures.items, c.deref.ensures.value, c.in_ok-parts.ensures.ok, inner, kids) refl in
    c.in_ok-part.ensures.ok ∙ (λ i. table_bytes (dictionary i) f (row i)) ∙ sym (bytes_level c.args.depth c.args.next f deep)

pub field_part-returns-clause-behind : goal.field_part-returns-clause-behind
field_part-returns-clause-behind t c =
    let f = field_of c.args.field.now in
    let deep = deep_is c.args.depth f c.requires in
    let kids : map field_of c.children_of-children.result.now ≡ spec_children_of (own_type f) = c.children_of-children.ensures ∙ ap spec_children_of (c.table_type.ensures ∙ ap spec_table_type c.data_type-data_type.ensures) in
    let inner : c.in_ok-dictionary.inner ≡ next_after_own (field_type f) c.args.next = c.in_ok-dictionary.ensures.ok.1 ∙ ap (λ (t : TypeTree). next_after_own t c.args.next) c.data_type-data_type.ensures in
    c.in_ok-parts.ensures.behind ∙ (λ i. inner i + total (count_dictionaries (c.args.depth - 1)) (kids i)) ∙ behind_level c.args.depth c.args.next f deep

pub field_part-returns-clause-fits : goal.field_part-returns-clause-fits
field_part-returns-clause-fits t c =
    let f = field_of c.args.field.now in
    let deep = deep_is c.args.depth f c.requires in
    let kids : map field_of c.children_of-children.result.now ≡ spec_children_of (own_type f) = c.children_of-children.ensures ∙ ap spec_children_of (c.table_type.ensures ∙ ap spec_table_type c.data_type-data_type.ensures) in
    let inner : AllByRecursion (FieldFits (c.args.depth - 1)) (spec_children_of (own_type f)) = subst (λ (fs : List FieldTree). AllByRecursion (FieldFits (c.args.depth - 1)) fs) kids c.in_ok-parts.ensures.fits in
    let h = c.in_ok-part.ensures.fits in
    fits_level c.args.depth f deep h.0 h.1 h.2 h.3 inner
