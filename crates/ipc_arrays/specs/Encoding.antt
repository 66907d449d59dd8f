-- The field nodes, buffers and body of columns: those of each array, in pre-order, depth first (Arrow: "RecordBatch message").
use Rattle.std.specs.Prelude.{◌≡◌, ◌<◌, ◌≤◌, ◌^◌, ◌⊎◌, ℕ, ◌-◌, ◌*◌, ℤ, pos, Bool, true, false, not, ◌&&◌, ◌==◌, if◌then◌else◌, nat_lt, count_by, List, [], ◌∷◌, ◌++◌, ◌+◌, map, length, Option, Some, None, is_some, Ok}
use Rattle.std.specs.List.{flat_map, list_all, AllByRecursion}
use Rattle.ipc_flatbuf.specs.declared.error.IpcWriteError.{IpcWriteError}
use Rattle.ipc_flatbuf.specs.declared.error.IpcWriteError.TheVariants.{Memory, Size}
use Rattle.ipc_flatbuf.specs.declared.batch.parts.FieldNode.{FieldNode}
use Rattle.nest_memory.specs.Native.{unsigned}
use Rattle.nest_model.specs.Accessors.{validity_of, with_validity}
use Rattle.nest_model.specs.Fits.{covered}
use Rattle.nest_memory.specs.Sublist.{sublist}
use Rattle.nest_memory.specs.Physical.{primitive_tree}
use Rattle.nest_memory.specs.TypeTree.{size_of}
use Rattle.nest_model.specs.Slice.{slice_layout}
use Rattle.nest_model.specs.Layout.{Layout, Layouts, null, boolean, primitive, binary, utf8, fixed_size_binary, fixed_size_list, list as list_of, map as map_of, struct, union, dictionary, no_layouts, more_layouts, layout_type}
use Rattle.nest_model.specs.Meaning.{len}
use Rattle.nest_model.specs.Nullness.{null_count}
use Rattle.nest_model.specs.Part.{Validity, begin, sliced_validity}
use Rattle.nest_model.specs.SameArray.{IsSameArray}
use Rattle.nest_array.specs.WindowParts.{WindowParts, window_parts}
use Rattle.ipc_flatbuf.specs.Batches.{spec_all_within}
use Rattle.ipc_arrays.specs.Decoding.{validity_if_nulls, decoded_columns}
use Rattle.ipc_arrays.specs.DictionaryKeys.{zero_at_nulls}
use Rattle.ipc_arrays.specs.Bitmaps.{bitmap_bytes}
use Rattle.ipc_arrays.specs.BodyBuffers.{body_of, buffer_specs}
use Rattle.ipc_arrays.specs.FixedWidth.{ByteFormat, format_of, offset_format, type_format, values_bytes}
use Rattle.ipc_arrays.specs.declared.layout.BodyLayout.{BodyLayout}

-- the validity that is written: none if no slot is null
abbrev pub normalized_validity : Validity → Validity
normalized_validity None = None
normalized_validity (Some bits) = validity_if_nulls (count_by not bits) bits

-- offsets, rebased to start at 0
abbrev pub rebased : List ℕ → List ℕ
rebased os = map (λ n. n - begin os 0) os

-- keys as they are written: 0 at nulls
abbrev pub normalized_keys : Layout → Layout
normalized_keys (primitive k t values va) = primitive k (primitive_tree k) (zero_at_nulls va values) (normalized_validity va)
normalized_keys a = a

-- An array without children as it is written: offsets from 0 on, and only the data between the first and the last offset. The values of a
-- dictionary are not written.
abbrev pub normalized_flat : Layout → Layout
normalized_flat (binary large t os bs va) = binary large t (rebased os) (covered os bs) (normalized_validity va)
normalized_flat (utf8 large t os bs va) = utf8 large t (rebased os) (covered os bs) (normalized_validity va)
normalized_flat (dictionary t ks c) = dictionary t (normalized_keys ks) c
normalized_flat a = with_validity a (normalized_validity (validity_of a))

-- where the n slots from index o on of a sparse union begin in its children; 0 if there are none
abbrev pub sparse_begin : ℕ → ℕ → ℕ → ℕ
sparse_begin start o n = if n == 0 then 0 else start + o

-- The n slots from index o on as they are written, and as they are read: of a list or a map, the items between its offsets; of a sparse
-- union, the same slots of each child; of a dense union, whole children.
abbrev mutual
  pub normalized_slice : Layout → ℕ → ℕ → Layout
  normalized_slice (fixed_size_list t c va) o n = fixed_size_list t (normalized_slice c (o * size_of t) (n * size_of t)) (normalized_validity (sliced_validity va o n))
  normalized_slice (list_of large t os c va) o n = list_of large t (rebased (sublist os o (n + 1))) (normalized_slice c (begin os o) (begin os (o + n) - begin os o)) (normalized_validity (sliced_validity va o n))
  normalized_slice (map_of t os c va) o n = map_of t (rebased (sublist os o (n + 1))) (normalized_slice c (begin os o) (begin os (o + n) - begin os o)) (normalized_validity (sliced_validity va o n))
  normalized_slice (struct t cs va) o n = struct t (normalized_each cs o n) (normalized_validity (sliced_validity va o n))
  normalized_slice (union t ks cs None start) o n = union t (sublist ks o n) (normalized_each cs (sparse_begin start o n) n) None 0
  normalized_slice (union t ks cs (Some os) start) o n = union t (sublist ks o n) (normalized_all cs) (Some (sublist os o n)) 0
  normalized_slice a o n = normalized_flat (slice_layout a o n)

  pub normalized_each : Layouts → ℕ → ℕ → Layouts
  normalized_each no_layouts o n = no_layouts
  normalized_each (more_layouts c cs) o n = more_layouts (normalized_slice c o n) (normalized_each cs o n)

  pub normalized_all : Layouts → Layouts
  normalized_all no_layouts = no_layouts
  normalized_all (more_layouts c cs) = more_layouts (normalized_slice c 0 (len c)) (normalized_all cs)

-- a column as it is written, and as it is read
abbrev pub normalized : Layout → Layout
normalized a = normalized_slice a 0 (len a)

-- the windows over the children of an array that are written for its n slots from index o on
abbrev pub each_window : Layouts → ℕ → ℕ → List WindowParts
each_window no_layouts o n = []
each_window (more_layouts c cs) o n = window_parts c o n ∷ each_window cs o n

abbrev pub whole_windows : Layouts → List WindowParts
whole_windows no_layouts = []
whole_windows (more_layouts c cs) = window_parts c 0 (len c) ∷ whole_windows cs

abbrev pub windows_below : Layout → ℕ → ℕ → List WindowParts
windows_below (fixed_size_list t c va) o n = window_parts c (o * size_of t) (n * size_of t) ∷ []
windows_below (list_of large t os c va) o n = window_parts c (begin os o) (begin os (o + n) - begin os o) ∷ []
windows_below (map_of t os c va) o n = window_parts c (begin os o) (begin os (o + n) - begin os o) ∷ []
windows_below (struct t cs va) o n = each_window cs o n
windows_below (union t ks cs None start) o n = each_window cs (sparse_begin start o n) n
windows_below (union t ks cs (Some os) start) o n = whole_windows cs
windows_below a o n = []

abbrev pub normalized_window : WindowParts → Layout
normalized_window w = normalized_slice w.array w.offset w.count

abbrev pub validity_bytes : Validity → List ℕ
validity_bytes None = []
validity_bytes (Some bits) = bitmap_bytes bits

-- a validity buffer, empty if no slot is null
abbrev pub normalized_validity_bytes : Validity → List ℕ
normalized_validity_bytes va = validity_bytes (normalized_validity va)

abbrev pub bytes_by : Option ByteFormat → List (List ℤ) → List ℕ
bytes_by None values = []
bytes_by (Some format) values = values_bytes format values

-- an offsets buffer, of 32 or 64 bits each
abbrev pub offset_bytes : Bool → List ℕ → List ℕ
offset_bytes large os = values_bytes (offset_format large) (map unsigned os)

-- the buffers of a list or map array, without those of its child: validity and offsets
abbrev pub list_buffers : Bool → List ℕ → Validity → List (List ℕ)
list_buffers large os va = normalized_validity_bytes va ∷ offset_bytes large os ∷ []

-- the field node of an array: its length and null count
abbrev pub field_node_of : Layout → FieldNode
field_node_of a = record { length = pos (len a); null_count = pos (null_count a) }

-- a buffer of integers, one for each slot of a union
abbrev pub numbers_bytes : ByteFormat → List ℤ → List ℕ
numbers_bytes format zs = values_bytes format (map (λ z. z ∷ []) zs)

-- the buffers of keys
abbrev pub key_buffers : Layout → List (List ℕ)
key_buffers (primitive k t values va) = validity_bytes va ∷ bytes_by (format_of k) values ∷ []
key_buffers a = []

-- the buffers of an array, without those of its children; a null array has none
abbrev pub own_buffers : Layout → List (List ℕ)
own_buffers (boolean t bits va) = validity_bytes va ∷ bitmap_bytes bits ∷ []
own_buffers (primitive k t values va) = validity_bytes va ∷ bytes_by (format_of k) values ∷ []
own_buffers (fixed_size_binary t bs va) = validity_bytes va ∷ bs ∷ []
own_buffers (binary large t os bs va) = validity_bytes va ∷ offset_bytes large os ∷ bs ∷ []
own_buffers (utf8 large t os bs va) = validity_bytes va ∷ offset_bytes large os ∷ bs ∷ []
own_buffers (fixed_size_list t c va) = validity_bytes va ∷ []
own_buffers (list_of large t os c va) = validity_bytes va ∷ offset_bytes large os ∷ []
own_buffers (map_of t os c va) = validity_bytes va ∷ offset_bytes false os ∷ []
own_buffers (struct t cs va) = validity_bytes va ∷ []
own_buffers (union t ks cs None start) = numbers_bytes type_format ks ∷ []
own_buffers (union t ks cs (Some os) start) = numbers_bytes type_format ks ∷ numbers_bytes (offset_format false) os ∷ []
own_buffers (dictionary t ks c) = key_buffers ks
own_buffers a = []

-- the dictionary values of an array, if it is dictionary-encoded
abbrev pub own_dictionaries : Layout → List (Option Layout)
own_dictionaries (dictionary t ks c) = Some c ∷ []
own_dictionaries a = []

-- an array and its descendants in pre-order, without the values of dictionaries
abbrev mutual
  pub preorder : Layout → List Layout
  preorder (fixed_size_list t c va) = fixed_size_list t c va ∷ preorder c
  preorder (list_of large t os c va) = list_of large t os c va ∷ preorder c
  preorder (map_of t os c va) = map_of t os c va ∷ preorder c
  preorder (struct t cs va) = struct t cs va ∷ preorder_all cs
  preorder (union t ks cs os start) = union t ks cs os start ∷ preorder_all cs
  preorder a = a ∷ []

  pub preorder_all : Layouts → List Layout
  preorder_all no_layouts = []
  preorder_all (more_layouts c cs) = preorder c ++ preorder_all cs

-- the buffers of a binary array: validity, offsets from 0 on, and the data between them
abbrev pub string_buffers : Bool → List ℕ → List ℕ → Validity → List (List ℕ)
string_buffers large os bs va = normalized_validity_bytes va ∷ offset_bytes large (rebased os) ∷ covered os bs ∷ []

-- the buffers of an array without children
abbrev pub flat_buffers : Layout → List (List ℕ)
flat_buffers a = own_buffers (normalized_flat a)

-- the arrays of windows, in pre-order
unfoldable pub window_arrays : List WindowParts → List Layout
window_arrays windows = flat_map (λ w. preorder (normalized_window w)) windows

-- the arrays of columns, in pre-order
unfoldable pub written_arrays : List Layout → List Layout
written_arrays columns = flat_map (λ a. preorder (normalized a)) columns

unfoldable pub buffers_of : List Layout → List (List ℕ)
buffers_of arrays = flat_map own_buffers arrays

-- the dictionary values of arrays, in order
abbrev pub dictionaries_of : List Layout → List (Option Layout)
dictionaries_of [] = []
dictionaries_of (a ∷ arrays) = own_dictionaries a ++ dictionaries_of arrays

-- the body of a record batch of these columns
abbrev pub columns_body : List Layout → List ℕ
columns_body columns = body_of (buffers_of (written_arrays columns))

-- whether an array has no children, and can be written
abbrev pub is_flat_layout : Layout → Bool
is_flat_layout (null t n) = true
is_flat_layout (boolean t bits va) = true
is_flat_layout (primitive k t values va) = is_some (format_of k)
is_flat_layout (fixed_size_binary t bs va) = true
is_flat_layout (binary large t os bs va) = true
is_flat_layout (utf8 large t os bs va) = true
is_flat_layout (dictionary t ks c) = true
is_flat_layout a = false

-- whether an array can be written without regard to its children: a primitive array needs a byte format
abbrev pub is_supported : Layout → Bool
is_supported (primitive k t values va) = is_some (format_of k)
is_supported a = true

-- no length and no offset in the body is greater than 2^63 - 1
abbrev pub is_countable : Layout → Bool
is_countable a = nat_lt (len a) (2 ^ 63)

unfoldable pub fits_in_i64 : List Layout → Bool
fits_in_i64 columns = list_all is_countable (written_arrays columns) && nat_lt (length (columns_body columns)) (2 ^ 63)

-- the error of columns that are too large
unfoldable pub size_error : List Layout → Option IpcWriteError
size_error columns = if fits_in_i64 columns then None else Some Size

-- the errors of writing columns
abbrev pub IsWriteError : List Layout → IpcWriteError → Type 0
IsWriteError columns error = (error ≡ Memory) ⊎ (size_error columns ≡ Some error)

-- the errors of adding buffers that end at `long` bytes
abbrev pub IsBufferError : IpcWriteError → ℕ → Type 0
IsBufferError error long = (error ≡ Memory) ⊎ ((error ≡ Size) × (2 ^ 63 ≤ long))

-- the errors of adding buffers to a layout
abbrev pub IsLayoutError : IpcWriteError → BodyLayout → List (List ℕ) → Type 0
IsLayoutError error old buffers = IsBufferError error (old.length + length (body_of buffers))

-- the errors of adding arrays after `before` bytes: an allocation fails, or a length or the body passes 2^63 - 1
abbrev pub IsArrayError : IpcWriteError → ℕ → List Layout → Type 0
IsArrayError error before arrays = (error ≡ Memory) ⊎ ((error ≡ Size) × ((list_all is_countable arrays ≡ false) ⊎ (2 ^ 63 ≤ before + length (body_of (buffers_of arrays)))))

-- `new` is `old` with buffers appended
pub record AppendsBuffers (old new : BodyLayout) (buffers : List (List ℕ)) : Type 0 where
  pub entries : new.buffers.items ≡ old.buffers.items ++ buffer_specs old.length buffers
  pub length : new.length ≡ old.length + length (body_of buffers)
  pub small : new.length < 2 ^ 63

-- `new` is `old` with arrays appended
pub record AppendsArrays (old new : BodyLayout) (arrays : List Layout) : Type 0 where
  pub nodes : new.nodes.items ≡ old.nodes.items ++ map field_node_of arrays
  pub buffers : AppendsBuffers old new (buffers_of arrays)
  pub slots : list_all is_countable arrays ≡ true

-- the metadata of columns: the field nodes of their arrays, the offsets of their buffers, and the length of the body
pub record IsLayoutOf (columns : List Layout) (layout : BodyLayout) : Type 0 where
  pub nodes : layout.nodes.items ≡ map field_node_of (written_arrays columns)
  pub buffers : layout.buffers.items ≡ buffer_specs 0 (buffers_of (written_arrays columns))
  pub length : layout.length ≡ length (columns_body columns)
  pub small : layout.length < 2 ^ 63
  pub slots : list_all is_countable (written_arrays columns) ≡ true
  pub within : spec_all_within layout.length layout.buffers.items ≡ Ok tt

-- Columns round-trip: their body and metadata, with the values of their dictionaries, decode to arrays with the same slots.
pub record RoundTrip (columns : List Layout) : Type 0 where
  pub read : (rows : ℕ) → AllByRecursion (λ a. len a ≡ rows) columns
      → decoded_columns (map layout_type columns) rows (columns_body columns) (record { nodes = map field_node_of (written_arrays columns); buffers = buffer_specs 0 (buffers_of (written_arrays columns)); dictionaries = dictionaries_of (written_arrays columns) }) ≡ Ok (map normalized columns)
  pub same : AllByRecursion (λ a. IsSameArray a (normalized a)) columns
