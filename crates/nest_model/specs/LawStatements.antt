-- The statements of the longer laws, by name.
use Rattle.std.specs.Prelude.{◌≡◌, ◌↔◌, ◌⊎◌, ℕ, ◌+◌, ◌*◌, ◌<◌, Bool, true, false, List, [], ◌∷◌, ◌++◌, length, get_or, Option, Some, None}
use Rattle.nest_memory.specs.Sublist.{sublist}
use Rattle.nest_memory.specs.TypeTree.{TypeTree, size_of}
use Rattle.nest_memory.specs.declared.datatypes.IntegerType.{IntegerType}
use Rattle.nest_memory.specs.declared.datatypes.physical_type.PhysicalType.{PhysicalType}
use Rattle.nest_memory.specs.declared.datatypes.physical_type.PhysicalType.TheVariants as physical
use Rattle.nest_model.specs.Part.{Validity, valid_at, begin, extent, count_rows, to_index}
use Rattle.nest_model.specs.Layout as layouts
use Rattle.nest_model.specs.Layout.{Layout, Layouts}
use Rattle.nest_model.specs.Accessors.{validity_of, key_at}
use Rattle.nest_model.specs.Slot as slots
use Rattle.nest_model.specs.Slot.{Slot, seal}
use Rattle.nest_model.specs.Meaning.{len, first_len, slot, slots_of, where_valid}
use Rattle.nest_model.specs.Array.{TopFits}
use Rattle.nest_model.specs.SameArray.{IsSameArray}
use Rattle.nest_model.specs.BuilderRow.{Row, end_from}
use Rattle.nest_model.specs.BuilderTree as builders
use Rattle.nest_model.specs.BuilderTree.{BuilderTree, BuilderTrees, builder_len}
use Rattle.nest_model.specs.BuilderLevels.{own_slots, levels, levels_below}
use Rattle.nest_model.specs.BuilderComplete.{IsComplete}
use Rattle.nest_model.specs.BuilderItem as items
use Rattle.nest_model.specs.BuilderItem.{Item, PlainValue, takes, Lacks, position_of, seal_items}
use Rattle.nest_model.specs.BuilderAddRow.{IsReady, RowsAdded, with_rows, items_of_lengths}
use Rattle.nest_model.specs.BuilderAppend.{appended}
use Rattle.nest_model.specs.BuilderRefusals.{items_refusal}
use Rattle.nest_model.specs.BuilderFreeze.{offsets_from, row_bits, EncodesBits, EncodesKeys, EachFrozen}

-- a list's slot is null, or the list of the items from its offset to the next
abbrev pub ListSlots : Type 0
ListSlots =
    (large : Bool) (t : TypeTree) (os : List ℕ) (c : Layout) (va : Validity) (i : ℕ) → TopFits (layouts.list large t os c va) → i < count_rows os
    → slot (layouts.list large t os c va) i ≡ where_valid va i (slots.list (seal (sublist (slots_of c) (begin os i) (extent os i))))

-- a map's slot is null, or the list of the entries from its offset to the next
abbrev pub MapSlots : Type 0
MapSlots =
    (t : TypeTree) (os : List ℕ) (c : Layout) (va : Validity) (i : ℕ) → TopFits (layouts.map t os c va) → i < count_rows os
    → slot (layouts.map t os c va) i ≡ where_valid va i (slots.list (seal (sublist (slots_of c) (begin os i) (extent os i))))

-- a fixed-size list's slot is null, or the list of as many items as the size
abbrev pub FixedSizeListSlots : Type 0
FixedSizeListSlots =
    (t : TypeTree) (c : Layout) (va : Validity) (i : ℕ) → i < len (layouts.fixed_size_list t c va)
    → slot (layouts.fixed_size_list t c va) i ≡ where_valid va i (slots.list (seal (sublist (slots_of c) (i * size_of t) (size_of t))))

-- a dictionary's slot is null, or the value that its key names
abbrev pub DictionarySlots : Type 0
DictionarySlots =
    (t : TypeTree) (ks c : Layout) (i : ℕ) → TopFits (layouts.dictionary t ks c) → i < len ks
    → slot (layouts.dictionary t ks c) i ≡ where_valid (validity_of ks) i (get_or (slots_of c) (to_index (key_at ks i)) slots.null)

-- null keys represent what keys of null values represent
abbrev pub NullKeysAreNullValues : Type 0
NullKeysAreNullValues =
    (t : TypeTree) (ks ls c d : Layout) → len ks ≡ len ls
    → ((i : ℕ) → i < len ks → (valid_at (validity_of ks) i ≡ false) × (slot d (to_index (key_at ls i)) ≡ slots.null))
    → IsSameArray (layouts.dictionary t ks c) (layouts.dictionary t ls d)

-- rows of given lengths are added over exactly the items that have no row yet
abbrev pub RowsOfLengthsAreAdded : Type 0
RowsOfLengthsAreAdded =
    (ns : List (Option ℕ)) (large : Bool) (k : TypeTree) (rows : List Row) (c : BuilderTree) → IsReady (builders.list large k rows c)
    → end_from 0 rows + items_of_lengths ns ≡ builder_len c
    → RowsAdded ns (builders.list large k rows c) (with_rows ns (builders.list large k rows c))

-- a null struct adds a null to each child
abbrev pub NullStructAddsNulls : Type 0
NullStructAddsNulls =
    (k : TypeTree) (bits : List Bool) (c : BuilderTree) (cs : BuilderTrees)
    → levels_below (appended items.null (builders.struct k bits (builders.more_builders c cs)))
    ≡ levels (appended items.null c) ++ levels_below (appended items.null (builders.struct k bits cs))

-- a value that the dictionary has adds its key alone
abbrev pub KnownValueAddsKey : Type 0
KnownValueAddsKey =
    (i : IntegerType) (k : TypeTree) (keys : List (Option ℕ)) (c : BuilderTree) (v : PlainValue) (key : ℕ) → position_of v (own_slots c) ≡ Some key
    → appended (items.plain v) (builders.dictionary i k keys c) ≡ builders.dictionary i k (keys ++ Some key ∷ []) c

-- a new value is appended to the dictionary's values; its key is the number of values before
abbrev pub NewValueIsAppended : Type 0
NewValueIsAppended =
    (i : IntegerType) (k : TypeTree) (keys : List (Option ℕ)) (c : BuilderTree) (v : PlainValue) → takes c v ≡ true → Lacks c v
    → appended (items.plain v) (builders.dictionary i k keys c) ≡ builders.dictionary i k (keys ++ Some (builder_len c) ∷ []) (appended (items.plain v) c)

-- the physical types of binary values
abbrev pub IsBinary : PhysicalType → Type 0
IsBinary k = (k ≡ physical.Binary) ⊎ (k ≡ physical.LargeBinary) ⊎ (k ≡ physical.FixedSizeBinary)

-- nothing refuses these items
abbrev pub AllAccepted : List Item → BuilderTree → Type 0
AllAccepted xs t = items_refusal (seal_items xs) t ≡ None

-- a list builder freezes to its offsets and bits, over the array of its items
abbrev pub ListsFreeze : Type 0
ListsFreeze =
    (large : Bool) (t : TypeTree) (rows : List Row) (c : BuilderTree) (a : Layout) (va : Validity)
    → IsComplete (builders.list large t rows c) → slots_of a ≡ own_slots c → EncodesBits va (row_bits rows)
    → slots_of (layouts.list large t (offsets_from 0 rows) a va) ≡ own_slots (builders.list large t rows c)

-- a builder of fixed-size lists of at least one item freezes to its bits, over the array of its items
abbrev pub FixedSizeListsFreeze : Type 0
FixedSizeListsFreeze =
    (t : TypeTree) (bits : List Bool) (c : BuilderTree) (a : Layout) (va : Validity) → 0 < size_of t
    → IsComplete (builders.fixed_size_list t bits c) → slots_of a ≡ own_slots c → EncodesBits va bits
    → slots_of (layouts.fixed_size_list t a va) ≡ own_slots (builders.fixed_size_list t bits c)

-- a struct builder freezes to its bits, over the arrays of its children
abbrev pub StructsFreeze : Type 0
StructsFreeze =
    (t : TypeTree) (bits : List Bool) (cs : BuilderTrees) (parts : Layouts) (va : Validity) → first_len parts ≡ length bits
    → IsComplete (builders.struct t bits cs) → EachFrozen parts cs → EncodesBits va bits
    → slots_of (layouts.struct t parts va) ≡ own_slots (builders.struct t bits cs)

-- a dictionary builder freezes to its keys, over the array of its values
abbrev pub DictionariesFreeze : Type 0
DictionariesFreeze =
    (i : IntegerType) (t : TypeTree) (keys : List (Option ℕ)) (c : BuilderTree) (a ks : Layout)
    → IsComplete (builders.dictionary i t keys c) → slots_of a ≡ own_slots c → EncodesKeys ks keys
    → slots_of (layouts.dictionary t ks a) ≡ own_slots (builders.dictionary i t keys c)
