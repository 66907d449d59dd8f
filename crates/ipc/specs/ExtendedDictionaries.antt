-- Dictionaries that are extended: others have the same slots first, and maybe more.
use Rattle.std.specs.Prelude.{◌≡◌, ℤ, List, Option, Some, None, Result, Ok, Err}
use Rattle.std.specs.List.{AllByRecursion, AllZip}
use Rattle.ipc_flatbuf.specs.declared.error.IpcReadError.{IpcReadError}
use Rattle.nest_model.specs.Array.{IsArray}
use Rattle.nest_model.specs.Layout.{Layout}
use Rattle.nest_model.specs.SameArray.{IsSameArray}
use Rattle.ipc_arrays.specs.Decoding.{Rest}
use Rattle.ipc_arrays.specs.ReplacedValues.{IsExtendedBy}
use Rattle.ipc.specs.Streams.{Known, StateTree, RecordBatchTree, known_at}
use Rattle.ipc.specs.EncodedStreams.{IsSameBatch}

-- values may be extended; where there are none, there may be some
abbrev pub IsExtended : Option Layout → Option Layout → Type 0
IsExtended None o = Unit {0}
IsExtended (Some c) None = ⊥
IsExtended (Some c) (Some d) = IsExtendedBy c d

abbrev pub AllExtended : List (Option Layout) → List (Option Layout) → Type 0
AllExtended xs ys = AllZip IsExtended xs ys

-- the same field nodes and buffers, over extended dictionaries
pub record HasExtendedDictionaries (r s : Rest) : Type 0 where
  pub nodes : s.nodes ≡ r.nodes
  pub buffers : s.buffers ≡ r.buffers
  pub dictionaries : AllExtended r.dictionaries s.dictionaries

-- all values are arrays
abbrev pub HoldsArray : Option Layout → Type 0
HoldsArray None = Unit {0}
HoldsArray (Some c) = IsArray c

abbrev pub AreAllArrays : List (Option Layout) → Type 0
AreAllArrays xs = AllByRecursion HoldsArray xs

-- where the first decodes, the second decodes too, and their results are related
abbrev pub ReadTogether : {A B : Type 0} → (A → B → Type 0) → Result A IpcReadError → Result B IpcReadError → Type 0
ReadTogether R (Ok x) (Ok y) = R x y
ReadTogether R (Ok x) (Err e) = ⊥
ReadTogether R (Err e) read = Unit {0}

-- the same arrays in order
abbrev pub AreSameArrays : List Layout → List Layout → Type 0
AreSameArrays xs ys = AllZip IsSameArray xs ys

-- a column decodes to the same array, with the rest over extended dictionaries
pub record ColumnDecodesAlike (x : Layout × Rest) (read : Result (Layout × Rest) IpcReadError) : Type 0 where
  pub array : Layout × Rest
  pub is : read ≡ Ok array
  pub same : IsSameArray x.0 array.0
  pub left : HasExtendedDictionaries x.1 array.1

-- columns decode to the same arrays
pub record ColumnsDecodeAlike (xs : List Layout) (read : Result (List Layout) IpcReadError) : Type 0 where
  pub arrays : List Layout
  pub are : read ≡ Ok arrays
  pub same : AreSameArrays xs arrays

-- ---- known dictionaries

-- the values of each id may be extended
abbrev pub KnowsMore : Known → Known → Type 0
KnowsMore known more = (id : ℤ) → IsExtended (known_at known id) (known_at more id)

abbrev pub HasArrays : Known → Type 0
HasArrays known = (id : ℤ) → HoldsArray (known_at known id)

-- a later state: of the same projection, with extended dictionaries
pub record IsLater (s t : StateTree) : Type 0 where
  pub picked : t.picked ≡ s.picked
  pub grows : KnowsMore s.known t.known
  pub arrays : HasArrays t.known

-- a record batch decodes to the same rows of the same arrays
pub record BatchDecodesAlike (b : RecordBatchTree) (read : Result RecordBatchTree IpcReadError) : Type 0 where
  pub batch : RecordBatchTree
  pub is : read ≡ Ok batch
  pub same : IsSameBatch b batch
