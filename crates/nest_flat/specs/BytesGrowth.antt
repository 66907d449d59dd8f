-- Builders of binary and UTF-8 arrays: their parts, and the parts after each call.
use Rattle.std.specs.Prelude.{◌≡◌, ◌<◌, nat_lt, ℕ, ◌+◌, List, [], ◌∷◌, ◌++◌, map, take, drop, length, Option, Some, None, is_some, Bool, false, if◌then◌else◌}
use Rattle.nest_memory.specs.declared.error.Error.{Error}
use Rattle.nest_memory.specs.declared.error.Error.TheVariants.{Overflow}
use Rattle.nest_memory.specs.TypeTree as types
use Rattle.nest_memory.specs.TypeTree.{TypeTree}
use Rattle.nest_memory.specs.Rising.{last_of}
use Rattle.nest_model.specs.Part.{Validity, count_rows, begin, extent, valid_at, sliced_validity}
use Rattle.nest_model.specs.Checks.{refuse_if}
use Rattle.nest_model.specs.Fits.{ValidityFits}
use Rattle.nest_model.specs.Array.{AreOffsets}
use Rattle.nest_model.specs.Accessors.{validity_of, offsets_of, bytes_of}
use Rattle.nest_model.specs.Layout.{Layout, binary, utf8}
use Rattle.nest_flat.specs.Growth.{pushed_validity, joined_validity}

-- Variable-size Binary Layout: offsets, bytes and validity
pub record Spans : Type 0 where
  pub offsets : List ℕ
  pub bytes : List ℕ
  pub validity : Validity

abbrev pub spans : List ℕ → List ℕ → Validity → Spans
spans os bs va = record { offsets = os; bytes = bs; validity = va }

-- no slots and no validity
abbrev pub no_spans : Spans
no_spans = spans (0 ∷ []) [] None

-- every null has no bytes
abbrev pub NullsAreBare : Validity → List ℕ → Type 0
NullsAreBare va os = (i : ℕ) → i < count_rows os → valid_at va i ≡ false → extent os i ≡ 0

-- invariant of a builder's parts: the first offset is 0, the last is the number of bytes, and every null has no bytes
pub record AreSpans (s : Spans) : Type 0 where
  pub rising : AreOffsets s.offsets
  pub first : begin s.offsets 0 ≡ 0
  pub ends : last_of s.offsets ≡ length s.bytes
  pub fits : ValidityFits s.validity (count_rows s.offsets)
  pub bare : NullsAreBare s.validity s.offsets

-- the bytes of an item; a null has none
abbrev pub item_bytes : Option (List ℕ) → List ℕ
item_bytes None = []
item_bytes (Some xs) = xs

-- the parts after a slot is appended
abbrev pub pushed_span : Option (List ℕ) → Spans → Spans
pushed_span item s = record {
  offsets = s.offsets ++ (last_of s.offsets + length (item_bytes item)) ∷ [];
  bytes = s.bytes ++ item_bytes item;
  validity = pushed_validity s.validity (count_rows s.offsets) (is_some item);
}

-- the slots of t appended to those of s
abbrev pub joined_spans : Spans → Spans → Spans
joined_spans s t = record {
  offsets = s.offsets ++ map (λ e. last_of s.offsets + e) (drop 1 t.offsets);
  bytes = s.bytes ++ t.bytes;
  validity = joined_validity s.validity (count_rows s.offsets) t.validity (count_rows t.offsets);
}

-- the first n slots
abbrev pub first_spans : ℕ → Spans → Spans
first_spans n s = record {
  offsets = take (n + 1) s.offsets;
  bytes = take (begin s.offsets n) s.bytes;
  validity = sliced_validity s.validity 0 n;
}

-- the parts without the validity
abbrev pub bare_spans : Spans → Spans
bare_spans s = spans s.offsets s.bytes None

-- the parts of a binary or UTF-8 array, and such an array with other parts
abbrev pub spans_of : Layout → Spans
spans_of a = record { offsets = offsets_of a; bytes = bytes_of a; validity = validity_of a }

abbrev pub with_spans : Layout → Spans → Layout
with_spans (binary l t os bs va) s = binary l t s.offsets s.bytes s.validity
with_spans (utf8 l t os bs va) s = utf8 l t s.offsets s.bytes s.validity
with_spans a s = a

-- the layout after an item is appended
abbrev pub pushed_item : Layout → Option (List ℕ) → Layout
pushed_item a item = with_spans a (pushed_span item (spans_of a))

-- the error of appending an item: its end exceeds the largest offset
abbrev pub item_refusal : ℕ → Layout → Option (List ℕ) → Option Error
item_refusal largest a item = refuse_if (nat_lt largest (last_of (offsets_of a) + length (item_bytes item))) Overflow None

-- the default data types of binary and UTF-8 builders, by the width of their offsets
abbrev pub binary_tree : Bool → TypeTree
binary_tree large = if large then types.large_binary else types.binary

abbrev pub text_tree : Bool → TypeTree
text_tree large = if large then types.large_utf8 else types.utf8
