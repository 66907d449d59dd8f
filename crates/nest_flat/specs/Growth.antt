-- Builders of flat arrays: their layouts after slots are appended (this library's own).
use Rattle.std.specs.Prelude.{◌≡◌, ℕ, ◌+◌, ◌≤◌, ℤ, pos, Bool, true, false, List as Seq, [], ◌∷◌, ◌++◌, length, map, take, replicate, Option, Some, None, is_some, if◌then◌else◌, ◌⊎◌, alloc_error}
use Rattle.std.specs.Option.{unwrap_or}
use Rattle.std.specs.Iterator.{Count, IsFinite}
use Rattle.nest_memory.specs.Native.{parts_of}
use Rattle.nest_memory.specs.declared.error.Error.{Error}
use Rattle.nest_memory.specs.declared.error.Error.TheVariants.{Memory, Overflow}
use Rattle.nest_memory.specs.declared.datatypes.physical_type.PrimitiveType.{PrimitiveType}
use Rattle.nest_model.specs.Part.{Validity, begin, sliced_validity}
use Rattle.nest_model.specs.Slot.{Slot}
use Rattle.nest_model.specs.Layout.{Layout, boolean, primitive, binary, utf8, layout_type}
use Rattle.nest_model.specs.Accessors.{validity_of, with_validity}
use Rattle.nest_model.specs.Meaning.{len, slots_of}
use Rattle.nest_model.specs.Slice.{slice_layout}
use Rattle.nest_model.specs.BuilderInput.{Begins}
use Rattle.nest_model.specs.Checks.{refuse_if, first_of, is_past}

-- Validity bitmaps: the bit of one slot appended to those of n slots; the bits are allocated at the first null
abbrev pub pushed_validity : Validity → ℕ → Bool → Validity
pushed_validity None n true = None
pushed_validity None n false = Some (replicate n true ++ false ∷ [])
pushed_validity (Some bits) n valid = Some (bits ++ valid ∷ [])

-- Validity bitmaps: the bits of m slots appended to those of n slots; absent only if both are absent
abbrev pub joined_validity : Validity → ℕ → Validity → ℕ → Validity
joined_validity None n None m = None
joined_validity None n (Some more) m = Some (replicate n true ++ more)
joined_validity (Some bits) n None m = Some (bits ++ replicate m true)
joined_validity (Some bits) n (Some more) m = Some (bits ++ more)

-- the native value zero
abbrev pub zeros : PrimitiveType → Seq ℤ
zeros k = replicate (parts_of k) (pos 0)

-- Fixed-Size Primitive Layout: a boolean slot appended; the raw value of a null is false
abbrev pub pushed_boolean : Layout → Option Bool → Layout
pushed_boolean (boolean t bs va) x = boolean t (bs ++ unwrap_or x false ∷ []) (pushed_validity va (length bs) (is_some x))
pushed_boolean a x = a

-- Fixed-Size Primitive Layout: a native slot appended; the raw value of a null is zero
abbrev pub pushed_native : Layout → Option (Seq ℤ) → Layout
pushed_native (primitive k t vs va) x = primitive k t (vs ++ unwrap_or x (zeros k) ∷ []) (pushed_validity va (length vs) (is_some x))
pushed_native a x = a

-- the slots of the second array appended to those of the first, of one kind
abbrev pub joined_parts : Layout → Layout → Layout
joined_parts (boolean t bs va) (boolean u more vb) = boolean t (bs ++ more) (joined_validity va (length bs) vb (length more))
joined_parts (primitive k t vs va) (primitive j u more vb) = primitive k t (vs ++ more) (joined_validity va (length vs) vb (length more))
joined_parts a b = a

-- the layout after the items are appended in order
abbrev pub pushed_all : {A : Type 0} → (Layout → A → Layout) → Layout → Seq A → Layout
pushed_all pushed a [] = a
pushed_all pushed a (x ∷ xs) = pushed_all pushed (pushed a x) xs

-- the first error of appending the items in order
abbrev pub refusal_of_all : {A : Type 0} → (Layout → A → Layout) → (Layout → A → Option Error) → Layout → Seq A → Option Error
refusal_of_all pushed refusal a [] = None
refusal_of_all pushed refusal a (x ∷ xs) = first_of (refusal a x) (refusal_of_all pushed refusal (pushed a x) xs)

-- the items were appended in order and without error: the new layout and its slots
pub record Extended {A : Type 0} (pushed : Layout → A → Layout) (refusal : Layout → A → Option Error) (slot_of_item : A → Slot) (xs : Seq A) (old new : Layout) : Type 0 where
  pub parts : new ≡ pushed_all pushed old xs
  pub unrefused : refusal_of_all pushed refusal old xs ≡ None
  pub slots : slots_of new ≡ slots_of old ++ map slot_of_item xs

-- whether the array has a validity
abbrev pub is_masked : Layout → Bool
is_masked a = is_some (validity_of a)

-- the first n slots, with no bytes after the last of them
abbrev pub first_slots : Layout → ℕ → Layout
first_slots (binary l t os bs va) n = binary l t (take (n + 1) os) (take (begin os n) bs) (sliced_validity va 0 n)
first_slots (utf8 l t os bs va) n = utf8 l t (take (n + 1) os) (take (begin os n) bs) (sliced_validity va 0 n)
first_slots a n = slice_layout a 0 n

-- the first n slots, without a validity unless `masked`
abbrev pub rolled_back : Layout → ℕ → Bool → Layout
rolled_back a n masked = if masked then first_slots a n else with_validity (first_slots a n) None

-- the slots ss were appended, and taking them back restores the old layout
pub record Grew (ss : Seq Slot) (old new : Layout) : Type 0 where
  pub slots : slots_of new ≡ slots_of old ++ ss
  pub same_type : layout_type new ≡ layout_type old
  pub masked : is_masked old ≡ true → is_masked new ≡ true
  pub back : (n : ℕ) (m : Bool) → n ≤ len old → (m ≡ true → is_masked old ≡ true) → rolled_back new n m ≡ rolled_back old n m

-- every iterator that u turns into may be called and is finite
abbrev pub CanDrain : {U T : Type 0} → (U → T → Type 0) → (T → Type 0) → (T → Count) → U → Type 0
CanDrain {U} {T} becomes can left u = (it : T) → becomes u it → can it × IsFinite (left it)

-- the error of appending a boolean: the length exceeds a `usize`
abbrev pub boolean_refusal : Layout → Option Bool → Option Error
boolean_refusal a x = refuse_if (is_past (len a + 1)) Overflow None

-- appending a native value fails only if an allocation fails
abbrev pub native_refusal : {A : Type 0} → Layout → A → Option Error
native_refusal a x = None

-- e is the specified error, or there is none and an allocation failed
abbrev pub IsReportedError : Option Error → Error → Type 0
IsReportedError refusal e = (refusal ≡ Some e) ⊎ ((e ≡ Memory alloc_error) × (refusal ≡ None))

-- The iterator u returned the items `front`, appended without error, and then `next`, whose appending returned e.
abbrev pub RefusesBeginning : {U T A : Type 0} → (U → T → Type 0) → (T → Option A → T → Type 0) → (Layout → A → Layout) → (Layout → A → Option Error) → U → Layout → Error → Type 0
RefusesBeginning {U} {T} {A} becomes steps pushed refusal u a e =
    (front : Seq A) × (next : A) × Begins becomes steps u (front ++ next ∷ []) × (refusal_of_all pushed refusal a front ≡ None) × IsReportedError (refusal (pushed_all pushed a front) next) e
