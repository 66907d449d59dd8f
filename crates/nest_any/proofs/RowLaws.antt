-- The calls on rows of lists, over any child.
use Rattle.std.specs.Prelude.{◌⊎◌, ◌≢◌, ◌↔◌, ◌||◌, IsTrue, Some, nat_eq, alloc_error}
use Rattle.std.proofs.Common.{◌≡◌, ℕ, ◌+◌, ◌*◌, ◌<◌, ◌≤◌, Bool, true, false, List as Seq, [], ◌∷◌, ◌++◌, length, get_or, refl, sym, ap, ◌∙◌, inl, inr, arith}
use Rattle.std.proofs.lemmas.Bool.Decides.{Decides-eqb}
use Rattle.std.proofs.lemmas.List.{length-map}
use Rattle.std.proofs.lemmas.Nat.{mul-le}
use Rattle.nest_memory.specs.TypeTree.{TypeTree, item_type, size_of}
use Rattle.nest_memory.specs.Physical.{physical_type}
use Rattle.nest_memory.specs.Rising.{largest_offset}
use Rattle.nest_memory.specs.declared.datatypes.physical_type.PhysicalType.{PhysicalType}
use Rattle.nest_memory.specs.declared.datatypes.physical_type.PhysicalType.TheVariants as physical
use Rattle.nest_memory.specs.declared.error.Error.{Error}
use Rattle.nest_memory.specs.declared.error.Error.TheVariants.{Memory, Overflow, InvalidArgumentError}
use Rattle.nest_memory.specs.declared.error.ArgumentError.TheVariants.{ItemSize, Incomplete}
use Rattle.nest_model.specs.Checks.{Pass, FailFirst, is_past, largest_length}
use Rattle.nest_model.specs.Part.{Validity}
use Rattle.nest_model.specs.Slot as slots
use Rattle.nest_model.specs.BuilderRow.{Row, RisesFrom, row_ending, end_from}
use Rattle.nest_model.specs.BuilderTree.{BuilderTree, BuilderTrees, flat, list, fixed_size_list, dictionary, struct, no_builders, more_builders, builder_len, builder_type}
use Rattle.nest_model.specs.BuilderLevels.{own_slots}
use Rattle.nest_model.specs.BuilderFreeze.{EncodesBits, row_bits}
use Rattle.nest_model.specs.BuilderAppend.{nulls_appended}
use Rattle.nest_model.specs.BuilderAddRow.{with_row, CoversRows, row_checks}
use Rattle.nest_model.specs.BuilderAppendLaws.{nulls-zero}
use Rattle.nest_model.specs.BuilderRefusals.{bytes_pass}
use Rattle.nest_any.specs.declared.rows.TypedRows.{TypedRows}
use Rattle.nest_any.specs.declared.rows.TypedRows.TheVariants.{List, LargeList, FixedSizeList}
use Rattle.nest_any.specs.TypedRows.{Fitting, FitsOffsets, lists_over}
use Rattle.nest_build.specs.Nulled.{items-slot, size-slot, valid_or_not, lists-tell}
use Rattle.nest_build.specs.Shown.{ShowsNulls, own_slot, reserve_passes, reserve_passes_each}

-- no rows
pub no-row : {A : Type 0} (xs : Seq A) → length xs ≡ 0 → xs ≡ []
no-row [] e = refl
no-row (x ∷ xs) e = absurd (omega (arith, e))

-- which rows are null
pub list_tells : (large : Bool) (t : TypeTree) (rows : Seq Row) (c : BuilderTree) (va : Validity) → EncodesBits va (row_bits rows) → ShowsNulls va (list large t rows c)
list_tells large t rows c va s = lists-tell va (row_bits rows) (list large t rows c) s (length-map rows (λ (r : Row). r.valid)) (λ i l. items-slot 0 i rows (own_slots c) l)

pub fixed_tells : (t : TypeTree) (bits : Seq Bool) (c : BuilderTree) (va : Validity) → EncodesBits va bits → ShowsNulls va (fixed_size_list t bits c)
fixed_tells t bits c va s = lists-tell va bits (fixed_size_list t bits c) s refl (λ i l. size-slot 0 (size_of t) i bits (own_slots c) l)

pub list_valid : (large : Bool) (t : TypeTree) (rows : Seq Row) (c : BuilderTree) (i : ℕ) (b : Bool) → i < length rows → b ≡ get_or (row_bits rows) i true → IsTrue b ↔ (own_slot (list large t rows c) i ≢ slots.null)
list_valid large t rows c i b l e =
    let y = items-slot 0 i rows (own_slots c) l in
    valid_or_not (get_or (row_bits rows) i true) b _ y.0 y.1 e

pub fixed_valid : (t : TypeTree) (bits : Seq Bool) (c : BuilderTree) (i : ℕ) (b : Bool) → i < length bits → b ≡ get_or bits i true → IsTrue b ↔ (own_slot (fixed_size_list t bits c) i ≢ slots.null)
fixed_valid t bits c i b l e =
    let y = size-slot 0 (size_of t) i bits (own_slots c) l in
    valid_or_not (get_or bits i true) b _ y.0 y.1 e

-- a child that has exactly the items of the rows
pub list_fits : (t : TypeTree) (rows : Seq Row) (c : BuilderTree) (u : TypeTree) (count last : ℕ) → item_type t ≡ Some u → u ≡ builder_type c → count ≡ builder_len c → last ≡ end_from 0 rows → RisesFrom 0 rows → IsTrue (nat_eq count last) ↔ FitsOffsets t rows c
list_fits t rows c u count last i e n l r =
    (λ h. (i ∙ ap Some e, sym n ∙ (Decides-eqb count last).0 h ∙ l, r), λ w. (Decides-eqb count last).1 (n ∙ w.1 ∙ sym l))

pub fixed_fits : (t : TypeTree) (bits : Seq Bool) (c : BuilderTree) (u : TypeTree) (count end : ℕ) → item_type t ≡ Some u → u ≡ builder_type c → count ≡ builder_len c → end ≡ length bits * size_of t → IsTrue (nat_eq count end) ↔ ((item_type t ≡ Some (builder_type c)) × (builder_len c ≡ length bits * size_of t))
fixed_fits t bits c u count end i e n l =
    (λ h. (i ∙ ap Some e, sym n ∙ (Decides-eqb count end).0 h ∙ l), λ w. (Decides-eqb count end).1 (n ∙ w.1 ∙ sym l))

fitting-typed : (r : TypedRows) (c : BuilderTree) → Fitting r c → item_type (builder_type (lists_over r c)) ≡ Some (builder_type c)
fitting-typed (List t rows) c w = w.0
fitting-typed (LargeList t rows) c w = w.0
fitting-typed (FixedSizeList t bits) c w = w.0

pub not_fitting : (r : TypedRows) (c : BuilderTree) (b : Bool) (t u : TypeTree) → (IsTrue b ↔ (item_type t ≡ Some u)) → t ≡ builder_type (lists_over r c) → u ≡ builder_type c → b ≡ false → IsTrue b ↔ Fitting r c
not_fitting r c b t u k e f h =
    (λ x. let z : true ≡ false = sym x ∙ h in cc, λ w. k.1 (ap item_type e ∙ fitting-typed r c w ∙ ap Some (sym f)))

-- a null row
pub list_null : (large : Bool) (t : TypeTree) (rows new : Seq Row) (c : BuilderTree) (end : ℕ) → end ≡ end_from 0 rows → new ≡ rows ++ row_ending false end ∷ [] → list large t new (nulls_appended 0 c) ≡ nulls_appended 1 (list large t rows c)
list_null large t rows new c end e f = rw (f, e, nulls-zero c) refl

pub fixed_null : (t : TypeTree) (bits new : Seq Bool) (c : BuilderTree) → new ≡ bits ++ false ∷ [] → fixed_size_list t new (nulls_appended (size_of t) c) ≡ nulls_appended 1 (fixed_size_list t bits c)
fixed_null t bits new c f =
    let o : size_of t ≡ 1 * size_of t = omega arith in
    rw f (ap (λ n. fixed_size_list t (bits ++ false ∷ []) (nulls_appended n c)) o)

pub null_memory : (largest end n : ℕ) (e : Error) → end ≤ largest → (e ≡ Memory alloc_error) ⊎ ((e ≡ Overflow) × (largest < end)) → (e ≡ Memory alloc_error) ⊎ ((e ≡ Overflow) × (largest_length < n))
null_memory largest end n e l (inl m) = inl m
null_memory largest end n e l (inr p) = absurd (omega (arith, l, p.1))

-- an added row of a list with offsets
pub list_covers : (t : TypeTree) (rows : Seq Row) (c : BuilderTree) (u : TypeTree) (end : ℕ) → item_type t ≡ Some u → u ≡ builder_type c → end_from 0 rows ≤ end → end ≡ builder_len c → CoversRows t rows c
list_covers t rows c u end i e l n = (i ∙ ap Some e, omega (arith, l, n))

pub list_row_added : (valid large : Bool) (t : TypeTree) (rows new : Seq Row) (c : BuilderTree) (end : ℕ) → end ≡ builder_len c → new ≡ rows ++ row_ending valid end ∷ [] → list large t new c ≡ with_row valid (list large t rows c)
list_row_added valid large t rows new c end e f = ap (λ rs. list large t rs c) (f ∙ ap (λ n. rows ++ row_ending valid n ∷ []) e)

pub list_passed : (large : Bool) (t : TypeTree) (rows : Seq Row) (c : BuilderTree) (end : ℕ) → end ≡ builder_len c → (length rows + 1 ≤ largest_length) × (end ≤ largest_offset large) → CoversRows t rows c → Pass (row_checks (list large t rows c))
list_passed large t rows c end n l h = (h, ((l.0, omega (arith, l.1, n)), tt))

pub list_refused : (large : Bool) (t : TypeTree) (rows : Seq Row) (c : BuilderTree) (end : ℕ) (e : Error) → end ≡ builder_len c → CoversRows t rows c → (e ≡ Memory alloc_error) ⊎ ((e ≡ Overflow) × (largest_offset large < end))
    → (e ≡ Memory alloc_error) ⊎ FailFirst e (row_checks (list large t rows c))
list_refused large t rows c end e n h (inl p) = inl p
list_refused large t rows c end e n h (inr p) = rw p.0 (inr (h, λ q. omega (arith, p.1, q.1, n)))

-- an added row of a fixed-size list
pub fixed_passed : (t : TypeTree) (bits : Seq Bool) (c : BuilderTree) → item_type t ≡ Some (builder_type c) → builder_len c ≡ (length bits + 1) * size_of t → Pass (row_checks (fixed_size_list t bits c))
fixed_passed t bits c i n = ((i, omega (arith, n)), (omega (arith, n), tt))

pub fixed_unfinished : (t : TypeTree) (bits : Seq Bool) (c : BuilderTree) → (item_type t ≡ Some (builder_type c) → (length bits + 1) * size_of t ≤ builder_len c → ⊥) → FailFirst (InvalidArgumentError Incomplete) (row_checks (fixed_size_list t bits c))
fixed_unfinished t bits c h = λ q. h q.0 q.1

pub fixed_too_many : (t : TypeTree) (bits : Seq Bool) (c : BuilderTree) → item_type t ≡ Some (builder_type c) → (length bits + 1) * size_of t < builder_len c → FailFirst (InvalidArgumentError ItemSize) (row_checks (fixed_size_list t bits c))
fixed_too_many t bits c i l = ((i, omega (arith, l)), λ q. omega (arith, l, q))

-- the number of rows is at most the number of their items
pub rows-below : (n size : ℕ) → 0 < size → n ≤ n * size
rows-below n size s = omega (arith, mul-le n 1 n size (omega arith) (omega arith))

-- a row whose items are pending is refused only if an allocation fails
pub fixed_memory : (n size count : ℕ) (e : Error) → 0 < size → count ≤ largest_length → count ≡ n * size → (e ≡ Memory alloc_error) ⊎ ((e ≡ Overflow) × (largest_length < n)) → e ≡ Memory alloc_error
fixed_memory n size count e s l c (inl m) = m
fixed_memory n size count e s l c (inr p) = absurd (omega (arith, p.1, l, c, rows-below n size s))

-- no more rows exceed no limit
bytes-none : (p : PhysicalType) → bytes_pass p 0 0 ≡ false
bytes-none physical.Null = refl
bytes-none physical.Boolean = refl
bytes-none (physical.Primitive k) = refl
bytes-none physical.Binary = refl
bytes-none physical.FixedSizeBinary = refl
bytes-none physical.LargeBinary = refl
bytes-none physical.Utf8 = refl
bytes-none physical.LargeUtf8 = refl
bytes-none physical.List = refl
bytes-none physical.FixedSizeList = refl
bytes-none physical.LargeList = refl
bytes-none physical.Struct = refl
bytes-none physical.Union = refl
bytes-none physical.Map = refl
bytes-none (physical.Dictionary k) = refl

mutual
  pub reserve-none : (c : BuilderTree) → reserve_passes 0 c ≡ false
  reserve-none (flat t xs) =
      let z : 0 * size_of t ≡ 0 = omega arith in
      ap (λ n. bytes_pass (physical_type t) n 0) z ∙ bytes-none (physical_type t)
  reserve-none (list large t rows c) = refl
  reserve-none (fixed_size_list t bits c) =
      let z : 0 * size_of t ≡ 0 = omega arith in
      ap (λ n. is_past n || reserve_passes n c) z ∙ reserve-none c
  reserve-none (dictionary k t keys c) = refl
  reserve-none (struct t bits cs) = reserve-none-each cs

  reserve-none-each : (cs : BuilderTrees) → reserve_passes_each 0 cs ≡ false
  reserve-none-each no_builders = refl
  reserve-none-each (more_builders c cs) = rw (reserve-none c) (reserve-none-each cs)
