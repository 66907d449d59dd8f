-- Skipping the buffers of arrays, by data type.
use Rattle.std.proofs.Common.{◌≡◌, ℕ, ◌+◌, ◌<◌, ◌≤◌, Bool, true, false, leb, List, ◌∷◌, length, get_or, drop, Result, Ok, Err, refl, sym, ap, ◌∙◌, subst, arith}
use Rattle.std.specs.Prelude.{Option, Some, None}
use Rattle.std.proofs.lemmas.Bool.{leb-true, leb-false, le-leb, lt-leb}
use Rattle.std.proofs.lemmas.List.{length-drop, drop-drop, drop_more, drop_all}
use Rattle.ipc_flatbuf.specs.declared.error.IpcReadError.{IpcReadError}
use Rattle.ipc_flatbuf.specs.declared.error.IpcReadError.TheVariants.{BufferCount}
use Rattle.ipc_flatbuf.specs.declared.batch.parts.BufferSpec.{BufferSpec}
use Rattle.ipc_flatbuf.specs.ReadResults.{◌>>=◌, Returns}
use Rattle.nest_memory.specs.Physical.{physical_type}
use Rattle.nest_memory.specs.TypeOf.{field_of, field_list_of}
use Rattle.nest_memory.specs.TypeTree as types
use Rattle.nest_memory.specs.TypeTree.{TypeTree, FieldTree, FieldTrees, field, more_fields, field_type}
use Rattle.nest_memory.specs.declared.datatypes.field.Field.{Field}
use Rattle.ipc_arrays.specs.Projection.{skip_first}
use Rattle.ipc_arrays.specs.NestedDecoding.{is_flat_type, inner_type}
use Rattle.ipc_arrays.specs.BufferCounts.{spec_flat_buffer_count, buffer_count, child_buffer_count, children_buffer_count, array_skipped, child_skipped, children_skipped}

abbrev Skipped : Type 0
Skipped = Result (List BufferSpec) IpcReadError

-- ---- some, and then more

rest_fits : (n m : ℕ) (bs : List BufferSpec) (b : Bool) → n ≤ length bs → leb m (length (drop n bs)) ≡ b → leb (n + m) (length bs) ≡ b
rest_fits n m bs true le e = le-leb (n + m) (length bs) (omega (arith, length-drop n bs, leb-true m (length (drop n bs)) e, le))
rest_fits n m bs false le e = lt-leb (n + m) (length bs) (omega (arith, length-drop n bs, leb-false m (length (drop n bs)) e, le))

skip_by : (n m : ℕ) (bs : List BufferSpec) (b : Bool) → leb n (length bs) ≡ b → skip_first BufferCount (n + m) bs ≡ (skip_first BufferCount n bs >>= skip_first BufferCount m)
unfolding skip_first
skip_by n m bs true e =
    let fits : leb (n + m) (length bs) ≡ leb m (length (drop n bs)) = rest_fits n m bs (leb m (length (drop n bs))) (leb-true n (length bs) e) refl in
    rw (e, fits, drop-drop m n bs) refl
skip_by n m bs false e =
    let over : leb (n + m) (length bs) ≡ false = lt-leb (n + m) (length bs) (omega (arith, leb-false n (length bs) e)) in
    rw (e, over) refl

pub skip_twice : (n m : ℕ) (bs : List BufferSpec) → skip_first BufferCount (n + m) bs ≡ (skip_first BufferCount n bs >>= skip_first BufferCount m)
skip_twice n m bs = skip_by n m bs (leb n (length bs)) refl

counted : (f : FieldTree) → child_buffer_count f ≡ buffer_count (field_type f)
counted (field x s b es) = refl

-- ---- by data type, which is known by an equation

abbrev pub map_child : TypeTree → Option FieldTree
map_child (types.map f b) = Some f
map_child t = None

abbrev pub fixed_size_list_child : TypeTree → Option FieldTree
fixed_size_list_child (types.fixed_size_list f n) = Some f
fixed_size_list_child t = None

abbrev of_child : Option FieldTree → ℕ
of_child (Some f) = child_buffer_count f
of_child None = 0

no_child : (f : FieldTree) → None ≡ Some f → ⊥
no_child f e = cc

map_is : (t : TypeTree) (f : FieldTree) → map_child t ≡ Some f → buffer_count t ≡ 2 + child_buffer_count f
map_is (types.map g b) f e = ap (λ (o : Option FieldTree). 2 + of_child o) e
map_is t f e = absurd (no_child f e)

fixed_size_list_is : (t : TypeTree) (f : FieldTree) → fixed_size_list_child t ≡ Some f → buffer_count t ≡ 1 + child_buffer_count f
fixed_size_list_is (types.fixed_size_list g n) f e = ap (λ (o : Option FieldTree). 1 + of_child o) e
fixed_size_list_is t f e = absurd (no_child f e)

module _ {X : Type 0} (view : X → List BufferSpec) (result : Result X IpcReadError) (bs : List BufferSpec) where
  flat_is : (t : TypeTree) → is_flat_type t ≡ true → buffer_count t ≡ spec_flat_buffer_count (physical_type t)
  flat_is (types.extension x s m) e = cc
  flat_is (types.list f) e = cc
  flat_is (types.large_list f) e = cc
  flat_is (types.fixed_size_list f n) e = cc
  flat_is (types.map f b) e = cc
  flat_is (types.struct fs) e = cc
  flat_is (types.union fs ids mode) e = cc
  flat_is t e = refl

  inner_is : (t : TypeTree) → buffer_count t ≡ buffer_count (inner_type t)
  inner_is (types.extension x s m) = refl
  inner_is t = refl

  pub flat_so : (t : TypeTree) (n : ℕ) → is_flat_type t ≡ true → n ≡ spec_flat_buffer_count (physical_type t) → Returns view result (skip_first BufferCount n bs) → Returns view result (array_skipped t bs)
  unfolding array_skipped
  flat_so t n flat is h = subst (λ (k : ℕ). Returns view result (skip_first BufferCount k bs)) (is ∙ sym (flat_is t flat)) h

  pub extension_so : (t : TypeTree) {u : TypeTree} → Returns view result (array_skipped u bs) → inner_type t ≡ u → Returns view result (array_skipped t bs)
  unfolding array_skipped
  extension_so t h e = subst (λ (k : ℕ). Returns view result (skip_first BufferCount k bs)) (sym (inner_is t ∙ ap buffer_count e)) h

  child_so : (t : TypeTree) (own : ℕ) (f : FieldTree) → buffer_count t ≡ own + child_buffer_count f → Returns view result (child_skipped own f bs) → Returns view result (array_skipped t bs)
  unfolding array_skipped child_skipped
  child_so t own f e h = subst (λ (k : ℕ). Returns view result (skip_first BufferCount k bs)) (sym e) h

  pub children_so : (t : TypeTree) (own : ℕ) (fs : FieldTrees) → buffer_count t ≡ own + children_buffer_count fs → Returns view result (children_skipped own fs bs) → Returns view result (array_skipped t bs)
  unfolding array_skipped children_skipped
  children_so t own fs e h = subst (λ (k : ℕ). Returns view result (skip_first BufferCount k bs)) (sym e) h

  pub list_so : (t : TypeTree) {f : FieldTree} → Returns view result (child_skipped 2 f bs) → t ≡ types.list f → Returns view result (array_skipped t bs)
  list_so t h e = child_so t 2 _ (ap buffer_count e) h

  pub large_list_so : (t : TypeTree) {f : FieldTree} → Returns view result (child_skipped 2 f bs) → t ≡ types.large_list f → Returns view result (array_skipped t bs)
  large_list_so t h e = child_so t 2 _ (ap buffer_count e) h

  pub map_so : (t : TypeTree) {f : FieldTree} → Returns view result (child_skipped 2 f bs) → map_child t ≡ Some f → Returns view result (array_skipped t bs)
  map_so t {f} h e = child_so t 2 f (map_is t f e) h

  pub fixed_size_list_so : (t : TypeTree) {f : FieldTree} → Returns view result (child_skipped 1 f bs) → fixed_size_list_child t ≡ Some f → Returns view result (array_skipped t bs)
  fixed_size_list_so t {f} h e = child_so t 1 f (fixed_size_list_is t f e) h

  pub struct_so : (t : TypeTree) {fs : FieldTrees} → Returns view result (children_skipped 1 fs bs) → t ≡ types.struct fs → Returns view result (array_skipped t bs)
  struct_so t h e = children_so t 1 _ (ap buffer_count e) h

  -- a child after the buffers of its parent
  pub child_next : (own : ℕ) (f : FieldTree) (u : TypeTree) (rest : List BufferSpec) → u ≡ field_type f → skip_first BufferCount own bs ≡ Ok rest → Returns view result (array_skipped u rest) → Returns view result (child_skipped own f bs)
  unfolding array_skipped child_skipped
  child_next own f u rest e skipped h =
      let count : child_buffer_count f ≡ buffer_count u = counted f ∙ ap buffer_count (sym e) in
      let all : skip_first BufferCount (own + child_buffer_count f) bs ≡ skip_first BufferCount (buffer_count u) rest = skip_twice own (child_buffer_count f) bs ∙ rw (skipped, count) refl in
      subst (Returns view result) (sym all) h

-- ---- fields in order

pub child_fails : (own : ℕ) (f : FieldTree) (bs : List BufferSpec) (error : IpcReadError) → skip_first BufferCount own bs ≡ Err error → child_skipped own f bs ≡ Err error
unfolding child_skipped
child_fails own f bs error e = skip_twice own (child_buffer_count f) bs ∙ rw e refl

pub children_fail : (own : ℕ) (fs : FieldTrees) (bs : List BufferSpec) (error : IpcReadError) → skip_first BufferCount own bs ≡ Err error → children_skipped own fs bs ≡ Err error
unfolding children_skipped
children_fail own fs bs error e = skip_twice own (children_buffer_count fs) bs ∙ rw e refl

-- the first `own` buffers were skipped
pub children_start : (own : ℕ) (fs : FieldTrees) (bs rest : List BufferSpec) → skip_first BufferCount own bs ≡ Ok rest → children_skipped 0 fs rest ≡ children_skipped own fs bs
unfolding children_skipped
children_start own fs bs rest e =
    let none : 0 + children_buffer_count fs ≡ children_buffer_count fs = omega arith in
    rw none (sym (skip_twice own (children_buffer_count fs) bs ∙ rw e refl))

then_children : (fs : FieldTrees) (r : Skipped) → (r >>= skip_first BufferCount (children_buffer_count fs)) ≡ (r >>= children_skipped 0 fs)
unfolding children_skipped
then_children fs (Ok rest) =
    let none : 0 + children_buffer_count fs ≡ children_buffer_count fs = omega arith in
    ap (λ (k : ℕ). skip_first BufferCount k rest) (sym none)
then_children fs (Err e) = refl

children_next : (f : FieldTree) (fs : FieldTrees) (bs : List BufferSpec) → children_skipped 0 (more_fields f fs) bs ≡ (child_skipped 0 f bs >>= children_skipped 0 fs)
unfolding children_skipped child_skipped
children_next f fs bs =
    let c : ℕ = child_buffer_count f in
    let cs : ℕ = children_buffer_count fs in
    let all : 0 + (c + cs) ≡ c + cs = omega arith in
    let first : 0 + c ≡ c = omega arith in
    rw (all, first) (skip_twice c cs bs ∙ then_children fs (skip_first BufferCount c bs))

module _ (fs : List Field) (i : ℕ) (bs : List BufferSpec) (total : Skipped) where
  front_is : (f : Field) → i < length fs → f ≡ get_or fs i f → field_list_of (drop i fs) ≡ more_fields (field_of f) (field_list_of (drop (i + 1) fs))
  front_is f lt is = ap field_list_of (drop_more fs i f lt ∙ ap (λ (y : Field). y ∷ drop (i + 1) fs) (sym is))

  pub child_goes_on : (f : Field) (rest : List BufferSpec) → i < length fs → f ≡ get_or fs i f → child_skipped 0 (field_of f) bs ≡ Ok rest → children_skipped 0 (field_list_of (drop i fs)) bs ≡ total → children_skipped 0 (field_list_of (drop (i + 1) fs)) rest ≡ total
  child_goes_on f rest lt is h so_far =
      let one : children_skipped 0 (field_list_of (drop i fs)) bs ≡ children_skipped 0 (field_list_of (drop (i + 1) fs)) rest = rw (front_is f lt is, children_next (field_of f) (field_list_of (drop (i + 1) fs)) bs, h) refl in
      sym one ∙ so_far

  pub child_ends : (f : Field) (error : IpcReadError) → i < length fs → f ≡ get_or fs i f → child_skipped 0 (field_of f) bs ≡ Err error → children_skipped 0 (field_list_of (drop i fs)) bs ≡ total → total ≡ Err error
  child_ends f error lt is h so_far =
      let one : children_skipped 0 (field_list_of (drop i fs)) bs ≡ Err error = rw (front_is f lt is, children_next (field_of f) (field_list_of (drop (i + 1) fs)) bs, h) refl in
      sym so_far ∙ one

  pub children_done : length fs ≤ i → children_skipped 0 (field_list_of (drop i fs)) bs ≡ total → total ≡ Ok bs
  unfolding children_skipped skip_first
  children_done le so_far =
      let fits : leb 0 (length bs) ≡ true = le-leb 0 (length bs) (omega arith) in
      let one : children_skipped 0 (field_list_of (drop i fs)) bs ≡ Ok bs = rw (drop_all i fs le, fits) refl in
      sym so_far ∙ one
