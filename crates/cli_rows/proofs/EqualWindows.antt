-- Equal rows of windows.
use Rattle.std.proofs.Common.{◌≡◌, ◌↔◌, ℕ, Bool, IsTrue, ◌+◌, ◌<◌, ◌≤◌, List, [], ◌∷◌, length, map, take, refl, sym, ap, ◌∙◌, arith}
use Rattle.std.proofs.lemmas.List.{length-map, take_all}
use Rattle.nest_memory.specs.Sublist.{sublist}
use Rattle.nest_memory.specs.TypeTree.{TypeTree}
use Rattle.nest_model.specs.Layout.{layout_type}
use Rattle.nest_model.specs.Meaning.{len, slots_of}
use Rattle.nest_model.specs.Reads.{slots-length}
use Rattle.nest_model.specs.Runs.{length-cut}
use Rattle.nest_model.specs.Slot.{Slot}
use Rattle.nest_array.specs.WindowParts.{WindowParts, window_slots}
use Rattle.cli_rows.specs.Rows.{RowSlot, rows_in}
use Rattle.cli_rows.specs.RowLaws.{cut-map}

abbrev typed : TypeTree → List Slot → List RowSlot
typed t ss = map (λ s. (t, s)) ss

abbrev Equal : WindowParts → WindowParts → Type 0
Equal x y = (layout_type x.array ≡ layout_type y.array) × (window_slots x ≡ window_slots y)

pub same-rows : (x y : WindowParts) → Equal x y → rows_in x ≡ rows_in y
same-rows x y e = ap (λ t. typed t (window_slots x)) e.0 ∙ ap (typed (layout_type y.array)) e.1

untyped : (t : TypeTree) (ss : List Slot) → map (λ (r : RowSlot). r.1) (typed t ss) ≡ ss
untyped t [] = refl
untyped t (s ∷ ss) = ap (λ rest. s ∷ rest) (untyped t ss)

abbrev first_type : TypeTree → List RowSlot → TypeTree
first_type d [] = d
first_type d (r ∷ rs) = r.0

is-first : (d t : TypeTree) (ss : List Slot) → 0 < length ss → first_type d (typed t ss) ≡ t
is-first d t [] h = absurd (omega arith)
is-first d t (s ∷ ss) h = refl

types-equal : (t u : TypeTree) (ss rs : List Slot) → 0 < length ss → typed t ss ≡ typed u rs → t ≡ u
types-equal t u ss rs h e =
    let long : length ss ≡ length rs = sym (length-map ss (λ s. (t, s))) ∙ ap length e ∙ length-map rs (λ s. (u, s)) in
    sym (is-first t t ss h) ∙ ap (first_type t) e ∙ is-first t u rs (omega (arith, h, long))

slots-equal : (t u : TypeTree) (ss rs : List Slot) → typed t ss ≡ typed u rs → ss ≡ rs
slots-equal t u ss rs e = sym (untyped t ss) ∙ ap (map (λ (r : RowSlot). r.1)) e ∙ untyped u rs

pub one-row : (w v : WindowParts) (k : ℕ) → v.array ≡ w.array → window_slots v ≡ sublist (window_slots w) k 1 → rows_in v ≡ sublist (rows_in w) k 1
one-row w v k a s =
    ap (λ l. typed (layout_type l) (window_slots v)) a
    ∙ ap (typed (layout_type w.array)) s
    ∙ sym (cut-map (λ s. (layout_type w.array, s)) (window_slots w) k 1)

long-as-counted : (w : WindowParts) → w.offset + w.count ≤ len w.array → length (window_slots w) ≡ w.count
long-as-counted w h = let l = slots-length w.array in length-cut (slots_of w.array) w.offset w.count (omega (arith, l, h))

pub rows-counted : (w : WindowParts) → w.offset + w.count ≤ len w.array → length (rows_in w) ≡ w.count
rows-counted w h = length-map (window_slots w) (λ s. (layout_type w.array, s)) ∙ long-as-counted w h

pub same-as-windows : (x y v w : WindowParts) (k : ℕ) (b : Bool) → x.offset + x.count ≤ len x.array → k < x.count
    → v.array ≡ x.array → window_slots v ≡ sublist (window_slots x) k 1 → w.array ≡ y.array → window_slots w ≡ sublist (window_slots y) k 1
    → (IsTrue b ↔ Equal v w) → IsTrue b ↔ (sublist (rows_in x) k 1 ≡ sublist (rows_in y) k 1)
same-as-windows x y v w k b fits within va vs wa ws test = (λ t. sym (one-row x v k va vs) ∙ same-rows v w (test.0 t) ∙ one-row y w k wa ws, λ e. test.1 (equal e))
  where
    equal : sublist (rows_in x) k 1 ≡ sublist (rows_in y) k 1 → Equal v w
    equal e =
        let same : rows_in v ≡ rows_in w = one-row x v k va vs ∙ e ∙ sym (one-row y w k wa ws) in
        let l = long-as-counted x fits in
        let one : length (window_slots v) ≡ 1 = ap length vs ∙ length-cut (window_slots x) k 1 (omega (arith, l, within)) in
        (types-equal _ _ (window_slots v) (window_slots w) (omega (arith, one)) same, slots-equal _ _ (window_slots v) (window_slots w) same)

pub rows-end : (x y : WindowParts) (k : ℕ) → x.offset + x.count ≤ len x.array → y.offset + y.count ≤ len y.array → x.count ≡ y.count → x.count ≤ k
    → take k (rows_in x) ≡ take k (rows_in y) → rows_in x ≡ rows_in y
rows-end x y k fx fy c h e =
    let lx = rows-counted x fx in
    let ly = rows-counted y fy in
    sym (take_all k (rows_in x) (omega (arith, lx, h))) ∙ e ∙ take_all k (rows_in y) (omega (arith, ly, h, c))
