-- What one more person adds to a builder, and how a cell is removed again.
use Rattle.std.specs.Prelude.{Option, None, Some, if◌then◌else◌, ◌&&◌}
use Rattle.std.proofs.Common.{◌≡◌, ℕ, zero, suc, ◌+◌, ◌≤◌, ◌<◌, Bool, true, false, List, [], ◌∷◌, ◌++◌, length, get_or, take, refl, sym, ap, subst, ◌∙◌, arith}
use Rattle.std.proofs.Math.Seq.{take-length, take-suc}
use Rattle.std.proofs.lemmas.List.{length_push, take-append-le}
use Rattle.nest_memory.specs.TypeTree as types
use Rattle.nest_memory.specs.TypeTree.{TypeTree}
use Rattle.nest_flat.specs.Plain.{plain_values}
use Rattle.nest_flat.specs.declared.plain.Plain.{Plain}
use Rattle.nest_model.specs.BuilderAppend.{appended}
use Rattle.nest_model.specs.BuilderAddRow.{with_row}
use Rattle.nest_model.specs.BuilderRefusals.{required_item}
use Rattle.nest_model.specs.BuilderTree.{BuilderTree, BuilderTrees, flat, struct, more_builders, no_builders, builder_len}
use Rattle.nest_model.specs.BuilderComplete.{IsComplete, truncate_builder}
use Rattle.nest_model.specs.Slot.{Slot}
use Rattle.nest_any.specs.Lent.{builder_at, with_field}
use Rattle.nest_any.specs.Refusals.{count_builders, struct_bits, struct_children}
use Rattle.guide.specs.People.{ArePeople, Cells, ages_in, cell_slot, is_person, names_in, people, with_people, with_person}

-- one more cell of a column
pub cell_appended : (o : Option Plain) (t : TypeTree) (xs : List Slot) → appended (required_item (plain_values o)) (flat t xs) ≡ flat t (xs ++ cell_slot o ∷ [])
cell_appended None t xs = refl
cell_appended (Some p) t xs = refl

-- two children
pub two_children : (b : BuilderTree) → ArePeople b → count_builders (struct_children b) ≡ 2
two_children b h = ap (λ x. count_builders (struct_children x)) h.1

-- the first and the second child
pub first_child : (b : BuilderTree) → ArePeople b → builder_at (struct_children b) 0 ≡ Some (flat types.utf8 (names_in b))
first_child b h = ap (λ x. builder_at (struct_children x) 0) h.1

pub second_child : (b c : BuilderTree) → ArePeople b → builder_at (struct_children (with_field b 0 c)) 1 ≡ Some (flat types.int32 (ages_in b))
second_child b c h = ap (λ x. builder_at (struct_children (with_field x 0 c)) 1) h.1

-- both cells pushed, and the row added
pub pushed : (b : BuilderTree) (n a : Option Plain) → ArePeople b
    → with_row true (with_field (with_field b 0 (flat types.utf8 (names_in b ++ cell_slot n ∷ []))) 1 (flat types.int32 (ages_in b ++ cell_slot a ∷ []))) ≡ with_person (n, a) b
pushed b n a h = ap (λ x. with_row true (with_field (with_field x 0 (flat types.utf8 (names_in b ++ cell_slot n ∷ []))) 1 (flat types.int32 (ages_in b ++ cell_slot a ∷ [])))) h.1

-- the first child is restored
pub taken_back : (b c : BuilderTree) → ArePeople b → with_field (with_field b 0 c) 0 (flat types.utf8 (names_in b)) ≡ b
taken_back b c h = ap (λ x. with_field (with_field x 0 c) 0 (flat types.utf8 (names_in b))) h.1 ∙ sym h.1

pub both_taken_back : (b c d : BuilderTree) → ArePeople b → with_field (with_field (with_field (with_field b 0 c) 1 d) 0 (flat types.utf8 (names_in b))) 1 (flat types.int32 (ages_in b)) ≡ b
both_taken_back b c d h = ap (λ x. with_field (with_field (with_field (with_field x 0 c) 1 d) 0 (flat types.utf8 (names_in b))) 1 (flat types.int32 (ages_in b))) h.1 ∙ sym h.1

-- one more person leaves a complete builder
pub whole_more : (b : BuilderTree) (c : Cells) → ArePeople b → ArePeople (with_person c b)
whole_more b c h =
    let w = subst IsComplete h.1 h.0 in
    let names : length (names_in b ++ cell_slot c.0 ∷ []) ≡ length (struct_bits b ++ true ∷ []) = omega (arith, length_push (names_in b) (cell_slot c.0), length_push (struct_bits b) true, w.0.1) in
    let ages : length (ages_in b ++ cell_slot c.1 ∷ []) ≡ length (struct_bits b ++ true ∷ []) = omega (arith, length_push (ages_in b) (cell_slot c.1), length_push (struct_bits b) true, w.0.2.1) in
    (((tt, names, (tt, ages, tt)), refl), refl)

-- one more person leaves the rows before it
pub cut_person : (b : BuilderTree) (c : Cells) (n : ℕ) → ArePeople b → n ≤ builder_len b → truncate_builder (with_person c b) n ≡ truncate_builder b n
cut_person b c n h k =
    let w = subst IsComplete h.1 h.0 in
    let rows : n ≤ length (struct_bits b) = subst (λ x. n ≤ builder_len x) h.1 k in
    rw (take-append-le n (struct_bits b) (true ∷ []) rows, take-append-le n (names_in b) (cell_slot c.0 ∷ []) (omega (arith, rows, w.0.1)), take-append-le n (ages_in b) (cell_slot c.1 ∷ []) (omega (arith, rows, w.0.2.1)))
    (sym (ap (λ x. truncate_builder x n) h.1))

longer : (b : BuilderTree) (c : Cells) (n : ℕ) → ArePeople b → n ≤ builder_len b → n ≤ builder_len (with_person c b)
longer b c n h k =
    let rows : n ≤ length (struct_bits b) = subst (λ x. n ≤ builder_len x) h.1 k in
    omega (arith, rows, length_push (struct_bits b) true)

-- one more person, or none
one_or_none : (p : Bool) (b : BuilderTree) (c : Cells) (n : ℕ) → ArePeople b → n ≤ builder_len b → let d = if p then with_person c b else b in ArePeople d × (n ≤ builder_len d) × (truncate_builder d n ≡ truncate_builder b n)
one_or_none true b c n h k = (whole_more b c h, longer b c n h k, cut_person b c n h k)
one_or_none false b c n h k = (h, k, refl)

-- so for several rows of cells
pub cut_people : (cs : List Cells) (b : BuilderTree) (n : ℕ) → ArePeople b → n ≤ builder_len b → truncate_builder (with_people cs b) n ≡ truncate_builder b n
cut_people [] b n h k = refl
cut_people (c ∷ cs) b n h k =
    let one = one_or_none (is_person c) b c n h k in
    cut_people cs (if is_person c then with_person c b else b) n one.0 one.1 ∙ one.2

pub whole_all : (cs : List Cells) (b : BuilderTree) → ArePeople b → ArePeople (with_people cs b)
whole_all [] b h = h
whole_all (c ∷ cs) b h = whole_all cs (if is_person c then with_person c b else b) (one_or_none (is_person c) b c 0 h (omega arith)).0

-- truncation to the length changes nothing
pub cut_none : (b : BuilderTree) → ArePeople b → truncate_builder b (builder_len b) ≡ b
cut_none b h =
    let w = subst IsComplete h.1 h.0 in
    let names = ap (λ k. take k (names_in b)) (sym w.0.1) ∙ take-length (names_in b) in
    let ages = ap (λ k. take k (ages_in b)) (sym w.0.2.1) ∙ take-length (ages_in b) in
    ap (λ x. truncate_builder x (builder_len x)) h.1 ∙ (rw (take-length (struct_bits b), names, ages) refl) ∙ sym h.1

-- rows of cells, and then others
pub with_more : (cs ds : List Cells) (b : BuilderTree) → with_people (cs ++ ds) b ≡ with_people ds (with_people cs b)
with_more [] ds b = refl
with_more (c ∷ cs) ds b = with_more cs ds (if is_person c then with_person c b else b)

-- the length does not shrink
pub longer_all : (cs : List Cells) (b : BuilderTree) (n : ℕ) → ArePeople b → n ≤ builder_len b → n ≤ builder_len (with_people cs b)
longer_all [] b n h k = k
longer_all (c ∷ cs) b n h k =
    let one = one_or_none (is_person c) b c n h k in
    longer_all cs (if is_person c then with_person c b else b) n one.0 one.1

-- one more row of cells
pub one_more : (rows : List Cells) (k : ℕ) (d : Cells) (old p q : BuilderTree) → k < length rows → p ≡ with_people (take k rows) old → q ≡ with_people (get_or rows k d ∷ []) p → q ≡ with_people (take (k + 1) rows) old
one_more rows k d old p q h e f =
    let s : k + 1 ≡ suc k = omega arith in
    let x = get_or rows k d in
    f ∙ ap (with_people (x ∷ [])) e ∙ sym (with_more (take k rows) (x ∷ []) old) ∙ ap (λ z. with_people z old) (sym (take-suc rows k d h)) ∙ ap (λ j. with_people (take j rows) old) (sym s)
