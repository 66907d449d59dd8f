-- What a builder reads of an iterator over a list of values.
use Rattle.std.specs.Prelude.{◌⊎◌, Option, Some, None, alloc_error}
use Rattle.std.proofs.Common.{◌≡◌, List, [], ◌∷◌, ◌++◌, map, refl, sym, ap, subst, ◌∙◌, inl, inr, append_assoc}
use Rattle.std.specs.List.{AllZip}
use Rattle.std.specs.Iterator.{Yields, AlwaysYields}
use Rattle.std.proofs.lemmas.List.{map-append, map-id}
use Rattle.std.proofs.lemmas.Iterator.{YieldsList, items_from_drains}
use Rattle.std.proofs.lemmas.Iterator.Consumers.{YieldsList-at}
use Rattle.nest_memory.specs.declared.error.Error.{Error}
use Rattle.nest_memory.specs.declared.error.Error.TheVariants.{Memory}
use Rattle.nest_model.specs.BuilderTree.{BuilderTree}
use Rattle.nest_model.specs.BuilderItem as items
use Rattle.nest_model.specs.BuilderItem.{Item, PlainValue, seal_items}
use Rattle.nest_model.specs.BuilderAppend.{Accepted}
use Rattle.nest_model.specs.BuilderRefusals.{item_refusal}
use Rattle.nest_model.specs.BuilderReading.{Read, complete, begun, ReadsValue, ReadsList, Consumed, Refused, read_refusal, ReadOf}
use Rattle.nest_model.specs.BuilderReadingLaws.{read-refused}
use Rattle.nest_model.specs.BuilderInput.{value_item}
use Rattle.nest_build.specs.Slices.{row_item}

-- the values returned so far are a prefix of all values
given_front : {S A : Type 0} (steps : S → Option A → S → Type 0) (given all : List A) (s t : S) → AlwaysYields steps (λ x. x) s all → Yields steps s given t → (rest : List A) × (all ≡ given ++ rest)
given_front steps [] all s t r y = (all, refl)
given_front steps (x ∷ given) [] s t r y = absurd (r x y.0 y.1)
given_front steps (x ∷ given) (z ∷ all) s t r y =
    let next = r.1 x y.0 y.1 in
    let more = given_front steps given all y.0 t next.1 y.2 in
    (more.0, λ i. sym next.0 i ∷ more.1 i)

-- the item of a read
abbrev item_of : Read → Item
item_of (complete x) = x
item_of (begun xs r) = items.null

values_read : {A : Type 0} (value : A → PlainValue) (given : List (Option A)) (ys : List Item) → AllZip (λ a x. ReadsValue value a (complete x)) given ys → ys ≡ map (value_item value) given
values_read value [] [] h = refl
values_read value [] (y ∷ ys) h = absurd h
values_read value (a ∷ given) [] h = absurd h
values_read value (a ∷ given) (y ∷ ys) h = let e = ap item_of h.0 in let t = values_read value given ys h.1 in λ i. e i ∷ t i

module _ {T A : Type 0} (steps : T → Option (Option A) → T → Type 0) (value : A → PlainValue) (u : T) (all : List (Option A)) (road : YieldsList steps (λ x. x) u all) where
  pub slice_took : (old new : BuilderTree) → Consumed (ReadsList (record { becomes = λ v it. it ≡ v; steps = steps; reads = ReadsValue value })) (Some u) old new → Accepted (row_item value (Some all)) old new × (item_refusal (row_item value (Some all)) old ≡ None)
  slice_took old new (x, inl (ys, (given, (it, b, d), z), e), a, n) =
      let same : given ≡ all = sym (map-id given) ∙ items_from_drains {steps = steps} {v = λ x. x} {s = it} given (d.1.0, d.1.1, λ _. (d.0, d.1.2)) (YieldsList-at b road) in
      let is : x ≡ row_item value (Some all) = ap item_of e ∙ ap (λ l. items.list_of (seal_items l)) (values_read value given ys z ∙ ap (map (value_item value)) same) in
      subst (λ y. Accepted y old new × (item_refusal y old ≡ None)) is (a, n)
  slice_took old new (x, inr (ys, s, r, e), a, n) = cc

  pub slice_refused : (old : BuilderTree) (e : Error) → Refused (ReadsList (record { becomes = λ v it. it ≡ v; steps = steps; reads = ReadsValue value })) (Some u) old e → (e ≡ Memory alloc_error) ⊎ (item_refusal (row_item value (Some all)) old ≡ Some e)
  slice_refused old e (inl m) = inl m
  slice_refused old e (inr (r, inl (ys, (given, (it, b, d), z), k), h)) =
      let same : given ≡ all = sym (map-id given) ∙ items_from_drains {steps = steps} {v = λ x. x} {s = it} given (d.1.0, d.1.1, λ _. (d.0, d.1.2)) (YieldsList-at b road) in
      let is : r ≡ complete (row_item value (Some all)) = k ∙ ap (λ l. complete (items.list_of (seal_items l))) (values_read value given ys z ∙ ap (map (value_item value)) same) in
      inr (subst (λ q. read_refusal q old ≡ Some e) is h)
  slice_refused old e (inr (r, inr (ys, s, (front, next, (it, t, b, y), z, n), k), h)) =
      let more = given_front steps (front ++ next ∷ []) all it t (YieldsList-at b road).runs y in
      let front_items = values_read value front ys z in
      let of_next = value_item value next in
      let rest = map (value_item value) more.0 in
      let split : map (value_item value) all ≡ ys ++ of_next ∷ rest =
      ap (map (value_item value)) more.1
      ∙ map-append (value_item value) (front ++ next ∷ []) more.0
      ∙ ap (λ l. l ++ rest) (map-append (value_item value) front (next ∷ []))
      ∙ ap (λ l. (l ++ of_next ∷ []) ++ rest) (sym front_items)
      ∙ append_assoc ys (of_next ∷ []) rest in
      inr (read-refused (begun ys s) (row_item value (Some all)) old e (of_next, rest, ap (λ l. items.list_of (seal_items l)) split, subst (λ q. ReadOf q of_next) (sym n) refl) (subst (λ q. read_refusal q old ≡ Some e) k h))
