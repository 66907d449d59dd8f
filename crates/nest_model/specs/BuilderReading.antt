-- The part of its input that a push reads, and why the push is refused.
use Rattle.std.specs.Prelude.{◌≡◌, ◌⊎◌, Option, Some, None, List, [], ◌∷◌, ◌++◌, alloc_error}
use Rattle.std.specs.List.{AllZip}
use Rattle.nest_memory.specs.declared.error.Error.{Error}
use Rattle.nest_memory.specs.declared.error.Error.TheVariants.{InvalidArgumentError, Memory}
use Rattle.nest_memory.specs.declared.error.ArgumentError.TheVariants.{ItemType}
use Rattle.nest_model.specs.BuilderTree.{BuilderTree, flat, list, fixed_size_list, dictionary, struct}
use Rattle.nest_model.specs.BuilderItem as items
use Rattle.nest_model.specs.BuilderItem.{PlainValue, Item, seal_items}
use Rattle.nest_model.specs.BuilderAppend.{all_appended, Accepted, AcceptedAll}
use Rattle.nest_model.specs.BuilderInput.{YieldsAll, Begins, value_item}
use Rattle.nest_model.specs.Checks.{first_of}
use Rattle.nest_model.specs.BuilderRefusals.{item_refusal, items_refusal}

-- The part of an input that a call has read: an item, or some items of a list and the part read of the next item.
-- A refused call may stop there.
pub data Read : Type 0 where
  complete : Item → Read
  begun : List Item → Read → Read

-- the first check that refuses it, before any input that was not read
abbrev pub read_refusal : Read → BuilderTree → Option Error
read_refusal (complete x) t = item_refusal x t
read_refusal (begun xs r) (flat t ss) = Some (InvalidArgumentError ItemType)
read_refusal (begun xs r) (list large t rows c) = first_of (items_refusal (seal_items xs) c) (read_refusal r (all_appended xs c))
read_refusal (begun xs r) (fixed_size_list t bits c) = first_of (items_refusal (seal_items xs) c) (read_refusal r (all_appended xs c))
read_refusal (begun xs r) (dictionary k t keys c) = Some (InvalidArgumentError ItemType)
read_refusal (begun xs r) (struct t bits cs) = Some (InvalidArgumentError ItemType)

-- it may be the part read of that item
abbrev pub ReadOf : Read → Item → Type 0
ReadOf (complete y) x = y ≡ x
ReadOf (begun xs r) x = (y : Item) × (ys : List Item) × (x ≡ items.list_of (seal_items (xs ++ y ∷ ys))) × ReadOf r y

-- None is null; Some is the value
abbrev pub ReadsValue : {T : Type 0} → (T → PlainValue) → Option T → Read → Type 0
ReadsValue value given r = r ≡ complete (value_item value given)

-- How an input is read, item by item: the iterator it converts to, the item that each step yields,
-- and the part read of it.
pub record Reading (U T A : Type 0) : Type 1 where
  pub becomes : U → T → Type 0
  pub steps : T → Option A → T → Type 0
  pub reads : A → Read → Type 0

-- all that u yields was read, as the items xs
abbrev pub ReadsAll : {U T A : Type 0} → Reading U T A → U → List Item → Type 0
ReadsAll {U} {T} {A} how u xs = (given : List A) × YieldsAll how.becomes how.steps u given × AllZip (λ a x. how.reads a (complete x)) given xs

-- a prefix of what u yields was read: the items xs, and r of the next item
abbrev pub ReadsSome : {U T A : Type 0} → Reading U T A → U → List Item → Read → Type 0
ReadsSome {U} {T} {A} how u xs r =
    (front : List A) × (next : A) × Begins how.becomes how.steps u (front ++ next ∷ []) × AllZip (λ a x. how.reads a (complete x)) front xs × how.reads next r

-- None is null; an iterator is the list of the items that it yields
abbrev pub ReadsList : {U T A : Type 0} → Reading U T A → Option U → Read → Type 0
ReadsList how None r = r ≡ complete items.null
ReadsList how (Some u) r =
    ((xs : List Item) × ReadsAll how u xs × (r ≡ complete (items.list_of (seal_items xs))))
    ⊎ ((xs : List Item) × (s : Read) × ReadsSome how u xs s × (r ≡ begun xs s))

-- the item was accepted, and no check refuses it
abbrev pub Consumed : {A : Type 0} → (A → Read → Type 0) → A → BuilderTree → BuilderTree → Type 0
Consumed reads a old new = (x : Item) × reads a (complete x) × Accepted x old new × (item_refusal x old ≡ None)

-- the part that was read is refused with e, or an allocation failed
abbrev pub Refused : {A : Type 0} → (A → Read → Type 0) → A → BuilderTree → Error → Type 0
Refused reads a old e = (e ≡ Memory alloc_error) ⊎ ((r : Read) × reads a r × (read_refusal r old ≡ Some e))

-- the same for several items, in order
abbrev pub ConsumedEach : {A : Type 0} → (A → Read → Type 0) → List A → BuilderTree → BuilderTree → Type 0
ConsumedEach {A} reads given old new = (xs : List Item) × AllZip (λ a x. reads a (complete x)) given xs × AcceptedAll xs old new × (items_refusal (seal_items xs) old ≡ None)

abbrev pub ConsumedAll : {U T A : Type 0} → Reading U T A → U → BuilderTree → BuilderTree → Type 0
ConsumedAll how u old new = (xs : List Item) × ReadsAll how u xs × AcceptedAll xs old new × (items_refusal (seal_items xs) old ≡ None)

abbrev pub RefusedSome : {U T A : Type 0} → Reading U T A → U → BuilderTree → Error → Type 0
RefusedSome how u old e =
    (e ≡ Memory alloc_error) ⊎ ((xs : List Item) × (r : Read) × ReadsSome how u xs r × (first_of (items_refusal (seal_items xs) old) (read_refusal r (all_appended xs old)) ≡ Some e))
