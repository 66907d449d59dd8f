-- Values pushed in order, and the first refused value.
use Rattle.std.specs.Prelude.{◌⊎◌, Option, Some, None, Result, Ok, Err, alloc_error}
use Rattle.std.specs.Result.{is_ok}
use Rattle.std.proofs.Common.{◌≡◌, List, [], ◌∷◌, ◌++◌, Bool, length, refl, sym, ap, ◌∙◌, inl, inr, OnOk, OnErr, ℕ, map}
use Rattle.std.specs.List.{items_where_true, AllZip}
use Rattle.std.proofs.lemmas.List.{map-append}
use Rattle.nest_memory.specs.declared.error.Error.{Error}
use Rattle.nest_memory.specs.declared.error.Error.TheVariants.{Memory}
use Rattle.nest_model.specs.BuilderTree.{BuilderTree, flat, list, fixed_size_list, dictionary, struct}
use Rattle.nest_model.specs.BuilderComplete.{IsComplete}
use Rattle.nest_model.specs.BuilderItem as items
use Rattle.nest_model.specs.BuilderItem.{Item, seal_items}
use Rattle.nest_model.specs.BuilderAppend.{appended, all_appended}
use Rattle.nest_model.specs.BuilderInput.{YieldsAll, Begins, value_item}
use Rattle.nest_model.specs.BuilderInputLaws.{AllZip-push, where_true-push, where_false-push}
use Rattle.nest_model.specs.BuilderAppendLaws.{accepted_none, accepted_more}
use Rattle.nest_model.specs.Checks.{first_of}
use Rattle.nest_model.specs.BuilderRefusals.{item_refusal, items_refusal}
use Rattle.nest_model.specs.BuilderReading.{Read, complete, begun, read_refusal, ReadOf, ReadsValue, Reading, Consumed, Refused, ConsumedEach, ConsumedAll, RefusedSome}
use Rattle.nest_model.specs.BuilderRefusalLaws.{none-more, items-both}

pub took_none : {A : Type 0} (reads : A → Read → Type 0) (t : BuilderTree) → IsComplete t → ConsumedEach reads [] t t
took_none reads t w = ([], tt, accepted_none t w, refl)

pub took_more : {A : Type 0} (reads : A → Read → Type 0) (given : List A) (a : A) (s t u : BuilderTree) → ConsumedEach reads given s t → Consumed reads a t u → ConsumedEach reads (given ++ a ∷ []) s u
took_more reads given a s t u h k =
    (h.0 ++ k.0 ∷ [], AllZip-push (λ b x. reads b (complete x)) given h.0 a k.0 h.1 k.1, accepted_more h.0 k.0 s t u h.2 k.2, none-more h.0 k.0 s h.3 (ap (item_refusal k.0) (sym h.2.exact) ∙ k.3))

pub refused_some : {U T A : Type 0} (how : Reading U T A) (u : U) (given : List A) (a : A) (e : Error) (s t : BuilderTree)
    → Begins how.becomes how.steps u (given ++ a ∷ []) → ConsumedEach how.reads given s t → Refused how.reads a t e → RefusedSome how u s e
refused_some how u given a e s t b h (inl m) = inl m
refused_some how u given a e s t b h (inr k) =
    inr (h.0, k.0, (given, a, b, h.1, k.1), rw h.3 (ap (read_refusal k.0) (sym h.2.exact) ∙ k.2))

-- one value: its mark says whether it was accepted
pub tried : {A E : Type 0} (reads : A → Read → Type 0) (marks : List Bool) (given : List A) (a : A) (r : Result (Unit {0}) E) (s t u : BuilderTree) → length marks ≡ length given → ConsumedEach reads (items_where_true marks given) s t
    → OnOk r (Consumed reads a t u) → OnErr r (u ≡ t) → ConsumedEach reads (items_where_true (marks ++ is_ok r ∷ []) (given ++ a ∷ [])) s u
tried reads marks given a (Ok v) s t u e h k n = rw (where_true-push marks given a e) (took_more reads (items_where_true marks given) a s t u h k)
tried reads marks given a (Err v) s t u e h k n = rw (where_false-push marks given a e, n) h

-- a check that refuses a prefix of an item refuses the item
some_front : (o q : Option Error) (e : Error) → o ≡ Some e → first_of o q ≡ Some e
some_front o q e h = rw h refl

begun-refused : (xs ys : List Item) (y : Item) (o q : Option Error) (c : BuilderTree) (e : Error) → ((f : Error) → o ≡ Some f → item_refusal y (all_appended xs c) ≡ Some f)
    → first_of (items_refusal (seal_items xs) c) o ≡ Some e → first_of (items_refusal (seal_items (xs ++ y ∷ ys)) c) q ≡ Some e
begun-refused xs ys y o q c e f h =
    some_front (items_refusal (seal_items (xs ++ y ∷ ys)) c) q e
    (items-both xs (y ∷ ys) c ∙ by_case (items_refusal (seal_items xs) c) (item_refusal y (all_appended xs c)) (items_refusal (seal_items ys) (appended y (all_appended xs c))) o f h)
  where
    by_case : (a p r o : Option Error) → ((g : Error) → o ≡ Some g → p ≡ Some g) → first_of a o ≡ Some e → first_of a (first_of p r) ≡ Some e
    by_case None p r o g k = rw (g e k) refl
    by_case (Some a) p r o g k = k

pub read-refused : (r : Read) (x : Item) (t : BuilderTree) (e : Error) → ReadOf r x → read_refusal r t ≡ Some e → item_refusal x t ≡ Some e
read-refused (complete y) x t e b h = rw (← b) h
read-refused (begun xs r) x (flat k ss) e b h = rw b.2 h
read-refused (begun xs r) x (list large k rows c) e b h =
    rw b.2 (begun-refused xs b.1 b.0 (read_refusal r (all_appended xs c)) _ c e (λ f i. read-refused r b.0 (all_appended xs c) f b.3 i) h)
read-refused (begun xs r) x (fixed_size_list k bits c) e b h =
    rw b.2 (begun-refused xs b.1 b.0 (read_refusal r (all_appended xs c)) _ c e (λ f i. read-refused r b.0 (all_appended xs c) f b.3 i) h)
read-refused (begun xs r) x (dictionary i k keys c) e b h = rw b.2 h
read-refused (begun xs r) x (struct k bits cs) e b h = rw b.2 h

-- strings read in order are the strings of the input
item_of : Read → Item
item_of (complete x) = x
item_of (begun xs r) = items.null

read-texts : (given : List (Option (List ℕ))) (xs : List Item) → AllZip (λ a x. ReadsValue items.utf8 a (complete x)) given xs → xs ≡ map (value_item items.utf8) given
unfolding item_of
read-texts [] [] h = refl
read-texts [] (x ∷ xs) h = absurd h
read-texts (a ∷ given) [] h = absurd h
read-texts (a ∷ given) (x ∷ xs) h = let p = ap item_of h.0 in let q = read-texts given xs h.1 in λ i. p i ∷ q i

pub took-texts : (given : List (Option (List ℕ))) (old new : BuilderTree) → ConsumedEach (ReadsValue items.utf8) given old new
    → (new ≡ all_appended (map (value_item items.utf8) given) old) × (items_refusal (seal_items (map (value_item items.utf8) given)) old ≡ None)
took-texts given old new h =
    let e = read-texts given h.0 h.1 in
    (h.2.exact ∙ ap (λ ys. all_appended ys old) e, sym (ap (λ ys. items_refusal (seal_items ys) old) e) ∙ h.3)

-- the accepted items are the items that the iterator yields
pub took-given : {U T A : Type 0} (how : Reading U T A) (u : U) (old new : BuilderTree) → ConsumedAll how u old new
    → (given : List A) × YieldsAll how.becomes how.steps u given × ConsumedEach how.reads given old new
took-given how u old new h = (h.1.0, h.1.1, (h.0, h.1.2, h.2, h.3))

-- strings that are refused are a prefix of the strings that the iterator yields
pub refused-texts : {U T : Type 0} (becomes : U → T → Type 0) (steps : T → Option (Option (List ℕ)) → T → Type 0) (u : U) (old : BuilderTree) (e : Error) → RefusedSome (record { becomes = becomes; steps = steps; reads = ReadsValue items.utf8 }) u old e
    → (e ≡ Memory alloc_error) ⊎ ((front : List (Option (List ℕ))) × (next : Option (List ℕ)) × Begins becomes steps u (front ++ next ∷ [])
    × (items_refusal (seal_items (map (value_item items.utf8) (front ++ next ∷ []))) old ≡ Some e))
refused-texts becomes steps u old e (inl m) = inl m
refused-texts becomes steps u old e (inr k) =
    let p = read-texts k.2.0 k.0 k.2.3 in
    let q = k.2.4 in
    let front = map (value_item items.utf8) k.2.0 in
    let next = value_item items.utf8 k.2.1 in
    let r : first_of (items_refusal (seal_items front) old) (item_refusal next (all_appended front old)) ≡ Some e =
    sym (λ i. first_of (items_refusal (seal_items (p i)) old) (read_refusal (q i) (all_appended (p i) old))) ∙ k.3 in
    inr (
      k.2.0,
      k.2.1,
      k.2.2,
      ap (λ ys. items_refusal (seal_items ys) old) (map-append (value_item items.utf8) k.2.0 (k.2.1 ∷ [])) ∙ items-both front (next ∷ []) old
          ∙ ap (first_of (items_refusal (seal_items front) old)) (first-last (item_refusal next (all_appended front old))) ∙ r,
    )
  where
    first-last : (o : Option Error) → first_of o None ≡ o
    first-last None = refl
    first-last (Some e) = refl
