-- The builders in a list as part of a tree: facts of all of them from facts of each.
use Rattle.std.specs.Prelude.{List as Seq, [], ◌∷◌, Bool, true, false, ◌||◌, ◌⊎◌, alloc_error}
use Rattle.std.proofs.Common.{◌≡◌, ℕ, zero, suc, ◌+◌, ◌<◌, ◌≤◌, ltb, length, get_or, set, refl, sym, ap, ◌∙◌, arith, inl, inr}
use Rattle.std.proofs.lemmas.List.{get_or-set_same, get_or-set_other, get_or_default, length-set}
use Rattle.std.proofs.lemmas.Bool.{ltb-true, ltb-false}
use Rattle.nest_memory.specs.declared.error.Error.{Error}
use Rattle.nest_memory.specs.declared.error.Error.TheVariants.{Memory, Overflow}
use Rattle.nest_model.specs.BuilderTree.{BuilderTree, BuilderTrees, no_builders, more_builders, builder_len}
use Rattle.nest_model.specs.BuilderComplete.{IsComplete, AreComplete, truncate_builder, truncate_builders, emptied, emptied_each}
use Rattle.nest_model.specs.BuilderTruncateLaws.{cut-complete}
use Rattle.nest_model.specs.BuilderAppend.{nulls_appended, nulls_appended_each}
use Rattle.nest_model.specs.BuilderAcceptLaws.{accepted-nulls, len-nulls, complete-nulls}
use Rattle.nest_model.specs.BuilderRefusals.{nulls_pass, nulls_pass_each}
use Rattle.nest_model.specs.BuilderAddRow.{AreEachComplete}
use Rattle.nest_any.specs.BuilderCode.{weight, weight_all}
use Rattle.nest_any.specs.Each.{each}
use Rattle.nest_any.specs.Refusals.{AreEachLong}

pub weight-at : {A : Type 0} (f : A → BuilderTree) (xs : Seq A) (i : ℕ) (d : A) → i < length xs → weight (f (get_or xs i d)) < weight_all (each f xs)
weight-at f [] i d h = absurd (omega arith)
weight-at f (x ∷ xs) zero d h = omega arith
weight-at f (x ∷ xs) (suc i) d h = omega (arith, weight-at f xs i d (omega arith))

pub same-all : {A : Type 0} (f : A → BuilderTree) (xs ys : Seq A) → length xs ≡ length ys → ((k : ℕ) (d : A) → k < length ys → f (get_or xs k d) ≡ f (get_or ys k d)) → each f xs ≡ each f ys
same-all f [] [] e h = refl
same-all f [] (y ∷ ys) e h = absurd (omega arith)
same-all f (x ∷ xs) [] e h = absurd (omega arith)
same-all f (x ∷ xs) (y ∷ ys) e h =
    let a : f x ≡ f y = h 0 x (omega arith) in
    let b = same-all f xs ys (omega arith) (λ k d l. h (suc k) d (omega arith)) in
    cc

-- one builder replaced by another with the same tree
pub each-set : {A : Type 0} (f : A → BuilderTree) (xs : Seq A) (i : ℕ) (y d : A) → f y ≡ f (get_or xs i d) → each f (set xs i y) ≡ each f xs
each-set f [] i y d h = refl
each-set f (x ∷ xs) zero y d h = ap (λ t. more_builders t (each f xs)) h
each-set f (x ∷ xs) (suc i) y d h = ap (more_builders (f x)) (each-set f xs i y d h)

pub set-at : {A : Type 0} (f : A → BuilderTree) (xs : Seq A) (i k : ℕ) (y d e : A) → i < length xs → f y ≡ f (get_or xs i e) → f (get_or (set xs i y) k d) ≡ f (get_or xs k d)
set-at f [] i k y d e l h = absurd (omega arith)
set-at f (x ∷ xs) zero zero y d e l h = h
set-at f (x ∷ xs) zero (suc k) y d e l h = refl
set-at f (x ∷ xs) (suc i) zero y d e l h = refl
set-at f (x ∷ xs) (suc i) (suc k) y d e l h = set-at f xs i k y d e (omega arith) h

-- a fact of each tree before index i, and of the tree at i
pub below-next : {A : Type 0} (f : A → BuilderTree) (P : BuilderTree → Type 0) (xs : Seq A) (i : ℕ) (x : A) → i < length xs → ((k : ℕ) (d : A) → k < i → P (f (get_or xs k d))) → P (f (get_or xs i x)) → (k : ℕ) (d : A) → k < i + 1 → P (f (get_or xs k d))
below-next f P [] i x l h q k d b = absurd (omega arith)
below-next f P (y ∷ ys) zero x l h q zero d b = q
below-next f P (y ∷ ys) zero x l h q (suc k) d b = absurd (omega (arith, b))
below-next f P (y ∷ ys) (suc i) x l h q zero d b = h zero d (omega arith)
below-next f P (y ∷ ys) (suc i) x l h q (suc k) d b = below-next f P ys i x (omega arith) (λ j e c. h (suc j) e (omega (arith, c))) q k d (omega (arith, b))

pub done-next : {A : Type 0} (f : A → BuilderTree) (g : BuilderTree → BuilderTree) (xs ys : Seq A) (i : ℕ) (y x : A) → length xs ≡ length ys → i < length ys → ((k : ℕ) (d : A) → k < i → f (get_or xs k d) ≡ g (f (get_or ys k d)))
    → f y ≡ g (f (get_or ys i x)) → (k : ℕ) (d : A) → k < i + 1 → f (get_or (set xs i y) k d) ≡ g (f (get_or ys k d))
done-next f g [] [] i y x e l h q k d b = absurd (omega arith)
done-next f g [] (v ∷ ys) i y x e l h q k d b = absurd (omega arith)
done-next f g (u ∷ xs) [] i y x e l h q k d b = absurd (omega arith)
done-next f g (u ∷ xs) (v ∷ ys) zero y x e l h q zero d b = q
done-next f g (u ∷ xs) (v ∷ ys) zero y x e l h q (suc k) d b = absurd (omega (arith, b))
done-next f g (u ∷ xs) (v ∷ ys) (suc i) y x e l h q zero d b = h zero d (omega arith)
done-next f g (u ∷ xs) (v ∷ ys) (suc i) y x e l h q (suc k) d b = done-next f g xs ys i y x (omega arith) (omega arith) (λ j a c. h (suc j) a (omega (arith, c))) q k d (omega (arith, b))

pub left-next : {A : Type 0} (xs ys : Seq A) (i : ℕ) (y : A) → ((k : ℕ) (d : A) → i ≤ k → get_or xs k d ≡ get_or ys k d) → (k : ℕ) (d : A) → i + 1 ≤ k → get_or (set xs i y) k d ≡ get_or ys k d
left-next xs ys i y h k d b = get_or-set_other xs i k y d (λ r. omega (arith, b, r)) ∙ h k d (omega (arith, b))

pub cut-all : {A : Type 0} (f : A → BuilderTree) (xs ys : Seq A) (n : ℕ) → length xs ≡ length ys → ((k : ℕ) (d : A) → k < length ys → f (get_or xs k d) ≡ truncate_builder (f (get_or ys k d)) n) → each f xs ≡ truncate_builders (each f ys) n
cut-all f [] [] n e h = refl
cut-all f [] (y ∷ ys) n e h = absurd (omega arith)
cut-all f (x ∷ xs) [] n e h = absurd (omega arith)
cut-all f (x ∷ xs) (y ∷ ys) n e h =
    let a : f x ≡ truncate_builder (f y) n = h 0 x (omega arith) in
    let b = cut-all f xs ys n (omega arith) (λ k d l. h (suc k) d (omega arith)) in
    cc

-- truncation restores the former trees
pub back-all : {A : Type 0} (f : A → BuilderTree) (xs ys : Seq A) (n : ℕ) → length xs ≡ length ys → ((k : ℕ) (d : A) → k < length ys → truncate_builder (f (get_or xs k d)) n ≡ f (get_or ys k d)) → truncate_builders (each f xs) n ≡ each f ys
back-all f [] [] n e h = refl
back-all f [] (y ∷ ys) n e h = absurd (omega arith)
back-all f (x ∷ xs) [] n e h = absurd (omega arith)
back-all f (x ∷ xs) (y ∷ ys) n e h =
    let a : truncate_builder (f x) n ≡ f y = h 0 x (omega arith) in
    let b = back-all f xs ys n (omega arith) (λ k d l. h (suc k) d (omega arith)) in
    cc

pub emptied-all : {A : Type 0} (f : A → BuilderTree) (xs ys : Seq A) → length xs ≡ length ys → ((k : ℕ) (d : A) → k < length ys → f (get_or xs k d) ≡ emptied (f (get_or ys k d))) → each f xs ≡ emptied_each (each f ys)
emptied-all f [] [] e h = refl
emptied-all f [] (y ∷ ys) e h = absurd (omega arith)
emptied-all f (x ∷ xs) [] e h = absurd (omega arith)
emptied-all f (x ∷ xs) (y ∷ ys) e h =
    let a : f x ≡ emptied (f y) = h 0 x (omega arith) in
    let b = emptied-all f xs ys (omega arith) (λ k d l. h (suc k) d (omega arith)) in
    cc

pub nulls-all : {A : Type 0} (f : A → BuilderTree) (xs ys : Seq A) (n : ℕ) → length xs ≡ length ys → ((k : ℕ) (d : A) → k < length ys → f (get_or xs k d) ≡ nulls_appended n (f (get_or ys k d))) → each f xs ≡ nulls_appended_each n (each f ys)
nulls-all f [] [] n e h = refl
nulls-all f [] (y ∷ ys) n e h = absurd (omega arith)
nulls-all f (x ∷ xs) [] n e h = absurd (omega arith)
nulls-all f (x ∷ xs) (y ∷ ys) n e h =
    let a : f x ≡ nulls_appended n (f y) = h 0 x (omega arith) in
    let b = nulls-all f xs ys n (omega arith) (λ k d l. h (suc k) d (omega arith)) in
    cc

pub complete-at : {A : Type 0} (f : A → BuilderTree) (xs : Seq A) (n k : ℕ) (d : A) → AreComplete (each f xs) n → k < length xs → IsComplete (f (get_or xs k d)) × (builder_len (f (get_or xs k d)) ≡ n)
complete-at f [] n k d h l = absurd (omega arith)
complete-at f (x ∷ xs) n zero d h l = (h.0, h.1)
complete-at f (x ∷ xs) n (suc k) d h l = complete-at f xs n k d h.2 (omega arith)

pub each_whole-at : {A : Type 0} (f : A → BuilderTree) (xs : Seq A) (k : ℕ) (d : A) → AreEachComplete (each f xs) → k < length xs → IsComplete (f (get_or xs k d))
each_whole-at f [] k d h l = absurd (omega arith)
each_whole-at f (x ∷ xs) zero d h l = h.0
each_whole-at f (x ∷ xs) (suc k) d h l = each_whole-at f xs k d h.1 (omega arith)

pub complete-each : (cs : BuilderTrees) (n : ℕ) → AreComplete cs n → AreEachComplete cs
complete-each no_builders n w = tt
complete-each (more_builders c cs) n w = (w.0, complete-each cs n w.2)

pub long-at : {A : Type 0} (f : A → BuilderTree) (xs : Seq A) (n k : ℕ) (d : A) → AreEachLong (each f xs) n → k < length xs → IsComplete (f (get_or xs k d)) × (n ≤ builder_len (f (get_or xs k d)))
long-at f [] n k d h l = absurd (omega arith)
long-at f (x ∷ xs) n zero d h l = (h.0, h.1)
long-at f (x ∷ xs) n (suc k) d h l = long-at f xs n k d h.2 (omega arith)

pub long-all : {A : Type 0} (f : A → BuilderTree) (xs : Seq A) (n : ℕ) → ((k : ℕ) (d : A) → k < length xs → IsComplete (f (get_or xs k d)) × (n ≤ builder_len (f (get_or xs k d)))) → AreEachLong (each f xs) n
long-all f [] n h = tt
long-all f (x ∷ xs) n h = ((h 0 x (omega arith)).0, (h 0 x (omega arith)).1, long-all f xs n (λ k d l. h (suc k) d (omega arith)))

pub long-complete : (cs : BuilderTrees) (m n : ℕ) → AreComplete cs m → n ≤ m → AreEachLong cs n
long-complete no_builders m n w l = tt
long-complete (more_builders c cs) m n w l = (w.0, omega (arith, w.1), long-complete cs m n w.2 l)

-- truncation removes the appended nulls
pub nulls-undone : (n : ℕ) (t : BuilderTree) → IsComplete t → truncate_builder (nulls_appended n t) (builder_len t) ≡ t
nulls-undone n t w = (accepted-nulls t n w).undo

pub each-undone : (cs : BuilderTrees) (n : ℕ) → AreComplete cs n → truncate_builders (nulls_appended_each 1 cs) n ≡ cs
each-undone no_builders n w = refl
each-undone (more_builders c cs) n w = rw (each-undone cs n w.2, ← w.1, nulls-undone 1 c w.0) refl

complete-nulls-all : (cs : BuilderTrees) (n : ℕ) → AreComplete cs n → AreComplete (nulls_appended_each 1 cs) (n + 1)
complete-nulls-all no_builders n w = tt
complete-nulls-all (more_builders c cs) n w = (complete-nulls 1 c w.0, omega (arith, w.1, len-nulls 1 c), complete-nulls-all cs n w.2)

-- children with an appended null can be truncated to what they were
pub long-took : (cs : BuilderTrees) (n : ℕ) → AreComplete cs n → AreEachLong (nulls_appended_each 1 cs) n
long-took cs n w = long-complete (nulls_appended_each 1 cs) (n + 1) n (complete-nulls-all cs n w) (omega arith)

-- truncation restores a child that is unchanged or has an appended null
settled : (a b : BuilderTree) (n : ℕ) → IsComplete a → builder_len a ≡ n → (b ≡ a) ⊎ (b ≡ nulls_appended 1 a) → (IsComplete b × (n ≤ builder_len b)) × (truncate_builder b n ≡ a)
settled a b n w e (inl q) = rw q ((w, omega (arith, e)), rw (← e) (cut-complete a w))
settled a b n w e (inr q) = rw q ((complete-nulls 1 a w, omega (arith, e, len-nulls 1 a)), rw (← e) (nulls-undone 1 a w))

refused-at : {A : Type 0} (f : A → BuilderTree) (old now : Seq A) (i k : ℕ) (x y d : A) (b c : Bool) → ltb k i ≡ b → ltb i k ≡ c → length now ≡ length old → i < length old → ((j : ℕ) (e : A) → i ≤ j → get_or now j e ≡ get_or old j e)
    → ((j : ℕ) (e : A) → j < i → f (get_or now j e) ≡ nulls_appended 1 (f (get_or old j e))) → x ≡ get_or now i x → f y ≡ f x
    → (f (get_or (set now i y) k d) ≡ f (get_or old k d)) ⊎ (f (get_or (set now i y) k d) ≡ nulls_appended 1 (f (get_or old k d)))
refused-at f old now i k x y d true c p q e l g h s m =
    let lt : k < i = ltb-true k i p in
    rw (get_or-set_other now i k y d (λ r. omega arith)) (inr (h k d lt))
refused-at f old now i k x y d false true p q e l g h s m =
    let lt : i < k = ltb-true i k q in
    rw (get_or-set_other now i k y d (λ r. omega arith)) (inl (ap f (g k d (omega arith))))
refused-at f old now i k x y d false false p q e l g h s m =
    let same : k ≡ i = omega (arith, ltb-false k i p, ltb-false i k q) in
    rw same (rw (get_or-set_same now i y d (omega (arith, e, l))) (inl (m ∙ ap f (s ∙ (g i x (omega arith) ∙ get_or_default old i x d l)))))

-- one child refused: those before it have an appended null, those after it are unchanged
pub refused : {A : Type 0} (f : A → BuilderTree) (old now : Seq A) (i n : ℕ) (x y : A) → length now ≡ length old → i < length old → AreComplete (each f old) n → ((j : ℕ) (e : A) → i ≤ j → get_or now j e ≡ get_or old j e)
    → ((j : ℕ) (e : A) → j < i → f (get_or now j e) ≡ nulls_appended 1 (f (get_or old j e))) → x ≡ get_or now i x → f y ≡ f x
    → AreEachLong (each f (set now i y)) n × (truncate_builders (each f (set now i y)) n ≡ each f old)
refused {A = A} f old now i n x y e l w g h s m =
    let size_now : length (set now i y) ≡ length old = length-set now i y ∙ e in
    let at = λ (k : ℕ) (d : A) (r : k < length old). settled (f (get_or old k d)) (f (get_or (set now i y) k d)) n (complete-at f old n k d w r).0 (complete-at f old n k d w r).1 (refused-at f old now i k x y d (ltb k i) (ltb i k) refl refl e l g h s m) in
    (long-all f (set now i y) n (λ k d r. (at k d (omega (arith, r, size_now))).0), back-all f (set now i y) old n size_now (λ k d r. (at k d r).1))

-- nulls that exceed a limit, in one child or in none
pub pass-at : {A : Type 0} (f : A → BuilderTree) (xs : Seq A) (n i : ℕ) (d : A) → nulls_pass n (f (get_or xs i d)) ≡ true → i < length xs → nulls_pass_each n (each f xs) ≡ true
pass-at f [] n i d h l = absurd (omega arith)
pass-at f (x ∷ xs) n zero d h l = rw h refl
pass-at f (x ∷ xs) n (suc i) d h l = or-true (nulls_pass n (f x)) (nulls_pass_each n (each f xs)) (pass-at f xs n i d h (omega arith))
  where
    or-true : (a b : Bool) → b ≡ true → (a || b) ≡ true
    or-true true b h = refl
    or-true false b h = h

pub pass-none : {A : Type 0} (f : A → BuilderTree) (xs : Seq A) (n : ℕ) → ((k : ℕ) (d : A) → k < length xs → nulls_pass n (f (get_or xs k d)) ≡ false) → nulls_pass_each n (each f xs) ≡ false
pass-none f [] n h = refl
pass-none f (x ∷ xs) n h =
    let a : nulls_pass n (f x) ≡ false = h 0 x (omega arith) in
    let b = pass-none f xs n (λ k d l. h (suc k) d (omega arith)) in
    rw (a, b) refl

-- the nulls exceed the limit of one child
pub child-passes : {A : Type 0} (f : A → BuilderTree) (xs : Seq A) (i : ℕ) (d : A) (t : BuilderTree) (e : Error) → i < length xs → t ≡ f (get_or xs i d) → (e ≡ Memory alloc_error) ⊎ ((e ≡ Overflow) × (nulls_pass 1 t ≡ true))
    → (e ≡ Memory alloc_error) ⊎ ((e ≡ Overflow) × (nulls_pass_each 1 (each f xs) ≡ true))
child-passes f xs i d t e l s (inl m) = inl m
child-passes f xs i d t e l s (inr p) = inr (p.0, pass-at f xs 1 i d (ap (nulls_pass 1) (sym s) ∙ p.1) l)
