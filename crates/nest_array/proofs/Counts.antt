-- Comparison counts of consecutive tests, and node counts of runs.
use Rattle.std.specs.Prelude.{◌↔◌, ◌≢◌, IfNone, IfSome, IsTrue, is_some, [], ◌∷◌}
use Rattle.std.proofs.Common.{◌≡◌, Option, None, Some, ℕ, zero, suc, ◌+◌, ◌-◌, ◌<◌, ◌≤◌, Bool, true, false, refl, ap, sym, ◌∙◌, subst, arith}
use Rattle.nest_model.specs.Accessors.{validity_of}
use Rattle.nest_model.specs.Layout.{Layout}
use Rattle.nest_model.specs.Meaning.{run, slot}
use Rattle.nest_model.specs.Slot as slots
use Rattle.nest_model.specs.Slot.{Slot, Slots, node_count, node_counts, CountsComparisons}
use Rattle.nest_model.specs.SlotLaws.{node_count-positive}
use Rattle.nest_model.specs.Runs.{run-ext}
use Rattle.nest_flat.specs.BareSlots.{bare, slot-bare}
use Rattle.nest_flat.specs.SameRuns.{same-at}
use Rattle.nest_array.specs.RowSlots.{EachValid}

pub tells-none : (a : ℕ) → CountsComparisons true a a 0
tells-none a = record { most = omega arith; all = λ t. omega arith }

pub tells-more : (x : Bool) (a b c m n k : ℕ) → CountsComparisons true a b m → CountsComparisons x b c n → m + n ≡ k → CountsComparisons x a c k
tells-more x a b c m n k s u e =
    record {
      most = omega (arith, s.most, u.most);
      all = λ t. let p : b ≡ a + m = s.all refl in let q : c ≡ b + n = u.all t in omega arith;
    }

pub tells-stop : (a b c m n k : ℕ) → CountsComparisons true a b m → CountsComparisons false b c n → m + n ≤ k → CountsComparisons false a c k
tells-stop a b c m n k s u e = record { most = omega (arith, s.most, u.most); all = λ t. let u : false ≡ true = t in cc }

pub tells-as : (x : Bool) (a b m k : ℕ) → CountsComparisons x a b m → m ≡ k → CountsComparisons x a b k
tells-as x a b m k s e = subst (CountsComparisons x a b) e s

pub tells-when : (x y : Bool) (a b m : ℕ) → x ≡ y → CountsComparisons x a b m → CountsComparisons y a b m
tells-when x y a b m e s = subst (λ z. CountsComparisons z a b m) e s

pub tells-exact : (x : Bool) (a b n : ℕ) → b ≡ a + n → CountsComparisons x a b n
tells-exact x a b n e = record { most = omega arith; all = λ t. e }

pub tells-stopped : (a b n k : ℕ) → b ≤ a + n → n ≤ k → CountsComparisons false a b k
tells-stopped a b n k e h = record { most = omega arith; all = λ t. let u : false ≡ true = t in cc }

-- one comparison, then more
pub tells-after : (x : Bool) (a b c n k : ℕ) → b ≡ a + 1 → CountsComparisons x b c n → k ≡ 1 + n → CountsComparisons x a c k
tells-after x a b c n k e u h = record { most = omega (arith, u.most); all = λ t. let q : c ≡ b + n = u.all t in omega arith }

-- the node count of a run is the sum of those of its parts
pub nodes-split : (f : ℕ → Slot) (o m k q : ℕ) → q ≡ m + k → node_counts (run f o q) ≡ node_counts (run f o m) + node_counts (run f (o + m) k)
nodes-split f o zero k q e = let a : q ≡ k = omega arith in let b : o ≡ o + 0 = omega arith in let x = ap (λ z. node_counts (run f o z)) a in let y = ap (λ z. node_counts (run f z k)) b in omega arith
nodes-split f o (suc m) k zero e = absurd (omega arith)
nodes-split f o (suc m) k (suc q) e =
    let h = nodes-split f (suc o) m k q (omega arith) in
    let a : suc o + m ≡ o + suc m = omega arith in
    let b = ap (λ z. node_counts (run f z k)) a in
    omega arith

pub nodes-one : (f : ℕ → Slot) (o : ℕ) → node_counts (run f o 1) ≡ node_count (f o)
nodes-one f o = omega arith

pub nodes-more : (f : ℕ → Slot) (o k : ℕ) → node_counts (run f o (k + 1)) ≡ node_counts (run f o k) + node_count (f (o + k))
nodes-more f o k = nodes-split f o k 1 (k + 1) refl ∙ ap (λ z. node_counts (run f o k) + z) (nodes-one f (o + k))

pub nodes-fit : (f : ℕ → Slot) (o k n : ℕ) → k < n → node_counts (run f o k) + node_count (f (o + k)) ≤ node_counts (run f o n)
nodes-fit f o k n h =
    let a = nodes-split f o (k + 1) (n - (k + 1)) n (omega arith) in
    let b = nodes-more f o k in
    omega arith

pub nodes-least : (f : ℕ → Slot) (o n : ℕ) → n ≤ node_counts (run f o n)
nodes-least f o zero = omega arith
nodes-least f o (suc n) = let a = nodes-least f (suc o) n in let b = node_count-positive (f o) in omega arith

-- the node count of a run of slots of node count 1
pub nodes-flat : (f : ℕ → Slot) (o n : ℕ) → ((i : ℕ) → node_count (f i) ≡ 1) → node_counts (run f o n) ≡ n
nodes-flat f o zero h = refl
nodes-flat f o (suc n) h = let a = nodes-flat f (suc o) n h in let b = h o in omega arith

-- parts of equal runs are equal
pub same-part : (f g : ℕ → Slot) (o p n a k : ℕ) → run f o n ≡ run g p n → a + k ≤ n → run f (o + a) k ≡ run g (p + a) k
same-part f g o p n a k e h =
    run-ext f g (o + a) (p + a) k
    (λ i l.
    let x : o + a + i ≡ o + (a + i) = omega arith in
    let y : p + a + i ≡ p + (a + i) = omega arith in
    ap f x ∙ same-at f g o p n (a + i) e (omega arith) ∙ sym (ap g y))

pub same-joined : (f g : ℕ → Slot) (o p m k q : ℕ) → q ≡ m + k → run f o m ≡ run g p m → run f (o + m) k ≡ run g (p + m) k → run f o q ≡ run g p q
same-joined f g o p zero k q e a b =
    let x : q ≡ k = omega arith in
    let y : o ≡ o + 0 = omega arith in
    let z : p ≡ p + 0 = omega arith in
    ap (run f o) x ∙ ap (λ w. run f w k) y ∙ b ∙ sym (ap (λ w. run g w k) z) ∙ sym (ap (run g p) x)
same-joined f g o p (suc m) k zero e a b = absurd (omega arith)
same-joined f g o p (suc m) k (suc q) e a b =
    let x : o + 0 ≡ o = omega arith in
    let y : p + 0 ≡ p = omega arith in
    let c : f o ≡ g p = sym (ap f x) ∙ same-at f g o p (suc m) 0 a (omega arith) ∙ ap g y in
    let u : o + 1 ≡ suc o = omega arith in
    let v : p + 1 ≡ suc p = omega arith in
    let d : run f (suc o) m ≡ run g (suc p) m = sym (ap (λ w. run f w m) u) ∙ same-part f g o p (suc m) 1 m a (omega arith) ∙ ap (λ w. run g w m) v in
    let s : suc o + m ≡ o + suc m = omega arith in
    let t : suc p + m ≡ p + suc m = omega arith in
    let r = same-joined f g (suc o) (suc p) m k q (omega arith) d (ap (λ w. run f w k) s ∙ b ∙ sym (ap (λ w. run g w k) t)) in
    λ i. c i ∷ r i

pub same-more : (f g : ℕ → Slot) (o p k : ℕ) → run f o k ≡ run g p k → f (o + k) ≡ g (p + k) → run f o (k + 1) ≡ run g p (k + 1)
same-more f g o p k e h = same-joined f g o p k 1 (k + 1) refl e (ap (λ (s : Slot). s ∷ []) h)

-- the comparisons up to index k of a run, if it continues and if it stops
pub comparisons-more : (f : ℕ → Slot) (o k old s new m : ℕ) (r : Bool) → r ≡ true → s ≡ old + node_counts (run f o k) → CountsComparisons r s new m → m ≡ node_count (f (o + k)) → new ≡ old + node_counts (run f o (k + 1))
comparisons-more f o k old s new m r h e t g = let a : new ≡ s + m = t.all h in let b = nodes-more f o k in omega arith

pub comparisons-stops : (f : ℕ → Slot) (o k n old s new m : ℕ) (r : Bool) → r ≡ false → k < n → s ≡ old + node_counts (run f o k) → CountsComparisons r s new m → m ≡ node_count (f (o + k)) → CountsComparisons false old new (node_counts (run f o n))
comparisons-stops f o k n old s new m r h l e t g = tells-stop old s new (node_counts (run f o k)) m _ (tells-exact true old s _ e) (tells-when r false s new m h t) (let b = nodes-fit f o k n l in omega arith)

-- one comparison if a test decides whether the slot is null
pub null-shown : (r : Bool) (s : Slot) (old new : ℕ) → new ≡ old + 1 → (IsTrue r ↔ (s ≡ slots.null)) → CountsComparisons r old new (node_count s)
null-shown r s old new e h = record { most = let p = node_count-positive s in omega arith; all = λ t. let a = ap node_count (h.0 t) in omega arith }

-- raw values of valid slots are the slots
pub bare-run : (a : Layout) (o n : ℕ) → EachValid (validity_of a) o n → run (slot (bare a)) o n ≡ run (slot a) o n
bare-run a o n v = run-ext (slot (bare a)) (slot a) o o n (λ i l. slot-bare a (o + i) (v i l))

-- a test of a part, as a test of the complete run
pub part-differs : (f g : ℕ → Slot) (o p n k m : ℕ) (r : Bool) → (IsTrue r ↔ (run f (o + k) m ≡ run g (p + k) m)) → r ≡ false → k + m ≤ n → IsTrue false ↔ (run f o n ≡ run g p n)
part-differs f g o p n k m r d h l = (λ t. cc, λ e. sym h ∙ d.1 (same-part f g o p n k m e l))

pub rest-decides : (f g : ℕ → Slot) (o p n k : ℕ) (r : Bool) → run f o k ≡ run g p k → (IsTrue r ↔ (run f (o + k) (n - k) ≡ run g (p + k) (n - k))) → k ≤ n → IsTrue r ↔ (run f o n ≡ run g p n)
rest-decides f g o p n k r e d l = (λ t. same-joined f g o p k (n - k) n (omega arith) e (d.0 t), λ h. d.1 (same-part f g o p n k (n - k) h (omega arith)))

-- a test of complete blocks, as a test of the run after the equal blocks
pub blocks-decide : (f g : ℕ → Slot) (o p n k : ℕ) (r : Option ℕ) (b : Bool) → k ≤ n → run f o k ≡ run g p k → b ≡ is_some r → IfSome r (λ m. (m ≤ n - k) × (n - k < m + 1)) → IfSome r (λ m. run f (o + k) m ≡ run g (p + k) m) → IfNone r (run f (o + k) (n - k) ≢ run g (p + k) (n - k)) → IsTrue b ↔ (run f o n ≡ run g p n)
blocks-decide f g o p n k None b l e h w s d = rest-decides f g o p n k b e (λ t. let u : false ≡ true = sym h ∙ t in cc, λ q. absurd (d q)) l
blocks-decide f g o p n k (Some m) b l e h w s d = let m-all : m ≡ n - k = omega (arith, w.0, w.1) in rest-decides f g o p n k b e (λ t. subst (λ z. run f (o + k) z ≡ run g (p + k) z) m-all s, λ q. h) l
