-- Lists of runs of one function of indices. Two lists of runs of the same lengths are equal exactly if the
-- concatenated runs are equal.
use Rattle.std.specs.Prelude.{◌↔◌, IsTrue}
use Rattle.std.proofs.Common.{◌≡◌, ℕ, zero, suc, ◌+◌, ◌-◌, ◌<◌, ◌≤◌, Bool, length, ap, sym, ◌∙◌, subst, arith}
use Rattle.nest_model.specs.Accessors.{validity_of, child_of}
use Rattle.nest_model.specs.Layout.{Layout}
use Rattle.nest_model.specs.Meaning.{run, len, slot}
use Rattle.nest_model.specs.Runs.{run-ext, length-run}
use Rattle.nest_model.specs.Slot as slots
use Rattle.nest_model.specs.Slot.{Slot, Slots, seal, node_count, node_counts}
use Rattle.nest_model.specs.SlotLaws.{seal-one, count_within-seal}
use Rattle.nest_flat.specs.SameRuns.{same-at}
use Rattle.nest_array.specs.RowSlots.{AreRows, EachValid, SameBounds, bound_of}
use Rattle.nest_array.proofs.Counts.{nodes-split, nodes-more, same-part, same-joined}

-- the run from bound k to the next bound
abbrev part : (ℕ → Slot) → (ℕ → ℕ) → ℕ → Slots
part f b k = seal (run f (b k) (b (suc k) - b k))

abbrev Rising : (ℕ → ℕ) → ℕ → Type 0
Rising b n = (j : ℕ) → j < n → b j ≤ b (suc j)

abbrev Shifted : (ℕ → ℕ) → (ℕ → ℕ) → ℕ → Type 0
Shifted b c n = (j : ℕ) → j ≤ n → b j + c 0 ≡ c j + b 0

above : (b : ℕ → ℕ) (n k : ℕ) → Rising b n → k ≤ n → b 0 ≤ b k
above b n zero h l = omega arith
above b n (suc k) h l = let x = above b n k h (omega arith) in let y = h k (omega arith) in omega arith

below : (b : ℕ → ℕ) (n k j : ℕ) → Rising b n → n ≡ k + j → b k ≤ b n
below b n k zero h e = let x : k ≡ n = omega arith in let y = ap b x in omega arith
below b n k (suc j) h e = let x = below b n (suc k) j h (omega arith) in let y = h k (omega arith) in omega arith

-- parts of equal lengths have equal distances from the first bound
pub far : (b c : ℕ → ℕ) (n : ℕ) → Rising b n → Rising c n → ((j : ℕ) → j < n → b (suc j) - b j ≡ c (suc j) - c j) → Shifted b c n
far b c n h k e zero l = omega arith
far b c n h k e (suc j) l =
    let x = far b c n h k e j (omega arith) in
    let y = e j (omega arith) in
    let p = h j (omega arith) in
    let q = k j (omega arith) in
    omega arith

-- runs are equal exactly if they are equal part by part
pub whole-same : (f g : ℕ → Slot) (b c : ℕ → ℕ) (n k : ℕ) → Rising b n → Shifted b c n → ((j : ℕ) → j < n → run f (b j) (b (suc j) - b j) ≡ run g (c j) (c (suc j) - c j)) → k ≤ n
    → run f (b 0) (b k - b 0) ≡ run g (c 0) (b k - b 0)
whole-same f g b c n zero h s e l = let z : b 0 - b 0 ≡ 0 = omega arith in ap (run f (b 0)) z ∙ sym (ap (run g (c 0)) z)
whole-same f g b c n (suc k) h s e l =
    let r = whole-same f g b c n k h s e (omega arith) in
    let x = above b n k h (omega arith) in
    let y = h k (omega arith) in
    let p = s k (omega arith) in
    let q = s (suc k) l in
    let u : b 0 + (b k - b 0) ≡ b k = omega arith in
    let v : c 0 + (b k - b 0) ≡ c k = omega arith in
    let w : c (suc k) - c k ≡ b (suc k) - b k = omega arith in
    same-joined f g (b 0) (c 0) (b k - b 0) (b (suc k) - b k) (b (suc k) - b 0) (omega arith) r
    (ap (λ z. run f z (b (suc k) - b k)) u ∙ e k (omega arith) ∙ ap (run g (c k)) w ∙ sym (ap (λ z. run g z (b (suc k) - b k)) v))

pub part-same : (f g : ℕ → Slot) (b c : ℕ → ℕ) (n j : ℕ) → Rising b n → Shifted b c n → run f (b 0) (b n - b 0) ≡ run g (c 0) (b n - b 0) → j < n
    → run f (b j) (b (suc j) - b j) ≡ run g (c j) (c (suc j) - c j)
part-same f g b c n j h s e l =
    let x = above b n j h (omega arith) in
    let y = h j l in
    let t = below b n (suc j) (n - suc j) h (omega arith) in
    let p = s j (omega arith) in
    let q = s (suc j) (omega arith) in
    let u : b 0 + (b j - b 0) ≡ b j = omega arith in
    let v : c 0 + (b j - b 0) ≡ c j = omega arith in
    let w : b (suc j) - b j ≡ c (suc j) - c j = omega arith in
    ap (λ z. run f z (b (suc j) - b j)) (sym u)
    ∙ same-part f g (b 0) (c 0) (b n - b 0) (b j - b 0) (b (suc j) - b j) e (omega arith)
    ∙ ap (λ z. run g z (b (suc j) - b j)) v
    ∙ ap (run g (c j)) w

-- the node count of lists is one each and that of the concatenated run
list-nodes : (s : Slot) (f : ℕ → Slot) (o n : ℕ) → s ≡ slots.list (seal (run f o n)) → node_count s ≡ 1 + node_counts (run f o n)
list-nodes s f o n e = ap node_count e ∙ ap (λ m. 1 + m) (count_within-seal (run f o n))

pub whole-nodes : (r f : ℕ → Slot) (b : ℕ → ℕ) (o n k : ℕ) → Rising b n → ((j : ℕ) → j < n → r (o + j) ≡ slots.list (part f b j)) → k ≤ n
    → node_counts (run r o k) ≡ k + node_counts (run f (b 0) (b k - b 0))
whole-nodes r f b o n zero h e l = let z : b 0 - b 0 ≡ 0 = omega arith in let x = ap (λ m. node_counts (run f (b 0) m)) z in omega arith
whole-nodes r f b o n (suc k) h e l =
    let i = whole-nodes r f b o n k h e (omega arith) in
    let a = nodes-more r o k in
    let z : k + 1 ≡ suc k = omega arith in
    let a' = ap (λ m. node_counts (run r o m)) z in
    let d = list-nodes (r (o + k)) f (b k) (b (suc k) - b k) (e k (omega arith)) in
    let x = above b n k h (omega arith) in
    let y = h k (omega arith) in
    let m = nodes-split f (b 0) (b k - b 0) (b (suc k) - b k) (b (suc k) - b 0) (omega arith) in
    let u : b 0 + (b k - b 0) ≡ b k = omega arith in
    let v = ap (λ w. node_counts (run f w (b (suc k) - b k))) u in
    omega arith

list-one : (xs ys : Slots) → slots.list xs ≡ slots.list ys → xs ≡ ys
list-one xs ys e = cc

-- bounds from an index on
abbrev from : Layout → ℕ → ℕ → ℕ
from a o j = bound_of a (o + j)

from-rising : (a : Layout) (o n : ℕ) → AreRows a → o + n ≤ len a → Rising (from a o) n
from-rising a o n h l j k = let x = h.rises (o + j) (omega arith) in let y : suc (o + j) ≡ o + suc j = omega arith in let z = ap (bound_of a) y in omega arith

from-shown : (a : Layout) (o n j : ℕ) → AreRows a → o + n ≤ len a → EachValid (validity_of a) o n → j < n → slot a (o + j) ≡ slots.list (part (slot (child_of a)) (from a o) j)
from-shown a o n j h l v k =
    let y : suc (o + j) ≡ o + suc j = omega arith in
    h.shown (o + j) (omega arith) (v j k) ∙ ap (λ z. slots.list (seal (run (slot (child_of a)) (bound_of a (o + j)) (bound_of a z - bound_of a (o + j))))) y

from-zero : (a : Layout) (o : ℕ) → from a o 0 ≡ bound_of a o
from-zero a o = ap (bound_of a) (let z : o + 0 ≡ o = omega arith in z)

shifted : (a b : Layout) (o p n : ℕ) → SameBounds a o b p n → Shifted (from a o) (from b p) n
shifted a b o p n s j l = let x = s j l in let y = from-zero a o in let z = from-zero b p in omega arith

unshifted : (a b : Layout) (o p n : ℕ) → Shifted (from a o) (from b p) n → SameBounds a o b p n
unshifted a b o p n s j l = let x = s j l in let y = from-zero a o in let z = from-zero b p in omega arith

parts-same : (a b : Layout) (o p n j : ℕ) → AreRows a → AreRows b → o + n ≤ len a → p + n ≤ len b → EachValid (validity_of a) o n → EachValid (validity_of b) p n
    → run (slot a) o n ≡ run (slot b) p n → j < n
    → run (slot (child_of a)) (from a o j) (from a o (suc j) - from a o j) ≡ run (slot (child_of b)) (from b p j) (from b p (suc j) - from b p j)
parts-same a b o p n j h k l m v w e i =
    seal-one _ _ (list-one _ _ (sym (from-shown a o n j h l v i) ∙ same-at (slot a) (slot b) o p n j e i ∙ from-shown b p n j k m w i))

-- one more list
bounds-at : (a b : Layout) (o p k j d : ℕ) → SameBounds a o b p k → bound_of a (o + (k + 1)) + bound_of b p ≡ bound_of b (p + (k + 1)) + bound_of a o → k + 1 ≡ j + d
    → bound_of a (o + j) + bound_of b p ≡ bound_of b (p + j) + bound_of a o
bounds-at a b o p k j zero h e q =
    let z : k + 1 ≡ j = omega arith in
    subst (λ m. bound_of a (o + m) + bound_of b p ≡ bound_of b (p + m) + bound_of a o) z e
bounds-at a b o p k j (suc d) h e q = h j (omega arith)

pub bounds-more : (a b : Layout) (o p k : ℕ) → SameBounds a o b p k → bound_of a (o + (k + 1)) + bound_of b p ≡ bound_of b (p + (k + 1)) + bound_of a o → SameBounds a o b p (k + 1)
bounds-more a b o p k h e j l = bounds-at a b o p k j (k + 1 - j) h e (omega arith)

-- equal lists have equal numbers of items
pub lists-bounds : (a b : Layout) (o p n : ℕ) → AreRows a → AreRows b → o + n ≤ len a → p + n ≤ len b → EachValid (validity_of a) o n → EachValid (validity_of b) p n
    → run (slot a) o n ≡ run (slot b) p n → SameBounds a o b p n
lists-bounds a b o p n h k l m v w e =
    unshifted a b o p n
    (far (from a o) (from b p) n (from-rising a o n h l) (from-rising b p n k m) (λ j i.
    sym (length-run (slot (child_of a)) (from a o j) (from a o (suc j) - from a o j))
    ∙ ap length (parts-same a b o p n j h k l m v w e i)
    ∙ length-run (slot (child_of b)) (from b p j) (from b p (suc j) - from b p j)))

run-along : (f : ℕ → Slot) (o p n m : ℕ) → o ≡ p → n ≡ m → run f o n ≡ run f p m
run-along f o p n m e h = λ i. run f (e i) (h i)

-- lists with equal numbers of items are equal exactly if all their items are
pub lists-joined : (a b : Layout) (o p n m : ℕ) (r : Bool) → AreRows a → AreRows b → o + n ≤ len a → p + n ≤ len b → EachValid (validity_of a) o n → EachValid (validity_of b) p n
    → SameBounds a o b p n → bound_of a o + m ≡ bound_of a (o + n) → (IsTrue r ↔ (run (slot (child_of a)) (bound_of a o) m ≡ run (slot (child_of b)) (bound_of b p) m))
    → IsTrue r ↔ (run (slot a) o n ≡ run (slot b) p n)
lists-joined a b o p n m r h k l i v w s e d =
    let f = slot (child_of a) in
    let g = slot (child_of b) in
    let x = from-zero a o in
    let y = from-zero b p in
    let z : m ≡ from a o n - from a o 0 = omega arith in
    let up = from-rising a o n h l in
    let sh = shifted a b o p n s in
    let left : run f (bound_of a o) m ≡ run f (from a o 0) (from a o n - from a o 0) = run-along f _ _ _ _ (sym x) z in
    let right : run g (bound_of b p) m ≡ run g (from b p 0) (from a o n - from a o 0) = run-along g _ _ _ _ (sym y) z in (
      λ t.
          run-ext (slot a) (slot b) o p n (λ j q.
          from-shown a o n j h l v q
          ∙ ap (λ ss. slots.list (seal ss)) (part-same f g (from a o) (from b p) n j up sh (sym left ∙ d.0 t ∙ right) q)
          ∙ sym (from-shown b p n j k i w q)),
      λ u. d.1 (left ∙ whole-same f g (from a o) (from b p) n n up sh (λ j q. parts-same a b o p n j h k l i v w u q) (omega arith) ∙ sym right),
    )

pub lists-nodes : (a : Layout) (o n m : ℕ) → AreRows a → o + n ≤ len a → EachValid (validity_of a) o n → bound_of a o + m ≡ bound_of a (o + n)
    → node_counts (run (slot a) o n) ≡ n + node_counts (run (slot (child_of a)) (bound_of a o) m)
lists-nodes a o n m h l v e =
    let x = from-zero a o in
    let z : from a o n - from a o 0 ≡ m = omega arith in
    whole-nodes (slot a) (slot (child_of a)) (from a o) o n n (from-rising a o n h l) (λ j q. from-shown a o n j h l v q) (omega arith)
    ∙ ap (λ ss. n + node_counts ss) (run-along (slot (child_of a)) _ _ _ _ x z)

-- no bound is past the last one
rows-below : (a : Layout) (k j : ℕ) → AreRows a → len a ≡ k + j → bound_of a k ≤ bound_of a (len a)
rows-below a k zero h e = let x : k ≡ len a = omega arith in let y = ap (bound_of a) x in omega arith
rows-below a k (suc j) h e = let x = rows-below a (suc k) j h (omega arith) in let y = h.rises k (omega arith) in omega arith

pub rows-within : (a : Layout) (k : ℕ) → AreRows a → k ≤ len a → bound_of a k ≤ len (child_of a)
rows-within a k h l = let x = rows-below a k (len a - k) h (omega arith) in let y = h.ends in omega arith

pub items-along : (c d : Layout) (o p n : ℕ) → c ≡ d → o ≡ p → run (slot c) o n ≡ run (slot d) p n
items-along c d o p n e h = λ i. run (slot (e i)) (h i) n
