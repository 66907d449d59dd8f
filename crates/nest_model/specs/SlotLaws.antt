-- Laws of slots: lists of slots as parts of slots, and node counts of concatenated lists.
use Rattle.std.specs.Prelude.{List, [], ◌∷◌, ◌++◌, take, drop, length}
use Rattle.std.proofs.Common.{◌≡◌, ℕ, zero, suc, ◌+◌, ◌≤◌, refl, ap, sym, ◌∙◌, arith}
use Rattle.nest_model.specs.Slot.{Slot, Slots, null, boolean, number, utf8, bytes, list, record_of, pick, no_slots, more_slots, seal, unseal, node_count, count_within, node_counts}

-- `seal` and `unseal` are inverse.
pub unseal-seal : (ss : List Slot) → unseal (seal ss) ≡ ss
unseal-seal [] = refl
unseal-seal (s ∷ ss) = ap (◌∷◌ s) (unseal-seal ss)

pub seal-unseal : (ss : Slots) → seal (unseal ss) ≡ ss
seal-unseal no_slots = refl
seal-unseal (more_slots s ss) = ap (more_slots s) (seal-unseal ss)

pub seal-one : (ss rs : List Slot) → seal ss ≡ seal rs → ss ≡ rs
seal-one ss rs h = sym (unseal-seal ss) ∙ ap unseal h ∙ unseal-seal rs

pub unseal-one : (ss rs : Slots) → unseal ss ≡ unseal rs → ss ≡ rs
unseal-one ss rs h = sym (seal-unseal ss) ∙ ap seal h ∙ seal-unseal rs

-- Node counts.
pub count_within-seal : (ss : List Slot) → count_within (seal ss) ≡ node_counts ss
count_within-seal [] = refl
count_within-seal (s ∷ ss) = ap (λ n. node_count s + n) (count_within-seal ss)

pub node_count-positive : (s : Slot) → 1 ≤ node_count s
node_count-positive null = omega arith
node_count-positive (boolean b) = omega arith
node_count-positive (number zs) = omega arith
node_count-positive (utf8 t) = omega arith
node_count-positive (bytes b) = omega arith
node_count-positive (list ss) = omega arith
node_count-positive (record_of ss) = omega arith
node_count-positive (pick f t s) = omega arith

pub node_counts-append : (ss rs : List Slot) → node_counts (ss ++ rs) ≡ node_counts ss + node_counts rs
node_counts-append [] rs = omega arith
node_counts-append (s ∷ ss) rs = let e = node_counts-append ss rs in omega arith

pub length-node_counts : (ss : List Slot) → length ss ≤ node_counts ss
length-node_counts [] = omega arith
length-node_counts (s ∷ ss) = let e = length-node_counts ss in let p = node_count-positive s in omega arith

-- The node counts of the first n slots and of the others add up.
pub node_counts-split : (ss : List Slot) (n : ℕ) → node_counts (take n ss) + node_counts (drop n ss) ≡ node_counts ss
node_counts-split ss zero = omega arith
node_counts-split [] (suc n) = refl
node_counts-split (s ∷ ss) (suc n) = let e = node_counts-split ss n in omega arith
