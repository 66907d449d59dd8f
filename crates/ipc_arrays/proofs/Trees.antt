-- The recursion over windows and their children.
use Rattle.std.proofs.Common.{◌≡◌, ℕ, zero, suc, ◌+◌, ◌<◌, ◌≤◌, List, [], ◌∷◌, ◌++◌, length, get_or, take, drop, sym, ap, subst, ◌∙◌, append_assoc, arith}
use Rattle.std.specs.List.{AllByRecursion, sum_by}
use Rattle.std.proofs.lemmas.List.{append-nil}
use Rattle.std.proofs.lemmas.List.Sums.{sum_by-cons}
use Rattle.nest_model.specs.Layout.{Layout}
use Rattle.nest_array.specs.WindowParts.{WindowParts}
use Rattle.ipc_arrays.specs.BodyBuffers.{body_of}
use Rattle.ipc_arrays.specs.BodyBufferLaws.{body_append, body_none}
use Rattle.ipc_flatbuf.specs.declared.error.IpcWriteError.{IpcWriteError}
use Rattle.nest_model.specs.Meaning.{len}
use Rattle.ipc_arrays.specs.declared.layout.BodyLayout.{BodyLayout}
use Rattle.ipc_arrays.specs.RoundTripLaws.{buffers_append, buffers_none, buffers_more}
use Rattle.ipc_arrays.specs.ReplacedValues.{WindowRoundTripsOverExtensions}
use Rattle.ipc_arrays.specs.NormalizedLaws.{load, normalized_len, arrays_normalized, written_more, written_none}
use Rattle.ipc_arrays.specs.Encoding.{preorder, own_buffers, buffers_of, normalized_slice, normalized_window, windows_below, window_arrays, IsBufferError, IsArrayError, AppendsArrays}
use Rattle.ipc_arrays.proofs.Covers.{next_place}
use Rattle.ipc_arrays.proofs.Bodies.{more_append, long_front, long_behind, long_slots, long_buffers}

pub load_at : (ws : List WindowParts) (i : ℕ) (w : WindowParts) → i < length ws → w ≡ get_or ws i w → load w ≤ sum_by load ws
load_at [] i w lt is = absurd (omega arith)
load_at (v ∷ ws) zero w lt is = omega (arith, ap load is, sum_by-cons load v ws)
load_at (v ∷ ws) (suc i) w lt is = omega (arith, load_at ws i w (omega arith) is, sum_by-cons load v ws)

written_taken_next : (ws : List WindowParts) (i : ℕ) (w : WindowParts) → i < length ws → w ≡ get_or ws i w → window_arrays (take (suc i) ws) ≡ window_arrays (take i ws) ++ preorder (normalized_window w)
written_taken_next [] i w lt is = absurd (omega arith)
written_taken_next (v ∷ ws) zero w lt is =
    written_more v []
    ∙ ap (λ (x : List Layout). preorder (normalized_window v) ++ x) written_none
    ∙ append-nil (preorder (normalized_window v))
    ∙ ap (λ (u : WindowParts). preorder (normalized_window u)) (sym is)
    ∙ sym (ap (λ (x : List Layout). x ++ preorder (normalized_window w)) written_none)
written_taken_next (v ∷ ws) (suc i) w lt is =
    written_more v (take (suc i) ws)
    ∙ ap (λ (x : List Layout). preorder (normalized_window v) ++ x) (written_taken_next ws i w (omega arith) is)
    ∙ sym (append_assoc (preorder (normalized_window v)) (window_arrays (take i ws)) (preorder (normalized_window w)))
    ∙ ap (λ (x : List Layout). x ++ preorder (normalized_window w)) (sym (written_more v (take i ws)))

pub written_taken : (ws : List WindowParts) (i : ℕ) (w : WindowParts) → i < length ws → w ≡ get_or ws i w → window_arrays (take (i + 1) ws) ≡ window_arrays (take i ws) ++ preorder (normalized_window w)
written_taken ws i w lt is = ap (λ (k : ℕ). window_arrays (take k ws)) (next_place i) ∙ written_taken_next ws i w lt is

written_split_next : (ws : List WindowParts) (i : ℕ) (w : WindowParts) → i < length ws → w ≡ get_or ws i w → window_arrays ws ≡ window_arrays (take i ws) ++ (preorder (normalized_window w) ++ window_arrays (drop (suc i) ws))
written_split_next [] i w lt is = absurd (omega arith)
written_split_next (v ∷ ws) zero w lt is =
    written_more v ws
    ∙ ap (λ (u : WindowParts). preorder (normalized_window u) ++ window_arrays ws) (sym is)
    ∙ sym (ap (λ (x : List Layout). x ++ (preorder (normalized_window w) ++ window_arrays ws)) written_none)
written_split_next (v ∷ ws) (suc i) w lt is =
    written_more v ws
    ∙ ap (λ (x : List Layout). preorder (normalized_window v) ++ x) (written_split_next ws i w (omega arith) is)
    ∙ sym (append_assoc (preorder (normalized_window v)) (window_arrays (take i ws)) (preorder (normalized_window w) ++ window_arrays (drop (suc i) ws)))
    ∙ ap (λ (x : List Layout). x ++ (preorder (normalized_window w) ++ window_arrays (drop (suc i) ws))) (sym (written_more v (take i ws)))

pub written_split : (ws : List WindowParts) (i : ℕ) (w : WindowParts) → i < length ws → w ≡ get_or ws i w → window_arrays ws ≡ window_arrays (take i ws) ++ (preorder (normalized_window w) ++ window_arrays (drop (i + 1) ws))
written_split ws i w lt is = written_split_next ws i w lt is ∙ ap (λ (k : ℕ). window_arrays (take i ws) ++ (preorder (normalized_window w) ++ window_arrays (drop k ws))) (sym (next_place i))

pub body_split : (front rest : List Layout) → body_of (buffers_of (front ++ rest)) ≡ body_of (buffers_of front) ++ body_of (buffers_of rest)
body_split front rest = ap body_of (buffers_append front rest) ∙ body_append (buffers_of front) (buffers_of rest)

pub body_first : (s : Layout) (rest : List Layout) → body_of (buffers_of (s ∷ rest)) ≡ body_of (own_buffers s) ++ body_of (buffers_of rest)
body_first s rest = ap body_of (buffers_more s rest) ∙ body_append (own_buffers s) (buffers_of rest)

pub body_nothing : body_of (buffers_of (window_arrays [])) ≡ []
body_nothing = (λ w. body_of (buffers_of (written_none w))) ∙ ap body_of buffers_none ∙ body_none

-- ---- appending to the body

pub write_more : (old out new : List ℕ) (ws : List WindowParts) (i : ℕ) (w : WindowParts) → i < length ws → w ≡ get_or ws i w → out ≡ old ++ body_of (buffers_of (window_arrays (take i ws))) → new ≡ out ++ body_of (buffers_of (preorder (normalized_window w)))
    → new ≡ old ++ body_of (buffers_of (window_arrays (take (i + 1) ws)))
write_more old out new ws i w lt is so_far e =
    e
    ∙ ap (λ (x : List ℕ). x ++ body_of (buffers_of (preorder (normalized_window w)))) so_far
    ∙ append_assoc old (body_of (buffers_of (window_arrays (take i ws)))) (body_of (buffers_of (preorder (normalized_window w))))
    ∙ ap (λ (x : List ℕ). old ++ x) (sym (body_split (window_arrays (take i ws)) (preorder (normalized_window w))))
    ∙ ap (λ (x : List Layout). old ++ body_of (buffers_of x)) (sym (written_taken ws i w lt is))

pub window_put : (old out new : List ℕ) (a : Layout) (o n : ℕ) (ws : List WindowParts) → ws ≡ windows_below a o n → out ≡ old ++ body_of (own_buffers (normalized_slice a o n)) → new ≡ out ++ body_of (buffers_of (window_arrays ws))
    → new ≡ old ++ body_of (buffers_of (preorder (normalized_slice a o n)))
window_put old out new a o n ws below own e =
    e
    ∙ ap (λ (x : List ℕ). x ++ body_of (buffers_of (window_arrays ws))) own
    ∙ append_assoc old (body_of (own_buffers (normalized_slice a o n))) (body_of (buffers_of (window_arrays ws)))
    ∙ ap (λ (vs : List WindowParts). old ++ (body_of (own_buffers (normalized_slice a o n)) ++ body_of (buffers_of (window_arrays vs)))) below
    ∙ ap (λ (x : List ℕ). old ++ x) (sym (body_first (normalized_slice a o n) (window_arrays (windows_below a o n))))
    ∙ ap (λ (x : List Layout). old ++ body_of (buffers_of x)) (sym (arrays_normalized a o n))

again_push_next : (ws : List WindowParts) (i : ℕ) (w : WindowParts) → i < length ws → w ≡ get_or ws i w → AllByRecursion WindowRoundTripsOverExtensions (take i ws) → WindowRoundTripsOverExtensions w → AllByRecursion WindowRoundTripsOverExtensions (take (suc i) ws)
again_push_next [] i w lt is all one = absurd (omega arith)
again_push_next (v ∷ ws) zero w lt is all one = (subst WindowRoundTripsOverExtensions is one, tt)
again_push_next (v ∷ ws) (suc i) w lt is all one = (all.0, again_push_next ws i w (omega arith) is all.1 one)

pub again_push : (ws : List WindowParts) (i : ℕ) (w : WindowParts) → i < length ws → w ≡ get_or ws i w → AllByRecursion WindowRoundTripsOverExtensions (take i ws) → WindowRoundTripsOverExtensions w → AllByRecursion WindowRoundTripsOverExtensions (take (i + 1) ws)
again_push ws i w lt is all one = subst (λ (k : ℕ). AllByRecursion WindowRoundTripsOverExtensions (take k ws)) (sym (next_place i)) (again_push_next ws i w lt is all one)

-- ---- appending to the layout

pub windows_more : (first old new : BodyLayout) (ws : List WindowParts) (i : ℕ) (w : WindowParts) → i < length ws → w ≡ get_or ws i w → AppendsArrays first old (window_arrays (take i ws)) → AppendsArrays old new (preorder (normalized_window w)) → AppendsArrays first new (window_arrays (take (i + 1) ws))
windows_more first old new ws i w lt is before one = subst (AppendsArrays first new) (sym (written_taken ws i w lt is)) (more_append first old new (window_arrays (take i ws)) (preorder (normalized_window w)) before one)

pub windows_long : (error : IpcWriteError) (first old : BodyLayout) (ws : List WindowParts) (i : ℕ) (w : WindowParts) → i < length ws → w ≡ get_or ws i w → AppendsArrays first old (window_arrays (take i ws)) → IsArrayError error old.length (preorder (normalized_window w)) → IsArrayError error first.length (window_arrays ws)
windows_long error first old ws i w lt is before long =
    subst (IsArrayError error first.length) (sym (written_split ws i w lt is))
    (long_behind error first old (window_arrays (take i ws)) (preorder (normalized_window w) ++ window_arrays (drop (i + 1) ws)) before (long_front error old.length (preorder (normalized_window w)) (window_arrays (drop (i + 1) ws)) long))

pub window_more : (first old new : BodyLayout) (a : Layout) (o n : ℕ) (ws : List WindowParts) → ws ≡ windows_below a o n → AppendsArrays first old (normalized_slice a o n ∷ []) → AppendsArrays old new (window_arrays ws) → AppendsArrays first new (preorder (normalized_slice a o n))
window_more first old new a o n ws below own more =
    subst (AppendsArrays first new) (sym (arrays_normalized a o n))
    (more_append first old new (normalized_slice a o n ∷ []) (window_arrays (windows_below a o n)) own (subst (λ (vs : List WindowParts). AppendsArrays old new (window_arrays vs)) below more))

pub window_slots : (error : IpcWriteError) (before : ℕ) (a : Layout) (o n : ℕ) → o + n ≤ len a → IsBufferError error n → IsArrayError error before (preorder (normalized_slice a o n))
window_slots error before a o n le past =
    subst (IsArrayError error before) (sym (arrays_normalized a o n)) (long_slots error before (normalized_slice a o n) (window_arrays (windows_below a o n)) (subst (IsBufferError error) (sym (normalized_len a o n le)) past))

pub window_buffers : (error : IpcWriteError) (before mid : ℕ) (a : Layout) (o n : ℕ) → mid ≡ before → IsBufferError error (mid + length (body_of (own_buffers (normalized_slice a o n)))) → IsArrayError error before (preorder (normalized_slice a o n))
window_buffers error before mid a o n same past =
    let own : ℕ = length (body_of (own_buffers (normalized_slice a o n))) in
    subst (IsArrayError error before) (sym (arrays_normalized a o n)) (long_buffers error before (normalized_slice a o n) (window_arrays (windows_below a o n)) (subst (λ (m : ℕ). IsBufferError error (m + own)) same past))

pub window_long : (error : IpcWriteError) (first old : BodyLayout) (a : Layout) (o n : ℕ) (ws : List WindowParts) → ws ≡ windows_below a o n → AppendsArrays first old (normalized_slice a o n ∷ []) → IsArrayError error old.length (window_arrays ws) → IsArrayError error first.length (preorder (normalized_slice a o n))
window_long error first old a o n ws below own long =
    subst (IsArrayError error first.length) (sym (arrays_normalized a o n))
    (long_behind error first old (normalized_slice a o n ∷ []) (window_arrays (windows_below a o n)) own (subst (λ (vs : List WindowParts). IsArrayError error old.length (window_arrays vs)) below long))
