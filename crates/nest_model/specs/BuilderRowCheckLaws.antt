-- Added and joined rows: which are refused, and which are ready.
use Rattle.std.specs.Prelude.{Option, Some}
use Rattle.std.proofs.Common.{◌≡◌, ℕ, ◌+◌, ◌≤◌, Bool, true, false, List, [], ◌∷◌, ◌++◌, length, refl, sym, ap, ◌∙◌, inl, inr, arith}
use Rattle.std.proofs.lemmas.Bool.Decides.{leb_tells}
use Rattle.std.proofs.lemmas.List.{length-append, length-map}
use Rattle.std.specs.Coded.{coded_option, coded_list}
use Rattle.nest_memory.specs.TypeTree.{TypeTree, item_type, fields_of}
use Rattle.nest_memory.specs.TypeCode.{coded_type}
use Rattle.nest_model.specs.Slot.{Slot}
use Rattle.nest_model.specs.Checks.{Pass, HaveOneOutcome}
use Rattle.nest_model.specs.Decide.{Decided, decide_both, decide_number, one-outcome}
use Rattle.nest_model.specs.DecideType.{decide_type, decide_by}
use Rattle.nest_model.specs.BuilderRow.{Row, row_ending, end_from}
use Rattle.nest_model.specs.BuilderTree.{BuilderTree, BuilderTrees, flat, list, fixed_size_list, dictionary, struct, no_builders, more_builders, builder_type, builder_types, builder_len}
use Rattle.nest_model.specs.Layout.{field_types}
use Rattle.nest_model.specs.BuilderComplete.{AreComplete}
use Rattle.nest_model.specs.BuilderItem.{bytes_held}
use Rattle.nest_model.specs.BuilderAddRow.{IsReady, AreEachComplete, HasCompleteChildren, HaveRows, row_checks, lengths_checks, FitsLimits, AreReady}
use Rattle.nest_model.specs.BuilderJoin.{moved, CanJoin, joined_builder, join_checks, join_passes}
use Rattle.nest_model.specs.BuilderRefusals.{over_limits}
use Rattle.nest_model.specs.BuilderRowLaws.{end_from-append}
use Rattle.nest_model.specs.BuilderJoinLaws.{end_from-moved}

complete-rows : (cs : BuilderTrees) (n : ℕ) → AreEachComplete cs → HaveRows cs n → AreComplete cs n
complete-rows no_builders n w h = tt
complete-rows (more_builders c cs) n w h = (w.0, h.0, complete-rows cs n w.1 h.1)

rows-complete : (cs : BuilderTrees) (n : ℕ) → AreComplete cs n → HaveRows cs n
rows-complete no_builders n w = tt
rows-complete (more_builders c cs) n w = (w.1, rows-complete cs n w.2)

-- a new row that passes each check is ready and within the limits
pub pass-ready : (t : BuilderTree) → HasCompleteChildren t → Pass (row_checks t) → IsReady t × FitsLimits 1 t
pass-ready (flat k xs) w p = absurd p.0
pass-ready (list large k rows c) w p = ((w.0, p.0.0, p.0.1, w.1), p.1.0)
pass-ready (fixed_size_list k bits c) w p =
    let l = p.0.1 in
    let m = p.1.0 in
    ((w, p.0.0, omega arith), tt)
pass-ready (dictionary i k keys c) w p = absurd p.0
pass-ready (struct k bits cs) w p = ((complete-rows cs (length bits + 1) w p.0.1, p.0.0), tt)

pub ready-pass : (t : BuilderTree) → IsReady t → FitsLimits 1 t → Pass (row_checks t)
ready-pass (flat k xs) w l = absurd w
ready-pass (list large k rows c) w l = ((w.1, w.2), (l, tt))
ready-pass (fixed_size_list k bits c) w l =
    let e = w.2 in
    ((w.1, omega arith), (omega arith, tt))
ready-pass (dictionary i k keys c) w l = absurd w
ready-pass (struct k bits cs) w l = ((w.1, rows-complete cs (length bits + 1) w.0), tt)

-- the same for rows added by their lengths
pub pass-lengths_ready : (ns : List (Option ℕ)) (t : BuilderTree) → HasCompleteChildren t → Pass (lengths_checks ns t) → AreReady ns t × FitsLimits (length ns) t
pass-lengths_ready ns (flat k xs) w p = absurd p.0
pass-lengths_ready ns (list large k rows c) w p = (((w.0, p.0.0, p.0.1, w.1), p.1.0), p.1.1.0)
pass-lengths_ready ns (fixed_size_list k bits c) w p = absurd p.0
pass-lengths_ready ns (dictionary i k keys c) w p = absurd p.0
pass-lengths_ready ns (struct k bits cs) w p = absurd p.0

pub lengths_ready-pass : (ns : List (Option ℕ)) (t : BuilderTree) → AreReady ns t → FitsLimits (length ns) t → Pass (lengths_checks ns t)
lengths_ready-pass ns (flat k xs) w l = absurd w
lengths_ready-pass ns (list large k rows c) w l = ((w.0.1, w.0.2), (w.1, (l, tt)))
lengths_ready-pass ns (fixed_size_list k bits c) w l = absurd w
lengths_ready-pass ns (dictionary i k keys c) w l = absurd w
lengths_ready-pass ns (struct k bits cs) w l = absurd w

-- the rows of two builders of the same kinds pass a limit exactly if the joined builder does
pub bytes_held-append : (xs ys : List Slot) → bytes_held (xs ++ ys) ≡ bytes_held xs + bytes_held ys
bytes_held-append [] ys = omega arith
bytes_held-append (x ∷ xs) ys = omega (arith, bytes_held-append xs ys)

end_from-joined : (rows more : List Row) → end_from 0 (rows ++ moved (end_from 0 rows) more) ≡ end_from 0 rows + end_from 0 more
end_from-joined rows more =
    let z : end_from 0 rows ≡ end_from 0 rows + 0 = omega arith in
    end_from-append 0 rows (moved (end_from 0 rows) more) ∙ ap (λ s. end_from s (moved (end_from 0 rows) more)) z ∙ end_from-moved (end_from 0 rows) 0 more

rows-joined : (rows more : List Row) → length (rows ++ moved (end_from 0 rows) more) ≡ length rows + length more
rows-joined rows more = length-append rows (moved (end_from 0 rows) more) ∙ ap (λ n. length rows + n) (length-map more (λ (r : Row). row_ending r.valid (end_from 0 rows + r.end)))

pub joins_pass : (t u : BuilderTree) → CanJoin t u → join_passes t u ≡ over_limits (joined_builder t u)
joins_pass (flat k xs) (flat m ys) h = rw (length-append xs ys, bytes_held-append xs ys) refl
joins_pass (list large k rows c) (list wide m more d) h = rw (rows-joined rows more, end_from-joined rows more, joins_pass c d h.2) refl
joins_pass (fixed_size_list k bits c) (fixed_size_list m more d) h = rw (length-append bits more, joins_pass c d h.1) refl
joins_pass (flat k xs) (list wide m more d) h = absurd h
joins_pass (flat k xs) (fixed_size_list m more d) h = absurd h
joins_pass (flat k xs) (dictionary i m more d) h = absurd h
joins_pass (flat k xs) (struct m more ds) h = absurd h
joins_pass (list large k rows c) (flat m ys) h = absurd h
joins_pass (list large k rows c) (fixed_size_list m more d) h = absurd h
joins_pass (list large k rows c) (dictionary i m more d) h = absurd h
joins_pass (list large k rows c) (struct m more ds) h = absurd h
joins_pass (fixed_size_list k bits c) (flat m ys) h = absurd h
joins_pass (fixed_size_list k bits c) (list wide m more d) h = absurd h
joins_pass (fixed_size_list k bits c) (dictionary i m more d) h = absurd h
joins_pass (fixed_size_list k bits c) (struct m more ds) h = absurd h
joins_pass (dictionary i k keys c) u h = absurd h
joins_pass (struct k bits cs) u h = absurd h

alike_type : (t u : BuilderTree) → CanJoin t u → builder_type t ≡ builder_type u
alike_type (flat k xs) (flat m ys) h = h
alike_type (list large k rows c) (list wide m more d) h = h.1
alike_type (fixed_size_list k bits c) (fixed_size_list m more d) h = h.0
alike_type (flat k xs) (list wide m more d) h = absurd h
alike_type (flat k xs) (fixed_size_list m more d) h = absurd h
alike_type (flat k xs) (dictionary i m more d) h = absurd h
alike_type (flat k xs) (struct m more ds) h = absurd h
alike_type (list large k rows c) (flat m ys) h = absurd h
alike_type (list large k rows c) (fixed_size_list m more d) h = absurd h
alike_type (list large k rows c) (dictionary i m more d) h = absurd h
alike_type (list large k rows c) (struct m more ds) h = absurd h
alike_type (fixed_size_list k bits c) (flat m ys) h = absurd h
alike_type (fixed_size_list k bits c) (list wide m more d) h = absurd h
alike_type (fixed_size_list k bits c) (dictionary i m more d) h = absurd h
alike_type (fixed_size_list k bits c) (struct m more ds) h = absurd h
alike_type (dictionary i k keys c) u h = absurd h
alike_type (struct k bits cs) u h = absurd h

pub pass-joined : (t u : BuilderTree) → CanJoin t u → Pass (join_checks t u) → over_limits (joined_builder t u) ≡ false
pass-joined t u h p = sym (joins_pass t u h) ∙ p.1.0

pub joined-pass : (t u : BuilderTree) → CanJoin t u → over_limits (joined_builder t u) ≡ false → Pass (join_checks t u)
joined-pass t u h p = (alike_type t u h, (joins_pass t u h ∙ p, tt))

-- each check is decidable
decide_le : (a b : ℕ) → Decided (a ≤ b)
decide_le a b = elim (leb_tells a b) as (λ _. Decided (a ≤ b)) [ inl e ↦ inl e.1 | inr e ↦ inr (λ l. omega (arith, l, e.1)) ]

decide_false : (b : Bool) → Decided (b ≡ false)
decide_false true = inr (λ e. absurd (let a : true ≡ false = e in cc))
decide_false false = inl refl

decide_item : (t u : TypeTree) → Decided (item_type t ≡ Some u)
decide_item t u = decide_by (coded_option coded_type) (item_type t) (Some u)

decide_rows : (cs : BuilderTrees) (n : ℕ) → Decided (HaveRows cs n)
decide_rows no_builders n = inl tt
decide_rows (more_builders c cs) n = decide_both (decide_number (builder_len c) n) (decide_rows cs n)

never : Decided ⊥
never = inr (λ x. x)

pub row-outcome : (t : BuilderTree) → HaveOneOutcome (row_checks t)
row-outcome (flat k xs) = one-outcome (row_checks (flat k xs)) (never, tt) refl
row-outcome (list large k rows c) =
    one-outcome (row_checks (list large k rows c)) (decide_both (decide_item k (builder_type c)) (decide_le _ _), (decide_both (decide_le _ _) (decide_le _ _), tt)) refl
row-outcome (fixed_size_list k bits c) = one-outcome (row_checks (fixed_size_list k bits c)) (decide_both (decide_item k (builder_type c)) (decide_le _ _), (decide_le _ _, tt)) refl
row-outcome (dictionary i k keys c) = one-outcome (row_checks (dictionary i k keys c)) (never, tt) refl
row-outcome (struct k bits cs) =
    one-outcome (row_checks (struct k bits cs)) (decide_both (decide_by (coded_list coded_type) (builder_types cs) (field_types (fields_of k))) (decide_rows cs (length bits + 1)), tt) refl

pub lengths-outcome : (ns : List (Option ℕ)) (t : BuilderTree) → HaveOneOutcome (lengths_checks ns t)
lengths-outcome ns (flat k xs) = one-outcome (lengths_checks ns (flat k xs)) (never, tt) refl
lengths-outcome ns (list large k rows c) =
    one-outcome (lengths_checks ns (list large k rows c))
    (decide_both (decide_item k (builder_type c)) (decide_le _ _), (decide_number _ _, (decide_both (decide_le _ _) (decide_le _ _), tt))) refl
lengths-outcome ns (fixed_size_list k bits c) = one-outcome (lengths_checks ns (fixed_size_list k bits c)) (never, tt) refl
lengths-outcome ns (dictionary i k keys c) = one-outcome (lengths_checks ns (dictionary i k keys c)) (never, tt) refl
lengths-outcome ns (struct k bits cs) = one-outcome (lengths_checks ns (struct k bits cs)) (never, tt) refl

pub join-outcome : (t u : BuilderTree) → HaveOneOutcome (join_checks t u)
join-outcome t u = one-outcome (join_checks t u) (decide_type (builder_type t) (builder_type u), (decide_false (join_passes t u), tt)) refl
