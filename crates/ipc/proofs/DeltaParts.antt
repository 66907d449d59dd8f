-- Deltas that are appended.
use Rattle.std.proofs.Common.{◌≡◌, Bool, true, false, List, [], ◌∷◌, inl, inr, Bor, Option, Some, None, Result, Ok, Err, refl, sym, ap, ◌∙◌}
use Rattle.std.specs.Prelude.{ℤ, ◌&&◌, not}
use Rattle.std.specs.Option.{option_map, option_copied}
use Rattle.std.specs.Map.{lookup}
use Rattle.std.specs.BTreeMap.{is_at}
use Rattle.std.specs.Ordering.{int_cmp}
use Rattle.std.proofs.lemmas.Bool.{false≢true}
use Rattle.std.proofs.lemmas.List.Elements.{All-cons, All-head, All-nil}
use Rattle.nest_memory.specs.TypeEq.{same_type, same_type-decides}
use Rattle.nest_memory.specs.declared.error.Error.{Error}
use Rattle.nest_memory.specs.declared.error.Error.TheVariants.{Overflow}
use Rattle.nest_model.specs.Layout.{Layout, layout_type}
use Rattle.nest_array.specs.Seen.{layout_of}
use Rattle.nest_array.specs.declared.any.AnyArray.{AnyArray}
use Rattle.nest_concat.specs.Joined.{AreOfOneType, RefusesConcatenate}
use Rattle.nest_concat.specs.Laid.{joined_layout, joins_past}
use Rattle.ipc_flatbuf.specs.ReadResults.{◌>>=◌, check, FailsOrRunsOut}
use Rattle.ipc_flatbuf.specs.declared.error.IpcReadError.{IpcReadError}
use Rattle.ipc_flatbuf.specs.declared.error.IpcReadError.TheVariants.{Delta}
use Rattle.ipc.specs.UnionOffsets.{spec_union_offsets_overflow}
use Rattle.ipc.specs.Streams.{StateTree, known_of, known_at, spec_contains_id, spec_joined_values, join_error_of, with_delta, spec_with_values}
use Rattle.ipc.specs.DeltaLaws.{then_more}
use Rattle.ipc.proofs.Entries.{viewed_found}

-- ---- two arrays

abbrev same : Layout → Layout → Bool
same a b = same_type (layout_type a) (layout_type b)

same_by : (a b : Layout) (s : Bool) → same a b ≡ s → ((AreOfOneType (a ∷ b ∷ []) → ⊥) → ⊥) → same a b ≡ true
same_by a b true e one = e
same_by a b false e one = absurd (one (λ are. false≢true (sym e ∙ (same_type-decides (layout_type a) (layout_type b)).1 (sym (All-head (λ x. layout_type x ≡ layout_type a) b [] are)))))

differ_by : (a b : Layout) (s : Bool) → same a b ≡ s → (AreOfOneType (a ∷ b ∷ []) → ⊥) → same a b ≡ false
differ_by a b true e apart = absurd (apart (All-cons (λ x. layout_type x ≡ layout_type a) b [] (sym ((same_type-decides (layout_type a) (layout_type b)).0 e)) (All-nil (λ x. layout_type x ≡ layout_type a))))
differ_by a b false e apart = e

abbrev if_fits : Bool → Layout → Result Layout IpcReadError
if_fits fits c = check fits Delta >>= λ all. Ok c

abbrev both : Layout → Layout → Layout
both a b = joined_layout (a ∷ b ∷ [])

abbrev past : Layout → Layout → Bool
past a b = joins_past (a ∷ b ∷ [])

-- the concatenation
pub joins : (a b c : Layout) → spec_union_offsets_overflow a b ≡ false → ((AreOfOneType (a ∷ b ∷ []) → ⊥) → ⊥) → joins_past (a ∷ b ∷ []) ≡ false → c ≡ joined_layout (a ∷ b ∷ []) → spec_joined_values (Some a) b ≡ Ok c
joins a b c fits one room laid =
    ap (λ (x : Bool). if_fits (x && (not (past a b) && not (spec_union_offsets_overflow a b))) (both a b)) (same_by a b (same a b) refl one)
    ∙ ap (λ (x : Bool). if_fits (not x && not (spec_union_offsets_overflow a b)) (both a b)) room
    ∙ ap (λ (x : Bool). if_fits (not x) (both a b)) fits
    ∙ ap (λ (x : Layout). if_fits true x) (sym laid)

differs : (a b : Layout) → (AreOfOneType (a ∷ b ∷ []) → ⊥) → spec_joined_values (Some a) b ≡ Err Delta
differs a b apart = ap (λ (x : Bool). if_fits (x && (not (past a b) && not (spec_union_offsets_overflow a b))) (both a b)) (differ_by a b (same a b) refl apart)

and_false : (s : Bool) → (s && false) ≡ false
and_false true = refl
and_false false = refl

passes : (a b : Layout) → joins_past (a ∷ b ∷ []) ≡ true → spec_joined_values (Some a) b ≡ Err Delta
passes a b over =
    ap (λ (x : Bool). if_fits (same a b && (not x && not (spec_union_offsets_overflow a b))) (both a b)) over
    ∙ ap (λ (x : Bool). if_fits x (both a b)) (and_false (same a b))

neither : (s t : Bool) → (s && (t && false)) ≡ false
neither true t = and_false t
neither false t = refl

-- no offset of a dense union overflows
pub passes_dense : (a b : Layout) → spec_union_offsets_overflow a b ≡ true → spec_joined_values (Some a) b ≡ Err Delta
passes_dense a b over =
    ap (λ (x : Bool). if_fits (same a b && (not (past a b) && not x)) (both a b)) over
    ∙ ap (λ (x : Bool). if_fits x (both a b)) (neither (same a b) (not (past a b)))

abbrev fails_with : IpcReadError → Result Layout IpcReadError
fails_with f = Err f

-- what cannot be concatenated
pub refused : (e : Error) (f : IpcReadError) (a b : Layout) → f ≡ join_error_of e → RefusesConcatenate e (a ∷ b ∷ []) → (e ≡ Overflow → joins_past (a ∷ b ∷ []) ≡ true) → FailsOrRunsOut f (spec_joined_values (Some a) b)
refused e f a b is (inl (item, apart)) over known = differs a b apart ∙ ap fails_with (sym (is ∙ ap join_error_of item))
refused e f a b is (inr (inl memory)) over known = absurd (known (is ∙ ap join_error_of memory))
refused e f a b is (inr (inr (overflow, limits))) over known = passes a b (over overflow) ∙ ap fails_with (sym (is ∙ ap join_error_of overflow))

abbrev pub refusal : Error → Result AnyArray Error
refusal e = Err e

abbrev made : AnyArray → Result AnyArray Error
made a = Ok a

-- what was concatenated had no error
pub never : (a : AnyArray) (e : Error) → made a ≡ Err e → ⊥
never a e h = cc

-- ---- the delta of an id

abbrev pub shown : Option (Bor AnyArray) → Option Layout
shown r = option_map (λ a. layout_of a.now) r

shown_copied : (r : Option (Bor AnyArray)) → shown r ≡ option_map layout_of (option_copied r)
shown_copied None = refl
shown_copied (Some a) = refl

-- entries are the known dictionaries
pub shown_known : (es : List (ℤ × AnyArray)) (id : ℤ) (r : Option (Bor AnyArray)) → option_copied r ≡ lookup (is_at (int_cmp id)) es → shown r ≡ known_at (known_of es) id
shown_known es id r found = shown_copied r ∙ ap (λ (o : Option AnyArray). option_map layout_of o) found ∙ sym (viewed_found layout_of (is_at (int_cmp id)) es)

opened : (s : StateTree) (id : ℤ) (more : Layout) (known : Option Layout) → spec_contains_id s.appendable id ≡ true → known ≡ known_at s.known id → spec_with_values true s id more ≡ then_more s id true (spec_joined_values known more)
opened s id more known appendable is =
    ap (λ (b : Bool). then_more s id b (spec_joined_values (known_at s.known id) more)) appendable
    ∙ ap (λ (o : Option Layout). then_more s id true (spec_joined_values o more)) (sym is)

pub more_fails : (s : StateTree) (id : ℤ) (more : Layout) (known : Option Layout) (f : IpcReadError) → spec_contains_id s.appendable id ≡ true → known ≡ known_at s.known id → FailsOrRunsOut f (spec_joined_values known more) → FailsOrRunsOut f (spec_with_values true s id more)
more_fails s id more known f appendable is fails = λ memory. opened s id more known appendable is ∙ ap (then_more s id true) (fails memory)

pub more_known : (s : StateTree) (id : ℤ) (more : Layout) (known : Option Layout) (values : Layout) → spec_contains_id s.appendable id ≡ true → known ≡ known_at s.known id → spec_joined_values known more ≡ Ok values → spec_with_values true s id more ≡ Ok (with_delta s id values)
more_known s id more known values appendable is read = opened s id more known appendable is ∙ ap (then_more s id true) read
