-- Record batches as arrays of records.
use Rattle.std.proofs.Common.{◌≡◌, List, [], ◌∷◌, ◌++◌, map, refl, sym, ap, subst, ◌∙◌, None}
use Rattle.std.specs.List.{AllByRecursion}
use Rattle.std.proofs.lemmas.List.{map-append}
use Rattle.nest_memory.specs.TypeTree.{TypeTree}
use Rattle.nest_memory.specs.declared.error.Error.{Error}
use Rattle.nest_model.specs.Decide.{pass-no_error}
use Rattle.nest_model.specs.Fits.{Fits, FirstError, checks}
use Rattle.nest_model.specs.Layout as layouts
use Rattle.nest_model.specs.Layout.{Layout, more_layouts}
use Rattle.nest_array.specs.Seen.{layout_of, layouts_of}
use Rattle.nest_array.specs.declared.any.AnyArray.{AnyArray}
use Rattle.ipc.specs.declared.batch.Batch.{Batch}
use Rattle.ipc.specs.Streams.{RecordBatchTree, record_batch_of}
use Rattle.cli_rows.specs.RowErrors.{IsRowError}
use Rattle.cli_rows.specs.Records.{records, side_by_side}
use Rattle.cli_rows.specs.declared.error.CliError.{CliError}
use Rattle.cli_rows.specs.declared.error.CliError.TheVariants.{Input, Read, Write, MismatchedColumns, IndexOutOfRange, Condition, UnknownName, Output, Memory}

pub columns-side_by_side : (as_ : List AnyArray) → layouts_of as_ ≡ side_by_side (map layout_of as_)
columns-side_by_side [] = refl
columns-side_by_side (a ∷ as_) = ap (λ ls. more_layouts (layout_of a) ls) (columns-side_by_side as_)

pub record-parts : (t u : TypeTree) (as_ : List AnyArray) → t ≡ u → layouts.struct t (layouts_of as_) None ≡ records u (map layout_of as_)
record-parts t u as_ e = ap (λ v. layouts.struct v (layouts_of as_) None) e ∙ ap (λ ls. layouts.struct u ls None) (columns-side_by_side as_)

pub refused : (t u : TypeTree) (as_ : List AnyArray) (e : Error) → t ≡ u → FirstError e (layouts.struct t (layouts_of as_) None) → Fits (records u (map layout_of as_)) → ⊥
refused t u as_ e same error fits = pass-no_error (checks (layouts.struct t (layouts_of as_) None)) e (subst Fits (sym (record-parts t u as_ same)) fits) error

error-weaker : (e : CliError) (P Q : Type 0) → (Q → P) → IsRowError e P → IsRowError e Q
error-weaker MismatchedColumns P Q k h = λ q. h (k q)
error-weaker Memory P Q k h = tt
error-weaker Input P Q k h = absurd h
error-weaker (Read error) P Q k h = absurd h
error-weaker (Write error) P Q k h = absurd h
error-weaker IndexOutOfRange P Q k h = absurd h
error-weaker (Condition error) P Q k h = absurd h
error-weaker (UnknownName i) P Q k h = absurd h
error-weaker Output P Q k h = absurd h

module _ {B : Type 0} (t : TypeTree) (view : B → List Layout) where
  fits-at : (front : List B) (b : B) (behind : List B) → AllByRecursion Fits (map (records t) (map view (front ++ b ∷ behind))) → Fits (records t (view b))
  fits-at [] b behind h = h.0
  fits-at (x ∷ front) b behind h = fits-at front b behind h.1

  pub made-error : (f : CliError) (front : List B) (b : B) (behind whole : List B) → front ++ b ∷ behind ≡ whole → IsRowError f (Fits (records t (view b)))
      → IsRowError f (AllByRecursion Fits (map (records t) (map view whole)))
  made-error f front b behind whole e h = error-weaker f _ _ (λ all. fits-at front b behind (subst (λ bs. AllByRecursion Fits (map (records t) (map view bs))) (sym e) all)) h

  pub made-more : (old new : List AnyArray) (a : AnyArray) (front : List B) (b : B) → new ≡ old ++ a ∷ [] → layout_of a ≡ records t (view b)
      → map layout_of old ≡ map (records t) (map view front) → map layout_of new ≡ map (records t) (map view (front ++ b ∷ []))
  made-more old new a front b pushed is so_far =
      ap (map layout_of) pushed
      ∙ map-append layout_of old (a ∷ [])
      ∙ ap (λ ls. ls ++ layout_of a ∷ []) so_far
      ∙ ap (λ l. map (records t) (map view front) ++ l ∷ []) is
      ∙ sym (ap (map (records t)) (map-append view front (b ∷ [])) ∙ map-append (records t) (map view front) (view b ∷ []))

pub each-columns : (bs : List Batch) → map (λ (b : Batch). map layout_of b.columns.items) bs ≡ map (λ (b : RecordBatchTree). b.columns) (map record_batch_of bs)
each-columns [] = refl
each-columns (b ∷ bs) = ap (λ ls. map layout_of b.columns.items ∷ ls) (each-columns bs)
