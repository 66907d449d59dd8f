use Rattle.std.proofs.Common.{◌≡◌, ◌∙◌, ◌+◌, inl, inr, ℕ, Bool, List, Some, ap, arith, false, refl, subst, true}
use Rattle.cli_read.specs.Readers.{remaining_batches}
use Rattle.cli_rows.specs.declared.error.CliError.TheVariants.{Input}
use Rattle.cli_read.specs.TakeStates.{IsTakeState, IsTakeStateError, IsTakeStep}
use Rattle.cli_read.proofs.TakeSteps.{no-input, turn-fails}
use Rattle.cli_read.proofs.by_index.rows.take_all.Goals as goal

pub returns-then-is_found-clause-taken : goal.returns-then-is_found-clause-taken
returns-then-is_found-clause-taken g c = λ t s h p.
    let of_ = remaining_batches g.R.Read.remaining g.R.Seek.stream_position g.R.Seek.stream_bytes in
    (false, c.loop-k.k, of_ c.loop-k.reader, c.loop-k.invariant.on t s h p, inr (c.is_found.ensures.yes c.if-is_found.true))

pub returns-in-Err-clause-error : goal.returns-in-Err-clause-error
returns-in-Err-clause-error g c = λ t s h p.
    let i = c.loop-k.invariant in
    subst (λ (ps : List ℕ). IsTakeStateError t s ps (record { batch = Some c.loop-k.k; error = c.in-Err.error })) (ap (λ v. v.items) i.same) (c.in-Err.ensures.error t s c.loop-k.k (i.schema ∙ h) (i.on t s h p))

pub returns-in-Ok-false-clause-taken : goal.returns-in-Ok-false-clause-taken
returns-in-Ok-false-clause-taken g c = λ t s h p.
    let of_ = remaining_batches g.R.Read.remaining g.R.Seek.stream_position g.R.Seek.stream_bytes in
    let i = c.loop-k.invariant in
    let k = c.loop-k.k in
    let v = of_ c.take_next.new.reader in
    let state = c.take_next.new.state in
    let last = subst (λ (on : Bool). IsTakeStep on (IsTakeState t s false (k + 1) v state) (IsTakeState t s true k v state)) c.in-Ok-false.field-0-test (c.in-Ok-false.ensures.step t s k (i.schema ∙ h) (i.on t s h p)) in
    (true, k, v, last, inl refl)

pub loop-k-preserved : goal.loop-k-preserved
loop-k-preserved g c =
    let of_ = remaining_batches g.R.Read.remaining g.R.Seek.stream_position g.R.Seek.stream_bytes in
    let i = c.loop-k.invariant in
    let k = c.loop-k.k in
    let v = of_ c.take_next.new.reader in
    let state = c.take_next.new.state in
    record {
      schema = c.in-Ok-true.ensures.schema ∙ i.schema;
      same = c.in-Ok-true.ensures.same ∙ i.same;
      on = λ t s h p. subst (λ (on : Bool). IsTakeStep on (IsTakeState t s false (k + 1) v state) (IsTakeState t s true k v state)) c.in-Ok-true.field-0-test (c.in-Ok-true.ensures.step t s k (i.schema ∙ h) (i.on t s h p));
    }

pub returns-then-is_found-2-clause-taken : goal.returns-then-is_found-2-clause-taken
returns-then-is_found-2-clause-taken g c = λ t s h p.
    let of_ = remaining_batches g.R.Read.remaining g.R.Seek.stream_position g.R.Seek.stream_bytes in
    (false, c.loop-k.k, of_ c.loop-k.reader, c.loop-k.invariant.on t s h p, inr (c.is_found-2.ensures.yes c.if-is_found-2.true))

pub returns-clause-error : goal.returns-clause-error
returns-clause-error g c = λ t s h p.
    let of_ = remaining_batches g.R.Read.remaining g.R.Seek.stream_position g.R.Seek.stream_bytes in
    let i = c.loop-k.invariant in
    let u = of_ c.loop-k.reader in
    let last : c.loop-k.k ≡ 18446744073709551615 = omega (arith, c.loop-k-test.false, c.loop-k.auto.k-end) in
    subst (λ (ps : List ℕ). IsTakeStateError t s ps (record { batch = Some 18446744073709551615; error = Input })) (ap (λ v. v.items) i.same)
    (subst (λ (k : ℕ). IsTakeStateError t s c.loop-k.state.wanted.items (record { batch = Some k; error = Input })) last (turn-fails t s c.loop-k.k u c.loop-k.state Input (c.is_found-2.ensures.no c.if-is_found-2.false) (no-input s u) (i.on t s h p)))
