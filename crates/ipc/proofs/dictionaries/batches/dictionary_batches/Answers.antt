use mir.Syntax.{w64}
use mir.Val.{SFits}
use Rattle.std.proofs.Common.{rules, ◌≡◌, ◌+◌, List, ◌++◌, map, drop, sym, ap, append_assoc, ◌∙◌}
use Rattle.std.specs.Prelude.{ℤ}
use Rattle.std.proofs.lemmas.Int.{to_z-of_z}
use Rattle.nest_array.specs.Seen.{layout_of}
use Rattle.ipc.specs.PendingDictionaries.{entry_at}
use Rattle.ipc.specs.FileDictionaries.{DictionaryBatchTree, dictionary_batch_of, batches_for, spec_dictionary_batches, spec_is_replaced}
use Rattle.ipc.specs.EntriesOf.{by_id, entry_of}
use Rattle.ipc.proofs.Batches.{write_next, none_next}
use Rattle.ipc.proofs.dictionaries.batches.dictionary_batches.Goals as goal

pub push_batch-requires : goal.push_batch-requires
push_batch-requires c =
    let es = by_id c.args.emitted.now.entries in
    let x = c.loop-id-item.result in
    let fits : SFits w64 x.0 = search rules in
    let none = none_next entry_of es c.args.pending.now c.loop-id.id-index x c.loop-id-test.true c.loop-id-item.is c.loop-id.invariant.0 in
    ap (λ (k : ℤ). spec_is_replaced (entry_at es k) (layout_of x.1.now)) (to_z-of_z w64 x.0 fits) ∙ none.0

pub loop-id-preserved : goal.loop-id-preserved
loop-id-preserved c =
    let es = by_id c.args.emitted.now.entries in
    let xs = c.args.pending.now in
    let i = c.loop-id.id-index in
    let x = c.loop-id-item.result in
    let fits : SFits w64 x.0 = search rules in
    let old : List DictionaryBatchTree = map dictionary_batch_of c.loop-id.puts.items in
    let put : List DictionaryBatchTree = batches_for (entry_at es x.0) (x.0, layout_of x.1.now) in
    let rest : List DictionaryBatchTree = spec_dictionary_batches es (map entry_of (drop (i + 1) xs)) in
    let none = none_next entry_of es xs i x c.loop-id-test.true c.loop-id-item.is c.loop-id.invariant.0 in
    let pushed : map dictionary_batch_of c.push_batch.new.puts.items ≡ old ++ put = c.in_ok-push_batch.ensures ∙ ap (λ (k : ℤ). old ++ batches_for (entry_at es k) (k, layout_of x.1.now)) (to_z-of_z w64 x.0 fits) in (
      none.1,
      ap (λ (ps : List DictionaryBatchTree). ps ++ rest) pushed
          ∙ append_assoc old put rest
          ∙ sym (ap (λ (ps : List DictionaryBatchTree). old ++ ps) (write_next entry_of es xs i x c.loop-id-test.true c.loop-id-item.is))
          ∙ c.loop-id.invariant.1,
    )
