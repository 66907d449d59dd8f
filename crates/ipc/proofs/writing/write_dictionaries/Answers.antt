use mir.Syntax.{w64}
use mir.Val.{to_z, of_z, SFits}
use Rattle.std.proofs.Common.{rules, ◌≡◌, ◌+◌, None, List, map, take, drop, sym, subst}
use Rattle.std.specs.List.{AllByRecursion}
use Rattle.std.proofs.lemmas.Int.{to_z-of_z}
use Rattle.std.proofs.lemmas.Result.{err_from_is_err_and}
use Rattle.ipc.specs.FileDictionaries.{DictionaryBatchTree, whole}
use Rattle.ipc.specs.EntriesOf.{entry_of}
use Rattle.ipc.specs.EncodedStreams.{dictionary_error, each_error, DictionaryRoundTrips}
use Rattle.ipc.specs.EncodedBatches.{each_refused, each_push, all_push, dictionaries_push}
use Rattle.ipc.proofs.Entries.{whole_split, whole_taken}
use Rattle.ipc.proofs.writing.write_dictionaries.Goals as goal

pub returns-in_err-append_dictionary-clause-err : goal.returns-in_err-append_dictionary-clause-err
returns-in_err-append_dictionary-clause-err c =
    let x = c.loop-id-item.result in
    let i = c.loop-id.id-index in
    let pending = c.args.pending.now in
    let fits : SFits w64 x.0 = search rules in
    let id : to_z w64 (of_z w64 x.0) ≡ x.0 = to_z-of_z w64 x.0 fits in
    let p = err_from_is_err_and c.from_residual.result c.from_residual.ensures.1 in
    rw (p.1, p.2) (each_refused dictionary_error (map whole (map entry_of pending)) (map whole (map entry_of (take i pending))) (map whole (map entry_of (drop (i + 1) pending))) (whole (entry_of x)) _
    (whole_split pending i x c.loop-id-test.true c.loop-id-item.is) c.loop-id.invariant.form (rw id at c.in_err-append_dictionary.ensures.err))

pub loop-id-preserved : goal.loop-id-preserved
loop-id-preserved c =
    let x = c.loop-id-item.result in
    let i = c.loop-id.id-index in
    let pending = c.args.pending.now in
    let fits : SFits w64 x.0 = search rules in
    let id : to_z w64 (of_z w64 x.0) ≡ x.0 = to_z-of_z w64 x.0 fits in
    let before = map whole (map entry_of (take i pending)) in
    let after = map whole (map entry_of (take (i + 1) pending)) in
    let more = whole_taken pending i x c.loop-id-test.true c.loop-id-item.is in
    record {
      written = dictionaries_push c.args.out.now.items c.loop-id.out.items c.append_dictionary.new.out.items before after (whole (entry_of x)) more c.loop-id.invariant.written (rw id at c.in_ok-append_dictionary.ensures.bytes);
      again = subst (AllByRecursion DictionaryRoundTrips) (sym more) (all_push DictionaryRoundTrips before (whole (entry_of x)) c.loop-id.invariant.again (rw id at c.in_ok-append_dictionary.ensures.again));
      form = subst (λ (ps : List DictionaryBatchTree). each_error dictionary_error ps ≡ None) (sym more) (each_push dictionary_error before (whole (entry_of x)) c.loop-id.invariant.form (rw id at c.in_ok-append_dictionary.ensures.form));
    }
