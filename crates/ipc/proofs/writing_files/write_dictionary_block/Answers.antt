use mir.Syntax.{w64}
use mir.Val.{to_z, of_z, SFits}
use Rattle.std.proofs.Common.{rules, ◌≡◌, ◌-◌, ◌<◌, ◌^◌, [], ◌∷◌, None, Ok, List, ℕ, length, take, drop, refl, ap, subst, ◌∙◌, arith}
use Rattle.std.specs.Prelude.{ℤ}
use Rattle.std.proofs.lemmas.Int.{to_z-of_z}
use Rattle.std.proofs.lemmas.Result.{err_from_is_err_and}
use Rattle.ipc_arrays.specs.Encoding.{columns_body}
use Rattle.ipc.specs.FileDictionaries.{DictionaryBatchTree, dictionary_batch_of}
use Rattle.ipc.specs.Streams.{StateTree, state_of}
use Rattle.ipc.specs.EncodedStreams.{dictionary_head, dictionary_bytes, dictionary_error, IsErrorOrMemory}
use Rattle.ipc.specs.EncodedFiles.{state_by, state_with_dictionary, unreadable_error, dictionary_block_error}
use Rattle.ipc.specs.EncodedBatches.{long_refused, short_accepted, first_refused, later_refused, both_accepted}
use Rattle.ipc.proofs.Messages.{IsPut, write_within, write_head, write_block, write_behind}
use Rattle.ipc.proofs.writing_files.write_dictionary_block.Goals as goal

pub block_between-requires-clause-within : goal.block_between-requires-clause-within
unfolding dictionary_bytes
block_between-requires-clause-within c =
    let p : DictionaryBatchTree = dictionary_batch_of c.args.put.now in
    let fits : SFits w64 p.1.0 = search rules in
    let id : to_z w64 (of_z w64 p.1.0) ≡ p.1.0 = to_z-of_z w64 p.1.0 fits in
    let old = c.args.out.now.items in
    let new = c.append_dictionary.new.out.items in
    let put : IsPut old new (dictionary_bytes p) (dictionary_head p) (columns_body (p.1.1 ∷ [])) c.len-start.result c.len.result c.in_ok-body_length.body_length =
    record { written = (rw id at c.in_ok-body_length.ensures.bytes); whole = refl; begins = omega (arith, c.len-start.ensures, c.args.out.now.ok); ends = omega (arith, c.len.ensures, c.append_dictionary.new.out.ok); long = c.in_ok-body_length.ensures.body } in
    write_within old new (dictionary_bytes p) (dictionary_head p) (columns_body (p.1.1 ∷ [])) c.len-start.result c.len.result c.in_ok-body_length.body_length put

pub returns-clause-block : goal.returns-clause-block
unfolding dictionary_bytes
returns-clause-block c =
    let p : DictionaryBatchTree = dictionary_batch_of c.args.put.now in
    let fits : SFits w64 p.1.0 = search rules in
    let id : to_z w64 (of_z w64 p.1.0) ≡ p.1.0 = to_z-of_z w64 p.1.0 fits in
    let old = c.args.out.now.items in
    let new = c.append_dictionary.new.out.items in
    let put : IsPut old new (dictionary_bytes p) (dictionary_head p) (columns_body (p.1.1 ∷ [])) c.len-start.result c.len.result c.in_ok-body_length.body_length =
    record { written = (rw id at c.in_ok-body_length.ensures.bytes); whole = refl; begins = omega (arith, c.len-start.ensures, c.args.out.now.ok); ends = omega (arith, c.len.ensures, c.append_dictionary.new.out.ok); long = c.in_ok-body_length.ensures.body } in
    write_block old new (dictionary_bytes p) (dictionary_head p) (columns_body (p.1.1 ∷ [])) c.len-start.result c.len.result c.in_ok-body_length.body_length put c.in_ok-block.block c.in_ok-block.ensures.block

pub returns-in_err-block-clause-err : goal.returns-in_err-block-clause-err
unfolding dictionary_bytes
returns-in_err-block-clause-err c =
    let p : DictionaryBatchTree = dictionary_batch_of c.args.put.now in
    let s : StateTree = state_of c.args.known.now in
    let fits : SFits w64 p.1.0 = search rules in
    let id : to_z w64 (of_z w64 p.1.0) ≡ p.1.0 = to_z-of_z w64 p.1.0 fits in
    let old = c.args.out.now.items in
    let new = c.append_dictionary.new.out.items in
    let put : IsPut old new (dictionary_bytes p) (dictionary_head p) (columns_body (p.1.1 ∷ [])) c.len-start.result c.len.result c.in_ok-body_length.body_length =
    record { written = (rw id at c.in_ok-body_length.ensures.bytes); whole = refl; begins = omega (arith, c.len-start.ensures, c.args.out.now.ok); ends = omega (arith, c.len.ensures, c.append_dictionary.new.out.ok); long = c.in_ok-body_length.ensures.body } in
    let long : c.len.result - c.len-start.result - c.in_ok-body_length.body_length ≡ length (dictionary_head p) = write_head old new (dictionary_bytes p) (dictionary_head p) (columns_body (p.1.1 ∷ [])) c.len-start.result c.len.result c.in_ok-body_length.body_length put in
    let past = c.in_err-block.ensures.err in
    let e = err_from_is_err_and c.from_residual-in_err-block.result c.from_residual-in_err-block.ensures.1 in
    rw (e.1, e.2) (first_refused (dictionary_block_error p) (unreadable_error (state_with_dictionary s p)) _ (long_refused (dictionary_error p) (dictionary_head p) _ (rw id at c.in_ok-body_length.ensures.form) past.0 (omega (arith, long, past.1))))

pub returns-in_err-learn-clause-err : goal.returns-in_err-learn-clause-err
unfolding dictionary_bytes
returns-in_err-learn-clause-err c =
    let p : DictionaryBatchTree = dictionary_batch_of c.args.put.now in
    let s : StateTree = state_of c.args.known.now in
    let fits : SFits w64 p.1.0 = search rules in
    let id : to_z w64 (of_z w64 p.1.0) ≡ p.1.0 = to_z-of_z w64 p.1.0 fits in
    let old = c.args.out.now.items in
    let new = c.append_dictionary.new.out.items in
    let put : IsPut old new (dictionary_bytes p) (dictionary_head p) (columns_body (p.1.1 ∷ [])) c.len-start.result c.len.result c.in_ok-body_length.body_length =
    record { written = (rw id at c.in_ok-body_length.ensures.bytes); whole = refl; begins = omega (arith, c.len-start.ensures, c.args.out.now.ok); ends = omega (arith, c.len.ensures, c.append_dictionary.new.out.ok); long = c.in_ok-body_length.ensures.body } in
    let long : c.len.result - c.len-start.result - c.in_ok-body_length.body_length ≡ length (dictionary_head p) = write_head old new (dictionary_bytes p) (dictionary_head p) (columns_body (p.1.1 ∷ [])) c.len-start.result c.len.result c.in_ok-body_length.body_length put in
    let short : dictionary_block_error p ≡ None = short_accepted (dictionary_error p) (dictionary_head p) (rw id at c.in_ok-body_length.ensures.form) (omega (arith, long, c.in_ok-block.ensures.short)) in
    let behind : take (length c.deref.result.now - c.len-start.result) (drop c.len-start.result c.deref.result.now) ≡ dictionary_bytes p = write_behind old c.deref.result.now (dictionary_bytes p) c.len-start.result (c.deref.ensures.value ∙ put.written) put.begins in
    let e = err_from_is_err_and c.from_residual-in_err-learn.result c.from_residual-in_err-learn.ensures.1 in
    rw (e.1, e.2) (later_refused (dictionary_block_error p) (unreadable_error (state_with_dictionary s p)) _ short (subst (λ (bytes : List ℕ). IsErrorOrMemory (unreadable_error (state_by s bytes)) c.in_err-learn.field-0.0) behind c.in_err-learn.ensures.err))

pub returns-clause-form : goal.returns-clause-form
unfolding dictionary_bytes
returns-clause-form c =
    let p : DictionaryBatchTree = dictionary_batch_of c.args.put.now in
    let s : StateTree = state_of c.args.known.now in
    let fits : SFits w64 p.1.0 = search rules in
    let id : to_z w64 (of_z w64 p.1.0) ≡ p.1.0 = to_z-of_z w64 p.1.0 fits in
    let old = c.args.out.now.items in
    let new = c.append_dictionary.new.out.items in
    let put : IsPut old new (dictionary_bytes p) (dictionary_head p) (columns_body (p.1.1 ∷ [])) c.len-start.result c.len.result c.in_ok-body_length.body_length =
    record { written = (rw id at c.in_ok-body_length.ensures.bytes); whole = refl; begins = omega (arith, c.len-start.ensures, c.args.out.now.ok); ends = omega (arith, c.len.ensures, c.append_dictionary.new.out.ok); long = c.in_ok-body_length.ensures.body } in
    let long : c.len.result - c.len-start.result - c.in_ok-body_length.body_length ≡ length (dictionary_head p) = write_head old new (dictionary_bytes p) (dictionary_head p) (columns_body (p.1.1 ∷ [])) c.len-start.result c.len.result c.in_ok-body_length.body_length put in
    let short : dictionary_block_error p ≡ None = short_accepted (dictionary_error p) (dictionary_head p) (rw id at c.in_ok-body_length.ensures.form) (omega (arith, long, c.in_ok-block.ensures.short)) in
    let behind : take (length c.deref.result.now - c.len-start.result) (drop c.len-start.result c.deref.result.now) ≡ dictionary_bytes p = write_behind old c.deref.result.now (dictionary_bytes p) c.len-start.result (c.deref.ensures.value ∙ put.written) put.begins in
    let known : state_with_dictionary s p ≡ Ok (state_of c.learn.new.known) = subst (λ (bytes : List ℕ). state_by s bytes ≡ Ok (state_of c.learn.new.known)) behind c.in_ok-learn.ensures.known in
    both_accepted (dictionary_block_error p) (unreadable_error (state_with_dictionary s p)) short (ap unreadable_error known)
