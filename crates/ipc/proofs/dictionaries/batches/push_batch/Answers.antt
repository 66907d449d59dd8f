use mir.Syntax.{w64}
use mir.Val.{to_z, of_z}
use Rattle.std.proofs.Common.{◌≡◌, true, false, [], ◌∷◌, ◌++◌, map, Option, Some, None, sym, ap, ◌∙◌, arith}
use Rattle.std.proofs.lemmas.Int.{to_z-of_z}
use Rattle.std.proofs.lemmas.List.{append-nil, map-append}
use Rattle.nest_array.specs.Seen.{layout_of}
use Rattle.nest_model.specs.Layout.{Layout}
use Rattle.nest_model.specs.Meaning.{len}
use Rattle.ipc.specs.PendingDictionaries.{entry_at}
use Rattle.ipc.specs.FileDictionaries.{dictionary_batch_of, spec_delta_values, batches_for, spec_is_replaced}
use Rattle.ipc.specs.FileDictionaryLaws.{begun_long}
use Rattle.ipc.specs.EntriesOf.{by_id}
use Rattle.ipc.proofs.Batches.{not_anew, nothing_put, more_put}
use Rattle.ipc.proofs.Emitted.{entry_found}
use Rattle.ipc.proofs.dictionaries.batches.push_batch.Goals as goal

pub delta_values-requires : goal.delta_values-requires
delta_values-requires c =
    let es = c.args.emitted.now.entries in
    let id = c.args.id in
    let d = layout_of c.in-Some.last.now in
    let a = layout_of c.args.values.now in
    let found : entry_at (by_id es) id ≡ Some d = entry_found es (to_z w64 (of_z w64 id)) id (Some c.in-Some.last.now) (to_z-of_z w64 id c.ranges.id) (sym c.in-Some.ensures.value) in
    let known : spec_is_replaced (Some d) a ≡ false = ap (λ (v : Option Layout). spec_is_replaced v a) (sym found) ∙ c.requires in
    omega (arith, c.len-first.ensures, begun_long d a (not_anew d a known))

pub returns-in_ok-push-in-None : goal.returns-in_ok-push-in-None
returns-in_ok-push-in-None c =
    let es = c.args.emitted.now.entries in
    let id = c.args.id in
    let a = layout_of c.args.values.now in
    let old = c.args.puts.now.items in
    let named : to_z w64 (of_z w64 id) ≡ id = to_z-of_z w64 id c.ranges.id in
    let found : entry_at (by_id es) id ≡ None = entry_found es (to_z w64 (of_z w64 id)) id None named (sym c.in-None.ensures.value) in
    ap (map dictionary_batch_of) c.in_ok-push-in-None.ensures.items
    ∙ map-append dictionary_batch_of old _
    ∙ (λ w. map dictionary_batch_of old ++ (false, (named w, c.in_ok-values-in-None.ensures w)) ∷ [])
    ∙ ap (λ (v : Option Layout). map dictionary_batch_of old ++ batches_for v (id, a)) (sym found)

pub returns-in_ok-push-in-Some : goal.returns-in_ok-push-in-Some
returns-in_ok-push-in-Some c =
    let es = c.args.emitted.now.entries in
    let id = c.args.id in
    let d = layout_of c.in-Some.last.now in
    let a = layout_of c.args.values.now in
    let old = c.args.puts.now.items in
    let named : to_z w64 (of_z w64 id) ≡ id = to_z-of_z w64 id c.ranges.id in
    let found : entry_at (by_id es) id ≡ Some d = entry_found es (to_z w64 (of_z w64 id)) id (Some c.in-Some.last.now) named (sym c.in-Some.ensures.value) in
    let cut : layout_of c.in_ok-values-in-Some.values ≡ spec_delta_values a (len d) = c.in_ok-values-in-Some.ensures ∙ ap (spec_delta_values a) c.len-first.ensures in
    ap (map dictionary_batch_of) c.in_ok-push-in-Some.ensures.items
    ∙ map-append dictionary_batch_of old _
    ∙ (λ w. map dictionary_batch_of old ++ (true, (named w, cut w)) ∷ [])
    ∙ sym (ap (λ ps. map dictionary_batch_of old ++ ps) (more_put d (id, a) (λ e. c.if-len-first.true (c.len.ensures ∙ e ∙ sym c.len-first.ensures))))
    ∙ ap (λ (v : Option Layout). map dictionary_batch_of old ++ batches_for v (id, a)) (sym found)

pub returns-else-len-first : goal.returns-else-len-first
returns-else-len-first c =
    let es = c.args.emitted.now.entries in
    let id = c.args.id in
    let d = layout_of c.in-Some.last.now in
    let a = layout_of c.args.values.now in
    let old = c.args.puts.now.items in
    let found : entry_at (by_id es) id ≡ Some d = entry_found es (to_z w64 (of_z w64 id)) id (Some c.in-Some.last.now) (to_z-of_z w64 id c.ranges.id) (sym c.in-Some.ensures.value) in
    let same : len a ≡ len d = sym c.len.ensures ∙ c.if-len-first.false ∙ c.len-first.ensures in
    sym (append-nil (map dictionary_batch_of old))
    ∙ sym (ap (λ ps. map dictionary_batch_of old ++ ps) (nothing_put d (id, a) same))
    ∙ ap (λ (v : Option Layout). map dictionary_batch_of old ++ batches_for v (id, a)) (sym found)
