use Rattle.std.proofs.Common.{◌≡◌, [], ◌∷◌, ◌++◌, map, get_or, Option, Some, None, Bor, refl, sym, ap, ◌∙◌}
use Rattle.std.specs.Prelude.{pos}
use Rattle.std.specs.Option.{option_map, option_copied}
use Rattle.std.specs.BTreeMap.{is_at}
use Rattle.std.specs.Ordering.{int_cmp}
use Rattle.std.proofs.lemmas.List.{map-append, map_more}
use Rattle.nest_array.specs.Seen.{layout_of}
use Rattle.nest_array.specs.declared.any.AnyArray.{AnyArray}
use Rattle.ipc_arrays.specs.DictionaryKeys.{dictionary_of}
use Rattle.ipc.specs.Streams.{known_of, known_at}
use Rattle.ipc.proofs.Entries.{viewed_found}
use Rattle.ipc.proofs.state.values_of.Goals as goal

clone_entries : (r : Option (Bor AnyArray)) → dictionary_of r ≡ option_map layout_of (option_copied r)
clone_entries None = refl
clone_entries (Some a) = refl

pub loop-id-preserved : goal.loop-id-preserved
loop-id-preserved c =
    let es = c.args.known.now.entries in
    let ids = c.args.ids.now in
    let i = c.loop-id.id-index in
    let one : dictionary_of c.get.result ≡ known_at (known_of es) (get_or ids i (pos 0)) =
    clone_entries c.get.result ∙ ap (λ (v : Option AnyArray). option_map layout_of v) c.get.ensures.value ∙ sym (viewed_found layout_of (is_at (int_cmp (get_or ids i (pos 0)))) es) in
    ap (map dictionary_of) c.push_reserved.ensures.items
    ∙ map-append dictionary_of c.loop-id.values.items (c.get.result ∷ [])
    ∙ (λ w. c.loop-id.invariant w ++ one w ∷ [])
    ∙ sym (map_more (known_at (known_of es)) ids i (pos 0) c.loop-id-test.true)
