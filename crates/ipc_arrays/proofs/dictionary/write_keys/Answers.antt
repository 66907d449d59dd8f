use Rattle.std.proofs.Common.{◌++◌, length, map, sym, ap, subst, ◌∙◌}
use Rattle.std.specs.List.{AllByRecursion}
use Rattle.std.specs.Option.{option_map}
use Rattle.std.proofs.lemmas.List.{length-map}
use Rattle.nest_model.specs.Accessors.{natives_of}
use Rattle.nest_model.specs.Fits.{ValidityFits}
use Rattle.ipc_arrays.specs.DictionaryKeys.{zero_at_nulls}
use Rattle.ipc_arrays.specs.BodyBuffers.{padded}
use Rattle.ipc_arrays.specs.FixedWidth.{values_bytes}
use Rattle.ipc_arrays.specs.FixedWidthLaws.{ValueRoundTrips}
use Rattle.ipc_arrays.specs.Encoding.{normalized_validity_bytes, normalized_keys, key_buffers}
use Rattle.ipc_arrays.proofs.Arrays.{IsOf, on_ok, two_written, keys_buffers, keys_round_trip, keys_fit}
use Rattle.ipc_arrays.proofs.dictionary.write_keys.Goals as goal

pub write_padded-requires-clause-fits : goal.write_padded-requires-clause-fits
write_padded-requires-clause-fits g c =
    let format = g.T.FixedWidth.format in
    let h : IsOf c.args.keys.now g.T.NativeType.PRIMITIVE format = record { parts = c.known.ensures.kind; has = g.met.T.FixedWidth.formed; fits = c.known.ensures.fits } in
    let values = ap length (ap (map g.T.NativeType.numbers) c.as_slice.ensures ∙ c.values.ensures) in
    let long = sym (length-map c.as_slice.result.now g.T.NativeType.numbers) ∙ values in
    subst (ValidityFits (option_map (λ b. b.now) c.validity-validity.result)) (sym long) (subst (λ va. ValidityFits va (length (natives_of c.args.keys.now))) (sym c.validity-validity.ensures) (keys_fit c.args.keys.now g.T.NativeType.PRIMITIVE format h))

pub returns-clause-ok : goal.returns-clause-ok
returns-clause-ok g c =
    let format = g.T.FixedWidth.format in
    let h : IsOf c.args.keys.now g.T.NativeType.PRIMITIVE format = record { parts = c.known.ensures.kind; has = g.met.T.FixedWidth.formed; fits = c.known.ensures.fits } in
    let values = ap (map g.T.NativeType.numbers) c.as_slice.ensures ∙ c.values.ensures in
    on_ok c.write_padded.result c.write_padded.ensures.ok
    (λ e. two_written c.args.out.now.items c.write_validity.new.out.items c.write_padded.new.out.items _ _ (key_buffers (normalized_keys c.args.keys.now)) (keys_buffers c.args.keys.now g.T.NativeType.PRIMITIVE format h)
    (c.in_ok-write_validity.ensures ∙ (λ w. c.args.out.now.items ++ padded (normalized_validity_bytes (c.validity-validity.ensures w))))
    (e ∙ (λ w. c.write_validity.new.out.items ++ padded (values_bytes format (zero_at_nulls (c.validity-validity.ensures w) (values w))))))

pub returns-clause-round_trips : goal.returns-clause-round_trips
returns-clause-round_trips g c =
    let format = g.T.FixedWidth.format in
    let h : IsOf c.args.keys.now g.T.NativeType.PRIMITIVE format = record { parts = c.known.ensures.kind; has = g.met.T.FixedWidth.formed; fits = c.known.ensures.fits } in
    let values = ap (map g.T.NativeType.numbers) c.as_slice.ensures ∙ c.values.ensures in
    on_ok c.write_padded.result c.write_padded.ensures.round_trips
    (λ round_trips. keys_round_trip c.args.keys.now g.T.NativeType.PRIMITIVE format h (subst (AllByRecursion (ValueRoundTrips format)) (λ w. zero_at_nulls (c.validity-validity.ensures w) (values w)) round_trips))
