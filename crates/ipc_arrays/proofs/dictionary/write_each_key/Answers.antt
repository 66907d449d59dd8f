use Rattle.std.proofs.Common.{◌≡◌, ℕ, ◌+◌, ◌≤◌, List, [], ◌∷◌, ◌++◌, length, map, sym, ap, subst, ◌∙◌, arith}
use Rattle.std.specs.Prelude.{ℤ}
use Rattle.std.specs.List.{AllByRecursion, range_with_len}
use Rattle.std.specs.Option.{option_map}
use Rattle.std.proofs.lemmas.List.{append-nil, length-map}
use Rattle.std.proofs.lemmas.List.FromFn.{map-range_with_len_more}
use Rattle.ipc_arrays.specs.DictionaryKeys.{key_or_zero}
use Rattle.ipc_arrays.specs.DictionaryLaws.{blanked_all}
use Rattle.ipc_arrays.specs.FixedWidth.{values_bytes}
use Rattle.ipc_arrays.specs.FixedWidthLaws.{ValueRoundTrips}
use Rattle.ipc_arrays.proofs.Bodies.{all_push, value_more}
use Rattle.ipc_arrays.proofs.dictionary.write_each_key.Goals as goal

-- the loop ends after every index
all_passed : (n i : ℕ) (vs : List (List ℤ)) → n ≤ i → i ≤ n → length vs ≡ n → i ≡ length vs
all_passed n i vs low high long = omega arith

pub loop-i-init : goal.loop-i-init
unfolding values_bytes
loop-i-init g c = record { written = sym (append-nil c.args.out.now.items); round_trips = tt }

pub loop-i-preserved : goal.loop-i-preserved
loop-i-preserved g c =
    let format = g.T.FixedWidth.format in
    let i = c.loop-i.i in
    let key = key_or_zero (option_map (λ b. b.now) c.args.validity) (map g.T.NativeType.numbers c.args.values.now) in
    let done = map key (range_with_len 0 i) in
    let one = g.T.NativeType.numbers c.key_of.result in
    let more = map-range_with_len_more key 0 i i (omega arith) ∙ ap (λ k. done ++ k ∷ []) (sym c.key_of.ensures) in
    let ok = c.in_ok-put.ensures in
    record {
      written = value_more format c.args.out.now.items c.loop-i.out.items c.put.new.out.items done (map key (range_with_len 0 (i + 1))) one more c.loop-i.invariant.written ok.ok;
      round_trips = subst (AllByRecursion (ValueRoundTrips format)) (sym more) (all_push (ValueRoundTrips format) done one c.loop-i.invariant.round_trips ok.round_trips);
    }

pub returns-clause-ok : goal.returns-clause-ok
returns-clause-ok g c =
    let vs = map g.T.NativeType.numbers c.args.values.now in
    let end = all_passed (length c.args.values.now) c.loop-i.i vs c.loop-i-test.false c.loop-i.auto.i-end (length-map c.args.values.now g.T.NativeType.numbers) in
    subst (λ ks. c.loop-i.out.items ≡ c.args.out.now.items ++ values_bytes g.T.FixedWidth.format ks) (blanked_all (option_map (λ b. b.now) c.args.validity) vs c.loop-i.i end) c.loop-i.invariant.written

pub returns-clause-round_trips : goal.returns-clause-round_trips
returns-clause-round_trips g c =
    let vs = map g.T.NativeType.numbers c.args.values.now in
    let end = all_passed (length c.args.values.now) c.loop-i.i vs c.loop-i-test.false c.loop-i.auto.i-end (length-map c.args.values.now g.T.NativeType.numbers) in
    subst (AllByRecursion (ValueRoundTrips g.T.FixedWidth.format)) (blanked_all (option_map (λ b. b.now) c.args.validity) vs c.loop-i.i end) c.loop-i.invariant.round_trips
