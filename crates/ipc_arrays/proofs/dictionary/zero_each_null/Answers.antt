use Rattle.std.proofs.Common.{map, arith}
use Rattle.std.specs.Option.{option_map}
use Rattle.std.proofs.lemmas.Grind.{common_steps}
use Rattle.std.proofs.lemmas.List.{length-map}
use Rattle.ipc_arrays.proofs.Keyed.{blank_more, blank_done}
use Rattle.ipc_arrays.proofs.dictionary.zero_each_null.Goals as goal

pub loop-i-preserved : goal.loop-i-preserved
loop-i-preserved g c =
    let numbers = g.T.NativeType.numbers in
    let h = c.loop-i.invariant in
    record {
      room = omega (arith, c.push_reserved.ensures.capacity, h.room);
      so_many = grind (arith, common_steps);
      within = omega (arith, c.loop-i-test.true);
      done = blank_more numbers c.loop-i.keys.items c.push_reserved.new.self.items c.key_of.result (option_map (λ b. b.now) c.args.validity) (map numbers c.args.values.now) c.loop-i.i c.push_reserved.ensures.items c.key_of.ensures h.done;
    }

pub returns-clause-zero : goal.returns-clause-zero
returns-clause-zero g c =
    let numbers = g.T.NativeType.numbers in
    let h = c.loop-i.invariant in
    let long = length-map c.args.values.now numbers in
    blank_done numbers c.loop-i.keys.items (option_map (λ b. b.now) c.args.validity) (map numbers c.args.values.now) c.loop-i.i (omega (arith, long, c.loop-i-test.false, h.within)) h.done
