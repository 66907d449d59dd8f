use Rattle.nest_array.specs.SeenKeys.{keys_layout}
use Rattle.nest_concat.proofs.KeyRuns.{fit-key-more, keys-more}
use Rattle.nest_concat.proofs.keys.push_run.Goals as goal

pub loop-j-preserved : goal.loop-j-preserved
loop-j-preserved g c =
    let ks = keys_layout c.args.keys.now in
    let i = c.loop-j.invariant in
    record {
      gathered = keys-more g.K.NativeType.numbers c.args.before ks c.args.start c.loop-j.j c.args.raw.now.items c.loop-j.raw.items c.push.new.self.items c.in-Some.key c.in_ok-push.ensures.items i.gathered c.in-Some.ensures.key;
      fit = fit-key-more _ c.args.before ks c.args.start c.loop-j.j i.fit c.in-Some.ensures.room;
    }
