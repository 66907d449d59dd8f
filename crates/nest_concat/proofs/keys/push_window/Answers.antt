use Rattle.std.proofs.lemmas.Result.{on_ok_weaker}
use Rattle.nest_concat.proofs.KeyRuns.{fit-window}
use Rattle.nest_concat.proofs.keys.push_window.Goals as goal

pub returns-clause-room : goal.returns-clause-room
returns-clause-room g c =
    let k = c.keys_of_window-keys.ensures in
    on_ok_weaker c.push_run.result (fit-window g.K.DictionaryKey.KEY_TYPE _ c.args.before c.args.window.now _ _ _ k.width k.keys c.offset.ensures c.len.ensures) c.push_run.ensures.room
