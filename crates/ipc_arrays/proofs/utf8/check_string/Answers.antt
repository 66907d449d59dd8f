use Rattle.std.proofs.Common.{◌≡◌, true, false, refl}
use Rattle.std.specs.Str.{is_utf8}
use Rattle.std.proofs.lemmas.Str.{is_utf8-from_IsUtf8}
use Rattle.ipc_arrays.proofs.Packings.{not_utf8}
use Rattle.ipc_arrays.proofs.utf8.check_string.Goals as goal

pub returns-in-Err : goal.returns-in-Err
returns-in-Err c = let no : is_utf8 c.args.bytes.now ≡ false = not_utf8 c.args.bytes.now c.in-Err.ensures.cases.0 in rw no refl

pub returns-in-Ok : goal.returns-in-Ok
returns-in-Ok c = let text : is_utf8 c.args.bytes.now ≡ true = is_utf8-from_IsUtf8 c.args.bytes.now c.in-Ok.ensures.cases.1 in rw text refl
