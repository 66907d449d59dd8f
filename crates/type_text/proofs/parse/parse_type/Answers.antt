use Rattle.std.proofs.Common.{length, Ok, Err, ap}
use Rattle.nest_memory.specs.TypeOf.{type_of}
use Rattle.type_text.specs.TypeParser.{read_complete_type, located}
use Rattle.type_text.proofs.Results.{refused, representable-parsed, within-refused}
use Rattle.type_text.proofs.Sound.{text-kept}
use Rattle.type_text.proofs.parse.parse_type.Goals as goal

pub returns-in-Ok : goal.returns-in-Ok
returns-in-Ok c =
    let exact = ap (located (length c.args.text.now)) c.in-Ok.ensures in
    record { exact = exact; sound = text-kept c.args.text.now (type_of c.in-Ok.data_type) exact; complete = representable-parsed (Ok c.in-Ok.data_type) c.args.text.now exact; within = tt }

pub returns-in-Err : goal.returns-in-Err
returns-in-Err c =
    let exact = refused (length c.args.text.now) c.in-Err.error c.locate.result (read_complete_type c.args.text.now) c.locate.ensures c.in-Err.ensures in
    record { exact = exact; sound = tt; complete = representable-parsed (Err c.locate.result) c.args.text.now exact; within = within-refused (length c.args.text.now) c.in-Err.error c.locate.result c.locate.ensures }
