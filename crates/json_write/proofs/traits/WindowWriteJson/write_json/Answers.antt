use Rattle.std.proofs.Output.{has_written_of_eq}
use Rattle.nest_array.specs.Seen.{layout_of}
use Rattle.json_write.proofs.Nesting.{window-text}
use Rattle.json_write.proofs.traits.WindowWriteJson.write_json.Goals as goal

pub returns : goal.returns
returns g c plain ok =
    has_written_of_eq _ _ _ _ _ (window-text (layout_of c.array.result.now) c.offset.result c.len.result c.args.self.now c.array.ensures c.offset.ensures c.len.ensures c.known.ensures) (c.write_array.ensures plain ok)
