use Rattle.nest_array.specs.Seen.{layout_of}
use Rattle.nest_array.specs.WindowParts.{window_parts}
use Rattle.nest_array.proofs.Windows.{window-cut}
use Rattle.nest_array.proofs.window.Window.cut.Goals as goal

pub returns-clause-slots : goal.returns-clause-slots
returns-clause-slots c =
    window-cut (window_parts (layout_of c.self.inside.array.now) c.self.inside.offset c.self.inside.count) c.args.self.now c.args.o c.args.n c.self.view_is c.requires
