use Rattle.std.proofs.Common.{List, ℕ, ◌++◌, ◌≡◌, ◌∙◌, length, ap, sym, arith}
use Rattle.std.specs.List.{copy_within}
use Rattle.std.specs.Option.{option_map}
use Rattle.cli_write.proofs.UnreadBytes.{moved}
use Rattle.cli_write.proofs.import.buffer.LineBuffer.consume.Goals as goal

pub returns-clause-ahead : goal.returns-clause-ahead
returns-clause-ahead g c =
    let text = c.args.self.now.text.items in
    let n = c.args.n in
    let left = g.R.Read.remaining c.args.self.now.reader in
    let long : c.len.result ≡ length text = omega (arith, c.len.ensures) in
    ap (λ (now : List ℕ). option_map (λ rest. now ++ rest) left) (sym (moved text c.copy_within.new.self.items c.truncate.new.self.items n c.len.result c.requires long (c.copy_within.ensures.items ∙ ap (λ l. copy_within text n l 0) (sym c.len.ensures)) c.truncate.ensures.items))
