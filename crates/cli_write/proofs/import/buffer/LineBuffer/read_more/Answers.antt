use Rattle.std.proofs.Common.{inl, inr}
use Rattle.cli_write.proofs.Newlines.{has-more}
use Rattle.cli_write.proofs.import.buffer.LineBuffer.read_more.Goals as goal

pub returns-in_ok-extend_from_slice-in-Ok-clause-newlines : goal.returns-in_ok-extend_from_slice-in-Ok-clause-newlines
returns-in_ok-extend_from_slice-in-Ok-clause-newlines g c = λ h. has-more c.args.self.now.text.items _ _ c.in_ok-extend_from_slice-in-Ok.ensures.items (elim h [ inl n ↦ inl (c.count_newlines.ensures n) | inr f ↦ inr f ])
