use Rattle.ipc_schema.specs.FooterParts.{footer_depends_on_parts}
use Rattle.ipc_schema.proofs.footer.laws.footer_depends_on_its_parts.Goals as goal

pub returns : goal.returns
returns c = footer_depends_on_parts
