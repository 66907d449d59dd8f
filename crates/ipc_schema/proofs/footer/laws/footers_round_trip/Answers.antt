use Rattle.ipc_schema.specs.FooterLaws.{file_end_round_trips}
use Rattle.ipc_schema.proofs.footer.laws.footers_round_trip.Goals as goal

pub returns : goal.returns
returns c = λ f fits small inner inside. file_end_round_trips f inner fits small inside
