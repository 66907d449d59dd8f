use Rattle.listcut_rows.proofs.ParsedText.{bytes_spelled}
use Rattle.listcut_rows.proofs.LastLineFeed.{text_read}
use Rattle.listcut_rows.proofs.laws.parsed_bytes_are_the_text.Goals as goal

pub returns : goal.returns
returns c = λ bytes rows. (bytes_spelled bytes rows, λ (fits, spelled). text_read bytes rows fits spelled)
