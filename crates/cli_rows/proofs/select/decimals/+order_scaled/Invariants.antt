use Rattle.cli_rows.proofs.select.decimals.+order_scaled.Given as goal

-- proposed from what the function passes where it calls itself
abbrev pub decreases-order_scaled : goal.decreases-order_scaled
decreases-order_scaled l = l.digits
