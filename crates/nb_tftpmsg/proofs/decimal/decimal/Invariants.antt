use Rattle.std.proofs.Common.{◌≡◌, ◌+◌, ◌≤◌, drop}
use Rattle.nb_tftpmsg.proofs.DecimalLemmas.{decimal_after}
use Rattle.nb_tftpmsg.proofs.decimal.decimal.Given as goal

-- The rest gives after the digits so far what the text gives.
pub record Kept (l : goal.Live-loop-byte) : Type 0 where
  pub small : l.value ≤ l.most
  pub same : decimal_after (l.most + 1) l.value (drop l.byte-index l.text) ≡ decimal_after (l.most + 1) 0 l.fn.text

abbrev pub invariant-loop-byte : goal.invariant-loop-byte
invariant-loop-byte l = Kept l
