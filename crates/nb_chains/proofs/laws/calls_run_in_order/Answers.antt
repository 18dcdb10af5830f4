use Rattle.nb_frames.specs.Frames.{is_one_of}
use Rattle.nb_frames.specs.Within.{IsEventWithin}
use Rattle.nb_chains.specs.Chains.{chain_ids}
use Rattle.nb_chains.proofs.FlatOnce.{runs_above, runs_in_order}
use Rattle.nb_chains.proofs.laws.calls_run_in_order.Goals as goal

pub returns-clause-shaped : goal.returns-clause-shaped
returns-clause-shaped c = λ chain. runs_in_order (IsEventWithin (is_one_of (chain_ids chain)))

pub returns-clause-above : goal.returns-clause-above
returns-clause-above c = λ chain. runs_above (IsEventWithin (is_one_of (chain_ids chain)))

pub returns-clause-among : goal.returns-clause-among
returns-clause-among c = λ ids. runs_above (IsEventWithin (is_one_of ids))
