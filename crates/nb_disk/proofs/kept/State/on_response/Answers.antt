use Rattle.std.proofs.Common.{◌≤◌, ℕ, subst}
use Rattle.nb_disk.proofs.WorkLemmas.{room-none}
use Rattle.nb_disk.proofs.kept.State.on_response.Goals as goal

pub on_status-requires-clause-room : goal.on_status-requires-clause-room
on_status-requires-clause-room c =
    room-none c.args.self.now.work c.args.self.now.sized.items (subst (λ (n : ℕ). n ≤ 8) c.len-size.ensures.value c.len-size.ensures.fits)
